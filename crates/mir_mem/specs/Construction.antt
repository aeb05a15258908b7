-- Values that are made of parts: zeros, a tag, and fields.
use Rattle.std.specs.Prelude.{ℕ, List, ◌++◌, replicate, Option, Some, None, Result, Ok, Err, ℤ, codes, decimal}
use Rattle.std.specs.Fmt.{signed_decimal}
use Rattle.numbers.specs.Aggregates.{with_part}
use Rattle.numbers.specs.Bytes.{low_bytes}
use Rattle.mir.specs.declared.errors.MirEvalError.{MirEvalError}
use Rattle.mir.specs.declared.errors.MirEvalError as error
use Rattle.mir.specs.Run.{part_outside, placed_parts}
use Rattle.mir_mem.specs.declared.construction.TagBytes.{TagBytes}
use Rattle.mir_mem.specs.declared.construction.VariantShape.{VariantShape}

-- how an error names the place of a tag
abbrev pub tag_place : (offset size : ℕ) → List ℕ
tag_place offset size = codes "encoded tag (" ++ (decimal offset ++ (codes ", " ++ decimal size))

-- a tag that doesn't end inside the value that it is to be a part of
abbrev pub tag_outside : (offset size : ℕ) (value : ℤ) → MirEvalError
tag_outside offset size value =
    error.InternalError (tag_place offset size ++ (codes ", " ++ (signed_decimal value ++ (codes ") is out of bounds 0.." ++ decimal size))))

-- bytes in which a tag stands at its offset, where there is one
unfoldable pub with_tag : Option TagBytes → List ℕ → Result (List ℕ) MirEvalError
with_tag (Some tag) bytes =
    elim (with_part tag.offset (low_bytes tag.size tag.value) bytes) [
      | Some next ↦ Ok next
      | None ↦ Err (tag_outside tag.offset tag.size tag.value)
    ]
with_tag None bytes = Ok bytes

-- bytes with values at the offsets of a shape, in order
abbrev pub with_values : VariantShape → List (List ℕ) → Result (List ℕ) MirEvalError → Result (List ℕ) MirEvalError
with_values shape values (Ok bytes) = placed_parts shape.size shape.offsets values bytes
with_values shape values (Err e) = Err e

-- a value of a shape: zero where neither the tag nor one of the values stands, and each value over what stood there before it
unfoldable pub constructed : VariantShape → (values : List (List ℕ)) → Result (List ℕ) MirEvalError
constructed shape values = with_values shape values (with_tag shape.tag (replicate shape.size 0))

-- a part put at its offset into a value of a size, or why it can't be
unfoldable pub placed_at : (size : ℕ) → (offset : Option ℕ) → (part : List ℕ) → List ℕ → Result (List ℕ) MirEvalError
placed_at size (Some offset) part bytes =
    elim (with_part offset part bytes) [ Some next ↦ Ok next | None ↦ Err (part_outside size offset) ]
placed_at size None part bytes = Err (error.InternalError (codes "field without offset"))
