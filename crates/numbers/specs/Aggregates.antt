-- The bytes of values that have parts, by the bytes of the parts.
use Rattle.std.specs.Prelude.{ℕ, zero, suc, ◌+◌, nat_le, if◌then◌else◌, List, [], ◌∷◌, ◌++◌, length, take, drop, replicate, Option, Some, None, option_and_then}

-- bytes in which others stand from an offset on, where these end inside
unfoldable pub with_part : (offset : ℕ) → (part : List ℕ) → List ℕ → Option (List ℕ)
with_part offset part bytes =
    if nat_le (offset + length part) (length bytes)
    then Some (take offset bytes ++ (part ++ drop (offset + length part) bytes))
    else None

-- bytes in which each part stands at its offset, put there in order, where each has an offset and ends inside
unfoldable pub with_parts : (offsets : List ℕ) → (parts : List (List ℕ)) → List ℕ → Option (List ℕ)
with_parts offsets [] bytes = Some bytes
with_parts (offset ∷ offsets) (part ∷ parts) bytes = option_and_then (with_parts offsets parts) (with_part offset part bytes)
with_parts [] (part ∷ parts) bytes = None

-- a value of a size with parts at their offsets; it is zero where no part stands
unfoldable pub constructed : (size : ℕ) → (offsets : List ℕ) → (parts : List (List ℕ)) → Option (List ℕ)
constructed size offsets parts = with_parts offsets parts (replicate size 0)

-- a value again and again, one behind another
unfoldable pub repeated : (count : ℕ) → List ℕ → List ℕ
repeated zero bytes = []
repeated (suc count) bytes = bytes ++ repeated count bytes
