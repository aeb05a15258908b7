-- Which operand each field of a struct literal's struct is given.
use Rattle.std.specs.Prelude.{List, [], ◌∷◌, Option, Some, slice_get, option_map, option_and_then}
use Rattle.world.specs.declared.expr.RecordLitField.{RecordLitField}
use Rattle.world.specs.declared.items.FieldRow.{FieldRow}
use Rattle.mir.specs.declared.operand.Operand.{Operand}
use Rattle.source_meaning.specs.Structs.{place_named}

-- the operands of written fields, in the order of the fields of the struct, where each is written and has an operand
unfoldable pub arranged : List FieldRow → List RecordLitField → List Operand → Option (List Operand)
arranged [] written operands = Some []
arranged (field ∷ fields) written operands =
    option_and_then (λ operand. option_map (λ others. operand ∷ others) (arranged fields written operands))
    (option_and_then (slice_get operands) (place_named field.name written))
