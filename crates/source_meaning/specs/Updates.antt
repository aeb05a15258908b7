-- Struct literals with a base: which operand gives each field of the struct.
use Rattle.std.specs.Prelude.{List, [], ◌∷◌, Option, Some, slice_get, option_map, option_and_then}
use Rattle.source_meaning.specs.Core.{FieldOf}
use Rattle.source_meaning.specs.Source.{Operand, At, Place, projected}
use Rattle.source_meaning.specs.Structs.{FieldSource, Written, OfBase}

-- the operand that gives a field: what is written for it, or else what the field is of the base, which is read when the struct is made
abbrev pub field_operand : (base : Place) → (given : List Operand) → FieldSource → Option Operand
field_operand base given (Written place) = slice_get given place
field_operand base given (OfBase field) = Some (At (projected (FieldOf field) base))

-- the operands that give the fields of a struct, in their order
unfoldable pub field_operands : (base : Place) → (given : List Operand) → List FieldSource → Option (List Operand)
field_operands base given [] = Some []
field_operands base given (source ∷ sources) =
    option_and_then (λ first. option_map (λ others. first ∷ others) (field_operands base given sources)) (field_operand base given source)
