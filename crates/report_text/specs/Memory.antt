-- The lines of the report for the memory behind the addresses in a constant's value.
use Rattle.std.specs.Prelude.{ℕ, ◌+◌, List, [], ◌∷◌, ◌++◌, codes, decimal}
use Rattle.std.specs.List.{flat_map}
use Rattle.types.specs.declared.ty.ComplexMemoryMap.{ComplexMemoryMap}
use Rattle.types.specs.declared.ty.Const.{Const}
use Rattle.types.specs.declared.ty.Const.TheOpen as one
use Rattle.types.specs.declared.ty.GenericArg.{GenericArg}
use Rattle.types.specs.declared.ty.GenericArgs.{GenericArgs}
use Rattle.types.specs.declared.ty.MemoryMap.{MemoryMap, MemoryMap-F, out-MemoryMap}
use Rattle.types.specs.declared.ty.TraitRef.{TraitRef}
use Rattle.types.specs.declared.ty.Ty.{Ty}
use Rattle.types.specs.declared.ty.UnevaluatedConst.{UnevaluatedConst}
use Rattle.types.specs.declared.ty.ValueConst.{ValueConst}
use Rattle.world.specs.declared.database.HirDatabase.{HirDatabase}
use Rattle.report_text.specs.Texts.{digits_or_dash}
use Rattle.report_text.specs.Types.{type_text}

-- the line for the bytes at an address, which is in decimal digits
abbrev pub entry_line : ℕ × List ℕ → List ℕ
entry_line entry = codes "  at " ++ (decimal entry.0 ++ (codes " " ++ (digits_or_dash entry.1 ++ codes "\n")))

-- the line for a vtable id, which stands for the type of a trait object's value
abbrev pub table_line : HirDatabase → ℕ → Ty → List ℕ
table_line world id ty = codes "  table " ++ (decimal id ++ (codes " " ++ (type_text world ty ++ codes "\n")))

-- the lines for types whose vtable ids follow one another, from the id of the first
abbrev pub table_lines : HirDatabase → ℕ → List Ty → List ℕ
table_lines world id [] = []
table_lines world id (ty ∷ tys) = table_line world id ty ++ table_lines world (id + 1) tys

-- the vtable id of the first type that a constant's value has one for; the ids of the others follow it
abbrev pub first_table_id : ℕ
first_table_id = 1000

-- The lines for the memory behind the addresses in a value, by the outermost constructor of its map: the bytes by rising address, and
-- then the vtable ids. Bytes without an address are at address 0.
abbrev pub memory_layer_lines : HirDatabase → MemoryMap-F Const GenericArg MemoryMap Ty ComplexMemoryMap GenericArgs TraitRef UnevaluatedConst ValueConst → List ℕ
memory_layer_lines world one.Empty = []
memory_layer_lines world (one.Simple bytes) = entry_line (0, bytes)
memory_layer_lines world (one.Complex map) = flat_map entry_line map.memory ++ table_lines world first_table_id map.vtable

-- the lines for the memory behind the addresses in a value
abbrev pub memory_lines : HirDatabase → MemoryMap → List ℕ
memory_lines world map = memory_layer_lines world (out-MemoryMap map)
