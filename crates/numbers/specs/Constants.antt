-- The numbers that constants are.
use Rattle.std.specs.Prelude.{ℕ, nat_le, if◌then◌else◌, List, length, Option, Some, None}
use Rattle.types.specs.declared.ty.ComplexMemoryMap.{ComplexMemoryMap}
use Rattle.types.specs.declared.ty.Const.{Const, Const-F, out-Const}
use Rattle.types.specs.declared.ty.Const.TheOpen as layer
use Rattle.types.specs.declared.ty.GenericArg.{GenericArg}
use Rattle.types.specs.declared.ty.GenericArgs.{GenericArgs}
use Rattle.types.specs.declared.ty.MemoryMap.{MemoryMap}
use Rattle.types.specs.declared.ty.TraitRef.{TraitRef}
use Rattle.types.specs.declared.ty.Ty.{Ty}
use Rattle.types.specs.declared.ty.UnevaluatedConst.{UnevaluatedConst}
use Rattle.types.specs.declared.ty.ValueConst.{ValueConst}
use Rattle.numbers.specs.Bytes.{value_of}

-- a constant's variant
abbrev ConstLayer : Type 0
ConstLayer = Const-F Const GenericArg MemoryMap Ty ComplexMemoryMap GenericArgs TraitRef UnevaluatedConst ValueConst

-- the unsigned number that bytes are, where there are at most 16
abbrev pub number_of_bytes : List ℕ → Option ℕ
number_of_bytes bytes = if nat_le (length bytes) 16 then Some (value_of bytes) else None

-- the unsigned number that a constant's value is, where it has at most 16 bytes; a constant that isn't evaluated has none
abbrev pub number_in : Const → Option ℕ
number_in konst = number (out-Const konst)
  where
    number : ConstLayer → Option ℕ
    number (layer.Value value) = number_of_bytes value.memory
    number _ = None
