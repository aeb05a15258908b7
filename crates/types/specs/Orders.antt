-- The comparisons of types, generic arguments and constants, as `==` and `cmp` say.
use Rattle.std.specs.Prelude.{Bool}
use Rattle.std.specs.Cmp.{IsTotalOrder}
use Rattle.std.specs.declared.cmp.Ordering.{Ordering}
use Rattle.types.specs.contracts.ty.ComplexMemoryMapPartialEq.TheImpl as ComplexMemoryMapPartialEq
use Rattle.types.specs.contracts.ty.ConstPartialEq.TheImpl as ConstPartialEq
use Rattle.types.specs.contracts.ty.GenericArgPartialEq.TheImpl as GenericArgPartialEq
use Rattle.types.specs.contracts.ty.GenericArgsOrd.TheImpl as GenericArgsOrd
use Rattle.types.specs.contracts.ty.GenericArgsOrd.TheImpl.Laws as ordered
use Rattle.types.specs.contracts.ty.GenericArgsPartialEq.TheImpl as GenericArgsPartialEq
use Rattle.types.specs.contracts.ty.MemoryMapPartialEq.TheImpl as MemoryMapPartialEq
use Rattle.types.specs.contracts.ty.TraitRefPartialEq.TheImpl as TraitRefPartialEq
use Rattle.types.specs.contracts.ty.TyOrd.TheImpl as TyOrd
use Rattle.types.specs.contracts.ty.TyPartialEq.TheImpl as TyPartialEq
use Rattle.types.specs.contracts.ty.UnevaluatedConstPartialEq.TheImpl as UnevaluatedConstPartialEq
use Rattle.types.specs.contracts.ty.ValueConstPartialEq.TheImpl as ValueConstPartialEq
use Rattle.types.specs.declared.ty.ComplexMemoryMap.{ComplexMemoryMap}
use Rattle.types.specs.declared.ty.Const.{Const}
use Rattle.types.specs.declared.ty.GenericArg.{GenericArg}
use Rattle.types.specs.declared.ty.GenericArgs.{GenericArgs}
use Rattle.types.specs.declared.ty.MemoryMap.{MemoryMap}
use Rattle.types.specs.declared.ty.TraitRef.{TraitRef}
use Rattle.types.specs.declared.ty.Ty.{Ty}
use Rattle.types.specs.declared.ty.UnevaluatedConst.{UnevaluatedConst}
use Rattle.types.specs.declared.ty.ValueConst.{ValueConst}

-- whether two types are equal
abbrev pub ty_eq : Ty → Ty → Bool
ty_eq = TyPartialEq.ghosts.eq

-- the order of types
abbrev pub ty_cmp : Ty → Ty → Ordering
ty_cmp = TyOrd.ghosts.cmp

abbrev pub bound_eq : TraitRef → TraitRef → Bool
bound_eq = TraitRefPartialEq.ghosts.eq

abbrev pub arg_eq : GenericArg → GenericArg → Bool
arg_eq = GenericArgPartialEq.ghosts.eq

abbrev pub args_eq : GenericArgs → GenericArgs → Bool
args_eq = GenericArgsPartialEq.ghosts.eq

-- the order of generic arguments
abbrev pub args_cmp : GenericArgs → GenericArgs → Ordering
args_cmp = GenericArgsOrd.ghosts.cmp

pub args_total : IsTotalOrder args_cmp
args_total = ordered.total-law

abbrev pub const_eq : Const → Const → Bool
const_eq = ConstPartialEq.ghosts.eq

abbrev pub value_eq : ValueConst → ValueConst → Bool
value_eq = ValueConstPartialEq.ghosts.eq

abbrev pub unevaluated_eq : UnevaluatedConst → UnevaluatedConst → Bool
unevaluated_eq = UnevaluatedConstPartialEq.ghosts.eq

abbrev pub memory_map_eq : MemoryMap → MemoryMap → Bool
memory_map_eq = MemoryMapPartialEq.ghosts.eq

abbrev pub complex_eq : ComplexMemoryMap → ComplexMemoryMap → Bool
complex_eq = ComplexMemoryMapPartialEq.ghosts.eq
