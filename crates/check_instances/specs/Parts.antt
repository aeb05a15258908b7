-- The parts of constants at generic arguments.
use Rattle.std.specs.Prelude.{Option}
use Rattle.types.specs.declared.ty.ComplexMemoryMap.{ComplexMemoryMap}
use Rattle.types.specs.declared.ty.Const.TheFolds.{fold-ComplexMemoryMap, fold-MemoryMap, fold-UnevaluatedConst, fold-ValueConst}
use Rattle.types.specs.declared.ty.GenericArgs.{GenericArgs}
use Rattle.types.specs.declared.ty.MemoryMap.{MemoryMap}
use Rattle.types.specs.declared.ty.UnevaluatedConst.{UnevaluatedConst}
use Rattle.types.specs.declared.ty.ValueConst.{ValueConst}
use Rattle.check_instances.specs.Instances.{Normals, arg_layer, args_layer, bound_layer, complex_layer, const_layer, map_layer, ty_layer, unevaluated_layer, value_layer}

-- a constant's value
unfoldable pub value_instance : Normals → GenericArgs → ValueConst → Option ValueConst
value_instance normals args = fold-ValueConst _ _ _ _ _ _ _ _ _ (const_layer args) arg_layer map_layer (ty_layer normals args) complex_layer args_layer bound_layer unevaluated_layer value_layer

-- a constant by its name
unfoldable pub unevaluated_instance : Normals → GenericArgs → UnevaluatedConst → Option UnevaluatedConst
unevaluated_instance normals args = fold-UnevaluatedConst _ _ _ _ _ _ _ _ _ (const_layer args) arg_layer map_layer (ty_layer normals args) complex_layer args_layer bound_layer unevaluated_layer value_layer

-- the memory that a constant refers to
unfoldable pub map_instance : Normals → GenericArgs → MemoryMap → Option MemoryMap
map_instance normals args = fold-MemoryMap _ _ _ _ _ _ _ _ _ (const_layer args) arg_layer map_layer (ty_layer normals args) complex_layer args_layer bound_layer unevaluated_layer value_layer

-- bytes at several addresses, with the types of vtable ids
unfoldable pub complex_instance : Normals → GenericArgs → ComplexMemoryMap → Option ComplexMemoryMap
complex_instance normals args = fold-ComplexMemoryMap _ _ _ _ _ _ _ _ _ (const_layer args) arg_layer map_layer (ty_layer normals args) complex_layer args_layer bound_layer unevaluated_layer value_layer
