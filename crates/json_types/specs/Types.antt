-- Readers of types, generic arguments and constants, which are defined by one another.
use Rattle.std.specs.Prelude.{ℕ, zero, suc, [], ◌∷◌, Option, Ok, codes}
use Rattle.std.specs.Ordering.{nat_cmp}
use Rattle.serde_json.specs.Data.{Data, depth}
use Rattle.types.specs.declared.ty.ComplexMemoryMap.{ComplexMemoryMap}
use Rattle.types.specs.declared.ty.Const.TheVariants as the_const
use Rattle.types.specs.declared.ty.Const.{Const}
use Rattle.types.specs.declared.ty.GenericArg.TheVariants as the_generic_arg
use Rattle.types.specs.declared.ty.GenericArg.{GenericArg}
use Rattle.types.specs.declared.ty.GenericArgs.{GenericArgs}
use Rattle.types.specs.declared.ty.MemoryMap.TheVariants as the_memory_map
use Rattle.types.specs.declared.ty.MemoryMap.{MemoryMap}
use Rattle.types.specs.declared.ty.TraitRef.{TraitRef}
use Rattle.types.specs.declared.ty.Ty.TheVariants as the_ty
use Rattle.types.specs.declared.ty.Ty.{Ty}
use Rattle.types.specs.declared.ty.UnevaluatedConst.{UnevaluatedConst}
use Rattle.types.specs.declared.ty.ValueConst.{ValueConst}
use Rattle.json_kit.specs.Fit.{Fit, misfit, ◌>>=◌}
use Rattle.json_kit.specs.Hex.{bytes_of}
use Rattle.json_types.specs.Ids.{adt_id_of, alias_id_of, callable_def_id_of, general_const_id_of, interned_closure_id_of, trait_id_of}
use Rattle.json_kit.specs.Keys.{members_of, required, optional, with_no_other}
use Rattle.json_types.specs.Kinds.{float_ty_of, int_ty_of, mutability_of, param_const_of, param_ty_of, uint_ty_of}
use Rattle.json_kit.specs.Maps.{map_of}
use Rattle.json_kit.specs.Parts.{list_of, pair_of}
use Rattle.json_kit.specs.Scalars.{u64_of}
use Rattle.json_kit.specs.Variants.{Named, enum_of, first_of, payload, unit}

-- types without parts
unfoldable pub bare_ty_of : Named → Fit (Option Ty)
bare_ty_of = first_of (unit (codes "Bool") the_ty.Bool ∷ unit (codes "Char") the_ty.Char ∷ unit (codes "Str") the_ty.Str ∷ unit (codes "Never") the_ty.Never ∷ unit (codes "Error") the_ty.Error ∷ [])

-- integer and float types, and type parameters
unfoldable pub plain_ty_of : Named → Fit (Option Ty)
plain_ty_of = first_of (payload (codes "Int") int_ty_of the_ty.Int ∷ payload (codes "Uint") uint_ty_of the_ty.Uint ∷ payload (codes "Float") float_ty_of the_ty.Float ∷ payload (codes "Param") param_ty_of the_ty.Param ∷ [])

-- The readers below take readers for the types and constants inside a tree.
module _ (ty : Data → Fit Ty) (konst : Data → Fit Const) where
  unfoldable pub generic_arg_by : Data → Fit GenericArg
  generic_arg_by = enum_of (payload (codes "Ty") ty the_generic_arg.Ty ∷ payload (codes "Konst") konst the_generic_arg.Konst ∷ [])

  unfoldable pub generic_args_by : Data → Fit GenericArgs
  generic_args_by d = list_of generic_arg_by d >>= λ args. Ok (record { 0 = args })

  unfoldable pub trait_ref_by : Data → Fit TraitRef
  trait_ref_by d = do
    ms ← members_of d
    def ← required (codes "def") trait_id_of d
    args ← optional (record { 0 = [] }) (codes "args") generic_args_by d
    with_no_other (codes "def" ∷ codes "args" ∷ []) ms (record { def = def; args = args })

  -- array, slice, reference and raw pointer types
  unfoldable pub pointing_ty_of : Named → Fit (Option Ty)
  pointing_ty_of = first_of (payload (codes "Array") (pair_of ty konst) (λ both. the_ty.Array both.0 both.1) ∷ payload (codes "Slice") ty the_ty.Slice ∷ payload (codes "Ref") (pair_of ty mutability_of) (λ both. the_ty.Ref both.0 both.1) ∷ payload (codes "RawPtr") (pair_of ty mutability_of) (λ both. the_ty.RawPtr both.0 both.1) ∷ [])

  -- types that are items with generic arguments
  unfoldable pub item_ty_of : Named → Fit (Option Ty)
  item_ty_of = first_of (payload (codes "Adt") (pair_of adt_id_of generic_args_by) (λ both. the_ty.Adt both.0 both.1) ∷ payload (codes "FnDef") (pair_of callable_def_id_of generic_args_by) (λ both. the_ty.FnDef both.0 both.1) ∷ payload (codes "Closure") (pair_of interned_closure_id_of generic_args_by) (λ both. the_ty.Closure both.0 both.1) ∷ payload (codes "Alias") (pair_of alias_id_of generic_args_by) (λ both. the_ty.Alias both.0 both.1) ∷ [])

  -- tuple, function pointer and trait object types
  unfoldable pub listing_ty_of : Named → Fit (Option Ty)
  listing_ty_of = first_of (payload (codes "Tuple") (list_of ty) the_ty.Tuple ∷ payload (codes "FnPtr") (pair_of (list_of ty) ty) (λ both. the_ty.FnPtr both.0 both.1) ∷ payload (codes "Dynamic") (list_of trait_ref_by) the_ty.Dynamic ∷ [])

  unfoldable pub ty_by : Data → Fit Ty
  ty_by = enum_of (bare_ty_of ∷ plain_ty_of ∷ pointing_ty_of ∷ item_ty_of ∷ listing_ty_of ∷ [])

  unfoldable pub complex_memory_map_by : Data → Fit ComplexMemoryMap
  complex_memory_map_by d = do
    ms ← members_of d
    memory ← optional [] (codes "memory") (map_of nat_cmp (pair_of u64_of bytes_of)) d
    vtable ← optional [] (codes "vtable") (list_of ty) d
    with_no_other (codes "memory" ∷ codes "vtable" ∷ []) ms (record { memory = memory; vtable = vtable })

  unfoldable pub memory_map_by : Data → Fit MemoryMap
  memory_map_by = enum_of (unit (codes "Empty") the_memory_map.Empty ∷ payload (codes "Simple") bytes_of the_memory_map.Simple ∷ payload (codes "Complex") complex_memory_map_by the_memory_map.Complex ∷ [])

  unfoldable pub value_const_by : Data → Fit ValueConst
  value_const_by d = do
    ms ← members_of d
    its_ty ← required (codes "ty") ty d
    memory ← required (codes "memory") bytes_of d
    memory_map ← required (codes "memory_map") memory_map_by d
    with_no_other (codes "ty" ∷ codes "memory" ∷ codes "memory_map" ∷ []) ms (record { ty = its_ty; memory = memory; memory_map = memory_map })

  unfoldable pub unevaluated_const_by : Data → Fit UnevaluatedConst
  unevaluated_const_by d = do
    ms ← members_of d
    def ← required (codes "def") general_const_id_of d
    args ← optional (record { 0 = [] }) (codes "args") generic_args_by d
    with_no_other (codes "def" ∷ codes "args" ∷ []) ms (record { def = def; args = args })

  unfoldable pub const_by : Data → Fit Const
  const_by = enum_of (payload (codes "Value") value_const_by the_const.Value ∷ payload (codes "Param") param_const_of the_const.Param ∷ payload (codes "Unevaluated") unevaluated_const_by the_const.Unevaluated ∷ unit (codes "Error") the_const.Error ∷ [])

-- a reader of types, and one of constants
pub record Readers : Type 0 where
  pub ty : Data → Fit Ty
  pub konst : Data → Fit Const

-- readers of trees with fewer than this many levels
unfoldable pub readers_below : ℕ → Readers
readers_below zero = record { ty = λ _. misfit; konst = λ _. misfit }
readers_below (suc n) = let inner = readers_below n in record { ty = ty_by inner.ty inner.konst; konst = const_by inner.ty inner.konst }

-- the reader of all types: it reads a tree by readers for fewer levels than the tree has
unfoldable pub ty_of : Data → Fit Ty
ty_of d = (readers_below (suc (depth d))).ty d

unfoldable pub const_of : Data → Fit Const
const_of d = (readers_below (suc (depth d))).konst d

abbrev pub generic_args_of : Data → Fit GenericArgs
generic_args_of = generic_args_by ty_of const_of

abbrev pub trait_ref_of : Data → Fit TraitRef
trait_ref_of = trait_ref_by ty_of const_of
