-- The readers of types and constants are the fixed points of their layers.
use Rattle.std.proofs.Common.{◌≡◌, ℕ, zero, suc, ◌≤◌, [], Result, refl, codes, arith}
use Rattle.serde_json.specs.Data.{Data, depth}
use Rattle.types.specs.declared.ty.Const.TheVariants as the_const
use Rattle.types.specs.declared.ty.Const.{Const}
use Rattle.types.specs.declared.ty.GenericArg.TheVariants as the_generic_arg
use Rattle.types.specs.declared.ty.MemoryMap.TheVariants as the_memory_map
use Rattle.types.specs.declared.ty.Ty.TheVariants as the_ty
use Rattle.types.specs.declared.ty.Ty.{Ty}
use Rattle.json_kit.specs.declared.misfit.NotAWorld.{NotAWorld}
use Rattle.json_kit.specs.Fit.{Fit, Gives}
use Rattle.json_kit.specs.Hex.{bytes_of}
use Rattle.json_types.specs.Ids.{adt_id_of, alias_id_of, callable_def_id_of, interned_closure_id_of}
use Rattle.json_types.specs.Kinds.{mutability_of}
use Rattle.json_types.specs.Types.{generic_arg_by, generic_args_by, trait_ref_by, bare_ty_of, plain_ty_of, pointing_ty_of, item_ty_of, listing_ty_of, ty_by, complex_memory_map_by, memory_map_by, value_const_by, unevaluated_const_by, const_by, Readers, readers_below, ty_of, const_of}
use Rattle.json_kit.specs.Variants.{payload, unit}
use Rattle.json_types.proofs.Alike.{Alike, RowAlike, same, weaker, list_alike, pair_alike, required_at, optional_at, payload_alike, same_row, or_alike, enum_alike}

module _ {k : ℕ} {ty other_ty : Data → Fit Ty} {konst other_konst : Data → Fit Const} (types : Alike k ty other_ty) (consts : Alike k konst other_konst) where
  generic_arg : Alike k (generic_arg_by ty konst) (generic_arg_by other_ty other_konst)
  unfolding generic_arg_by
  generic_arg = weaker (enum_alike (or_alike (payload_alike (codes "Ty") the_generic_arg.Ty types) (or_alike (payload_alike (codes "Konst") the_generic_arg.Konst consts) (same_row k _))))

  generic_args : Alike k (generic_args_by ty konst) (generic_args_by other_ty other_konst)
  unfolding generic_args_by
  generic_args = record { at = λ d h. rw ((list_alike generic_arg).at d h) refl }

  trait_ref : Alike k (trait_ref_by ty konst) (trait_ref_by other_ty other_konst)
  unfolding trait_ref_by
  trait_ref = record { at = λ d h. rw (optional_at generic_args (record { 0 = [] }) (codes "args") d (omega arith)) refl }

  pointing : RowAlike k (pointing_ty_of ty konst) (pointing_ty_of other_ty other_konst)
  unfolding pointing_ty_of
  pointing = or_alike (payload_alike (codes "Array") (λ both. the_ty.Array both.0 both.1) (pair_alike types consts)) (or_alike (payload_alike (codes "Slice") the_ty.Slice types) (or_alike (payload_alike (codes "Ref") (λ both. the_ty.Ref both.0 both.1) (pair_alike types (same k mutability_of))) (or_alike (payload_alike (codes "RawPtr") (λ both. the_ty.RawPtr both.0 both.1) (pair_alike types (same k mutability_of))) (same_row k _))))

  with_args : RowAlike k (item_ty_of ty konst) (item_ty_of other_ty other_konst)
  unfolding item_ty_of
  with_args = or_alike (payload_alike (codes "Adt") (λ both. the_ty.Adt both.0 both.1) (pair_alike (same k adt_id_of) generic_args)) (or_alike (payload_alike (codes "FnDef") (λ both. the_ty.FnDef both.0 both.1) (pair_alike (same k callable_def_id_of) generic_args)) (or_alike (payload_alike (codes "Closure") (λ both. the_ty.Closure both.0 both.1) (pair_alike (same k interned_closure_id_of) generic_args)) (or_alike (payload_alike (codes "Alias") (λ both. the_ty.Alias both.0 both.1) (pair_alike (same k alias_id_of) generic_args)) (same_row k _))))

  listing : RowAlike k (listing_ty_of ty konst) (listing_ty_of other_ty other_konst)
  unfolding listing_ty_of
  listing = or_alike (payload_alike (codes "Tuple") the_ty.Tuple (list_alike types)) (or_alike (payload_alike (codes "FnPtr") (λ both. the_ty.FnPtr both.0 both.1) (pair_alike (list_alike types) types)) (or_alike (payload_alike (codes "Dynamic") the_ty.Dynamic (list_alike trait_ref)) (same_row k _)))

  pub tys_above : Alike (suc k) (ty_by ty konst) (ty_by other_ty other_konst)
  unfolding ty_by
  tys_above = enum_alike (or_alike (same_row k bare_ty_of) (or_alike (same_row k plain_ty_of) (or_alike pointing (or_alike with_args (or_alike listing (same_row k _))))))

  complex_memory_map : Alike k (complex_memory_map_by ty konst) (complex_memory_map_by other_ty other_konst)
  unfolding complex_memory_map_by
  complex_memory_map = record { at = λ d h. rw (optional_at (list_alike types) [] (codes "vtable") d (omega arith)) refl }

  memory_map : Alike k (memory_map_by ty konst) (memory_map_by other_ty other_konst)
  unfolding memory_map_by
  memory_map = weaker (enum_alike (or_alike (same_row k (unit (codes "Empty") the_memory_map.Empty)) (or_alike (same_row k (payload (codes "Simple") bytes_of the_memory_map.Simple)) (or_alike (payload_alike (codes "Complex") the_memory_map.Complex complex_memory_map) (same_row k _)))))

  value_const : Alike k (value_const_by ty konst) (value_const_by other_ty other_konst)
  unfolding value_const_by
  value_const = record { at = λ d h. rw (required_at types (codes "ty") d (omega arith), required_at memory_map (codes "memory_map") d (omega arith)) refl }

  unevaluated_const : Alike k (unevaluated_const_by ty konst) (unevaluated_const_by other_ty other_konst)
  unfolding unevaluated_const_by
  unevaluated_const = record { at = λ d h. rw (optional_at generic_args (record { 0 = [] }) (codes "args") d (omega arith)) refl }

  pub consts_above : Alike (suc k) (const_by ty konst) (const_by other_ty other_konst)
  unfolding const_by
  consts_above = enum_alike (or_alike (payload_alike (codes "Value") the_const.Value value_const) (or_alike (same_row k _) (or_alike (payload_alike (codes "Unevaluated") the_const.Unevaluated unevaluated_const) (same_row k _))))

record BothAlike (k : ℕ) (L M : Readers) : Type 0 where
  types : Alike k L.ty M.ty
  consts : Alike k L.konst M.konst

-- readers for different numbers of levels agree on the trees that both can read
agree : (k n m : ℕ) → k ≤ n → k ≤ m → BothAlike k (readers_below n) (readers_below m)
unfolding readers_below
agree zero n m in_n in_m = record { types = record { at = λ d h. absurd (omega arith) }; consts = record { at = λ d h. absurd (omega arith) } }
agree (suc k) zero m in_n in_m = absurd (omega arith)
agree (suc k) (suc n) zero in_n in_m = absurd (omega arith)
agree (suc k) (suc n) (suc m) in_n in_m =
    let inner = agree k n m (omega arith) (omega arith) in
    record { types = tys_above inner.types inner.consts; consts = consts_above inner.types inner.consts }

-- a reader for at least as many levels as the tree has is the reader of all
tys_below : (k : ℕ) → Alike k (readers_below k).ty ty_of
unfolding ty_of
tys_below k = record { at = λ d h. (agree (suc (depth d)) k (suc (depth d)) (omega arith) (omega arith)).types.at d (omega arith) }

consts_below : (k : ℕ) → Alike k (readers_below k).konst const_of
unfolding const_of
consts_below k = record { at = λ d h. (agree (suc (depth d)) k (suc (depth d)) (omega arith) (omega arith)).consts.at d (omega arith) }

pub ty_of_unrolled : (d : Data) → ty_of d ≡ ty_by ty_of const_of d
unfolding ty_of readers_below
ty_of_unrolled d = (tys_above (tys_below (depth d)) (consts_below (depth d))).at d (omega arith)

pub const_of_unrolled : (d : Data) → const_of d ≡ const_by ty_of const_of d
unfolding const_of readers_below
const_of_unrolled d = (consts_above (tys_below (depth d)) (consts_below (depth d))).at d (omega arith)

-- the result of a layer is that of the reader
pub gives_ty : (r : Result Ty NotAWorld) (d : Data) → Gives r (ty_by ty_of const_of d) → Gives r (ty_of d)
gives_ty r d h = rw (ty_of_unrolled d) h

pub gives_const : (r : Result Const NotAWorld) (d : Data) → Gives r (const_by ty_of const_of d) → Gives r (const_of d)
gives_const r d h = rw (const_of_unrolled d) h
