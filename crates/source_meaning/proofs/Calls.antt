-- Which sources calls enter, and from which stores.
use Rattle.std.proofs.Common.{◌≡◌, ℕ, zero, suc, ◌<◌, ◌+◌, List, [], ◌∷◌, length, if◌then◌else◌, Option, Some, None, slice_get, option_map, option_and_then, refl, sym, ap, ◌∙◌, subst, arith, eq-eqb}
use Rattle.types.specs.declared.ids.CallableDefId.TheVariants.{FunctionId as CalledFunction}
use Rattle.types.specs.declared.ids.DefWithBodyId.TheVariants.{FunctionId as FunctionBody}
use Rattle.types.specs.declared.ids.FunctionId.{FunctionId}
use Rattle.types.specs.declared.ty.Const.TheOpen as layer
use Rattle.types.specs.declared.ty.Const.TheViews.{out-Ty, out-roll-Ty}
use Rattle.types.specs.declared.ty.GenericArgs.{GenericArgs}
use Rattle.types.specs.declared.ty.Ty.{FnDef}
use Rattle.types.specs.declared.ty.Ty.TheVariants as type
use Rattle.world.specs.declared.database.BodyRow.{BodyRow}
use Rattle.world.specs.declared.database.HirDatabase.{HirDatabase}
use Rattle.world.specs.Checked.{IsChecked, IsCheckedBody}
use Rattle.world.specs.Lookups.{body_place, body_row}
use Rattle.source_meaning.specs.Calls.{without_generics, function_of, function_in, function_called, source_at, source_of, source_called, parameters, filled, started}
use Rattle.source_meaning.specs.Source.{Source, Store, IsSized, Result, Binding, cell_size, zeroed, with_cell_bytes}
use Rattle.source_meaning.proofs.Stores.{zeroed_is_sized, with_bytes_is_sized}

bound_from : {A B : Type 0} (f : A → Option B) (given : Option A) (y : B) → option_and_then f given ≡ Some y → (x : A) × (given ≡ Some x) × (f x ≡ Some y)
bound_from f (Some x) y is = (x, refl, is)
bound_from f None y is = absurd cc

mapped_from : {A B : Type 0} (f : A → B) (given : Option A) (y : B) → option_map f given ≡ Some y → (x : A) × (given ≡ Some x) × (f x ≡ y)
mapped_from f (Some x) y is = (x, refl, (let same : f x ≡ y = cc in same))
mapped_from f None y is = absurd cc

-- the type of one function names it, where it is given no generic arguments
pub names_function : (id : FunctionId) (args : GenericArgs) → args.0 ≡ [] → function_in (FnDef (CalledFunction id) args) ≡ Some id
names_function id args none = ap function_of (ap out-Ty (sym (type.rolls-FnDef (CalledFunction id) args)) ∙ out-roll-Ty (layer.FnDef (CalledFunction id) args)) ∙ ap (without_generics id) none

-- the source of a function is a row of the table of bodies
source_of_row : (world : HirDatabase) (id : FunctionId) (called : Source) → source_of world id ≡ Some called → (i : ℕ) × (row : BodyRow) × (slice_get world.bodies i ≡ Some row) × (source_at world row ≡ called)
unfolding source_of
source_of_row world id called is =
    let from = mapped_from (source_at world) (body_row world (FunctionBody id)) called is in
    let there = bound_from (slice_get world.bodies) (body_place world (FunctionBody id)) from.0 from.1 in
    (there.0, from.0, there.2, from.2)

-- and so is that of a callee
pub called_row : (source : Source) (e : ℕ) (callee : Option ℕ) (called : Source) → source_called source e callee ≡ Some called → (i : ℕ) × (row : BodyRow) × (slice_get source.world.bodies i ≡ Some row) × (source_at source.world row ≡ called)
unfolding source_called
called_row source e callee called is =
    let from = bound_from (source_of source.world) (function_called source e callee) called is in
    source_of_row source.world from.0 called from.2

-- a callee stands in the world of its caller
pub called_world : (source : Source) (e : ℕ) (callee : Option ℕ) (called : Source) → source_called source e callee ≡ Some called → called.world ≡ source.world
called_world source e callee called is = let from = called_row source e callee called is in ap (λ (s : Source). s.world) (sym from.3)

-- and is checked in a checked one
pub called_is_checked : (source : Source) (e : ℕ) (callee : Option ℕ) (called : Source) → IsChecked source.world → source_called source e callee ≡ Some called → IsCheckedBody called.body called.infer
called_is_checked source e callee called checked is =
    let from = called_row source e callee called is in
    subst (λ (s : Source). IsCheckedBody s.body s.infer) from.3 (checked.bodies from.0 from.1 from.2)

-- a call enters the body of the function that its callee names
pub called_by_name : (source : Source) (e : ℕ) (callee : Option ℕ) (id : FunctionId) (called : Source) → function_called source e callee ≡ Some id → source_of source.world id ≡ Some called → source_called source e callee ≡ Some called
unfolding source_called
called_by_name source e callee id called names has_body = ap (option_and_then (source_of source.world)) names ∙ has_body

-- a number above the root of each body
pub above_roots : List BodyRow → ℕ
above_roots [] = zero
above_roots (row ∷ rest) = suc (row.body.body_expr.0 + above_roots rest)

pub root_is_below : (rows : List BodyRow) (i : ℕ) (row : BodyRow) → slice_get rows i ≡ Some row → row.body.body_expr.0 < above_roots rows
unfolding above_roots
root_is_below [] i row is = absurd cc
root_is_below (first ∷ rest) zero row is =
    let same : first ≡ row = cc in
    subst (λ (r : BodyRow). r.body.body_expr.0 < suc (first.body.body_expr.0 + above_roots rest)) same (omega arith)
root_is_below (first ∷ rest) (suc i) row is = let later = root_is_below rest i row is in omega arith

-- bytes for parameters, each as many as its cell has
abbrev pub AreFor : Source → List ℕ → List (List ℕ) → Type 0
AreFor callee [] [] = Unit {0}
AreFor callee (b ∷ others) (bytes ∷ given) = (length bytes ≡ cell_size callee (Binding b)) × AreFor callee others given
AreFor callee _ _ = ⊥

filled_is_sized : (callee : Source) (bound : List ℕ) (given : List (List ℕ)) (store : Store) → IsSized callee store → AreFor callee bound given → (start : Store) × (filled callee store bound given ≡ Some start) × IsSized callee start
unfolding filled
filled_is_sized callee [] [] store sized fits = (store, refl, sized)
filled_is_sized callee [] (bytes ∷ given) store sized fits = absurd fits
filled_is_sized callee (b ∷ others) [] store sized fits = absurd fits
filled_is_sized callee (b ∷ others) (bytes ∷ given) store sized fits =
    let next = with_cell_bytes store (Binding b) bytes in
    let rest = filled_is_sized callee others given next (with_bytes_is_sized callee store (Binding b) bytes sized fits.0) fits.1 in
    (rest.0, ap (λ test. if test then filled callee next others given else None) (eq-eqb _ _ fits.0) ∙ rest.1, rest.2)

-- a callee starts from a store with as many bytes in each cell as the cell's type has
pub started_is_sized : (callee : Source) (bound : List ℕ) (result : List ℕ) (given : List (List ℕ)) → parameters callee ≡ Some bound → length result ≡ cell_size callee Result → AreFor callee bound given →
    (start : Store) × (started callee result given ≡ Some start) × IsSized callee start
unfolding started
started_is_sized callee bound result given binds long fits =
    let first = with_cell_bytes (zeroed callee) Result result in
    let from = filled_is_sized callee bound given first (with_bytes_is_sized callee (zeroed callee) Result result (zeroed_is_sized callee) long) fits in
    (from.0, ap (option_and_then (λ (names : List ℕ). filled callee first names given)) binds ∙ from.1, from.2)
