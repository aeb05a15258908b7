-- Readers of closures.
use Rattle.std.specs.Prelude.{[], ◌∷◌, codes}
use Rattle.serde_json.specs.Data.{Data}
use Rattle.world.specs.declared.closures.BorrowKind.TheVariants as the_borrow_kind
use Rattle.world.specs.declared.closures.BorrowKind.{BorrowKind}
use Rattle.world.specs.declared.closures.Capture.{Capture}
use Rattle.world.specs.declared.closures.CaptureKind.TheVariants as the_capture_kind
use Rattle.world.specs.declared.closures.CaptureKind.{CaptureKind}
use Rattle.world.specs.declared.closures.ClosureRow.{ClosureRow}
use Rattle.world.specs.declared.closures.FnTrait.TheVariants as the_fn_trait
use Rattle.world.specs.declared.closures.FnTrait.{FnTrait}
use Rattle.world.specs.declared.closures.HirPlaceProjection.TheVariants as the_hir_place_projection
use Rattle.world.specs.declared.closures.HirPlaceProjection.{HirPlaceProjection}
use Rattle.world.specs.declared.closures.MutBorrowKind.TheVariants as the_mut_borrow_kind
use Rattle.world.specs.declared.closures.MutBorrowKind.{MutBorrowKind}
use Rattle.json_kit.specs.Fit.{Fit, ◌>>=◌}
use Rattle.json_types.specs.Ids.{binding_id_of, def_with_body_id_of, expr_id_of, field_id_of}
use Rattle.json_kit.specs.Keys.{members_of, optional, required, with_no_other}
use Rattle.json_kit.specs.Parts.{list_of}
use Rattle.json_kit.specs.Scalars.{u32_of}
use Rattle.json_types.specs.Types.{ty_of}
use Rattle.json_kit.specs.Variants.{enum_of, payload, unit}

unfoldable pub mut_borrow_kind_of : Data → Fit MutBorrowKind
mut_borrow_kind_of = enum_of (unit (codes "ClosureCapture") the_mut_borrow_kind.ClosureCapture ∷ unit (codes "Default") the_mut_borrow_kind.Default ∷ unit (codes "TwoPhasedBorrow") the_mut_borrow_kind.TwoPhasedBorrow ∷ [])

unfoldable pub borrow_kind_mut_of : Data → Fit BorrowKind
borrow_kind_mut_of d = do
  ms ← members_of d
  kind ← required (codes "kind") mut_borrow_kind_of d
  with_no_other (codes "kind" ∷ []) ms (the_borrow_kind.Mut kind)

unfoldable pub borrow_kind_of : Data → Fit BorrowKind
borrow_kind_of = enum_of (unit (codes "Shared") the_borrow_kind.Shared ∷ unit (codes "Shallow") the_borrow_kind.Shallow ∷ payload (codes "Mut") borrow_kind_mut_of (λ whole. whole) ∷ [])

unfoldable pub capture_kind_of : Data → Fit CaptureKind
capture_kind_of = enum_of (payload (codes "ByRef") borrow_kind_of the_capture_kind.ByRef ∷ unit (codes "ByValue") the_capture_kind.ByValue ∷ [])

unfoldable pub hir_place_projection_of : Data → Fit HirPlaceProjection
hir_place_projection_of = enum_of (unit (codes "Deref") the_hir_place_projection.Deref ∷ payload (codes "Field") field_id_of the_hir_place_projection.Field ∷ payload (codes "TupleField") u32_of the_hir_place_projection.TupleField ∷ [])

unfoldable pub capture_of : Data → Fit Capture
capture_of d = do
  ms ← members_of d
  local ← required (codes "local") binding_id_of d
  projections ← optional [] (codes "projections") (list_of hir_place_projection_of) d
  kind ← required (codes "kind") capture_kind_of d
  ty ← required (codes "ty") ty_of d
  span ← required (codes "span") expr_id_of d
  with_no_other (codes "local" ∷ codes "projections" ∷ codes "kind" ∷ codes "ty" ∷ codes "span" ∷ []) ms (record { local = local; projections = projections; kind = kind; ty = ty; span = span })

unfoldable pub fn_trait_of : Data → Fit FnTrait
fn_trait_of = enum_of (unit (codes "Fn") the_fn_trait.Fn ∷ unit (codes "FnMut") the_fn_trait.FnMut ∷ unit (codes "FnOnce") the_fn_trait.FnOnce ∷ [])

unfoldable pub closure_row_of : Data → Fit ClosureRow
closure_row_of d = do
  ms ← members_of d
  owner ← required (codes "owner") def_with_body_id_of d
  expr ← required (codes "expr") expr_id_of d
  kind ← required (codes "kind") fn_trait_of d
  params ← optional [] (codes "params") (list_of ty_of) d
  captures ← optional [] (codes "captures") (list_of capture_of) d
  with_no_other (codes "owner" ∷ codes "expr" ∷ codes "kind" ∷ codes "params" ∷ codes "captures" ∷ []) ms (record { owner = owner; expr = expr; kind = kind; params = params; captures = captures })
