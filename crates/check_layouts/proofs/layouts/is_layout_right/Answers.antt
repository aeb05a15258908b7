use Rattle.std.proofs.Common.{Decides, sym, ◌∙◌}
use Rattle.std.proofs.lemmas.Bool.{false≢true}
use Rattle.std.proofs.lemmas.Bool.Decides.{Decides-at, Decides-like, not_from_Decides}
use Rattle.check_names.specs.Known.{is_ty_closed}
use Rattle.check_layouts.specs.Laid.{IsClosed}
use Rattle.check_layouts.specs.Sizes.{layout_above}
use Rattle.check_layouts.proofs.Deciding.{no}
use Rattle.check_layouts.proofs.Laying.{closed_decides, laid_of, of_laid}
use Rattle.check_layouts.proofs.layouts.is_layout_right.Goals.{then-not-is_ty_closed-via-then-not-is_ty_closed, then-not-is_ty_closed-via-else-not-is_ty_closed+then-not-is_size_right}
use Rattle.check_layouts.proofs.layouts.is_layout_right.Goals as goal

pub returns-then-not-is_ty_closed : goal.returns-then-not-is_ty_closed
returns-then-not-is_ty_closed c =
    let closed : Decides c.is_ty_closed.result (IsClosed c.args.row.now.0) = Decides-at c.is_ty_closed.result (is_ty_closed c.args.row.now.0) c.is_ty_closed.ensures (closed_decides c.args.row.now.0) in
    elim c.then-not-is_ty_closed.branch [
      | then-not-is_ty_closed-via-then-not-is_ty_closed w ↦ no (λ laid. not_from_Decides c.is_ty_closed.result closed w.if-not-is_ty_closed.true laid.closed)
      | then-not-is_ty_closed-via-else-not-is_ty_closed+then-not-is_size_right w ↦ no (λ laid. not_from_Decides w.is_size_right.result w.is_size_right.ensures w.if-not-is_size_right.true (laid.align, laid.multiple, laid.size))
    ]

pub returns-then-not-branch : goal.returns-then-not-branch
returns-then-not-branch c =
    let parts = of_laid c.args.db.now (layout_above c.args.db.now c.args.i) c.args.row.now.0 c.args.row.now.1 in
    no (λ laid. not_from_Decides c.in_ok-are_type_fields_placed.field-0 c.in_ok-are_type_fields_placed.ensures c.if-not-branch.true (parts laid).1.1.0)

pub returns-then-not-branch-2 : goal.returns-then-not-branch-2
returns-then-not-branch-2 c =
    let parts = of_laid c.args.db.now (layout_above c.args.db.now c.args.i) c.args.row.now.0 c.args.row.now.1 in
    no (λ laid. not_from_Decides c.in_ok-are_enum_fields_known.field-0 c.in_ok-are_enum_fields_known.ensures c.if-not-branch-2.true (parts laid).1.1.1.0)

pub returns-then-not-branch-3 : goal.returns-then-not-branch-3
returns-then-not-branch-3 c =
    let parts = of_laid c.args.db.now (layout_above c.args.db.now c.args.i) c.args.row.now.0 c.args.row.now.1 in
    no (λ laid. not_from_Decides c.in_ok-are_captures_placed.field-0 c.in_ok-are_captures_placed.ensures c.if-not-branch-3.true (parts laid).1.1.1.1.0)

pub returns-then-is_array_size : goal.returns-then-is_array_size
returns-then-is_array_size c =
    let world = c.args.db.now in
    let look = layout_above world c.args.i in
    let ty = c.args.row.now.0 in
    let layout = c.args.row.now.1 in
    let closed : Decides c.is_ty_closed.result (IsClosed ty) = Decides-at c.is_ty_closed.result (is_ty_closed ty) c.is_ty_closed.ensures (closed_decides ty) in
    let sized = c.is_size_right.ensures.0 c.if-not-is_size_right.false in
    let fields = c.in_ok-are_type_fields_placed.ensures.0 c.if-not-branch.false in
    let known = c.in_ok-are_enum_fields_known.ensures.0 c.if-not-branch-2.false in
    let captures = c.in_ok-are_captures_placed.ensures.0 c.if-not-branch-3.false in
    let elements = c.is_array_size.ensures.0 c.if-is_array_size.true in
    Decides-like c.is_tag_inside.result
    (λ tag. laid_of world look ty layout (closed.0 c.if-not-is_ty_closed.false, (sized, (fields, (known, (captures, (elements, tag)))))))
    (λ laid. laid.tag)
    c.is_tag_inside.ensures

pub returns-else-is_array_size : goal.returns-else-is_array_size
returns-else-is_array_size c = ((λ e. absurd (false≢true (sym c.if-is_array_size.false ∙ e))), (λ laid. c.is_array_size.ensures.1 laid.elements))
