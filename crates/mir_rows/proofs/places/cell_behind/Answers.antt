use Rattle.std.proofs.Common.{ℕ, Some, None, sym, ap, ◌∙◌}
use Rattle.std.specs.Option.{option_copied}
use Rattle.mir.specs.Places.{offset_behind, part_of_cell, type_behind}
use Rattle.mir_rows.proofs.Walks.{behind-by, behind-none, laid-by, meant-of, none-meant, part-saturated}
use Rattle.mir_rows.proofs.places.cell_behind.Goals as goal

pub returns-then-is_empty : goal.returns-then-is_empty
returns-then-is_empty g c = behind-none c.args.db.now (g.N.Numbers.held c.args.numbers.now) c.args.elements.now (option_copied c.args.ty) c.args.cell (sym c.is_empty.ensures ∙ c.if-is_empty.true)

pub returns-in_default : goal.returns-in_default
returns-in_default g c =
    let held = g.N.Numbers.held c.args.numbers.now in
    behind-by c.args.db.now held c.args.elements.now (option_copied c.args.ty) c.args.cell (sym c.is_empty.ensures ∙ c.if-is_empty.false) None
    (sym (none-meant (offset_behind c.args.db.now held c.args.elements.now (option_copied c.args.ty)) c.in_default.ensures)) _ (λ i. type_behind c.args.db.now c.args.elements.now (option_copied c.args.ty))

pub returns-in_default-type_behind : goal.returns-in_default-type_behind
returns-in_default-type_behind g c =
    let held = g.N.Numbers.held c.args.numbers.now in
    let meant = meant-of (offset_behind c.args.db.now held c.args.elements.now (option_copied c.args.ty)) c.in-Some.offset c.in-Some.ensures in
    behind-by c.args.db.now held c.args.elements.now (option_copied c.args.ty) c.args.cell (sym c.is_empty.ensures ∙ c.if-is_empty.false) (Some meant.0) (sym meant.1) None c.in_default-type_behind.ensures

pub returns-in-Some-layout_of : goal.returns-in-Some-layout_of
returns-in-Some-layout_of g c =
    let held = g.N.Numbers.held c.args.numbers.now in
    let meant = meant-of (offset_behind c.args.db.now held c.args.elements.now (option_copied c.args.ty)) c.in-Some.offset c.in-Some.ensures in
    c.part_of_cell.ensures
    ∙ ap (λ (n : ℕ). part_of_cell c.args.cell n c.in-Some-layout_of.layout.now.size) meant.2
    ∙ part-saturated c.args.cell meant.0 c.in-Some-layout_of.layout.now.size c.requires
    ∙ laid-by c.args.db.now held c.args.elements.now (option_copied c.args.ty) c.args.cell (sym c.is_empty.ensures ∙ c.if-is_empty.false) meant.0 (sym meant.1) c.in-Some-type_behind.seen.now c.in-Some-type_behind.ensures (Some c.in-Some-layout_of.layout.now) c.in-Some-layout_of.ensures

pub returns-in-None : goal.returns-in-None
returns-in-None g c =
    let held = g.N.Numbers.held c.args.numbers.now in
    let meant = meant-of (offset_behind c.args.db.now held c.args.elements.now (option_copied c.args.ty)) c.in-Some.offset c.in-Some.ensures in
    laid-by c.args.db.now held c.args.elements.now (option_copied c.args.ty) c.args.cell (sym c.is_empty.ensures ∙ c.if-is_empty.false) meant.0 (sym meant.1) c.in-Some-type_behind.seen.now c.in-Some-type_behind.ensures None c.in-None.ensures
