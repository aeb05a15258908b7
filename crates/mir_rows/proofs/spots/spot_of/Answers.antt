use Rattle.std.proofs.Common.{Option, sym, ap, ◌∙◌, rules, subst}
use Rattle.std.specs.Prelude.{IfSome}
use Rattle.types.specs.declared.ty.Ty.{Ty}
use Rattle.mir.specs.Places.{local_type, type_behind}
use Rattle.mir_rows.specs.Spots.{prepared, IsBehind}
use Rattle.mir_rows.proofs.Spotted.{behind-maybe, whole-empty, whole-empty-id}
use Rattle.mir_rows.proofs.spots.spot_of.Goals as goal

pub returns-then-place-eq0 : goal.returns-then-place-eq0
returns-then-place-eq0 c = whole-empty-id (prepared c.args.db.now c.args.body.now) c.args.place (search rules)

pub returns-then-is_empty : goal.returns-then-is_empty
returns-then-is_empty c =
    whole-empty (prepared c.args.db.now c.args.body.now) c.args.place (search rules) c.in_ok-elements.elements.now c.in_ok-elements.ensures (sym c.is_empty.ensures ∙ c.if-is_empty.true)

pub returns : goal.returns
returns c =
    let code = prepared c.args.db.now c.args.body.now in
    let elements = c.in_ok-elements.elements.now in
    let ty = local_type c.args.body.now c.args.place.local in
    let size = c.in_ok-layout.layout.now.size in
    behind-maybe code c.args.place (search rules) elements c.in_ok-elements.ensures (sym c.is_empty.ensures ∙ c.if-is_empty.false)
    c.in_ok-seen.seen.now (c.in_ok-seen.ensures ∙ ap (type_behind c.args.db.now elements) c.local_type-ty.ensures)
    c.in_ok-layout.layout.now c.in_ok-layout.ensures c.spot_behind.result
    (subst (λ (t : Option Ty). IfSome c.spot_behind.result (IsBehind c.args.db.now c.args.place.local elements t size)) c.local_type-ty.ensures c.spot_behind.ensures)
