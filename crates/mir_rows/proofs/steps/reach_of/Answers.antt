use Rattle.std.proofs.Common.{◌≡◌, ◌+◌, Option, Some, ap, refl, rules, subst, sym}
use Rattle.std.specs.Option.{option_copied}
use Rattle.types.specs.declared.ty.Ty.{Ty}
use Rattle.mir_rows.proofs.Reaching.{Led, led-first, led-last, led-on}
use Rattle.mir_rows.proofs.steps.reach_of.Goals as goal

pub loop-elem-init : goal.loop-elem-init
loop-elem-init c = led-first c.args.db.now c.args.elements.now (option_copied c.args.ty) 0 _ refl refl refl

pub loop-elem-preserved : goal.loop-elem-preserved
loop-elem-preserved c =
    let at = c.loop-elem in
    let elements = c.args.elements.now in
    let ty = option_copied c.args.ty in
    let seen : option_copied at.seen ≡ Some c.in_ok-ty.ty.now = (let here : at.seen ≡ Some c.in_ok-ty.ty = search rules in ap option_copied here) in
    subst (λ (t : Option Ty). Led c.args.db.now elements ty (at.elem-index + 1) t c.in_ok-so_far.so_far) (sym c.elem_type-seen.ensures)
    (led-on c.args.db.now elements ty at.elem-index c.elem-item.result c.loop-elem-test.true c.elem-item.is c.in_ok-ty.ty.now at.so_far c.in_ok-so_far.so_far c.in_ok-so_far.ensures
    (subst (λ (t : Option Ty). Led c.args.db.now elements ty at.elem-index t at.so_far) seen at.invariant))

pub returns : goal.returns
returns c = led-last c.args.db.now c.args.elements.now (option_copied c.args.ty) c.loop-elem.elem-index c.loop-elem-test.false (option_copied c.loop-elem.seen) c.loop-elem.so_far c.loop-elem.invariant
