use Rattle.std.proofs.Common.{◌≡◌, refl, sym, ◌∙◌, ap}
use Rattle.mir.specs.Switches.{values_of, all_targets_of}
use Rattle.mir.proofs.Targets.{targets_together, values_together}
use Rattle.mir.proofs.switch.SwitchTargetsPartialEq.eq.Goals as goal

pub returns-then-eq : goal.returns-then-eq
returns-then-eq c =
    let a : values_of c.args.self.now ≡ c.self.inside.values.items = ap values_of (sym c.self.view_is) ∙ values_together _ _ c.self.invariant in
    let b : values_of c.args.other.now ≡ c.other.inside.values.items = ap values_of (sym c.other.view_is) ∙ values_together _ _ c.other.invariant in
    let k : all_targets_of c.args.self.now ≡ c.self.inside.targets.items = ap all_targets_of (sym c.self.view_is) ∙ targets_together _ _ _ c.self.invariant in
    let l : all_targets_of c.args.other.now ≡ c.other.inside.targets.items = ap all_targets_of (sym c.other.view_is) ∙ targets_together _ _ _ c.other.invariant in
    rw (a, b, k, l, ← c.eq.ensures, c.if-eq.true) c.eq-then-eq.ensures

pub returns-else-eq : goal.returns-else-eq
returns-else-eq c =
    let a : values_of c.args.self.now ≡ c.self.inside.values.items = ap values_of (sym c.self.view_is) ∙ values_together _ _ c.self.invariant in
    let b : values_of c.args.other.now ≡ c.other.inside.values.items = ap values_of (sym c.other.view_is) ∙ values_together _ _ c.other.invariant in
    rw (a, b, ← c.eq.ensures, c.if-eq.false) refl
