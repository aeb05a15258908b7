use Rattle.std.proofs.Common.{rules, ◌≡◌}
use Rattle.std.specs.List.{zip}
use Rattle.mir.proofs.Targets.{pairs_again}
use Rattle.mir.proofs.switch.SwitchTargets.new.Goals as goal

pub returns-clause-pairs : goal.returns-clause-pairs
returns-clause-pairs g c =
    let e : zip c.loop-value.values.items c.push-2.new.self.items ≡ c.loop-value.yielded =
    rw (c.in_ok-push-3.ensures.ok, c.loop-value.invariant.2, c.loop-value.invariant.3) (pairs_again c.loop-value.yielded c.args.otherwise) in
    rw e (search rules)
