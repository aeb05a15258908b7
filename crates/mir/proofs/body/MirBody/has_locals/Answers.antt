use Rattle.std.proofs.Common.{rules, arith}
use Rattle.std.proofs.lemmas.List.{take_all}
use Rattle.std.proofs.lemmas.List.Elements.{All-more}
use Rattle.std.specs.List.{All}
use Rattle.mir.specs.Closed.{HasLocal}
use Rattle.mir.proofs.body.MirBody.has_locals.Goals as goal

pub loop-local-preserved : goal.loop-local-preserved
loop-local-preserved c = All-more (HasLocal c.args.self.now) c.args.locals.now c.loop-local.local-index (record { 0 = 0 }) c.loop-local-test.true c.loop-local.invariant (grind (arith, c.has_local.ensures))

pub returns : goal.returns
returns c =
    let all : All (HasLocal c.args.self.now) c.args.locals.now = rw (take_all c.loop-local.local-index c.args.locals.now (omega arith)) at c.loop-local.invariant in
    (λ _. all, λ _. search rules)
