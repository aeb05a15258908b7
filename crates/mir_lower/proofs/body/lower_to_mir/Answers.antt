-- The context is that of the body in its world; there may be no memory for it.
use Rattle.std.proofs.Common.{false, ◌≡◌, sym, subst, inr}
use Rattle.std.specs.Prelude.{IfOk, IfErr, OnOk}
use Rattle.world.specs.Checked.{IsChecked, IsCheckedBody}
use Rattle.source_meaning.specs.Source.{Source, monomorphic, root}
use Rattle.mir_lower.specs.Built.{IsBuilt}
use Rattle.mir_lower.specs.Order.{AreInOrder}
use Rattle.mir_lower.specs.Refusals.{Refuses, RefusesInferred, needs_drops}
use Rattle.mir_lower.specs.Simulates.{Simulates}
use Rattle.mir_lower.proofs.Refused.{refuses-no-memory, refused-exit}
use Rattle.std.proofs.lemmas.Result.{IfErr-weaker}
use Rattle.mir_lower.proofs.body.lower_to_mir.Goals as goal

pub returns-in_err-context-clause-refused : goal.returns-in_err-context-clause-refused
returns-in_err-context-clause-refused c =
    let source : Source = monomorphic c.args.db.now c.args.body.now c.args.infer.now in
    refused-exit (Refuses source) _ c.from_residual.result c.from_residual.ensures.1 (λ error none. inr (inr (inr (refuses-no-memory source (root source) error none))))

pub lower_inferred-requires-clause-world : goal.lower_inferred-requires-clause-world
lower_inferred-requires-clause-world c = subst (λ (s : Source). IsChecked s.world) (sym c.in_ok-context.ensures) c.requires.world

pub lower_inferred-requires-clause-checked : goal.lower_inferred-requires-clause-checked
lower_inferred-requires-clause-checked c = subst (λ (s : Source). IsCheckedBody s.body s.infer) (sym c.in_ok-context.ensures) c.requires.checked

pub returns-clause-simulates : goal.returns-clause-simulates
returns-clause-simulates c = subst (λ (s : Source). IfOk c.lower_inferred.result (Simulates s)) c.in_ok-context.ensures c.lower_inferred.ensures.simulates

pub returns-clause-order : goal.returns-clause-order
returns-clause-order c = subst (λ (s : Source). IfOk c.lower_inferred.result (λ lowered. AreInOrder s lowered.locals)) c.in_ok-context.ensures c.lower_inferred.ensures.order

pub returns-clause-dropless : goal.returns-clause-dropless
returns-clause-dropless c = subst (λ (s : Source). IfOk c.lower_inferred.result (λ lowered. needs_drops s lowered.locals ≡ false)) c.in_ok-context.ensures c.lower_inferred.ensures.dropless

pub returns-clause-built : goal.returns-clause-built
returns-clause-built c = subst (λ (s : Source). OnOk c.lower_inferred.result (IsBuilt s (root s))) c.in_ok-context.ensures c.lower_inferred.ensures.built

pub returns-clause-refused : goal.returns-clause-refused
returns-clause-refused c =
    let source : Source = monomorphic c.args.db.now c.args.body.now c.args.infer.now in
    IfErr-weaker c.lower_inferred.result _ (Refuses source) (λ error refused. inr refused)
    (subst (λ (s : Source). IfErr c.lower_inferred.result (RefusesInferred s)) c.in_ok-context.ensures c.lower_inferred.ensures.refused)
