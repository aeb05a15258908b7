-- What is found is kept, and what isn't found isn't.
use Rattle.std.proofs.Common.{subst}
use Rattle.std.specs.Prelude.{Contains}
use Rattle.consteval.specs.Kept.{IsKept, Kept, entry_of}
use Rattle.consteval.proofs.Finding.{found, not-found}
use Rattle.consteval.proofs.evaluations.Evaluations.find.Goals as goal

pub returns-in-Some-clause-some : goal.returns-in-Some-clause-some
returns-in-Some-clause-some c =
    let is = found c.self.inside.kept c.args.key c.in-Some.held.now c.in-Some.ensures in
    (subst (λ (kept : Kept). Contains kept.entries (entry_of c.in-Some.held.now)) c.self.view_is is.0, is.1)

pub returns-in-None-clause-none : goal.returns-in-None-clause-none
returns-in-None-clause-none c =
    subst (λ (kept : Kept). ¬ IsKept kept c.args.key) c.self.view_is (not-found c.self.inside.world.now c.self.inside.kept c.args.key c.in-None.ensures)
