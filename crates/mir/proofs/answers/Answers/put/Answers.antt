use Rattle.std.proofs.Common.{List, subst}
use Rattle.mir.specs.Answers.{IsAfterPut}
use Rattle.mir.specs.declared.answers.Answer.{Answer}
use Rattle.mir.specs.declared.answers.Query.{Query}
use Rattle.mir.proofs.Queries.{after_put, kind_stays}
use Rattle.mir.proofs.answers.Answers.put.Goals as goal

pub invariant_of-self-2 : goal.invariant_of-self-2
invariant_of-self-2 c =
    kind_stays c.self.inside.entries.entries c.insert.new.self.entries c.args.query c.args.answer c.in_ok-insert.ensures.updates.0 c.requires c.self.invariant

pub returns-clause-ok : goal.returns-clause-ok
returns-clause-ok c =
    subst (λ (before : List (Query × Answer)). IsAfterPut before c.insert.new.self.entries c.args.query c.args.answer) c.self.view_is
    (after_put c.self.inside.entries.entries c.insert.new.self.entries c.args.query c.args.answer c.in_ok-insert.ensures.updates.0 c.in_ok-insert.ensures.updates.1)
