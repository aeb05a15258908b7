-- Each answer has its cause.
use Rattle.std.proofs.Common.{◌≡◌, Err, rules, sym, subst, ◌∙◌}
use Rattle.mir.specs.declared.errors.ConstEvalError.{ConstEvalError}
use Rattle.source_meaning.specs.Aggregates.{HasAggregates}
use Rattle.consteval.specs.Answers.{HasCause}
use Rattle.consteval.specs.declared.evaluated.Evaluated.{Evaluated}
use Rattle.consteval.specs.Kept.{Lowered}
use Rattle.consteval.proofs.Aggregates.{has-aggregates}
use Rattle.consteval.proofs.Causes.{cause-refused, cause-answered}
use Rattle.consteval.proofs.Keeping.{contains-stays, stays-then}
use Rattle.consteval.proofs.evaluations.Evaluations.answer.Goals as goal

pub returns-in-Err-clause-cause : goal.returns-in-Err-clause-cause
returns-in-Err-clause-cause c =
    subst (λ (answer : Evaluated). HasCause c.body_of.new.self c.args.def c.args.args.now c.args.limits.now answer.turns answer.result) (sym c.refused.ensures)
    (subst (λ (e : ConstEvalError). HasCause c.body_of.new.self c.args.def c.args.args.now c.args.limits.now 0 (Err e)) (sym c.from.ensures)
    (cause-refused c.body_of.new.self _ c.args.def c.args.args.now c.args.limits.now c.in-Err.error c.body_of.ensures.stays.world c.in-Err.ensures.refused))

pub returns-clause-cause : goal.returns-clause-cause
returns-clause-cause c =
    cause-answered c.run_body.new.self c.args.def c.args.args.now c.args.limits.now c.run_body.result.turns c.in-Ok.body.value c.run_body.result.result
    c.run_body.ensures.sound c.in-Ok.ensures.given (contains-stays c.body_of.new.self c.run_body.new.self c.run_body.ensures.stays (Lowered c.args.def c.in-Ok.body.value) c.in-Ok.ensures.found) c.run_body.ensures.answered

pub returns-clause-stays : goal.returns-clause-stays
returns-clause-stays c = stays-then c.args.self.now c.body_of.new.self c.run_body.new.self c.body_of.ensures.stays c.run_body.ensures.stays

pub returns-in-Err-clause-parts : goal.returns-in-Err-clause-parts
returns-in-Err-clause-parts c =
    let same : c.db-db.result.now ≡ c.args.self.now.world = search rules in
    subst HasAggregates (sym c.body_of.ensures.stays.world) (subst HasAggregates same (has-aggregates c.db-db.result.now c.db-db.ensures.holds))

pub returns-clause-parts : goal.returns-clause-parts
returns-clause-parts c =
    let same : c.db-db.result.now ≡ c.args.self.now.world = search rules in
    subst HasAggregates (sym (c.run_body.ensures.stays.world ∙ c.body_of.ensures.stays.world)) (subst HasAggregates same (has-aggregates c.db-db.result.now c.db-db.ensures.holds))
