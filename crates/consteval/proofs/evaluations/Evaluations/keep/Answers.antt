-- What is kept stays right with one more answer.
use Rattle.std.proofs.Common.{sym, ap, ◌∙◌, subst}
use Rattle.std.proofs.lemmas.Result.{on_ok_weaker, on_err_weaker}
use Rattle.consteval.specs.Kept.{IsKept, Kept, RestsOn, entry_of, kept_of, key_of, with_entry}
use Rattle.consteval.proofs.Keeping.{kept-one, push-sound}
use Rattle.consteval.proofs.evaluations.Evaluations.keep.Goals as goal

pub invariant_of-self : goal.invariant_of-self
invariant_of-self c =
    push-sound c.self.inside.world.now c.self.inside.kept c.push.new.self c.args.held c.push.result c.push.ensures.ok c.push.ensures.err
    (subst (λ (kept : Kept). ¬ IsKept kept (key_of (entry_of c.args.held))) (sym c.self.view_is) c.requires.fresh)
    (subst (λ (kept : Kept). RestsOn kept (entry_of c.args.held)) (sym c.self.view_is) c.requires.right)
    c.self.invariant

pub returns-clause-sound : goal.returns-clause-sound
returns-clause-sound c = invariant_of-self c

pub returns-clause-kept : goal.returns-clause-kept
returns-clause-kept c =
    on_ok_weaker c.push.result
    (λ is. kept-one c.self.inside.world.now c.self.inside.kept c.push.new.self c.args.held is ∙ ap (with_entry (entry_of c.args.held)) c.self.view_is)
    c.push.ensures.ok

pub returns-clause-unchanged : goal.returns-clause-unchanged
returns-clause-unchanged c = on_err_weaker c.push.result (λ same. ap (kept_of c.self.inside.world.now) same ∙ c.self.view_is) c.push.ensures.err
