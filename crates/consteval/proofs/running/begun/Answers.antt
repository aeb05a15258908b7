-- A machine that began, and why it didn't.
use Rattle.std.proofs.Common.{◌≡◌, ⊎_elim, inl, inr, Ok, Err, refl, ap, ◌∙◌, subst}
use Rattle.mir_eval.specs.Machine.{Machine}
use Rattle.mir_eval.specs.Start.{start_of}
use Rattle.consteval.specs.Machines.{machine_of}
use Rattle.consteval.proofs.Starting.{start-refused, start-begun}
use Rattle.consteval.proofs.running.begun.Goals as goal

pub returns-in-Ok-begin-clause-began : goal.returns-in-Ok-begin-clause-began
returns-in-Ok-begin-clause-began c =
    start-begun c.args.db.now c.args.def c.args.body.value c.args.limits.now (machine_of c.begin.new.self)
    (subst (λ (m : Machine). start_of m c.args.body.value ≡ Ok (machine_of c.begin.new.self).state) c.in-Ok.ensures.made c.in-Ok-begin.ensures.began)
    (ap (λ (m : Machine). m.blocks) c.begin.ensures.kept ∙ ap (λ (m : Machine). m.blocks) c.in-Ok.ensures.made)

pub returns-clause-refused : goal.returns-clause-refused
returns-clause-refused c =
    ⊎_elim inl
    (λ is. inr (start-refused c.args.db.now c.args.def c.args.body.value c.args.limits.now c.in-Err-begin.error (c.in-Ok.ensures.variant.0 refl) (subst (λ (m : Machine). start_of m c.args.body.value ≡ Err c.in-Err-begin.error) c.in-Ok.ensures.made is)))
    c.in-Err-begin.ensures.refused
