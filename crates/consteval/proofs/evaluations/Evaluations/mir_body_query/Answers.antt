-- A lowered body is that of its definition, and one of a valid definition isn't refused but for want of memory.
use Rattle.std.proofs.Common.{◌≡◌, ◌⊎◌, List, ap, rules, subst}
use Rattle.std.specs.Prelude.{IfErr}
use Rattle.std.proofs.lemmas.Result.{IfErr-weaker, IfOk-weaker}
use Rattle.types.specs.declared.ty.GenericArg.{GenericArg}
use Rattle.types.specs.declared.ty.GenericArgs.{GenericArgs}
use Rattle.world.specs.Checked.{IsChecked}
use Rattle.mir.specs.declared.errors.MirLowerError.TheVariants as refusal
use Rattle.consteval.specs.Refusals.{RefusesBody}
use Rattle.consteval.specs.Built.{no_args}
use Rattle.consteval.specs.Kept.{IsLowered}
use Rattle.consteval.proofs.Keeping.{kept-body-lowered}
use Rattle.consteval.proofs.Refused.{lowering-is-not-refused}
use Rattle.consteval.proofs.evaluations.Evaluations.mir_body_query.Goals as goal

pub returns-clause-lowered : goal.returns-clause-lowered
returns-clause-lowered c =
    IfOk-weaker c.body_of.result _ _
    (λ body found. subst (λ world. IsLowered world c.args.def body.value) c.body_of.ensures.stays.world
    (kept-body-lowered c.body_of.new.self c.body_of.ensures.sound c.args.def body.value found))
    c.body_of.ensures.found

pub returns-clause-refused : goal.returns-clause-refused
returns-clause-refused c =
    let none : ◌≡◌ {A = GenericArgs} (record { 0 = c.new.result }) no_args = ap (λ (list : List GenericArg). record { 0 = list }) c.new.ensures in
    subst (λ (args : GenericArgs). IfErr c.body_of.result (λ e. (e ≡ refusal.NoMemory) ⊎ RefusesBody c.args.self.now.world c.args.def args e)) none c.body_of.ensures.refused

pub returns-clause-complete : goal.returns-clause-complete
returns-clause-complete c row valid cost =
    let same : c.db-db.result.now ≡ c.args.self.now.world = search rules in
    IfErr-weaker c.body_of.result _ _
    (λ e refuses. lowering-is-not-refused c.args.self.now.world c.args.def no_args row e (subst IsChecked same c.db-db.ensures.checked) valid cost refuses)
    (returns-clause-refused c)
