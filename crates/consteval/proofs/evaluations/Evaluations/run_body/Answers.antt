-- What the run of a body comes to that is told what it asks.
use Rattle.std.proofs.Common.{◌<◌, ◌∙◌, Err, sym, ap, subst}
use Rattle.mir.specs.declared.errors.ConstEvalError.{ConstEvalError}
use Rattle.mir_eval.specs.Machine.{blocks_left}
use Rattle.consteval.specs.Answers.{AnswersBody}
use Rattle.consteval.specs.Machines.{machine_of}
use Rattle.consteval.specs.declared.evaluated.Evaluated.{Evaluated}
use Rattle.consteval.proofs.Keeping.{stays, stays-then}
use Rattle.consteval.proofs.Starting.{never-begins}
use Rattle.consteval.proofs.Turning.{answers-exhausted, answers-now, asks-for-body, asks-now, begins-on-its-way, is-over-now, told-less, told-on-its-way, way-goes, way-left}
use Rattle.consteval.proofs.evaluations.Evaluations.run_body.Goals as goal

pub returns-in-Err-clause-answered : goal.returns-in-Err-clause-answered
returns-in-Err-clause-answered c =
    subst (λ (answer : Evaluated). AnswersBody c.args.self.now c.args.def c.args.body.value c.args.limits.now answer.turns answer.result) (sym c.refused.ensures)
    (subst (λ (e : ConstEvalError). AnswersBody c.args.self.now c.args.def c.args.body.value c.args.limits.now 0 (Err e)) (sym c.from.ensures)
    (never-begins c.args.self.now c.db.result.now c.args.def c.args.body.value c.args.limits.now c.in-Err.error (c.db.ensures.same ∙ c.world.ensures) c.in-Err.ensures.refused))

pub returns-in-Err-clause-sound : goal.returns-in-Err-clause-sound
returns-in-Err-clause-sound c = c.alloc-alloc.ensures.sound

pub questions-init : goal.questions-init
questions-init c =
    record {
      way = begins-on-its-way c.args.self.now c.db.result.now c.args.def c.args.body.value c.args.limits.now (machine_of c.in-Ok.evaluator) (c.db.ensures.same ∙ c.world.ensures) c.in-Ok.ensures.began;
      stays = stays c.args.self.now;
      sound = c.alloc-alloc.ensures.sound;
    }

pub run-requires : goal.run-requires
run-requires c = way-goes c.questions.self c.args.def c.args.body.value c.args.limits.now (machine_of c.questions.evaluator) c.questions.invariant.way

pub tell_body-requires : goal.tell_body-requires
tell_body-requires c =
    let before = machine_of c.questions.evaluator in
    let ran = machine_of c.run.new.self in
    let way = c.questions.invariant.way in
    asks-for-body c.questions.self c.args.def c.args.body.value c.args.limits.now way.position ran
    (asks-now c.questions.self c.args.def c.args.body.value c.args.limits.now before ran way c.run.ensures.ended c.run.ensures.kept (sym c.run.ensures.variant ∙ c.in-Ask.is))

pub returns-in-Err-tell_body-clause-answered : goal.returns-in-Err-tell_body-clause-answered
returns-in-Err-tell_body-clause-answered c =
    let before = machine_of c.questions.evaluator in
    let ran = machine_of c.run.new.self in
    let told = machine_of c.tell_body.new.evaluator in
    let way = c.questions.invariant.way in
    let asking = asks-now c.questions.self c.args.def c.args.body.value c.args.limits.now before ran way c.run.ensures.ended c.run.ensures.kept (sym c.run.ensures.variant ∙ c.in-Ask.is) in
    answers-exhausted c.questions.self c.args.def c.args.body.value c.args.limits.now way.position ran asking c.tell_body.new.self c.tell_body.ensures.stays told c.tell_body.ensures.kept
    c.exhausted.result.turns c.exhausted.result.result c.in-Err-tell_body.ensures.left (ap (λ (answer : Evaluated). answer.turns) c.exhausted.ensures) (ap (λ (answer : Evaluated). answer.result) c.exhausted.ensures)

pub returns-in-Err-tell_body-clause-stays : goal.returns-in-Err-tell_body-clause-stays
returns-in-Err-tell_body-clause-stays c = stays-then c.args.self.now c.questions.self c.tell_body.new.self c.questions.invariant.stays c.tell_body.ensures.stays

pub questions-smaller : goal.questions-smaller
questions-smaller c =
    let before = machine_of c.questions.evaluator in
    let ran = machine_of c.run.new.self in
    let told = machine_of c.tell_body.new.evaluator in
    let way = c.questions.invariant.way in
    let asking = asks-now c.questions.self c.args.def c.args.body.value c.args.limits.now before ran way c.run.ensures.ended c.run.ensures.kept (sym c.run.ensures.variant ∙ c.in-Ask.is) in
    subst (λ left. blocks_left 0 told.state < left) (sym (way-left c.questions.self c.args.def c.args.body.value c.args.limits.now before way))
    (told-less c.questions.self c.args.def c.args.body.value c.args.limits.now way.position ran asking c.tell_body.new.self c.tell_body.ensures.stays told c.tell_body.ensures.kept c.in-Ok-tell_body.ensures.told)

pub questions-preserved : goal.questions-preserved
questions-preserved c =
    let before = machine_of c.questions.evaluator in
    let ran = machine_of c.run.new.self in
    let told = machine_of c.tell_body.new.evaluator in
    let way = c.questions.invariant.way in
    let asking = asks-now c.questions.self c.args.def c.args.body.value c.args.limits.now before ran way c.run.ensures.ended c.run.ensures.kept (sym c.run.ensures.variant ∙ c.in-Ask.is) in
    record {
      way = told-on-its-way c.questions.self c.args.def c.args.body.value c.args.limits.now way.position ran asking c.tell_body.new.self c.tell_body.ensures.stays told c.tell_body.ensures.kept c.in-Ok-tell_body.ensures.told;
      stays = stays-then c.args.self.now c.questions.self c.tell_body.new.self c.questions.invariant.stays c.tell_body.ensures.stays;
      sound = c.tell_body.ensures.sound;
    }

pub ended-requires : goal.ended-requires
ended-requires c =
    let before = machine_of c.questions.evaluator in
    let ran = machine_of c.run.new.self in
    is-over-now c.questions.self c.args.def c.args.body.value c.args.limits.now before ran c.questions.invariant.way c.run.ensures.ended c.run.ensures.kept c.run.ensures.stopped (λ asks. c.in_default.not-Ask (c.run.ensures.variant ∙ asks))

pub returns-clause-answered : goal.returns-clause-answered
returns-clause-answered c =
    let before = machine_of c.questions.evaluator in
    let ran = machine_of c.run.new.self in
    answers-now c.questions.self c.args.def c.args.body.value c.args.limits.now before ran c.questions.invariant.way c.run.ensures.ended c.run.ensures.kept
    c.ended.result.turns c.ended.result.result c.ended.ensures.carries c.ended.ensures.turns
