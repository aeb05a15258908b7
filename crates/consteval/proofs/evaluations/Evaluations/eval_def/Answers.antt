-- What an answer says of its source.
use Rattle.std.proofs.Common.{subst}
use Rattle.world.specs.Checked.{IsChecked}
use Rattle.source_meaning.specs.Aggregates.{HasAggregates}
use Rattle.consteval.specs.Sources.{source_of}
use Rattle.consteval.proofs.Causes.{cause-out, cause-stays, cause-value}
use Rattle.consteval.proofs.Faults.{ends-in-panic, ends-in-undefined}
use Rattle.consteval.proofs.Headline.{answer-value, answer-counts, answer-closed, answer-fault, answer-completes, answer-endless}
use Rattle.consteval.proofs.Keeping.{kept-value, stays-then}
use Rattle.consteval.proofs.evaluations.Evaluations.eval_def.Goals as goal

pub keep_answer-requires : goal.keep_answer-requires
keep_answer-requires c =
    let answer = c.answer-evaluated.result in
    cause-value c.answer-evaluated.new.self c.args.def c.args.args.now c.args.limits.now answer.turns answer.result c.answer-evaluated.ensures.cause

pub returns-in-Ok-clause-value : goal.returns-in-Ok-clause-value
returns-in-Ok-clause-value c row konst valid is =
    let evaluated = c.answer-evaluated.ensures in
    let answer = c.answer-evaluated.result in
    answer-value c.args.self.now.world (subst IsChecked evaluated.stays.world evaluated.checked) (subst HasAggregates evaluated.stays.world evaluated.parts) c.args.def c.args.args.now row valid c.answer-evaluated.new.self evaluated.stays.world evaluated.sound c.args.limits.now answer.turns answer.result
    evaluated.cause konst is

pub returns-in-Ok-clause-counts : goal.returns-in-Ok-clause-counts
returns-in-Ok-clause-counts c row konst valid is =
    let evaluated = c.answer-evaluated.ensures in
    let answer = c.answer-evaluated.result in
    answer-counts c.args.self.now.world (subst IsChecked evaluated.stays.world evaluated.checked) (subst HasAggregates evaluated.stays.world evaluated.parts) c.args.def c.args.args.now row valid c.answer-evaluated.new.self evaluated.stays.world evaluated.sound c.args.limits.now answer.turns answer.result
    evaluated.cause konst is

pub returns-in-Ok-clause-panic : goal.returns-in-Ok-clause-panic
returns-in-Ok-clause-panic c row e word valid is says =
    let evaluated = c.answer-evaluated.ensures in
    let answer = c.answer-evaluated.result in
    ends-in-panic (source_of c.args.self.now.world row) c.args.limits.now e word
    (answer-fault c.args.self.now.world (subst IsChecked evaluated.stays.world evaluated.checked) (subst HasAggregates evaluated.stays.world evaluated.parts) c.args.def c.args.args.now row valid c.answer-evaluated.new.self evaluated.stays.world evaluated.sound c.args.limits.now answer.turns answer.result
    evaluated.cause e is)
    says

pub returns-in-Ok-clause-undefined : goal.returns-in-Ok-clause-undefined
returns-in-Ok-clause-undefined c row e text valid is says =
    let evaluated = c.answer-evaluated.ensures in
    let answer = c.answer-evaluated.result in
    ends-in-undefined (source_of c.args.self.now.world row) c.args.limits.now e text
    (answer-fault c.args.self.now.world (subst IsChecked evaluated.stays.world evaluated.checked) (subst HasAggregates evaluated.stays.world evaluated.parts) c.args.def c.args.args.now row valid c.answer-evaluated.new.self evaluated.stays.world evaluated.sound c.args.limits.now answer.turns answer.result
    evaluated.cause e is)
    says

pub returns-in-Ok-clause-closed : goal.returns-in-Ok-clause-closed
returns-in-Ok-clause-closed c row valid =
    let evaluated = c.answer-evaluated.ensures in
    let answer = c.answer-evaluated.result in
    answer-closed c.args.self.now.world (subst IsChecked evaluated.stays.world evaluated.checked) (subst HasAggregates evaluated.stays.world evaluated.parts) c.args.def c.args.args.now row valid c.answer-evaluated.new.self evaluated.stays.world evaluated.sound c.args.limits.now answer.turns answer.result
    evaluated.cause

pub returns-in-Ok-clause-complete : goal.returns-in-Ok-clause-complete
returns-in-Ok-clause-complete c row valid =
    let evaluated = c.answer-evaluated.ensures in
    let answer = c.answer-evaluated.result in
    answer-completes c.args.self.now.world (subst IsChecked evaluated.stays.world evaluated.checked) (subst HasAggregates evaluated.stays.world evaluated.parts) c.args.def c.args.args.now row valid c.answer-evaluated.new.self evaluated.stays.world evaluated.sound c.args.limits.now answer.turns answer.result
    evaluated.cause

pub returns-in-Ok-clause-endless : goal.returns-in-Ok-clause-endless
returns-in-Ok-clause-endless c row valid none =
    let evaluated = c.answer-evaluated.ensures in
    let answer = c.answer-evaluated.result in
    answer-endless c.args.self.now.world (subst IsChecked evaluated.stays.world evaluated.checked) (subst HasAggregates evaluated.stays.world evaluated.parts) c.args.def c.args.args.now row valid c.answer-evaluated.new.self evaluated.stays.world evaluated.sound c.args.limits.now answer.turns answer.result
    none evaluated.cause

pub returns-in-Ok-clause-cause : goal.returns-in-Ok-clause-cause
returns-in-Ok-clause-cause c =
    cause-stays c.answer-evaluated.new.self c.keep_answer.new.self c.keep_answer.ensures.stays c.args.def c.args.args.now c.args.limits.now c.answer-evaluated.result.turns c.answer-evaluated.result.result c.answer-evaluated.ensures.cause

pub returns-in-Ok-clause-stays : goal.returns-in-Ok-clause-stays
returns-in-Ok-clause-stays c =
    stays-then c.args.self.now c.answer-evaluated.new.self c.keep_answer.new.self c.answer-evaluated.ensures.stays c.keep_answer.ensures.stays

pub returns-in-Ok-clause-kept : goal.returns-in-Ok-clause-kept
returns-in-Ok-clause-kept c valued = kept-value c.keep_answer.new.self c.args.def (c.in-Ok.ensures.kept valued)

pub returns-in-Err-clause-cause : goal.returns-in-Err-clause-cause
returns-in-Err-clause-cause c =
    cause-out c.answer-evaluated.new.self c.keep_answer.new.self c.keep_answer.ensures.stays c.args.def c.args.args.now c.args.limits.now c.answer-evaluated.result.turns c.answer-evaluated.result.result c.answer-evaluated.ensures.cause

pub returns-in-Err-clause-stays : goal.returns-in-Err-clause-stays
returns-in-Err-clause-stays c =
    stays-then c.args.self.now c.answer-evaluated.new.self c.keep_answer.new.self c.answer-evaluated.ensures.stays c.keep_answer.ensures.stays
