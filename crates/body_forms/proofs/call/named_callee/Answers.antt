use Rattle.body_forms.specs.Contexts.{source_of}
use Rattle.body_forms.proofs.Calls.{names-callee}
use Rattle.body_forms.proofs.call.named_callee.Goals as goal

pub returns-in-Some-clause-callee : goal.returns-in-Some-clause-callee
returns-in-Some-clause-callee c = names-callee (source_of c.args.context.now) c.args.e.0 c.args.callee.0 c.new.result c.constant.result c.new.ensures c.constant.ensures.lowered
