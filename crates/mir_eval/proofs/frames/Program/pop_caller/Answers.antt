use Rattle.mir_eval.proofs.Callers.{left-of-world, taken-of-world}
use Rattle.mir_eval.proofs.frames.Program.pop_caller.Goals as goal

pub returns-clause-world : goal.returns-clause-world
returns-clause-world c = taken-of-world c.args.self.now.db.now c.args.below.now.items c.pop.new.self.items c.pop.result c.pop.ensures.items c.requires

pub returns-clause-others : goal.returns-clause-others
returns-clause-others c = left-of-world c.args.self.now.db.now c.args.below.now.items c.pop.new.self.items c.pop.result c.pop.ensures.items c.requires
