use Rattle.std.specs.Prelude.{is_ok}
use Rattle.mir_eval.proofs.Callers.{put-of-world}
use Rattle.mir_eval.proofs.frames.Program.push_caller.Goals as goal

pub returns-clause-worlds : goal.returns-clause-worlds
returns-clause-worlds c =
    put-of-world c.args.self.now.db.now c.args.below.now.items c.push.new.self.items c.args.caller (is_ok c.push.result) c.push.ensures.items c.requires.others c.requires.world
