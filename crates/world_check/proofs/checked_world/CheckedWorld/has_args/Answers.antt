use Rattle.std.proofs.Common.{◌∙◌, ap}
use Rattle.check_names.specs.Known.{are_args_known}
use Rattle.world_check.proofs.checked_world.CheckedWorld.has_args.Goals as goal

pub returns : goal.returns
returns c = c.are_args_known.ensures ∙ ap (λ world. are_args_known world c.args.args.now) c.self.view_is
