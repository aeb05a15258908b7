use Rattle.std.proofs.Common.{sym, ◌∙◌, ap}
use Rattle.mir.specs.Switches.{all_targets_of}
use Rattle.mir.proofs.Targets.{targets_together}
use Rattle.mir.proofs.switch.SwitchTargets.all_targets.Goals as goal

pub returns : goal.returns
returns c =
    c.as_slice.ensures ∙ sym (targets_together c.self.inside.values.items c.self.inside.targets.items _ c.self.invariant)
    ∙ ap all_targets_of c.self.view_is
