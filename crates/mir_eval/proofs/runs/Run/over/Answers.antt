use Rattle.std.proofs.Common.{List, ◌++◌, Err, ap, ◌∙◌}
use Rattle.std.specs.Prelude.{map}
use Rattle.std.specs.Option.{option_to_list}
use Rattle.mir.specs.Run.{Waiting, trail_of}
use Rattle.mir_eval.specs.declared.frames.Suspended.{Suspended}
use Rattle.mir_eval.specs.Frames.{callers}
use Rattle.mir_eval.specs.Machine.{wrapped}
use Rattle.mir_eval.specs.Phases.{frame_in}
use Rattle.mir_eval.proofs.Leading.{over-leads}
use Rattle.mir_eval.proofs.runs.Run.over.Goals as goal

pub returns-in-Ok-clause-leads : goal.returns-in-Ok-clause-leads
returns-in-Ok-clause-leads g c =
    let frame = frame_in c.args.self.now in
    over-leads g.M.Memory.areas frame c.args.self.now c.args.error (option_to_list c.args.first ++ trail_of frame) c.in-Ok.outcome
    (c.in-Ok.ensures ∙ ap (λ (below : List Suspended). Err (wrapped c.args.error (option_to_list c.args.first ++ map (λ (w : Waiting). w.call) (callers below)))) c.as_slice.ensures.value)
