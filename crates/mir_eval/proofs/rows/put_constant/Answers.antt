use Rattle.std.proofs.Common.{◌≡◌, List, Ok, Some, ℕ, refl, ap, ◌∙◌}
use Rattle.mir.specs.Run.{copied}
use Rattle.mir_eval.specs.Frames.{frame_of}
use Rattle.mir_eval.proofs.RowSays.{does-put, if-some}
use Rattle.mir_eval.proofs.rows.put_constant.Goals as goal

pub returns-clause-done : goal.returns-clause-done
returns-clause-done g c =
    let memory = g.M.Memory.areas c.args.memory.now in
    let to = c.in_ok-to.to in
    if-some c.write_short.result
    (λ (done : Ok (g.M.Memory.areas c.write_short.new.memory) ≡ copied memory (Some to) (Ok c.bytes.result.now)).
    does-put (frame_of c.args.frame.now) memory _ c.args.to.now to c.in_ok-to.ensures _ c.args.value.now refl (done ∙ ap (λ (bytes : List ℕ). copied memory (Some to) (Ok bytes)) c.bytes.ensures))
    c.write_short.ensures.done
