-- How a run begins, where its pointers have the machine's width and a level of nesting is left.
use Rattle.std.proofs.Common.{◌≡◌, ◌≢◌, ℕ, zero, suc, Bool, true, cond, Result, Err, refl, ap, ◌∙◌}
use Rattle.std.specs.Prelude.{codes}
use Rattle.mir.specs.declared.body.MirBody.{MirBody}
use Rattle.mir.specs.declared.errors.MirEvalError.{MirEvalError}
use Rattle.mir.specs.declared.errors.MirEvalError as error
use Rattle.mir.specs.Run.{begun}
use Rattle.mir_eval.specs.Machine.{Machine, State, on_a_level, pointer_bytes, program_at_first}
use Rattle.mir_eval.specs.Start.{is_own_width, started, start_of}

on-a-level : (levels : ℕ) (r : Result State MirEvalError) → levels ≢ 0 → on_a_level levels r ≡ r
on-a-level zero r some = absurd (some refl)
on-a-level (suc levels) r some = refl

pub starts : (machine : Machine) (body : MirBody) (r : Result State MirEvalError) → is_own_width (pointer_bytes machine.world machine.owner) ≡ true → machine.nesting ≢ 0 →
    started body.param_locals (begun (program_at_first machine) body) body.start_block.0 machine.blocks ≡ r → start_of machine body ≡ r
unfolding start_of
starts machine body r own some is =
    ap (λ (b : Bool). cond b (on_a_level machine.nesting (started body.param_locals (begun (program_at_first machine) body) body.start_block.0 machine.blocks)) (Err (error.NotSupported (codes "targets with different pointer size from host")))) own
    ∙ on-a-level machine.nesting _ some ∙ is
