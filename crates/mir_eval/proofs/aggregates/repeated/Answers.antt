use Rattle.std.proofs.Common.{◌*◌, ◌<◌, ℕ, length, Some, inl, sym, ap, subst}
use Rattle.std.specs.List.{concat}
use Rattle.mir.specs.Run.{copied}
use Rattle.mir_eval.proofs.TooLong.{repeated-too-long, repeats-none, repeats-some, repeats-unread}
use Rattle.mir_eval.proofs.aggregates.repeated.Goals as goal

pub returns-in_default : goal.returns-in_default
returns-in_default g c = λ to. inl (ap (copied (g.M.Memory.areas c.args.memory.now) (Some to)) (repeats-none _ _ (sym c.in_default.ensures)))

pub returns-in_default-operand : goal.returns-in_default-operand
returns-in_default-operand g c =
    λ to. inl (ap (copied (g.M.Memory.areas c.args.memory.now) (Some to)) (repeats-unread c.in-Some.count _ _ (sym c.in-Some.ensures) (sym c.in_default-operand.ensures)))

pub returns-then-is_too_long : goal.returns-then-is_too_long
unfolding copied
returns-then-is_too_long g c =
    λ to.
    let areas = g.M.Memory.areas c.args.memory.now in
    let count = c.in-Some.count in
    let bytes = concat c.in-Some-operand.view in
    let more = c.if-is_too_long.ensures.yes in
    inl (sym (repeated-too-long areas to count bytes _ _ (sym c.in-Some.ensures) (sym c.in-Some-operand.ensures)
    (subst (λ (n : ℕ). length areas.stack < count * n) c.len.ensures more.0) (subst (λ (n : ℕ). length areas.heap < count * n) c.len.ensures more.1)))

pub returns-in-Ok : goal.returns-in-Ok
returns-in-Ok g c =
    λ to.
    inl (ap (copied (g.M.Memory.areas c.args.memory.now) (Some to)) (repeats-some c.in-Some.count (concat c.in-Some-operand.view) c.in-Ok.bytes _ _ (sym c.in-Some.ensures) (sym c.in-Some-operand.ensures) c.in-Ok.ensures))
