use Rattle.std.proofs.Common.{◌≡◌, ℕ, true, false, ap, rules, sym, subst, ◌∷◌, [], Bool}
use Rattle.std.specs.Prelude.{◌==◌, if◌then◌else◌}
use Rattle.mir_eval.specs.Frames.{frame_of}
use Rattle.mir_eval.specs.Reads.{HoldsAt}
use Rattle.mir_eval.proofs.RowSays.{branch-leads, goto-leads}
use Rattle.mir_eval.proofs.blocks.follow.Goals as goal
use Rattle.mir_eval.proofs.blocks.follow.Goals.{in-Some, in-None+in_ok-byte-in-None}

pub returns-in-Goto : goal.returns-in-Goto
returns-in-Goto g c = goto-leads (frame_of c.args.frame.now) (g.M.Memory.areas c.args.memory.now) c.args.way.now c.in-Goto.block c.in-Goto.is

pub returns-then-byte-value : goal.returns-then-byte-value
returns-then-byte-value g c =
    let at = c.in-Branch in
    let memory = g.M.Memory.areas c.args.memory.now in
    let held : HoldsAt (frame_of c.args.frame.now) memory at.spot (c.match-byte_at.byte ∷ []) =
    elim c.match-byte_at.branch [
      | in-Some w ↦ subst (λ (b : ℕ). HoldsAt (frame_of c.args.frame.now) memory at.spot (b ∷ [])) (sym w.byte-is) w.in-Some.ensures
      | in-None+in_ok-byte-in-None w ↦ subst (λ (b : ℕ). HoldsAt (frame_of c.args.frame.now) memory at.spot (b ∷ [])) (sym w.byte-is) w.in_ok-byte-in-None.ensures
    ] in
    let equal : (at.value == c.match-byte_at.byte) ≡ true = search rules in
    branch-leads (frame_of c.args.frame.now) memory at.spot at.value at.then at.otherwise c.match-byte_at.byte held c.args.way.now at.then at.is
    (ap (λ (b : Bool). if b then (at.then) else (at.otherwise)) equal)

pub returns-else-byte-value : goal.returns-else-byte-value
returns-else-byte-value g c =
    let at = c.in-Branch in
    let memory = g.M.Memory.areas c.args.memory.now in
    let held : HoldsAt (frame_of c.args.frame.now) memory at.spot (c.match-byte_at.byte ∷ []) =
    elim c.match-byte_at.branch [
      | in-Some w ↦ subst (λ (b : ℕ). HoldsAt (frame_of c.args.frame.now) memory at.spot (b ∷ [])) (sym w.byte-is) w.in-Some.ensures
      | in-None+in_ok-byte-in-None w ↦ subst (λ (b : ℕ). HoldsAt (frame_of c.args.frame.now) memory at.spot (b ∷ [])) (sym w.byte-is) w.in_ok-byte-in-None.ensures
    ] in
    let other : (at.value == c.match-byte_at.byte) ≡ false = search rules in
    branch-leads (frame_of c.args.frame.now) memory at.spot at.value at.then at.otherwise c.match-byte_at.byte held c.args.way.now at.otherwise at.is
    (ap (λ (b : Bool). if b then (at.then) else (at.otherwise)) other)
