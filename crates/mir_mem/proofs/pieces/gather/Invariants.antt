use Rattle.std.proofs.Common.{◌≡◌, ◌≤◌, ◌-◌, length, take}
use Rattle.std.specs.List.{concat}
use Rattle.mir_mem.proofs.pieces.gather.Given as goal

-- the pieces so far are gathered
abbrev pub invariant-loop-i : goal.invariant-loop-i
invariant-loop-i l = record {
  within : l.i ≤ length l.view;
  fits : length (concat l.view) ≤ 16;
  count : l.count ≡ length (concat (take l.i l.view));
  bytes : take l.count l.room ≡ concat (take l.i l.view);
}

abbrev pub decreases-loop-i : goal.decreases-loop-i
decreases-loop-i l = length l.view - l.i
