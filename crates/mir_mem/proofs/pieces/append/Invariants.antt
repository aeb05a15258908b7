use Rattle.std.proofs.Common.{◌≡◌, ◌≤◌, ◌-◌, ◌++◌, length, take}
use Rattle.std.specs.List.{concat}
use Rattle.mir_mem.proofs.pieces.append.Given as goal

-- the pieces so far are appended
abbrev pub invariant-loop-i : goal.invariant-loop-i
invariant-loop-i l = record {
  within : l.i ≤ length l.view;
  bytes : l.all.items ≡ l.initial.all.items ++ concat (take l.i l.view);
}

abbrev pub decreases-loop-i : goal.decreases-loop-i
decreases-loop-i l = length l.view - l.i
