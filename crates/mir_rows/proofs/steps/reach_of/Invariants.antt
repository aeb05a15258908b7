use Rattle.std.specs.Option.{option_copied}
use Rattle.mir_rows.proofs.Reaching.{Led}
use Rattle.mir_rows.proofs.steps.reach_of.Given as goal

-- what leads so far and the elements from here on lead as far as all
abbrev pub invariant-loop-elem : goal.invariant-loop-elem
invariant-loop-elem l = Led l.db l.elements (option_copied l.ty) l.elem-index (option_copied l.seen) l.so_far
