use Rattle.std.proofs.Common.{◌≡◌, ◌∷◌, take}
use Rattle.body_forms.proofs.call.method_args.Given as goal

-- the receiver stands before the arguments so far
abbrev pub invariant-loop-arg : goal.invariant-loop-arg
invariant-loop-arg l = l.all ≡ l.fn.receiver ∷ take l.arg-index l.args
