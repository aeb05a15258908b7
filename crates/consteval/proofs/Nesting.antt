-- How deep an evaluation nests: a level for the run, and those of its value.
use Rattle.std.proofs.Common.{◌≡◌, ◌≢◌, ℕ, zero, suc, ◌<◌, ◌≤◌, ◌⊎◌, inl, inr, Bool, true, false, if◌then◌else◌, nat_le, le-leb, leb-false, List, Some, Result, Ok, Err, refl, ap, subst, arith}
use Rattle.types.specs.declared.ty.Const.{Const}
use Rattle.mir.specs.declared.errors.MirEvalError.{MirEvalError}
use Rattle.mir.specs.declared.errors.MirEvalError as error
use Rattle.mir_eval.specs.Machine.{on_a_level, on_levels}
use Rattle.source_meaning.specs.Ends.{Cost, cost_of, plus, End, Go, Jumps, Faults, Stuck, More, after}
use Rattle.source_meaning.specs.Entering.{run_cost, value_height}
use Rattle.source_meaning.specs.Meaning.{Gives, meaning_from, meaning_of}
use Rattle.source_meaning.specs.Source.{Source, Store, node_type, root, zeroed}
use Rattle.source_meaning.specs.Heights.{height}
use Rattle.types.specs.declared.ty.Ty.{Ty}

-- a cost takes at least the nesting of what stands before it
plus-nests : (first second : Cost) → first.nesting ≤ (plus first second).nesting
unfolding plus
plus-nests first second = omega arith

after-nests : (cost : Cost) (end : End (List ℕ)) → after cost end ≢ Stuck → cost.nesting ≤ (cost_of (after cost end)).nesting
unfolding after
after-nests cost (Go bytes store rest) there = plus-nests cost rest
after-nests cost (Jumps to store rest) there = plus-nests cost rest
after-nests cost (Faults fault rest) there = plus-nests cost rest
after-nests cost Stuck there = absurd (there refl)
after-nests cost (More rest) there = plus-nests cost rest

-- a run takes at least a level
pub run-nests : (source : Source) → 0 < (run_cost source).nesting
unfolding run_cost
run-nests source = omega arith

-- and as many more as its value's type is high
pub run-is-high : (source : Source) (ty : Ty) → node_type source (root source) ≡ Some ty → (run_cost source).nesting ≡ suc (height source.world ty)
unfolding run_cost
run-is-high source ty typed = ap (λ t. suc (value_height source.world t)) typed

-- whatever fuel there is, a meaning nests by at least as many levels
meaning-nests : (source : Source) (fuel : ℕ) → meaning_of source fuel ≢ Stuck → (run_cost source).nesting ≤ (cost_of (meaning_of source fuel)).nesting
meaning-nests source fuel there = after-nests (run_cost source) (meaning_from source (zeroed source) fuel) there

-- so does an end that a source has
pub value-nests : (source : Source) (bytes : List ℕ) (store : Store) (cost : Cost) → Gives source (Go bytes store cost) → (run_cost source).nesting ≤ cost.nesting
value-nests source bytes store cost gives =
    subst (λ (end : End (List ℕ)). end ≢ Stuck → (run_cost source).nesting ≤ (cost_of end).nesting) gives.reached (meaning-nests source gives.fuel) (λ stuck. cc)

-- where there are enough levels of nesting, what takes them is as it is
pub has-levels : {A : Type 0} (taken left : ℕ) (result : Result A MirEvalError) → taken ≤ left → on_levels taken left result ≡ result
has-levels taken left result enough = ap (λ (test : Bool). if test then result else Err error.StackOverflow) (le-leb taken left enough)

levels-tested : (test : Bool) (value konst : Const) → Ok konst ≡ (if test then Ok value else Err error.StackOverflow) → konst ≡ value
levels-tested true value konst h = cc
levels-tested false value konst h = absurd cc

-- a value that was handed out on levels is the one that was there
pub value-on-levels : (taken left : ℕ) (value konst : Const) → Ok konst ≡ on_levels taken left (Ok value) → konst ≡ value
value-on-levels taken left value konst h = levels-tested (nat_le taken left) value konst h

levels-lacked : (taken left : ℕ) (test : Bool) → nat_le taken left ≡ test → (value : Const) (e : MirEvalError) → Err e ≡ (if test then Ok value else Err error.StackOverflow) → (left < taken) × (e ≡ error.StackOverflow)
levels-lacked taken left true is value e h = absurd cc
levels-lacked taken left false is value e h = (leb-false taken left is, cc)

-- a value that wasn't handed out had too few
pub fault-on-levels : (taken left : ℕ) (value : Const) (e : MirEvalError) → Err e ≡ on_levels taken left (Ok value) → (left < taken) × (e ≡ error.StackOverflow)
fault-on-levels taken left value e h = levels-lacked taken left (nat_le taken left) refl value e h

-- what takes a level was refused for want of it, or for a cause of its own
pub refused-on-level : {A : Type 0} (levels : ℕ) (result : Result A MirEvalError) (e : MirEvalError) → on_a_level levels result ≡ Err e → ((e ≡ error.StackOverflow) × (levels ≡ 0)) ⊎ ((0 < levels) × (result ≡ Err e))
refused-on-level zero result e h = inl (cc, refl)
refused-on-level (suc levels) result e h = inr (omega arith, h)

-- what takes a level had one
pub made-on-level : {A : Type 0} (levels : ℕ) (result : Result A MirEvalError) (made : A) → on_a_level levels result ≡ Ok made → (0 < levels) × (result ≡ Ok made)
made-on-level zero result made h = absurd cc
made-on-level (suc levels) result made h = (omega arith, h)
