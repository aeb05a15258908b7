-- What a source counts on entering it is counted to its end, and so is what its body counts by itself.
use Rattle.std.proofs.Common.{◌≡◌, ◌≢◌, ℕ, ◌<◌, ◌≤◌, Bool, true, false, ◌&&◌, List, refl, sym, ap, ◌∙◌, subst, arith}
use Rattle.world.specs.Checked.{IsCheckedBody}
use Rattle.world.specs.declared.limits.Limits.{Limits}
use Rattle.mir_lower.proofs.Lacking.{entering-nests}
use Rattle.source_meaning.proofs.Defined.{cost_is_defined}
use Rattle.source_meaning.specs.Ends.{Cost, cost_of, plus, End, Go, Jumps, Faults, Stuck, More, after}
use Rattle.source_meaning.specs.Entering.{entering, is_cost_defined, run_cost}
use Rattle.source_meaning.specs.Meaning.{meaning_from, meaning_of}
use Rattle.source_meaning.specs.Source.{Source, zeroed}
use Rattle.source_meaning.specs.Valid.{HasDefinedCost}
use Rattle.consteval.specs.Answers.{IsWithinLimits, IsWithinRoom, cost_at}

-- a cost is part of another: it takes no more bytes and levels, and is defined where the other is
record IsPart (few many : Cost) : Type 0 where
  pub bytes : few.bytes ≤ many.bytes
  pub nesting : few.nesting ≤ many.nesting
  pub defined : many.defined ≡ true → few.defined ≡ true

-- where two tests hold, the first does
first-defined : (one other : Bool) → (one && other) ≡ true → one ≡ true
first-defined true other is = refl
first-defined false other is = is

-- a cost is part of what it and another add up to
first-part : (first second : Cost) → IsPart first (plus first second)
unfolding plus
first-part first second = record { bytes = omega arith; nesting = omega arith; defined = first-defined first.defined second.defined }

-- and of that of an end that it stands before
after-part : (cost : Cost) (end : End (List ℕ)) → after cost end ≢ Stuck → IsPart cost (cost_of (after cost end))
unfolding after
after-part cost (Go bytes store rest) there = first-part cost rest
after-part cost (Jumps to store rest) there = first-part cost rest
after-part cost (Faults fault rest) there = first-part cost rest
after-part cost Stuck there = absurd (there refl)
after-part cost (More rest) there = first-part cost rest

-- what is counted on entering a body is part of what it costs
entering-part : (source : Source) (fuel : ℕ) → meaning_from source (zeroed source) fuel ≢ Stuck → IsPart (entering source) (cost_at source fuel)
unfolding meaning_from
entering-part source fuel there = after-part (entering source) _ there

-- the cost of entering a body is defined where its types have sizes
entering-defined : (source : Source) → (entering source).defined ≡ is_cost_defined source
unfolding entering
entering-defined source = refl

-- the run of a body by itself enters the body's blocks, takes its bytes and at least its levels, and has a defined cost where the body has
pub record IsRunOf (few many : Cost) : Type 0 where
  pub turns : few.turns ≡ many.turns
  pub bytes : few.bytes ≡ many.bytes
  pub nesting : few.nesting ≤ many.nesting
  pub defined : few.defined ≡ many.defined

-- so it is with a cost
run-of-cost : (source : Source) (cost : Cost) → IsRunOf cost (plus (run_cost source) cost)
unfolding plus run_cost
run-of-cost source cost = record { turns = omega arith; bytes = omega arith; nesting = omega arith; defined = refl }

-- with an end
run-of-end : (source : Source) (end : End (List ℕ)) → IsRunOf (cost_of end) (cost_of (after (run_cost source) end))
unfolding after
run-of-end source (Go bytes store cost) = run-of-cost source cost
run-of-end source (Jumps to store cost) = run-of-cost source cost
run-of-end source (Faults fault cost) = run-of-cost source cost
run-of-end source Stuck = record { turns = refl; bytes = refl; nesting = omega arith; defined = refl }
run-of-end source (More cost) = run-of-cost source cost

-- and with the meaning at an amount of fuel
pub run-of : (source : Source) (fuel : ℕ) → IsRunOf (cost_at source fuel) (cost_of (meaning_of source fuel))
run-of source fuel = run-of-end source (meaning_from source (zeroed source) fuel)

-- an end that isn't stuck behind a cost isn't stuck
stuck-after : (cost : Cost) (end : End (List ℕ)) → after cost end ≢ Stuck → end ≢ Stuck
unfolding after
stuck-after cost end there stuck = there (ap (after cost) stuck)

-- where the meaning of a run isn't stuck, neither is that of its body
pub body-has-end : (source : Source) (fuel : ℕ) (end : End (List ℕ)) → meaning_of source fuel ≡ end → end ≢ Stuck → meaning_from source (zeroed source) fuel ≢ Stuck
body-has-end source fuel end reached there = stuck-after (run_cost source) (meaning_from source (zeroed source) fuel) (λ stuck. there (sym reached ∙ stuck))

-- what enters a block has a meaning
pub body-with-blocks : (source : Source) (fuel blocks : ℕ) → blocks < (cost_at source fuel).turns → meaning_from source (zeroed source) fuel ≢ Stuck
body-with-blocks source fuel blocks less stuck =
    let none : (cost_at source fuel).turns ≡ 0 = ap (λ (end : End (List ℕ)). (cost_of end).turns) stuck in
    omega arith

module _ (source : Source) (limits : Limits) (fuel : ℕ) where
  -- where the cost of a run is within the limits, so is that of its body
  pub body-within : (end : End (List ℕ)) → meaning_of source fuel ≡ end → IsWithinLimits (cost_of end) limits → IsWithinLimits (cost_at source fuel) limits
  body-within end reached within =
      let run = subst (λ (e : End (List ℕ)). IsRunOf (cost_at source fuel) (cost_of e)) reached (run-of source fuel) in
      let room = within.room in
      let same_turns = run.turns in
      let same_bytes = run.bytes in
      let more = run.nesting in
      let turns = within.turns in
      let nesting = room.nesting in
      let bytes = room.bytes in
      record { room = record { defined = run.defined ∙ room.defined; nesting = omega arith; bytes = omega arith }; turns = omega arith }

  -- where what a body costs at some amount of fuel is defined and within the limits
  module _ (there : meaning_from source (zeroed source) fuel ≢ Stuck) (room : IsWithinRoom (cost_at source fuel) limits) where
    -- there is a level of nesting for it
    pub room-has-level : 0 < limits.nesting
    room-has-level =
        let entered = entering-part source fuel there in
        let level = entering-nests source in
        let counted = entered.nesting in
        let bound = room.nesting in
        omega arith

    -- and room for its cells
    pub room-has-bytes : (entering source).bytes ≤ limits.bytes
    room-has-bytes =
        let entered = entering-part source fuel there in
        let counted = entered.bytes in
        let bound = room.bytes in
        omega arith

    -- and its types have sizes
    pub room-has-sizes : IsCheckedBody source.body source.infer → HasDefinedCost source
    room-has-sizes checked =
        let entered = entering-part source fuel there in
        (cost_is_defined source checked).0 (sym (entering-defined source) ∙ entered.defined room.defined)
