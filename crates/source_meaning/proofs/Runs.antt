-- What holds of a body's meaning holds of that of a body that runs by itself.
use Rattle.std.proofs.Common.{◌≡◌, ◌≢◌, ℕ, List, refl, arith}
use Rattle.world.specs.Checked.{IsChecked, IsCheckedBody}
use Rattle.source_meaning.specs.Aggregates.{HasAggregates}
use Rattle.source_meaning.specs.Ends.{Cost, plus, End, Go, Jumps, Faults, Stuck, More, after, GoesOn, JumpsNowhere}
use Rattle.source_meaning.specs.Entering.{run_cost}
use Rattle.source_meaning.specs.Meaning.{meaning_from, meaning_of}
use Rattle.source_meaning.specs.Source.{Source, zeroed}
use Rattle.source_meaning.specs.Valid.{IsPlainThroughout}
use Rattle.source_meaning.proofs.Lasting.{bodies_go_on}
use Rattle.source_meaning.proofs.Sizes.{plain_is_never_stuck, plain_jumps_nowhere}
use Rattle.source_meaning.proofs.Stores.{zeroed_is_sized}

goes_on_after : (many : ℕ) (cost : Cost) (end : End (List ℕ)) → GoesOn many end → GoesOn many (after cost end)
unfolding after plus
goes_on_after many cost (Go value store rest) goes = tt
goes_on_after many cost (Jumps to store rest) goes = tt
goes_on_after many cost (Faults fault rest) goes = tt
goes_on_after many cost Stuck goes = tt
goes_on_after many cost (More rest) goes = omega arith

stuck_before : (cost : Cost) (end : End (List ℕ)) → after cost end ≡ Stuck → end ≡ Stuck
unfolding after
stuck_before cost (Go value store rest) is = absurd cc
stuck_before cost (Jumps to store rest) is = absurd cc
stuck_before cost (Faults fault rest) is = absurd cc
stuck_before cost Stuck is = refl
stuck_before cost (More rest) is = absurd cc

jumps_nowhere_after : (cost : Cost) (end : End (List ℕ)) → JumpsNowhere end → JumpsNowhere (after cost end)
unfolding after
jumps_nowhere_after cost (Go value store rest) nowhere = tt
jumps_nowhere_after cost (Jumps to store rest) nowhere = nowhere
jumps_nowhere_after cost (Faults fault rest) nowhere = tt
jumps_nowhere_after cost Stuck nowhere = tt
jumps_nowhere_after cost (More rest) nowhere = tt

module _ (source : Source) where
  -- it ends with some amount of fuel, or counts at least so many blocks
  pub run_goes_on : (many : ℕ) → IsChecked source.world → IsCheckedBody source.body source.infer → (fuel : ℕ) × GoesOn many (meaning_of source fuel)
  run_goes_on many world checked =
      let reached = bodies_go_on source (zeroed source) many world checked in
      (reached.0, goes_on_after many (run_cost source) (meaning_from source (zeroed source) reached.0) reached.1)

  module _ (fuel : ℕ) (checked : IsChecked source.world) (aggregates : HasAggregates source.world) (body : IsCheckedBody source.body source.infer) (plain : IsPlainThroughout source) where
    pub run_is_never_stuck : meaning_of source fuel ≢ Stuck
    run_is_never_stuck stuck =
        plain_is_never_stuck source (zeroed source) fuel checked aggregates body plain (zeroed_is_sized source) (stuck_before (run_cost source) (meaning_from source (zeroed source) fuel) stuck)

    pub run_jumps_nowhere : JumpsNowhere (meaning_of source fuel)
    run_jumps_nowhere =
        jumps_nowhere_after (run_cost source) (meaning_from source (zeroed source) fuel) (plain_jumps_nowhere source (zeroed source) fuel checked aggregates body plain (zeroed_is_sized source))
