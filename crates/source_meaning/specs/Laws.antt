-- The laws of the meaning.
use Rattle.std.specs.Prelude.{◌≡◌, ◌≢◌, ◌↔◌, true, ℕ, ◌≤◌, List, ◌++◌, ◌∷◌}
use Rattle.world.specs.Checked.{IsChecked, IsCheckedBody}
use Rattle.source_meaning.specs.Aggregates.{HasAggregates}
use Rattle.source_meaning.specs.Built.{IsBuiltForm}
use Rattle.source_meaning.specs.Ends.{Cost, plus, no_cost, Stuck, IsOver, GoesOn, JumpsNowhere}
use Rattle.source_meaning.specs.Entering.{is_cost_defined}
use Rattle.source_meaning.specs.Events.{Event, Scopes, scopes_after, events, marked}
use Rattle.source_meaning.specs.Meaning.{meaning_from}
use Rattle.source_meaning.specs.Source.{Source, Cell, Store, IsSized, node}
use Rattle.source_meaning.specs.Laid.{is_laid_out}
use Rattle.source_meaning.specs.Valid.{IsPlainNode, IsPlainThroughout, AreLaidOut, HasDefinedCost}

-- from whatever store a body begins, more fuel changes nothing
abbrev pub MoreFuelChangesNothing : Type 0
MoreFuelChangesNothing = (source : Source) (store : Store) (fuel more : ℕ) → fuel ≤ more → IsOver (meaning_from source store fuel) →
    meaning_from source store more ≡ meaning_from source store fuel

-- A body of a checked world, in which tuples, arrays and structs have room for their parts, that is plain, as are all that it reaches by calls, is never
-- stuck, where it begins with as many bytes in each cell as the cell's type has.
abbrev pub PlainIsNeverStuck : Type 0
PlainIsNeverStuck =
    (source : Source) (store : Store) (fuel : ℕ) → IsChecked source.world → HasAggregates source.world → IsCheckedBody source.body source.infer → IsPlainThroughout source →
    IsSized source store → meaning_from source store fuel ≢ Stuck

-- and never ends in a jump
abbrev pub PlainJumpsNowhere : Type 0
PlainJumpsNowhere =
    (source : Source) (store : Store) (fuel : ℕ) → IsChecked source.world → HasAggregates source.world → IsCheckedBody source.body source.infer → IsPlainThroughout source →
    IsSized source store → JumpsNowhere (meaning_from source store fuel)

-- From whatever store a checked body of a checked world begins, and for each number `many`, some amount of fuel gives an end, or has counted
-- at least `many` blocks. So under a limit on blocks it ends or meets the limit.
abbrev pub BodiesGoOn : Type 0
BodiesGoOn = (source : Source) (store : Store) (many : ℕ) → IsChecked source.world → IsCheckedBody source.body source.infer → (fuel : ℕ) × GoesOn many (meaning_from source store fuel)

-- A plain expression has a form that is built.
abbrev pub PlainIsBuilt : Type 0
PlainIsBuilt = (source : Source) (e : ℕ) → IsPlainNode source e → IsBuiltForm source e (node source e)

-- Costs add up in any grouping, and no cost adds nothing.
pub record CostsAdd : Type 0 where
  pub grouped : (first second third : Cost) → plus (plus first second) third ≡ plus first (plus second third)
  pub nothing_before : (cost : Cost) → plus no_cost cost ≡ cost
  pub nothing_after : (cost : Cost) → plus cost no_cost ≡ cost

-- The scopes that are open after events are those after the first of them, and then the rest. An expression leaves the
-- open scopes as they were, but for the cells that it marks in the innermost one.
pub record ScopesNest : Type 0 where
  pub in_order : (scopes : Scopes) (first rest : List Event) → scopes_after scopes (first ++ rest) ≡ scopes_after (scopes_after scopes first) rest
  pub of_expression : (source : Source) (e : ℕ) (inner : List Cell) (outer : Scopes) →
      scopes_after (inner ∷ outer) (events source e) ≡ (inner ++ marked source e) ∷ outer

-- the cost of a body is defined from entering it on just where the type of all that takes bytes has a size
abbrev pub CostIsDefined : Type 0
CostIsDefined = (source : Source) → IsCheckedBody source.body source.infer → (is_cost_defined source ≡ true) ↔ HasDefinedCost source

-- the test of a body's layouts passes just where each type that the body needs has a layout
abbrev pub LayoutsAreTested : Type 0
LayoutsAreTested = (source : Source) → IsCheckedBody source.body source.infer → (is_laid_out source ≡ true) ↔ AreLaidOut source
