-- Expressions that inference lists, as a set that finds one by its number.
use Rattle.std.specs.Prelude.{◌≡◌, ◌==◌, List}
use Rattle.std.specs.BTreeSet.{BTreeSet, contains}
use Rattle.std.specs.List.{list_any}
use Rattle.types.specs.contracts.ids.ExprIdOrd.TheImpl as ExprIdOrd
use Rattle.types.specs.declared.ids.ExprId.{ExprId}

-- the set has just the expressions that are listed
abbrev pub HasListed : List ExprId → BTreeSet ExprId → Type 0
HasListed listed found = (e : ExprId) → contains ExprIdOrd.ghosts.cmp found e ≡ list_any (λ (one : ExprId). one.0 == e.0) listed
