use Rattle.std.proofs.Common.{◌≡◌, take}
use Rattle.std.specs.BTreeSet.{contains}
use Rattle.std.specs.List.{list_any}
use Rattle.std.specs.Prelude.{◌==◌}
use Rattle.types.specs.contracts.ids.ExprIdOrd.TheImpl as ExprIdOrd
use Rattle.types.specs.declared.ids.ExprId.{ExprId}
use Rattle.body_forms.proofs.inferred.as_set.Given as goal

-- the expressions so far are in the set
abbrev pub invariant-loop-e : goal.invariant-loop-e
invariant-loop-e l = (e : ExprId) → contains ExprIdOrd.ghosts.cmp l.found e ≡ list_any (λ (one : ExprId). one.0 == e.0) (take l.e-index l.listed)
