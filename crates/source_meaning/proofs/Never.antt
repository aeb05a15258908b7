-- What `NeverToAny` changes: the type of an expression's value, and where the expression itself goes.
use Rattle.std.proofs.Common.{◌≡◌, ℕ, Bool, true, false, cond, Option, Some, None, is_some, refl, ap, ◌∙◌}
use Rattle.types.specs.declared.ty.Ty.{Ty}
use Rattle.source_meaning.specs.Core.{CoreExpr, never_target, type_after}
use Rattle.source_meaning.specs.Source.{Source, Never, Path, cell_type, node, diverges, unadjusted, own_type, node_type, own_path}

type-unchanged : (target own : Option Ty) → is_some target ≡ false → type_after target own ≡ own
type-unchanged (Some ty) own is = absurd cc
type-unchanged None own is = refl

module _ (source : Source) (e : ℕ) where
  -- without an adjustment the type is the expression's own
  pub undiverted-type : diverges source e ≡ false → node_type source e ≡ own_type source e
  unfolding node_type
  undiverted-type is = type-unchanged (never_target source.infer (record { 0 = e })) (own_type source e) is

  pub never-cell : diverges source e ≡ true → cell_type source (Never e) ≡ own_type source e
  never-cell is = ap (λ test. cond test (own_type source e) None) is

  -- the expression itself goes to a cell of its own type
  pub own_path-fits : (path : Path) → cell_type source path.cell ≡ node_type source e → cell_type source (own_path source e path).cell ≡ own_type source e
  own_path-fits path fits = by_test (diverges source e) refl
    where
      by_test : (test : Bool) → diverges source e ≡ test → cell_type source (cond test (record { cell = Never e }) path).cell ≡ own_type source e
      by_test true is = never-cell is
      by_test false is = fits ∙ undiverted-type is

  pub unadjusted-node : diverges source e ≡ false → unadjusted source e ≡ node source e
  unadjusted-node is = ap (λ test. cond test None (node source e)) is

  -- what an expression is for those that use its value, it is itself
  pub unadjusted-plain : (form : CoreExpr) → unadjusted source e ≡ Some form → (diverges source e ≡ false) × (node source e ≡ Some form)
  unadjusted-plain form is = by_test (diverges source e) refl is
    where
      by_test : (test : Bool) → diverges source e ≡ test → cond test None (node source e) ≡ Some form → (diverges source e ≡ false) × (node source e ≡ Some form)
      by_test true tested found = absurd cc
      by_test false tested found = (tested, found)
