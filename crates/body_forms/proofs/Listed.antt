-- An expression that is added to a set of expressions.
use Rattle.std.proofs.Common.{◌≡◌, ℕ, ◌+◌, ◌<◌, Bool, true, false, cond, List, length, get_or, take, refl, sym, ap, ◌∙◌, arith}
use Rattle.std.proofs.lemmas.List.Folds.{list_any_more}
use Rattle.std.specs.List.{list_any}
use Rattle.std.proofs.lemmas.Bool.Decides.{nat_tests}
use Rattle.std.specs.Ordering.{is_eq, nat_cmp}
use Rattle.std.specs.Prelude.{◌==◌, ◌||◌}
use Rattle.types.specs.contracts.ids.ExprIdOrd.TheImpl as ExprIdOrd
use Rattle.types.specs.declared.ids.ExprId.{ExprId}

by-either : (added there : Bool) → cond added true there ≡ (there || added)
by-either true true = refl
by-either true false = refl
by-either false true = refl
by-either false false = refl

same-number : (a b : ℕ) → is_eq (nat_cmp a b) ≡ (a == b)
same-number a b = grind (arith, nat_tests)

-- an expression is in the set with one more where it is that one, or was there
pub one-more : (one e : ExprId) (there : Bool) → cond (is_eq (ExprIdOrd.ghosts.cmp one e)) true there ≡ (there || (one.0 == e.0))
one-more one e there = ap (λ (added : Bool). cond added true there) (same-number one.0 e.0) ∙ by-either (one.0 == e.0) there

-- one turn more: the expression at a place of the list is added
pub turned : (listed : List ExprId) (i : ℕ) (key d e : ExprId) (before after : Bool) → i < length listed → after ≡ cond (is_eq (ExprIdOrd.ghosts.cmp key e)) true before → key ≡ get_or listed i d →
    before ≡ list_any (λ (one : ExprId). one.0 == e.0) (take i listed) → after ≡ list_any (λ (one : ExprId). one.0 == e.0) (take (i + 1) listed)
turned listed i key d e before after less adds is there =
    adds
    ∙ one-more key e before
    ∙ ap (λ (b : Bool). b || (key.0 == e.0)) there
    ∙ ap (λ (k : ExprId). list_any (λ (one : ExprId). one.0 == e.0) (take i listed) || (k.0 == e.0)) is
    ∙ sym (list_any_more (λ (one : ExprId). one.0 == e.0) listed i d less)
