-- Looking up in pairs, and in one more pair.
use Rattle.std.proofs.Common.{◌≡◌, ℕ, ◌+◌, ◌<◌, Bool, true, false, cond, eqb, Option, Some, None, List, [], ◌∷◌, ◌++◌, length, get_or, take, refl, sym, ◌∙◌, ap, subst, arith}
use Rattle.std.proofs.lemmas.List.{take_more}
use Rattle.std.specs.Map.{lookup}
use Rattle.std.specs.Option.{option_or}
use Rattle.check_trees.specs.inner.Walks.{AreFirstHolders}
use Rattle.check_trees.specs.Tree.{same_node}
use Rattle.check_trees.specs.declared.node.BodyNode.{BodyNode}

-- looking up in two lists joined: first in the one, then in the other
pub lookup-append : {K X : Type 0} (test : K → Bool) (es fs : List (K × X)) → lookup test (es ++ fs) ≡ option_or (lookup test es) (lookup test fs)
lookup-append test [] fs = refl
lookup-append test (e ∷ es) fs = step (test e.0) e.1 (lookup test es) (lookup test (es ++ fs)) (lookup test fs) (lookup-append test es fs)
  where
    step : {X : Type 0} (b : Bool) (x : X) (q r s : Option X) → r ≡ option_or q s → cond b (Some x) r ≡ option_or (cond b (Some x) q) s
    step true x q r s h = refl
    step false x q r s h = h

-- one more pair
pub lookup_more : {K X : Type 0} (test : K → Bool) (es : List (K × X)) (i : ℕ) (d : K × X) → i < length es → lookup test (take (i + 1) es) ≡ option_or (lookup test (take i es)) (cond (test (get_or es i d).0) (Some (get_or es i d).1) None)
lookup_more test es i d h = ap (lookup test) (take_more es i d h) ∙ lookup-append test (take i es) (get_or es i d ∷ [])

none_more : (o : Option BodyNode) → o ≡ option_or o None
none_more None = refl
none_more (Some x) = refl

-- the next pair's child is no node of this table, so the table stays right
pub holders_kept : (node_at : ℕ → BodyNode) (pairs : List (BodyNode × BodyNode)) (i : ℕ) (d : BodyNode × BodyNode) (slots new : List (Option BodyNode)) → i < length pairs → ((k : ℕ) → same_node (node_at k) (get_or pairs i d).0 ≡ false) → AreFirstHolders node_at (take i pairs) slots → new ≡ slots → AreFirstHolders node_at (take (i + 1) pairs) new
holders_kept node_at pairs i d slots new h other first same k below =
    ap (λ xs. get_or xs k None) same
    ∙ first k (subst (λ xs. k < length xs) same below)
    ∙ none_more (lookup (same_node (node_at k)) (take i pairs))
    ∙ ap (λ b. option_or (lookup (same_node (node_at k)) (take i pairs)) (cond b (Some (get_or pairs i d).1) None)) (sym (other k))
    ∙ sym (lookup_more (same_node (node_at k)) pairs i d h)

noted_is : (o : Option BodyNode) (b : Bool) (x : BodyNode) → cond b (option_or o (Some x)) o ≡ option_or o (cond b (Some x) None)
noted_is o true x = refl
noted_is o false x = none_more o

-- the table stays right when the next pair's parent is stored
pub holders_more : (node_at : ℕ → BodyNode) (pairs : List (BodyNode × BodyNode)) (i : ℕ) (d : BodyNode × BodyNode) (slots new : List (Option BodyNode)) (place : ℕ) → i < length pairs → ((k : ℕ) → same_node (node_at k) (get_or pairs i d).0 ≡ eqb k place) → AreFirstHolders node_at (take i pairs) slots → length new ≡ length slots → ((k : ℕ) → k < length slots → get_or new k None ≡ cond (eqb k place) (option_or (get_or slots k None) (Some (get_or pairs i d).1)) (get_or slots k None)) → AreFirstHolders node_at (take (i + 1) pairs) new
holders_more node_at pairs i d slots new place h here first len notes k below =
    let inside : k < length slots = omega arith in
    let x = (get_or pairs i d).1 in
    let test = same_node (node_at k) in
    notes k inside
    ∙ ap (λ o. cond (eqb k place) (option_or o (Some x)) o) (first k inside)
    ∙ noted_is (lookup test (take i pairs)) (eqb k place) x
    ∙ ap (λ b. option_or (lookup test (take i pairs)) (cond b (Some x) None)) (sym (here k))
    ∙ sym (lookup_more test pairs i d h)
