-- What is the first of a list that lacks a property, by what is first in the parts of the list.
use Rattle.std.proofs.Common.{◌≡◌, ℕ, zero, suc, ◌<◌, Bool, true, false, cond, true≢false, Option, Some, None, List, [], ◌∷◌, ◌++◌, Decides, refl, sym, arith, subst}
use Rattle.std.specs.List.{slice_get}
use Rattle.std.specs.Option.{option_or}
use Rattle.check_trees.specs.First.{FindsFailing}

-- an empty list has none
pub nothing : {X : Type 0} (P : X → Type 0) → FindsFailing P [] None
nothing P i y at = cc

-- an element with the property is passed over
pub met_here : {X : Type 0} (P : X → Type 0) (x : X) (xs : List X) (found : Option X) → P x → FindsFailing P xs found → FindsFailing P (x ∷ xs) found
met_here {X} P x xs None here later = all
  where
    all : (i : ℕ) (y : X) → slice_get (x ∷ xs) i ≡ Some y → P y
    all zero y at = let same : x ≡ y = cc in subst P same here
    all (suc i) y at = later i y at
met_here {X} P x xs (Some y) here later = record { index = suc later.index; at = later.at; fails = later.fails; before = earlier }
  where
    earlier : (j : ℕ) (other : X) → j < suc later.index → slice_get (x ∷ xs) j ≡ Some other → P other
    earlier zero other h at = let same : x ≡ other = cc in subst P same here
    earlier (suc j) other h at = later.before j other (omega arith) at

-- an element without it is the first
pub unmet_here : {X : Type 0} (P : X → Type 0) (x : X) (xs : List X) → (P x → ⊥) → FindsFailing P (x ∷ xs) (Some x)
unmet_here P x xs fails = record { index = zero; at = refl; fails = fails; before = λ j other h. absurd (omega arith) }

-- a test decides whether the element before the others has the property
pub headed : {X : Type 0} (P : X → Type 0) (x : X) (xs : List X) (b : Bool) (found : Option X) → Decides b (P x) → FindsFailing P xs found → FindsFailing P (x ∷ xs) (cond b found (Some x))
headed P x xs true found decides later = met_here P x xs found (decides.0 refl) later
headed P x xs false found decides later = unmet_here P x xs (λ has. true≢false (sym (decides.1 has)))

-- one element alone
pub single : {X : Type 0} (P : X → Type 0) (x : X) (b : Bool) → Decides b (P x) → FindsFailing P (x ∷ []) (cond b None (Some x))
single P x b decides = headed P x [] b None decides (nothing P)

-- what is the first of a list is that of a longer one
pub longer : {X : Type 0} (P : X → Type 0) (xs ys : List X) (y : X) → FindsFailing P xs (Some y) → FindsFailing P (xs ++ ys) (Some y)
longer P [] ys y f = let at : slice_get [] f.index ≡ Some y = f.at in cc
longer {X} P (x ∷ xs) ys y f = by f.index f.at f.before (λ tail. longer P xs ys y tail)
  where
    by : (index : ℕ) → slice_get (x ∷ xs) index ≡ Some y → ((j : ℕ) (other : X) → j < index → slice_get (x ∷ xs) j ≡ Some other → P other) → (FindsFailing P xs (Some y) → FindsFailing P (xs ++ ys) (Some y)) → FindsFailing P (x ∷ (xs ++ ys)) (Some y)
    by zero at before further =
        let same : x ≡ y = cc in
        subst (λ p. FindsFailing P (x ∷ (xs ++ ys)) (Some p)) same (unmet_here P x (xs ++ ys) (λ has. f.fails (subst P same has)))
    by (suc index) at before further =
        met_here P x (xs ++ ys) (Some y) (before zero x (omega arith) refl)
        (further (record { index = index; at = at; fails = f.fails; before = λ j other h there. before (suc j) other (omega arith) there }))

-- elements with the property are passed over
pub passed : {X : Type 0} (P : X → Type 0) (xs ys : List X) (found : Option X) → FindsFailing P xs None → FindsFailing P ys found → FindsFailing P (xs ++ ys) found
passed P [] ys found all g = g
passed P (x ∷ xs) ys found all g = met_here P x (xs ++ ys) found (all zero x refl) (passed P xs ys found (λ i y at. all (suc i) y at) g)

-- the first of two lists joined, by the first of each
pub joined : {X : Type 0} (P : X → Type 0) (xs ys : List X) (a b : Option X) → FindsFailing P xs a → FindsFailing P ys b → FindsFailing P (xs ++ ys) (option_or a b)
joined P xs ys None b f g = passed P xs ys b f g
joined P xs ys (Some y) b f g = longer P xs ys y f

-- the same of four lists
pub four : {X : Type 0} (P : X → Type 0) (ws xs ys zs : List X) (a b c d : Option X) → FindsFailing P ws a → FindsFailing P xs b → FindsFailing P ys c → FindsFailing P zs d → FindsFailing P (ws ++ (xs ++ (ys ++ zs))) (option_or a (option_or b (option_or c d)))
four P ws xs ys zs a b c d e f g h =
    joined P ws (xs ++ (ys ++ zs)) a (option_or b (option_or c d)) e (joined P xs (ys ++ zs) b (option_or c d) f (joined P ys zs c d g h))

-- where two lists joined have none, neither has one
pub apart : {X : Type 0} (P : X → Type 0) (xs ys : List X) → FindsFailing P (xs ++ ys) None → FindsFailing P xs None × FindsFailing P ys None
apart P [] ys all = (nothing P, all)
apart P (x ∷ xs) ys all =
    let rest = apart P xs ys (λ i y at. all (suc i) y at) in
    (met_here P x xs None (all zero x refl) rest.0, rest.1)

-- where a list has none, its head has the property, and the rest has none
pub head : {X : Type 0} (P : X → Type 0) (x : X) (rest : List X) → FindsFailing P (x ∷ rest) None → P x × FindsFailing P rest None
head P x rest all = (all zero x refl, λ i y at. all (suc i) y at)

-- the same by another name of what is found
pub found_is : {X : Type 0} (P : X → Type 0) (xs : List X) (a b : Option X) → b ≡ a → FindsFailing P xs a → FindsFailing P xs b
found_is P xs a b same first = subst (FindsFailing P xs) (sym same) first
