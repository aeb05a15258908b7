-- Tests that all elements of a list pass.
use Rattle.std.proofs.Common.{◌≡◌, ℕ, zero, suc, ◌&&◌, Bool, true, Some, List, [], ◌∷◌, slice_get, refl, sym, ◌∙◌, ap}
use Rattle.std.specs.List.{list_all}
use Rattle.types.specs.SameScalars.{both}
use Rattle.check_layouts.specs.Laid.{Has}

pub all_has : {X : Type 0} (p : X → Bool) (xs : List X) (x : X) (k : ℕ) → list_all p xs ≡ true → slice_get xs k ≡ Some x → p x ≡ true
all_has p [] x k e at = cc
all_has p (y ∷ xs) x zero e at = let same : y ≡ x = cc in ap p (sym same) ∙ (both (p y) (list_all p xs) e).0
all_has p (y ∷ xs) x (suc k) e at = all_has p xs x k (both (p y) (list_all p xs) e).1 at

pub has_all : {X : Type 0} (p : X → Bool) (xs : List X) → ((x : X) → Has xs x → p x ≡ true) → list_all p xs ≡ true
has_all p [] h = refl
has_all p (x ∷ xs) h = ap (λ c. c && list_all p xs) (h x (zero, refl)) ∙ has_all p xs (λ y at. h y (suc at.0, at.1))
