-- The elements of a list, by their places.
use Rattle.std.proofs.Common.{◌≡◌, ℕ, zero, suc, List, [], ◌∷◌, map, Some, refl, ap, ◌∙◌}
use Rattle.std.specs.Prelude.{Contains, slice_get}
use Rattle.std.proofs.lemmas.Option.{get_or_from_slice_get, slice_get-get_or}
use Rattle.mir_graph.proofs.Lists.{slice_get_below}

pub at-place : {X : Type 0} (xs : List X) (x : X) → Contains xs x → (i : ℕ) × (slice_get xs i ≡ Some x)
at-place xs x there = (there.0, slice_get-get_or xs there.0 x there.1 ∙ ap Some there.2)

pub from-place : {X : Type 0} (xs : List X) (x : X) (i : ℕ) → slice_get xs i ≡ Some x → Contains xs x
from-place xs x i at = (i, slice_get_below xs i x at, get_or_from_slice_get xs i x x at)

-- an element of a list made from another, and where it comes from
pub place-of-made : {A B : Type 0} (f : A → B) (xs : List A) (i : ℕ) (x : A) → slice_get xs i ≡ Some x → slice_get (map f xs) i ≡ Some (f x)
place-of-made f [] i x at = cc
place-of-made f (y ∷ xs) zero x at = let same : y ≡ x = cc in ap (λ z. Some (f z)) same
place-of-made f (y ∷ xs) (suc i) x at = place-of-made f xs i x at

pub made-from : {A B : Type 0} (f : A → B) (xs : List A) (i : ℕ) (y : B) → slice_get (map f xs) i ≡ Some y → (x : A) × (slice_get xs i ≡ Some x) × (f x ≡ y)
made-from f [] i y at = cc
made-from f (x ∷ xs) zero y at = (x, refl, (let same : f x ≡ y = cc in same))
made-from f (x ∷ xs) (suc i) y at = made-from f xs i y at
