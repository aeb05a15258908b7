-- The lists of a switch, as pairs and a last target.
use Rattle.std.proofs.Common.{◌≡◌, ◌+◌, List, [], ◌∷◌, ◌++◌, length, get_or, map, refl, ap, arith}
use Rattle.std.specs.List.{zip}

-- the targets of the pairs and the last one are all that there are
pub targets_together : {A B : Type 0} (values : List A) (targets : List B) (d : B) → length targets ≡ length values + 1
    → map (λ (pair : A × B). pair.1) (zip values targets) ++ get_or targets (length values) d ∷ [] ≡ targets
targets_together [] [] d h = absurd (omega arith)
targets_together [] (t ∷ []) d h = refl
targets_together [] (t ∷ u ∷ ts) d h = absurd (omega arith)
targets_together (v ∷ vs) [] d h = absurd (omega arith)
targets_together (v ∷ vs) (t ∷ ts) d h = ap (λ rest. t ∷ rest) (targets_together vs ts d (omega arith))

-- the values of the pairs are all that there are
pub values_together : {A B : Type 0} (values : List A) (targets : List B) → length targets ≡ length values + 1
    → map (λ (pair : A × B). pair.0) (zip values targets) ≡ values
values_together [] targets h = refl
values_together (v ∷ vs) [] h = absurd (omega arith)
values_together (v ∷ vs) (t ∷ ts) h = ap (λ rest. v ∷ rest) (values_together vs ts (omega arith))

-- pairs that are taken apart, and a last target
pub pairs_again : {A B : Type 0} (pairs : List (A × B)) (last : B)
    → zip (map (λ (pair : A × B). pair.0) pairs) (map (λ (pair : A × B). pair.1) pairs ++ last ∷ []) ≡ pairs
pairs_again [] last = refl
pairs_again (pair ∷ pairs) last = ap (λ rest. pair ∷ rest) (pairs_again pairs last)

pub last_again : {A B : Type 0} (pairs : List (A × B)) (last d : B)
    → get_or (map (λ (pair : A × B). pair.1) pairs ++ last ∷ []) (length (map (λ (pair : A × B). pair.0) pairs)) d ≡ last
last_again [] last d = refl
last_again (pair ∷ pairs) last d = last_again pairs last d
