-- The values of a list, where all are there, up to the index that a loop has reached.
use Rattle.std.proofs.Common.{◌≡◌, ℕ, zero, suc, ◌+◌, ◌<◌, ◌≤◌, Option, Some, None, List, [], ◌∷◌, ◌++◌, length, get_or, map, take, refl, sym, ◌∙◌, ap, arith}
use Rattle.std.proofs.lemmas.List.{map-append, take_all, take_more}
use Rattle.std.specs.Option.{option_map}
use Rattle.check_instances.specs.Instances.{all_there, with_both}

map_swap : {B : Type 0} (x y : B) (done : Option (List B)) → option_map (λ ys. x ∷ ys) (option_map (λ ys. ys ++ y ∷ []) done) ≡ option_map (λ ys. ys ++ y ∷ []) (option_map (λ ys. x ∷ ys) done)
map_swap x y None = refl
map_swap x y (Some done) = refl

-- one value more, at the end
pub all_there-push : {B : Type 0} (found : List (Option B)) (y : B) → all_there (found ++ Some y ∷ []) ≡ option_map (λ ys. ys ++ y ∷ []) (all_there found)
all_there-push [] y = refl
all_there-push (None ∷ found) y = refl
all_there-push (Some x ∷ found) y = ap (option_map (λ ys. x ∷ ys)) (all_there-push found y) ∙ map_swap x y (all_there found)

with_none : {A B C : Type 0} (f : A → B → C) (first : Option A) → with_both f first None ≡ None
with_none f None = refl
with_none f (Some first) = refl

-- the next value is there
pub all_there_more : {A B : Type 0} (f : A → Option B) (xs : List A) (i : ℕ) (x d : A) (y : B) (done : List B) → i < length xs → x ≡ get_or xs i d → f x ≡ Some y → all_there (map f (take i xs)) ≡ Some done → all_there (map f (take (i + 1) xs)) ≡ Some (done ++ y ∷ [])
all_there_more f xs i x d y done below at gives so_far =
    let mapped : map f (take (i + 1) xs) ≡ map f (take i xs) ++ f (get_or xs i d) ∷ [] = ap (map f) (take_more xs i d below) ∙ map-append f (take i xs) (get_or xs i d ∷ []) in
    let next : f (get_or xs i d) ≡ Some y = ap f (sym at) ∙ gives in
    ap all_there mapped
    ∙ ap (λ found. all_there (map f (take i xs) ++ found ∷ [])) next
    ∙ all_there-push (map f (take i xs)) y
    ∙ ap (option_map (λ ys. ys ++ y ∷ [])) so_far

-- a value is missing
pub all_there_missing : {A B : Type 0} (f : A → Option B) (xs : List A) (i : ℕ) (x d : A) → i < length xs → x ≡ get_or xs i d → f x ≡ None → all_there (map f xs) ≡ None
all_there_missing f [] i x d below at none = absurd (omega arith)
all_there_missing f (y ∷ xs) zero x d below at none = ap (λ found. with_both (λ z zs. z ∷ zs) found (all_there (map f xs))) (ap f (sym at) ∙ none)
all_there_missing f (y ∷ xs) (suc i) x d below at none =
    ap (with_both (λ z zs. z ∷ zs) (f y)) (all_there_missing f xs i x d (omega arith) at none) ∙ with_none (λ z zs. z ∷ zs) (f y)

-- none is left
pub all_there_end : {A B : Type 0} (f : A → Option B) (xs : List A) (i : ℕ) (done : List B) → length xs ≤ i → all_there (map f (take i xs)) ≡ Some done → all_there (map f xs) ≡ Some done
all_there_end f xs i done past so_far = ap (λ ys. all_there (map f ys)) (sym (take_all i xs past)) ∙ so_far
