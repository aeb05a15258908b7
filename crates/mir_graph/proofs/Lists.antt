-- An element of a list by its place, after the list grew or was written.
use Rattle.std.proofs.Common.{◌≡◌, ◌≢◌, ℕ, zero, suc, ◌<◌, ◌⊎◌, ⊎_elim, inl, inr, List, [], ◌∷◌, ◌++◌, length, Some, refl, sym, ap, ◌∙◌, arith, take, drop}
use Rattle.std.specs.Prelude.{slice_get, slice_index_or, slice_set}

pub slice_get-front : {A : Type 0} (xs ys : List A) (i : ℕ) (x : A) → slice_get xs i ≡ Some x → slice_get (xs ++ ys) i ≡ Some x
slice_get-front [] ys i x found = cc
slice_get-front (y ∷ xs) ys zero x found = found
slice_get-front (y ∷ xs) ys (suc i) x found = slice_get-front xs ys i x found

pub slice_get-last : {A : Type 0} (xs : List A) (x : A) → slice_get (xs ++ x ∷ []) (length xs) ≡ Some x
slice_get-last [] x = refl
slice_get-last (y ∷ xs) x = slice_get-last xs x

pub slice_get-set_same : {A : Type 0} (xs : List A) (i : ℕ) (x : A) → i < length xs → slice_get (slice_set xs i x) i ≡ Some x
slice_get-set_same [] i x within = absurd (omega arith)
slice_get-set_same (y ∷ xs) zero x within = refl
slice_get-set_same (y ∷ xs) (suc i) x within = slice_get-set_same xs i x (omega arith)

pub slice_get-set_other : {A : Type 0} (xs : List A) (i j : ℕ) (x : A) → i ≢ j → slice_get (slice_set xs i x) j ≡ slice_get xs j
slice_get-set_other [] i j x differ = refl
slice_get-set_other (y ∷ xs) zero zero x differ = absurd (differ refl)
slice_get-set_other (y ∷ xs) zero (suc j) x differ = refl
slice_get-set_other (y ∷ xs) (suc i) zero x differ = refl
slice_get-set_other (y ∷ xs) (suc i) (suc j) x differ = slice_get-set_other xs i j x (λ same. differ (ap suc same))

pub slice_get_in : {A : Type 0} (xs : List A) (i : ℕ) → i < length xs → (x : A) × (slice_get xs i ≡ Some x)
slice_get_in [] i within = absurd (omega arith)
slice_get_in (y ∷ xs) zero within = (y, refl)
slice_get_in (y ∷ xs) (suc i) within = slice_get_in xs i (omega arith)

pub slice_get_below : {A : Type 0} (xs : List A) (i : ℕ) (x : A) → slice_get xs i ≡ Some x → i < length xs
slice_get_below [] i x found = cc
slice_get_below (y ∷ xs) zero x found = omega arith
slice_get_below (y ∷ xs) (suc i) x found = let rest = slice_get_below xs i x found in omega arith

-- the rest of a list from one of its places on
pub drop-at : {A : Type 0} (xs : List A) (i : ℕ) (x : A) → slice_get xs i ≡ Some x → drop i xs ≡ x ∷ drop (suc i) xs
drop-at [] i x found = cc
drop-at (y ∷ xs) zero x found = let same : y ≡ x = cc in ap (λ z. z ∷ xs) same
drop-at (y ∷ xs) (suc i) x found = drop-at xs i x found

-- a list that has another's elements at their places begins with it
pub front-of : {A : Type 0} (xs ys : List A) → ((i : ℕ) (x : A) → slice_get xs i ≡ Some x → slice_get ys i ≡ Some x) → (rest : List A) × (ys ≡ xs ++ rest)
front-of [] ys has = (ys, refl)
front-of (x ∷ xs) [] has = (let none = has 0 x refl in cc)
front-of (x ∷ xs) (y ∷ ys) has =
    let first = has 0 x refl in
    let same : y ≡ x = cc in
    let rest = front-of xs ys (λ i z found. has (suc i) z found) in
    (rest.0, ap (λ z. z ∷ ys) same ∙ ap (λ zs. x ∷ zs) rest.1)

-- an element of a list with one more is the last one, or one of the others
pub slice_get-more : {A : Type 0} (xs : List A) (x y : A) (i : ℕ) → slice_get (xs ++ x ∷ []) i ≡ Some y → ((i ≡ length xs) × (x ≡ y)) ⊎ (slice_get xs i ≡ Some y)
slice_get-more [] x y zero found = inl (refl, (let same : x ≡ y = cc in same))
slice_get-more [] x y (suc i) found = cc
slice_get-more (z ∷ xs) x y zero found = inr found
slice_get-more (z ∷ xs) x y (suc i) found = ⊎_elim (λ is. inl (ap suc is.0, is.1)) (λ is. inr is) (slice_get-more xs x y i found)

-- the front of a list up to an element, and that element
pub take-next : {A : Type 0} (xs : List A) (i : ℕ) (x : A) → slice_get xs i ≡ Some x → take (suc i) xs ≡ take i xs ++ x ∷ []
take-next [] i x found = absurd cc
take-next (y ∷ ys) zero x found = let same : y ≡ x = cc in ap (λ z. z ∷ []) same
take-next (y ∷ ys) (suc i) x found = ap (λ rest. y ∷ rest) (take-next ys i x found)

-- the element that an index finds
pub at-index : {A : Type 0} (xs : List A) (i : ℕ) (x : A) → i < length xs → x ≡ slice_index_or xs i x → slice_get xs i ≡ Some x
at-index [] i x below is = absurd (omega arith)
at-index (y ∷ ys) zero x below is = ap Some (sym is)
at-index (y ∷ ys) (suc i) x below is = at-index ys i x (omega arith) is
