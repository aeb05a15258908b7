-- Elements of lists that are joined, mapped or cut off.
use Rattle.std.proofs.Common.{◌≡◌, ℕ, zero, suc, ◌+◌, ◌<◌, ◌≤◌, Bool, true, false, not, cond, Option, Some, None, List, [], ◌∷◌, ◌++◌, map, length, get_or, take, slice_get, ◌⊎◌, inl, inr, refl, sym, ◌∙◌, ap, subst, arith}
use Rattle.std.proofs.lemmas.Iterator.Adapters.{position_from-zero}
use Rattle.std.proofs.lemmas.Bool.{cases_lt}
use Rattle.std.proofs.lemmas.List.{take_more}
use Rattle.std.proofs.lemmas.Option.{slice_get-get_or, slice_get_within}
use Rattle.std.specs.List.{position, position_from}
use Rattle.check_trees.specs.First.{FindsFirst, Has}

pub has_none : {X : Type 0} (x : X) (A : Type 0) (k : ℕ) → slice_get [] k ≡ Some x → A
has_none x A k at = cc

pub has_left : {X : Type 0} (xs ys : List X) (x : X) (k : ℕ) → slice_get xs k ≡ Some x → Has (xs ++ ys) x
has_left [] ys x k at = cc
has_left (y ∷ xs) ys x zero at = (zero, at)
has_left (y ∷ xs) ys x (suc k) at = let found = has_left xs ys x k at in (suc found.0, found.1)

pub has_right : {X : Type 0} (xs ys : List X) (x : X) → Has ys x → Has (xs ++ ys) x
has_right [] ys x at = at
has_right (y ∷ xs) ys x at = let found = has_right xs ys x at in (suc found.0, found.1)

pub has_mapped : {A B : Type 0} (f : A → B) (xs : List A) (x : A) (k : ℕ) → slice_get xs k ≡ Some x → Has (map f xs) (f x)
has_mapped f [] x k at = cc
has_mapped f (y ∷ xs) x zero at = let same : y ≡ x = cc in (zero, ap (λ z. Some (f z)) same)
has_mapped f (y ∷ xs) x (suc k) at = let found = has_mapped f xs x k at in (suc found.0, found.1)

has_one : {X : Type 0} (x y : X) (k : ℕ) → slice_get (y ∷ []) k ≡ Some x → x ≡ y
has_one x y zero at = cc
has_one x y (suc k) at = cc

-- the only element of a list
pub only : {X : Type 0} (x y : X) → Has (y ∷ []) x → x ≡ y
only x y at = has_one x y at.0 at.1

has_joined : {X : Type 0} (xs : List X) (x y : X) (k : ℕ) → slice_get (xs ++ (y ∷ [])) k ≡ Some x → Has xs x ⊎ (x ≡ y)
has_joined [] x y k at = inr (has_one x y k at)
has_joined (z ∷ xs) x y zero at = inl (zero, at)
has_joined {X} (z ∷ xs) x y (suc k) at = by (has_joined xs x y k at)
  where
    by : Has xs x ⊎ (x ≡ y) → Has (z ∷ xs) x ⊎ (x ≡ y)
    by (inl found) = inl (suc found.0, found.1)
    by (inr same) = inr same

-- an element of the first `i + 1` stands among the first `i` or is the next
pub has_more : {X : Type 0} (xs : List X) (i : ℕ) (d x : X) → i < length xs → Has (take (i + 1) xs) x → Has (take i xs) x ⊎ (x ≡ get_or xs i d)
has_more xs i d x h at = let found = subst (λ ys. Has ys x) (take_more xs i d h) at in has_joined (take i xs) x (get_or xs i d) found.0 found.1

pub has_before : {X : Type 0} (xs : List X) (i : ℕ) (d x : X) → i < length xs → Has (take i xs) x → Has (take (i + 1) xs) x
has_before xs i d x h at = subst (λ ys. Has ys x) (sym (take_more xs i d h)) (has_left (take i xs) (get_or xs i d ∷ []) x at.0 at.1)

pub has_next : {X : Type 0} (xs : List X) (i : ℕ) (d : X) → i < length xs → Has (take (i + 1) xs) (get_or xs i d)
has_next xs i d h = subst (λ ys. Has ys (get_or xs i d)) (sym (take_more xs i d h)) (has_right (take i xs) (get_or xs i d ∷ []) (get_or xs i d) (zero, refl))

-- what each of the first `i` elements meets at its index
abbrev pub AllBefore : {X : Type 0} → (ℕ → X → Type 0) → List X → ℕ → Type 0
AllBefore {X} Asked xs i = (k : ℕ) (x : X) → k < i → slice_get xs k ≡ Some x → Asked k x

pub before_more : {X : Type 0} (Asked : ℕ → X → Type 0) (xs : List X) (i : ℕ) (next : X) → i < length xs → next ≡ get_or xs i next → AllBefore Asked xs i → Asked i next → AllBefore Asked xs (i + 1)
before_more {X} Asked xs i next h is before here k x low at = by (cases_lt k i)
  where
    by : (k < i) ⊎ (i ≤ k) → Asked k x
    by (inl less) = before k x less at
    by (inr more) =
        let same : i ≡ k = omega arith in
        let found : Some (get_or xs i next) ≡ Some x = sym (slice_get-get_or xs i next h) ∙ ap (slice_get xs) same ∙ at in
        let met : next ≡ x = cc in
        subst (λ j. Asked j x) same (subst (Asked i) met here)

pub finds_none : {X : Type 0} (Asked : ℕ → X → Type 0) (xs : List X) (i : ℕ) → length xs ≤ i → AllBefore Asked xs i → FindsFirst Asked xs None
finds_none Asked xs i h before k x at = let inside : k < length xs = slice_get_within xs k x at in before k x (omega arith) at

-- `FindsFirst` at another name of the list and at a known answer
pub finds_at : {X : Type 0} (Asked : ℕ → X → Type 0) (xs ys : List X) (found is : Option ℕ) → xs ≡ ys → found ≡ is → FindsFirst Asked xs found → FindsFirst Asked ys is
finds_at Asked xs ys found is e f h = subst (λ zs. FindsFirst Asked zs is) e (subst (FindsFirst Asked xs) f h)

-- a search by a test, where indices begin at `i`
abbrev FindsFrom : {X : Type 0} → (X → Bool) → ℕ → List X → Option ℕ → Type 0
FindsFrom {X} test i xs None = FindsFirst (λ k x. test x ≡ true) xs None
FindsFrom {X} test i xs (Some j) = (k : ℕ) × (i + k ≡ j) × FindsFirst (λ m x. test x ≡ true) xs (Some k)

-- an element that passes is passed over
one_passes : {X : Type 0} (test : X → Bool) (i : ℕ) (x : X) (xs : List X) (found : Option ℕ) → test x ≡ true → FindsFrom test (i + 1) xs found → FindsFrom test i (x ∷ xs) found
one_passes {X} test i x xs None passes later = all
  where
    all : (k : ℕ) (y : X) → slice_get (x ∷ xs) k ≡ Some y → test y ≡ true
    all zero y at = let same : x ≡ y = cc in subst (λ z. test z ≡ true) same passes
    all (suc k) y at = later k y at
one_passes {X} test i x xs (Some j) passes later =
    let step : i + suc later.0 ≡ i + 1 + later.0 = omega arith in
    (suc later.0, step ∙ later.1, (later.2.0, later.2.1, later.2.2, before))
  where
    before : (k : ℕ) (y : X) → k < suc later.0 → slice_get (x ∷ xs) k ≡ Some y → test y ≡ true
    before zero y h at = let same : x ≡ y = cc in subst (λ z. test z ≡ true) same passes
    before (suc k) y h at = later.2.3 k y (omega arith) at

finds_from : {X : Type 0} (test : X → Bool) (i : ℕ) (xs : List X) → FindsFrom test i xs (position_from (λ x. not (test x)) i xs)
finds_from test i [] = λ k x at. has_none x (test x ≡ true) k at
finds_from {X} test i (x ∷ xs) = by (test x) refl (finds_from test (i + 1) xs)
  where
    by : (b : Bool) → test x ≡ b → FindsFrom test (i + 1) xs (position_from (λ y. not (test y)) (i + 1) xs) → FindsFrom test i (x ∷ xs) (cond (not b) (Some i) (position_from (λ y. not (test y)) (i + 1) xs))
    by true passes later = one_passes test i x xs (position_from (λ y. not (test y)) (i + 1) xs) passes later
    by false fails later = (zero, omega arith, (x, refl, (λ passes. let never : false ≡ true = sym fails ∙ passes in cc), (λ k y h at. absurd (omega arith))))

from_start : {X : Type 0} (test : X → Bool) (xs : List X) (found : Option ℕ) → FindsFrom test 0 xs found → FindsFirst (λ k x. test x ≡ true) xs found
from_start test xs None first = first
from_start test xs (Some j) first = let same : first.0 ≡ j = omega (arith, first.1) in subst (λ k. FindsFirst (λ m x. test x ≡ true) xs (Some k)) same first.2

-- the index of the first element that fails a test is that of the first that is not as asked, where passing is asked
pub position_finds : {X : Type 0} (test : X → Bool) (xs : List X) (found : Option ℕ) → found ≡ position (λ x. not (test x)) xs → FindsFirst (λ k x. test x ≡ true) xs found
position_finds test xs found is =
    from_start test xs found
    (subst (FindsFrom test 0 xs) (sym (is ∙ position_from-zero (λ x. not (test x)) xs)) (finds_from test 0 xs))
