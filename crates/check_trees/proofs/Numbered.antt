-- What is the first to lack a property of what is made of the indices of a list.
use Rattle.std.proofs.Common.{◌≡◌, ℕ, zero, suc, ◌+◌, ◌<◌, Bool, true, false, cond, not, true≢false, Option, Some, None, List, [], ◌∷◌, map, Decides, refl, sym, ◌∙◌, ap, arith, subst}
use Rattle.std.proofs.lemmas.Iterator.Adapters.{position_from-zero}
use Rattle.std.specs.List.{position, position_from, slice_get}
use Rattle.std.specs.Option.{option_map}
use Rattle.world.specs.Failing.{first_failing}
use Rattle.check_trees.specs.First.{FindsFailing, FindsFirst, numbered}
use Rattle.check_trees.proofs.First.{met_here, nothing, unmet_here}

-- what is made of an element's index stands at that index
pub at_numbered : {X Y : Type 0} (at : ℕ → Y) (i k : ℕ) (xs : List X) (x : X) → slice_get xs k ≡ Some x → slice_get (numbered at i xs) k ≡ Some (at (i + k))
at_numbered at i k [] x there = cc
at_numbered at i zero (y ∷ xs) x there =
    let start : i ≡ i + zero = omega arith in
    ap (λ j. Some (at j)) start
at_numbered at i (suc k) (y ∷ xs) x there =
    let step : i + 1 + k ≡ i + suc k = omega arith in
    at_numbered at (i + 1) k xs x there ∙ ap (λ j. Some (at j)) step

-- an element at an index
pub record Stands {X : Type 0} (xs : List X) (k : ℕ) : Type 0 where
  pub element : X
  pub there : slice_get xs k ≡ Some element

-- what stands there belongs to an element
pub of_numbered : {X Y : Type 0} (at : ℕ → Y) (i k : ℕ) (xs : List X) (y : Y) → slice_get (numbered at i xs) k ≡ Some y → (at (i + k) ≡ y) × Stands xs k
of_numbered at i k [] y there = cc
of_numbered at i zero (x ∷ xs) y there =
    let start : i + zero ≡ i = omega arith in
    let same : at i ≡ y = cc in
    (ap at start ∙ same, record { element = x; there = refl })
of_numbered at i (suc k) (x ∷ xs) y there =
    let step : i + suc k ≡ i + 1 + k = omega arith in
    let later = of_numbered at (i + 1) k xs y there in
    (ap at step ∙ later.0, record { element = later.1.element; there = later.1.there })

-- all of it has the property
pub numbered_met : {X Y : Type 0} (P : Y → Type 0) (at : ℕ → Y) (i : ℕ) (xs : List X) → ((k : ℕ) → P (at k)) → FindsFailing P (numbered at i xs) None
numbered_met P at i [] met = nothing P
numbered_met P at i (x ∷ xs) met = met_here P (at i) (numbered at (i + 1) xs) None (met i) (numbered_met P at (i + 1) xs met)

-- the first whose element fails a test, where the test decides the property
pub numbered_first : {X Y : Type 0} (P : Y → Type 0) (at : ℕ → Y) (test : ℕ → X → Bool) (i : ℕ) (xs : List X) → ((k : ℕ) (x : X) → slice_get xs k ≡ Some x → Decides (test (i + k) x) (P (at (i + k)))) → FindsFailing P (numbered at i xs) (option_map at (first_failing test i xs))
numbered_first P at test i [] fits = nothing P
numbered_first {X} P at test i (x ∷ xs) fits = by (test i x) here (numbered_first P at test (i + 1) xs later)
  where
    here : Decides (test i x) (P (at i))
    here =
        let start : i + zero ≡ i = omega arith in
        subst (λ j. Decides (test j x) (P (at j))) start (fits zero x refl)

    later : (k : ℕ) (y : X) → slice_get xs k ≡ Some y → Decides (test (i + 1 + k) y) (P (at (i + 1 + k)))
    later k y there =
        let step : i + suc k ≡ i + 1 + k = omega arith in
        subst (λ j. Decides (test j y) (P (at j))) step (fits (suc k) y there)

    by : (b : Bool) → Decides b (P (at i)) → FindsFailing P (numbered at (i + 1) xs) (option_map at (first_failing test (i + 1) xs)) → FindsFailing P (at i ∷ numbered at (i + 1) xs) (option_map at (cond b (first_failing test (i + 1) xs) (Some i)))
    by true decides rest = met_here P (at i) (numbered at (i + 1) xs) (option_map at (first_failing test (i + 1) xs)) (decides.0 refl) rest
    by false decides rest = unmet_here P (at i) (numbered at (i + 1) xs) (λ has. true≢false (sym (decides.1 has)))

position_failing : {X : Type 0} (test : X → Bool) (i : ℕ) (xs : List X) → first_failing (λ j. test) i xs ≡ position_from (λ x. not (test x)) i xs
position_failing test i [] = refl
position_failing test i (x ∷ xs) = by (test x) _ _ (position_failing test (i + 1) xs)
  where
    by : (b : Bool) (a c : Option ℕ) → a ≡ c → cond b a (Some i) ≡ cond (not b) (Some i) c
    by true a c e = e
    by false a c e = refl

-- the same where indices start at zero
pub numbered_at : {X Y : Type 0} (P : Y → Type 0) (at : ℕ → Y) (test : ℕ → X → Bool) (xs : List X) → ((k : ℕ) (x : X) → slice_get xs k ≡ Some x → Decides (test k x) (P (at k))) → FindsFailing P (numbered at 0 xs) (option_map at (first_failing test 0 xs))
numbered_at {X} P at test xs fits = numbered_first P at test 0 xs from
  where
    from : (k : ℕ) (x : X) → slice_get xs k ≡ Some x → Decides (test (0 + k) x) (P (at (0 + k)))
    from k x there =
        let start : k ≡ 0 + k = omega arith in
        subst (λ j. Decides (test j x) (P (at j))) start (fits k x there)

-- and where the test asks for no index
pub numbered_wrong : {X Y : Type 0} (P : Y → Type 0) (at : ℕ → Y) (test : X → Bool) (xs : List X) → ((k : ℕ) (x : X) → slice_get xs k ≡ Some x → Decides (test x) (P (at k))) → FindsFailing P (numbered at 0 xs) (option_map at (position (λ x. not (test x)) xs))
numbered_wrong P at test xs fits =
    subst (λ found. FindsFailing P (numbered at 0 xs) (option_map at found)) (position_failing test 0 xs ∙ sym (position_from-zero (λ x. not (test x)) xs)) (numbered_at P at (λ k. test) xs fits)

-- what is made of the index of the first element that lacks a property, where those before it have it
pub first_numbered : {X Y : Type 0} (P : Y → Type 0) (at : ℕ → Y) (xs : List X) (k : ℕ) → Stands xs k → (P (at k) → ⊥) → ((j : ℕ) → Stands xs j → j < k → P (at j)) → FindsFailing P (numbered at 0 xs) (Some (at k))
first_numbered P at xs k stands fails first =
    record {
      index = k;
      at = at_numbered at 0 k xs stands.element stands.there ∙ ap (λ j. Some (at j)) start;
      fails = fails;
      before = λ j other h there. let found = of_numbered at 0 j xs other there in subst P (ap at (started j) ∙ found.0) (first j found.1 h);
    }
  where
    start : 0 + k ≡ k
    start = omega arith

    started : (j : ℕ) → j ≡ 0 + j
    started j = omega arith

-- where nothing that is made of indices lacks the property, that of an index has it, and so has what is made of an index past the end, if it is known to
pub entry : {X Y : Type 0} (P : Y → Type 0) (at : ℕ → Y) (k : ℕ) (xs : List X) → FindsFailing P (numbered at 0 xs) None → (slice_get xs k ≡ None → P (at k)) → P (at k)
entry {X} P at k xs clear absent = by (slice_get xs k) refl
  where
    by : (found : Option X) → slice_get xs k ≡ found → P (at k)
    by None there = absent there
    by (Some x) there =
        let start : 0 + k ≡ k = omega arith in
        subst (λ j. P (at j)) start (clear k (at (0 + k)) (at_numbered at 0 k xs x there))

-- the first that is not as asked was found elsewhere
pub numbered_found : {X Y : Type 0} (P : Y → Type 0) (at : ℕ → Y) (Asked : ℕ → X → Type 0) (xs : List X) (found : Option ℕ) → ((k : ℕ) (x : X) → slice_get xs k ≡ Some x → Asked k x → P (at k)) → ((k : ℕ) (x : X) → slice_get xs k ≡ Some x → P (at k) → Asked k x) → FindsFirst Asked xs found
    → FindsFailing P (numbered at 0 xs) (option_map at found)
numbered_found {X} {Y} P at Asked xs None from to first = all
  where
    all : (i : ℕ) (y : Y) → slice_get (numbered at 0 xs) i ≡ Some y → P y
    all i y there =
        let found = of_numbered at 0 i xs y there in
        let start : i ≡ 0 + i = omega arith in
        subst P (ap at start ∙ found.0) (from i found.1.element found.1.there (first i found.1.element found.1.there))
numbered_found P at Asked xs (Some k) from to first =
    first_numbered P at xs k (record { element = first.0; there = first.1 }) (λ has. first.2 (to k first.0 first.1 has)) (λ j here h. from j here.element here.there (first.3 j here.element h here.there))

-- a function of what is made of indices makes something of them too
pub map_numbered : {X Y Z : Type 0} (f : Y → Z) (at : ℕ → Y) (i : ℕ) (xs : List X) → map f (numbered at i xs) ≡ numbered (λ k. f (at k)) i xs
map_numbered f at i [] = refl
map_numbered f at i (x ∷ xs) = ap (λ ys. f (at i) ∷ ys) (map_numbered f at (i + 1) xs)

-- what stands in a list of results is made of what stands in the list
of_mapped : {X Y : Type 0} (f : X → Y) (xs : List X) (k : ℕ) (y : Y) → slice_get (map f xs) k ≡ Some y → (x : X) × (slice_get xs k ≡ Some x) × (f x ≡ y)
of_mapped f [] k y at = cc
of_mapped f (x ∷ xs) zero y at = let same : f x ≡ y = cc in (x, refl, same)
of_mapped f (x ∷ xs) (suc k) y at = of_mapped f xs k y at

to_mapped : {X Y : Type 0} (f : X → Y) (xs : List X) (k : ℕ) (x : X) → slice_get xs k ≡ Some x → slice_get (map f xs) k ≡ Some (f x)
to_mapped f [] k x at = cc
to_mapped f (y ∷ xs) zero x at = let same : y ≡ x = cc in ap (λ z. Some (f z)) same
to_mapped f (y ∷ xs) (suc k) x at = to_mapped f xs k x at

-- Where results have a property exactly where what they are made of has another, the first that lacks the one is made of the first that lacks the other.
pub mapped : {X Y : Type 0} (Q : X → Type 0) (P : Y → Type 0) (f : X → Y) (xs : List X) (found : Option X) → ((x : X) → Q x → P (f x)) → ((x : X) → P (f x) → Q x) → FindsFailing Q xs found → FindsFailing P (map f xs) (option_map f found)
mapped Q P f xs None to from first = λ k y at. let found = of_mapped f xs k y at in subst P found.2 (to found.0 (first k found.0 found.1))
mapped Q P f xs (Some x) to from first =
    record {
      index = first.index;
      at = to_mapped f xs first.index x first.at;
      fails = λ has. first.fails (from x has);
      before = λ j other h at. let found = of_mapped f xs j other at in subst P found.2 (to found.0 (first.before j found.0 h found.1));
    }
