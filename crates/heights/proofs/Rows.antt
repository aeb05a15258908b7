-- The heights of the types of rows, by the rows above them.
use Rattle.std.proofs.Common.{◌≡◌, ◌∙◌, ◌+◌, ◌-◌, ◌<◌, ◌≤◌, ℕ, zero, suc, Bool, true, false, List, [], ◌∷◌, ◌++◌, Option, Some, None, length, get_or, map, option_map, take, slice_get, unwrap_or, nat_le, if◌then◌else◌, refl, sym, ap, subst, ⊎_elim, arith, leb-true, leb-false, le-leb, length-append}
use Rattle.std.proofs.lemmas.Bool.{cases_lt}
use Rattle.std.proofs.lemmas.List.{map-append, take_more}
use Rattle.std.proofs.lemmas.Option.{slice_get_within}
use Rattle.types.specs.declared.ty.Ty.{Ty}
use Rattle.world.specs.declared.database.HirDatabase.{HirDatabase}
use Rattle.world.specs.declared.layout.Layout.{Layout}
use Rattle.source_meaning.specs.Heights.{first_heights, greatest, height_among, height_over, heights, part_places, row_height}
use Rattle.heights.specs.Known.{at_most}

-- what stands in a list with more behind it
get-front : {X : Type 0} (xs ys : List X) (i : ℕ) → i < length xs → slice_get (xs ++ ys) i ≡ slice_get xs i
get-front [] ys i within = absurd (omega (arith, within))
get-front (x ∷ xs) ys zero within = refl
get-front (x ∷ xs) ys (suc i) within = get-front xs ys i (omega (arith, within))

get-last : {X : Type 0} (xs : List X) (x : X) → slice_get (xs ++ x ∷ []) (length xs) ≡ Some x
get-last [] x = refl
get-last (first ∷ xs) x = get-last xs x

get-past : {X : Type 0} (xs : List X) (i : ℕ) → length xs ≤ i → slice_get xs i ≡ None
get-past [] i past = refl
get-past (x ∷ xs) zero past = absurd (omega (arith, past))
get-past (x ∷ xs) (suc i) past = get-past xs i (omega (arith, past))

module _ (world : HirDatabase) where
  abbrev row_at : ℕ → Option (Ty × Layout)
  row_at n = slice_get world.layouts n

  -- the first heights, with that of one more row
  abbrev one_more : ℕ → List ℕ
  one_more n = first_heights world n ++ row_height world (first_heights world n) (row_at n) ∷ []

  next : (n : ℕ) → first_heights world (suc n) ≡ one_more n
  unfolding first_heights
  next n = refl

  count : (n : ℕ) → length (first_heights world n) ≡ n
  unfolding first_heights
  count zero = refl
  count (suc n) = ap length (next n) ∙ omega (arith, count n, length-append (first_heights world n) (row_height world (first_heights world n) (row_at n) ∷ []))

  -- the height in a row, however many rows below it there are
  kept : (m n q : ℕ) → n ≤ m → q < n → slice_get (first_heights world m) q ≡ slice_get (first_heights world n) q
  kept zero n q less within = absurd (omega (arith, less, within))
  kept (suc m) n q less within =
      ⊎_elim
      (λ (before : n < suc m).
      ap (λ (list : List ℕ). slice_get list q) (next m)
      ∙ get-front (first_heights world m) (row_height world (first_heights world m) (row_at m) ∷ []) q (omega (arith, count m, within, before))
      ∙ kept m n q (omega (arith, before)) within)
      (λ (last : suc m ≤ n). let same : suc m ≡ n = omega (arith, less, last) in ap (λ (k : ℕ). slice_get (first_heights world k) q) same)
      (cases_lt n (suc m))

  -- the height above a row is the height in the world
  pub above : (row place : ℕ) → row < length world.layouts → place < row → height_among (heights world) (Some place) ≡ height_among (first_heights world row) (Some place)
  above row place there within = ap (λ (found : Option ℕ). unwrap_or found 1) (kept (length world.layouts) row place (omega (arith, there)) within)

  -- elsewhere it is 1
  pub elsewhere : (row place : ℕ) → row ≤ place → height_among (first_heights world row) (Some place) ≡ 1
  elsewhere row place past = ap (λ (found : Option ℕ). unwrap_or found 1) (get-past (first_heights world row) place (omega (arith, count row, past)))

  pub outside : (place : ℕ) → row_at place ≡ None → height_among (heights world) (Some place) ≡ 1
  outside place none =
      ⊎_elim
      (λ (within : place < length world.layouts). absurd (none-within world.layouts place within none))
      (λ (past : length world.layouts ≤ place). elsewhere (length world.layouts) place past)
      (cases_lt place (length world.layouts))
    where
      none-within : {X : Type 0} (xs : List X) (i : ℕ) → i < length xs → slice_get xs i ≡ None → ⊥
      none-within [] i within none = absurd (omega (arith, within))
      none-within (x ∷ xs) zero within none = cc
      none-within (x ∷ xs) (suc i) within none = none-within xs i (omega (arith, within)) none

  in-row : (place : ℕ) → place < length world.layouts → height_among (heights world) (Some place) ≡ row_height world (first_heights world place) (row_at place)
  in-row place within =
      ap (λ (found : Option ℕ). unwrap_or found 1)
      (kept (length world.layouts) (suc place) place within (omega arith)
      ∙ ap (λ (list : List ℕ). slice_get list place) (next place)
      ∙ ap (slice_get (one_more place)) (sym (count place))
      ∙ get-last (first_heights world place) (row_height world (first_heights world place) (row_at place)))

  -- a row's height is that over the heights above
  pub over-parts : (place : ℕ) (row : Ty × Layout) (parts : List (Option ℕ)) → row_at place ≡ Some row → parts ≡ part_places world row.0 →
      height_among (heights world) (Some place) ≡ suc (greatest (map (height_among (first_heights world place)) parts))
  over-parts place row parts is are =
      in-row place (slice_get_within world.layouts place row is)
      ∙ ap (row_height world (first_heights world place)) is
      ∙ ap (height_over (first_heights world place)) (sym are)

  -- no height is 0
  pub positive : (place : ℕ) → 0 < height_among (heights world) (Some place)
  positive place =
      ⊎_elim
      (λ (within : place < length world.layouts). subst (λ (height : ℕ). 0 < height) (sym (in-row place within)) (of-row (row_at place)))
      (λ (past : length world.layouts ≤ place). subst (λ (height : ℕ). 0 < height) (sym (elsewhere (length world.layouts) place past)) (omega arith))
      (cases_lt place (length world.layouts))
    where
      of-row : (row : Option (Ty × Layout)) → 0 < row_height world (first_heights world place) row
      of-row (Some row) = omega arith
      of-row None = omega arith

-- a greatest number, with one number more
pub greatest-more : (xs : List ℕ) (x : ℕ) → greatest (xs ++ x ∷ []) ≡ greatest xs + (x - greatest xs)
greatest-more [] x = omega arith
greatest-more (first ∷ xs) x = let rest = greatest-more xs x in omega (arith, rest)

-- no number of a list is greater than the greatest
pub no-greater : (xs : List ℕ) (i x : ℕ) → slice_get xs i ≡ Some x → x ≤ greatest xs
no-greater [] i x is = absurd cc
no-greater (first ∷ xs) zero x is = let same : first ≡ x = cc in omega (arith, same)
no-greater (first ∷ xs) (suc i) x is = let rest = no-greater xs i x is in omega (arith, rest)

get-map : {X Y : Type 0} (f : X → Y) (xs : List X) (i : ℕ) (x : X) → slice_get xs i ≡ Some x → slice_get (map f xs) i ≡ Some (f x)
get-map f [] i x is = absurd cc
get-map f (first ∷ xs) zero x is = ap (option_map f) is
get-map f (first ∷ xs) (suc i) x is = get-map f xs i x is

-- what is at most a number, and what isn't
pub most : (number limit : ℕ) → number ≤ limit → at_most number limit ≡ Some number
most number limit less = ap (λ (test : Bool). if test then Some number else None) (le-leb number limit less)

pub too-much : (number limit : ℕ) → limit < number → at_most number limit ≡ None
too-much number limit more = by (nat_le number limit) refl
  where
    by : (test : Bool) → nat_le number limit ≡ test → (if test then Some number else None) ≡ None
    by true is = absurd (omega (arith, more, leb-true number limit is))
    by false is = refl

pub was-most : (number limit found : ℕ) → Some found ≡ at_most number limit → (found ≡ number) × (number ≤ limit)
was-most number limit found is = by (nat_le number limit) refl is
  where
    by : (test : Bool) → nat_le number limit ≡ test → Some found ≡ (if test then Some number else None) → (found ≡ number) × (number ≤ limit)
    by true less same = (cc, leb-true number limit less)
    by false more same = absurd cc

pub was-too-much : (number limit : ℕ) → None ≡ at_most number limit → limit < number
was-too-much number limit is = by (nat_le number limit) refl is
  where
    by : (test : Bool) → nat_le number limit ≡ test → None ≡ (if test then Some number else None) → limit < number
    by true less same = absurd cc
    by false more same = leb-false number limit more

get-there : {X : Type 0} (xs : List X) (i : ℕ) (x d : X) → slice_get xs i ≡ Some x → get_or xs i d ≡ x
get-there [] i x d is = absurd cc
get-there (first ∷ xs) zero x d is = cc
get-there (first ∷ xs) (suc i) x d is = get-there xs i x d is

-- one part more
module _ (heights : List ℕ) (places : List (Option ℕ)) (i : ℕ) (place : Option ℕ) (there : slice_get places i ≡ Some place) where
  abbrev among : Option ℕ → ℕ
  among = height_among heights

  -- the greatest of all is too much where one is
  pub one-too-much : (limit : ℕ) → limit < among place → at_most (greatest (map among places)) limit ≡ None
  one-too-much limit more =
      let less = no-greater (map among places) i (among place) (get-map among places i place there) in
      too-much (greatest (map among places)) limit (omega (arith, more, less))

  -- the greatest of the parts so far, with this one more
  pub with-part : (some highest more : ℕ) → i < length places → highest ≡ greatest (map among (take i places)) → some ≡ among place → more ≡ highest + (some - highest) →
      more ≡ greatest (map among (take (i + 1) places))
  with-part some highest more within before is raised =
      let taken : take (i + 1) places ≡ take i places ++ place ∷ [] = take_more places i place within ∙ ap (λ (p : Option ℕ). take i places ++ p ∷ []) last in
      raised
      ∙ ap (λ (n : ℕ). n + (some - n)) before
      ∙ ap (λ (n : ℕ). greatest (map among (take i places)) + (n - greatest (map among (take i places)))) is
      ∙ sym (greatest-more (map among (take i places)) (among place))
      ∙ sym (ap greatest (ap (map among) taken ∙ map-append among (take i places) (place ∷ [])))
    where
      last : get_or places i place ≡ place
      last = get-there places i place place there
