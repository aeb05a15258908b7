-- What an index finds, and that it stays an index as rows are added at the end.
use Rattle.std.proofs.Common.{◌≡◌, ℕ, ◌+◌, ◌≤◌, Bool, true, false, cond, List, [], ◌∷◌, ◌++◌, length, get_or, Option, None, Some, slice_get, refl, sym, ◌∙◌, ap, arith, length-append}
use Rattle.std.proofs.Math.Dec.{ltb, eqb}
use Rattle.std.proofs.Math.Path.{fun_ext}
use Rattle.std.proofs.lemmas.Bool.{ltb-true, ltb-false}
use Rattle.std.proofs.lemmas.Bool.Decides.{nat_tests}
use Rattle.std.proofs.lemmas.List.Folds.{find_at, position_or_len_push}
use Rattle.std.proofs.lemmas.List.Sums.{passes_at_first, prefix_len-le-length}
use Rattle.std.proofs.lemmas.Option.{slice_get_past}
use Rattle.std.specs.BTreeMap.{is_at}
use Rattle.std.specs.Cmp.{IsTotalOrder}
use Rattle.std.specs.List.{find, position, position_or_len}
use Rattle.std.specs.Map.{lookup}
use Rattle.std.specs.Option.{option_or, is_some}
use Rattle.std.specs.Ordering.{is_eq, ordering_reverse}
use Rattle.std.specs.declared.cmp.Ordering.{Ordering}
use Rattle.std.specs.declared.cmp.Ordering.TheVariants.{Less, Equal, Greater}
use Rattle.types.specs.Places.{row_at, place_at, IsIndex}

reversed_tie : (o : Ordering) → is_eq (ordering_reverse o) ≡ is_eq o
reversed_tie Less = refl
reversed_tie Equal = refl
reversed_tie Greater = refl

tie_is_equal : (o : Ordering) → is_eq o ≡ true → o ≡ Equal
tie_is_equal Less h = cc
tie_is_equal Equal h = refl
tie_is_equal Greater h = cc

by_bool : {P : Type 0} (b : Bool) → (b ≡ true → P) → (b ≡ false → P) → P
by_bool true f g = f refl
by_bool false f g = g refl

module _ {R : Type 0} (test : R → Bool) (rows : List R) where
  place_first : (n i : ℕ) (b : Bool) → Some i ≡ cond b (Some n) None → i ≡ n
  place_first n i true h = cc
  place_first n i false h = cc

  place_none : (n m : ℕ) → None ≡ cond (ltb n m) (Some n) None → m ≤ n
  place_none n m h = by_bool (ltb n m) (λ t. let some : None ≡ Some n = h ∙ ap (λ b. cond b (Some n) None) t in cc) (ltb-false n m)

  -- at the place of the first row that passes stands what `find` finds
  pub position_finds : (i : ℕ) → Some i ≡ position test rows → slice_get rows i ≡ find test rows
  position_finds i h = ap (slice_get rows) (place_first (position_or_len test rows) i _ h) ∙ sym (find_at test rows)

  -- no place, no row
  pub no_position : None ≡ position test rows → None ≡ find test rows
  no_position h = sym (find_at test rows ∙ slice_get_past rows (position_or_len test rows) (place_none _ _ h))

place_after : (n m : ℕ) (b : Bool) → n ≤ m
    → cond (ltb (cond (eqb n m) (m + cond b 0 1) n) (m + 1)) (Some (cond (eqb n m) (m + cond b 0 1) n)) None ≡ option_or (cond (ltb n m) (Some n) None) (cond b (Some m) None)
place_after n m true h = grind (arith, nat_tests)
place_after n m false h = grind (arith, nat_tests)

-- one more row is found at the end, where no row before it is
pub position_push : {R : Type 0} (test : R → Bool) (rows : List R) (row : R) → position test (rows ++ row ∷ []) ≡ option_or (position test rows) (cond (test row) (Some (length rows)) None)
position_push test rows row =
    rw (position_or_len_push test rows row, length-append rows (row ∷ []))
    (place_after (position_or_len test rows) (length rows) (test row) (prefix_len-le-length _ rows))

module _ {K R : Type 0} {cmp : K → K → Ordering} (key : R → K) (compare : K → Ordering) (respects : (x y : K) → compare x ≡ Equal → compare y ≡ cmp x y) where
  lookup_at_tie : {X : Type 0} (x : K) → compare x ≡ Equal → (es : List (K × X)) → lookup (is_at compare) es ≡ lookup (is_at (cmp x)) es
  lookup_at_tie x h es = ap (λ (c : K → Ordering). lookup (is_at c) es) (fun_ext (λ y. respects x y h))

  place_at_tie : (x : K) → compare x ≡ Equal → (rows : List R) → place_at key (cmp x) rows ≡ place_at key compare rows
  place_at_tie x h rows = ap (λ (c : K → Ordering). place_at key c rows) (sym (fun_ext (λ y. respects x y h)))

  -- some row has a key that ties, or no place is found
  by_row : (P : Type 0) (rows : List R) → ((x : K) → compare x ≡ Equal → P) → (place_at key compare rows ≡ None → P) → P
  by_row P [] tied none = none refl
  by_row P (row ∷ rows) tied none =
      let test = λ (r : R). is_at compare (key r) in
      let all = row ∷ rows in
      let n = position_or_len test all in
      by_bool (ltb n (length all)) (λ t. tied (key (get_or all n row)) (tie_is_equal _ (passes_at_first test all row (ltb-true _ _ t))))
      (λ f. none (ap (λ b. cond b (Some n) None) f))

  by_entry : {X : Type 0} (P : Type 0) (es : List (K × X)) → ((x : K) → compare x ≡ Equal → P) → (lookup (is_at compare) es ≡ None → P) → P
  by_entry P [] tied none = none refl
  by_entry P (e ∷ es) tied none =
      by_bool (is_at compare e.0) (λ t. tied e.0 (tie_is_equal _ t))
      (λ f. by_entry P es tied (λ n. none (ap (λ b. cond b (Some e.1) (lookup (is_at compare) es)) f ∙ n)))

  -- an index answers every query that compares as a key does where it ties
  pub place_found : (rows : List R) (places : List (K × ℕ)) → IsIndex cmp key rows places → lookup (is_at compare) places ≡ place_at key compare rows
  place_found rows places index =
      let at_key : (x : K) → compare x ≡ Equal → lookup (is_at compare) places ≡ place_at key compare rows =
      λ x h. lookup_at_tie x h places ∙ index x ∙ place_at_tie x h rows in
      by_row _ rows at_key (λ no_row. by_entry _ places at_key (λ no_entry. no_entry ∙ sym no_row))

-- the row at the place of a key is the row of the key
pub found_at : {K R : Type 0} (key : R → K) (compare : K → Ordering) (rows : List R) (i : ℕ) → Some i ≡ place_at key compare rows → slice_get rows i ≡ row_at key compare rows
found_at key compare rows i h = position_finds (λ row. is_at compare (key row)) rows i h

pub found_nowhere : {K R : Type 0} (key : R → K) (compare : K → Ordering) (rows : List R) → None ≡ place_at key compare rows → None ≡ row_at key compare rows
found_nowhere key compare rows h = no_position (λ row. is_at compare (key row)) rows h

module _ {K R : Type 0} {cmp : K → K → Ordering} (total : IsTotalOrder cmp) (key : R → K) where
  tie_symm : (j k : K) → is_at (cmp j) k ≡ is_at (cmp k) j
  tie_symm j k = ap is_eq (total.antisymm j k) ∙ reversed_tie (cmp k j)

  stays : (p : Option ℕ) (n : ℕ) (b : Bool) → (b ≡ true → is_some p ≡ true) → p ≡ option_or p (cond b (Some n) None)
  stays None n false f = refl
  stays None n true f = let e : false ≡ true = f refl in cc
  stays (Some i) n b f = refl

  grows : (p : Option ℕ) (n : ℕ) (b : Bool) → (b ≡ true → is_some p ≡ false) → cond b (Some n) p ≡ option_or p (cond b (Some n) None)
  grows None n false f = refl
  grows None n true f = refl
  grows (Some i) n false f = refl
  grows (Some i) n true f = let e : true ≡ false = f refl in cc

  module _ (rows : List R) (row : R) where
    -- where a key is found once the row is added at the end
    place_pushed : (places : List (K × ℕ)) → IsIndex cmp key rows places → (j : K)
        → option_or (lookup (is_at (cmp j)) places) (cond (is_at (cmp j) (key row)) (Some (length rows)) None) ≡ place_at key (cmp j) (rows ++ row ∷ [])
    place_pushed places index j =
        ap (λ (p : Option ℕ). option_or p (cond (is_at (cmp j) (key row)) (Some (length rows)) None)) (index j) ∙ sym (position_push (λ r. is_at (cmp j) (key r)) rows row)

    -- what look-ups of the row's key say holds at each key that ties
    at_ties : (places : List (K × ℕ)) (b : Bool) (j : K) → is_some (lookup (is_at (cmp (key row))) places) ≡ b → is_at (cmp j) (key row) ≡ true → is_some (lookup (is_at (cmp j)) places) ≡ b
    at_ties places b j h t = ap is_some (lookup_at_tie {cmp = cmp} key (cmp j) (total.congr j) (key row) (tie_is_equal _ t) places) ∙ h

    -- a row with a key that the index has already
    pub index_stays : (places : List (K × ℕ)) (copy : K) → IsIndex cmp key rows places → copy ≡ key row → is_some (lookup (is_at (cmp copy)) places) ≡ true → IsIndex cmp key (rows ++ row ∷ []) places
    index_stays places copy index same h j =
        let there = ap (λ c. is_some (lookup (is_at (cmp c)) places)) (sym same) ∙ h in
        stays (lookup (is_at (cmp j)) places) (length rows) (is_at (cmp j) (key row)) (at_ties places true j there) ∙ place_pushed places index j

    index_grows : (places more : List (K × ℕ)) → IsIndex cmp key rows places → is_some (lookup (is_at (cmp (key row))) places) ≡ false
        → ((j : K) → lookup (is_at (cmp j)) more ≡ cond (is_at (cmp (key row)) j) (Some (length rows)) (lookup (is_at (cmp j)) places)) → IsIndex cmp key (rows ++ row ∷ []) more
    index_grows places more index h added j =
        added j ∙ ap (λ b. cond b (Some (length rows)) (lookup (is_at (cmp j)) places)) (tie_symm (key row) j)
        ∙ grows (lookup (is_at (cmp j)) places) (length rows) (is_at (cmp j) (key row)) (at_ties places false j h) ∙ place_pushed places index j

    -- a row with a new key, whose place is added at a copy of the key
    pub index_adds : (places more : List (K × ℕ)) (copy : K) (place : ℕ) → IsIndex cmp key rows places → copy ≡ key row → is_some (lookup (is_at (cmp copy)) places) ≡ false → place ≡ length rows
        → ((j : K) → lookup (is_at (cmp j)) more ≡ cond (is_at (cmp copy) j) (Some place) (lookup (is_at (cmp j)) places)) → IsIndex cmp key (rows ++ row ∷ []) more
    index_adds places more copy place index same h at_end added =
        index_grows places more index (ap (λ c. is_some (lookup (is_at (cmp c)) places)) (sym same) ∙ h) (λ j. added j
        ∙ ap (λ c. cond (is_at (cmp c) j) (Some place) (lookup (is_at (cmp j)) places)) same
        ∙ ap (λ n. cond (is_at (cmp (key row)) j) (Some n) (lookup (is_at (cmp j)) places)) at_end)
