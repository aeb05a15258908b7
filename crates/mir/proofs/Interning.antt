-- A store keeps its law, and its map has the right ids, as a projection gets the next id.
use mathlib.Core.Bool.{true≢false}
use Rattle.std.proofs.Common.{◌≡◌, ℕ, ◌+◌, ◌<◌, ◌≤◌, ◌⊎◌, zero, suc, Bool, true, false, cond, List, [], ◌∷◌, ◌++◌, length, get_or, take, Option, Some, None, refl, sym, ◌∙◌, ap, subst, inl, inr, ⊎_elim, arith, length-append, lit≤}
use Rattle.std.proofs.lemmas.Bool.{cases_lt}
use Rattle.std.proofs.lemmas.List.{length-take-le, take_more}
use Rattle.std.proofs.lemmas.Option.{same_Some, slice_get_cases, slice_get_within}
use Rattle.std.specs.BTreeMap.{is_at}
use Rattle.std.specs.Cmp.Lexicographic.{slice_cmp}
use Rattle.std.specs.Prelude.{IfNone, IfSome, slice_get}
use Rattle.mir.specs.declared.projection.ProjectionId.{ProjectionId}
use Rattle.mir.specs.Elements.{elem_cmp, projection_decides}
use Rattle.mir.specs.ProjectionIds.{AreIds, id_at}
use Rattle.mir.specs.Projections.{AreInterned, HasNoId, HasRoom, Interned, Projection, empty_id, projection_of}

module _ {X : Type 0} where
  get_front : (xs : List X) (y : X) (i : ℕ) → i < length xs → slice_get (xs ++ y ∷ []) i ≡ slice_get xs i
  get_front [] y i h = absurd (omega arith)
  get_front (x ∷ xs) y zero h = refl
  get_front (x ∷ xs) y (suc i) h = get_front xs y i (omega arith)

  get_end : (xs : List X) (y : X) → slice_get (xs ++ y ∷ []) (length xs) ≡ Some y
  get_end [] y = refl
  get_end (x ∷ xs) y = get_end xs y

  -- what stands in a list with one more element at its end stood there before, or is that element
  before_or_last : (xs : List X) (y x : X) (i : ℕ) → slice_get (xs ++ y ∷ []) i ≡ Some x → (slice_get xs i ≡ Some x) ⊎ ((i ≡ length xs) × (y ≡ x))
  before_or_last xs y x i is =
      ⊎_elim (λ below. inl (sym (get_front xs y i below) ∙ is)) (λ above. inr (at above)) (cases_lt i (length xs))
    where
      at : length xs ≤ i → (i ≡ length xs) × (y ≡ x)
      at above =
          let within = slice_get_within (xs ++ y ∷ []) i x is in
          let last : i ≡ length xs = omega (arith, length-append xs (y ∷ [])) in
          (last, same_Some y x (sym (get_end xs y) ∙ ap (slice_get (xs ++ y ∷ [])) (sym last) ∙ is))

id_same : (a b : ProjectionId) → a.0 ≡ b.0 → a ≡ b
id_same a b e i = record { 0 = e i }

module _ (kept : List Projection) (projection : Projection) where
  -- the projection that gets the next id stands at it
  pub added_at_end : (id : ProjectionId) → id.0 ≡ length kept → projection_of (kept ++ projection ∷ []) id ≡ Some projection
  added_at_end id e = ap (slice_get (kept ++ projection ∷ [])) e ∙ get_end kept projection

  -- every other keeps its id
  pub others_stay : (id : ProjectionId) (other : Projection) → projection_of kept id ≡ Some other → projection_of (kept ++ projection ∷ []) id ≡ Some other
  others_stay id other is = get_front kept projection id.0 (slice_get_within kept id.0 other is) ∙ is

  once_more : AreInterned kept → HasNoId kept projection → (one other : ProjectionId) (x : Projection)
      → projection_of (kept ++ projection ∷ []) one ≡ Some x → projection_of (kept ++ projection ∷ []) other ≡ Some x → one ≡ other
  once_more law none one other x is also =
      ⊎_elim (λ a. ⊎_elim (λ b. law.once one other (slice_get_within kept one.0 x a) (a ∙ sym b)) (λ b. absurd (none one (a ∙ ap Some (sym b.1)))) (before_or_last kept projection x other.0 also))
      (λ a. ⊎_elim (λ b. absurd (none other (b ∙ ap Some (sym a.1)))) (λ b. id_same one other (a.0 ∙ sym b.0)) (before_or_last kept projection x other.0 also))
      (before_or_last kept projection x one.0 is)

  pub law_grows : AreInterned kept → HasNoId kept projection → HasRoom kept → AreInterned (kept ++ projection ∷ [])
  law_grows law none room = record {
    once = λ one other has same. ⊎_elim (λ there. once_more law none one other there.0 there.2 (sym same ∙ there.2)) (λ past. absurd (omega (arith, past.0, has))) ((slice_get_cases (kept ++ projection ∷ []) one.0).1);
    empty = others_stay empty_id [] law.empty;
    count = omega (arith, length-append kept (projection ∷ []));
  }

  module _ (before after : List (Projection × ProjectionId)) (key : Projection) (next : ProjectionId)
      (ids : AreIds kept before) (same : key ≡ projection) (at_end : next.0 ≡ length kept)
      (put : (other : Projection) → id_at after other ≡ cond (is_at (slice_cmp elem_cmp key) other) (Some next) (id_at before other)) where
    found_after : (other : Projection) (id : ProjectionId) (r : Bool) → is_at (slice_cmp elem_cmp key) other ≡ r → id_at after other ≡ Some id → projection_of (kept ++ projection ∷ []) id ≡ Some other
    found_after other id true e is =
        let it : next ≡ id = same_Some next id (sym (put other ∙ ap (λ r. cond r (Some next) (id_at before other)) e) ∙ is) in
        let one : projection ≡ other = sym same ∙ (projection_decides key other).0 e in
        added_at_end id (ap (λ (i : ProjectionId). i.0) (sym it) ∙ at_end) ∙ ap Some one
    found_after other id false e is =
        others_stay id other (ids.found other id (sym (put other ∙ ap (λ r. cond r (Some next) (id_at before other)) e) ∙ is))

    missing_after : (other : Projection) (r : Bool) → is_at (slice_cmp elem_cmp key) other ≡ r → id_at after other ≡ None → HasNoId (kept ++ projection ∷ []) other
    missing_after other true e is id there =
        let no : Some next ≡ None = sym (put other ∙ ap (λ r. cond r (Some next) (id_at before other)) e) ∙ is in cc
    missing_after other false e is id there =
        ⊎_elim (ids.missing other (sym (put other ∙ ap (λ r. cond r (Some next) (id_at before other)) e) ∙ is) id)
        (λ last. absurd (true≢false (sym ((projection_decides key other).1 (same ∙ last.1)) ∙ e))) (before_or_last kept projection other id.0 there)

    -- the map has the ids of all, once it has the next one at the projection
    pub ids_grow : AreIds (kept ++ projection ∷ []) after
    ids_grow = record {
      found = λ other id is. found_after other id (is_at (slice_cmp elem_cmp key) other) refl is;
      missing = λ other is. missing_after other (is_at (slice_cmp elem_cmp key) other) refl is;
    }

-- the empty projection alone
first_once : (one other : ℕ) → one < 1 → slice_get {X = Projection} ([] ∷ []) one ≡ slice_get ([] ∷ []) other → one ≡ other
first_once zero zero has same = refl
first_once zero (suc other) has same = cc
first_once (suc one) other has same = absurd (omega arith)

pub first_law : AreInterned ([] ∷ [])
first_law = record { once = λ one other has same. id_same one other (first_once one.0 other.0 has same); empty = refl; count = lit≤ tt }

pub first_ids : AreIds ([] ∷ []) (([], empty_id) ∷ [])
first_ids = record { found = first_found; missing = first_missing } where
  first_found : (projection : Projection) (id : ProjectionId) → id_at (([], empty_id) ∷ []) projection ≡ Some id → projection_of ([] ∷ []) id ≡ Some projection
  first_found [] id is = ap (λ (i : ProjectionId). projection_of ([] ∷ []) i) (sym (same_Some empty_id id is))
  first_found (element ∷ rest) id is = cc

  first_missing : (projection : Projection) → id_at (([], empty_id) ∷ []) projection ≡ None → HasNoId ([] ∷ []) projection
  first_missing [] is id there = cc
  first_missing (element ∷ rest) is id there = not_first id.0 there where
    not_first : (i : ℕ) → slice_get ([] ∷ []) i ≡ Some (element ∷ rest) → ⊥
    not_first zero h = let no : [] ≡ element ∷ rest = same_Some [] (element ∷ rest) h in cc
    not_first (suc i) h = cc

pub first_ids_at : (kept : List Projection) (ids : List (Projection × ProjectionId)) → kept ≡ [] ∷ [] → ids ≡ ([], empty_id) ∷ [] → AreIds kept ids
first_ids_at kept ids first only = subst (λ (ps : List Projection). AreIds ps ids) (sym first) (subst (λ (es : List (Projection × ProjectionId)). AreIds ([] ∷ []) es) (sym only) first_ids)

-- what the map answers is the id, if the projection has one
module _ (kept : List Projection) (ids : List (Projection × ProjectionId)) (projection : Projection) where
  pub found_if_there : (r : Option ProjectionId) → AreIds kept ids → r ≡ id_at ids projection → IfSome r (λ id. projection_of kept id ≡ Some projection)
  found_if_there None right is = tt
  found_if_there (Some id) right is = right.found projection id (sym is)

  pub missing_if_none : (r : Option ProjectionId) → AreIds kept ids → r ≡ id_at ids projection → IfNone r (HasNoId kept projection)
  missing_if_none None right is = right.missing projection (sym is)
  missing_if_none (Some id) right is = tt

-- the law holds after a push, whether there was memory or not
pub pushed_law : (b : Bool) (now : Interned) (reserved pushed : List Projection) (projection sought : Projection) → reserved ≡ now.projections
    → pushed ≡ cond b (reserved ++ projection ∷ []) reserved → sought ≡ projection → HasNoId now.projections sought → HasRoom now.projections → AreInterned pushed
pushed_law true now reserved pushed projection sought same is it none room =
    subst AreInterned (sym (is ∙ ap (λ (kept : List Projection). kept ++ projection ∷ []) same))
    (law_grows now.projections projection now.law (subst (λ (p : Projection). HasNoId now.projections p) it none) room)
pushed_law false now reserved pushed projection sought same is it none room = subst AreInterned (sym (is ∙ same)) now.law

-- A walk over all projections copies each into a list of those before it, and its place into a map of their ids.
pub copied_more : (all : List Projection) (i : ℕ) (next copy : Projection) (so_far : List Projection) → so_far ≡ take i all → copy ≡ next → i < length all → next ≡ get_or all i next
    → so_far ++ copy ∷ [] ≡ take (i + 1) all
copied_more all i next copy so_far e same h is = (λ j. e j ++ same j ∷ []) ∙ ap (λ z. take i all ++ z ∷ []) is ∙ sym (take_more all i next h)

pub ids_copied : (all : List Projection) (i : ℕ) (next : Projection) (before after : List (Projection × ProjectionId)) (key : Projection) (id : ProjectionId) → AreIds (take i all) before
    → key ≡ next → id.0 ≡ i → i < length all → next ≡ get_or all i next
    → ((other : Projection) → id_at after other ≡ cond (is_at (slice_cmp elem_cmp key) other) (Some id) (id_at before other)) → AreIds (take (i + 1) all) after
ids_copied all i next before after key id right same e h is put =
    subst (λ (kept : List Projection). AreIds kept after) (copied_more all i next next (take i all) refl refl h is)
    (ids_grow (take i all) next before after key id right same (e ∙ sym (length-take-le i all (omega arith))) put)
