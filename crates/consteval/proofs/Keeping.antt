-- What is kept stays right when more is kept.
use Rattle.std.proofs.Common.{◌≡◌, ℕ, arith, ◌⊎◌, ⊎_elim, inl, inr, List, [], ◌∷◌, ◌++◌, take, Some, Result, Ok, Err, refl, sym, ap, ◌∙◌, subst, append_assoc}
use Rattle.std.specs.Prelude.{Contains, slice_get, OnOk, OnErr}
use Rattle.std.proofs.Math.Seq.{take-append_seam}
use Rattle.std.proofs.lemmas.List.{append-nil, map-append, take-append-le}
use Rattle.std.proofs.lemmas.List.Elements.{Contains-push, Contains-append_left}
use Rattle.mir_graph.proofs.Lists.{slice_get-more, slice_get_below}
use Rattle.world.specs.declared.database.HirDatabase.{HirDatabase}
use Rattle.types.specs.declared.ids.DefWithBodyId.{DefWithBodyId}
use Rattle.types.specs.declared.ty.Const.{Const}
use Rattle.mir.specs.declared.body.MirBody.{MirBody}
use Rattle.consteval.specs.declared.kept.Held.{Held}
use Rattle.consteval.specs.declared.kept.Key.TheVariants as key
use Rattle.consteval.proofs.Elements.{at-place, from-place}
use Rattle.consteval.specs.Kept.{Kept, Entry, Lowered, Value, IsKept, IsLowered, IsSound, RestsOn, Stays, entry_of, kept_before, kept_of, key_of, with_entry}

pub stays : (kept : Kept) → Stays kept kept
stays kept = record { world = refl; more = []; entries = sym (append-nil kept.entries) }

pub stays-then : (before between after : Kept) → Stays before between → Stays between after → Stays before after
stays-then before between after first second =
    record {
      world = second.world ∙ first.world;
      more = first.more ++ second.more;
      entries = second.entries ∙ ap (λ entries. entries ++ second.more) first.entries ∙ append_assoc before.entries first.more second.more;
    }

pub with_entry-stays : (entry : Entry) (kept : Kept) → Stays kept (with_entry entry kept)
with_entry-stays entry kept = record { world = refl; more = entry ∷ []; entries = refl }

-- an answer that was kept is kept later
pub contains-stays : (before after : Kept) → Stays before after → (entry : Entry) → Contains before.entries entry → Contains after.entries entry
contains-stays before after stays entry there =
    subst (λ entries. Contains entries entry) (sym stays.entries) (Contains-append_left before.entries stays.more entry there)

pub first-sound : (world : HirDatabase) → IsSound (record { world = world; entries = [] })
first-sound world = record { distinct = λ i j one other at. none i one at; rests = λ i entry at. none i entry at } where
  none : {P : Type 0} (i : ℕ) (entry : Entry) → slice_get [] i ≡ Some entry → P
  none i entry at = let below = slice_get_below [] i entry at in absurd (omega arith)

-- an answer is right over the world of what is kept, by other answers
abbrev RestsOnThese : Kept → List Entry → Entry → Type 0
RestsOnThese kept entries entry = RestsOn (record kept { entries = entries }) entry

-- one more answer is right where nothing is kept for its key and it rests on what is kept
pub with_entry-sound : (entry : Entry) (kept : Kept) → ¬ IsKept kept (key_of entry) → RestsOn kept entry → IsSound kept → IsSound (with_entry entry kept)
with_entry-sound entry kept fresh right sound = record { distinct = distinct; rests = rests } where
  distinct : (i j : ℕ) (one other : Entry) → slice_get (kept.entries ++ entry ∷ []) i ≡ Some one → slice_get (kept.entries ++ entry ∷ []) j ≡ Some other → key_of one ≡ key_of other → i ≡ j
  distinct i j one other at-i at-j same =
      ⊎_elim
      (λ a. ⊎_elim (λ b. a.0 ∙ sym b.0) (λ b. absurd (fresh (other, from-place kept.entries other j b, sym same ∙ ap key_of (sym a.1)))) (slice_get-more kept.entries entry other j at-j))
      (λ a. ⊎_elim (λ b. absurd (fresh (one, from-place kept.entries one i a, same ∙ ap key_of (sym b.1)))) (λ b. sound.distinct i j one other a b same) (slice_get-more kept.entries entry other j at-j))
      (slice_get-more kept.entries entry one i at-i)

  rests : (i : ℕ) (one : Entry) → slice_get (kept.entries ++ entry ∷ []) i ≡ Some one → RestsOn (kept_before i (with_entry entry kept)) one
  rests i one at =
      ⊎_elim
      (λ last.
      subst (RestsOnThese kept (take i (kept.entries ++ entry ∷ []))) last.1
      (subst (λ n. RestsOnThese kept (take n (kept.entries ++ entry ∷ [])) entry) (sym last.0)
      (subst (λ entries. RestsOnThese kept entries entry) (sym (take-append_seam kept.entries (entry ∷ []))) right)))
      (λ old. let below = slice_get_below kept.entries i one old in subst (λ entries. RestsOnThese kept entries one) (sym (take-append-le i kept.entries (entry ∷ []) (omega arith))) (sound.rests i one old))
      (slice_get-more kept.entries entry one i at)

-- what is kept for a key is one answer
same-element : {X : Type 0} (x y : X) → Some x ≡ Some y → x ≡ y
same-element x y h = cc

pub kept-once : (kept : Kept) → IsSound kept → (one other : Entry) → Contains kept.entries one → Contains kept.entries other → key_of one ≡ key_of other → one ≡ other
kept-once kept sound one other here there same =
    let a = at-place kept.entries one here in
    let b = at-place kept.entries other there in
    let place = sound.distinct a.0 b.0 one other a.1 b.1 same in
    same-element one other (sym a.1 ∙ ap (slice_get kept.entries) place ∙ b.1)

-- the lowered body that is kept for a definition is one
pub kept-body-is-one : (kept : Kept) → IsSound kept → (def : DefWithBodyId) (one other : MirBody) → Contains kept.entries (Lowered def one) → Contains kept.entries (Lowered def other) → one ≡ other
kept-body-is-one kept sound def one other here there =
    let same = kept-once kept sound (Lowered def one) (Lowered def other) here there refl in
    cc

-- a kept lowered body was lowered from its definition's row
pub kept-body-lowered : (kept : Kept) → IsSound kept → (def : DefWithBodyId) (body : MirBody) → Contains kept.entries (Lowered def body) → IsLowered kept.world def body
kept-body-lowered kept sound def body there =
    let at = at-place kept.entries (Lowered def body) there in
    sound.rests at.0 (Lowered def body) at.1

-- what is kept for a definition's value is a value of it
pub kept-value : (kept : Kept) (def : DefWithBodyId) → IsKept kept (key.Value def) → (konst : Const) × Contains kept.entries (Value def konst)
kept-value kept def is = by is.0 is.1 is.2 where
  by : (entry : Entry) → Contains kept.entries entry → key_of entry ≡ key.Value def → (konst : Const) × Contains kept.entries (Value def konst)
  by (Lowered other body) there same = absurd cc
  by (Value other konst) there same =
      let one : other ≡ def = cc in
      (konst, subst (λ d. Contains kept.entries (Value d konst)) one there)

-- what is kept for a definition's lowered body is one of it
pub kept-lowered : (kept : Kept) (def : DefWithBodyId) (entry : Entry) → key_of entry ≡ key.Lowered def → (body : MirBody) × (entry ≡ Lowered def body)
kept-lowered kept def (Lowered other body) same =
    let one : other ≡ def = cc in
    (body, ap (λ d. Lowered d body) one)
kept-lowered kept def (Value other konst) same = absurd cc

-- a call that kept an answer, or left all as it was
kept_or_not : {T E : Type 0} {A B : Type 0} (result : Result T E) → OnOk result A → OnErr result B → A ⊎ B
kept_or_not (Ok t) kept unchanged = inl kept
kept_or_not (Err e) kept unchanged = inr unchanged

module _ (world : HirDatabase) (old new : List Held) (held : Held) where
  pub kept-one : new ≡ old ++ held ∷ [] → kept_of world new ≡ with_entry (entry_of held) (kept_of world old)
  kept-one is = ap (kept_of world) is ∙ ap (λ entries. record { world = world; entries = entries }) (map-append entry_of old (held ∷ []))

  pub push-sound : {T E : Type 0} (result : Result T E) → OnOk result (new ≡ old ++ held ∷ []) → OnErr result (new ≡ old) → ¬ IsKept (kept_of world old) (key_of (entry_of held)) → RestsOn (kept_of world old) (entry_of held) → IsSound (kept_of world old) → IsSound (kept_of world new)
  push-sound result kept unchanged fresh right sound =
      ⊎_elim (λ is. subst IsSound (sym (kept-one is)) (with_entry-sound (entry_of held) (kept_of world old) fresh right sound))
      (λ same. subst (λ answers. IsSound (kept_of world answers)) (sym same) sound) (kept_or_not result kept unchanged)

module _ (before after : Kept) (entry : Entry) where
  -- what was kept stays where an answer was kept
  pub added-stays : {T E : Type 0} (result : Result T E) → OnOk result (after ≡ with_entry entry before) → OnErr result (after ≡ before) → Stays before after
  added-stays result kept unchanged =
      ⊎_elim (λ is. subst (Stays before) (sym is) (with_entry-stays entry before)) (λ same. subst (Stays before) (sym same) (stays before)) (kept_or_not result kept unchanged)

  pub added : after ≡ with_entry entry before → Contains after.entries entry
  added is = subst (λ (kept : Kept). Contains kept.entries entry) (sym is) (Contains-push before.entries entry)

  pub added-kept : after ≡ with_entry entry before → IsKept after (key_of entry)
  added-kept is = (entry, added is, refl)
