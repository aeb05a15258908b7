-- What a look-up among kept answers finds.
use Rattle.std.proofs.Common.{◌≡◌, ℕ, zero, suc, arith, Bool, true, false, cond, List, [], ◌∷◌, Option, Some, None, refl, sym, ap, ◌∙◌}
use Rattle.std.specs.Prelude.{Contains, map, slice_get}
use Rattle.std.specs.BTreeMap.{is_at}
use Rattle.std.specs.List.{find}
use Rattle.mir_graph.proofs.Lists.{slice_get_below}
use Rattle.types.specs.Places.{row_at}
use Rattle.world.proofs.Rows.{found_at}
use Rattle.world.specs.declared.database.HirDatabase.{HirDatabase}
use Rattle.consteval.specs.contracts.kept.KeyOrd.TheImpl as KeyOrd
use Rattle.consteval.specs.declared.kept.Held.{Held}
use Rattle.consteval.specs.declared.kept.Key.{Key}
use Rattle.consteval.specs.Kept.{IsKept, entry_of, kept_of, key_of}
use Rattle.consteval.proofs.Elements.{at-place, from-place, made-from, place-of-made}
use Rattle.consteval.proofs.Keys.{order_decides}

-- where none is found, none passes
none-passes : {X : Type 0} (test : X → Bool) (xs : List X) (i : ℕ) (x : X) → None ≡ find test xs → slice_get xs i ≡ Some x → test x ≡ true → ⊥
none-passes test [] i x none at passes = let below = slice_get_below [] i x at in omega arith
none-passes test (y ∷ ys) zero x none at passes =
    let same : y ≡ x = cc in
    let some : None ≡ Some y = none ∙ ap (λ b. cond b (Some y) (find test ys)) (ap test same ∙ passes) in
    cc
none-passes {X} test (y ∷ ys) (suc i) x none at passes = by (test y) refl (λ further. none-passes test ys i x further at passes) where
  by : (b : Bool) → test y ≡ b → (None ≡ find test ys → ⊥) → ⊥
  by true e in_rest = let some : None ≡ Some y = none ∙ ap (λ b. cond b (Some y) (find test ys)) e in cc
  by false e in_rest = in_rest (none ∙ ap (λ b. cond b (Some y) (find test ys)) e)

-- the first answer that is kept for a key
abbrev answer_for : Key → List Held → Option Held
answer_for k answers = row_at (λ held. key_of (entry_of held)) (KeyOrd.ghosts.cmp k) answers

pub found : (answers : List Held) (k : Key) (held : Held) → Some held ≡ answer_for k answers → Contains (map entry_of answers) (entry_of held) × (key_of (entry_of held) ≡ k)
found answers k held is =
    let at = found_at (λ one. is_at (KeyOrd.ghosts.cmp k) (key_of (entry_of one))) answers held (sym is) in
    (from-place (map entry_of answers) (entry_of held) at.0 (place-of-made entry_of answers at.0 held at.1), sym ((order_decides k (key_of (entry_of held))).0 at.2))

pub not-found : (world : HirDatabase) (answers : List Held) (k : Key) → None ≡ answer_for k answers → IsKept (kept_of world answers) k → ⊥
not-found world answers k none kept =
    let at = at-place (map entry_of answers) kept.0 kept.1 in
    let one = made-from entry_of answers at.0 kept.0 at.1 in
    none-passes (λ held. is_at (KeyOrd.ghosts.cmp k) (key_of (entry_of held))) answers at.0 one.0 none one.1
    ((order_decides k (key_of (entry_of one.0))).1 (sym kept.2 ∙ ap key_of (sym one.2)))
