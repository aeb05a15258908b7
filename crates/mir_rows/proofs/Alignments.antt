-- Alignments, as a power of two with its exponent and as a test.
use Rattle.std.proofs.Common.{◌≡◌, ℕ, zero, suc, ◌^◌, ◌≤◌, ⊎_elim, Bool, true, false, ◌||◌, eqb, Some, refl, ap, ◌∙◌, arith, eqb-true}
use Rattle.std.proofs.lemmas.Bool.{cases_eq}
use Rattle.std.proofs.lemmas.Bool.Decides.{nat_tests}
use Rattle.world.specs.declared.database.HirDatabase.{HirDatabase}
use Rattle.world.specs.declared.layout.Layout.{Layout}
use Rattle.types.specs.declared.ty.Ty.{Ty}
use Rattle.world.specs.Checked.{IsAlignment, IsChecked}
use Rattle.world.specs.Lookups.{layout_of}
use Rattle.world.proofs.Rows.{layout_row}
use Rattle.mir_rows.specs.Alignments.{HasAlignments, is_power_to}

same-number : (n : ℕ) → eqb n n ≡ true
same-number n = grind (arith, nat_tests)

or-true : (b : Bool) → (b || true) ≡ true
or-true true = refl
or-true false = refl

-- a power with an exponent within the bound passes the test
passes : (most k n : ℕ) → k ≤ most → n ≡ 2 ^ k → is_power_to most n ≡ true
unfolding is_power_to
passes zero k n le is =
    let none : k ≡ 0 = omega arith in
    let one : n ≡ 1 = is ∙ ap (λ (e : ℕ). 2 ^ e) none in
    ap (λ (m : ℕ). eqb m 1) one
passes (suc most) k n le is =
    ⊎_elim
    (λ top. ap (λ (b : Bool). b || is_power_to most n) (ap (λ (m : ℕ). eqb m (2 ^ suc most)) (is ∙ ap (λ (e : ℕ). 2 ^ e) top) ∙ same-number (2 ^ suc most)))
    (λ other. ap (λ (b : Bool). eqb n (2 ^ suc most) || b) (passes most k n (below other) is) ∙ or-true (eqb n (2 ^ suc most)))
    (cases_eq k (suc most)) where
      below : (k ≡ suc most → ⊥) → k ≤ most
      below other = grind arith

-- and what passes it is one
found : (most n : ℕ) → is_power_to most n ≡ true → (k : ℕ) × (k ≤ most) × (n ≡ 2 ^ k)
unfolding is_power_to
found zero n passed = (0, omega arith, eqb-true n 1 passed)
found (suc most) n passed = by-test (eqb n (2 ^ suc most)) refl (λ h. found most n h) passed where
  by-test : (b : Bool) → eqb n (2 ^ suc most) ≡ b → (is_power_to most n ≡ true → (k : ℕ) × (k ≤ most) × (n ≡ 2 ^ k)) → (b || is_power_to most n) ≡ true → (k : ℕ) × (k ≤ suc most) × (n ≡ 2 ^ k)
  by-test true is below h = (suc most, omega arith, eqb-true n (2 ^ suc most) is)
  by-test false is below h = let rest = below h in let le = rest.1 in (rest.0, omega arith, rest.2)

-- a checked world has alignments
pub has_alignments : (world : HirDatabase) → IsChecked world → HasAlignments world
has_alignments world checked ty layout is =
    let row = layout_row world ty layout is in
    let align = (checked.layouts row.0 (ty, layout) row.1).align in
    passes 13 align.0 layout.align align.1 align.2

pub is_alignment : (world : HirDatabase) (ty : Ty) (layout : Layout) → HasAlignments world → layout_of world ty ≡ Some layout → IsAlignment layout.align
is_alignment world ty layout aligned is = found 13 layout.align (aligned ty layout is)
