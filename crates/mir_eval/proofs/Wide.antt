-- Operands of more than 16 bytes: no operator has an answer for them.
use Rattle.std.proofs.Common.{◌≡◌, ℕ, ◌<◌, ◌≤◌, ◌⊎◌, ⊎_elim, Bool, true, false, ◌&&◌, eqb, List, length, Option, Some, None, refl, ap, ◌∙◌, arith}
use Rattle.std.proofs.lemmas.Bool.Decides.{nat_tests}
use Rattle.numbers.specs.declared.operator.Kind.{Kind}
use Rattle.numbers.specs.declared.operator.Kind.TheVariants.{Signed, Unsigned, Boolean, Character}
use Rattle.numbers.specs.declared.operator.Operator.{Operator}
use Rattle.numbers.specs.Bytes.{is_width}
use Rattle.numbers.specs.Operators.{Undefined, combined, computed, converted, denied, inverted, is_comparison, is_on_booleans, is_shift, negated, shift, sign_of}
use Rattle.numbers.proofs.Keeping.{width_below}
use Rattle.mir.specs.declared.operand.UnOp.{UnOp}
use Rattle.mir.specs.declared.operand.UnOp.TheVariants as one
use Rattle.mir.specs.Run.{computed_of}

no-width : (n : ℕ) (b : Bool) → is_width n ≡ b → 16 < n → b ≡ false
no-width n true is more = absurd (let small = width_below n is in omega arith)
no-width n false is more = refl

pub not-a-width : (n : ℕ) → 16 < n → is_width n ≡ false
not-a-width n more = no-width n (is_width n) refl more

not-one : (n : ℕ) → 16 < n → eqb n 1 ≡ false
not-one n more = grind (arith, nat_tests)

unlike-four : (n : ℕ) → 16 < n → eqb n 4 ≡ false
unlike-four n more = grind (arith, nat_tests)

unlike : (m n : ℕ) → m ≤ 16 → 16 < n → eqb m n ≡ false
unlike m n few more = grind (arith, nat_tests)

and-false : (b : Bool) → (b && false) ≡ false
and-false true = refl
and-false false = refl

module _ (op : Operator) (left right : List ℕ) (more : (16 < length left) ⊎ (16 < length right)) where
  widths : (is_width (length left) && is_width (length right)) ≡ false
  widths =
      ⊎_elim (λ h. ap (λ b. b && is_width (length right)) (not-a-width (length left) h))
      (λ h. ap (λ b. is_width (length left) && b) (not-a-width (length right) h) ∙ and-false (is_width (length left))) more

  alike-right : (b : Bool) → is_width (length left) ≡ b → 16 < length right → (b && eqb (length left) (length right)) ≡ false
  alike-right true is h = unlike (length left) (length right) (width_below (length left) is) h
  alike-right false is h = refl

  alike : (is_width (length left) && eqb (length left) (length right)) ≡ false
  alike =
      ⊎_elim (λ h. ap (λ b. b && eqb (length left) (length right)) (not-a-width (length left) h)) (λ h. alike-right (is_width (length left)) refl h) more

  truths-left : (b : Bool) → 16 < length left → (b && eqb (length left) 1 && eqb (length right) 1) ≡ false
  truths-left true h = rw (not-one (length left) h) refl
  truths-left false h = refl

  truths-right : (b c : Bool) → 16 < length right → (b && c && eqb (length right) 1) ≡ false
  truths-right true true h = not-one (length right) h
  truths-right true false h = refl
  truths-right false c h = refl

  truths : (is_on_booleans op && eqb (length left) 1 && eqb (length right) 1) ≡ false
  truths =
      ⊎_elim (λ h. truths-left (is_on_booleans op) h) (λ h. truths-right (is_on_booleans op) (eqb (length left) 1) h) more

  characters-left : (b : Bool) → 16 < length left → (b && eqb (length left) 4 && eqb (length right) 4) ≡ false
  characters-left true h = rw (unlike-four (length left) h) refl
  characters-left false h = refl

  characters-right : (b c : Bool) → 16 < length right → (b && c && eqb (length right) 4) ≡ false
  characters-right true true h = unlike-four (length right) h
  characters-right true false h = refl
  characters-right false c h = refl

  characters : (is_comparison op && eqb (length left) 4 && eqb (length right) 4) ≡ false
  characters =
      ⊎_elim (λ h. characters-left (is_comparison op) h) (λ h. characters-right (is_comparison op) (eqb (length left) 4) h) more

  no-shift : (l r : Option Bool) → shift op l r left right ≡ Undefined
  unfolding shift
  no-shift (Some l) (Some r) = rw widths refl
  no-shift (Some l) None = refl
  no-shift None (Some r) = refl
  no-shift None None = refl

  no-combination : (l r : Option Kind) → combined op l r left right ≡ Undefined
  unfolding combined
  no-combination (Some Signed) (Some Signed) = rw alike refl
  no-combination (Some Signed) (Some Unsigned) = rw alike refl
  no-combination (Some Unsigned) (Some Signed) = rw alike refl
  no-combination (Some Unsigned) (Some Unsigned) = rw alike refl
  no-combination (Some Boolean) (Some Boolean) = rw truths refl
  no-combination (Some Signed) (Some Boolean) = refl
  no-combination (Some Unsigned) (Some Boolean) = refl
  no-combination (Some Boolean) (Some Signed) = refl
  no-combination (Some Boolean) (Some Unsigned) = refl
  no-combination (Some Signed) None = refl
  no-combination (Some Unsigned) None = refl
  no-combination (Some Boolean) None = refl
  no-combination None (Some Signed) = refl
  no-combination None (Some Unsigned) = refl
  no-combination None (Some Boolean) = refl
  no-combination None None = refl
  no-combination (Some Character) (Some Character) = rw characters refl
  no-combination (Some Signed) (Some Character) = refl
  no-combination (Some Unsigned) (Some Character) = refl
  no-combination (Some Boolean) (Some Character) = refl
  no-combination (Some Character) (Some Signed) = refl
  no-combination (Some Character) (Some Unsigned) = refl
  no-combination (Some Character) (Some Boolean) = refl
  no-combination (Some Character) None = refl
  no-combination None (Some Character) = refl

  by-shift : (b : Bool) (l r : Option Kind) → is_shift op ≡ b → computed op l r left right ≡ Undefined
  unfolding computed
  by-shift true l r is = rw is (no-shift (sign_of l) (sign_of r))
  by-shift false l r is = rw is (no-combination l r)

  -- an operator on two operands
  pub no-answer : (l r : Option Kind) → computed op l r left right ≡ Undefined
  no-answer l r = by-shift (is_shift op) l r refl

module _ (bytes : List ℕ) (more : 16 < length bytes) where
  no-denial : denied bytes ≡ Undefined
  unfolding denied
  no-denial = rw (not-one (length bytes) more) refl

  no-negation : (kind : Option Kind) → negated kind bytes ≡ Undefined
  unfolding negated
  no-negation (Some Signed) = rw (not-a-width (length bytes) more) refl
  no-negation (Some Unsigned) = rw (not-a-width (length bytes) more) refl
  no-negation (Some Boolean) = no-denial
  no-negation (Some Character) = refl
  no-negation None = refl

  no-inversion : (kind : Option Kind) → inverted kind bytes ≡ Undefined
  unfolding inverted
  no-inversion (Some Signed) = rw (not-a-width (length bytes) more) refl
  no-inversion (Some Unsigned) = rw (not-a-width (length bytes) more) refl
  no-inversion (Some Boolean) = no-denial
  no-inversion (Some Character) = refl
  no-inversion None = refl

  -- an operator on one operand
  pub no-answer-of-one : (op : UnOp) (kind : Option Kind) → computed_of op kind bytes ≡ Undefined
  unfolding computed_of
  no-answer-of-one one.Neg kind = no-negation kind
  no-answer-of-one one.Not kind = no-inversion kind

  -- a cast
  pub no-conversion : (kind : Option Kind) (size : ℕ) → converted kind size bytes ≡ Undefined
  unfolding converted
  no-conversion (Some kind) size = rw (not-a-width (length bytes) more) refl
  no-conversion None size = refl
