-- Parsing by std gives the number of a numeral.
use Rattle.std.proofs.Common.{◌≡◌, ◌≢◌, ℕ, ◌^◌, ◌<◌, ◌≤◌, ◌==◌, ◌&&◌, ◌||◌, Bool, true, false, cond, not, List, length, get_or, drop, Option, Result, Ok, Err, nat_lt, nat_le, refl, ap, subst, arith}
use Rattle.std.specs.Prelude.{OkIff, ℤ, pos, neg_ℤ, slice_index}
use Rattle.std.specs.Int.{w128}
use Rattle.std.specs.Result.{result_ok}
use Rattle.std.specs.Str.{all_ascii_digits}
use Rattle.std.specs.Str.Parse.{digits_value, ParsesUnsigned, ParsesSigned}
use Rattle.std.proofs.lemmas.Bool.{eqb-true, ltb-true, lt-ltb, leb-true, le-leb}
use Rattle.std.proofs.lemmas.List.{get_or-drop, length-drop}
use Rattle.std.proofs.lemmas.Str.Parse.{IsNumeralModel, numerals_by_value, tells_all_ascii_digits, parse_plain, parse_signed_plain, parse_signed_minus}
use Rattle.json_kit.specs.Fit.{misfit, found}
use Rattle.json_kit.specs.Numerals.{begins_plainly, unsigned_of, nonnegative_of, negative_of}

own : IsNumeralModel (λ ds. all_ascii_digits ds ≡ true) (digits_value 10)
own = numerals_by_value (λ ds. all_ascii_digits ds ≡ true) tells_all_ascii_digits

both_true : (a b : Bool) → (a && b) ≡ true → (a ≡ true) × (b ≡ true)
both_true true b e = (refl, e)
both_true false b e = absurd cc

not_43 : (x : ℕ) → not (x == 43) ≡ true → x ≢ 43
not_43 x p e = let h : not (43 == 43) ≡ true = subst (λ (y : ℕ). not (y == 43) ≡ true) e p in absurd cc

not_45 : (x : ℕ) → not (x == 45) ≡ true → x ≢ 45
not_45 x p e = let h : not (45 == 45) ≡ true = subst (λ (y : ℕ). not (y == 45) ≡ true) e p in absurd cc

differs : (x n : ℕ) (b : Bool) → (x == n) ≡ b → x ≢ n → not b ≡ true
differs x n true e other = absurd (other (eqb-true x n e))
differs x n false e other = refl

record Plain (s : List ℕ) : Type 0 where
  some : nat_lt 0 (length s) ≡ true
  no_plus : get_or s 0 0 ≢ 43
  no_minus : get_or s 0 0 ≢ 45
  no_zero : (length s == 1 || not (slice_index s 0 == 48)) ≡ true

plain : (s : List ℕ) → begins_plainly s ≡ true → Plain s
plain s e =
    let outer = both_true (nat_lt 0 (length s) && not (slice_index s 0 == 43) && not (slice_index s 0 == 45)) (length s == 1 || not (slice_index s 0 == 48)) e in
    let middle = both_true (nat_lt 0 (length s) && not (slice_index s 0 == 43)) (not (slice_index s 0 == 45)) outer.0 in
    let inner = both_true (nat_lt 0 (length s)) (not (slice_index s 0 == 43)) middle.0 in
    record { some = inner.0; no_plus = not_43 _ inner.1; no_minus = not_45 _ middle.1; no_zero = outer.1 }

-- the result of parsing as an optional value, where two tests decide whether parsing succeeds
decided : {A E : Type 0} (digits fits : Bool) (v : A) (r : Result A E) (P Q : Type 0) → (digits ≡ true → P) → (P → digits ≡ true) → (fits ≡ true → Q) → (Q → fits ≡ true) → (M : Type 0) → M
    → OkIff r (P × M × Q) v → found (result_ok r) ≡ cond (digits && true && fits) (Ok v) misfit
decided true true v (Ok x) P Q a b c d M m h = ap Ok h.1
decided true false v (Ok x) P Q a b c d M m h = let e : false ≡ true = d h.0.2 in absurd cc
decided false fits v (Ok x) P Q a b c d M m h = let e : false ≡ true = b h.0.0 in absurd cc
decided true true v (Err e) P Q a b c d M m h = absurd (h (a refl, m, c refl))
decided true false v (Err e) P Q a b c d M m h = refl
decided false fits v (Err e) P Q a b c d M m h = refl

pub unsigned_is : {E : Type 0} (s : List ℕ) (r : Result ℕ E) (o : Option ℕ) → ParsesUnsigned 128 10 s r → begins_plainly s ≡ true → o ≡ result_ok r → found o ≡ unsigned_of s
unsigned_is s r o parsed begins is =
    let p = plain s begins in
    let step = decided (all_ascii_digits s) (nat_lt (digits_value 10 s) (2 ^ 128)) (digits_value 10 s) r (all_ascii_digits s ≡ true) (digits_value 10 s < 2 ^ 128) (λ e. e) (λ e. e) (ltb-true _ _) (lt-ltb _ _) (0 < length s) (ltb-true _ _ p.some) (parse_plain own 128 s r parsed p.no_plus) in
    rw (is, p.some, p.no_zero) step

pub nonnegative_is : {E : Type 0} (s : List ℕ) (r : Result ℤ E) (o : Option ℤ) → ParsesSigned w128 10 s r → begins_plainly s ≡ true → o ≡ result_ok r → found o ≡ nonnegative_of s
nonnegative_is s r o parsed begins is =
    let p = plain s begins in
    let step = decided (all_ascii_digits s) (nat_lt (digits_value 10 s) (2 ^ 127)) (pos (digits_value 10 s)) r (all_ascii_digits s ≡ true) (digits_value 10 s < 2 ^ 127) (λ e. e) (λ e. e) (ltb-true _ _) (lt-ltb _ _) (0 < length s) (ltb-true _ _ p.some) (parse_signed_plain own w128 s r parsed p.no_plus p.no_minus) in
    rw (is, p.some, p.no_zero) step

pub negative_is : {E : Type 0} (s : List ℕ) (r : Result ℤ E) (o : Option ℤ) → ParsesSigned w128 10 s r → get_or s 0 0 ≡ 45 → 2 ≤ length s → get_or s 1 0 ≢ 48 → o ≡ result_ok r → found o ≡ negative_of (drop 1 s)
negative_is s r o parsed minus more above is =
    let t = drop 1 s in
    let some : nat_lt 0 (length t) ≡ true = lt-ltb _ _ (omega (arith, length-drop 1 s)) in
    let no_zero : not (slice_index t 0 == 48) ≡ true = rw (get_or-drop 1 s 0 0) (differs (get_or s 1 0) 48 (get_or s 1 0 == 48) refl above) in
    let step = decided (all_ascii_digits t) (nat_le (digits_value 10 t) (2 ^ 127)) (neg_ℤ (pos (digits_value 10 t))) r (all_ascii_digits t ≡ true) (digits_value 10 t ≤ 2 ^ 127) (λ e. e) (λ e. e) (leb-true _ _) (le-leb _ _) (0 < length t) (ltb-true _ _ some) (parse_signed_minus own w128 s r parsed minus) in
    rw (is, some, no_zero) step
