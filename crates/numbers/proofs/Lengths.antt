-- How many bytes the results of the table of operators have.
use Rattle.std.proofs.Common.{◌≡◌, ℕ, Bool, true, false, cond, ltb, not, ◌*◌, int_eq, int_div, ◌&&◌, eqb, List, length, Option, Some, None, ℤ, pos, negsuc, refl}
use Rattle.numbers.specs.declared.operator.Kind.{Kind}
use Rattle.numbers.specs.declared.operator.Kind.TheVariants.{Signed, Unsigned, Boolean, Character}
use Rattle.numbers.specs.declared.operator.Operator.{Operator}
use Rattle.numbers.specs.declared.operator.Operator.TheVariants.{Add, Sub, Mul, Div, Rem, BitXor, BitAnd, BitOr, Shl, Shr, Eq, Ne, Lt, Le, Gt, Ge}
use Rattle.numbers.specs.Operators.{Answer, Computes, Panics, Undefined, kept, divided, truth_value, by_bits, compared, on_integers, on_two_signs, shifted, shifted_by, shift, is_shift, is_on_booleans, is_comparison, combined, computed}
use Rattle.numbers.specs.Bytes.{number_of, holds, is_width}
use Rattle.numbers.proofs.Digits.{length-low_digits, length-low_bytes}

-- the bytes, where there are any, have a given length
data IsLong : ℕ → Answer → Type 0 where
  computes : {n : ℕ} {bytes : List ℕ} → length bytes ≡ n → IsLong n (Computes bytes)
  panics : {n : ℕ} {word : List ℕ} → IsLong n (Panics word)
  undefined : {n : ℕ} → IsLong n Undefined

length-of_computed : {n : ℕ} {bytes : List ℕ} → IsLong n (Computes bytes) → length bytes ≡ n
length-of_computed (computes e) = e

-- how many bytes the operator's result has
abbrev result_size : Operator → List ℕ → ℕ
result_size op left = cond (is_comparison op) 1 (length left)

IsLong-if : {n : ℕ} {given other : Answer} (b : Bool) → IsLong n given → IsLong n other → IsLong n (cond b given other)
IsLong-if true h k = h
IsLong-if false h k = k

IsLong-kept : (op : Operator) (signed : Bool) (size : ℕ) (z : ℤ) → IsLong size (kept op signed size z)
unfolding kept
IsLong-kept op signed size z = IsLong-if (holds signed size z) (computes (length-low_bytes size z)) panics

IsLong-divided : (op : Operator) (signed : Bool) (size : ℕ) (x y z : ℤ) → IsLong size (divided op signed size x y z)
unfolding divided
IsLong-divided op signed size x y z = IsLong-if (not (int_eq y (pos 0)) && holds signed size (int_div x y)) (computes (length-low_bytes size z)) panics

IsLong-truth_value : (b : Bool) → IsLong 1 (truth_value b)
unfolding truth_value
IsLong-truth_value true = computes refl
IsLong-truth_value false = computes refl

-- comparisons take one byte, and no other operator compares
IsLong-compared : (op : Operator) (left : List ℕ) (x y : ℤ) → IsLong (result_size op left) (compared op x y)
unfolding is_comparison
IsLong-compared Eq left x y = IsLong-truth_value _
IsLong-compared Lt left x y = IsLong-truth_value _
IsLong-compared Le left x y = IsLong-truth_value _
IsLong-compared Ne left x y = IsLong-truth_value _
IsLong-compared Ge left x y = IsLong-truth_value _
IsLong-compared Gt left x y = IsLong-truth_value _
IsLong-compared _ left x y = undefined

IsLong-on_integers : (op : Operator) (signed : Bool) (left right : List ℕ) → IsLong (result_size op left) (on_integers op signed left right)
unfolding on_integers is_comparison by_bits
IsLong-on_integers Add signed left right = IsLong-kept _ _ _ _
IsLong-on_integers Sub signed left right = IsLong-kept _ _ _ _
IsLong-on_integers Mul signed left right = IsLong-kept _ _ _ _
IsLong-on_integers Div signed left right = IsLong-divided _ _ _ _ _ _
IsLong-on_integers Rem signed left right = IsLong-divided _ _ _ _ _ _
IsLong-on_integers BitXor signed left right = computes (length-low_digits _ _)
IsLong-on_integers BitAnd signed left right = computes (length-low_digits _ _)
IsLong-on_integers BitOr signed left right = computes (length-low_digits _ _)
IsLong-on_integers op signed left right = IsLong-compared op left (number_of signed left) (number_of signed right)

IsLong-on_two_signs : (op : Operator) (left_signed : Bool) (left right : List ℕ) → IsLong (result_size op left) (on_two_signs op left_signed left right)
unfolding on_two_signs is_comparison by_bits
IsLong-on_two_signs BitXor left_signed left right = computes (length-low_digits _ _)
IsLong-on_two_signs BitAnd left_signed left right = computes (length-low_digits _ _)
IsLong-on_two_signs BitOr left_signed left right = computes (length-low_digits _ _)
IsLong-on_two_signs op left_signed left right = IsLong-compared op left (number_of left_signed left) (number_of (not left_signed) right)

IsLong-combined : (op : Operator) (left_kind right_kind : Option Kind) (left right : List ℕ) → IsLong (result_size op left) (combined op left_kind right_kind left right)
unfolding combined
IsLong-combined op None right_kind left right = undefined
IsLong-combined op (Some Signed) None left right = undefined
IsLong-combined op (Some Unsigned) None left right = undefined
IsLong-combined op (Some Boolean) None left right = undefined
IsLong-combined op (Some Character) None left right = undefined
IsLong-combined op (Some Signed) (Some Signed) left right = IsLong-if (is_width (length left) && eqb (length left) (length right)) (IsLong-on_integers op true left right) undefined
IsLong-combined op (Some Signed) (Some Unsigned) left right = IsLong-if (is_width (length left) && eqb (length left) (length right)) (IsLong-on_two_signs op true left right) undefined
IsLong-combined op (Some Signed) (Some Boolean) left right = undefined
IsLong-combined op (Some Signed) (Some Character) left right = undefined
IsLong-combined op (Some Unsigned) (Some Signed) left right = IsLong-if (is_width (length left) && eqb (length left) (length right)) (IsLong-on_two_signs op false left right) undefined
IsLong-combined op (Some Unsigned) (Some Unsigned) left right = IsLong-if (is_width (length left) && eqb (length left) (length right)) (IsLong-on_integers op false left right) undefined
IsLong-combined op (Some Unsigned) (Some Boolean) left right = undefined
IsLong-combined op (Some Unsigned) (Some Character) left right = undefined
IsLong-combined op (Some Boolean) (Some Signed) left right = undefined
IsLong-combined op (Some Boolean) (Some Unsigned) left right = undefined
IsLong-combined op (Some Boolean) (Some Boolean) left right = IsLong-if (is_on_booleans op && eqb (length left) 1 && eqb (length right) 1) (IsLong-on_integers op false left right) undefined
IsLong-combined op (Some Boolean) (Some Character) left right = undefined
IsLong-combined op (Some Character) (Some Signed) left right = undefined
IsLong-combined op (Some Character) (Some Unsigned) left right = undefined
IsLong-combined op (Some Character) (Some Boolean) left right = undefined
IsLong-combined op (Some Character) (Some Character) left right = IsLong-if (is_comparison op && eqb (length left) 4 && eqb (length right) 4) (IsLong-on_integers op false left right) undefined

IsLong-shifted : (op : Operator) (signed : Bool) (bytes : List ℕ) (amount : ℕ) → IsLong (length bytes) (shifted op signed bytes amount)
unfolding shifted
IsLong-shifted Shl signed bytes amount = computes (length-low_digits _ _)
IsLong-shifted Shr signed bytes amount = computes (length-low_bytes _ _)
IsLong-shifted Add signed bytes amount = undefined
IsLong-shifted Sub signed bytes amount = undefined
IsLong-shifted Mul signed bytes amount = undefined
IsLong-shifted Div signed bytes amount = undefined
IsLong-shifted Rem signed bytes amount = undefined
IsLong-shifted BitXor signed bytes amount = undefined
IsLong-shifted BitAnd signed bytes amount = undefined
IsLong-shifted BitOr signed bytes amount = undefined
IsLong-shifted Eq signed bytes amount = undefined
IsLong-shifted Ne signed bytes amount = undefined
IsLong-shifted Lt signed bytes amount = undefined
IsLong-shifted Le signed bytes amount = undefined
IsLong-shifted Gt signed bytes amount = undefined
IsLong-shifted Ge signed bytes amount = undefined

IsLong-shifted_by : (op : Operator) (signed : Bool) (bytes : List ℕ) (amount : ℤ) → IsLong (length bytes) (shifted_by op signed bytes amount)
unfolding shifted_by
IsLong-shifted_by op signed bytes (pos amount) = IsLong-if (ltb amount (8 * length bytes)) (IsLong-shifted op signed bytes amount) panics
IsLong-shifted_by op signed bytes (negsuc amount) = panics

IsLong-shift : (op : Operator) (left_sign right_sign : Option Bool) (left right : List ℕ) → IsLong (length left) (shift op left_sign right_sign left right)
unfolding shift
IsLong-shift op None right_sign left right = undefined
IsLong-shift op (Some left_sign) None left right = undefined
IsLong-shift op (Some left_sign) (Some right_sign) left right = IsLong-if (is_width (length left) && is_width (length right)) (IsLong-shifted_by op left_sign left _) undefined

IsLong-computed : (op : Operator) (left_kind right_kind : Option Kind) (left right : List ℕ) → IsLong (result_size op left) (computed op left_kind right_kind left right)
unfolding computed is_shift is_comparison
IsLong-computed Add left_kind right_kind left right = IsLong-combined Add left_kind right_kind left right
IsLong-computed Sub left_kind right_kind left right = IsLong-combined Sub left_kind right_kind left right
IsLong-computed Mul left_kind right_kind left right = IsLong-combined Mul left_kind right_kind left right
IsLong-computed Div left_kind right_kind left right = IsLong-combined Div left_kind right_kind left right
IsLong-computed Rem left_kind right_kind left right = IsLong-combined Rem left_kind right_kind left right
IsLong-computed BitXor left_kind right_kind left right = IsLong-combined BitXor left_kind right_kind left right
IsLong-computed BitAnd left_kind right_kind left right = IsLong-combined BitAnd left_kind right_kind left right
IsLong-computed BitOr left_kind right_kind left right = IsLong-combined BitOr left_kind right_kind left right
IsLong-computed Shl left_kind right_kind left right = IsLong-shift Shl _ _ left right
IsLong-computed Shr left_kind right_kind left right = IsLong-shift Shr _ _ left right
IsLong-computed Eq left_kind right_kind left right = IsLong-combined Eq left_kind right_kind left right
IsLong-computed Ne left_kind right_kind left right = IsLong-combined Ne left_kind right_kind left right
IsLong-computed Lt left_kind right_kind left right = IsLong-combined Lt left_kind right_kind left right
IsLong-computed Le left_kind right_kind left right = IsLong-combined Le left_kind right_kind left right
IsLong-computed Gt left_kind right_kind left right = IsLong-combined Gt left_kind right_kind left right
IsLong-computed Ge left_kind right_kind left right = IsLong-combined Ge left_kind right_kind left right

pub length-compared : (op : Operator) (left_kind right_kind : Option Kind) (left right bytes : List ℕ) → is_comparison op ≡ true → computed op left_kind right_kind left right ≡ Computes bytes → length bytes ≡ 1
length-compared op left_kind right_kind left right bytes h e =
    let long : IsLong (result_size op left) (Computes bytes) = rw e at (IsLong-computed op left_kind right_kind left right) in
    length-of_computed (rw h at long)

pub length-computed : (op : Operator) (left_kind right_kind : Option Kind) (left right bytes : List ℕ) → is_comparison op ≡ false → computed op left_kind right_kind left right ≡ Computes bytes → length bytes ≡ length left
length-computed op left_kind right_kind left right bytes h e =
    let long : IsLong (result_size op left) (Computes bytes) = rw e at (IsLong-computed op left_kind right_kind left right) in
    length-of_computed (rw h at long)
