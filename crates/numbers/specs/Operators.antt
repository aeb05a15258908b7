-- The table of operators: what each makes of two operands, or of one.
use Rattle.std.specs.Prelude.{ℕ, ◌-◌, ◌*◌, ◌^◌, Bool, true, false, not, ◌&&◌, if◌then◌else◌, ◌==◌, nat_lt, List, [], ◌∷◌, ◌++◌, length, Option, Some, None, ℤ, pos, negsuc, ◌+ℤ◌, ◌-ℤ◌, ◌*ℤ◌, neg_ℤ, int_lt, int_le, int_div, int_rem, bit_and, bit_or, bit_xor, codes}
use Rattle.std.specs.Int.{int_shr}
use Rattle.std.specs.Ordering.{int_eq}
use Rattle.types.specs.declared.ty.Ty.{Ty, Bool as BoolTy, Int, Uint, Char as CharTy}
use Rattle.types.specs.declared.operators.ArithOp.{ArithOp}
use Rattle.types.specs.declared.operators.ArithOp.TheVariants as arith
use Rattle.types.specs.declared.operators.CmpOp.{CmpOp}
use Rattle.types.specs.declared.operators.CmpOp.TheVariants as compare
use Rattle.types.specs.declared.operators.Ordering.TheVariants.{Less, Greater}
use Rattle.numbers.specs.declared.operator.Kind.{Kind}
use Rattle.numbers.specs.declared.operator.Kind.TheVariants.{Signed, Unsigned, Boolean, Character}
use Rattle.numbers.specs.declared.operator.Operator.{Operator}
use Rattle.numbers.specs.declared.operator.Operator.TheVariants.{Add, Sub, Mul, Div, Rem, BitXor, BitAnd, BitOr, Shl, Shr, Eq, Lt, Le, Ne, Ge, Gt}
use Rattle.numbers.specs.Bytes.{low_digits, low_bytes, value_of, number_of, holds, is_width}

-- what an operator makes of its operands: bytes, a panic that says the word, or no meaning
pub data Answer : Type 0 where
  Computes : List ℕ → Answer
  Panics : List ℕ → Answer
  Undefined : Answer

-- what the bytes of a type are
unfoldable pub kind_of : Ty → Option Kind
kind_of BoolTy = Some Boolean
kind_of (Int _) = Some Signed
kind_of (Uint _) = Some Unsigned
kind_of CharTy = Some Character
kind_of _ = None

-- the operator that an arithmetic operator of the source stands for
unfoldable pub of_arith : ArithOp → Operator
of_arith arith.Add = Add
of_arith arith.Mul = Mul
of_arith arith.Sub = Sub
of_arith arith.Div = Div
of_arith arith.Rem = Rem
of_arith arith.Shl = Shl
of_arith arith.Shr = Shr
of_arith arith.BitXor = BitXor
of_arith arith.BitOr = BitOr
of_arith arith.BitAnd = BitAnd

-- the operator that a comparison of the source stands for
unfoldable pub of_compare : CmpOp → Operator
of_compare (compare.Eq false) = Eq
of_compare (compare.Eq true) = Ne
of_compare (compare.Ord Less true) = Lt
of_compare (compare.Ord Less false) = Le
of_compare (compare.Ord Greater true) = Gt
of_compare (compare.Ord Greater false) = Ge

-- the name of an operator
unfoldable pub name_of : Operator → List ℕ
name_of Add = codes "Add"
name_of Sub = codes "Sub"
name_of Mul = codes "Mul"
name_of Div = codes "Div"
name_of Rem = codes "Rem"
name_of BitXor = codes "BitXor"
name_of BitAnd = codes "BitAnd"
name_of BitOr = codes "BitOr"
name_of Shl = codes "Shl"
name_of Shr = codes "Shr"
name_of Eq = codes "Eq"
name_of Ne = codes "Ne"
name_of Lt = codes "Lt"
name_of Le = codes "Le"
name_of Gt = codes "Gt"
name_of Ge = codes "Ge"

-- the operator as Rust writes it
unfoldable pub symbol_of : Operator → List ℕ
symbol_of Add = codes "+"
symbol_of Sub = codes "-"
symbol_of Mul = codes "*"
symbol_of Div = codes "/"
symbol_of Rem = codes "%"
symbol_of BitXor = codes "^"
symbol_of BitAnd = codes "&"
symbol_of BitOr = codes "|"
symbol_of Shl = codes "<<"
symbol_of Shr = codes ">>"
symbol_of Eq = codes "=="
symbol_of Lt = codes "<"
symbol_of Le = codes "<="
symbol_of Ne = codes "!="
symbol_of Ge = codes ">="
symbol_of Gt = codes ">"

-- what a run says that panics in the operator
unfoldable pub panic_word : Operator → List ℕ
panic_word op = codes "Overflow in " ++ name_of op

-- the bytes of a result in its type, or a panic where the type does not hold it
unfoldable pub kept : Operator → Bool → ℕ → ℤ → Answer
kept op signed size z = if holds signed size z then Computes (low_bytes size z) else Panics (panic_word op)

-- a quotient or a remainder: it is given where the divisor is not 0 and the type holds the quotient
unfoldable pub divided : Operator → Bool → ℕ → ℤ → ℤ → ℤ → Answer
divided op signed size left right z =
    if not (int_eq right (pos 0)) && holds signed size (int_div left right) then Computes (low_bytes size z) else Panics (panic_word op)

-- one byte, 1 for true
unfoldable pub truth_value : Bool → Answer
truth_value true = Computes (1 ∷ [])
truth_value false = Computes (0 ∷ [])

-- the bits of two operands of one length, combined one by one
unfoldable pub by_bits : (ℕ → ℕ → ℕ) → List ℕ → List ℕ → Answer
by_bits combined left right = Computes (low_digits (length left) (combined (value_of left) (value_of right)))

-- the comparisons of two whole numbers
abbrev pub compared : Operator → ℤ → ℤ → Answer
compared Eq x y = truth_value (int_eq x y)
compared Lt x y = truth_value (int_lt x y)
compared Le x y = truth_value (int_le x y)
compared Ne x y = truth_value (not (int_eq x y))
compared Ge x y = truth_value (int_le y x)
compared Gt x y = truth_value (int_lt y x)
compared _ x y = Undefined

-- the operators but shifts, on two operands of one integer type
unfoldable pub on_integers : Operator → Bool → List ℕ → List ℕ → Answer
on_integers Add signed left right = kept Add signed (length left) (number_of signed left +ℤ number_of signed right)
on_integers Sub signed left right = kept Sub signed (length left) (number_of signed left -ℤ number_of signed right)
on_integers Mul signed left right = kept Mul signed (length left) (number_of signed left *ℤ number_of signed right)
on_integers Div signed left right = divided Div signed (length left) (number_of signed left) (number_of signed right) (int_div (number_of signed left) (number_of signed right))
on_integers Rem signed left right = divided Rem signed (length left) (number_of signed left) (number_of signed right) (int_rem (number_of signed left) (number_of signed right))
on_integers BitXor signed left right = by_bits bit_xor left right
on_integers BitAnd signed left right = by_bits bit_and left right
on_integers BitOr signed left right = by_bits bit_or left right
on_integers op signed left right = compared op (number_of signed left) (number_of signed right)

-- the operators but shifts, on two integers of one length, of which one is signed and one is not: comparisons compare the two
-- numbers, and `&`, `|` and `^` go by bits; the others have no meaning, since there is no one type for their result
unfoldable pub on_two_signs : Operator → Bool → List ℕ → List ℕ → Answer
on_two_signs BitXor left_signed left right = by_bits bit_xor left right
on_two_signs BitAnd left_signed left right = by_bits bit_and left right
on_two_signs BitOr left_signed left right = by_bits bit_or left right
on_two_signs op left_signed left right = compared op (number_of left_signed left) (number_of (not left_signed) right)

-- the operators that bool has
unfoldable pub is_on_booleans : Operator → Bool
is_on_booleans Add = false
is_on_booleans Sub = false
is_on_booleans Mul = false
is_on_booleans Div = false
is_on_booleans Rem = false
is_on_booleans BitXor = true
is_on_booleans BitAnd = true
is_on_booleans BitOr = true
is_on_booleans Shl = false
is_on_booleans Shr = false
is_on_booleans Eq = true
is_on_booleans Ne = true
is_on_booleans Lt = true
is_on_booleans Le = true
is_on_booleans Gt = true
is_on_booleans Ge = true

-- the bits shifted up or down by an amount: those that pass the type's end are lost, and those that come in at a signed number's top have its sign
unfoldable pub shifted : Operator → Bool → List ℕ → ℕ → Answer
shifted Shl signed bytes amount = Computes (low_digits (length bytes) (value_of bytes * 2 ^ amount))
shifted Shr signed bytes amount = Computes (low_bytes (length bytes) (int_shr (number_of signed bytes) amount))
shifted _ signed bytes amount = Undefined

-- the same, where the amount is a number from 0 to below the number of bits; any other panics
unfoldable pub shifted_by : Operator → Bool → List ℕ → ℤ → Answer
shifted_by op signed bytes (pos amount) = if nat_lt amount (8 * length bytes) then shifted op signed bytes amount else Panics (panic_word op)
shifted_by op signed bytes (negsuc amount) = Panics (panic_word op)

-- the operator is a shift
unfoldable pub is_shift : Operator → Bool
is_shift Add = false
is_shift Sub = false
is_shift Mul = false
is_shift Div = false
is_shift Rem = false
is_shift BitXor = false
is_shift BitAnd = false
is_shift BitOr = false
is_shift Shl = true
is_shift Shr = true
is_shift Eq = false
is_shift Ne = false
is_shift Lt = false
is_shift Le = false
is_shift Gt = false
is_shift Ge = false

-- the operator is a comparison
unfoldable pub is_comparison : Operator → Bool
is_comparison Add = false
is_comparison Sub = false
is_comparison Mul = false
is_comparison Div = false
is_comparison Rem = false
is_comparison BitXor = false
is_comparison BitAnd = false
is_comparison BitOr = false
is_comparison Shl = false
is_comparison Shr = false
is_comparison Eq = true
is_comparison Ne = true
is_comparison Lt = true
is_comparison Le = true
is_comparison Gt = true
is_comparison Ge = true

-- the sign of an integer type's kind
unfoldable pub sign_of : Option Kind → Option Bool
sign_of (Some Signed) = Some true
sign_of (Some Unsigned) = Some false
sign_of (Some Boolean) = None
sign_of (Some Character) = None
sign_of None = None

-- a shift of one integer by another, of any two integer types
unfoldable pub shift : Operator → Option Bool → Option Bool → List ℕ → List ℕ → Answer
shift op (Some left_sign) (Some right_sign) left right =
    if is_width (length left) && is_width (length right) then shifted_by op left_sign left (number_of right_sign right) else Undefined
shift op (Some left_sign) None left right = Undefined
shift op None _ left right = Undefined

-- an operator that is no shift, on two integers of one length, two truth values or two characters
unfoldable pub combined : Operator → Option Kind → Option Kind → List ℕ → List ℕ → Answer
combined op (Some Signed) (Some Signed) left right =
    if is_width (length left) && (length left == length right) then on_integers op true left right else Undefined
combined op (Some Unsigned) (Some Unsigned) left right =
    if is_width (length left) && (length left == length right) then on_integers op false left right else Undefined
combined op (Some Signed) (Some Unsigned) left right =
    if is_width (length left) && (length left == length right) then on_two_signs op true left right else Undefined
combined op (Some Unsigned) (Some Signed) left right =
    if is_width (length left) && (length left == length right) then on_two_signs op false left right else Undefined
combined op (Some Boolean) (Some Boolean) left right =
    if is_on_booleans op && (length left == 1) && (length right == 1) then on_integers op false left right else Undefined
combined op (Some Character) (Some Character) left right =
    if is_comparison op && (length left == 4) && (length right == 4) then on_integers op false left right else Undefined
combined op _ _ left right = Undefined

-- the table of operators: what an operator makes of two operands, whose kinds and bytes are given
unfoldable pub computed : Operator → Option Kind → Option Kind → List ℕ → List ℕ → Answer
computed op left_kind right_kind left right =
    if is_shift op then shift op (sign_of left_kind) (sign_of right_kind) left right else combined op left_kind right_kind left right

-- `!` on bool: 1 for 0, and 0 for any other byte
unfoldable pub denied : List ℕ → Answer
denied bytes = if length bytes == 1 then truth_value (value_of bytes == 0) else Undefined

-- unary minus: the number's negative, cut to the type's bytes; on bool it is `!`
unfoldable pub negated : Option Kind → List ℕ → Answer
negated (Some Signed) bytes = if is_width (length bytes) then Computes (low_bytes (length bytes) (neg_ℤ (number_of true bytes))) else Undefined
negated (Some Unsigned) bytes = if is_width (length bytes) then Computes (low_bytes (length bytes) (neg_ℤ (number_of false bytes))) else Undefined
negated (Some Boolean) bytes = denied bytes
negated (Some Character) bytes = Undefined
negated None bytes = Undefined

-- `!`: every bit the other way on integers
unfoldable pub inverted : Option Kind → List ℕ → Answer
inverted (Some Signed) bytes = if is_width (length bytes) then Computes (low_digits (length bytes) (256 ^ length bytes - 1 - value_of bytes)) else Undefined
inverted (Some Unsigned) bytes = if is_width (length bytes) then Computes (low_digits (length bytes) (256 ^ length bytes - 1 - value_of bytes)) else Undefined
inverted (Some Boolean) bytes = denied bytes
inverted (Some Character) bytes = Undefined
inverted None bytes = Undefined

-- whether bytes of a kind are read in two's complement
unfoldable pub is_signed : Kind → Bool
is_signed Signed = true
is_signed Unsigned = false
is_signed Boolean = false
is_signed Character = false

-- A cast between integers, truth values and characters: the number that the bytes are, in as many of its low bytes as the target's size says.
unfoldable pub converted : Option Kind → ℕ → List ℕ → Answer
converted (Some kind) size bytes =
    if is_width (length bytes) && is_width size then Computes (low_bytes size (number_of (is_signed kind) bytes)) else Undefined
converted None size bytes = Undefined
