-- What operators make of operands of plain types: bytes of the right number, or a panic.
use Rattle.std.proofs.Common.{◌≡◌, ℕ, Bool, true, false, if◌then◌else◌, ◌==◌, ◌&&◌, List, length, Option, Some, ℤ, pos, negsuc, refl, sym, ap, ◌∙◌, subst, eq-eqb}
use Rattle.std.proofs.lemmas.Bool.{false≢true}
use Rattle.types.specs.declared.ty.Ty.{Ty, Bool as BoolTy, Int as IntTy, Uint as UintTy, Char as CharTy}
use Rattle.numbers.specs.Bytes.{is_width}
use Rattle.numbers.specs.declared.operator.Kind.{Kind}
use Rattle.numbers.specs.declared.operator.Kind.TheVariants.{Signed, Unsigned, Boolean, Character}
use Rattle.numbers.specs.declared.operator.Operator.{Operator}
use Rattle.numbers.specs.declared.operator.Operator.TheVariants.{Add, Sub, Mul, Div, Rem, BitXor, BitAnd, BitOr, Shl, Shr, Eq, Ne, Lt, Le, Gt, Ge}
use Rattle.numbers.specs.Operators.{Answer, Computes, Panics, Undefined, kept, divided, truth_value, by_bits, on_integers, shifted, shifted_by, sign_of, shift, is_shift, is_on_booleans, is_comparison, combined, computed, converted, denied, negated, inverted, kind_of}
use Rattle.numbers.proofs.Digits.{length-low_digits, length-low_bytes}
use Rattle.numbers.proofs.Lengths.{length-compared, length-computed}
use Rattle.source_meaning.specs.Valid.{IsInteger, IsScalar, IsNumber}

-- an answer with a meaning
abbrev IsDefined : Answer → Type 0
IsDefined (Computes bytes) = Unit {0}
IsDefined (Panics word) = Unit {0}
IsDefined Undefined = ⊥

-- an answer with a meaning: a value of `size` bytes, or a panic
abbrev pub Fits : ℕ → Answer → Type 0
Fits size (Computes bytes) = length bytes ≡ size
Fits size (Panics word) = Unit {0}
Fits size Undefined = ⊥

fits_from_defined : (size : ℕ) (answer : Answer) → IsDefined answer → ((bytes : List ℕ) → answer ≡ Computes bytes → length bytes ≡ size) → Fits size answer
fits_from_defined size (Computes bytes) defined long = long bytes refl
fits_from_defined size (Panics word) defined long = tt
fits_from_defined size Undefined defined long = defined

-- a value of an integer type, of `bool` or of `char` may have `size` bytes
abbrev pub IsLengthOf : Ty → ℕ → Type 0
IsLengthOf BoolTy size = size ≡ 1
IsLengthOf (IntTy ty) size = is_width size ≡ true
IsLengthOf (UintTy ty) size = is_width size ≡ true
IsLengthOf CharTy size = size ≡ 4
IsLengthOf _ size = ⊥

-- a type has an operator, if it is no shift
abbrev pub IsAllowed : Operator → Ty → Type 0
IsAllowed op BoolTy = is_on_booleans op ≡ true
IsAllowed op (IntTy ty) = Unit {0}
IsAllowed op (UintTy ty) = Unit {0}
IsAllowed op CharTy = is_comparison op ≡ true
IsAllowed op _ = ⊥

pub allowed_on_integer : (op : Operator) (ty : Ty) → IsInteger ty → IsAllowed op ty
allowed_on_integer op BoolTy integer = absurd integer
allowed_on_integer op (IntTy ty) integer = tt
allowed_on_integer op (UintTy ty) integer = tt
allowed_on_integer op _ integer = absurd integer

pub allowed_on_scalar : (op : Operator) (ty : Ty) → is_on_booleans op ≡ true → IsScalar ty → IsAllowed op ty
allowed_on_scalar op BoolTy on_booleans scalar = on_booleans
allowed_on_scalar op (IntTy ty) on_booleans scalar = tt
allowed_on_scalar op (UintTy ty) on_booleans scalar = tt
allowed_on_scalar op _ on_booleans scalar = absurd scalar

pub allowed_on_number : (op : Operator) (ty : Ty) → is_on_booleans op ≡ true → is_comparison op ≡ true → IsNumber ty → IsAllowed op ty
allowed_on_number op BoolTy on_booleans compares number = on_booleans
allowed_on_number op (IntTy ty) on_booleans compares number = tt
allowed_on_number op (UintTy ty) on_booleans compares number = tt
allowed_on_number op CharTy on_booleans compares number = compares
allowed_on_number op _ on_booleans compares number = absurd number

-- and then the number of them is one that an integer type has
pub length_is_width : (ty : Ty) (size : ℕ) → IsNumber ty → IsLengthOf ty size → is_width size ≡ true
length_is_width BoolTy size number long = ap is_width long
length_is_width (IntTy ty) size number long = long
length_is_width (UintTy ty) size number long = long
length_is_width CharTy size number long = ap is_width long
length_is_width _ size number long = absurd number

either_is_defined : (test : Bool) (one other : Answer) → IsDefined one → IsDefined other → IsDefined (if test then one else other)
either_is_defined true one other defined defined' = defined
either_is_defined false one other defined defined' = defined'

where_true_is_defined : (test : Bool) (one other : Answer) → test ≡ true → IsDefined one → IsDefined (if test then one else other)
where_true_is_defined true one other is defined = defined
where_true_is_defined false one other is defined = absurd (false≢true is)

where_false_is_defined : (test : Bool) (one other : Answer) → test ≡ false → IsDefined other → IsDefined (if test then one else other)
where_false_is_defined true one other is defined = absurd (false≢true (sym is))
where_false_is_defined false one other is defined = defined

both_hold : (one other : Bool) → one ≡ true → other ≡ true → (one && other) ≡ true
both_hold true other is is' = is'
both_hold false other is is' = is

kept_is_defined : (op : Operator) (signed : Bool) (size : ℕ) (z : ℤ) → IsDefined (kept op signed size z)
unfolding kept
kept_is_defined op signed size z = either_is_defined _ (Computes _) (Panics _) tt tt

divided_is_defined : (op : Operator) (signed : Bool) (size : ℕ) (left right z : ℤ) → IsDefined (divided op signed size left right z)
unfolding divided
divided_is_defined op signed size left right z = either_is_defined _ (Computes _) (Panics _) tt tt

truth_value_is_defined : (test : Bool) → IsDefined (truth_value test)
unfolding truth_value
truth_value_is_defined true = tt
truth_value_is_defined false = tt

on_integers_is_defined : (op : Operator) (signed : Bool) (left right : List ℕ) → is_shift op ≡ false → IsDefined (on_integers op signed left right)
unfolding on_integers by_bits is_shift
on_integers_is_defined Add signed left right is = kept_is_defined _ _ _ _
on_integers_is_defined Sub signed left right is = kept_is_defined _ _ _ _
on_integers_is_defined Mul signed left right is = kept_is_defined _ _ _ _
on_integers_is_defined Div signed left right is = divided_is_defined _ _ _ _ _ _
on_integers_is_defined Rem signed left right is = divided_is_defined _ _ _ _ _ _
on_integers_is_defined BitXor signed left right is = tt
on_integers_is_defined BitAnd signed left right is = tt
on_integers_is_defined BitOr signed left right is = tt
on_integers_is_defined Shl signed left right is = absurd (false≢true (sym is))
on_integers_is_defined Shr signed left right is = absurd (false≢true (sym is))
on_integers_is_defined Eq signed left right is = truth_value_is_defined _
on_integers_is_defined Ne signed left right is = truth_value_is_defined _
on_integers_is_defined Lt signed left right is = truth_value_is_defined _
on_integers_is_defined Le signed left right is = truth_value_is_defined _
on_integers_is_defined Gt signed left right is = truth_value_is_defined _
on_integers_is_defined Ge signed left right is = truth_value_is_defined _

shifted_is_defined : (op : Operator) (signed : Bool) (bytes : List ℕ) (amount : ℕ) → is_shift op ≡ true → IsDefined (shifted op signed bytes amount)
unfolding shifted is_shift
shifted_is_defined Shl signed bytes amount is = tt
shifted_is_defined Shr signed bytes amount is = tt
shifted_is_defined _ signed bytes amount is = absurd (false≢true is)

shifted_by_is_defined : (op : Operator) (signed : Bool) (bytes : List ℕ) (amount : ℤ) → is_shift op ≡ true → IsDefined (shifted_by op signed bytes amount)
unfolding shifted_by
shifted_by_is_defined op signed bytes (pos amount) is = either_is_defined _ _ (Panics _) (shifted_is_defined op signed bytes amount is) tt
shifted_by_is_defined op signed bytes (negsuc amount) is = tt

-- an operator that is no shift, on two values of one type that has it
combined_is_defined : (op : Operator) (ty : Ty) (left right : List ℕ) → is_shift op ≡ false → IsAllowed op ty → IsLengthOf ty (length left) → length left ≡ length right → IsDefined (combined op (kind_of ty) (kind_of ty) left right)
unfolding combined kind_of
combined_is_defined op BoolTy left right is allowed long same =
    where_true_is_defined (is_on_booleans op && (length left == 1) && (length right == 1)) _ Undefined (both_hold _ _ (both_hold _ _ allowed (eq-eqb _ _ long)) (eq-eqb _ _ (sym same ∙ long))) (on_integers_is_defined op false left right is)
combined_is_defined op (IntTy ty) left right is allowed long same =
    where_true_is_defined (is_width (length left) && (length left == length right)) _ Undefined (both_hold _ _ long (eq-eqb _ _ same)) (on_integers_is_defined op true left right is)
combined_is_defined op (UintTy ty) left right is allowed long same =
    where_true_is_defined (is_width (length left) && (length left == length right)) _ Undefined (both_hold _ _ long (eq-eqb _ _ same)) (on_integers_is_defined op false left right is)
combined_is_defined op CharTy left right is allowed long same =
    where_true_is_defined (is_comparison op && (length left == 4) && (length right == 4)) _ Undefined (both_hold _ _ (both_hold _ _ allowed (eq-eqb _ _ long)) (eq-eqb _ _ (sym same ∙ long))) (on_integers_is_defined op false left right is)
combined_is_defined op _ left right is allowed long same = absurd long

-- a shift of an integer by an integer
shift_is_defined : (op : Operator) (ty by : Ty) (left right : List ℕ) → is_shift op ≡ true → IsInteger ty → IsInteger by → IsLengthOf ty (length left) → IsLengthOf by (length right) → IsDefined (shift op (sign_of (kind_of ty)) (sign_of (kind_of by)) left right)
unfolding shift sign_of kind_of
shift_is_defined op (IntTy ty) (IntTy by) left right is integer integer' long long' =
    where_true_is_defined (is_width (length left) && is_width (length right)) _ Undefined (both_hold _ _ long long') (shifted_by_is_defined op true left _ is)
shift_is_defined op (IntTy ty) (UintTy by) left right is integer integer' long long' =
    where_true_is_defined (is_width (length left) && is_width (length right)) _ Undefined (both_hold _ _ long long') (shifted_by_is_defined op true left _ is)
shift_is_defined op (UintTy ty) (IntTy by) left right is integer integer' long long' =
    where_true_is_defined (is_width (length left) && is_width (length right)) _ Undefined (both_hold _ _ long long') (shifted_by_is_defined op false left _ is)
shift_is_defined op (UintTy ty) (UintTy by) left right is integer integer' long long' =
    where_true_is_defined (is_width (length left) && is_width (length right)) _ Undefined (both_hold _ _ long long') (shifted_by_is_defined op false left _ is)
shift_is_defined op (IntTy ty) BoolTy left right is integer integer' long long' = absurd integer'
shift_is_defined op (IntTy ty) _ left right is integer integer' long long' = absurd integer'
shift_is_defined op (UintTy ty) BoolTy left right is integer integer' long long' = absurd integer'
shift_is_defined op (UintTy ty) _ left right is integer integer' long long' = absurd integer'
shift_is_defined op BoolTy by left right is integer integer' long long' = absurd integer
shift_is_defined op _ by left right is integer integer' long long' = absurd integer

-- the table, by what kinds the operands have
of_kinds : (op : Operator) (left_kind right_kind left_kind' right_kind' : Option Kind) (left right : List ℕ) → left_kind ≡ left_kind' → right_kind ≡ right_kind' → IsDefined (computed op left_kind' right_kind' left right) → IsDefined (computed op left_kind right_kind left right)
of_kinds op left_kind right_kind left_kind' right_kind' left right is is' defined =
    subst (λ kind. IsDefined (computed op kind right_kind left right)) (sym is) (subst (λ kind. IsDefined (computed op left_kind' kind left right)) (sym is') defined)

unshifted_is_defined : (op : Operator) (ty : Ty) (left right : List ℕ) → is_shift op ≡ false → IsAllowed op ty → IsLengthOf ty (length left) → length left ≡ length right → IsDefined (computed op (kind_of ty) (kind_of ty) left right)
unfolding computed
unshifted_is_defined op ty left right is allowed long same = where_false_is_defined (is_shift op) _ _ is (combined_is_defined op ty left right is allowed long same)

shift_computed_is_defined : (op : Operator) (ty by : Ty) (left right : List ℕ) → is_shift op ≡ true → IsInteger ty → IsInteger by → IsLengthOf ty (length left) → IsLengthOf by (length right) → IsDefined (computed op (kind_of ty) (kind_of by) left right)
unfolding computed
shift_computed_is_defined op ty by left right is integer integer' long long' = where_true_is_defined (is_shift op) _ _ is (shift_is_defined op ty by left right is integer integer' long long')

-- arithmetic and bits take as many bytes as their operands
pub unshifted_fits : (op : Operator) (ty : Ty) (left_kind right_kind : Option Kind) (left right : List ℕ) → is_shift op ≡ false → is_comparison op ≡ false → IsAllowed op ty → left_kind ≡ kind_of ty → right_kind ≡ kind_of ty → IsLengthOf ty (length left) → length left ≡ length right → Fits (length left) (computed op left_kind right_kind left right)
unshifted_fits op ty left_kind right_kind left right is is' allowed of_left of_right long same =
    fits_from_defined (length left) (computed op left_kind right_kind left right) (of_kinds op left_kind right_kind (kind_of ty) (kind_of ty) left right of_left of_right (unshifted_is_defined op ty left right is allowed long same)) (λ bytes given. length-computed op left_kind right_kind left right bytes is' given)

-- a comparison takes one
pub compared_fits : (op : Operator) (ty : Ty) (left_kind right_kind : Option Kind) (left right : List ℕ) → is_shift op ≡ false → is_comparison op ≡ true → IsAllowed op ty → left_kind ≡ kind_of ty → right_kind ≡ kind_of ty → IsLengthOf ty (length left) → length left ≡ length right → Fits 1 (computed op left_kind right_kind left right)
compared_fits op ty left_kind right_kind left right is is' allowed of_left of_right long same =
    fits_from_defined 1 (computed op left_kind right_kind left right) (of_kinds op left_kind right_kind (kind_of ty) (kind_of ty) left right of_left of_right (unshifted_is_defined op ty left right is allowed long same)) (λ bytes given. length-compared op left_kind right_kind left right bytes is' given)

-- and a shift as many as its left operand
pub shift_fits : (op : Operator) (ty by : Ty) (left_kind right_kind : Option Kind) (left right : List ℕ) → is_shift op ≡ true → is_comparison op ≡ false → IsInteger ty → IsInteger by → left_kind ≡ kind_of ty → right_kind ≡ kind_of by → IsLengthOf ty (length left) → IsLengthOf by (length right) → Fits (length left) (computed op left_kind right_kind left right)
shift_fits op ty by left_kind right_kind left right is is' integer integer' of_left of_right long long' =
    fits_from_defined (length left) (computed op left_kind right_kind left right) (of_kinds op left_kind right_kind (kind_of ty) (kind_of by) left right of_left of_right (shift_computed_is_defined op ty by left right is integer integer' long long')) (λ bytes given. length-computed op left_kind right_kind left right bytes is' given)

where_true_fits : (size : ℕ) (test : Bool) (one other : Answer) → test ≡ true → Fits size one → Fits size (if test then one else other)
where_true_fits size true one other is fits = fits
where_true_fits size false one other is fits = absurd (false≢true is)

told_fits : (size : ℕ) (test : Bool) → size ≡ 1 → Fits size (truth_value test)
unfolding truth_value
told_fits size true one = sym one
told_fits size false one = sym one

denied_fits : (bytes : List ℕ) → length bytes ≡ 1 → Fits (length bytes) (denied bytes)
unfolding denied
denied_fits bytes one = where_true_fits (length bytes) (length bytes == 1) _ Undefined (eq-eqb _ _ one) (told_fits (length bytes) _ one)

-- an operator on one operand takes as many as it
negated_of_type : (ty : Ty) (bytes : List ℕ) → IsInteger ty → IsLengthOf ty (length bytes) → Fits (length bytes) (negated (kind_of ty) bytes)
unfolding kind_of negated
negated_of_type (IntTy ty) bytes integer long = where_true_fits (length bytes) (is_width (length bytes)) _ Undefined long (length-low_bytes _ _)
negated_of_type (UintTy ty) bytes integer long = where_true_fits (length bytes) (is_width (length bytes)) _ Undefined long (length-low_bytes _ _)
negated_of_type BoolTy bytes integer long = absurd integer
negated_of_type _ bytes integer long = absurd integer

inverted_of_type : (ty : Ty) (bytes : List ℕ) → IsScalar ty → IsLengthOf ty (length bytes) → Fits (length bytes) (inverted (kind_of ty) bytes)
unfolding kind_of inverted
inverted_of_type (IntTy ty) bytes scalar long = where_true_fits (length bytes) (is_width (length bytes)) _ Undefined long (length-low_digits _ _)
inverted_of_type (UintTy ty) bytes scalar long = where_true_fits (length bytes) (is_width (length bytes)) _ Undefined long (length-low_digits _ _)
inverted_of_type BoolTy bytes scalar long = denied_fits bytes long
inverted_of_type _ bytes scalar long = absurd scalar

pub negated_fits : (ty : Ty) (kind : Option Kind) (bytes : List ℕ) → IsInteger ty → kind ≡ kind_of ty → IsLengthOf ty (length bytes) → Fits (length bytes) (negated kind bytes)
negated_fits ty kind bytes integer is long = subst (λ k. Fits (length bytes) (negated k bytes)) (sym is) (negated_of_type ty bytes integer long)

pub inverted_fits : (ty : Ty) (kind : Option Kind) (bytes : List ℕ) → IsScalar ty → kind ≡ kind_of ty → IsLengthOf ty (length bytes) → Fits (length bytes) (inverted kind bytes)
inverted_fits ty kind bytes scalar is long = subst (λ k. Fits (length bytes) (inverted k bytes)) (sym is) (inverted_of_type ty bytes scalar long)

-- a cast takes as many as the type that it leads to
converted_of_kind : (kind : Kind) (size : ℕ) (bytes : List ℕ) → is_width (length bytes) ≡ true → is_width size ≡ true → Fits size (converted (Some kind) size bytes)
unfolding converted
converted_of_kind kind size bytes long wide = where_true_fits size (is_width (length bytes) && is_width size) _ Undefined (both_hold _ _ long wide) (length-low_bytes _ _)

number_has_kind : (ty : Ty) → IsNumber ty → (kind : Kind) × (kind_of ty ≡ Some kind)
unfolding kind_of
number_has_kind BoolTy number = (Boolean, refl)
number_has_kind (IntTy ty) number = (Signed, refl)
number_has_kind (UintTy ty) number = (Unsigned, refl)
number_has_kind CharTy number = (Character, refl)
number_has_kind _ number = absurd number

pub converted_fits : (ty : Ty) (kind : Option Kind) (size : ℕ) (bytes : List ℕ) → IsNumber ty → kind ≡ kind_of ty → IsLengthOf ty (length bytes) → is_width size ≡ true → Fits size (converted kind size bytes)
converted_fits ty kind size bytes number is long wide =
    let own = number_has_kind ty number in
    subst (λ k. Fits size (converted k size bytes)) (sym (is ∙ own.1)) (converted_of_kind own.0 size bytes (length_is_width ty (length bytes) number long) wide)
