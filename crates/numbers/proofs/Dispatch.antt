-- Which row of the table of operators a call takes.
use Rattle.std.proofs.Common.{◌≡◌, ◌≢◌, ℕ, ◌+◌, ◌-◌, ◌*◌, ◌/◌, ◌%◌, ◌^◌, ◌<◌, ◌≤◌, Bool, true, false, not, ltb, ◌&&◌, eqb, List, length, Option, Some, None, ℤ, pos, negsuc, refl, sym, ◌∙◌, ap}
use Rattle.std.specs.Int.{int_shr}
use Rattle.std.proofs.Math.Arith.{mod-mul}
use Rattle.std.proofs.lemmas.Nat.{mod-mul-add, mod_below}
use borrow.Author.Tests.{lt-ltb, le-ltb}
use Rattle.numbers.specs.declared.operator.Kind.{Kind}
use Rattle.numbers.specs.declared.operator.Kind.TheVariants.{Signed, Unsigned, Boolean, Character}
use Rattle.numbers.specs.declared.operator.Operator.{Operator}
use Rattle.numbers.specs.declared.operator.Operator.TheVariants.{Add, Sub, Mul, Div, Rem, BitXor, BitAnd, BitOr, Shl, Shr, Eq, Ne, Lt, Le, Gt, Ge}
use Rattle.numbers.specs.Bytes.{low_digits, low_bytes, value_of, number_of, is_width}
use Rattle.numbers.specs.Operators.{Answer, Computes, Panics, Undefined, panic_word, compared, on_integers, on_two_signs, is_comparison, is_on_booleans, shifted, shifted_by, shift, is_shift, sign_of, combined, computed, is_signed, converted}
use Rattle.numbers.proofs.Digits.{low_digits-mod, some_values}
use Rattle.numbers.proofs.Keeping.{all_values, low_bytes-pos}

-- the low bytes of a number that was cut to 128 bits
pub low_digits-wide : (size n : ℕ) → size ≤ 16 → low_digits size (n % 2 ^ 128) ≡ low_digits size n
low_digits-wide size n h =
    let p : ℕ = 256 ^ size in
    let q : ℕ = 256 ^ (16 - size) in
    let some : 0 < p = some_values size in
    let parts : n % (q * p) ≡ (n / p % q) * p + n % p = mod-mul n (some_values (16 - size)) some in
    let cut : n % 2 ^ 128 ≡ n % (q * p) = ap (λ m. n % m) (all_values size h) in
    let low : n % 2 ^ 128 % p ≡ n % p = ap (λ m. m % p) (cut ∙ parts) ∙ mod-mul-add (n / p % q) p (n % p) (mod_below n p some) in
    sym (low_digits-mod size (n % 2 ^ 128)) ∙ ap (low_digits size) low ∙ low_digits-mod size n

pub shifted_up : (signed : Bool) (bytes : List ℕ) (amount n : ℕ) (a : Answer) → length bytes ≤ 16 → n ≡ value_of bytes → a ≡ Computes (low_digits (length bytes) ((n * 2 ^ amount) % 2 ^ 128)) → a ≡ shifted Shl signed bytes amount
unfolding shifted
shifted_up signed bytes amount n a h e f = f ∙ ap Computes (low_digits-wide (length bytes) (n * 2 ^ amount) h) ∙ ap (λ m. Computes (low_digits (length bytes) (m * 2 ^ amount))) e

pub shifted_down : (bytes : List ℕ) (amount n : ℕ) (a : Answer) → n ≡ value_of bytes → a ≡ Computes (low_digits (length bytes) (n / 2 ^ amount)) → a ≡ shifted Shr false bytes amount
unfolding shifted number_of
shifted_down bytes amount n a e f = f ∙ ap (λ m. Computes (low_digits (length bytes) (m / 2 ^ amount))) e ∙ ap Computes (sym (low_bytes-pos (length bytes) (value_of bytes / 2 ^ amount)))

pub shifted_signed : (bytes : List ℕ) (amount : ℕ) (z : ℤ) (a : Answer) → z ≡ number_of true bytes → a ≡ Computes (low_bytes (length bytes) (int_shr z amount)) → a ≡ shifted Shr true bytes amount
unfolding shifted
shifted_signed bytes amount z a e f = f ∙ ap (λ m. Computes (low_bytes (length bytes) (int_shr m amount))) e

pub other_shift : (op : Operator) (signed : Bool) (bytes : List ℕ) (amount : ℕ) → op ≢ Shl → op ≢ Shr → Undefined ≡ shifted op signed bytes amount
unfolding shifted
other_shift Add signed bytes amount h k = refl
other_shift Sub signed bytes amount h k = refl
other_shift Mul signed bytes amount h k = refl
other_shift Div signed bytes amount h k = refl
other_shift Rem signed bytes amount h k = refl
other_shift BitXor signed bytes amount h k = refl
other_shift BitAnd signed bytes amount h k = refl
other_shift BitOr signed bytes amount h k = refl
other_shift Shl signed bytes amount h k = absurd (h refl)
other_shift Shr signed bytes amount h k = absurd (k refl)
other_shift Eq signed bytes amount h k = refl
other_shift Ne signed bytes amount h k = refl
other_shift Lt signed bytes amount h k = refl
other_shift Le signed bytes amount h k = refl
other_shift Gt signed bytes amount h k = refl
other_shift Ge signed bytes amount h k = refl

pub shifted_within : (op : Operator) (signed : Bool) (bytes : List ℕ) (z : ℤ) (amount : ℕ) (a : Answer) → z ≡ pos amount → amount < 8 * length bytes → a ≡ shifted op signed bytes amount → a ≡ shifted_by op signed bytes z
unfolding shifted_by
shifted_within op signed bytes z amount a e h f =
    let test : ltb amount (8 * length bytes) ≡ true = lt-ltb _ _ h in
    rw (e, test) f

pub shifted_beyond : (op : Operator) (signed : Bool) (bytes : List ℕ) (z : ℤ) → ((k : ℕ) → z ≡ pos k → 8 * length bytes ≤ k) → Panics (panic_word op) ≡ shifted_by op signed bytes z
unfolding shifted_by
shifted_beyond op signed bytes (pos n) h =
    let test : ltb n (8 * length bytes) ≡ false = le-ltb _ _ (h n refl) in
    rw test refl
shifted_beyond op signed bytes (negsuc n) h = refl

pub no_left_sign : (op : Operator) (left_sign right_sign : Option Bool) (left right : List ℕ) → left_sign ≡ None → Undefined ≡ shift op left_sign right_sign left right
unfolding shift
no_left_sign op left_sign right_sign left right e = rw e refl

pub no_right_sign : (op : Operator) (left_sign right_sign : Option Bool) (left right : List ℕ) → right_sign ≡ None → Undefined ≡ shift op left_sign right_sign left right
unfolding shift
no_right_sign op None right_sign left right e = refl
no_right_sign op (Some s) right_sign left right e = rw e refl

pub shift_of_widths : (op : Operator) (left_sign right_sign : Option Bool) (l r : Bool) (left right : List ℕ) (a : Answer) → left_sign ≡ Some l → right_sign ≡ Some r → (is_width (length left) && is_width (length right)) ≡ true → a ≡ shifted_by op l left (number_of r right) → a ≡ shift op left_sign right_sign left right
unfolding shift
shift_of_widths op left_sign right_sign l r left right a e f h g = rw (e, f, h) g

pub shift_of_others : (op : Operator) (left_sign right_sign : Option Bool) (l r : Bool) (left right : List ℕ) → left_sign ≡ Some l → right_sign ≡ Some r → (is_width (length left) && is_width (length right)) ≡ false → Undefined ≡ shift op left_sign right_sign left right
unfolding shift
shift_of_others op left_sign right_sign l r left right e f h = rw (e, f, h) refl

-- ---- operands of one kind

pub on_signed_is : (op : Operator) (l r : Option Kind) (left right : List ℕ) (a : Answer) → l ≡ Some Signed → r ≡ Some Signed → (is_width (length left) && eqb (length left) (length right)) ≡ true → a ≡ on_integers op true left right → a ≡ combined op l r left right
unfolding combined
on_signed_is op l r left right a e f h g = rw (e, f, h) g

pub on_unsigned_is : (op : Operator) (l r : Option Kind) (left right : List ℕ) (a : Answer) → l ≡ Some Unsigned → r ≡ Some Unsigned → (is_width (length left) && eqb (length left) (length right)) ≡ true → a ≡ on_integers op false left right → a ≡ combined op l r left right
unfolding combined
on_unsigned_is op l r left right a e f h g = rw (e, f, h) g

pub on_booleans_is : (op : Operator) (l r : Option Kind) (left right : List ℕ) (a : Answer) → l ≡ Some Boolean → r ≡ Some Boolean → (is_on_booleans op && eqb (length left) 1 && eqb (length right) 1) ≡ true → a ≡ on_integers op false left right → a ≡ combined op l r left right
unfolding combined
on_booleans_is op l r left right a e f h g = rw (e, f, h) g

pub on_characters_is : (op : Operator) (l r : Option Kind) (left right : List ℕ) (a : Answer) → l ≡ Some Character → r ≡ Some Character → (is_comparison op && eqb (length left) 4 && eqb (length right) 4) ≡ true → a ≡ on_integers op false left right → a ≡ combined op l r left right
unfolding combined
on_characters_is op l r left right a e f h g = rw (e, f, h) g

pub not_on_signed : (op : Operator) (l r : Option Kind) (left right : List ℕ) → l ≡ Some Signed → r ≡ Some Signed → (is_width (length left) && eqb (length left) (length right)) ≡ false → Undefined ≡ combined op l r left right
unfolding combined
not_on_signed op l r left right e f h = rw (e, f, h) refl

pub not_on_unsigned : (op : Operator) (l r : Option Kind) (left right : List ℕ) → l ≡ Some Unsigned → r ≡ Some Unsigned → (is_width (length left) && eqb (length left) (length right)) ≡ false → Undefined ≡ combined op l r left right
unfolding combined
not_on_unsigned op l r left right e f h = rw (e, f, h) refl

pub not_on_booleans : (op : Operator) (l r : Option Kind) (left right : List ℕ) → l ≡ Some Boolean → r ≡ Some Boolean → (is_on_booleans op && eqb (length left) 1 && eqb (length right) 1) ≡ false → Undefined ≡ combined op l r left right
unfolding combined
not_on_booleans op l r left right e f h = rw (e, f, h) refl

pub not_on_characters : (op : Operator) (l r : Option Kind) (left right : List ℕ) → l ≡ Some Character → r ≡ Some Character → (is_comparison op && eqb (length left) 4 && eqb (length right) 4) ≡ false → Undefined ≡ combined op l r left right
unfolding combined
not_on_characters op l r left right e f h = rw (e, f, h) refl

-- ---- operands of two signs

signed_kind : (kind : Option Kind) → sign_of kind ≡ Some true → kind ≡ Some Signed
unfolding sign_of
signed_kind (Some Signed) e = refl
signed_kind (Some Unsigned) e = cc
signed_kind (Some Boolean) e = cc
signed_kind (Some Character) e = cc
signed_kind None e = cc

unsigned_kind : (kind : Option Kind) → sign_of kind ≡ Some false → kind ≡ Some Unsigned
unfolding sign_of
unsigned_kind (Some Signed) e = cc
unsigned_kind (Some Unsigned) e = refl
unsigned_kind (Some Boolean) e = cc
unsigned_kind (Some Character) e = cc
unsigned_kind None e = cc

pub on_two_signs_is : (op : Operator) (l r : Option Kind) (signed : Bool) (left right : List ℕ) (a : Answer) → sign_of l ≡ Some signed → sign_of r ≡ Some (not signed) → (is_width (length left) && eqb (length left) (length right)) ≡ true → a ≡ on_two_signs op signed left right → a ≡ combined op l r left right
unfolding combined
on_two_signs_is op l r true left right a e f h g = rw (signed_kind l e, unsigned_kind r f, h) g
on_two_signs_is op l r false left right a e f h g = rw (unsigned_kind l e, signed_kind r f, h) g

pub not_on_two_signs : (op : Operator) (l r : Option Kind) (signed : Bool) (left right : List ℕ) → sign_of l ≡ Some signed → sign_of r ≡ Some (not signed) → (is_width (length left) && eqb (length left) (length right)) ≡ false → Undefined ≡ combined op l r left right
unfolding combined
not_on_two_signs op l r true left right e f h = rw (signed_kind l e, unsigned_kind r f, h) refl
not_on_two_signs op l r false left right e f h = rw (unsigned_kind l e, signed_kind r f, h) refl

pub no_common_kind : (op : Operator) (l r : Option Kind) (left right : List ℕ) → ((kind : Kind) → l ≡ Some kind → r ≡ Some kind → ⊥) → ((signed : Bool) → sign_of l ≡ Some signed → sign_of r ≡ Some (not signed) → ⊥) → Undefined ≡ combined op l r left right
unfolding combined sign_of
no_common_kind op None r left right h k = refl
no_common_kind op (Some Signed) None left right h k = refl
no_common_kind op (Some Signed) (Some Signed) left right h k = absurd (h Signed refl refl)
no_common_kind op (Some Signed) (Some Unsigned) left right h k = absurd (k true refl refl)
no_common_kind op (Some Signed) (Some Boolean) left right h k = refl
no_common_kind op (Some Signed) (Some Character) left right h k = refl
no_common_kind op (Some Unsigned) None left right h k = refl
no_common_kind op (Some Unsigned) (Some Signed) left right h k = absurd (k false refl refl)
no_common_kind op (Some Unsigned) (Some Unsigned) left right h k = absurd (h Unsigned refl refl)
no_common_kind op (Some Unsigned) (Some Boolean) left right h k = refl
no_common_kind op (Some Unsigned) (Some Character) left right h k = refl
no_common_kind op (Some Boolean) None left right h k = refl
no_common_kind op (Some Boolean) (Some Signed) left right h k = refl
no_common_kind op (Some Boolean) (Some Unsigned) left right h k = refl
no_common_kind op (Some Boolean) (Some Boolean) left right h k = absurd (h Boolean refl refl)
no_common_kind op (Some Boolean) (Some Character) left right h k = refl
no_common_kind op (Some Character) None left right h k = refl
no_common_kind op (Some Character) (Some Signed) left right h k = refl
no_common_kind op (Some Character) (Some Unsigned) left right h k = refl
no_common_kind op (Some Character) (Some Boolean) left right h k = refl
no_common_kind op (Some Character) (Some Character) left right h k = absurd (h Character refl refl)

-- ---- comparisons among the operators

pub other_on_integers : (op : Operator) (signed : Bool) (left right : List ℕ) (a : Answer) → op ≢ Add → op ≢ Sub → op ≢ Mul → op ≢ Div → op ≢ Rem → op ≢ BitXor → op ≢ BitAnd → op ≢ BitOr → a ≡ compared op (number_of signed left) (number_of signed right) → a ≡ on_integers op signed left right
unfolding on_integers
other_on_integers Add signed left right a add sub mul div rem xor and or e = absurd (add refl)
other_on_integers Sub signed left right a add sub mul div rem xor and or e = absurd (sub refl)
other_on_integers Mul signed left right a add sub mul div rem xor and or e = absurd (mul refl)
other_on_integers Div signed left right a add sub mul div rem xor and or e = absurd (div refl)
other_on_integers Rem signed left right a add sub mul div rem xor and or e = absurd (rem refl)
other_on_integers BitXor signed left right a add sub mul div rem xor and or e = absurd (xor refl)
other_on_integers BitAnd signed left right a add sub mul div rem xor and or e = absurd (and refl)
other_on_integers BitOr signed left right a add sub mul div rem xor and or e = absurd (or refl)
other_on_integers _ signed left right a add sub mul div rem xor and or e = e

pub other_on_two_signs : (op : Operator) (signed : Bool) (left right : List ℕ) (a : Answer) → op ≢ BitXor → op ≢ BitAnd → op ≢ BitOr → a ≡ compared op (number_of signed left) (number_of (not signed) right) → a ≡ on_two_signs op signed left right
unfolding on_two_signs
other_on_two_signs BitXor signed left right a xor and or e = absurd (xor refl)
other_on_two_signs BitAnd signed left right a xor and or e = absurd (and refl)
other_on_two_signs BitOr signed left right a xor and or e = absurd (or refl)
other_on_two_signs _ signed left right a xor and or e = e

pub compared_alike : {x y x' y' : ℤ} (op : Operator) → x ≡ x' → y ≡ y' → compared op x y ≡ compared op x' y'
compared_alike {x = x} {y = y} {x' = x'} {y' = y'} op e f = ap (λ z. compared op z y) e ∙ ap (λ z. compared op x' z) f

pub no_comparison : (op : Operator) (x y : ℤ) → op ≢ Eq → op ≢ Lt → op ≢ Le → op ≢ Ne → op ≢ Ge → op ≢ Gt → Undefined ≡ compared op x y
no_comparison Eq x y eq lt le ne ge gt = absurd (eq refl)
no_comparison Lt x y eq lt le ne ge gt = absurd (lt refl)
no_comparison Le x y eq lt le ne ge gt = absurd (le refl)
no_comparison Ne x y eq lt le ne ge gt = absurd (ne refl)
no_comparison Ge x y eq lt le ne ge gt = absurd (ge refl)
no_comparison Gt x y eq lt le ne ge gt = absurd (gt refl)
no_comparison _ x y eq lt le ne ge gt = refl

below_is : (op : Operator) (n y : ℕ) → compared op (pos 0) (pos 1) ≡ compared op (negsuc n) (pos y)
below_is Eq n y = refl
below_is Lt n y = refl
below_is Le n y = refl
below_is Ne n y = refl
below_is Ge n y = refl
below_is Gt n y = refl
below_is _ n y = refl

above_is : (op : Operator) (n y : ℕ) → compared op (pos 1) (pos 0) ≡ compared op (pos y) (negsuc n)
above_is Eq n y = refl
above_is Lt n y = refl
above_is Le n y = refl
above_is Ne n y = refl
above_is Ge n y = refl
above_is Gt n y = refl
above_is _ n y = refl

-- a negative number is to each natural one as 0 is to 1
pub compared-negative_first : (op : Operator) (z : ℤ) (y : ℕ) → ((n : ℕ) → z ≡ pos n → ⊥) → compared op (pos 0) (pos 1) ≡ compared op z (pos y)
compared-negative_first op (pos n) y none = absurd (none n refl)
compared-negative_first op (negsuc n) y none = below_is op n y

pub compared-negative_second : (op : Operator) (y : ℕ) (z : ℤ) → ((n : ℕ) → z ≡ pos n → ⊥) → compared op (pos 1) (pos 0) ≡ compared op (pos y) z
compared-negative_second op y (pos n) none = absurd (none n refl)
compared-negative_second op y (negsuc n) none = above_is op n y

pub computed_shift : (op : Operator) (l r : Option Kind) (left right : List ℕ) (a : Answer) → is_shift op ≡ true → a ≡ shift op (sign_of l) (sign_of r) left right → a ≡ computed op l r left right
unfolding computed
computed_shift op l r left right a h e = rw h e

is_no_shift : (op : Operator) → op ≢ Shl → op ≢ Shr → is_shift op ≡ false
unfolding is_shift
is_no_shift Add h k = refl
is_no_shift Sub h k = refl
is_no_shift Mul h k = refl
is_no_shift Div h k = refl
is_no_shift Rem h k = refl
is_no_shift BitXor h k = refl
is_no_shift BitAnd h k = refl
is_no_shift BitOr h k = refl
is_no_shift Shl h k = absurd (h refl)
is_no_shift Shr h k = absurd (k refl)
is_no_shift Eq h k = refl
is_no_shift Ne h k = refl
is_no_shift Lt h k = refl
is_no_shift Le h k = refl
is_no_shift Gt h k = refl
is_no_shift Ge h k = refl

pub computed_other : (op : Operator) (l r : Option Kind) (left right : List ℕ) (a : Answer) → op ≢ Shl → op ≢ Shr → a ≡ combined op l r left right → a ≡ computed op l r left right
unfolding computed
computed_other op l r left right a h k e = rw (is_no_shift op h k) e

-- ---- casts

pub converted_signed : (bytes : List ℕ) (size : ℕ) (z : ℤ) (a : Answer) → (is_width (length bytes) && is_width size) ≡ true → z ≡ number_of true bytes → a ≡ Computes (low_bytes size z) → a ≡ converted (Some Signed) size bytes
unfolding converted is_signed
converted_signed bytes size z a widths is same = rw widths (same ∙ ap (λ n. Computes (low_bytes size n)) is)

pub converted_unsigned : (kind : Kind) (bytes : List ℕ) (size n : ℕ) (a : Answer) → is_signed kind ≡ false → (is_width (length bytes) && is_width size) ≡ true → n ≡ value_of bytes → a ≡ Computes (low_digits size n) → a ≡ converted (Some kind) size bytes
unfolding converted number_of
converted_unsigned kind bytes size n a unsigned widths is same =
    rw (widths, unsigned) (same ∙ ap (λ m. Computes (low_digits size m)) is ∙ ap Computes (sym (low_bytes-pos size (value_of bytes))))

pub not_signed : (kind : Kind) → kind ≢ Signed → is_signed kind ≡ false
unfolding is_signed
not_signed Signed other = absurd (other refl)
not_signed Unsigned other = refl
not_signed Boolean other = refl
not_signed Character other = refl

pub not_converted : (kind : Option Kind) (bytes : List ℕ) (size : ℕ) → (is_width (length bytes) && is_width size) ≡ false → Undefined ≡ converted kind size bytes
unfolding converted
not_converted None bytes size widths = refl
not_converted (Some kind) bytes size widths = rw widths refl
