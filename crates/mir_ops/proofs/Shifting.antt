-- What the table of operators makes of a cast and of a shift of numbers of at most 8 bytes.
use Rattle.std.proofs.Common.{◌≡◌, ℕ, ◌+◌, ◌-◌, ◌*◌, ◌/◌, ◌%◌, ◌^◌, ◌<◌, ◌≤◌, Bool, true, false, ◌&&◌, Option, Some, None, List, length, pos, refl, sym, ◌∙◌, ap, arith}
use Rattle.std.specs.Prelude.{IfSome}
use Rattle.std.proofs.Math.Arith.{mod-mul}
use Rattle.std.proofs.lemmas.Nat.{mod-mul-add, mod_below, pow-add}
use Rattle.numbers.specs.declared.operator.Kind.{Kind}
use Rattle.numbers.specs.declared.operator.Operator.{Operator}
use Rattle.numbers.specs.declared.operator.Operator.TheVariants.{Add, Sub, Mul, Div, Rem, BitXor, BitAnd, BitOr, Shl, Shr, Eq, Lt, Le, Ne, Ge, Gt}
use Rattle.numbers.specs.Bytes.{is_width, low_bytes, low_digits, number_of, value_of}
use Rattle.numbers.specs.Operators.{Computes, computed, converted, is_shift, is_signed, shifted, sign_of}
use Rattle.numbers.proofs.Digits.{low_digits-mod, some_values}
use Rattle.numbers.proofs.Keeping.{low_bytes-pos}
use Rattle.numbers.proofs.Dispatch.{shift_of_widths, shifted_down, shifted_within}
use Rattle.mir_ops.specs.declared.made.Size.{Size}
use Rattle.mir_ops.specs.declared.made.Size.TheVariants.{One, Two, Four, Eight}
use Rattle.mir_ops.specs.declared.made.Made.{Made}
use Rattle.mir_ops.specs.Made.{bytes_in, made_bytes}
use Rattle.mir_ops.proofs.SignedWords.{size_below}

word_values : (size : ℕ) → size ≤ 8 → 2 ^ 64 ≡ 256 ^ (8 - size) * 256 ^ size
word_values size h =
    let total : 8 ≡ (8 - size) + size = omega arith in
    ap (λ m. 256 ^ m) total ∙ pow-add 256 (8 - size) size

-- the low bytes of a number that was cut to 64 bits
pub low_digits-word : (size n : ℕ) → size ≤ 8 → low_digits size (n % 2 ^ 64) ≡ low_digits size n
low_digits-word size n h =
    let p : ℕ = 256 ^ size in
    let q : ℕ = 256 ^ (8 - size) in
    let some : 0 < p = some_values size in
    let parts : n % (q * p) ≡ (n / p % q) * p + n % p = mod-mul n (some_values (8 - size)) some in
    let cut : n % 2 ^ 64 ≡ n % (q * p) = ap (λ m. n % m) (word_values size h) in
    let low : n % 2 ^ 64 % p ≡ n % p = ap (λ m. m % p) (cut ∙ parts) ∙ mod-mul-add (n / p % q) p (n % p) (mod_below n p some) in
    sym (low_digits-mod size (n % 2 ^ 64)) ∙ ap (low_digits size) low ∙ low_digits-mod size n

-- the word of a number without a sign
pub unsigned_word : (signed : Bool) (bytes : List ℕ) (n : ℕ) → signed ≡ false → n ≡ value_of bytes → (count : ℕ) → low_digits count n ≡ low_bytes count (number_of signed bytes)
unfolding number_of
unsigned_word signed bytes n is e count = rw (is, e) (sym (low_bytes-pos count (value_of bytes)))

-- the bits of a number that were shifted up
pub shifted_up : (signed : Bool) (bytes : List ℕ) (size : Size) (amount n : ℕ) (made : List ℕ) → length bytes ≡ bytes_in size → n ≡ value_of bytes → made ≡ low_digits (bytes_in size) ((n * 2 ^ amount) % 2 ^ 64) → shifted Shl signed bytes amount ≡ Computes made
unfolding shifted
shifted_up signed bytes size amount n made long e is =
    rw (long, ← e) (ap Computes (sym (is ∙ low_digits-word (bytes_in size) (n * 2 ^ amount) (size_below size))))

-- and down, without a sign
pub down_made : (bytes : List ℕ) (size : Size) (amount n : ℕ) (made : List ℕ) → length bytes ≡ bytes_in size → n ≡ value_of bytes → made ≡ low_digits (bytes_in size) (n / 2 ^ amount) → shifted Shr false bytes amount ≡ Computes made
down_made bytes size amount n made long e is =
    sym (shifted_down bytes amount n (Computes made) e (ap Computes (is ∙ ap (λ (count : ℕ). low_digits count (n / 2 ^ amount)) (sym long))))

-- some integer types have sizes
pub size_is_width : (size : Size) → is_width (bytes_in size) ≡ true
size_is_width One = refl
size_is_width Two = refl
size_is_width Four = refl
size_is_width Eight = refl

pub both_widths : (one other : ℕ) (first second : Size) → one ≡ bytes_in first → other ≡ bytes_in second → (is_width one && is_width other) ≡ true
both_widths one other first second e f = rw (e, f, size_is_width first, size_is_width second) refl

pub cast_made : (kind : Kind) (size : ℕ) (bytes made : List ℕ) → (is_width (length bytes) && is_width size) ≡ true → made ≡ low_bytes size (number_of (is_signed kind) bytes) → converted (Some kind) size bytes ≡ Computes made
unfolding converted
cast_made kind size bytes made widths is = rw widths (ap Computes (sym is))

-- an operator that shifts is a shift
is_a_shift : (op : Operator) (signed : Bool) (bytes made : List ℕ) (amount : ℕ) → shifted op signed bytes amount ≡ Computes made → is_shift op ≡ true
unfolding is_shift shifted
is_a_shift Add signed bytes made amount is = cc
is_a_shift Sub signed bytes made amount is = cc
is_a_shift Mul signed bytes made amount is = cc
is_a_shift Div signed bytes made amount is = cc
is_a_shift Rem signed bytes made amount is = cc
is_a_shift BitXor signed bytes made amount is = cc
is_a_shift BitAnd signed bytes made amount is = cc
is_a_shift BitOr signed bytes made amount is = cc
is_a_shift Shl signed bytes made amount is = refl
is_a_shift Shr signed bytes made amount is = refl
is_a_shift Eq signed bytes made amount is = cc
is_a_shift Lt signed bytes made amount is = cc
is_a_shift Le signed bytes made amount is = cc
is_a_shift Ne signed bytes made amount is = cc
is_a_shift Ge signed bytes made amount is = cc
is_a_shift Gt signed bytes made amount is = cc

computed_shift : (op : Operator) (kind by : Kind) (signed by_signed : Bool) (left right made : List ℕ) (amount : ℕ) → sign_of (Some kind) ≡ Some signed → sign_of (Some by) ≡ Some by_signed → (is_width (length left) && is_width (length right)) ≡ true →
    number_of by_signed right ≡ pos amount → amount < 8 * length left → shifted op signed left amount ≡ Computes made → computed op (Some kind) (Some by) left right ≡ Computes made
unfolding computed
computed_shift op kind by signed by_signed left right made amount e f widths is below does =
    rw (is_a_shift op signed left made amount does)
    (sym (shift_of_widths op (sign_of (Some kind)) (sign_of (Some by)) signed by_signed left right _ e f widths (shifted_within op signed left (number_of by_signed right) amount _ is below (sym does))))

-- the same, where a shift made something
pub shift_if_made : (result : Option Made) (op : Operator) (kind by : Kind) (signed by_signed : Bool) (left right : List ℕ) (amount : ℕ) → sign_of (Some kind) ≡ Some signed → sign_of (Some by) ≡ Some by_signed → (is_width (length left) && is_width (length right)) ≡ true →
    number_of by_signed right ≡ pos amount → amount < 8 * length left → IfSome result (λ made. shifted op signed left amount ≡ Computes (made_bytes made)) → IfSome result (λ made. computed op (Some kind) (Some by) left right ≡ Computes (made_bytes made))
shift_if_made None op kind by signed by_signed left right amount e f widths is below does = tt
shift_if_made (Some made) op kind by signed by_signed left right amount e f widths is below does = computed_shift op kind by signed by_signed left right (made_bytes made) amount e f widths is below does
