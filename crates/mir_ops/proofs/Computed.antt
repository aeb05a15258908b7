-- What the table of operators answers for two operands of one kind.
use Rattle.std.proofs.Common.{◌≡◌, ◌≢◌, ℕ, true, false, ◌&&◌, eqb, Option, Some, None, List, length, refl, sym, ◌∙◌}
use Rattle.std.specs.Prelude.{IfSome, Bool}
use Rattle.numbers.specs.declared.operator.Kind.{Kind}
use Rattle.numbers.specs.declared.operator.Kind.TheVariants.{Signed, Unsigned, Boolean}
use Rattle.numbers.specs.declared.operator.Operator.{Operator}
use Rattle.numbers.specs.declared.operator.Operator.TheVariants.{Add, Sub, Mul, Div, Rem, BitXor, BitAnd, BitOr, Shl, Shr, Eq, Lt, Le, Ne, Ge, Gt}
use Rattle.numbers.specs.Bytes.{is_width}
use Rattle.numbers.specs.Operators.{Computes, combined, computed, is_on_booleans, is_shift, on_integers}
use Rattle.numbers.proofs.Dispatch.{on_signed_is, on_unsigned_is, on_booleans_is}
use Rattle.mir_ops.specs.declared.made.Size.{Size}
use Rattle.mir_ops.specs.declared.made.Size.TheVariants.{One, Two, Four, Eight}
use Rattle.mir_ops.specs.Made.{bytes_in}

-- a shift has no answer among the operators on integers
no_shift : (op : Operator) (signed : Bool) (left right bytes : List ℕ) → on_integers op signed left right ≡ Computes bytes → is_shift op ≡ false
unfolding is_shift on_integers
no_shift Add signed left right bytes is = refl
no_shift Sub signed left right bytes is = refl
no_shift Mul signed left right bytes is = refl
no_shift Div signed left right bytes is = refl
no_shift Rem signed left right bytes is = refl
no_shift BitXor signed left right bytes is = refl
no_shift BitAnd signed left right bytes is = refl
no_shift BitOr signed left right bytes is = refl
no_shift Shl signed left right bytes is = cc
no_shift Shr signed left right bytes is = cc
no_shift Eq signed left right bytes is = refl
no_shift Lt signed left right bytes is = refl
no_shift Le signed left right bytes is = refl
no_shift Ne signed left right bytes is = refl
no_shift Ge signed left right bytes is = refl
no_shift Gt signed left right bytes is = refl

-- the answer of the table, where its row for operands of one kind is the one for integers
computed_is : (op : Operator) (kind : Kind) (signed : Bool) (left right bytes : List ℕ) → on_integers op signed left right ≡ combined op (Some kind) (Some kind) left right → on_integers op signed left right ≡ Computes bytes → computed op (Some kind) (Some kind) left right ≡ Computes bytes
unfolding computed
computed_is op kind signed left right bytes row is = rw (no_shift op signed left right bytes is) (sym row ∙ is)

-- the same, where an operator made something
pub computed_if_made : {A : Type 0} (bytes : A → List ℕ) (result : Option A) (op : Operator) (kind : Kind) (signed : Bool) (left right : List ℕ) → on_integers op signed left right ≡ combined op (Some kind) (Some kind) left right → IfSome result (λ made. on_integers op signed left right ≡ Computes (bytes made)) → IfSome result (λ made. computed op (Some kind) (Some kind) left right ≡ Computes (bytes made))
computed_if_made bytes None op kind signed left right row is = tt
computed_if_made bytes (Some made) op kind signed left right row is = computed_is op kind signed left right (bytes made) row is

pub signed_row : (op : Operator) (left right : List ℕ) → (is_width (length left) && eqb (length left) (length right)) ≡ true → on_integers op true left right ≡ combined op (Some Signed) (Some Signed) left right
signed_row op left right long = on_signed_is op (Some Signed) (Some Signed) left right _ refl refl long refl

pub unsigned_row : (op : Operator) (left right : List ℕ) → (is_width (length left) && eqb (length left) (length right)) ≡ true → on_integers op false left right ≡ combined op (Some Unsigned) (Some Unsigned) left right
unsigned_row op left right long = on_unsigned_is op (Some Unsigned) (Some Unsigned) left right _ refl refl long refl

pub same_width : (size : Size) (left right : List ℕ) → length left ≡ bytes_in size → length right ≡ bytes_in size → (is_width (length left) && eqb (length left) (length right)) ≡ true
same_width One left right e f = rw (e, f) refl
same_width Two left right e f = rw (e, f) refl
same_width Four left right e f = rw (e, f) refl
same_width Eight left right e f = rw (e, f) refl

-- the operators that bool has
has_bool : (op : Operator) → op ≢ Add → op ≢ Sub → op ≢ Mul → op ≢ Div → op ≢ Rem → op ≢ Shl → op ≢ Shr → is_on_booleans op ≡ true
unfolding is_on_booleans
has_bool Add add sub mul div rem shl shr = absurd (add refl)
has_bool Sub add sub mul div rem shl shr = absurd (sub refl)
has_bool Mul add sub mul div rem shl shr = absurd (mul refl)
has_bool Div add sub mul div rem shl shr = absurd (div refl)
has_bool Rem add sub mul div rem shl shr = absurd (rem refl)
has_bool Shl add sub mul div rem shl shr = absurd (shl refl)
has_bool Shr add sub mul div rem shl shr = absurd (shr refl)
has_bool _ add sub mul div rem shl shr = refl

pub booleans_row : (op : Operator) (left right : List ℕ) → length left ≡ 1 → length right ≡ 1 → op ≢ Add → op ≢ Sub → op ≢ Mul → op ≢ Div → op ≢ Rem → op ≢ Shl → op ≢ Shr → on_integers op false left right ≡ combined op (Some Boolean) (Some Boolean) left right
booleans_row op left right e f add sub mul div rem shl shr =
    on_booleans_is op (Some Boolean) (Some Boolean) left right _ refl refl (rw (has_bool op add sub mul div rem shl shr, e, f) refl) refl
