-- Operators of a run that were computed without the table.
use Rattle.std.proofs.Common.{◌≡◌, ℕ, ◌<◌, ◌⊎◌, List, length, Option, Some, None, Result, Ok, Err, ◌∙◌, ap, refl}
use Rattle.std.specs.Prelude.{IfSome, codes, option_and_then}
use Rattle.types.specs.declared.ty.Ty.{Ty}
use Rattle.numbers.specs.declared.operator.Kind.{Kind}
use Rattle.numbers.specs.declared.operator.Operator.{Operator}
use Rattle.numbers.specs.Operators.{Computes, Undefined, computed, converted, kind_of}
use Rattle.world.specs.Checked.{fixed_size}
use Rattle.mir.specs.declared.errors.MirEvalError.{MirEvalError}
use Rattle.mir.specs.declared.errors.MirEvalError as error
use Rattle.mir.specs.declared.operand.UnOp.{UnOp}
use Rattle.mir.specs.Run.{answered, cast_to, operated, operated_on}
use Rattle.mir_eval.proofs.Wide.{no-answer, no-answer-of-one, no-conversion}

-- what the table would answer for two operands is what the run has
pub operated_if_made : {A : Type 0} (bytes : A → List ℕ) (result : Option A) (op : Operator) (kind other : Kind) (left_type right_type : Option Ty) (first second : Option (List ℕ)) (left right : List ℕ) → option_and_then kind_of left_type ≡ Some kind → option_and_then kind_of right_type ≡ Some other → first ≡ Some left → second ≡ Some right → IfSome result (λ made. computed op (Some kind) (Some other) left right ≡ Computes (bytes made)) → IfSome result (λ made. operated op left_type right_type first second ≡ Ok (bytes made))
unfolding operated answered
operated_if_made bytes None op kind other left_type right_type first second left right h k f g is = tt
operated_if_made bytes (Some made) op kind other left_type right_type first second left right h k f g is =
    ap (λ (x : Option (List ℕ)). operated op left_type right_type x second) f
    ∙ ap (λ (x : Option (List ℕ)). operated op left_type right_type (Some left) x) g
    ∙ ap (λ (x : Option Kind). answered (computed op x (option_and_then kind_of right_type) left right)) h
    ∙ ap (λ (x : Option Kind). answered (computed op (Some kind) x left right)) k
    ∙ ap answered is

-- what a cast was to make is what the run has
pub cast-made : (to : Ty) (from : Option Ty) (kind : Kind) (size : ℕ) (first : Option (List ℕ)) (bytes made : List ℕ) → option_and_then kind_of from ≡ Some kind → fixed_size to ≡ Some size → first ≡ Some bytes → converted (Some kind) size bytes ≡ Computes made → cast_to to from first ≡ Ok made
unfolding cast_to answered
cast-made to from kind size first bytes made own own_size are is =
    ap (cast_to to from) are
    ∙ ap of-size own_size
    ∙ ap (λ (k : Option Kind). answered (converted k size bytes)) own
    ∙ ap answered is where
      of-size : Option ℕ → Result (List ℕ) MirEvalError
      of-size found = elim found [ Some count ↦ answered (converted (option_and_then kind_of from) count bytes) | None ↦ answered Undefined ]

-- operands of more than 16 bytes
pub operated-wide : (op : Operator) (left_type right_type : Option Ty) (first second : Option (List ℕ)) (left right : List ℕ) → first ≡ Some left → second ≡ Some right → (16 < length left) ⊎ (16 < length right) →
    operated op left_type right_type first second ≡ Err (error.NotSupported (codes "comparison of this type"))
unfolding operated answered
operated-wide op left_type right_type first second left right f g more =
    ap (λ (x : Option (List ℕ)). operated op left_type right_type x second) f
    ∙ ap (λ (x : Option (List ℕ)). operated op left_type right_type (Some left) x) g
    ∙ ap answered (no-answer op left right more (option_and_then kind_of left_type) (option_and_then kind_of right_type))

pub operated-on-wide : (op : UnOp) (ty : Option Ty) (first : Option (List ℕ)) (bytes : List ℕ) → first ≡ Some bytes → 16 < length bytes →
    operated_on op ty first ≡ Err (error.NotSupported (codes "comparison of this type"))
unfolding operated_on answered
operated-on-wide op ty first bytes f more =
    ap (λ (x : Option (List ℕ)). operated_on op ty x) f ∙ ap answered (no-answer-of-one bytes more op (option_and_then kind_of ty))

-- and a cast
unbuilt-cast : (kind : Option Kind) (bytes : List ℕ) (size : Option ℕ) → 16 < length bytes → ◌≡◌ {A = Result (List ℕ) MirEvalError} (elim size [ Some count ↦ answered (converted kind count bytes) | None ↦ answered Undefined ]) (Err (error.NotSupported (codes "comparison of this type")))
unfolding answered
unbuilt-cast kind bytes (Some count) more = ap answered (no-conversion bytes more kind count)
unbuilt-cast kind bytes None more = refl

pub cast-wide : (to : Ty) (from : Option Ty) (first : Option (List ℕ)) (bytes : List ℕ) → first ≡ Some bytes → 16 < length bytes → cast_to to from first ≡ Err (error.NotSupported (codes "comparison of this type"))
unfolding cast_to
cast-wide to from first bytes f more = ap (cast_to to from) f ∙ unbuilt-cast (option_and_then kind_of from) bytes (fixed_size to) more

-- to a type whose size isn't the same on all targets
pub cast-unbuilt : (to : Ty) (from : Option Ty) (first : Option (List ℕ)) (bytes : List ℕ) → first ≡ Some bytes → fixed_size to ≡ None → cast_to to from first ≡ Err (error.NotSupported (codes "comparison of this type"))
unfolding cast_to answered
cast-unbuilt to from first bytes f none =
    ap (cast_to to from) f
    ∙ ap (λ (size : Option ℕ). of-size size) none where
      of-size : Option ℕ → Result (List ℕ) MirEvalError
      of-size size = elim size [ Some count ↦ answered (converted (option_and_then kind_of from) count bytes) | None ↦ answered Undefined ]
