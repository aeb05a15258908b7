-- The laws of numbers as bytes and of the table of operators.
use Rattle.std.specs.Prelude.{◌≡◌, ℕ, ◌<◌, Bool, false, IsTrue, List, length, Option, All, ℤ}
use Rattle.numbers.specs.declared.operator.Kind.{Kind}
use Rattle.numbers.specs.declared.operator.Operator.{Operator}
use Rattle.numbers.specs.Bytes.{low_bytes, number_of, holds}
use Rattle.numbers.specs.Operators.{Computes, computed, is_comparison}

-- a number's low bytes are as many as were asked for
abbrev pub LowBytesHaveLength : Type 0
LowBytesHaveLength = (size : ℕ) (z : ℤ) → length (low_bytes size z) ≡ size

-- and each is a byte
abbrev pub LowBytesAreBytes : Type 0
LowBytesAreBytes = (size : ℕ) (z : ℤ) → All (λ byte. byte < 256) (low_bytes size z)

-- the bytes of a number that a type holds are that number
abbrev pub HeldNumbersRoundTrip : Type 0
HeldNumbersRoundTrip = (signed : Bool) (size : ℕ) (z : ℤ) → IsTrue (holds signed size z) → number_of signed (low_bytes size z) ≡ z

-- the result of a comparison is one byte
abbrev pub ComparisonsTakeOneByte : Type 0
ComparisonsTakeOneByte =
    (op : Operator) (left_kind right_kind : Option Kind) (left right bytes : List ℕ) → IsTrue (is_comparison op) →
    computed op left_kind right_kind left right ≡ Computes bytes → length bytes ≡ 1

-- any other result has as many bytes as the left operand
abbrev pub ResultsKeepTheWidth : Type 0
ResultsKeepTheWidth =
    (op : Operator) (left_kind right_kind : Option Kind) (left right bytes : List ℕ) → is_comparison op ≡ false →
    computed op left_kind right_kind left right ≡ Computes bytes → length bytes ≡ length left
