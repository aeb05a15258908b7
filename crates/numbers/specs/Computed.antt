-- What the value that an operator's computation returns tells.
use Rattle.std.specs.Prelude.{ℕ, take}
use Rattle.numbers.specs.declared.kept.Computed.{Computed}
use Rattle.numbers.specs.declared.kept.Computed.TheVariants as computed
use Rattle.numbers.specs.Operators.{Answer, Computes, Panics, Undefined, panic_word}

-- the answer of the table of operators
abbrev pub answer_of : Computed → Answer
answer_of (computed.Bytes bytes count) = Computes (take count bytes)
answer_of (computed.Panics op) = Panics (panic_word op)
answer_of computed.Undefined = Undefined

-- how many bytes it says that there are
abbrev pub count_of : Computed → ℕ
count_of (computed.Bytes bytes count) = count
count_of (computed.Panics op) = 0
count_of computed.Undefined = 0
