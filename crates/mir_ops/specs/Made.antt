-- The bytes of what an operator or a cast makes.
use Rattle.std.specs.Prelude.{ℕ, List}
use Rattle.std.specs.Int.{from_bool}
use Rattle.numbers.specs.Bytes.{low_digits}
use Rattle.mir_ops.specs.declared.made.Size.{Size}
use Rattle.mir_ops.specs.declared.made.Size.TheVariants.{One, Two, Four, Eight}
use Rattle.mir_ops.specs.declared.made.Made.{Made}
use Rattle.mir_ops.specs.declared.made.Made.TheVariants as made

-- how many bytes a size is
abbrev pub bytes_in : Size → ℕ
bytes_in One = 1
bytes_in Two = 2
bytes_in Four = 4
bytes_in Eight = 8

-- the bytes of what an operator or a cast made
abbrev pub made_bytes : Made → List ℕ
made_bytes (made.Word1 word) = low_digits 1 word
made_bytes (made.Word2 word) = low_digits 2 word
made_bytes (made.Word4 word) = low_digits 4 word
made_bytes (made.Word8 word) = low_digits 8 word
made_bytes (made.WideWord word) = low_digits 16 word
made_bytes (made.Truth truth) = low_digits 1 (from_bool truth)
