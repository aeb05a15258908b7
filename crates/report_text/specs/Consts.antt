-- The texts of a constant's bytes.
use Rattle.std.specs.Prelude.{ℕ, Bool, true, false, List, length, Option, Some, None, if◌then◌else◌}
use Rattle.std.specs.Fmt.{signed_decimal}
use Rattle.numbers.specs.Bytes.{is_width, number_of}
use Rattle.numbers.specs.declared.operator.Kind.{Kind}
use Rattle.numbers.specs.declared.operator.Kind.TheVariants.{Signed, Unsigned, Boolean, Character}
use Rattle.report_text.specs.Texts.{hex_text}

-- The number of the bytes of an integer type, in decimal digits: little-endian and, if the type is signed, in two's
-- complement. Bytes of a length that no integer type has are written in hexadecimal digits.
abbrev pub number_text : Bool → List ℕ → List ℕ
number_text signed bytes = if is_width (length bytes) then signed_decimal (number_of signed bytes) else hex_text bytes

-- the text of a value's bytes, by the kind of its type's values: a number if they are integers, else hexadecimal digits
abbrev pub bytes_text : Option Kind → List ℕ → List ℕ
bytes_text (Some Signed) bytes = number_text true bytes
bytes_text (Some Unsigned) bytes = number_text false bytes
bytes_text (Some Boolean) bytes = hex_text bytes
bytes_text (Some Character) bytes = hex_text bytes
bytes_text None bytes = hex_text bytes
