-- Parts of a report: texts with separators, quoted texts, and bytes as digits.
use Rattle.std.specs.Prelude.{ℕ, ◌==◌, List, [], ◌∷◌, ◌++◌, codes, if◌then◌else◌}
use Rattle.std.specs.List.{flat_map}
use Rattle.hex.specs.Hex.{encode_lower}

-- a text after a comma and a space
abbrev pub after_comma : List ℕ → List ℕ
after_comma text = codes ", " ++ text

-- texts with a comma and a space between two
abbrev pub listed : List (List ℕ) → List ℕ
listed [] = []
listed (text ∷ texts) = text ++ flat_map after_comma texts

-- a text after a plus sign
abbrev pub after_plus : List ℕ → List ℕ
after_plus text = codes " + " ++ text

-- texts with a plus sign between two
abbrev pub summed : List (List ℕ) → List ℕ
summed [] = []
summed (text ∷ texts) = text ++ flat_map after_plus texts

-- a name with its arguments in angle brackets, where it has any
abbrev pub with_args : List ℕ → List (List ℕ) → List ℕ
with_args name [] = name
with_args name (arg ∷ args) = name ++ (codes "<" ++ (listed (arg ∷ args) ++ codes ">"))

-- texts in brackets
abbrev pub bracketed : List (List ℕ) → List ℕ
bracketed texts = codes "[" ++ (listed texts ++ codes "]")

-- a byte of a quoted text: quotes and backslashes have a backslash before them, and an end of a line is `\n`
abbrev pub escaped : ℕ → List ℕ
escaped byte = if byte == 10 then codes "\\n" else if byte == 34 then codes "\\\"" else if byte == 92 then codes "\\\\" else byte ∷ []

-- a text in double quotes
abbrev pub quoted : List ℕ → List ℕ
quoted text = codes "\"" ++ (flat_map escaped text ++ codes "\"")

-- bytes in hexadecimal digits, or a dash where there are none
abbrev pub digits_or_dash : List ℕ → List ℕ
digits_or_dash [] = codes "-"
digits_or_dash (byte ∷ bytes) = encode_lower (byte ∷ bytes)

-- bytes in hexadecimal digits, after `0x`; `0x` alone where there are none
abbrev pub hex_text : List ℕ → List ℕ
hex_text bytes = codes "0x" ++ encode_lower bytes

-- a name with its parts in parentheses
abbrev pub named : List ℕ → List (List ℕ) → List ℕ
named name parts = name ++ (codes "(" ++ (listed parts ++ codes ")"))
