-- Readers of numbers, texts and booleans.
use Rattle.std.specs.Prelude.{ℕ, ◌^◌, List, Some, None, Ok, Bool, nat_lt, if◌then◌else◌, option_and_then}
use Rattle.serde_json.specs.Data.{Data}
use Rattle.serde_json.specs.Find.{as_number, as_u64, as_str, as_bool}
use Rattle.json_kit.specs.Fit.{Fit, misfit, found}

-- a whole number below a limit
abbrev pub below_limit : ℕ → ℕ → Fit ℕ
below_limit limit n = if nat_lt n limit then Ok n else misfit

abbrev pub number_below : ℕ → Data → Fit ℕ
number_below limit d = elim (option_and_then as_u64 (as_number d)) [ None ↦ misfit | Some n ↦ below_limit limit n ]

abbrev pub u32_of : Data → Fit ℕ
u32_of d = number_below (2 ^ 32) d

abbrev pub u64_of : Data → Fit ℕ
u64_of d = number_below (2 ^ 64) d

abbrev pub bool_of : Data → Fit Bool
bool_of d = found (as_bool d)

-- the bytes of a string
abbrev pub text_of : Data → Fit (List ℕ)
text_of d = found (as_str d)
