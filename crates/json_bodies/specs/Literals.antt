-- Readers of literals.
use Rattle.std.specs.Prelude.{[], ◌∷◌, Option, codes}
use Rattle.serde_json.specs.Data.{Data}
use Rattle.world.specs.declared.literal.Literal.TheVariants as the_literal
use Rattle.world.specs.declared.literal.Literal.{Literal}
use Rattle.json_kit.specs.Fit.{Fit}
use Rattle.json_kit.specs.Hex.{bytes_of}
use Rattle.json_types.specs.Kinds.{float_ty_of, int_ty_of, uint_ty_of}
use Rattle.json_kit.specs.Numerals.{i128_of, u128_of}
use Rattle.json_kit.specs.Parts.{option_of, pair_of}
use Rattle.json_kit.specs.Scalars.{bool_of, text_of, u32_of}
use Rattle.json_kit.specs.Variants.{Named, enum_of, first_of, payload}

unfoldable pub text_literal_of : Named → Fit (Option Literal)
text_literal_of = first_of (payload (codes "Str") text_of the_literal.Str ∷ payload (codes "CStr") bytes_of the_literal.CStr ∷ payload (codes "ByteStr") bytes_of the_literal.ByteStr ∷ payload (codes "Char") u32_of the_literal.Char ∷ [])

unfoldable pub number_literal_of : Named → Fit (Option Literal)
number_literal_of = first_of (payload (codes "Bool") bool_of the_literal.Bool ∷ payload (codes "Int") (pair_of i128_of (option_of int_ty_of)) (λ both. the_literal.Int both.0 both.1) ∷ payload (codes "Uint") (pair_of u128_of (option_of uint_ty_of)) (λ both. the_literal.Uint both.0 both.1) ∷ payload (codes "Float") (pair_of text_of (option_of float_ty_of)) (λ both. the_literal.Float both.0 both.1) ∷ [])

unfoldable pub literal_of : Data → Fit Literal
literal_of = enum_of (text_literal_of ∷ number_literal_of ∷ [])
