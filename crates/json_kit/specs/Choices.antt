-- Readers of `Either`.
use Rattle.std.specs.Prelude.{[], ◌∷◌, codes}
use Rattle.either.specs.declared.Either.{Either}
use Rattle.either.specs.declared.Either.TheVariants.{Left, Right}
use Rattle.serde_json.specs.Data.{Data}
use Rattle.json_kit.specs.Fit.{Fit}
use Rattle.json_kit.specs.Variants.{enum_of, payload}

unfoldable pub either_of : {A B : Type 0} → (Data → Fit A) → (Data → Fit B) → Data → Fit (Either A B)
either_of reads_left reads_right = enum_of (payload (codes "Left") reads_left Left ∷ payload (codes "Right") reads_right Right ∷ [])
