-- Why the body of a definition can't be lowered.
use Rattle.std.specs.Prelude.{◌≡◌, true, false, ◌⊎◌, Some, None, codes}
use Rattle.world.specs.declared.database.BodyRow.{BodyRow}
use Rattle.world.specs.declared.database.HirDatabase.{HirDatabase}
use Rattle.types.specs.declared.ids.DefWithBodyId.{DefWithBodyId}
use Rattle.types.specs.declared.ty.GenericArgs.{GenericArgs}
use Rattle.world.specs.Lookups.{body_row}
use Rattle.mir.specs.declared.errors.MirLowerError.{MirLowerError}
use Rattle.mir.specs.declared.errors.MirLowerError.TheVariants as refusal
use Rattle.mir_lower.specs.Refusals.{RefusesInferred}
use Rattle.consteval.specs.Built.{is_erroneous, is_unbuilt}
use Rattle.consteval.specs.Sources.{source_of}

-- the definition's body has a typing error
pub record RefusesErrors (world : HirDatabase) (def : DefWithBodyId) (e : MirLowerError) : Type 0 where
  pub errors : is_erroneous world def ≡ true
  pub is : e ≡ refusal.HasErrors

-- the definition has no typing error, and isn't built yet
pub record RefusesUnbuilt (world : HirDatabase) (def : DefWithBodyId) (args : GenericArgs) (e : MirLowerError) : Type 0 where
  pub no_errors : is_erroneous world def ≡ false
  pub unbuilt : is_unbuilt world def args ≡ true
  pub is : e ≡ refusal.NotSupported (codes "form not built")

-- the definition is built, and has no body
pub record RefusesMissing (world : HirDatabase) (def : DefWithBodyId) (args : GenericArgs) (e : MirLowerError) : Type 0 where
  pub built : is_unbuilt world def args ≡ false
  pub missing : body_row world def ≡ None
  pub is : e ≡ refusal.IncompleteExpr

-- the definition is built, its body has no typing error, and its lowering was refused
pub record RefusesLowering (world : HirDatabase) (def : DefWithBodyId) (args : GenericArgs) (e : MirLowerError) : Type 0 where
  pub no_errors : is_erroneous world def ≡ false
  pub built : is_unbuilt world def args ≡ false
  pub row : BodyRow
  pub found : body_row world def ≡ Some row
  pub refuses : RefusesInferred (source_of world row) e

-- The body could not be lowered. Each cause stands only where those before it don't: a typing error, a definition that
-- isn't built yet, no body, and what lowering refuses.
abbrev pub RefusesBody : HirDatabase → DefWithBodyId → GenericArgs → MirLowerError → Type 0
RefusesBody world def args e =
    RefusesErrors world def e ⊎ RefusesUnbuilt world def args e ⊎ RefusesMissing world def args e ⊎ RefusesLowering world def args e
