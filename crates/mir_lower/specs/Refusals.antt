-- Why a typed body can't be lowered.
use Rattle.std.specs.Prelude.{◌≡◌, ◌≢◌, ℕ, Bool, true, false, not, ◌&&◌, IsTrue, List, [], ◌⊎◌, Contains, Some, None, codes, is_some}
use Rattle.std.specs.List.{list_any}
use Rattle.mir.specs.declared.body.Local.{Local}
use Rattle.types.specs.declared.ty.Ty.{Ty}
use Rattle.world.specs.Lookups.{is_copy}
use Rattle.mir_lower.specs.Growth.{IsUsed}
use Rattle.world.specs.declared.infer.InferenceResult.{InferenceResult}
use Rattle.mir.specs.declared.errors.MirLowerError.{MirLowerError}
use Rattle.mir.specs.declared.errors.MirLowerError.TheVariants as refusal
use Rattle.types.specs.declared.ids.BindingId.{BindingId}
use Rattle.source_meaning.specs.Calls.{parameters, parameter_cells}
use Rattle.source_meaning.specs.Source.{Source, Cell, Binding, binding_type, cell_type, pattern, target_path, pattern_named_by, compound_path, named_by, root}
use Rattle.source_meaning.specs.Valid.{Evaluates}
use Rattle.body_forms.specs.Refusals.{AssignsNone, BindsNone, CombinesNone, IsUnbuiltOperand, IsUnbuiltTarget, RefusesNode}

-- inference met an error in the body
abbrev pub HasTypingErrors : InferenceResult → Type 0
HasTypingErrors infer = IsTrue infer.erroneous ⊎ (infer.mismatches ≢ [])

-- the refusal of a pattern: it isn't a name by value, or the body lacks its binding
abbrev pub RefusesPattern : Source → ℕ → MirLowerError → Type 0
RefusesPattern source pat (refusal.NotSupported text) = (text ≡ codes "form not built") × (pattern source pat ≡ None)
RefusesPattern source pat refusal.InaccessibleLocal = BindsNone source pat
RefusesPattern source pat refusal.NoMemory = Unit {0}
RefusesPattern source pat _ = ⊥

-- the refusal of an assignment's target: it isn't built, its name is resolved to nothing, or the body lacks its binding
abbrev pub RefusesTarget : Source → ℕ → MirLowerError → Type 0
RefusesTarget source p (refusal.NotSupported text) = (text ≡ codes "form not built") × IsUnbuiltTarget source p
RefusesTarget source p (refusal.UnresolvedName name) = (target_path source p ≡ Some name) × (pattern_named_by source p ≡ None)
RefusesTarget source p refusal.InaccessibleLocal = AssignsNone source p
RefusesTarget source p refusal.NoMemory = Unit {0}
RefusesTarget source p _ = ⊥

-- the refusal of a compound assignment's target: it isn't built, its name is resolved to nothing, or the body lacks its binding
abbrev pub RefusesCombined : Source → ℕ → MirLowerError → Type 0
RefusesCombined source e (refusal.NotSupported text) = (text ≡ codes "form not built") × IsUnbuiltOperand source e
RefusesCombined source e (refusal.UnresolvedName name) = (compound_path source e ≡ Some name) × (named_by source e ≡ None)
RefusesCombined source e refusal.InaccessibleLocal = CombinesNone source e
RefusesCombined source e refusal.NoMemory = Unit {0}
RefusesCombined source e _ = ⊥

-- a refusal has its cause at an expression that is evaluated where another is
abbrev pub RefusesAt : Source → ℕ → MirLowerError → Type 0
RefusesAt source e error = (at : ℕ) × Evaluates source e at × RefusesNode source at error

-- whether a local has a type that isn't listed as `Copy`
abbrev pub are_some_dropped : Source → List Local → Bool
are_some_dropped source locals = list_any (λ local. not (is_copy source.infer local.ty)) locals

-- whether locals may need the drop function that the world has
abbrev pub needs_drops : Source → List Local → Bool
needs_drops source locals = is_some source.world.drop_fn && are_some_dropped source locals

-- The world has a drop function, and the result, a binding, the value of an expression that is evaluated, its `!` or its index may
-- need it: its type isn't listed as `Copy`.
pub record HasDrops (source : Source) : Type 0 where
  pub drop_fn : is_some source.world.drop_fn ≡ true
  pub cell : Cell
  pub used : IsUsed source cell
  pub ty : Ty
  pub typed : cell_type source cell ≡ Some ty
  pub no_copy : is_copy source.infer ty ≡ false

-- the refusal of a body's parameters: one isn't a name by value, or the body lacks its binding
abbrev pub RefusesParameters : Source → MirLowerError → Type 0
RefusesParameters source (refusal.NotSupported text) = (text ≡ codes "form not built") × (parameters source ≡ None)
RefusesParameters source refusal.InaccessibleLocal = (binding : BindingId) × Contains (parameter_cells source) (Binding binding.0) × (binding_type source binding.0 ≡ None)
RefusesParameters source refusal.NoMemory = Unit {0}
RefusesParameters source _ = ⊥

-- a body without typing errors is refused for its parameters, for one of its expressions, or for what may need a drop function
abbrev pub RefusesInferred : Source → MirLowerError → Type 0
RefusesInferred source error =
    ((error ≡ refusal.NotSupported (codes "form not built")) × HasDrops source) ⊎ RefusesParameters source error ⊎ RefusesAt source (root source) error

-- a body's refusal is that of its typing errors, or that of the body without them
abbrev pub Refuses : Source → MirLowerError → Type 0
Refuses source error = ((error ≡ refusal.HasErrors) × HasTypingErrors source.infer) ⊎ RefusesInferred source error
