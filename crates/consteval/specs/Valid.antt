-- The definitions that the main theorem speaks of.
use Rattle.std.specs.Prelude.{◌≡◌, false, [], Some, None, slice_get}
use Rattle.world.specs.declared.database.BodyRow.{BodyRow}
use Rattle.world.specs.declared.items.ConstRow.{ConstRow}
use Rattle.world.specs.declared.items.FunctionRow.{FunctionRow}
use Rattle.world.specs.declared.database.HirDatabase.{HirDatabase}
use Rattle.types.specs.declared.ids.ConstId.{ConstId}
use Rattle.types.specs.declared.ids.DefWithBodyId.{DefWithBodyId}
use Rattle.types.specs.declared.ids.DefWithBodyId.TheVariants.{ConstId as Const, FunctionId as Function}
use Rattle.types.specs.declared.ids.FunctionId.{FunctionId}
use Rattle.types.specs.declared.ty.GenericArgs.{GenericArgs}
use Rattle.types.specs.declared.ty.Ty.{Ty}
use Rattle.world.specs.Lookups.{body_row, function_row}
use Rattle.mir_eval.specs.Machine.{pointer_bytes}
use Rattle.source_meaning.specs.Source.{Source, node_type, root}
use Rattle.source_meaning.specs.Valid.{IsPlainThroughout, Calls, Reaches}
use Rattle.mir_lower.specs.Refusals.{HasDrops}
use Rattle.consteval.specs.Sources.{source_of}

-- a constant of a type, without generic parameters
pub record IsPlainConst (world : HirDatabase) (id : ConstId) (ty : Ty) : Type 0 where
  pub row : ConstRow
  pub found : slice_get world.consts id.0 ≡ Some row
  pub no_generics : row.generics ≡ []
  pub typed : row.ty ≡ ty

-- a function that returns a type, without generic and value parameters, and not special (as an intrinsic is)
pub record IsPlainFunction (world : HirDatabase) (id : FunctionId) (ty : Ty) : Type 0 where
  pub row : FunctionRow
  pub found : function_row world id ≡ Some row
  pub no_generics : row.generics ≡ []
  pub no_params : row.sig.params ≡ []
  pub own_body : row.special ≡ None
  pub typed : row.sig.ret ≡ ty

-- a constant or a function that is evaluated by a run of its own body, and the type of its value
abbrev pub IsPlainItem : HirDatabase → DefWithBodyId → Ty → Type 0
IsPlainItem world (Const id) ty = IsPlainConst world id ty
IsPlainItem world (Function id) ty = IsPlainFunction world id ty
IsPlainItem world _ ty = ⊥

-- what is asked of a body that is called, beside that it is plain: inference met no error in it, and no value of it may need a drop function
pub record IsFitBody (source : Source) : Type 0 where
  pub inferred : source.infer.erroneous ≡ false
  pub fitting : source.infer.mismatches ≡ []
  pub dropless : ¬ HasDrops source

-- A definition and its arguments are valid: it is a constant without generic parameters, or a function without generic and value
-- parameters, has a body of its type without parameters and typing errors, and no value of which may need a drop function, no
-- arguments, and its crate has pointers of 8 bytes. Its body is plain, and so is each body that it reaches by calls. Each body that is
-- reached by calls has no typing error, and no value of it may need a drop function.
pub record IsValid (world : HirDatabase) (def : DefWithBodyId) (args : GenericArgs) (row : BodyRow) : Type 0 where
  pub ty : Ty
  pub item : IsPlainItem world def ty
  pub body : body_row world def ≡ Some row
  pub no_args : args.0 ≡ []
  pub no_params : row.body.params ≡ []
  pub no_self : row.body.self_param ≡ None
  pub inferred : row.infer.erroneous ≡ false
  pub fitting : row.infer.mismatches ≡ []
  pub plain : IsPlainThroughout (source_of world row)
  pub called : (callee reached : Source) → Calls (source_of world row) callee → Reaches callee reached → IsFitBody reached
  pub dropless : ¬ HasDrops (source_of world row)
  pub typed : node_type (source_of world row) (root (source_of world row)) ≡ Some ty
  pub pointers : pointer_bytes world def ≡ Some 8
