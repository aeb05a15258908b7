-- Definitions of a checked world that can be evaluated, and typed bodies that are right by themselves.
use Rattle.std.specs.Prelude.{◌≡◌, ℕ, ◌==◌, ◌&&◌, Bool, true, false, List, [], ◌∷◌, length, Option, Some, None, slice_get}
use Rattle.types.specs.declared.ids.DefWithBodyId.{DefWithBodyId}
use Rattle.types.specs.declared.ids.DefWithBodyId.TheVariants as def
use Rattle.types.specs.declared.ids.GenericParamId.{GenericParamId}
use Rattle.types.specs.declared.ids.GenericParamId.TheVariants as param
use Rattle.types.specs.declared.ty.GenericArg.{GenericArg}
use Rattle.types.specs.declared.ty.GenericArg.TheVariants as arg
use Rattle.types.specs.declared.ty.GenericArgs.{GenericArgs}
use Rattle.world.specs.declared.body.Body.{Body}
use Rattle.world.specs.declared.database.HirDatabase.{HirDatabase}
use Rattle.world.specs.declared.expr.Expr.{Expr}
use Rattle.world.specs.declared.infer.InferenceResult.{InferenceResult}
use Rattle.world.specs.declared.items.ConstRow.{ConstRow}
use Rattle.world.specs.declared.items.FunctionRow.{FunctionRow}
use Rattle.world.specs.declared.items.StaticRow.{StaticRow}
use Rattle.world.specs.declared.pat.Pat.{Pat}
use Rattle.check_names.specs.Known.{are_args_settled}
use Rattle.check_ids.specs.Parts.{is_part_right}
use Rattle.check_ids.specs.declared.part.BodyPart.{BodyPart}
use Rattle.check_trees.specs.Ellipsis.{is_ellipsis_inside}
use Rattle.check_trees.specs.Jumps.{IsJumpInside}
use Rattle.check_trees.specs.Tree.{IsExprInOrder, IsPatInOrder}

-- a type for a type parameter, or a constant for a const parameter
abbrev pub is_of_sort : GenericParamId → GenericArg → Bool
is_of_sort (param.TypeParamId id) (arg.Ty ty) = true
is_of_sort (param.ConstParamId id) (arg.Konst konst) = true
is_of_sort _ _ = false

-- one generic argument for each generic parameter, of its kind
abbrev pub are_of_sorts : List GenericParamId → List GenericArg → Bool
are_of_sorts [] [] = true
are_of_sorts (param ∷ params) (arg ∷ args) = is_of_sort param arg && are_of_sorts params args
are_of_sorts _ _ = false

-- the list is empty
abbrev pub is_none_of : {X : Type 0} → List X → Bool
is_none_of xs = length xs == 0

-- there is a function without parameters, and the arguments fit its generic parameters
abbrev pub fits_function : GenericArgs → Option FunctionRow → Bool
fits_function args None = false
fits_function args (Some row) = is_none_of row.sig.params && are_of_sorts row.generics args.0

abbrev pub fits_const : GenericArgs → Option ConstRow → Bool
fits_const args None = false
fits_const args (Some row) = are_of_sorts row.generics args.0

abbrev pub fits_static : GenericArgs → Option StaticRow → Bool
fits_static args None = false
fits_static args (Some row) = is_none_of args.0

-- a definition is a constant, a static or a function without parameters, and the arguments fit its generic parameters
abbrev pub fits : HirDatabase → DefWithBodyId → GenericArgs → Bool
fits world (def.FunctionId id) args = fits_function args (slice_get world.functions id.0)
fits world (def.StaticId id) args = fits_static args (slice_get world.statics id.0)
fits world (def.ConstId id) args = fits_const args (slice_get world.consts id.0)
fits world (def.VariantId id) args = false

-- a definition can be evaluated at arguments: they fit, and have no generic parameter and no error in them
abbrev pub is_valid : HirDatabase → DefWithBodyId → GenericArgs → Bool
is_valid world def args = fits world def args && are_args_settled args

-- A typed body is right by itself: its lists are short enough and all ids in it are in range, its `char` literals are Unicode scalar values, each node has a type,
-- its nodes are in order, its jumps name enclosing labels, and each `..` stands among the parts of its pattern or behind the last.
pub record IsBodyRight (world : HirDatabase) (body : Body) (infer : InferenceResult) : Type 0 where
  pub parts : (part : BodyPart) → is_part_right world body infer part ≡ true
  pub exprs : (e : ℕ) (node : Expr) → slice_get body.exprs e ≡ Some node → IsExprInOrder body e node
  pub pats : (p : ℕ) (node : Pat) → slice_get body.pats p ≡ Some node → IsPatInOrder body p node
  pub jumps : (e : ℕ) (node : Expr) → slice_get body.exprs e ≡ Some node → IsJumpInside body e node
  pub ellipses : (p : ℕ) (node : Pat) → slice_get body.pats p ≡ Some node → is_ellipsis_inside node ≡ true
