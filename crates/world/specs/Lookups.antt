-- What the tables of the world hold at a name: the meaning of the look-ups.
use Rattle.std.specs.Prelude.{ℕ, Bool, List, Option, None, slice_get}
use Rattle.std.specs.List.{list_any}
use Rattle.std.specs.Option.{option_and_then, option_map}
use Rattle.std.specs.Ordering.{ordering_then}
use Rattle.types.specs.Orders.{ty_eq, ty_cmp, args_cmp}
use Rattle.types.specs.Places.{row_at}
use Rattle.types.specs.contracts.ids.AliasIdOrd.TheImpl as AliasIdOrd
use Rattle.types.specs.contracts.ids.ConstIdOrd.TheImpl as ConstIdOrd
use Rattle.types.specs.contracts.ids.FunctionIdOrd.TheImpl as FunctionIdOrd
use Rattle.types.specs.declared.ids.AliasId.{AliasId}
use Rattle.types.specs.declared.ids.ConstId.{ConstId as ConstName}
use Rattle.types.specs.declared.ids.Crate.{Crate}
use Rattle.types.specs.declared.ids.DefWithBodyId.{DefWithBodyId}
use Rattle.types.specs.declared.ids.DefWithBodyId.TheVariants.{FunctionId, StaticId, ConstId, VariantId}
use Rattle.types.specs.declared.ids.EnumId.{EnumId}
use Rattle.types.specs.declared.ids.FunctionId.{FunctionId as FunctionName}
use Rattle.types.specs.declared.ids.VariantId.{VariantId as VariantName}
use Rattle.types.specs.declared.ids.VariantId.TheVariants as variant
use Rattle.types.specs.declared.ty.GenericArgs.{GenericArgs}
use Rattle.types.specs.declared.ty.Ty.{Ty}
use Rattle.world.specs.declared.body.Body.{Body}
use Rattle.world.specs.declared.database.BodyRow.{BodyRow}
use Rattle.world.specs.declared.database.HirDatabase.{HirDatabase}
use Rattle.world.specs.declared.expr.Expr.{Expr}
use Rattle.world.specs.declared.impls.ConstImplRow.{ConstImplRow}
use Rattle.world.specs.declared.impls.ImplRow.{ImplRow}
use Rattle.world.specs.declared.infer.InferenceResult.{InferenceResult}
use Rattle.world.specs.declared.items.ConstRow.{ConstRow}
use Rattle.world.specs.declared.items.EnumRow.{EnumRow}
use Rattle.world.specs.declared.items.FieldRow.{FieldRow}
use Rattle.world.specs.declared.items.FunctionRow.{FunctionRow}
use Rattle.world.specs.declared.layout.Layout.{Layout}

abbrev pub function_row : HirDatabase → FunctionName → Option FunctionRow
function_row world id = slice_get world.functions id.0

abbrev pub enum_row : HirDatabase → EnumId → Option EnumRow
enum_row world id = slice_get world.enums id.0

-- the row of a constant
abbrev pub const_row : HirDatabase → DefWithBodyId → Option ConstRow
const_row world (ConstId id) = slice_get world.consts id.0
const_row world _ = None

-- the place of the body of what has one
abbrev pub body_place : HirDatabase → DefWithBodyId → Option ℕ
body_place world (FunctionId id) = option_and_then (λ row. row.body) (slice_get world.functions id.0)
body_place world (StaticId id) = option_and_then (λ row. row.body) (slice_get world.statics id.0)
body_place world (ConstId id) = option_and_then (λ row. row.body) (slice_get world.consts id.0)
body_place world (VariantId id) = option_and_then (λ row. row.body) (slice_get world.variants id.0)

-- the body of what has one, with what inference found of it
abbrev pub body_row : HirDatabase → DefWithBodyId → Option BodyRow
body_row world def = option_and_then (slice_get world.bodies) (body_place world def)

-- the crate of what can have a body
abbrev pub crate_of : HirDatabase → DefWithBodyId → Option Crate
crate_of world (FunctionId id) = option_map (λ row. row.krate) (slice_get world.functions id.0)
crate_of world (StaticId id) = option_map (λ row. row.krate) (slice_get world.statics id.0)
crate_of world (ConstId id) = option_map (λ row. row.krate) (slice_get world.consts id.0)
crate_of world (VariantId id) = option_map (λ row. row.krate) (slice_get world.variants id.0)

-- the fields of a variant, struct or union
abbrev pub fields_of : HirDatabase → VariantName → Option (List FieldRow)
fields_of world (variant.EnumVariantId id) = option_map (λ row. row.fields) (slice_get world.variants id.0)
fields_of world (variant.StructId id) = option_map (λ row. row.fields) (slice_get world.structs id.0)
fields_of world (variant.UnionId id) = option_map (λ row. row.fields) (slice_get world.unions id.0)

-- the layout of the first row whose type is equal
abbrev pub layout_of : HirDatabase → Ty → Option Layout
layout_of world ty = option_map (λ row. row.1) (row_at {R = Ty × Layout} (λ row. row.0) (ty_cmp ty) world.layouts)

-- the first row of an alias at equal arguments
abbrev pub normal_row : HirDatabase → AliasId → GenericArgs → Option (AliasId × GenericArgs × Ty)
normal_row world id args = row_at {K = AliasId × GenericArgs} (λ row. (row.0, row.1)) (λ key. ordering_then (AliasIdOrd.ghosts.cmp id key.0) (args_cmp args key.1)) world.normals

-- the first row of a trait's function at equal arguments
abbrev pub impl_row : HirDatabase → FunctionName → GenericArgs → Option ImplRow
impl_row world id args = row_at {K = FunctionName × GenericArgs} (λ row. (row.function, row.args)) (λ key. ordering_then (FunctionIdOrd.ghosts.cmp id key.0) (args_cmp args key.1)) world.impls

-- the first row of a trait's constant at equal arguments
abbrev pub const_impl_row : HirDatabase → ConstName → GenericArgs → Option ConstImplRow
const_impl_row world id args = row_at {K = ConstName × GenericArgs} (λ row. (row.konst, row.args)) (λ key. ordering_then (ConstIdOrd.ghosts.cmp id key.0) (args_cmp args key.1)) world.const_impls

-- the type of an expression
abbrev pub type_of : InferenceResult → ℕ → Option Ty
type_of infer e = slice_get infer.expr_types e

-- an expression of a body
abbrev pub expr_of : Body → ℕ → Option Expr
expr_of body e = slice_get body.exprs e

-- whether a type of the body is `Copy`
abbrev pub is_copy : InferenceResult → Ty → Bool
is_copy infer ty = list_any (ty_eq ty) infer.copy_types
