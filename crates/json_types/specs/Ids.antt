-- Readers of ids of items and of nodes, which are numbers.
use Rattle.std.specs.Prelude.{[], ◌∷◌, Ok, codes}
use Rattle.serde_json.specs.Data.{Data}
use Rattle.types.specs.declared.ids.AdtId.TheVariants as the_adt_id
use Rattle.types.specs.declared.ids.AdtId.{AdtId}
use Rattle.types.specs.declared.ids.AliasId.{AliasId}
use Rattle.types.specs.declared.ids.BindingId.{BindingId}
use Rattle.types.specs.declared.ids.CallableDefId.TheVariants as the_callable_def_id
use Rattle.types.specs.declared.ids.CallableDefId.{CallableDefId}
use Rattle.types.specs.declared.ids.ConstId.{ConstId}
use Rattle.types.specs.declared.ids.ConstParamId.{ConstParamId}
use Rattle.types.specs.declared.ids.Crate.{Crate}
use Rattle.types.specs.declared.ids.DefWithBodyId.TheVariants as the_def_with_body_id
use Rattle.types.specs.declared.ids.DefWithBodyId.{DefWithBodyId}
use Rattle.types.specs.declared.ids.EnumId.{EnumId}
use Rattle.types.specs.declared.ids.EnumVariantId.{EnumVariantId}
use Rattle.types.specs.declared.ids.ExprId.{ExprId}
use Rattle.types.specs.declared.ids.FieldId.{FieldId}
use Rattle.types.specs.declared.ids.FunctionId.{FunctionId}
use Rattle.types.specs.declared.ids.GeneralConstId.TheVariants as the_general_const_id
use Rattle.types.specs.declared.ids.GeneralConstId.{GeneralConstId}
use Rattle.types.specs.declared.ids.GenericParamId.TheVariants as the_generic_param_id
use Rattle.types.specs.declared.ids.GenericParamId.{GenericParamId}
use Rattle.types.specs.declared.ids.InternedClosureId.{InternedClosureId}
use Rattle.types.specs.declared.ids.LabelId.{LabelId}
use Rattle.types.specs.declared.ids.PatId.{PatId}
use Rattle.types.specs.declared.ids.StaticId.{StaticId}
use Rattle.types.specs.declared.ids.StructId.{StructId}
use Rattle.types.specs.declared.ids.TraitId.{TraitId}
use Rattle.types.specs.declared.ids.TupleFieldId.{TupleFieldId}
use Rattle.types.specs.declared.ids.TypeParamId.{TypeParamId}
use Rattle.types.specs.declared.ids.UnionId.{UnionId}
use Rattle.types.specs.declared.ids.VariantId.TheVariants as the_variant_id
use Rattle.types.specs.declared.ids.VariantId.{VariantId}
use Rattle.json_kit.specs.Fit.{Fit, ◌>>=◌}
use Rattle.json_kit.specs.Keys.{members_of, required, with_no_other}
use Rattle.json_kit.specs.Scalars.{u32_of}
use Rattle.json_kit.specs.Variants.{enum_of, payload}

abbrev pub crate_of : Data → Fit Crate
crate_of d = u32_of d >>= λ n. Ok (record { 0 = n })

abbrev pub function_id_of : Data → Fit FunctionId
function_id_of d = u32_of d >>= λ n. Ok (record { 0 = n })

abbrev pub const_id_of : Data → Fit ConstId
const_id_of d = u32_of d >>= λ n. Ok (record { 0 = n })

abbrev pub static_id_of : Data → Fit StaticId
static_id_of d = u32_of d >>= λ n. Ok (record { 0 = n })

abbrev pub struct_id_of : Data → Fit StructId
struct_id_of d = u32_of d >>= λ n. Ok (record { 0 = n })

abbrev pub union_id_of : Data → Fit UnionId
union_id_of d = u32_of d >>= λ n. Ok (record { 0 = n })

abbrev pub enum_id_of : Data → Fit EnumId
enum_id_of d = u32_of d >>= λ n. Ok (record { 0 = n })

abbrev pub enum_variant_id_of : Data → Fit EnumVariantId
enum_variant_id_of d = u32_of d >>= λ n. Ok (record { 0 = n })

abbrev pub trait_id_of : Data → Fit TraitId
trait_id_of d = u32_of d >>= λ n. Ok (record { 0 = n })

abbrev pub alias_id_of : Data → Fit AliasId
alias_id_of d = u32_of d >>= λ n. Ok (record { 0 = n })

abbrev pub type_param_id_of : Data → Fit TypeParamId
type_param_id_of d = u32_of d >>= λ n. Ok (record { 0 = n })

abbrev pub const_param_id_of : Data → Fit ConstParamId
const_param_id_of d = u32_of d >>= λ n. Ok (record { 0 = n })

abbrev pub interned_closure_id_of : Data → Fit InternedClosureId
interned_closure_id_of d = u32_of d >>= λ n. Ok (record { 0 = n })

abbrev pub expr_id_of : Data → Fit ExprId
expr_id_of d = u32_of d >>= λ n. Ok (record { 0 = n })

abbrev pub pat_id_of : Data → Fit PatId
pat_id_of d = u32_of d >>= λ n. Ok (record { 0 = n })

abbrev pub binding_id_of : Data → Fit BindingId
binding_id_of d = u32_of d >>= λ n. Ok (record { 0 = n })

abbrev pub label_id_of : Data → Fit LabelId
label_id_of d = u32_of d >>= λ n. Ok (record { 0 = n })

unfoldable pub adt_id_of : Data → Fit AdtId
adt_id_of = enum_of (payload (codes "StructId") struct_id_of the_adt_id.StructId ∷ payload (codes "UnionId") union_id_of the_adt_id.UnionId ∷ payload (codes "EnumId") enum_id_of the_adt_id.EnumId ∷ [])

unfoldable pub variant_id_of : Data → Fit VariantId
variant_id_of = enum_of (payload (codes "EnumVariantId") enum_variant_id_of the_variant_id.EnumVariantId ∷ payload (codes "StructId") struct_id_of the_variant_id.StructId ∷ payload (codes "UnionId") union_id_of the_variant_id.UnionId ∷ [])

unfoldable pub callable_def_id_of : Data → Fit CallableDefId
callable_def_id_of = enum_of (payload (codes "FunctionId") function_id_of the_callable_def_id.FunctionId ∷ payload (codes "StructId") struct_id_of the_callable_def_id.StructId ∷ payload (codes "EnumVariantId") enum_variant_id_of the_callable_def_id.EnumVariantId ∷ [])

unfoldable pub def_with_body_id_of : Data → Fit DefWithBodyId
def_with_body_id_of = enum_of (payload (codes "FunctionId") function_id_of the_def_with_body_id.FunctionId ∷ payload (codes "StaticId") static_id_of the_def_with_body_id.StaticId ∷ payload (codes "ConstId") const_id_of the_def_with_body_id.ConstId ∷ payload (codes "VariantId") enum_variant_id_of the_def_with_body_id.VariantId ∷ [])

unfoldable pub generic_param_id_of : Data → Fit GenericParamId
generic_param_id_of = enum_of (payload (codes "TypeParamId") type_param_id_of the_generic_param_id.TypeParamId ∷ payload (codes "ConstParamId") const_param_id_of the_generic_param_id.ConstParamId ∷ [])

unfoldable pub general_const_id_of : Data → Fit GeneralConstId
general_const_id_of = enum_of (payload (codes "ConstId") const_id_of the_general_const_id.ConstId ∷ payload (codes "StaticId") static_id_of the_general_const_id.StaticId ∷ [])

unfoldable pub field_id_of : Data → Fit FieldId
field_id_of d = do
  ms ← members_of d
  parent ← required (codes "parent") variant_id_of d
  local_id ← required (codes "local_id") u32_of d
  with_no_other (codes "parent" ∷ codes "local_id" ∷ []) ms (record { parent = parent; local_id = local_id })

unfoldable pub tuple_field_id_of : Data → Fit TupleFieldId
tuple_field_id_of d = do
  ms ← members_of d
  tuple ← required (codes "tuple") u32_of d
  index ← required (codes "index") u32_of d
  with_no_other (codes "tuple" ∷ codes "index" ∷ []) ms (record { tuple = tuple; index = index })
