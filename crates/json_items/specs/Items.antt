-- Readers of rows of items.
use Rattle.std.specs.Prelude.{[], ◌∷◌, Option, None, codes, false}
use Rattle.serde_json.specs.Data.{Data}
use Rattle.world.specs.declared.items.ConstParamRow.{ConstParamRow}
use Rattle.world.specs.declared.items.ConstRow.{ConstRow}
use Rattle.world.specs.declared.items.CrateRow.{CrateRow}
use Rattle.world.specs.declared.items.EnumRow.{EnumRow}
use Rattle.world.specs.declared.items.FieldRow.{FieldRow}
use Rattle.world.specs.declared.items.FieldsShape.TheVariants as the_fields_shape
use Rattle.world.specs.declared.items.FieldsShape.{FieldsShape}
use Rattle.world.specs.declared.items.FnSig.{FnSig}
use Rattle.world.specs.declared.items.FunctionRow.{FunctionRow}
use Rattle.world.specs.declared.items.Special.TheVariants as the_special
use Rattle.world.specs.declared.items.Special.{Special}
use Rattle.world.specs.declared.items.StaticRow.{StaticRow}
use Rattle.world.specs.declared.items.StructRow.{StructRow}
use Rattle.world.specs.declared.items.VariantRow.{VariantRow}
use Rattle.json_kit.specs.Fit.{Fit, ◌>>=◌}
use Rattle.json_types.specs.Ids.{crate_of, enum_id_of, enum_variant_id_of, generic_param_id_of, trait_id_of}
use Rattle.json_kit.specs.Keys.{members_of, optional, required, with_no_other}
use Rattle.json_kit.specs.Parts.{list_of, option_of}
use Rattle.json_kit.specs.Scalars.{bool_of, text_of, u32_of, u64_of}
use Rattle.json_types.specs.Types.{ty_of}
use Rattle.json_kit.specs.Variants.{Named, enum_of, first_of, payload, unit}

unfoldable pub crate_row_of : Data → Fit CrateRow
crate_row_of d = do
  ms ← members_of d
  pointer_bytes ← optional None (codes "pointer_bytes") (option_of u64_of) d
  with_no_other (codes "pointer_bytes" ∷ []) ms (record { pointer_bytes = pointer_bytes })

unfoldable pub fn_sig_of : Data → Fit FnSig
fn_sig_of d = do
  ms ← members_of d
  params ← optional [] (codes "params") (list_of ty_of) d
  ret ← required (codes "ret") ty_of d
  with_no_other (codes "params" ∷ codes "ret" ∷ []) ms (record { params = params; ret = ret })

unfoldable pub number_special_of : Named → Fit (Option Special)
number_special_of = first_of (unit (codes "SizeOf") the_special.SizeOf ∷ unit (codes "Transmute") the_special.Transmute ∷ unit (codes "WrappingAdd") the_special.WrappingAdd ∷ unit (codes "AddWithOverflow") the_special.AddWithOverflow ∷ unit (codes "SaturatingAdd") the_special.SaturatingAdd ∷ unit (codes "SaturatingSub") the_special.SaturatingSub ∷ [])

unfoldable pub memory_special_of : Named → Fit (Option Special)
memory_special_of = first_of (unit (codes "CopyNonoverlapping") the_special.CopyNonoverlapping ∷ unit (codes "WriteBytes") the_special.WriteBytes ∷ unit (codes "Memcmp") the_special.Memcmp ∷ unit (codes "SliceLen") the_special.SliceLen ∷ unit (codes "Write") the_special.Write ∷ [])

unfoldable pub other_special_of : Named → Fit (Option Special)
other_special_of = first_of (unit (codes "Panic") the_special.Panic ∷ payload (codes "Other") text_of the_special.Other ∷ [])

unfoldable pub special_of : Data → Fit Special
special_of = enum_of (number_special_of ∷ memory_special_of ∷ other_special_of ∷ [])

unfoldable pub function_row_of : Data → Fit FunctionRow
function_row_of d = do
  ms ← members_of d
  name ← required (codes "name") text_of d
  krate ← required (codes "krate") crate_of d
  in_trait ← optional None (codes "in_trait") (option_of trait_id_of) d
  generics ← optional [] (codes "generics") (list_of generic_param_id_of) d
  sig ← required (codes "sig") fn_sig_of d
  special ← optional None (codes "special") (option_of special_of) d
  body ← optional None (codes "body") (option_of u32_of) d
  with_no_other (codes "name" ∷ codes "krate" ∷ codes "in_trait" ∷ codes "generics" ∷ codes "sig" ∷ codes "special" ∷ codes "body" ∷ []) ms (record { name = name; krate = krate; in_trait = in_trait; generics = generics; sig = sig; special = special; body = body })

unfoldable pub const_row_of : Data → Fit ConstRow
const_row_of d = do
  ms ← members_of d
  name ← optional None (codes "name") (option_of text_of) d
  krate ← required (codes "krate") crate_of d
  generics ← optional [] (codes "generics") (list_of generic_param_id_of) d
  ty ← required (codes "ty") ty_of d
  body ← optional None (codes "body") (option_of u32_of) d
  with_no_other (codes "name" ∷ codes "krate" ∷ codes "generics" ∷ codes "ty" ∷ codes "body" ∷ []) ms (record { name = name; krate = krate; generics = generics; ty = ty; body = body })

unfoldable pub static_row_of : Data → Fit StaticRow
static_row_of d = do
  ms ← members_of d
  name ← required (codes "name") text_of d
  krate ← required (codes "krate") crate_of d
  ty ← required (codes "ty") ty_of d
  is_extern ← optional false (codes "is_extern") bool_of d
  body ← optional None (codes "body") (option_of u32_of) d
  with_no_other (codes "name" ∷ codes "krate" ∷ codes "ty" ∷ codes "is_extern" ∷ codes "body" ∷ []) ms (record { name = name; krate = krate; ty = ty; is_extern = is_extern; body = body })

unfoldable pub field_row_of : Data → Fit FieldRow
field_row_of d = do
  ms ← members_of d
  name ← required (codes "name") text_of d
  ty ← required (codes "ty") ty_of d
  with_no_other (codes "name" ∷ codes "ty" ∷ []) ms (record { name = name; ty = ty })

unfoldable pub fields_shape_of : Data → Fit FieldsShape
fields_shape_of = enum_of (unit (codes "Record") the_fields_shape.Record ∷ unit (codes "Tuple") the_fields_shape.Tuple ∷ unit (codes "Unit") the_fields_shape.Unit ∷ [])

unfoldable pub struct_row_of : Data → Fit StructRow
struct_row_of d = do
  ms ← members_of d
  name ← required (codes "name") text_of d
  fields ← optional [] (codes "fields") (list_of field_row_of) d
  shape ← required (codes "shape") fields_shape_of d
  manually_drop ← optional false (codes "manually_drop") bool_of d
  is_box ← optional false (codes "is_box") bool_of d
  with_no_other (codes "name" ∷ codes "fields" ∷ codes "shape" ∷ codes "manually_drop" ∷ codes "is_box" ∷ []) ms (record { name = name; fields = fields; shape = shape; manually_drop = manually_drop; is_box = is_box })

unfoldable pub enum_row_of : Data → Fit EnumRow
enum_row_of d = do
  ms ← members_of d
  name ← required (codes "name") text_of d
  repr_signed ← optional None (codes "repr_signed") (option_of bool_of) d
  variants ← optional [] (codes "variants") (list_of enum_variant_id_of) d
  with_no_other (codes "name" ∷ codes "repr_signed" ∷ codes "variants" ∷ []) ms (record { name = name; repr_signed = repr_signed; variants = variants })

unfoldable pub variant_row_of : Data → Fit VariantRow
variant_row_of d = do
  ms ← members_of d
  name ← required (codes "name") text_of d
  krate ← required (codes "krate") crate_of d
  parent ← required (codes "parent") enum_id_of d
  index ← required (codes "index") u32_of d
  fields ← optional [] (codes "fields") (list_of field_row_of) d
  shape ← required (codes "shape") fields_shape_of d
  body ← optional None (codes "body") (option_of u32_of) d
  with_no_other (codes "name" ∷ codes "krate" ∷ codes "parent" ∷ codes "index" ∷ codes "fields" ∷ codes "shape" ∷ codes "body" ∷ []) ms (record { name = name; krate = krate; parent = parent; index = index; fields = fields; shape = shape; body = body })

unfoldable pub const_param_row_of : Data → Fit ConstParamRow
const_param_row_of d = do
  ms ← members_of d
  name ← required (codes "name") text_of d
  ty ← required (codes "ty") ty_of d
  with_no_other (codes "name" ∷ codes "ty" ∷ []) ms (record { name = name; ty = ty })
