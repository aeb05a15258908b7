-- Readers of integer and float types, mutabilities, and generic parameters.
use Rattle.std.specs.Prelude.{[], ◌∷◌, codes}
use Rattle.serde_json.specs.Data.{Data}
use Rattle.types.specs.declared.scalars.FloatTy.TheVariants as the_float_ty
use Rattle.types.specs.declared.scalars.FloatTy.{FloatTy}
use Rattle.types.specs.declared.scalars.IntTy.TheVariants as the_int_ty
use Rattle.types.specs.declared.scalars.IntTy.{IntTy}
use Rattle.types.specs.declared.scalars.Mutability.TheVariants as the_mutability
use Rattle.types.specs.declared.scalars.Mutability.{Mutability}
use Rattle.types.specs.declared.scalars.UintTy.TheVariants as the_uint_ty
use Rattle.types.specs.declared.scalars.UintTy.{UintTy}
use Rattle.types.specs.declared.ty.ParamConst.{ParamConst}
use Rattle.types.specs.declared.ty.ParamTy.{ParamTy}
use Rattle.json_kit.specs.Fit.{Fit, ◌>>=◌}
use Rattle.json_types.specs.Ids.{const_param_id_of, type_param_id_of}
use Rattle.json_kit.specs.Keys.{members_of, required, with_no_other}
use Rattle.json_kit.specs.Scalars.{u32_of}
use Rattle.json_kit.specs.Variants.{enum_of, unit}

unfoldable pub int_ty_of : Data → Fit IntTy
int_ty_of = enum_of (unit (codes "I8") the_int_ty.I8 ∷ unit (codes "I16") the_int_ty.I16 ∷ unit (codes "I32") the_int_ty.I32 ∷ unit (codes "I64") the_int_ty.I64 ∷ unit (codes "I128") the_int_ty.I128 ∷ unit (codes "Isize") the_int_ty.Isize ∷ [])

unfoldable pub uint_ty_of : Data → Fit UintTy
uint_ty_of = enum_of (unit (codes "U8") the_uint_ty.U8 ∷ unit (codes "U16") the_uint_ty.U16 ∷ unit (codes "U32") the_uint_ty.U32 ∷ unit (codes "U64") the_uint_ty.U64 ∷ unit (codes "U128") the_uint_ty.U128 ∷ unit (codes "Usize") the_uint_ty.Usize ∷ [])

unfoldable pub float_ty_of : Data → Fit FloatTy
float_ty_of = enum_of (unit (codes "F16") the_float_ty.F16 ∷ unit (codes "F32") the_float_ty.F32 ∷ unit (codes "F64") the_float_ty.F64 ∷ unit (codes "F128") the_float_ty.F128 ∷ [])

unfoldable pub mutability_of : Data → Fit Mutability
mutability_of = enum_of (unit (codes "Not") the_mutability.Not ∷ unit (codes "Mut") the_mutability.Mut ∷ [])

unfoldable pub param_ty_of : Data → Fit ParamTy
param_ty_of d = do
  ms ← members_of d
  id ← required (codes "id") type_param_id_of d
  index ← required (codes "index") u32_of d
  with_no_other (codes "id" ∷ codes "index" ∷ []) ms (record { id = id; index = index })

unfoldable pub param_const_of : Data → Fit ParamConst
param_const_of d = do
  ms ← members_of d
  id ← required (codes "id") const_param_id_of d
  index ← required (codes "index") u32_of d
  with_no_other (codes "id" ∷ codes "index" ∷ []) ms (record { id = id; index = index })
