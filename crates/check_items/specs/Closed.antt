-- Normalized types, and generic arguments of resolved impl items, without an alias or a generic parameter in them.
use Rattle.std.specs.Prelude.{◌&&◌, Bool}
use Rattle.types.specs.declared.ids.AliasId.{AliasId}
use Rattle.types.specs.declared.ty.GenericArgs.{GenericArgs}
use Rattle.types.specs.declared.ty.Ty.{Ty}
use Rattle.world.specs.declared.impls.ConstImplRow.{ConstImplRow}
use Rattle.world.specs.declared.impls.ImplRow.{ImplRow}
use Rattle.check_names.specs.Known.{are_args_closed, is_ty_closed}

abbrev pub is_normal_closed : AliasId × GenericArgs × Ty → Bool
is_normal_closed row = is_ty_closed row.2

abbrev pub is_impl_closed : ImplRow → Bool
is_impl_closed row = are_args_closed row.args && are_args_closed row.target_args

abbrev pub is_const_impl_closed : ConstImplRow → Bool
is_const_impl_closed row = are_args_closed row.args && are_args_closed row.target_args
