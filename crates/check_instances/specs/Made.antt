-- Types and generic arguments without aliases, at generic arguments with the normalized types behind them, where they exist.
use Rattle.std.specs.Prelude.{[], unwrap_or}
use Rattle.std.specs.Cmp.{IsTotalOrder, on_total, then_total}
use Rattle.std.specs.Ordering.{ordering_then}
use Rattle.std.specs.declared.cmp.Ordering.{Ordering}
use Rattle.types.specs.Orders.{args_cmp, args_total, ty_cmp}
use Rattle.types.specs.contracts.ids.AliasIdOrd.TheImpl as AliasIdOrd
use Rattle.types.specs.contracts.ids.AliasIdOrd.TheImpl.Laws as ids
use Rattle.types.specs.contracts.ty.TyOrd.TheImpl.Laws as types
use Rattle.types.specs.declared.ids.AliasId.{AliasId}
use Rattle.types.specs.declared.ty.GenericArgs.{GenericArgs}
use Rattle.types.specs.declared.ty.Ty.{Ty}
use Rattle.types.specs.declared.ty.Ty.TheVariants as type
use Rattle.check_instances.specs.Comparisons.{args_at, ty_at}
use Rattle.check_instances.specs.Instances.{Normals}

-- a row of a normalized type
abbrev pub AliasRow : Type 0
AliasRow = AliasId × GenericArgs × Ty

-- the type, and any where there is none
abbrev pub ty_made : Normals → GenericArgs → Ty → Ty
ty_made normals args ty = unwrap_or (ty_at normals args ty) type.Error

-- the arguments, and none where there are none
abbrev pub args_made : Normals → GenericArgs → GenericArgs → GenericArgs
args_made normals args own = unwrap_or (args_at normals args own) (record { 0 = [] })

-- the order of an alias's keys
abbrev pub alias_cmp : AliasId × GenericArgs → AliasId × GenericArgs → Ordering
alias_cmp p q = ordering_then (AliasIdOrd.ghosts.cmp p.0 q.0) (args_cmp p.1 q.1)

pub ty_total : IsTotalOrder ty_cmp
ty_total = types.total-law

pub alias_total : IsTotalOrder alias_cmp
alias_total = then_total (on_total (λ p. p.0) ids.total-law) (on_total (λ p. p.1) args_total)
