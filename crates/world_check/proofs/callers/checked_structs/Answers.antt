use Rattle.std.proofs.Common.{refl}
use Rattle.types.specs.declared.ids.AdtId.TheVariants as adt
use Rattle.types.specs.declared.ty.Ty.{Adt}
use Rattle.world_check.proofs.Laid.{laid_out}
use Rattle.world_check.proofs.TypeIds.{ids_known}
use Rattle.world_check.proofs.callers.checked_structs.Goals as goal

pub returns-clause-fields : goal.returns-clause-fields
returns-clause-fields c id args layout rows k field e found at = (laid_out _ c.db.ensures.holds (Adt (adt.StructId id) args) layout e).0.known (adt.StructId id) args 0 k rows field refl found at

pub returns-clause-ids : goal.returns-clause-ids
returns-clause-ids c = ids_known _ c.db.ensures.holds
