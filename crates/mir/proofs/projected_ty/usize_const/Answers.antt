use Rattle.std.proofs.Common.{◌∙◌, ℕ, List, ap, lit≤, take}
use Rattle.numbers.proofs.Keeping.{take-le_bytes}
use Rattle.types.specs.declared.scalars.UintTy.TheVariants.{Usize}
use Rattle.types.specs.declared.ty.Const.{Const}
use Rattle.types.specs.declared.ty.Const.TheVariants as constant
use Rattle.types.specs.declared.ty.MemoryMap.TheVariants as map
use Rattle.types.specs.declared.ty.Ty.TheVariants as type
use Rattle.mir.proofs.projected_ty.usize_const.Goals as goal

abbrev of_bytes : List ℕ → Const
of_bytes bytes = constant.Value (record { ty = type.Uint Usize; memory = bytes; memory_map = map.Empty })

pub returns : goal.returns
returns c = ap of_bytes (c.in_ok-memory.ensures ∙ ap (take 8) c.to_le_bytes-bytes.ensures ∙ take-le_bytes 8 c.args.number (lit≤ tt))
