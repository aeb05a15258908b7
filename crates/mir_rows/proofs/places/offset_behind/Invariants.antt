use Rattle.std.proofs.Common.{◌≡◌, drop, Some}
use Rattle.std.specs.Prelude.{option_map}
use Rattle.std.specs.Option.{option_copied}
use Rattle.mir.specs.Places.{added, offset_behind}
use Rattle.mir_rows.specs.Places.{saturated}
use Rattle.mir_rows.proofs.places.offset_behind.Given as goal

-- the offset so far and that of the elements from here on are that of all
abbrev pub invariant-loop-elem : goal.invariant-loop-elem
invariant-loop-elem g l = record {
  sum : option_map saturated (added (Some l.offset) (offset_behind l.db (g.N.Numbers.held l.numbers) (drop l.elem-index l.elements) (option_copied l.seen))) ≡ option_map saturated (offset_behind l.db (g.N.Numbers.held l.numbers) l.elements (option_copied l.ty));
  small : saturated l.offset ≡ l.offset;
}
