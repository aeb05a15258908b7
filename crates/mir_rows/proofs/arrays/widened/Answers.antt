use Rattle.std.proofs.Common.{◌<◌, ◌^◌, Some, sym, ap, ◌∙◌, rules}
use Rattle.std.specs.Prelude.{option_map}
use Rattle.mir_rows.specs.Places.{saturated}
use Rattle.mir_rows.proofs.Walks.{saturated-small}
use Rattle.mir_rows.proofs.arrays.widened.Goals as goal

pub returns-in-Some : goal.returns-in-Some
returns-in-Some c =
    let fits : c.in-Some.offset < 2 ^ 64 = search rules in
    ap Some (sym (saturated-small c.in-Some.offset fits)) ∙ ap (option_map saturated) (sym c.in-Some.is)
