use Rattle.std.proofs.Common.{◌≡◌, ◌<◌, ◌^◌, Some, ap, ◌∙◌, arith, rules}
use Rattle.std.specs.Option.{option_copied}
use Rattle.mir.specs.Places.{offset_behind}
use Rattle.mir_rows.proofs.Spotted.{no-numbers, part}
use Rattle.mir_rows.proofs.Walks.{meant-of, saturated-is}
use Rattle.mir_rows.proofs.spots.spot_behind.Goals as goal

pub returns-in_ok-ok-in-Some : goal.returns-in_ok-ok-in-Some
returns-in_ok-ok-in-Some c =
    let found = offset_behind c.args.db.now no-numbers c.args.elements.now (option_copied c.args.ty) in
    let offset = c.in_ok-ok-in-Some.field-0 in
    let same : c.in-Some.offset ≡ offset = search rules in
    let small : c.in-Some.offset < 2 ^ 64 = first_of (omega arith, search rules) in
    let meant = meant-of found c.in-Some.offset c.in-Some.ensures in
    part c.args.db.now c.args.local c.args.elements.now (option_copied c.args.ty) c.args.size offset (meant.1 ∙ ap Some (saturated-is meant.0 c.in-Some.offset meant.2 small ∙ same))
