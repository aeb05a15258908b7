use Rattle.std.proofs.Common.{◌||◌, eqb, rules, tests}
use Rattle.std.proofs.lemmas.Bool.Decides.{Decides-at}
use Rattle.check_layouts.proofs.Sizing.{width_decides}
use Rattle.check_layouts.proofs.layouts.is_tag_size.Goals as goal

pub returns-then-size-eq8 : goal.returns-then-size-eq8
returns-then-size-eq8 c =
    let size = c.args.size in
    Decides-at _ (eqb size 1 || eqb size 2 || eqb size 4 || eqb size 8 || eqb size 16) (search (tests, rules)) (width_decides size)

pub returns-else-size-eq8 : goal.returns-else-size-eq8
returns-else-size-eq8 c =
    let size = c.args.size in
    Decides-at (eqb size 16) (eqb size 1 || eqb size 2 || eqb size 4 || eqb size 8 || eqb size 16) (search (tests, rules)) (width_decides size)
