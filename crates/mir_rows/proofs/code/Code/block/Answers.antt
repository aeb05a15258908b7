use Rattle.std.proofs.Common.{◌≡◌, List, None, slice_get, subst}
use Rattle.std.specs.Prelude.{IfNone, IfSome}
use Rattle.std.specs.Slice.{IsItemAt}
use Rattle.mir_rows.specs.declared.row.BlockRows.{BlockRows}
use Rattle.mir_rows.specs.Rows.{HasRows}
use Rattle.mir_rows.specs.Spots.{Prepared, prepared}
use Rattle.mir_rows.proofs.Rows.{none-found, rows-found}
use Rattle.mir_rows.proofs.code.Code.block.Goals as goal

pub returns-clause-found : goal.returns-clause-found
returns-clause-found c =
    let at = subst (λ (all : List BlockRows). IsItemAt all c.args.block.0 c.get.result) c.deref.ensures.value c.get.ensures.lookup in
    subst (λ (code : Prepared). IfSome c.get.result (λ rows. HasRows code c.args.block.0 rows.now)) c.self.view_is
    (rows-found (prepared c.self.inside.db.now c.self.inside.body.value) c.self.inside.blocks.items c.args.block.0 c.get.result at c.self.invariant)

pub returns-clause-none : goal.returns-clause-none
returns-clause-none c =
    let at = subst (λ (all : List BlockRows). IsItemAt all c.args.block.0 c.get.result) c.deref.ensures.value c.get.ensures.lookup in
    subst (λ (code : Prepared). IfNone c.get.result (slice_get code.body.basic_blocks c.args.block.0 ≡ None)) c.self.view_is
    (none-found (prepared c.self.inside.db.now c.self.inside.body.value) c.self.inside.blocks.items c.args.block.0 c.get.result at c.self.invariant)
