use Rattle.std.proofs.Common.{sym, ◌∙◌}
use Rattle.mir_rows.proofs.Outside.{out-behind, out-here, out-last}
use Rattle.mir_rows.proofs.bounds.some_out.Goals as goal

pub returns-then-operand_out : goal.returns-then-operand_out
returns-then-operand_out g c =
    let at = c.loop-operand in
    sym (out-here c.args.db.now c.args.body.now (g.N.Numbers.held c.args.numbers.now) c.args.operands.now at.operand-index c.operand-item.result c.loop-operand-test.true c.operand-item.is (sym c.operand_out.ensures ∙ c.if-operand_out.true))
    ∙ at.invariant

pub loop-operand-preserved : goal.loop-operand-preserved
loop-operand-preserved g c =
    let at = c.loop-operand in
    sym (out-behind c.args.db.now c.args.body.now (g.N.Numbers.held c.args.numbers.now) c.args.operands.now at.operand-index c.operand-item.result c.loop-operand-test.true c.operand-item.is (sym c.operand_out.ensures ∙ c.if-operand_out.false))
    ∙ at.invariant

pub returns : goal.returns
returns g c =
    let at = c.loop-operand in
    sym (out-last c.args.db.now c.args.body.now (g.N.Numbers.held c.args.numbers.now) c.args.operands.now at.operand-index c.loop-operand-test.false) ∙ at.invariant
