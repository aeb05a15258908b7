use Rattle.std.proofs.Common.{◌∙◌, length, sym}
use Rattle.check_trees.specs.declared.node.BodyNode.TheVariants.{Expr}
use Rattle.check_trees.proofs.Enclosures.{enclosed_end, enclosed_here, enclosed_more, enclosed_none, enclosed_top, left_start}
use Rattle.check_trees.proofs.Parents.{below_is, kept_inside}
use Rattle.check_trees.proofs.jumps.is_enclosed.Goals as goal

pub returns-then-is_top : goal.returns-then-is_top
returns-then-is_top c =
    enclosed_top c.args.body.now c.args.label c.loop-step.step (Expr c.args.e) c.loop-step.node (sym c.is_top.ensures ∙ c.if-is_top.true) c.loop-step.invariant.1

pub returns-in_default : goal.returns-in_default
returns-in_default c =
    enclosed_none c.args.body.now c.args.label c.loop-step.step (Expr c.args.e) c.loop-step.node c.holder.result (c.holder.ensures ∙ c.requires.holders c.loop-step.node c.loop-step.invariant.0) c.in_default.is c.loop-step.invariant.1

pub returns-then-is_labelled : goal.returns-then-is_labelled
returns-then-is_labelled c =
    enclosed_here c.args.body.now c.args.label c.loop-step.step (Expr c.args.e) c.loop-step.node c.in-Some.holder c.holder.result c.loop-step-test.true (sym c.is_top.ensures ∙ c.if-is_top.false) (c.holder.ensures ∙ c.requires.holders c.loop-step.node c.loop-step.invariant.0) c.in-Some.is (sym c.is_labelled.ensures ∙ c.if-is_labelled.true) c.loop-step.invariant.1

pub loop-step-preserved : goal.loop-step-preserved
loop-step-preserved c = (
  kept_inside c.args.body.now c.loop-step.node c.in-Some.holder c.holder.result (c.holder.ensures ∙ c.requires.holders c.loop-step.node c.loop-step.invariant.0) c.in-Some.is,
  enclosed_more c.args.body.now c.args.label c.loop-step.step (Expr c.args.e) c.loop-step.node c.in-Some.holder c.holder.result (sym c.is_top.ensures ∙ c.if-is_top.false) (c.holder.ensures ∙ c.requires.holders c.loop-step.node c.loop-step.invariant.0) c.in-Some.is (sym c.is_labelled.ensures ∙ c.if-is_labelled.false) c.loop-step.invariant.1,
)

pub returns : goal.returns
returns c = enclosed_end c.args.body.now c.args.label c.loop-step.step (Expr c.args.e) c.loop-step.node c.loop-step-test.false c.loop-step.invariant.1

pub loop-step-init : goal.loop-step-init
loop-step-init c = (below_is c.args.e (length c.args.body.now.exprs) c.requires.there, left_start c.args.body.now c.args.label (Expr c.args.e))
