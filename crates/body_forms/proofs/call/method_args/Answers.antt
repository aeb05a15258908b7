use Rattle.std.proofs.Common.{◌∷◌, ◌++◌, List, [], get_or, sym, ap, ◌∙◌}
use Rattle.std.proofs.lemmas.List.{take_all, take_more}
use Rattle.types.specs.declared.ids.ExprId.{ExprId}
use Rattle.body_forms.proofs.call.method_args.Goals as goal

pub loop-arg-init : goal.loop-arg-init
loop-arg-init c = c.in_ok-push.ensures.ok ∙ ap (λ (before : List ExprId). before ++ c.args.receiver ∷ []) c.new-all.ensures

pub loop-arg-preserved : goal.loop-arg-preserved
loop-arg-preserved c =
    let i = c.loop-arg.arg-index in
    c.in_ok-push-2.ensures.ok ∙ ap (λ (before : List ExprId). before ++ get_or c.args.args.now i (record { 0 = 0 }) ∷ []) c.loop-arg.invariant
    ∙ ap (λ (rest : List ExprId). c.args.receiver ∷ rest) (sym (take_more c.args.args.now i (record { 0 = 0 }) c.loop-arg-test.true))

pub returns : goal.returns
returns c = c.loop-arg.invariant ∙ ap (λ (rest : List ExprId). c.args.receiver ∷ rest) (take_all c.loop-arg.arg-index c.args.args.now c.loop-arg-test.false)
