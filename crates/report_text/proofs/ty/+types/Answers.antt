use Rattle.std.proofs.Common.{◌∙◌, sym, ap, map}
use Rattle.std.proofs.lemmas.List.{take_all}
use Rattle.report_text.specs.Types.{arg_text}
use Rattle.report_text.proofs.Layers.{args_are}
use Rattle.report_text.proofs.ty.+types.Goals as goal

pub args_texts-returns : goal.args_texts-returns
args_texts-returns t c =
    let all = take_all _ _ c.loop-arg-test.false ∙ c.as_slice-items.ensures in
    c.loop-arg.invariant ∙ ap (map (arg_text c.args.db.now)) all ∙ sym (args_are c.args.db.now c.args.args.now)
