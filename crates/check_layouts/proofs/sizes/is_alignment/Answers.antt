use Rattle.std.proofs.Common.{eqb, rules, tests}
use Rattle.std.proofs.lemmas.Bool.Decides.{Decides-at}
use Rattle.std.proofs.lemmas.Iterator.{YieldsList-from_slice}
use Rattle.std.proofs.lemmas.Iterator.Search.{any_from_yields_List}
use Rattle.check_layouts.proofs.Sizing.{alignment_decides, alignments}
use Rattle.check_layouts.proofs.sizes.is_alignment.Goals as goal

pub returns : goal.returns
returns c =
    let by_call = any_from_yields_List (λ power. eqb power c.args.align) _ _ c.any.result c.any.ensures.ran (YieldsList-from_slice alignments cc) (λ x b q k. search (rules, tests)) in
    Decides-at c.any.result _ by_call (alignment_decides c.args.align)
