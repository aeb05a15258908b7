use Rattle.mir_rows.proofs.Alignments.{has_alignments}
use Rattle.mir_eval.proofs.evaluator.Evaluator.new.Goals as goal

pub invariant_of-result-clause-aligned : goal.invariant_of-result-clause-aligned
invariant_of-result-clause-aligned g c = has_alignments c.args.db.now c.requires.checked
