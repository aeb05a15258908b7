use Rattle.mir_laws.proofs.Blocks.{questions_take_blocks}
use Rattle.mir_laws.proofs.questions_take_blocks.Goals as goal

pub returns : goal.returns
returns c = questions_take_blocks
