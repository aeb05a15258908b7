use Rattle.source_meaning.proofs.Marks.{scopes_nest}
use Rattle.source_meaning.proofs.scopes_nest.Goals as goal

pub returns : goal.returns
returns c = scopes_nest
