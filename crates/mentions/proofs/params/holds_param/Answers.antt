-- A parameter is held where not everything that is mentioned is none.
use Rattle.std.proofs.Common.{◌∙◌, ap}
use Rattle.std.specs.Prelude.{not}
use Rattle.mentions.specs.Mentions.{holds_param, is_param, ty_mentions}
use Rattle.mentions.proofs.Mentions.{some_but_none}
use Rattle.mentions.proofs.params.holds_param.Goals as goal

pub returns : goal.returns
unfolding holds_param
returns c = ap not c.all_in_ty.ensures ∙ some_but_none is_param (ty_mentions c.args.ty.now)
