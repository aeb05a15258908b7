use Rattle.std.proofs.Common.{None, sym, lit<}
use Rattle.std.proofs.lemmas.Str.Pattern.{strip_prefix_char}
use Rattle.world_json.proofs.Root.{no_dot}
use Rattle.world_json.proofs.input.without_dot.Goals as goal

pub returns-in-None : goal.returns-in-None
returns-in-None c = sym (no_dot c.args.path.now (strip_prefix_char 46 c.args.path.now None c.in-None.ensures.cases (lit< tt)))
