use Rattle.json_kit.proofs.Members.{found_key}
use Rattle.json_kit.proofs.keys.unknown_key.Goals as goal

pub returns : goal.returns
returns c = found_key c.other_key.result c.args.names.now c.args.members.now.entries c.other_key.ensures
