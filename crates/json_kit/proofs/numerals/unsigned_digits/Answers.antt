use Rattle.json_kit.proofs.Digits.{unsigned_is}
use Rattle.json_kit.proofs.numerals.unsigned_digits.Goals as goal

pub returns : goal.returns
returns c = unsigned_is c.args.text.now c.parse.result c.ok.result c.parse.ensures.value.0 c.requires c.ok.ensures.value
