use Rattle.json_kit.proofs.Digits.{negative_is}
use Rattle.json_kit.proofs.numerals.negative_digits.Goals as goal

pub returns : goal.returns
returns c = negative_is c.args.text.now c.parse.result c.ok.result c.parse.ensures.value.0 c.requires.minus c.requires.more c.requires.above c.ok.ensures.value
