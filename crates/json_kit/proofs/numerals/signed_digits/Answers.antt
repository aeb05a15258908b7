use Rattle.json_kit.proofs.Digits.{nonnegative_is}
use Rattle.json_kit.proofs.numerals.signed_digits.Goals as goal

pub returns : goal.returns
returns c = nonnegative_is c.args.text.now c.parse.result c.ok.result c.parse.ensures.value.0 c.requires c.ok.ensures.value
