use Rattle.std.proofs.Common.{rules, ◌∙◌, length, ap}
use Rattle.numbers.specs.Bytes.{value_of}
use Rattle.numbers.proofs.Reading.{word1_is}
use Rattle.numbers.proofs.Padded.{value_of-padded}
use Rattle.numbers.proofs.constants.number_of.Goals as goal

pub returns-then-bytes-eq1 : goal.returns-then-bytes-eq1
returns-then-bytes-eq1 c = word1_is c.args.bytes.now (search rules)

pub returns : goal.returns
returns c =
    c.word16.ensures ∙ value_of-padded c.copy_from_slice.new.self (length c.args.bytes.now) 16
    ∙ ap value_of c.copy_from_slice.ensures.after
