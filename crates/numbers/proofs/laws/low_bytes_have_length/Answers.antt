use Rattle.numbers.proofs.Digits.{length-low_bytes}
use Rattle.numbers.proofs.laws.low_bytes_have_length.Goals as goal

pub returns : goal.returns
returns c = length-low_bytes
