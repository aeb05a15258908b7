use Rattle.numbers.proofs.Digits.{low_bytes_are_bytes}
use Rattle.numbers.proofs.laws.low_bytes_are_bytes.Goals as goal

pub returns : goal.returns
returns c = low_bytes_are_bytes
