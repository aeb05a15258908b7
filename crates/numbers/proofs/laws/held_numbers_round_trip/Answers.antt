use Rattle.numbers.proofs.Digits.{number_of-low_bytes}
use Rattle.numbers.proofs.laws.held_numbers_round_trip.Goals as goal

pub returns : goal.returns
returns c = number_of-low_bytes
