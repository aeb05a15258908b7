use Rattle.std.proofs.Common.{◌≡◌, ◌∙◌, ◌-◌, length, take, drop, ap, arith, length-drop}
use Rattle.std.proofs.lemmas.List.{take_all}
use Rattle.numbers.specs.Bytes.{value_of}
use Rattle.numbers.proofs.Reading.{word16_is}
use Rattle.numbers.proofs.read.word16.Goals as goal

pub returns : goal.returns
returns c =
    let bytes = c.args.bytes.now in
    let upper : take (length bytes - 8) (drop 8 bytes) ≡ drop 8 bytes = take_all _ _ (omega (arith, length-drop 8 bytes)) in
    let high : c.word8-high.result ≡ value_of (drop 8 bytes) = c.word8-high.ensures ∙ ap value_of upper in
    omega (arith, word16_is bytes c.requires)
