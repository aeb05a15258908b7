use Rattle.std.proofs.Common.{refl}
use Rattle.std.specs.Int.{w128}
use Rattle.std.proofs.lemmas.Int.{to_z-of_z}
use Rattle.numbers.proofs.Reading.{signed_number}
use Rattle.mir_ops.proofs.words.wide_signed.Goals as goal

pub returns : goal.returns
returns c =
    let same = to_z-of_z w128 c.cast_signed.result (record { sfits = c.cast_signed.type_inv }) in
    signed_number w128 16 _ c.cast_signed.result _ c.args.bytes.now same c.cast_signed.ensures c.word16.ensures c.requires refl refl
