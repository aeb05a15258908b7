use Rattle.std.proofs.Common.{◌≡◌, sym, refl, rules, length}
use Rattle.std.specs.Int.{w8, w16, w32, w64, w128}
use Rattle.std.proofs.lemmas.Int.{to_z-of_z}
use Rattle.numbers.proofs.Reading.{signed_number, word1_is}
use Rattle.mir_mem.proofs.int_value.signed_value.Goals as goal

pub returns-in-1 : goal.returns-in-1
returns-in-1 c =
    let size = c.in-1.is in
    let same = to_z-of_z w8 c.cast_signed.result (record { sfits = c.cast_signed.type_inv }) in
    record {
      number = signed_number w8 1 _ c.cast_signed.result _ c.args.bytes.now same c.cast_signed.ensures (word1_is c.args.bytes.now c.in-1.is) size refl refl;
      size = sym size;
      sign = refl;
    }

pub returns-in-2 : goal.returns-in-2
returns-in-2 c =
    let size = c.in-2.is in
    let same = to_z-of_z w16 c.cast_signed-in-2.result (record { sfits = c.cast_signed-in-2.type_inv }) in
    record {
      number = signed_number w16 2 _ c.cast_signed-in-2.result _ c.args.bytes.now same c.cast_signed-in-2.ensures c.word2.ensures size refl refl;
      size = sym size;
      sign = refl;
    }

pub returns-in-4 : goal.returns-in-4
returns-in-4 c =
    let size = c.in-4.is in
    let same = to_z-of_z w32 c.cast_signed-in-4.result (record { sfits = c.cast_signed-in-4.type_inv }) in
    record {
      number = signed_number w32 4 _ c.cast_signed-in-4.result _ c.args.bytes.now same c.cast_signed-in-4.ensures c.word4.ensures size refl refl;
      size = sym size;
      sign = refl;
    }

pub returns-in-8 : goal.returns-in-8
returns-in-8 c =
    let size = c.in-8.is in
    let same = to_z-of_z w64 c.cast_signed-in-8.result (record { sfits = c.cast_signed-in-8.type_inv }) in
    record {
      number = signed_number w64 8 _ c.cast_signed-in-8.result _ c.args.bytes.now same c.cast_signed-in-8.ensures c.word8.ensures size refl refl;
      size = sym size;
      sign = refl;
    }

pub returns-in_default : goal.returns-in_default
returns-in_default c =
    let size : length c.args.bytes.now ≡ 16 = search rules in
    let same = to_z-of_z w128 c.cast_signed-in_default.result (record { sfits = c.cast_signed-in_default.type_inv }) in
    record {
      number = signed_number w128 16 _ c.cast_signed-in_default.result _ c.args.bytes.now same c.cast_signed-in_default.ensures c.word16.ensures size refl refl;
      size = sym size;
      sign = refl;
    }
