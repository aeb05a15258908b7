use Rattle.std.proofs.Common.{◌≡◌, ap, sym, refl, rules, length, pos}
use Rattle.numbers.specs.Bytes.{number_of}
use Rattle.numbers.proofs.Reading.{word1_is}
use Rattle.mir_mem.proofs.int_value.unsigned_value.Goals as goal

pub returns-in-1 : goal.returns-in-1
unfolding number_of
returns-in-1 c =
    let size = c.in-1.is in
    record { number = ap pos (word1_is c.args.bytes.now c.in-1.is); size = sym size; sign = refl }

pub returns-in-2 : goal.returns-in-2
unfolding number_of
returns-in-2 c =
    let size = c.in-2.is in
    record { number = ap pos c.word2.ensures; size = sym size; sign = refl }

pub returns-in-4 : goal.returns-in-4
unfolding number_of
returns-in-4 c =
    let size = c.in-4.is in
    record { number = ap pos c.word4.ensures; size = sym size; sign = refl }

pub returns-in-8 : goal.returns-in-8
unfolding number_of
returns-in-8 c =
    let size = c.in-8.is in
    record { number = ap pos c.word8.ensures; size = sym size; sign = refl }

pub returns-in_default : goal.returns-in_default
unfolding number_of
returns-in_default c =
    let size : length c.args.bytes.now ≡ 16 = search rules in
    record { number = ap pos c.word16.ensures; size = sym size; sign = refl }
