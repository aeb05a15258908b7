use Rattle.std.proofs.Common.{◌≡◌, ◌∙◌, ap, refl, arith, length}
use Rattle.std.specs.Int.{w8, w16, w32, w64}
use Rattle.std.proofs.lemmas.Int.{to_z-of_z}
use mir.Val.{to_z, of_z}
use Rattle.numbers.proofs.Reading.{signed_number, word1_is}
use Rattle.mir_ops.specs.Made.{bytes_in}
use Rattle.mir_ops.proofs.words.signed.Goals as goal

pub returns-in-One : goal.returns-in-One
returns-in-One c =
    let long : length c.args.bytes.now ≡ 1 = c.requires ∙ ap bytes_in c.in-One.is in
    let narrow = to_z-of_z w8 c.cast_signed.result (record { sfits = c.cast_signed.type_inv }) in
    let wide = to_z-of_z w64 c.cast_signed.result (record { sfits = omega arith }) in
    signed_number w8 1 _ c.cast_signed.result _ c.args.bytes.now (ap (λ z. to_z w64 (of_z w64 z)) narrow ∙ wide) c.cast_signed.ensures (word1_is c.args.bytes.now long) long refl refl

pub returns-in-Two : goal.returns-in-Two
returns-in-Two c =
    let long : length c.args.bytes.now ≡ 2 = c.requires ∙ ap bytes_in c.in-Two.is in
    let narrow = to_z-of_z w16 c.cast_signed-in-Two.result (record { sfits = c.cast_signed-in-Two.type_inv }) in
    let wide = to_z-of_z w64 c.cast_signed-in-Two.result (record { sfits = omega arith }) in
    signed_number w16 2 _ c.cast_signed-in-Two.result _ c.args.bytes.now (ap (λ z. to_z w64 (of_z w64 z)) narrow ∙ wide) c.cast_signed-in-Two.ensures c.word2.ensures long refl refl

pub returns-in-Four : goal.returns-in-Four
returns-in-Four c =
    let long : length c.args.bytes.now ≡ 4 = c.requires ∙ ap bytes_in c.in-Four.is in
    let narrow = to_z-of_z w32 c.cast_signed-in-Four.result (record { sfits = c.cast_signed-in-Four.type_inv }) in
    let wide = to_z-of_z w64 c.cast_signed-in-Four.result (record { sfits = omega arith }) in
    signed_number w32 4 _ c.cast_signed-in-Four.result _ c.args.bytes.now (ap (λ z. to_z w64 (of_z w64 z)) narrow ∙ wide) c.cast_signed-in-Four.ensures c.word4.ensures long refl refl

pub returns-in-Eight : goal.returns-in-Eight
returns-in-Eight c =
    let long : length c.args.bytes.now ≡ 8 = c.requires ∙ ap bytes_in c.in-Eight.is in
    let same = to_z-of_z w64 c.cast_signed-in-Eight.result (record { sfits = c.cast_signed-in-Eight.type_inv }) in
    signed_number w64 8 _ c.cast_signed-in-Eight.result _ c.args.bytes.now same c.cast_signed-in-Eight.ensures c.word8.ensures long refl refl
