use Rattle.std.proofs.Common.{◌≡◌, ◌-◌, ◌^◌, suc, ap, arith, length}
use Rattle.std.proofs.lemmas.Bool.{false≢true}
use borrow.Author.Tests.{ltb-true, lt-ltb}
use Rattle.numbers.specs.Bytes.{value_of}
use Rattle.numbers.proofs.Reading.{value_of-dropped}
use Rattle.mir_mem.proofs.Padding.{top_byte}
use Rattle.mir_mem.proofs.pad.is_negative.Goals as goal

pub returns-then-size-eq0 : goal.returns-then-size-eq0
returns-then-size-eq0 c =
    let bytes = c.args.bytes.now in
    let none : length bytes ≡ 0 = c.if-size-eq0.true in
    let nothing : value_of bytes ≡ 0 = value_of-dropped bytes 0 none in
    let one : 256 ^ length bytes ≡ 1 = ap (λ m. 256 ^ m) none in
    (λ h. absurd (false≢true h), λ h. absurd (omega arith))

pub returns : goal.returns
returns c =
    let bytes = c.args.bytes.now in
    let size : length bytes ≡ suc (length bytes - 1) = omega arith in
    let top = top_byte bytes (length bytes - 1) size c.type_inv.bytes in
    (λ h. top.0 (ltb-true _ _ h), λ h. lt-ltb _ _ (top.1 h))
