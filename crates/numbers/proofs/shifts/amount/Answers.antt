use Rattle.std.proofs.Common.{◌≡◌, ◌∙◌, ap, sym, ℕ, arith, pos}
use Rattle.numbers.specs.Bytes.{number_of}
use Rattle.numbers.proofs.shifts.amount.Goals as goal

same_pos : (m n : ℕ) → pos m ≡ pos n → m ≡ n
same_pos m n e = cc

pub returns-then-number-bits-2-clause-some : goal.returns-then-number-bits-2-clause-some
unfolding number_of
returns-then-number-bits-2-clause-some c = rw c.if-is_signed.false (ap pos (sym c.unsigned-number.ensures), c.if-number-bits-2.true)

pub returns-else-number-bits-2-clause-none : goal.returns-else-number-bits-2-clause-none
unfolding number_of
returns-else-number-bits-2-clause-none c = λ k e.
    let n : c.unsigned-number.result ≡ k = same_pos _ _ (ap pos c.unsigned-number.ensures ∙ (rw c.if-is_signed.false at e)) in
    omega (arith, c.if-number-bits-2.false)
