use Rattle.std.proofs.Common.{◌≡◌, ◌-◌, ◌++◌, ℕ, List, [], length, ap, sym, ◌∙◌, rules, arith, append-nil, append_assoc}
use Rattle.std.proofs.lemmas.Grind.{common_steps}
use Rattle.std.specs.List.{concat}
use Rattle.numbers.specs.Aggregates.{repeated}
use Rattle.mir_mem.proofs.Repeated.{repeated-empty, repeated-more, repeated-none}
use Rattle.mir_mem.proofs.construction.repeat.Goals as goal

pub loop-left-preserved : goal.loop-left-preserved
loop-left-preserved c =
    let at = c.loop-left in
    let bytes = concat c.args.view.now in
    ap (λ (all : List ℕ). all ++ repeated (at.left - 1) bytes) c.in_ok-append.ensures
    ∙ append_assoc at.all.items bytes (repeated (at.left - 1) bytes)
    ∙ ap (λ (rest : List ℕ). at.all.items ++ rest) (sym (repeated-more at.left bytes c.loop-left-test.true))
    ∙ at.invariant

pub returns : goal.returns
returns c =
    let at = c.loop-left in
    let done : at.left ≡ 0 = omega (arith, c.loop-left-test.false) in
    c.from_vec-2.ensures
    ∙ sym (append-nil at.all.items)
    ∙ ap (λ (rest : List ℕ). at.all.items ++ rest) (sym (repeated-none (concat c.args.view.now)) ∙ ap (λ (n : ℕ). repeated n (concat c.args.view.now)) (sym done))
    ∙ at.invariant

pub returns-then-len-eq0 : goal.returns-then-len-eq0
returns-then-len-eq0 c =
    let none : length (concat c.args.view.now) ≡ 0 = search rules in
    let empty : c.from_vec.result ≡ [] = search rules in
    empty ∙ sym (repeated-empty c.args.count (concat c.args.view.now) none)
