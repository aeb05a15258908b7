use Rattle.std.proofs.Common.{◌≡◌, ◌+◌, ◌++◌, ℕ, List, suc, take, ap, sym, ◌∙◌, rules, arith, append_assoc}
use Rattle.std.specs.List.{concat}
use Rattle.mir_mem.proofs.Joined.{concat-next}
use Rattle.mir_mem.proofs.pieces.append.Goals as goal

pub loop-i-preserved : goal.loop-i-preserved
loop-i-preserved c =
    let at = c.loop-i in
    let view = c.args.view.now in
    let piece = c.piece.result.now in
    let before = c.args.all.now.items in
    let next : at.i + 1 ≡ suc at.i = omega arith in
    let joined : concat (take (at.i + 1) view) ≡ concat (take at.i view) ++ piece = ap (λ (n : ℕ). concat (take n view)) next ∙ concat-next view at.i piece c.piece.ensures in
    let more : c.extend_from_slice.new.self.items ≡ at.all.items ++ piece = search rules in
    record {
      within = omega (arith, c.loop-i-test.true, c.pieces.ensures);
      bytes = more ∙ ap (λ (bytes : List ℕ). bytes ++ piece) at.invariant.bytes ∙ append_assoc before (concat (take at.i view)) piece ∙ sym (ap (λ (bytes : List ℕ). before ++ bytes) joined);
    }
