use Rattle.std.proofs.Common.{◌≡◌, ◌+◌, ◌++◌, ℕ, List, suc, length, take, ap, sym, ◌∙◌, arith, length-append}
use Rattle.std.specs.List.{concat}
use Rattle.mir_mem.proofs.Joined.{concat-fits, concat-next}
use Rattle.mir_mem.proofs.pieces.gather.Goals as goal

pub put-requires : goal.put-requires
put-requires c =
    let at = c.loop-i in
    let inside = concat-fits c.args.view.now at.i c.piece-piece.result.now c.piece-piece.ensures in
    let count = at.invariant.count in
    let few = at.invariant.fits in
    omega arith

pub loop-i-preserved : goal.loop-i-preserved
loop-i-preserved c =
    let at = c.loop-i in
    let view = c.args.view.now in
    let piece = c.piece-piece.result.now in
    let next : at.i + 1 ≡ suc at.i = omega arith in
    let joined : concat (take (at.i + 1) view) ≡ concat (take at.i view) ++ piece = ap (λ (n : ℕ). concat (take n view)) next ∙ concat-next view at.i piece c.piece-piece.ensures in
    record {
      within = omega (arith, c.loop-i-test.true, c.pieces.ensures);
      fits = at.invariant.fits;
      count = ap (λ (n : ℕ). n + length piece) at.invariant.count ∙ sym (length-append (concat (take at.i view)) piece) ∙ ap length (sym joined);
      bytes = c.put.ensures ∙ ap (λ (bytes : List ℕ). bytes ++ piece) at.invariant.bytes ∙ sym joined;
    }
