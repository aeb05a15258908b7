-- The sizes of the cells of all locals.
use Rattle.std.proofs.Common.{◌≡◌, ◌+◌, ⊎_elim, inl, inr, [], ◌∷◌, ◌++◌, sym, subst, rules}
use Rattle.std.specs.Prelude.{List, All}
use Rattle.std.proofs.lemmas.List.Elements.{All-append, All-cons, All-nil}
use Rattle.world.specs.Checked.{IsAlignment}
use Rattle.mir.specs.declared.address.CellSize.{CellSize}
use Rattle.mir_rows.proofs.Laying.{Sized, sized-last, sized-next, sized-refused}
use Rattle.mir_rows.proofs.cell_sizes.sizes.Goals as goal

pub returns-in-Err-clause-err : goal.returns-in-Err-clause-err
returns-in-Err-clause-err c =
    let at = c.loop-local in
    ⊎_elim inl
    (λ refused. inr (sized-refused c.args.db.now c.args.locals.now at.sizes at.local-index c.local-item.result c.in-Err.error c.loop-local-test.true c.local-item.is refused at.invariant.sized))
    c.in-Err.ensures.err

pub loop-local-preserved : goal.loop-local-preserved
loop-local-preserved c =
    let at = c.loop-local in
    let more : c.push.new.self ≡ at.sizes ++ c.in-Ok.size ∷ [] = search rules in
    record {
      sized =
          subst (λ (sizes : List CellSize). Sized c.args.db.now c.args.locals.now sizes (at.local-index + 1)) (sym more)
          (sized-next c.args.db.now c.args.locals.now at.sizes at.local-index c.local-item.result c.in-Ok.size c.loop-local-test.true c.local-item.is c.in-Ok.ensures.ok at.invariant.sized);
      aligned =
          subst (λ (sizes : List CellSize). All (λ cell. IsAlignment cell.align) sizes) (sym more)
          (All-append (λ (cell : CellSize). IsAlignment cell.align) at.sizes (c.in-Ok.size ∷ []) at.invariant.aligned
          (All-cons (λ (cell : CellSize). IsAlignment cell.align) c.in-Ok.size [] c.in-Ok.ensures.aligned (All-nil (λ (cell : CellSize). IsAlignment cell.align))));
    }

pub returns-clause-ok : goal.returns-clause-ok
returns-clause-ok c =
    let at = c.loop-local in
    sized-last c.args.db.now c.args.locals.now at.sizes at.local-index c.loop-local-test.false at.invariant.sized
