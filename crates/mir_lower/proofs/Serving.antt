-- Bodies that a run is told do what their sources mean, at less fuel too.
use Rattle.std.proofs.Common.{ℕ, suc, arith}
use Rattle.mir.specs.declared.body.MirBody.{MirBody}
use Rattle.mir.specs.Run.{Program}
use Rattle.source_meaning.specs.Source.{Source}
use Rattle.mir_lower.specs.Callees.{DoesBelow, Serves}

does-less : (fuel : ℕ) (program : Program) (called : Source) (body : MirBody) → DoesBelow (suc fuel) program called body → DoesBelow fuel program called body
does-less fuel program called body does =
    record {
      allotted = does.allotted;
      result = does.result;
      own = does.own;
      typed = does.typed;
      params = does.params;
      counted = does.counted;
      laid_out = does.laid_out;
      does = λ less below store frame memory goes_by is apart represents. does.does less (omega arith) store frame memory goes_by is apart represents;
    }

pub serves-less : (fuel : ℕ) (source : Source) (program : Program) → Serves (suc fuel) source program → Serves fuel source program
serves-less fuel source program serves =
    record {
      world = serves.world;
      checked = serves.checked;
      bodies = λ id called body is told. does-less fuel program called body.value (serves.bodies id called body is told);
    }
