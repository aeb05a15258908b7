-- The operands so far give the fields so far.
use Rattle.std.proofs.Common.{take}
use Rattle.std.specs.Prelude.{map}
use Rattle.body_forms.specs.Form.{core_source}
use Rattle.mir_graph.specs.Graph.{shape}
use Rattle.mir_lower.specs.Updates.{AreFound}
use Rattle.mir_lower.proofs.update.field_operands.Given as goal

abbrev pub invariant-loop-source : goal.invariant-loop-source
invariant-loop-source g l = AreFound (shape g.I.Interner.projections l.fn.graph) (shape g.I.Interner.projections l.graph) l.base l.operands (map core_source (take l.source-index l.sources)) l.fields
