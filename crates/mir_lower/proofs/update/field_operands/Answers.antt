-- Each source has its operand.
use Rattle.std.proofs.Common.{◌≡◌, List, [], ◌∷◌, ◌++◌, ◌+◌, map, take, get_or, sym, ap, ◌∙◌, subst}
use Rattle.std.proofs.lemmas.List.{map-append, take_all, take_more}
use Rattle.mir.specs.declared.operand.Operand.{Operand}
use Rattle.source_meaning.specs.Structs.{FieldSource as CoreSource}
use Rattle.body_forms.specs.Form.{core_source}
use Rattle.body_forms.specs.declared.structs.FieldSource.{FieldSource}
use Rattle.body_forms.specs.declared.structs.FieldSource.TheVariants as source
use Rattle.mir_graph.specs.Graph.{shape}
use Rattle.mir_lower.specs.Updates.{AreFound}
use Rattle.mir_lower.proofs.Updates.{found-more, found-none, known-later}
use Rattle.mir_lower.proofs.update.field_operands.Goals as goal

pub loop-source-init : goal.loop-source-init
loop-source-init g c =
    let s = shape g.I.Interner.projections c.args.graph.now in
    subst (λ (fields : List Operand). AreFound s s c.args.base c.args.operands.now [] fields) (sym c.new-fields.ensures) (found-none s c.args.base c.args.operands.now)

pub field_operand-requires : goal.field_operand-requires
field_operand-requires g c =
    record {
      known = known-later (shape g.I.Interner.projections c.args.graph.now) (shape g.I.Interner.projections c.loop-source.graph) c.args.base c.loop-source.invariant.more c.requires.known;
      given = c.requires.given c.loop-source.source-index (source.Written 0) c.loop-source-test.true;
    }

pub loop-source-preserved : goal.loop-source-preserved
loop-source-preserved g c =
    let at = c.loop-source in
    let i = at.source-index in
    let s0 = shape g.I.Interner.projections c.args.graph.now in
    let s1 = shape g.I.Interner.projections at.graph in
    let s2 = shape g.I.Interner.projections c.field_operand.new.graph in
    let base = c.args.base in
    let operands = c.args.operands.now in
    let from = get_or c.args.sources.now i (source.Written 0) in
    let field = c.in_ok-field.field in
    let both = found-more s0 s1 s2 base operands (map core_source (take i c.args.sources.now)) at.fields (core_source from) field at.invariant c.in_ok-field.ensures in
    let sources-are : map core_source (take i c.args.sources.now) ++ core_source from ∷ [] ≡ map core_source (take (i + 1) c.args.sources.now) = sym (ap (map core_source) (take_more c.args.sources.now i (source.Written 0) c.loop-source-test.true) ∙ map-append core_source (take i c.args.sources.now) (from ∷ [])) in
    subst (λ (fields : List Operand). AreFound s0 s2 base operands (map core_source (take (i + 1) c.args.sources.now)) fields) (sym c.in_ok-push.ensures.ok)
    (subst (λ (sources : List CoreSource). AreFound s0 s2 base operands sources (at.fields ++ field ∷ [])) sources-are both)

pub returns : goal.returns
returns g c =
    let at = c.loop-source in
    subst (λ (sources : List FieldSource). AreFound (shape g.I.Interner.projections c.args.graph.now) (shape g.I.Interner.projections at.graph) c.args.base c.args.operands.now (map core_source sources) at.fields) (take_all at.source-index c.args.sources.now c.loop-source-test.false) at.invariant
