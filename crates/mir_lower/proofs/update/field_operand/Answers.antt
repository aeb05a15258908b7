-- What is written is among the operands, and a field of the base is projected.
use Rattle.mir.specs.declared.operand.Operand.{Operand}
use Rattle.mir.specs.declared.operand.OperandKind.TheVariants.{Copy}
use Rattle.std.proofs.Common.{[], ◌∷◌, None, Some, refl, sym, ap, ◌∙◌, subst}
use Rattle.std.proofs.lemmas.Result.{IfOk-weaker}
use Rattle.body_forms.specs.Form.{core_source}
use Rattle.body_forms.specs.declared.structs.FieldSource.{FieldSource}
use Rattle.mir_lower.specs.Updates.{AreFound, IsAmong}
use Rattle.mir_lower.proofs.Updates.{found-projected, found-written, has-id, lacks-none}
use Rattle.mir_graph.specs.Graph.{shape}
use Rattle.mir_lower.proofs.update.field_operand.Goals as goal

pub unreachable-requires : goal.unreachable-requires
unreachable-requires g c =
    lacks-none c.args.operands.now c.in-Written.place (sym c.in_default.ensures) (subst (λ (source : FieldSource). IsAmong c.args.operands.now (core_source source)) c.in-Written.is c.requires.given)

pub returns-in-Some : goal.returns-in-Some
returns-in-Some g c =
    let s = shape g.I.Interner.projections c.args.graph.now in
    let operands = c.args.operands.now in
    IfOk-weaker c.try_clone.result _ _
    (λ copy same. subst (λ (source : FieldSource). AreFound s s c.args.base operands (core_source source ∷ []) (copy ∷ [])) (sym c.in-Written.is)
    (found-written s c.args.base operands c.in-Written.place copy (sym c.in-Some.ensures ∙ ap Some (sym same))))
    c.try_clone.ensures

pub project-requires : goal.project-requires
project-requires g c = has-id (shape g.I.Interner.projections c.args.graph.now) (g.met.I.Interner.interned c.args.graph.now.projections) c.args.base c.requires.known

pub returns-in_ok-place-in-OfBase : goal.returns-in_ok-place-in-OfBase
returns-in_ok-place-in-OfBase g c =
    let old = shape g.I.Interner.projections c.args.graph.now in
    let new = shape g.I.Interner.projections c.project.new.self in
    let made = c.in_ok-place-in-OfBase.place in
    let operand : Operand = record { kind = Copy made; span = None } in
    subst (λ (source : FieldSource). AreFound old new c.args.base c.args.operands.now (core_source source ∷ []) (operand ∷ [])) (sym c.in-OfBase.is)
    (found-projected old new c.args.base made c.args.operands.now c.in-OfBase.field operand refl refl c.in_ok-place-in-OfBase.ensures)
