use Rattle.std.proofs.Common.{◌≡◌, [], Some, sym, ap, ◌∙◌, arith, rules, subst}
use Rattle.std.proofs.lemmas.Grind.{common_steps}
use Rattle.std.specs.BTreeMap.{is_at}
use Rattle.std.specs.Map.{lookup}
use Rattle.std.specs.Option.{ForSome}
use Rattle.types.specs.contracts.ids.FunctionIdOrd.TheImpl as FunctionIdOrd
use Rattle.mir_rows.specs.Spots.{Prepared}
use Rattle.mir_rows.specs.Callees.{AreSizes}
use Rattle.mir_eval.proofs.ToldCallees.{shared-told}
use Rattle.mir_eval.proofs.frames.Program.callee.Goals as goal

pub returns-in-Ok-clause-told : goal.returns-in-Ok-clause-told
returns-in-Ok-clause-told c =
    let program = c.args.self.now in
    let function = c.args.function in
    let none : function.args.now.0 ≡ [] = grind (arith, common_steps) in
    let there : lookup (is_at (FunctionIdOrd.ghosts.cmp function.id)) program.callees.entries ≡ Some (Some c.in-Some-Some.callee) = search rules in
    shared-told program.db.now program.answers program.callees.entries program.called function.id function.args.now none c.in-Some-Some.callee c.in-Ok.callee there c.in-Ok.ensures.body

pub returns-in-Ok-clause-sizes : goal.returns-in-Ok-clause-sizes
returns-in-Ok-clause-sizes c =
    let program = c.args.self.now in
    let there : lookup (is_at (FunctionIdOrd.ghosts.cmp c.args.function.id)) program.callees.entries ≡ Some (Some c.in-Some-Some.callee) = search rules in
    let kept = program.called c.args.function.id c.in-Some-Some.callee there in
    subst (λ (code : Prepared). ForSome c.in-Ok.callee.sizes (λ sizes. AreSizes program.db.now code.body.locals sizes.value)) (sym c.in-Ok.ensures.body)
    (c.in-Ok.ensures.sizes program.db.now c.in-Some-Some.callee.body.value.body.locals kept.sizes)

pub returns-in-Ok-clause-world : goal.returns-in-Ok-clause-world
returns-in-Ok-clause-world c =
    let program = c.args.self.now in
    let there : lookup (is_at (FunctionIdOrd.ghosts.cmp c.args.function.id)) program.callees.entries ≡ Some (Some c.in-Some-Some.callee) = search rules in
    ap (λ (code : Prepared). code.world) c.in-Ok.ensures.body ∙ (program.called c.args.function.id c.in-Some-Some.callee there).ready
