-- A body that returned: the run is over, or its caller goes on.
use Rattle.std.proofs.Common.{◌≡◌, [], ◌∷◌, ◌++◌, ap, ◌∙◌, rules, refl, arith}
use Rattle.std.specs.Prelude.{option_map}
use Rattle.std.proofs.lemmas.Grind.{common_steps}
use Rattle.mir_eval.specs.Frames.{callers, waiting_of}
use Rattle.mir_eval.specs.Phases.{frame_in}
use Rattle.mir_eval.proofs.Callers.{callers-push}
use Rattle.mir_eval.proofs.Leading.{never-returns, none-waits}
use Rattle.mir_eval.proofs.runs.Run.give_back.Goals as goal

pub returns-in-Ok-clause-leads : goal.returns-in-Ok-clause-leads
returns-in-Ok-clause-leads g c =
    let old = c.args.self.now in
    let empty : old.below.items ≡ [] = grind (arith, common_steps) in
    none-waits (frame_in old) (g.M.Memory.areas old.memory) (g.M.Memory.areas old.memory) old.left _ c.in-Ok.outcome _ c.saturating_sub-levels.result c.body.result.now c.as_slice.result.now
    (ap callers empty) refl (search rules) (search rules) c.as_slice.ensures.value refl c.in-Ok.ensures

pub returns-in-None-next-clause-leads : goal.returns-in-None-next-clause-leads
returns-in-None-next-clause-leads g c =
    let old = c.args.self.now in
    let caller = c.in-Some.caller in
    let split : old.below.items ≡ c.pop_caller.new.below.items ++ caller ∷ [] = grind (arith, common_steps) in
    let waits : callers old.below.items ≡ waiting_of caller ∷ callers c.pop_caller.new.below.items = ap callers split ∙ callers-push c.pop_caller.new.below.items caller in
    never-returns (frame_in old) (g.M.Memory.areas old.memory) (waiting_of caller) (callers c.pop_caller.new.below.items) old.left _ _ waits (ap (option_map (λ block. block.0)) c.in-None-next.is) c.fault.ensures.leads
