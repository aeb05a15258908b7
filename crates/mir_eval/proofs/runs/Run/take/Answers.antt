-- The answer changes what the run was told, and nothing else: its world is the one that its bodies are ready to run in.
use Rattle.std.proofs.Common.{◌≡◌, sym, ap, ◌∙◌, subst, Bor}
use Rattle.world.specs.declared.database.HirDatabase.{HirDatabase}
use Rattle.mir_eval.specs.Frames.{AreOfWorld}
use Rattle.mir_eval.proofs.runs.Run.take.Goals as goal

pub invariant_of-self-clause-world : goal.invariant_of-self-clause-world
invariant_of-self-clause-world g c =
    let same : c.take.new.self.db.now ≡ c.args.self.now.program.db.now = ap (λ (db : Bor HirDatabase). db.now) c.take.ensures.db in
    c.args.self.now.world ∙ sym same

pub invariant_of-self-clause-worlds : goal.invariant_of-self-clause-worlds
invariant_of-self-clause-worlds g c =
    let same : c.take.new.self.db.now ≡ c.args.self.now.program.db.now = ap (λ (db : Bor HirDatabase). db.now) c.take.ensures.db in
    subst (λ (world : HirDatabase). AreOfWorld world c.args.self.now.below.items) (sym same) c.args.self.now.worlds
