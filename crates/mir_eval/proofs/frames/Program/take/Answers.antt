use Rattle.std.proofs.Common.{List, None, sym, subst}
use Rattle.mir.specs.declared.answers.Answer.{Answer}
use Rattle.mir.specs.declared.answers.Query.{Query}
use Rattle.mir_eval.specs.Callees.{AreCallees}
use Rattle.mir_eval.proofs.ToldCallees.{after-insert, keeps, nothing-kept, other-answer, told-now}
use Rattle.mir_eval.proofs.frames.Program.take.Goals as goal

pub invariant_of-self-in-Break-branch-5 : goal.invariant_of-self-in-Break-branch-5
invariant_of-self-in-Break-branch-5 c =
    let old = c.args.self.now in
    record {
      called =
          subst (λ (answers : List (Query × Answer)). AreCallees old.db.now answers c.insert.new.self.entries) (sym c.in_err-put.ensures.err)
          (keeps old.db.now old.callees.entries c.insert.new.self.entries c.in-Some.id None c.in_ok-insert.ensures.updates.0 old.answers old.called (λ k is. absurd cc));
    }

pub invariant_of-self-2 : goal.invariant_of-self-2
invariant_of-self-2 c =
    let old = c.args.self.now in
    let id = c.in-Some.id in
    let put = c.in_ok-put.ensures.ok in
    record {
      called =
          after-insert _ c.insert-2.result old.db.now c.put-2.new.self c.insert.new.self.entries c.insert-2.new.self.entries id c.in_ok-callee.callee c.insert-2.ensures.updates (λ u. u.0) c.insert-2.ensures.err
          (other-answer old.db.now c.insert.new.self.entries old.answers c.put-2.new.self c.args.query c.args.answer put
          (nothing-kept old.callees.entries c.insert.new.self.entries id c.in_ok-insert.ensures.updates.0 c.args.query c.in-Some.ensures.some)
          (keeps old.db.now old.callees.entries c.insert.new.self.entries id None c.in_ok-insert.ensures.updates.0 old.answers old.called (λ k is. absurd cc)))
          (λ k is. told-now old.db.now old.answers c.put-2.new.self c.args.query c.args.answer put id c.in-Some.ensures.some k (c.in_ok-callee.ensures.body k is) (c.in_ok-callee.ensures.world k is) (c.in_ok-callee.ensures.sizes k is));
    }
