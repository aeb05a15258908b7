use Rattle.std.proofs.Common.{◌≡◌, None, Some, ap, sym, true, ◌∙◌}
use Rattle.check_ids.specs.Nodes.{is_binding_in_range}
use Rattle.check_names.specs.Known.{is_nameable}
use Rattle.check_trees.proofs.Listed.{finds_at}
use Rattle.check_ids.proofs.Wrong.{bindings_found, too_many_bindings}
use Rattle.check_ids.proofs.parts.wrong_binding.Goals as goal

pub returns-then-not-is_nameable : goal.returns-then-not-is_nameable
returns-then-not-is_nameable c world infer = too_many_bindings world c.args.body.now infer (ap is_nameable (sym c.len.ensures) ∙ sym c.is_nameable.ensures ∙ c.if-not-is_nameable.true)

pub returns-in-Some : goal.returns-in-Some
returns-in-Some c world infer =
    let short = ap is_nameable (sym c.len.ensures) ∙ sym c.is_nameable.ensures ∙ c.if-not-is_nameable.false in
    bindings_found world c.args.body.now infer (Some c.in-Some.i) short
    (finds_at (λ k node. is_binding_in_range c.args.body.now node ≡ true) c.as_slice.result.now c.args.body.now.bindings c.wrong_binding_among.result (Some c.in-Some.i) c.as_slice.ensures c.in-Some.is c.wrong_binding_among.ensures)

pub returns-in-None : goal.returns-in-None
returns-in-None c world infer =
    let short = ap is_nameable (sym c.len.ensures) ∙ sym c.is_nameable.ensures ∙ c.if-not-is_nameable.false in
    bindings_found world c.args.body.now infer None short
    (finds_at (λ k node. is_binding_in_range c.args.body.now node ≡ true) c.as_slice.result.now c.args.body.now.bindings c.wrong_binding_among.result None c.as_slice.ensures c.in-None.is c.wrong_binding_among.ensures)
