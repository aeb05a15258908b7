-- A layout that is missing, and one that was found and is too large.
use Rattle.std.proofs.Common.{⊎_elim, inl, refl, sym, ap, ◌∙◌, subst, arith}
use Rattle.std.specs.Prelude.{option_and_then}
use Rattle.world.specs.Lookups.{layout_of}
use Rattle.body_forms.specs.Contexts.{source_of}
use Rattle.body_forms.specs.Literals.{HasNumberLayout}
use Rattle.body_forms.specs.Refusals.{RefusesNode}
use Rattle.body_forms.proofs.Results.{on-ok}
use Rattle.body_forms.proofs.literal.lower_number.Goals as goal

pub returns-in_default-clause-refused : goal.returns-in_default-clause-refused
returns-in_default-clause-refused c =
    let source = source_of c.args.context.now in
    let layout = ap (option_and_then (layout_of source.world)) c.own_ty-ty.ensures ∙ sym c.in_default.ensures in
    (c.requires.number, layout, c.own_ty-ty.result.now, c.own_ty-ty.ensures, c.layout_error_of.ensures)

pub returns-then-layout-gt16-clause-refused : goal.returns-then-layout-gt16-clause-refused
returns-then-layout-gt16-clause-refused c =
    let source = source_of c.args.context.now in
    let layout = ap (option_and_then (layout_of source.world)) c.own_ty-ty.ensures ∙ sym c.in-Some.ensures in
    ⊎_elim
    (λ text. subst (RefusesNode source c.args.e.0) (sym text) (inl (refl, c.requires.number, c.in-Some.layout.now, layout, c.if-layout-gt16.true)))
    (λ none. subst (RefusesNode source c.args.e.0) (sym none) tt)
    c.type_error.ensures

pub returns-clause-built : goal.returns-clause-built
returns-clause-built c =
    let source = source_of c.args.context.now in
    on-ok (HasNumberLayout source c.args.e.0) c.constant.result
    (record {
      layout = c.in-Some.layout.now;
      found = ap (option_and_then (layout_of source.world)) c.own_ty-ty.ensures ∙ sym c.in-Some.ensures;
      narrow = omega (arith, c.if-layout-gt16.false);
    })
