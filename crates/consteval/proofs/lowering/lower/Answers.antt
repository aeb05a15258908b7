-- The row of a body is checked, and its graph is kept as that row's.
use Rattle.std.proofs.Common.{◌≡◌, ◌⊎◌, false, ap, sym, subst, ◌∙◌}
use Rattle.std.proofs.lemmas.Result.{IfErr-weaker, IfOk-weaker}
use Rattle.mir.specs.declared.errors.MirLowerError.TheVariants as refusal
use Rattle.world.specs.Lookups.{body_row}
use Rattle.world.specs.declared.database.HirDatabase.{HirDatabase}
use Rattle.consteval.specs.Refusals.{RefusesBody}
use Rattle.consteval.specs.Built.{has_errors, is_erroneous, is_unbuilt}
use Rattle.consteval.specs.Kept.{IsLowered}
use Rattle.consteval.proofs.Built.{built-by-itself}
use Rattle.consteval.proofs.Rows.{lowering-refuses, row-of, row-checked, row-lowers}
use Rattle.consteval.proofs.lowering.lower.Goals as goal

pub lower_to_mir-requires-clause-checked : goal.lower_to_mir-requires-clause-checked
lower_to_mir-requires-clause-checked c =
    row-checked c.db-db.result.now c.args.def c.in-Some.body.now c.in-Some-infer.infer.now
    (row-of (body_row c.db-db.result.now c.args.def) c.in-Some.body.now c.in-Some-infer.infer.now c.in-Some.ensures c.in-Some-infer.ensures)
    c.db-db.ensures.checked

pub returns-clause-lowered : goal.returns-clause-lowered
returns-clause-lowered c =
    let db = c.db-db.result.now in
    let found = row-of (body_row db c.args.def) c.in-Some.body.now c.in-Some-infer.infer.now c.in-Some.ensures c.in-Some-infer.ensures in
    let erroneous : is_erroneous db c.args.def ≡ false = sym (ap has_errors c.infer.ensures) ∙ sym c.has_errors.ensures ∙ c.if-has_errors.false in
    let built : is_unbuilt db c.args.def c.args.args.now ≡ false = sym c.is_unbuilt.ensures ∙ c.if-is_unbuilt.false in
    let lowers = c.lower_to_mir.ensures in
    IfOk-weaker c.lower_to_mir.result _ _
    (λ lowered is. subst (λ (world : HirDatabase). IsLowered world c.args.def lowered) c.db-db.ensures.same is)
    (row-lowers db c.args.def c.in-Some.body.now c.in-Some-infer.infer.now found c.lower_to_mir.result erroneous (built-by-itself db c.args.def c.args.args.now built) lowers.simulates lowers.order lowers.owner lowers.dropless lowers.built)

pub returns-clause-refused : goal.returns-clause-refused
returns-clause-refused c =
    let db = c.db-db.result.now in
    let found = row-of (body_row db c.args.def) c.in-Some.body.now c.in-Some-infer.infer.now c.in-Some.ensures c.in-Some-infer.ensures in
    let erroneous : is_erroneous db c.args.def ≡ false = sym (ap has_errors c.infer.ensures) ∙ sym c.has_errors.ensures ∙ c.if-has_errors.false in
    let built : is_unbuilt db c.args.def c.args.args.now ≡ false = sym c.is_unbuilt.ensures ∙ c.if-is_unbuilt.false in
    IfErr-weaker c.lower_to_mir.result _ _
    (λ e refuses. subst (λ (world : HirDatabase). (e ≡ refusal.NoMemory) ⊎ RefusesBody world c.args.def c.args.args.now e) c.db-db.ensures.same
    (lowering-refuses db c.args.def c.args.args.now found.row c.in-Some.body.now c.in-Some-infer.infer.now e found.is found.there erroneous built refuses))
    c.lower_to_mir.ensures.refused
