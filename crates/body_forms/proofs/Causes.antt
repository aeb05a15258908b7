-- A form that is built isn't refused: no cause of a refusal holds there but for the layout of a number.
use Rattle.std.proofs.Common.{◌≡◌, ℕ, true, false, List, Option, Some, None, option_and_then, ⊎_elim, refl, sym, ap, ◌∙◌, subst}
use Rattle.std.proofs.lemmas.Bool.{false≢true}
use Rattle.std.proofs.lemmas.List.Elements.{All-contains}
use Rattle.source_meaning.specs.Built.{AssignsBinding, CombinesBinding, CallsFunction, is_direct, IsBuiltAssigned, IsBuiltAssignee, IsBuiltStatement, IsBuiltForm}
use Rattle.source_meaning.specs.Core.{Assigned, Assignee, ByField, ByPath, ByPattern, ByPlace, CoreExpr, Findings, Negate, Invert, Keep, Convert, Combine, MakeTuple, MakeStruct, MakeArray, Repeat, core_of, local_named}
use Rattle.source_meaning.specs.Core as expr
use Rattle.source_meaning.specs.Source.{Source, node, target_path, pattern_named_by, compound_path, named_by, binding_type}
use Rattle.types.specs.declared.ids.BindingId.{BindingId}
use Rattle.types.specs.declared.ids.FunctionId.{FunctionId}
use Rattle.world.specs.declared.body.Statement.{Statement}
use Rattle.world.specs.declared.body.Statement.TheVariants as statement
use Rattle.world.specs.declared.expr.Expr.{Expr}
use Rattle.world.specs.declared.expr.Expr.TheVariants as whole
use Rattle.world.specs.declared.infer.ValueNs.{ValueNs}
use Rattle.world.specs.declared.infer.ValueNs.TheVariants.{LocalBinding}
use Rattle.world.specs.Lookups.{function_row}
use Rattle.body_forms.specs.Refusals.{IsIncomplete, LacksPart, IsUnbuiltForm, IsUnbuiltStatement, IsUnbuiltTarget, IsUnbuiltOperand, IsUnbuiltAssigned, IsUnbuiltAssignee, IsUnbuiltCall, IsUnbuilt, LetBindsNone, AssignedLacks, AssigneeLacks, LacksLocal, IsNoArray, AssignedIsUnresolved, AssigneeIsUnresolved, IsUnresolved}
use Rattle.body_forms.proofs.Forms.{node-plain}

incomplete-core : (found : Findings) (e : Expr) → IsIncomplete e → core_of found e ≡ None
incomplete-core found whole.Missing lacks = refl
incomplete-core found (whole.BinaryOp lhs rhs None) lacks = refl
incomplete-core found (whole.BinaryOp lhs rhs (Some op)) lacks = absurd lacks
incomplete-core found _ lacks = absurd lacks

-- an incomplete expression has no form with a meaning
incomplete-node : (source : Source) (e : ℕ) → LacksPart source e → node source e ≡ None
incomplete-node source e lacks = node-plain source e lacks.expr lacks.plain lacks.stands ∙ incomplete-core _ lacks.expr lacks.lacks

-- an incomplete expression is no unbuilt form
pub incomplete-is-no-unbuilt : (source : Source) (e : ℕ) → LacksPart source e → IsUnbuiltForm source e → ⊥
incomplete-is-no-unbuilt source e lacks =
    ⊎_elim (λ adjusted. false≢true (sym lacks.plain ∙ adjusted)) (λ unbuilt.
    unbuilt.complete (subst IsIncomplete (let one = lacks.stands in let other = unbuilt.stands in let same : lacks.expr ≡ unbuilt.expr = cc in same) lacks.lacks))

pub built-is-complete : (source : Source) (e : ℕ) → IsBuiltForm source e (node source e) → LacksPart source e → ⊥
built-is-complete source e built lacks = subst (IsBuiltForm source e) (incomplete-node source e lacks) built

built-statement : (source : Source) (one : Statement) → IsBuiltStatement source one → IsUnbuiltStatement source one → ⊥
built-statement source (statement.Let pat (Some e) None) built unbuilt = let there = built.bound in absurd cc
built-statement source (statement.Let pat (Some e) (Some other)) built unbuilt = built
built-statement source (statement.Let pat None other) built unbuilt = built
built-statement source (statement.Expr e has_semi) built unbuilt = unbuilt
built-statement source statement.Item built unbuilt = built

-- a path with a binding is there, and names the binding
target-names : (source : Source) (assigned : ℕ) (binding : BindingId) (path : Option (List ℕ)) (named : Option ValueNs) → option_and_then (λ name. option_and_then local_named named) path ≡ Some binding → ((path ≡ None) → ⊥) × (option_and_then local_named named ≡ Some binding)
target-names source assigned binding (Some name) named is = (λ none. absurd cc, is)
target-names source assigned binding None named is = absurd cc

-- the path to which an assignment by a pattern is built names a binding
target-is-no-unbuilt : (source : Source) (assigned : ℕ) → AssignsBinding source assigned → IsUnbuiltTarget source assigned → ⊥
target-is-no-unbuilt source assigned built unbuilt =
    let names = target-names source assigned built.binding (target_path source assigned) (pattern_named_by source assigned) built.names in
    ⊎_elim names.0 (λ other. let one = ap (option_and_then local_named) (sym other.1) ∙ names.1 in let none = other.2 in absurd cc) unbuilt

-- and so does that of a compound one
operand-is-no-unbuilt : (source : Source) (assigned : ℕ) → CombinesBinding source assigned → IsUnbuiltOperand source assigned → ⊥
operand-is-no-unbuilt source assigned built unbuilt =
    let names = target-names source assigned built.binding (compound_path source assigned) (named_by source assigned) built.names in
    ⊎_elim names.0 (λ other. let one = ap (option_and_then local_named) (sym other.1) ∙ names.1 in let none = other.2 in absurd cc) unbuilt

-- the target of an assignment that is built isn't refused
assignee-is-no-unbuilt : (source : Source) (to : Assignee) → IsBuiltAssignee source to → IsUnbuiltAssignee source to → ⊥
assignee-is-no-unbuilt source (ByPattern pat) built unbuilt = target-is-no-unbuilt source pat built unbuilt
assignee-is-no-unbuilt source (ByPlace e) built unbuilt = false≢true (sym unbuilt ∙ built)

-- and neither is that of a compound one
assigned-is-no-unbuilt : (source : Source) (to : Assigned) → IsBuiltAssigned source to → IsUnbuiltAssigned source to → ⊥
assigned-is-no-unbuilt source (ByPath e) built unbuilt = operand-is-no-unbuilt source e built unbuilt
assigned-is-no-unbuilt source (ByField base index) built unbuilt = unbuilt

-- a call that is built names a function, and enters its own body
call-is-no-unbuilt : (source : Source) (e : ℕ) (callee : Option ℕ) → CallsFunction source e callee → IsUnbuiltCall source e callee → ⊥
call-is-no-unbuilt source e callee built unbuilt =
    ⊎_elim (λ none. let names = built.names in absurd cc) (λ other.
    let names = built.names in
    let is = other.1 in
    let same : built.id ≡ other.0 = cc in
    let both : true ≡ false = sym built.direct ∙ ap (λ (id : FunctionId). is_direct (function_row source.world id)) same ∙ other.2 in
    absurd cc) unbuilt

pub built-is-no-unbuilt : (source : Source) (e : ℕ) (form : Option CoreExpr) → IsBuiltForm source e form → IsUnbuilt source e form → ⊥
built-is-no-unbuilt source e (Some (expr.Literal l)) built unbuilt = unbuilt
built-is-no-unbuilt source e (Some (expr.Path name)) built unbuilt =
    let one = built.named in
    let other = unbuilt.1 in
    let same : LocalBinding built.binding ≡ unbuilt.0 = cc in
    let none = ap local_named same ∙ unbuilt.2 in
    absurd cc
built-is-no-unbuilt source e (Some expr.UnitStruct) built unbuilt = unbuilt
built-is-no-unbuilt source e (Some (expr.Field base field)) built unbuilt = unbuilt
built-is-no-unbuilt source e (Some (expr.Strict operation operands)) built unbuilt = unbuilt
built-is-no-unbuilt source e (Some (expr.Update base id args sources operands)) built unbuilt = unbuilt
built-is-no-unbuilt source e (Some (expr.Logic op left right)) built unbuilt = unbuilt
built-is-no-unbuilt source e (Some (expr.If condition then_branch else_branch)) built unbuilt = unbuilt
built-is-no-unbuilt source e (Some (expr.Assign to value)) built unbuilt = assignee-is-no-unbuilt source to built unbuilt
built-is-no-unbuilt source e (Some (expr.Compound op to value)) built unbuilt = assigned-is-no-unbuilt source to built unbuilt
built-is-no-unbuilt source e (Some (expr.Block statements tail)) built unbuilt =
    built-statement source unbuilt.0 (All-contains (IsBuiltStatement source) statements unbuilt.0 built unbuilt.1) unbuilt.2
built-is-no-unbuilt source e (Some (expr.Labelled label statements tail)) built unbuilt =
    built-statement source unbuilt.0 (All-contains (IsBuiltStatement source) statements unbuilt.0 built unbuilt.1) unbuilt.2
built-is-no-unbuilt source e (Some (expr.Loop label body)) built unbuilt = unbuilt
built-is-no-unbuilt source e (Some (expr.Break label value)) built unbuilt = unbuilt
built-is-no-unbuilt source e (Some (expr.Continue label)) built unbuilt = unbuilt
built-is-no-unbuilt source e (Some (expr.Return value)) built unbuilt = unbuilt
built-is-no-unbuilt source e (Some (expr.Call callee args)) built unbuilt = call-is-no-unbuilt source e callee built unbuilt
built-is-no-unbuilt source e None built unbuilt = built

-- two bindings that stand in one place are one
one-binding : (source : Source) (b other : BindingId) (ty : _) → b ≡ other → binding_type source b.0 ≡ Some ty → binding_type source other.0 ≡ None → ⊥
one-binding source b other ty same has none =
    let lacks : binding_type source b.0 ≡ None = ap (λ (id : BindingId). binding_type source id.0) same ∙ none in
    absurd cc

statement-binds : (source : Source) (one : Statement) → IsBuiltStatement source one → LetBindsNone source one → ⊥
statement-binds source (statement.Let pat (Some e) None) built lacks =
    one-binding source built.binding lacks.0 built.there.ty (let one = built.bound in let other = lacks.1 in let same : built.binding ≡ lacks.0 = cc in same) built.there.typed lacks.2
statement-binds source (statement.Let pat (Some e) (Some other)) built lacks = built
statement-binds source (statement.Let pat None other) built lacks = built
statement-binds source (statement.Expr e has_semi) built lacks = lacks
statement-binds source statement.Item built lacks = lacks

assignee-has-local : (source : Source) (to : Assignee) → IsBuiltAssignee source to → AssigneeLacks source to → ⊥
assignee-has-local source (ByPattern pat) built lacks =
    one-binding source built.binding lacks.0 built.there.ty (let one = built.names in let other = lacks.1 in let same : built.binding ≡ lacks.0 = cc in same) built.there.typed lacks.2
assignee-has-local source (ByPlace e) built lacks = lacks

assigned-has-local : (source : Source) (to : Assigned) → IsBuiltAssigned source to → AssignedLacks source to → ⊥
assigned-has-local source (ByPath e) built lacks =
    one-binding source built.binding lacks.0 built.there.ty (let one = built.names in let other = lacks.1 in let same : built.binding ≡ lacks.0 = cc in same) built.there.typed lacks.2
assigned-has-local source (ByField base index) built lacks = lacks

pub built-has-local : (source : Source) (e : ℕ) (form : Option CoreExpr) → IsBuiltForm source e form → LacksLocal source e form → ⊥
built-has-local source e (Some (expr.Path name)) built lacks =
    one-binding source built.binding lacks.0 built.there.ty (let one = built.named in let other = lacks.1 in let same : built.binding ≡ lacks.0 = cc in same) built.there.typed lacks.2
built-has-local source e (Some (expr.Assign to value)) built lacks = assignee-has-local source to built lacks
built-has-local source e (Some (expr.Compound op to value)) built lacks = assigned-has-local source to built lacks
built-has-local source e (Some (expr.Block statements tail)) built lacks =
    statement-binds source lacks.0 (All-contains (IsBuiltStatement source) statements lacks.0 built lacks.1) lacks.2
built-has-local source e (Some (expr.Labelled label statements tail)) built lacks =
    statement-binds source lacks.0 (All-contains (IsBuiltStatement source) statements lacks.0 built lacks.1) lacks.2
built-has-local source e (Some (expr.Loop label body)) built lacks = lacks
built-has-local source e (Some (expr.Break label value)) built lacks = lacks
built-has-local source e (Some (expr.Continue label)) built lacks = lacks
built-has-local source e (Some (expr.Return value)) built lacks = lacks
built-has-local source e (Some (expr.Call callee args)) built lacks = lacks
built-has-local source e (Some (expr.Literal l)) built lacks = lacks
built-has-local source e (Some expr.UnitStruct) built lacks = lacks
built-has-local source e (Some (expr.Update base id args sources operands)) built lacks = lacks
built-has-local source e (Some (expr.Field base field)) built lacks = lacks
built-has-local source e (Some (expr.Strict operation operands)) built lacks = lacks
built-has-local source e (Some (expr.Logic op left right)) built lacks = lacks
built-has-local source e (Some (expr.If condition then_branch else_branch)) built lacks = lacks
built-has-local source e None built lacks = lacks

-- a target that is built is resolved, where it is a path
assignee-is-resolved : (source : Source) (to : Assignee) (name : List ℕ) → IsBuiltAssignee source to → AssigneeIsUnresolved source to name → ⊥
assignee-is-resolved source (ByPattern pat) name built unresolved =
    let names = target-names source pat built.binding (target_path source pat) (pattern_named_by source pat) built.names in
    let none = ap (option_and_then local_named) (sym unresolved.1) ∙ names.1 in
    absurd cc
assignee-is-resolved source (ByPlace e) name built unresolved = unresolved

assigned-is-resolved : (source : Source) (to : Assigned) (name : List ℕ) → IsBuiltAssigned source to → AssignedIsUnresolved source to name → ⊥
assigned-is-resolved source (ByPath e) name built unresolved =
    let names = target-names source e built.binding (compound_path source e) (named_by source e) built.names in
    let none = ap (option_and_then local_named) (sym unresolved.1) ∙ names.1 in
    absurd cc
assigned-is-resolved source (ByField base index) name built unresolved = unresolved

-- a path that is built is resolved, and so is the target of an assignment
pub built-is-resolved : (source : Source) (e : ℕ) (form : Option CoreExpr) (name : List ℕ) → IsBuiltForm source e form → IsUnresolved source e form name → ⊥
built-is-resolved source e (Some (expr.Path given)) name built unresolved = let is = built.named in let none = unresolved.1 in absurd cc
built-is-resolved source e (Some (expr.Assign to value)) name built unresolved = assignee-is-resolved source to name built unresolved
built-is-resolved source e (Some (expr.Compound op to value)) name built unresolved = assigned-is-resolved source to name built unresolved
built-is-resolved source e (Some (expr.Literal l)) name built unresolved = unresolved
built-is-resolved source e (Some expr.UnitStruct) name built unresolved = unresolved
built-is-resolved source e (Some (expr.Update base id args sources operands)) name built unresolved = unresolved
built-is-resolved source e (Some (expr.Field base field)) name built unresolved = unresolved
built-is-resolved source e (Some (expr.Strict operation operands)) name built unresolved = unresolved
built-is-resolved source e (Some (expr.Logic op left right)) name built unresolved = unresolved
built-is-resolved source e (Some (expr.If condition then_branch else_branch)) name built unresolved = unresolved
built-is-resolved source e (Some (expr.Block statements tail)) name built unresolved = unresolved
built-is-resolved source e (Some (expr.Labelled label statements tail)) name built unresolved = unresolved
built-is-resolved source e (Some (expr.Loop label body)) name built unresolved = unresolved
built-is-resolved source e (Some (expr.Break label value)) name built unresolved = unresolved
built-is-resolved source e (Some (expr.Continue label)) name built unresolved = unresolved
built-is-resolved source e (Some (expr.Return value)) name built unresolved = unresolved
built-is-resolved source e (Some (expr.Call callee args)) name built unresolved = unresolved
built-is-resolved source e None name built unresolved = unresolved

-- one that makes an array has the type of one
pub built-has-array : (source : Source) (e : ℕ) (form : Option CoreExpr) (text : List ℕ) → IsBuiltForm source e form → IsNoArray source e form text → ⊥
built-has-array source e (Some (expr.Strict MakeArray operands)) text built none = none.1 built
built-has-array source e (Some (expr.Strict Repeat operands)) text built none = none.1 built
built-has-array source e (Some (expr.Strict Negate operands)) text built none = none
built-has-array source e (Some (expr.Strict Invert operands)) text built none = none
built-has-array source e (Some (expr.Strict Keep operands)) text built none = none
built-has-array source e (Some (expr.Strict Convert operands)) text built none = none
built-has-array source e (Some (expr.Strict (Combine op) operands)) text built none = none
built-has-array source e (Some (expr.Strict MakeTuple operands)) text built none = none
built-has-array source e (Some (expr.Strict (MakeStruct id args places) operands)) text built none = none
built-has-array source e (Some (expr.Literal l)) text built none = none
built-has-array source e (Some (expr.Path name)) text built none = none
built-has-array source e (Some expr.UnitStruct) text built none = none
built-has-array source e (Some (expr.Update base id args sources operands)) text built none = none
built-has-array source e (Some (expr.Field base field)) text built none = none
built-has-array source e (Some (expr.Logic op left right)) text built none = none
built-has-array source e (Some (expr.If condition then_branch else_branch)) text built none = none
built-has-array source e (Some (expr.Assign to value)) text built none = none
built-has-array source e (Some (expr.Compound op to value)) text built none = none
built-has-array source e (Some (expr.Block statements tail)) text built none = none
built-has-array source e (Some (expr.Labelled label statements tail)) text built none = none
built-has-array source e (Some (expr.Loop label body)) text built none = none
built-has-array source e (Some (expr.Break label value)) text built none = none
built-has-array source e (Some (expr.Continue label)) text built none = none
built-has-array source e (Some (expr.Return value)) text built none = none
built-has-array source e (Some (expr.Call callee args)) text built none = none
built-has-array source e None text built none = none
