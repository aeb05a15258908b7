-- A plain expression has a form that is built.
use Rattle.std.proofs.Common.{◌≡◌, ℕ, true, not, ◌&&◌, List, [], ◌∷◌, get_or, Option, Some, None, is_some, ap, ◌∙◌}
use Rattle.types.specs.declared.ids.GenericParamId.{GenericParamId}
use Rattle.types.specs.declared.ids.TraitId.{TraitId}
use Rattle.world.specs.declared.body.Statement.{Statement}
use Rattle.world.specs.declared.body.Statement.TheVariants as statement
use Rattle.world.specs.declared.items.FunctionRow.{FunctionRow}
use Rattle.world.specs.declared.items.Special.{Special}
use Rattle.types.specs.declared.ty.Ty.{Ty}
use Rattle.source_meaning.specs.Built.{are_none, is_direct, IsBuiltAssigned, IsBuiltAssignee, IsBuiltStatement, IsBuiltStrict, IsBuiltForm}
use Rattle.source_meaning.specs.Core.{Assigned, Assignee, ByField, ByPath, ByPattern, ByPlace, CoreExpr, Operation, Negate, Invert, Keep, Convert, Combine, MakeTuple, MakeArray, Repeat, MakeStruct, Literal, Path, UnitStruct, Field, Strict, Update, Logic, If, Assign, Compound, Block, Labelled, Loop, Break, Continue, Return, Call}
use Rattle.source_meaning.specs.Source.{Source, node, own_type}
use Rattle.source_meaning.specs.Valid.{IsTyped, IsPlainAssigned, IsPlainAssignee, IsPlainStatement, HasPlainForm, IsPlainNode}

plain_statement_is_built : (source : Source) (one : Statement) → IsPlainStatement source one → IsBuiltStatement source one
plain_statement_is_built source (statement.Let pat (Some e) None) plain =
    record { binding = plain.binding; bound = plain.binds; there = record { ty = plain.ty; typed = plain.binding_has } }
plain_statement_is_built source (statement.Let pat (Some e) (Some other)) plain = plain
plain_statement_is_built source (statement.Let pat None other) plain = plain
plain_statement_is_built source (statement.Expr e has_semi) plain = plain
plain_statement_is_built source statement.Item plain = plain

direct_row : (row : FunctionRow) → row.generics ≡ [] → row.in_trait ≡ None → row.special ≡ None → is_direct (Some row) ≡ true
direct_row row no_generics no_trait not_special =
    ap (λ (params : List GenericParamId). are_none params && not (is_some row.in_trait) && not (is_some row.special)) no_generics
    ∙ ap (λ (declared : Option TraitId). not (is_some declared) && not (is_some row.special)) no_trait
    ∙ ap (λ (special : Option Special). not (is_some special)) not_special

-- an operation that makes an array is of the type of one
plain_strict_is_built : (source : Source) (e : ℕ) (operation : Operation) (types : List Ty) (ty : Ty) → own_type source e ≡ Some ty → IsTyped source.world operation types ty → IsBuiltStrict source e operation
plain_strict_is_built source e Negate types ty has typed = tt
plain_strict_is_built source e Invert types ty has typed = tt
plain_strict_is_built source e Keep types ty has typed = tt
plain_strict_is_built source e Convert types ty has typed = tt
plain_strict_is_built source e (Combine op) types ty has typed = tt
plain_strict_is_built source e MakeTuple types ty has typed = tt
plain_strict_is_built source e MakeArray types ty has typed = record { element = typed.element; len = typed.len; typed = has ∙ ap Some typed.is }
plain_strict_is_built source e (MakeStruct id args places) types ty has typed = tt
plain_strict_is_built source e Repeat [] ty has typed = absurd typed
plain_strict_is_built source e Repeat (one ∷ []) ty has typed = record { element = one; len = typed.len; typed = has ∙ ap Some typed.is }
plain_strict_is_built source e Repeat (one ∷ other ∷ rest) ty has typed = absurd typed

-- the target of an assignment, and of a compound one
plain_assignee_is_built : (source : Source) (to : Assignee) (ty : Ty) → IsPlainAssignee source to ty → IsBuiltAssignee source to
plain_assignee_is_built source (ByPattern pat) ty plain = record { binding = plain.binding; names = plain.names; there = record { ty = ty; typed = plain.binding_has } }
plain_assignee_is_built source (ByPlace e) ty plain = plain.place

plain_assigned_is_built : (source : Source) (to : Assigned) (ty : Ty) → IsPlainAssigned source to ty → IsBuiltAssigned source to
plain_assigned_is_built source (ByPath e) ty plain = record { binding = plain.binding; names = plain.names; there = record { ty = ty; typed = plain.binding_has } }
plain_assigned_is_built source (ByField base elem) ty plain = tt

plain_form_is_built : (source : Source) (e : ℕ) (form : Option CoreExpr) (ty : Ty) → own_type source e ≡ Some ty → HasPlainForm source e form ty → IsBuiltForm source e form
plain_form_is_built source e (Some (Literal given)) ty has plain = tt
plain_form_is_built source e (Some (Path name)) ty has plain =
    record { binding = plain.binding; named = plain.named; there = record { ty = ty; typed = plain.binding_has } }
plain_form_is_built source e (Some UnitStruct) ty has plain = tt
plain_form_is_built source e (Some (Field base field)) ty has plain = tt
plain_form_is_built source e (Some (Strict operation operands)) ty has plain = plain_strict_is_built source e operation plain.types ty has plain.typed
plain_form_is_built source e (Some (Update base id args sources operands)) ty has plain = tt
plain_form_is_built source e (Some (Logic op left right)) ty has plain = tt
plain_form_is_built source e (Some (If condition then_branch else_branch)) ty has plain = tt
plain_form_is_built source e (Some (Assign to value)) ty has plain = plain_assignee_is_built source to plain.ty plain.assignee
plain_form_is_built source e (Some (Compound op to value)) ty has plain = plain_assigned_is_built source to plain.ty plain.assigned
plain_form_is_built source e (Some (Block statements tail)) ty has plain = λ k d less. plain_statement_is_built source (get_or statements k d) (plain.0 k d less)
plain_form_is_built source e (Some (Labelled label statements tail)) ty has plain = λ k d less. plain_statement_is_built source (get_or statements k d) (plain.0 k d less)
plain_form_is_built source e (Some (Loop label body)) ty has plain = tt
plain_form_is_built source e (Some (Break label value)) ty has plain = tt
plain_form_is_built source e (Some (Continue label)) ty has plain = tt
plain_form_is_built source e (Some (Return value)) ty has plain = tt
plain_form_is_built source e (Some (Call callee args)) ty has plain =
    record { id = plain.id; names = plain.names; direct = ap is_direct plain.found ∙ direct_row plain.row plain.no_generics plain.no_trait plain.not_special }
plain_form_is_built source e None ty has plain = plain

pub plain_is_built : (source : Source) (e : ℕ) → IsPlainNode source e → IsBuiltForm source e (node source e)
plain_is_built source e plain = plain_form_is_built source e (node source e) plain.ty plain.has_type plain.form
