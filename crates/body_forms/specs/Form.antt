-- The form of an expression, as far as forms have a meaning.
use Rattle.std.specs.Prelude.{◌≡◌, ℕ, ◌-◌, ◌^◌, false, List, [], ◌∷◌, Option, Some, None, IsSome, option_map, pos}
use Rattle.source_meaning.specs.Core.{Assigned as CoreAssigned, Assignee as CoreAssignee, ByField, ByPath, ByPattern, ByPlace, CoreExpr, CoreLiteral, Findings, Truth, Number, Character, Operation, Negate, Invert, Keep, Convert, Combine, MakeTuple, MakeArray, Repeat, MakeStruct, PlaceElem, Part, FieldOf, ElementAt, core_of, is_place}
use Rattle.source_meaning.specs.Core as expr
use Rattle.source_meaning.specs.Source.{Source, node, unadjusted}
use Rattle.source_meaning.specs.Structs.{FieldSource as CoreSource, StructAt as CoreStruct, Written, OfBase, all_places, all_sources, places_in_order}
use Rattle.types.specs.declared.ids.FieldId.{FieldId}
use Rattle.world.specs.Nodes.{expr_numbers, field_numbers}
use Rattle.world.specs.declared.expr.Expr.{Expr}
use Rattle.world.specs.declared.items.FieldRow.{FieldRow}
use Rattle.either.specs.declared.Either.TheVariants.{Left, Right}
use Rattle.mir.specs.Elements.{PlaceElem as GraphElem}
use Rattle.mir.specs.declared.projection.ProjectionElem.TheVariants.{Field}
use Rattle.mir.specs.declared.operand.UnOp.{UnOp}
use Rattle.mir.specs.declared.operand.UnOp.TheVariants as one
use Rattle.body_forms.specs.declared.form.Assigned.{Assigned}
use Rattle.body_forms.specs.declared.form.Assigned.TheVariants as assigned
use Rattle.body_forms.specs.declared.form.Assignee.{Assignee}
use Rattle.body_forms.specs.declared.form.Assignee.TheVariants as assignee
use Rattle.body_forms.specs.declared.form.FieldStep.{FieldStep}
use Rattle.body_forms.specs.declared.form.FieldStep.TheVariants as step
use Rattle.body_forms.specs.declared.form.Form.{Form}
use Rattle.body_forms.specs.declared.form.Form.TheVariants as form
use Rattle.body_forms.specs.declared.form.PlaceForm.{PlaceForm}
use Rattle.body_forms.specs.declared.form.PlaceForm.TheVariants as place
use Rattle.body_forms.specs.declared.literal.LiteralValue.{LiteralValue}
use Rattle.body_forms.specs.declared.literal.LiteralValue.TheVariants as literal
use Rattle.body_forms.specs.declared.structs.FieldSource.{FieldSource}
use Rattle.body_forms.specs.declared.structs.FieldSource.TheVariants as source
use Rattle.body_forms.specs.declared.structs.FieldExprs.{FieldExprs}
use Rattle.body_forms.specs.declared.structs.FieldExprs.TheVariants as given
use Rattle.body_forms.specs.declared.structs.StructAt.{StructAt}
use Rattle.body_forms.specs.declared.structs.StructLiteral.{StructLiteral}
use Rattle.body_forms.specs.declared.structs.StructValue.{StructValue}
use Rattle.body_forms.specs.Refusals.{IsIncomplete, LacksPart, IsUnbuiltForm}

-- the literal that a value of the code is
abbrev pub core_value : LiteralValue → CoreLiteral
core_value (literal.Truth test) = Truth test
core_value (literal.Signed number) = Number number
core_value (literal.Unsigned number) = Number (pos number)
core_value (literal.Character code) = Character code

-- the operation of an operator on one operand
abbrev pub operation_of : UnOp → Operation
operation_of one.Not = Invert
operation_of one.Neg = Negate

-- what may be found out of an expression whose form depends on nothing but itself
abbrev pub no_findings : Findings
no_findings = record { names_unit = false; names_item = false; casts = λ operand. None; field = λ base. None; element = λ base index. None; made = None; constructed = λ callee. None; assignee = λ pat. ByPattern pat.0; assigned = λ e. ByPath e.0 }

-- the step into a value that a step to a field or an element is
abbrev pub core_elem : FieldStep → PlaceElem
core_elem (step.Part index) = Part index
core_elem (step.Field field) = FieldOf field
core_elem (step.Element e index) = ElementAt e.0 index.0

-- A part of a tuple, as the graph has it. Which tuple of its body the part belongs to isn't looked at, and is always the greatest number of 32 bits.
abbrev pub part_elem : (index : ℕ) → GraphElem
part_elem index = Field (Right (record { tuple = 2 ^ 32 - 1; index = index }))

-- a field of a struct, as the graph has it
abbrev pub field_elem : FieldId → GraphElem
field_elem field = Field (Left field)

-- the struct that a literal makes a value of
abbrev pub core_struct : StructAt → CoreStruct
core_struct made = record { id = made.id; args = made.args.now; fields = made.fields.now }

-- the expressions that give the fields of a struct, in the order in which they are evaluated
abbrev pub exprs_given : FieldExprs → List ℕ
exprs_given (given.Named written) = field_numbers written.now
exprs_given (given.InOrder args) = expr_numbers args.now

-- the places of these, in the order of the struct's fields, where there is one for each field, and no other
abbrev pub places_in : List FieldRow → FieldExprs → Option (List ℕ)
places_in fields (given.Named written) = all_places fields written.now
places_in fields (given.InOrder args) = places_in_order fields args.now

abbrev pub places_given : StructValue → Option (List ℕ)
places_given value = places_in value.made.fields.now value.given

-- the strict form that a struct is whose fields are given by expressions
abbrev pub core_value_form : StructValue → Option CoreExpr
core_value_form value = option_map (λ places. expr.Strict (MakeStruct value.made.id value.made.args.now places) (exprs_given value.given)) (places_given value)

-- what gives a field of a struct literal with a base
abbrev pub core_source : FieldSource → CoreSource
core_source (source.Written place) = Written place
core_source (source.OfBase field) = OfBase field

-- what gives the fields of a literal's struct, where the literal has a base
abbrev pub literal_sources : StructLiteral → Option (List CoreSource)
literal_sources literal = all_sources literal.made.id literal.made.fields.now literal.written.now

-- the target of an assignment, and of a compound one
abbrev pub core_assignee : Assignee → CoreAssignee
core_assignee (assignee.Pattern pat) = ByPattern pat.0
core_assignee (assignee.Place e) = ByPlace e.0

abbrev pub core_assigned : Assigned → CoreAssigned
core_assigned (assigned.Path e) = ByPath e.0
core_assigned (assigned.Field base taken) = ByField base.0 (core_elem taken)

-- the form with a meaning that a form of the code is, where it is one
abbrev pub core_form : Form → Option CoreExpr
core_form (form.Literal value) = Some (expr.Literal (core_value value))
core_form (form.Path name) = Some (expr.Path name.now)
core_form form.UnitStruct = Some expr.UnitStruct
core_form (form.Field base taken) = Some (expr.Field base.0 (core_elem taken))
core_form (form.Unary op e) = Some (expr.Strict (operation_of op) (e.0 ∷ []))
core_form (form.Coercion e) = Some (expr.Strict Keep (e.0 ∷ []))
core_form (form.Cast e) = Some (expr.Strict Convert (e.0 ∷ []))
core_form (form.Tuple parts) = Some (expr.Strict MakeTuple (expr_numbers parts.now))
core_form (form.Array elements) = Some (expr.Strict MakeArray (expr_numbers elements.now))
core_form (form.Repeat e) = Some (expr.Strict Repeat (e.0 ∷ []))
core_form (form.Struct value) = core_value_form value
core_form (form.Update literal base) = option_map (λ sources. expr.Update base.0 literal.made.id literal.made.args.now sources (field_numbers literal.written.now)) (literal_sources literal)
core_form (form.Binary op lhs rhs) = Some (expr.Strict (Combine op) (lhs.0 ∷ rhs.0 ∷ []))
core_form (form.Logic op lhs rhs) = Some (expr.Logic op lhs.0 rhs.0)
core_form (form.If condition then_branch else_branch) = Some (expr.If condition.0 then_branch.0 else_branch)
core_form (form.Assign to value) = Some (expr.Assign (core_assignee to) value.0)
core_form (form.Compound op to value) = Some (expr.Compound op (core_assigned to) value.0)
core_form (form.Block statements tail) = Some (expr.Block statements.now tail)
core_form (form.Labelled label statements tail) = Some (expr.Labelled label statements.now tail)
core_form (form.Loop label body) = Some (expr.Loop label body.0)
core_form (form.Break label value) = Some (expr.Break label value)
core_form (form.Continue label) = Some (expr.Continue label)
core_form (form.Return value) = Some (expr.Return value)
core_form (form.Call callee args) = Some (expr.Call (Some callee.0) (expr_numbers args.now))
core_form (form.MethodCall receiver args) = Some (expr.Call None (receiver.0 ∷ expr_numbers args.now))
core_form form.Incomplete = None
core_form form.Unbuilt = None

-- why an expression has no form with a meaning; a struct that has one is given all its fields, or has a base that gives the others
abbrev pub IsCause : Expr → Form → Type 0
IsCause e form.Incomplete = IsIncomplete e
IsCause e form.Unbuilt = IsIncomplete e → ⊥
IsCause e (form.Struct value) = IsSome (places_given value)
IsCause e (form.Update literal base) = IsSome (literal_sources literal)
IsCause e _ = Unit {0}

-- the form of an expression whose value isn't adjusted, by what is found out of it
pub record IsFormOf (found : Findings) (e : Expr) (f : Form) : Type 0 where
  pub core : core_of found e ≡ core_form f
  pub cause : IsCause e f

-- why an expression of a source has no form with a meaning
abbrev pub IsCauseAt : Source → ℕ → Form → Type 0
IsCauseAt source e form.Incomplete = LacksPart source e
IsCauseAt source e form.Unbuilt = IsUnbuiltForm source e
IsCauseAt source e (form.Struct value) = IsSome (places_given value)
IsCauseAt source e (form.Update literal base) = IsSome (literal_sources literal)
IsCauseAt source e _ = Unit {0}

-- the form of an expression of a source
pub record HasForm (source : Source) (e : ℕ) (f : Form) : Type 0 where
  pub core : node source e ≡ core_form f
  pub cause : IsCauseAt source e f

-- what an expression of a source is for those that use its place; an adjusted one is a value
abbrev pub IsPlaceForm : Source → ℕ → PlaceForm → Type 0
IsPlaceForm source e (place.Path name) = unadjusted source e ≡ Some (expr.Path name.now)
IsPlaceForm source e (place.Field base taken) = unadjusted source e ≡ Some (expr.Field base.0 (core_elem taken))
IsPlaceForm source e place.Value = is_place (unadjusted source e) ≡ false
