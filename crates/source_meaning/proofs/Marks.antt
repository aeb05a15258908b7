-- The cells that come into use, by the listing of events.
use Rattle.std.specs.Prelude.{flat_map, Contains}
use Rattle.std.proofs.Common.{◌≡◌, ℕ, zero, suc, ◌<◌, Bool, true, false, cond, List, [], ◌∷◌, ◌++◌, length, map, Option, Some, None, refl, sym, ap, ap₂, ◌∙◌, subst, append_assoc, append-nil, arith}
use Rattle.std.proofs.lemmas.List.Concat.{flat_map-append}
use Rattle.std.proofs.lemmas.List.Elements.{Contains-append_left, Contains-append_right}
use Rattle.types.specs.declared.ids.BindingId.{BindingId}
use Rattle.types.specs.declared.ids.ExprId.{ExprId}
use Rattle.types.specs.declared.ids.FieldId.{FieldId}
use Rattle.types.specs.declared.ids.LabelId.{LabelId}
use Rattle.types.specs.declared.ids.PatId.{PatId}
use Rattle.types.specs.declared.operators.LogicOp.{LogicOp}
use Rattle.types.specs.declared.ids.StructId.{StructId}
use Rattle.types.specs.declared.ty.GenericArgs.{GenericArgs}
use Rattle.world.specs.declared.body.Statement.{Statement}
use Rattle.world.specs.declared.body.Statement.TheVariants as statement
use Rattle.world.specs.Checked.{IsCheckedBody}
use Rattle.numbers.specs.declared.operator.Operator.{Operator}
use Rattle.source_meaning.specs.Structs.{FieldSource}
use Rattle.source_meaning.specs.Core.{Assigned, Assignee, ByField, ByPath, ByPattern, ByPlace, CoreExpr, CoreLiteral, ElementAt, FieldOf, Operation, Part, PlaceElem, Literal, Path, UnitStruct, Field, Strict, Update, Logic, If, Assign, Compound, Block, Labelled, Loop, Break, Continue, Return, Call, is_literal, is_path, is_place}
use Rattle.source_meaning.specs.Events.{Event, Opens, Marks, Closes, own_mark, place_events, operand_events, step_events, form_events, events_in, events, events_through, Scopes, after_event, scopes_after, innermost, marks_of, marked, marked_itself, marked_as_place, marked_as_operand, marked_by_assigned, marked_by_assignee, marked_by_elem, marked_by_statement, marked_by_tail, marked_in_block}
use Rattle.source_meaning.specs.Laws.{ScopesNest}
use Rattle.source_meaning.specs.Source.{Source, Cell, IndexOf, Node, Binding, Never, node, unadjusted, diverges, never_marks, pattern, bound_by}
use Rattle.source_meaning.specs.Steps.{Step, Operand, Place, Into, Index, Bind, Open, Close, statement_steps, tail_steps, block_steps, elem_steps, field_steps, assigned_steps, assignee_steps, steps_of, step_part, parts_of}
use Rattle.source_meaning.proofs.Core.{part_is_below}
use Rattle.source_meaning.proofs.Never.{unadjusted-plain}
use Rattle.source_meaning.proofs.Parts.{first_is_contained}

-- the scopes after events in a row
pub scopes-append : (scopes : Scopes) (first rest : List Event) → scopes_after scopes (first ++ rest) ≡ scopes_after (scopes_after scopes first) rest
unfolding scopes_after
scopes-append scopes [] rest = refl
scopes-append scopes (event ∷ more) rest = scopes-append (after_event scopes event) more rest

-- events that close what they open: they leave the open scopes as they were, but for what they mark in the innermost one
abbrev pub IsClosed : List Event → Type 0
IsClosed listed = (inner : List Cell) (outer : Scopes) → scopes_after (inner ∷ outer) listed ≡ (inner ++ marks_of listed) ∷ outer

none_is_closed : IsClosed []
unfolding scopes_after marks_of
none_is_closed inner outer = ap (λ cells. cells ∷ outer) (sym (append-nil inner))

mark_is_closed : (cell : Cell) → IsClosed (Marks cell ∷ [])
unfolding scopes_after marks_of
mark_is_closed cell inner outer = refl

pub marks-append : (first rest : List Event) → IsClosed first → IsClosed rest → marks_of (first ++ rest) ≡ marks_of first ++ marks_of rest
unfolding marks_of
marks-append first rest closed closed' =
    ap innermost (scopes-append ([] ∷ []) first rest ∙ ap (λ scopes. scopes_after scopes rest) (closed [] []) ∙ closed' (marks_of first) [])

append_is_closed : (first rest : List Event) → IsClosed first → IsClosed rest → IsClosed (first ++ rest)
append_is_closed first rest closed closed' inner outer =
    scopes-append (inner ∷ outer) first rest ∙ ap (λ scopes. scopes_after scopes rest) (closed inner outer) ∙ closed' (inner ++ marks_of first) outer
    ∙ ap (λ cells. cells ∷ outer) (append_assoc inner (marks_of first) (marks_of rest) ∙ ap (λ cells. inner ++ cells) (sym (marks-append first rest closed closed')))

-- a scope that opens and closes marks nothing around it
scope_leaves : (listed : List Event) → IsClosed listed → (scopes : Scopes) → scopes_after scopes (Opens ∷ (listed ++ Closes ∷ [])) ≡ scopes
unfolding scopes_after
scope_leaves listed closed scopes =
    scopes-append ([] ∷ scopes) listed (Closes ∷ []) ∙ ap (λ inside. scopes_after inside (Closes ∷ [])) (closed [] scopes)

pub scope_marks : (listed : List Event) → IsClosed listed → marks_of (Opens ∷ (listed ++ Closes ∷ [])) ≡ []
unfolding marks_of
scope_marks listed closed = ap innermost (scope_leaves listed closed ([] ∷ []))

scope_is_closed : (listed : List Event) → IsClosed listed → IsClosed (Opens ∷ (listed ++ Closes ∷ []))
scope_is_closed listed closed inner outer =
    scope_leaves listed closed (inner ∷ outer)
    ∙ ap (λ cells. cells ∷ outer) (sym (append-nil inner) ∙ ap (λ cells. inner ++ cells) (sym (scope_marks listed closed)))

either_is_closed : (test : Bool) (one other : List Event) → IsClosed one → IsClosed other → IsClosed (cond test one other)
either_is_closed true one other closed closed' = closed
either_is_closed false one other closed closed' = closed'

bind_is_closed : (bound : Option BindingId) → IsClosed (map Marks (bound_by bound))
bind_is_closed (Some id) = mark_is_closed (Binding id.0)
bind_is_closed None = none_is_closed

-- the cell of a `!` is marked, or none is
one_or_none_is_closed : (test : Bool) (cell : Cell) → IsClosed (map Marks (cond test (cell ∷ []) []))
one_or_none_is_closed true cell = mark_is_closed cell
one_or_none_is_closed false cell = none_is_closed

never_is_closed : (source : Source) (e : ℕ) → IsClosed (map Marks (never_marks source e))
never_is_closed source e = one_or_none_is_closed (diverges source e) (Never e)

-- an expression's own cell is marked, or none is
own_mark_is_closed : (has_none : Bool) (e : ℕ) → IsClosed (own_mark has_none e)
own_mark_is_closed true e = none_is_closed
own_mark_is_closed false e = mark_is_closed (Node e)

-- the events of each form close what they open, where those of its parts do
module _ (source : Source) (below : ℕ → List Event) (closed : (e : ℕ) → IsClosed (below e)) where
  place_is_closed : (e : ℕ) → IsClosed (place_events source below e)
  place_is_closed e =
      let own = own_mark (is_place (unadjusted source e)) e in
      either_is_closed (is_path (unadjusted source e)) [] (own ++ below e) none_is_closed (append_is_closed own (below e) (own_mark_is_closed (is_place (unadjusted source e)) e) (closed e))

  operand_is_closed : (e : ℕ) → IsClosed (operand_events source below e)
  operand_is_closed e = either_is_closed (is_literal (unadjusted source e)) [] (place_events source below e) none_is_closed (place_is_closed e)

  operands_are_closed : (operands : List ℕ) → IsClosed (flat_map (step_events source below) (map Operand operands))
  operands_are_closed [] = none_is_closed
  operands_are_closed (e ∷ rest) = append_is_closed (operand_events source below e) (flat_map (step_events source below) (map Operand rest)) (operand_is_closed e) (operands_are_closed rest)

  let_is_closed : (e pat : ℕ) → IsClosed (flat_map (step_events source below) (Place e ∷ Bind pat ∷ []))
  let_is_closed e pat =
      append_is_closed (place_events source below e) (flat_map (step_events source below) (Bind pat ∷ [])) (place_is_closed e)
      (append_is_closed (map Marks (bound_by (pattern source pat))) [] (bind_is_closed (pattern source pat)) none_is_closed)

  expression_is_closed : (e : ℕ) → IsClosed (flat_map (step_events source below) (Open ∷ Place e ∷ Close ∷ []))
  expression_is_closed e = scope_is_closed (place_events source below e) (place_is_closed e)

  statement_is_closed : (one : Statement) → IsClosed (flat_map (step_events source below) (statement_steps one))
  statement_is_closed (statement.Let pat (Some e) None) = let_is_closed e.0 pat.0
  statement_is_closed (statement.Let pat (Some e) (Some other)) = none_is_closed
  statement_is_closed (statement.Let pat None other) = none_is_closed
  statement_is_closed (statement.Expr e has_semi) = expression_is_closed e.0
  statement_is_closed statement.Item = none_is_closed

  statements_are_closed : (statements : List Statement) → IsClosed (flat_map (step_events source below) (flat_map statement_steps statements))
  statements_are_closed [] = none_is_closed
  statements_are_closed (first ∷ rest) =
      subst IsClosed (sym (flat_map-append (step_events source below) (statement_steps first) (flat_map statement_steps rest)))
      (append_is_closed (flat_map (step_events source below) (statement_steps first)) (flat_map (step_events source below) (flat_map statement_steps rest)) (statement_is_closed first) (statements_are_closed rest))

  tail_is_closed : (tail : Option ExprId) → IsClosed (flat_map (step_events source below) (tail_steps tail))
  tail_is_closed (Some e) = append_is_closed (below e.0) [] (closed e.0) none_is_closed
  tail_is_closed None = none_is_closed

  logic_is_closed : (left right : ℕ) → IsClosed (flat_map (step_events source below) (Operand left ∷ Into right ∷ []))
  logic_is_closed left right =
      append_is_closed (operand_events source below left) (flat_map (step_events source below) (Into right ∷ [])) (operand_is_closed left)
      (append_is_closed (below right) [] (closed right) none_is_closed)

  branches_are_closed : (then_branch : ℕ) (else_branch : Option ExprId) → IsClosed (flat_map (step_events source below) (Into then_branch ∷ tail_steps else_branch))
  branches_are_closed then_branch else_branch = append_is_closed (below then_branch) (flat_map (step_events source below) (tail_steps else_branch)) (closed then_branch) (tail_is_closed else_branch)

  if_is_closed : (condition then_branch : ℕ) (else_branch : Option ExprId) → IsClosed (flat_map (step_events source below) (Operand condition ∷ Into then_branch ∷ tail_steps else_branch))
  if_is_closed condition then_branch else_branch =
      append_is_closed (operand_events source below condition) (flat_map (step_events source below) (Into then_branch ∷ tail_steps else_branch)) (operand_is_closed condition) (branches_are_closed then_branch else_branch)

  base_is_closed : (base : ℕ) → IsClosed (flat_map (step_events source below) (Place base ∷ []))
  base_is_closed base = append_is_closed (place_events source below base) [] (place_is_closed base) none_is_closed

  -- an index marks its cell first
  index_is_closed : (e index : ℕ) → IsClosed (Marks (IndexOf e) ∷ below index)
  index_is_closed e index = append_is_closed (Marks (IndexOf e) ∷ []) (below index) (mark_is_closed (IndexOf e)) (closed index)

  elem_is_closed : (elem : PlaceElem) → IsClosed (flat_map (step_events source below) (elem_steps elem))
  elem_is_closed (Part index) = none_is_closed
  elem_is_closed (FieldOf field) = none_is_closed
  elem_is_closed (ElementAt e index) = append_is_closed (Marks (IndexOf e) ∷ below index) [] (index_is_closed e index) none_is_closed

  field_is_closed : (base : ℕ) (elem : PlaceElem) → IsClosed (flat_map (step_events source below) (field_steps base elem))
  field_is_closed base elem = append_is_closed (place_events source below base) (flat_map (step_events source below) (elem_steps elem)) (place_is_closed base) (elem_is_closed elem)

  assignee_is_closed : (to : Assignee) → IsClosed (flat_map (step_events source below) (assignee_steps to))
  assignee_is_closed (ByPattern pat) = none_is_closed
  assignee_is_closed (ByPlace e) = base_is_closed e

  assigned_is_closed : (to : Assigned) → IsClosed (flat_map (step_events source below) (assigned_steps to))
  assigned_is_closed (ByPath e) = none_is_closed
  assigned_is_closed (ByField base elem) = field_is_closed base elem

  assign_is_closed : (to : Assignee) (value : ℕ) → IsClosed (flat_map (step_events source below) (Place value ∷ assignee_steps to))
  assign_is_closed to value = append_is_closed (place_events source below value) (flat_map (step_events source below) (assignee_steps to)) (place_is_closed value) (assignee_is_closed to)

  -- the events of a compound assignment
  compound_events_are : (op : Operator) (to : Assigned) (value : ℕ) →
      form_events source below (Some (Compound op to value)) ≡ flat_map (step_events source below) (assigned_steps to) ++ flat_map (step_events source below) (map Operand (value ∷ []))
  compound_events_are op to value = flat_map-append (step_events source below) (assigned_steps to) (Operand value ∷ [])

  compound_is_closed : (op : Operator) (to : Assigned) (value : ℕ) → IsClosed (form_events source below (Some (Compound op to value)))
  compound_is_closed op to value =
      subst IsClosed (sym (compound_events_are op to value))
      (append_is_closed (flat_map (step_events source below) (assigned_steps to)) (flat_map (step_events source below) (map Operand (value ∷ []))) (assigned_is_closed to) (operands_are_closed (value ∷ [])))

  update_is_closed : (base : ℕ) (operands : List ℕ) → IsClosed (flat_map (step_events source below) (Place base ∷ map Operand operands))
  update_is_closed base operands = append_is_closed (place_events source below base) (flat_map (step_events source below) (map Operand operands)) (place_is_closed base) (operands_are_closed operands)

  inner_is_closed : (statements : List Statement) (tail : Option ExprId) → IsClosed (flat_map (step_events source below) (block_steps statements tail))
  inner_is_closed statements tail =
      subst IsClosed (sym (flat_map-append (step_events source below) (flat_map statement_steps statements) (tail_steps tail)))
      (append_is_closed (flat_map (step_events source below) (flat_map statement_steps statements)) (flat_map (step_events source below) (tail_steps tail)) (statements_are_closed statements) (tail_is_closed tail))

  -- the events of a block
  block_events_are : (statements : List Statement) (tail : Option ExprId) → form_events source below (Some (Block statements tail)) ≡ Opens ∷ (flat_map (step_events source below) (block_steps statements tail) ++ Closes ∷ [])
  block_events_are statements tail = ap (λ rest. Opens ∷ rest) (flat_map-append (step_events source below) (block_steps statements tail) (Close ∷ []))

  form_is_closed : (form : Option CoreExpr) → IsClosed (form_events source below form)
  form_is_closed (Some (Literal given)) = none_is_closed
  form_is_closed (Some (Path name)) = none_is_closed
  form_is_closed (Some UnitStruct) = none_is_closed
  form_is_closed (Some (Field base elem)) = field_is_closed base elem
  form_is_closed (Some (Strict operation operands)) = operands_are_closed operands
  form_is_closed (Some (Update base id args sources operands)) = update_is_closed base operands
  form_is_closed (Some (Logic op left right)) = logic_is_closed left right
  form_is_closed (Some (If condition then_branch else_branch)) = if_is_closed condition then_branch else_branch
  form_is_closed (Some (Assign to value)) = assign_is_closed to value
  form_is_closed (Some (Compound op to value)) = compound_is_closed op to value
  form_is_closed (Some (Block statements tail)) =
      subst IsClosed (sym (block_events_are statements tail)) (scope_is_closed (flat_map (step_events source below) (block_steps statements tail)) (inner_is_closed statements tail))
  form_is_closed (Some (Labelled label statements tail)) =
      subst IsClosed (sym (block_events_are statements tail)) (scope_is_closed (flat_map (step_events source below) (block_steps statements tail)) (inner_is_closed statements tail))
  form_is_closed (Some (Loop label body)) = expression_is_closed body
  form_is_closed (Some (Break label value)) = tail_is_closed value
  form_is_closed (Some (Continue label)) = none_is_closed
  form_is_closed (Some (Return value)) = tail_is_closed value
  form_is_closed (Some (Call callee args)) = operands_are_closed args
  form_is_closed None = none_is_closed

events_in_are_closed : (source : Source) (depth e : ℕ) → IsClosed (events_in depth source e)
unfolding events_in
events_in_are_closed source zero e = none_is_closed
events_in_are_closed source (suc depth) e =
    append_is_closed (map Marks (never_marks source e)) (form_events source (events_in depth source) (node source e)) (never_is_closed source e)
    (form_is_closed source (events_in depth source) (events_in_are_closed source depth) (node source e))

pub events_are_closed : (source : Source) (e : ℕ) → IsClosed (events source e)
unfolding events
events_are_closed source e = events_in_are_closed source (length source.body.exprs) e

of_expression : (source : Source) (e : ℕ) (inner : List Cell) (outer : Scopes) → scopes_after (inner ∷ outer) (events source e) ≡ (inner ++ marked source e) ∷ outer
unfolding marked
of_expression source e inner outer = events_are_closed source e inner outer

pub scopes_nest : ScopesNest
scopes_nest = record { in_order = scopes-append; of_expression = of_expression }

-- The depth changes nothing, where it is above the expression's number.

step_events_same : (source : Source) (below other : ℕ → List Event) (steps : List Step) → ((child : ℕ) → Contains (flat_map step_part steps) child → below child ≡ other child) → flat_map (step_events source below) steps ≡ flat_map (step_events source other) steps
step_events_same source below other [] same = refl
step_events_same source below other (first ∷ rest) same =
    ap₂ ◌++◌ (step_same first (λ child within. same child (Contains-append_left (step_part first) (flat_map step_part rest) child within)))
    (step_events_same source below other rest (λ child within. same child (Contains-append_right (step_part first) (flat_map step_part rest) child within)))
  where
    step_same : (one : Step) → ((child : ℕ) → Contains (step_part one) child → below child ≡ other child) → step_events source below one ≡ step_events source other one
    step_same (Operand e) same = ap (λ inside. cond (is_literal (unadjusted source e)) [] (cond (is_path (unadjusted source e)) [] (own_mark (is_place (unadjusted source e)) e ++ inside))) (same e (first_is_contained e []))
    step_same (Place e) same = ap (λ inside. cond (is_path (unadjusted source e)) [] (own_mark (is_place (unadjusted source e)) e ++ inside)) (same e (first_is_contained e []))
    step_same (Into e) same = same e (first_is_contained e [])
    step_same (Index e index) same = ap (λ inside. Marks (IndexOf e) ∷ inside) (same index (first_is_contained index []))
    step_same (Bind pat) same = refl
    step_same Open same = refl
    step_same Close same = refl

form_events_same : (source : Source) (below other : ℕ → List Event) (form : Option CoreExpr) → ((child : ℕ) → Contains (parts_of form) child → below child ≡ other child) → form_events source below form ≡ form_events source other form
form_events_same source below other (Some form) same = step_events_same source below other (steps_of form) same
form_events_same source below other None same = refl

events_at_any_depth : (source : Source) → IsCheckedBody source.body source.infer → (depth other e : ℕ) → e < depth → e < other → events_in depth source e ≡ events_in other source e
unfolding events_in
events_at_any_depth source checked zero other e less less' = absurd (omega arith)
events_at_any_depth source checked (suc depth) zero e less less' = absurd (omega arith)
events_at_any_depth source checked (suc depth) (suc other) e less less' =
    ap (λ listed. map Marks (never_marks source e) ++ listed) (form_events_same source (events_in depth source) (events_in other source) (node source e) (λ child within.
    let earlier = part_is_below source checked e child within in
    events_at_any_depth source checked depth other child (omega arith) (omega arith)))

events_in_unroll : (source : Source) → IsCheckedBody source.body source.infer → (depth e : ℕ) → e < depth → events_in depth source e ≡ map Marks (never_marks source e) ++ form_events source (events_in depth source) (node source e)
unfolding events_in
events_in_unroll source checked zero e less = absurd (omega arith)
events_in_unroll source checked (suc depth) e less =
    ap (λ listed. map Marks (never_marks source e) ++ listed) (form_events_same source (events_in depth source) (events_in (suc depth) source) (node source e) (λ child within.
    let earlier = part_is_below source checked e child within in
    events_at_any_depth source checked depth (suc depth) child (omega arith) (omega arith)))

-- the events of an expression, by those of its parts
pub events_unroll : (source : Source) → IsCheckedBody source.body source.infer → (e : ℕ) → e < length source.body.exprs → events source e ≡ map Marks (never_marks source e) ++ form_events source (events source) (node source e)
unfolding events
events_unroll source checked e less = events_in_unroll source checked (length source.body.exprs) e less

-- The cells that come into use, form by form.

one_mark : (cell : Cell) → marks_of (Marks cell ∷ []) ≡ cell ∷ []
unfolding marks_of scopes_after
one_mark cell = refl

no_marks : marks_of [] ≡ []
unfolding marks_of scopes_after
no_marks = refl

one_or_none_marks : (test : Bool) (cell : Cell) → marks_of (map Marks (cond test (cell ∷ []) [])) ≡ cond test (cell ∷ []) []
one_or_none_marks true cell = one_mark cell
one_or_none_marks false cell = no_marks

bound_marks : (bound : Option BindingId) → marks_of (map Marks (bound_by bound)) ≡ bound_by bound
bound_marks (Some id) = one_mark (Binding id.0)
bound_marks None = no_marks

operands_mark : (source : Source) (operands : List ℕ) → marks_of (events_through source (map Operand operands)) ≡ flat_map (marked_as_operand source) operands
unfolding marked_as_operand
operands_mark source [] = no_marks
operands_mark source (e ∷ rest) =
    marks-append (operand_events source (events source) e) (events_through source (map Operand rest)) (operand_is_closed source (events source) (events_are_closed source) e) (operands_are_closed source (events source) (events_are_closed source) rest)
    ∙ ap (λ cells. marks_of (operand_events source (events source) e) ++ cells) (operands_mark source rest)

statements_mark : (source : Source) (statements : List Statement) → marks_of (events_through source (flat_map statement_steps statements)) ≡ flat_map (marked_by_statement source) statements
unfolding marked_by_statement
statements_mark source [] = no_marks
statements_mark source (first ∷ rest) =
    ap marks_of (flat_map-append (step_events source (events source)) (statement_steps first) (flat_map statement_steps rest))
    ∙ marks-append (events_through source (statement_steps first)) (events_through source (flat_map statement_steps rest)) (statement_is_closed source (events source) (events_are_closed source) first) (statements_are_closed source (events source) (events_are_closed source) rest)
    ∙ ap (λ cells. marks_of (events_through source (statement_steps first)) ++ cells) (statements_mark source rest)

-- what is no place is no path
no_path : (form : Option CoreExpr) → is_place form ≡ false → is_path form ≡ false
no_path (Some (Path name)) is = is
no_path (Some (Field base field)) is = refl
no_path _ is = refl

-- an expression that is no path marks its own cell, where it has one, and what it is made of
no_path_marks : (source : Source) (e : ℕ) (has_none : Bool) → is_path (unadjusted source e) ≡ false → is_place (unadjusted source e) ≡ has_none → marked_as_place source e ≡ marks_of (own_mark has_none e ++ events source e)
unfolding marked_as_place
no_path_marks source e has_none path is =
    ap (λ test. marks_of (cond test [] (own_mark (is_place (unadjusted source e)) e ++ events source e))) path
    ∙ ap (λ test. marks_of (own_mark test e ++ events source e)) is

pub place_marks : (source : Source) (e : ℕ) → is_place (unadjusted source e) ≡ false → marked_as_place source e ≡ Node e ∷ marked source e
unfolding marked
place_marks source e is =
    no_path_marks source e false (no_path (unadjusted source e) is) is
    ∙ marks-append (Marks (Node e) ∷ []) (events source e) (mark_is_closed (Node e)) (events_are_closed source e)
    ∙ ap (λ cells. cells ++ marks_of (events source e)) (one_mark (Node e))

pub path_marks : (source : Source) (e : ℕ) → is_path (unadjusted source e) ≡ true → marked_as_place source e ≡ []
unfolding marked_as_place
path_marks source e is = ap (λ test. marks_of (cond test [] (own_mark (is_place (unadjusted source e)) e ++ events source e))) is ∙ no_marks

pub literal_operand_marks : (source : Source) (e : ℕ) → is_literal (unadjusted source e) ≡ true → marked_as_operand source e ≡ []
unfolding marked_as_operand
literal_operand_marks source e is = ap (λ test. marks_of (cond test [] (place_events source (events source) e))) is ∙ no_marks

pub operand_marks : (source : Source) (e : ℕ) → is_literal (unadjusted source e) ≡ false → marked_as_operand source e ≡ marked_as_place source e
unfolding marked_as_operand marked_as_place
operand_marks source e is = ap (λ test. marks_of (cond test [] (place_events source (events source) e))) is

-- a base and a step from it mark what the base does as a place, and then what the step does
steps_mark : (source : Source) (base : ℕ) (elem : PlaceElem) → marks_of (events_through source (field_steps base elem)) ≡ marked_as_place source base ++ marked_by_elem source elem
unfolding marked_as_place marked_by_elem
steps_mark source base elem =
    marks-append (place_events source (events source) base) (events_through source (elem_steps elem)) (place_is_closed source (events source) (events_are_closed source) base)
    (elem_is_closed source (events source) (events_are_closed source) elem)

-- a step to the part of a tuple or to a field marks nothing
pub no_elem_marks_part : (source : Source) (index : ℕ) → marked_by_elem source (Part index) ≡ []
unfolding marked_by_elem
no_elem_marks_part source index = no_marks

pub no_elem_marks_field : (source : Source) (field : FieldId) → marked_by_elem source (FieldOf field) ≡ []
unfolding marked_by_elem
no_elem_marks_field source field = no_marks

-- and one to an element the cell of its index, and what the index does
pub element_marks : (source : Source) (n index : ℕ) → marked_by_elem source (ElementAt n index) ≡ IndexOf n ∷ marked source index
unfolding marked_by_elem marked
element_marks source n index =
    ap marks_of (append-nil (Marks (IndexOf n) ∷ events source index))
    ∙ marks-append (Marks (IndexOf n) ∷ []) (events source index) (mark_is_closed (IndexOf n)) (events_are_closed source index)
    ∙ ap (λ cells. cells ++ marks_of (events source index)) (one_mark (IndexOf n))

module _ (source : Source) (checked : IsCheckedBody source.body source.infer) (e : ℕ) (less : e < length source.body.exprs) where
  form_marks : (form : Option CoreExpr) → node source e ≡ form → marked_itself source e ≡ marks_of (form_events source (events source) form)
  unfolding marked_itself
  form_marks form is = ap (λ given. marks_of (form_events source (events source) given)) is

  -- the cell of an expression's `!` comes before those of the expression itself
  pub itself_marks : marked source e ≡ never_marks source e ++ marked_itself source e
  unfolding marked marked_itself
  itself_marks =
      ap marks_of (events_unroll source checked e less)
      ∙ marks-append (map Marks (never_marks source e)) (form_events source (events source) (node source e)) (never_is_closed source e)
      (form_is_closed source (events source) (events_are_closed source) (node source e))
      ∙ ap (λ cells. cells ++ marks_of (form_events source (events source) (node source e))) (one_or_none_marks (diverges source e) (Never e))

  pub literal_marks : (given : CoreLiteral) → node source e ≡ Some (Literal given) → marked_itself source e ≡ []
  literal_marks given is = form_marks (Some (Literal given)) is ∙ no_marks

  pub name_marks : (name : List ℕ) → node source e ≡ Some (Path name) → marked_itself source e ≡ []
  name_marks name is = form_marks (Some (Path name)) is ∙ no_marks

  -- a field or an element evaluated into a path marks what its base does as a place, and then what its step does
  pub part_marks : (base : ℕ) (elem : PlaceElem) → node source e ≡ Some (Field base elem) → marked_itself source e ≡ marked_as_place source base ++ marked_by_elem source elem
  part_marks base elem is = form_marks (Some (Field base elem)) is ∙ steps_mark source base elem

  -- and so does one as a place
  pub field_marks : (base : ℕ) (elem : PlaceElem) → unadjusted source e ≡ Some (Field base elem) → marked_as_place source e ≡ marked_as_place source base ++ marked_by_elem source elem
  unfolding marked
  field_marks base elem is =
      let plain = unadjusted-plain source e (Field base elem) is in
      no_path_marks source e true (ap is_path is) (ap is_place is)
      ∙ itself_marks ∙ ap (λ test. cond test (Never e ∷ []) [] ++ marked_itself source e) plain.0
      ∙ part_marks base elem plain.1

  pub strict_marks : (operation : Operation) (operands : List ℕ) → node source e ≡ Some (Strict operation operands) → marked_itself source e ≡ flat_map (marked_as_operand source) operands
  strict_marks operation operands is = form_marks (Some (Strict operation operands)) is ∙ operands_mark source operands

  -- a value of a unit struct marks nothing
  pub unit_marks : node source e ≡ Some UnitStruct → marked_itself source e ≡ []
  unit_marks is = form_marks (Some UnitStruct) is ∙ no_marks

  -- a struct literal with a base marks what that does as a place, and then what its operands do
  pub update_marks : (base : ℕ) (id : StructId) (args : GenericArgs) (sources : List FieldSource) (operands : List ℕ) → node source e ≡ Some (Update base id args sources operands) → marked_itself source e ≡ marked_as_place source base ++ flat_map (marked_as_operand source) operands
  unfolding marked_as_place
  update_marks base id args sources operands is =
      form_marks (Some (Update base id args sources operands)) is
      ∙ marks-append (place_events source (events source) base) (events_through source (map Operand operands)) (place_is_closed source (events source) (events_are_closed source) base)
      (operands_are_closed source (events source) (events_are_closed source) operands)
      ∙ ap (λ cells. marks_of (place_events source (events source) base) ++ cells) (operands_mark source operands)

  pub call_marks : (callee : Option ℕ) (args : List ℕ) → node source e ≡ Some (Call callee args) → marked_itself source e ≡ flat_map (marked_as_operand source) args
  call_marks callee args is = form_marks (Some (Call callee args)) is ∙ operands_mark source args

  pub logic_marks : (op : LogicOp) (left right : ℕ) → node source e ≡ Some (Logic op left right) → marked_itself source e ≡ marked_as_operand source left ++ marked source right
  unfolding marked_as_operand marked
  logic_marks op left right is =
      form_marks (Some (Logic op left right)) is
      ∙ marks-append (operand_events source (events source) left) (events_through source (Into right ∷ [])) (operand_is_closed source (events source) (events_are_closed source) left)
      (append_is_closed (events source right) [] (events_are_closed source right) none_is_closed)
      ∙ ap (λ inside. marks_of (operand_events source (events source) left) ++ marks_of inside) (append-nil (events source right))

  pub if_marks : (condition then_branch : ℕ) (else_branch : Option ExprId) → node source e ≡ Some (If condition then_branch else_branch) → marked_itself source e ≡ marked_as_operand source condition ++ (marked source then_branch ++ marked_by_tail source else_branch)
  unfolding marked_as_operand marked marked_by_tail
  if_marks condition then_branch else_branch is =
      form_marks (Some (If condition then_branch else_branch)) is
      ∙ marks-append (operand_events source (events source) condition) (events_through source (Into then_branch ∷ tail_steps else_branch)) (operand_is_closed source (events source) (events_are_closed source) condition)
      (branches_are_closed source (events source) (events_are_closed source) then_branch else_branch)
      ∙ ap (λ cells. marks_of (operand_events source (events source) condition) ++ cells)
      (marks-append (events source then_branch) (events_through source (tail_steps else_branch)) (events_are_closed source then_branch) (tail_is_closed source (events source) (events_are_closed source) else_branch))

  -- an assignment marks what its value does as a place, and then what its target does
  pub assign_marks : (to : Assignee) (value : ℕ) → node source e ≡ Some (Assign to value) → marked_itself source e ≡ marked_as_place source value ++ marked_by_assignee source to
  unfolding marked_as_place marked_by_assignee
  assign_marks to value is =
      form_marks (Some (Assign to value)) is
      ∙ marks-append (place_events source (events source) value) (events_through source (assignee_steps to)) (place_is_closed source (events source) (events_are_closed source) value)
      (assignee_is_closed source (events source) (events_are_closed source) to)

  -- a compound assignment marks what its target does, and then what its value does as an operand
  pub compound_marks : (op : Operator) (to : Assigned) (value : ℕ) → node source e ≡ Some (Compound op to value) → marked_itself source e ≡ marked_by_assigned source to ++ marked_as_operand source value
  unfolding marked_as_operand marked_by_assigned
  compound_marks op to value is =
      form_marks (Some (Compound op to value)) is
      ∙ ap marks_of (compound_events_are source (events source) (events_are_closed source) op to value)
      ∙ marks-append (events_through source (assigned_steps to)) (events_through source (map Operand (value ∷ []))) (assigned_is_closed source (events source) (events_are_closed source) to)
      (operands_are_closed source (events source) (events_are_closed source) (value ∷ []))
      ∙ ap (λ inside. marks_of (events_through source (assigned_steps to)) ++ marks_of inside) (append-nil (operand_events source (events source) value))

  pub block_marks : (statements : List Statement) (tail : Option ExprId) → node source e ≡ Some (Block statements tail) → marked_itself source e ≡ []
  block_marks statements tail is =
      form_marks (Some (Block statements tail)) is ∙ ap marks_of (block_events_are source (events source) (events_are_closed source) statements tail)
      ∙ scope_marks (events_through source (block_steps statements tail)) (inner_is_closed source (events source) (events_are_closed source) statements tail)

  pub labelled_marks : (label : LabelId) (statements : List Statement) (tail : Option ExprId) → node source e ≡ Some (Labelled label statements tail) → marked_itself source e ≡ []
  labelled_marks label statements tail is =
      form_marks (Some (Labelled label statements tail)) is ∙ ap marks_of (block_events_are source (events source) (events_are_closed source) statements tail)
      ∙ scope_marks (events_through source (block_steps statements tail)) (inner_is_closed source (events source) (events_are_closed source) statements tail)

  pub loop_marks : (label : Option LabelId) (body : ℕ) → node source e ≡ Some (Loop label body) → marked_itself source e ≡ []
  loop_marks label body is = form_marks (Some (Loop label body)) is ∙ scope_marks (place_events source (events source) body) (place_is_closed source (events source) (events_are_closed source) body)

  pub continue_marks : (label : Option LabelId) → node source e ≡ Some (Continue label) → marked_itself source e ≡ []
  continue_marks label is = form_marks (Some (Continue label)) is ∙ no_marks

  pub break_marks : (label : Option LabelId) (value : Option ExprId) → node source e ≡ Some (Break label value) → marked_itself source e ≡ marked_by_tail source value
  unfolding marked_by_tail
  break_marks label value is = form_marks (Some (Break label value)) is

  pub return_marks : (value : Option ExprId) → node source e ≡ Some (Return value) → marked_itself source e ≡ marked_by_tail source value
  unfolding marked_by_tail
  return_marks value is = form_marks (Some (Return value)) is

-- the target of an assignment marks nothing where it is a path, and else what its expression does as a place
pub pattern_target_marks : (source : Source) (pat : ℕ) → marked_by_assignee source (ByPattern pat) ≡ []
unfolding marked_by_assignee
pattern_target_marks source pat = no_marks

pub place_target_marks : (source : Source) (e : ℕ) → marked_by_assignee source (ByPlace e) ≡ marked_as_place source e
unfolding marked_by_assignee marked_as_place
place_target_marks source e = ap marks_of (append-nil (place_events source (events source) e))

-- that of a compound assignment marks nothing where it is a path, and else what the base does as a place, and what the step from it does
pub path_target_marks : (source : Source) (e : ℕ) → marked_by_assigned source (ByPath e) ≡ []
unfolding marked_by_assigned
path_target_marks source e = no_marks

pub field_target_marks : (source : Source) (base : ℕ) (elem : PlaceElem) → marked_by_assigned source (ByField base elem) ≡ marked_as_place source base ++ marked_by_elem source elem
unfolding marked_by_assigned
field_target_marks source base elem = steps_mark source base elem

pub let_marks : (source : Source) (pat : PatId) (e : ExprId) → marked_by_statement source (statement.Let pat (Some e) None) ≡ marked_as_place source e.0 ++ bound_by (pattern source pat.0)
unfolding marked_by_statement marked_as_place
let_marks source pat e =
    marks-append (place_events source (events source) e.0) (events_through source (Bind pat.0 ∷ [])) (place_is_closed source (events source) (events_are_closed source) e.0) (append_is_closed (map Marks (bound_by (pattern source pat.0))) [] (bind_is_closed (pattern source pat.0)) none_is_closed)
    ∙ ap (λ cells. marks_of (place_events source (events source) e.0) ++ cells) (ap marks_of (append-nil (map Marks (bound_by (pattern source pat.0)))) ∙ bound_marks (pattern source pat.0))

pub expression_marks : (source : Source) (e : ExprId) (has_semi : Bool) → marked_by_statement source (statement.Expr e has_semi) ≡ []
unfolding marked_by_statement
expression_marks source e has_semi = scope_marks (place_events source (events source) e.0) (place_is_closed source (events source) (events_are_closed source) e.0)

pub tail_marks : (source : Source) (e : ExprId) → marked_by_tail source (Some e) ≡ marked source e.0
unfolding marked_by_tail marked
tail_marks source e = ap marks_of (append-nil (events source e.0))

pub no_tail_marks : (source : Source) → marked_by_tail source None ≡ []
unfolding marked_by_tail
no_tail_marks source = no_marks

-- what comes into use in a block's own scope: what does in its statements, and in its tail
pub inner_marks : (source : Source) (statements : List Statement) (tail : Option ExprId) → marked_in_block source statements tail ≡ flat_map (marked_by_statement source) statements ++ marked_by_tail source tail
unfolding marked_in_block marked_by_tail
inner_marks source statements tail =
    ap marks_of (flat_map-append (step_events source (events source)) (flat_map statement_steps statements) (tail_steps tail))
    ∙ marks-append (events_through source (flat_map statement_steps statements)) (events_through source (tail_steps tail)) (statements_are_closed source (events source) (events_are_closed source) statements) (tail_is_closed source (events source) (events_are_closed source) tail)
    ∙ ap (λ cells. cells ++ marks_of (events_through source (tail_steps tail))) (statements_mark source statements)
