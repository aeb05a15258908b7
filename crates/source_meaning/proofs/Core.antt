-- Each expression that an expression evaluates stands before it.
use Rattle.std.specs.Prelude.{flat_map, Contains}
use Rattle.std.proofs.Common.{⊎_elim, ◌≡◌, ℕ, ◌<◌, Bool, true, false, List, [], ◌∷◌, ◌++◌, ◌&&◌, Option, Some, None, option_map, option_and_then, is_some, slice_get, if◌then◌else◌, refl, sym, ap, ◌∙◌, subst, arith}
use Rattle.std.proofs.lemmas.List.Elements.{All-contains, Contains-append_left, Contains-append_right, Contains-append_cases}
use Rattle.world.specs.declared.body.Statement.{Statement}
use Rattle.world.specs.declared.body.Statement.TheVariants as statement
use Rattle.world.specs.declared.database.HirDatabase.{HirDatabase}
use Rattle.world.specs.declared.expr.Expr.TheVariants as whole
use Rattle.world.specs.declared.expr.Expr.{Expr}
use Rattle.world.specs.declared.expr.RecordLitField.{RecordLitField}
use Rattle.world.specs.declared.expr.RecordSpread.{RecordSpread}
use Rattle.world.specs.declared.expr.RecordSpread.TheVariants as spread
use Rattle.world.specs.declared.pat.Pat.TheVariants as pat
use Rattle.world.specs.declared.pat.Pat.{Pat}
use Rattle.world.specs.Lookups.{expr_of}
use Rattle.world.specs.Checked.{IsCheckedBody}
use Rattle.world.specs.Nodes.{optional, expr_numbers, field_numbers, spread_children, children_of, inner_exprs_of, patterns_of, statement_children}
use Rattle.either.specs.declared.Either.{Either}
use Rattle.either.specs.declared.Either.TheVariants.{Left, Right}
use Rattle.types.specs.declared.ids.ExprId.{ExprId}
use Rattle.types.specs.declared.ids.FieldId.{FieldId}
use Rattle.types.specs.declared.ids.PatId.{PatId}
use Rattle.types.specs.declared.ids.TupleFieldId.{TupleFieldId}
use Rattle.types.specs.declared.ids.VariantId.{VariantId}
use Rattle.types.specs.declared.ids.VariantId.TheVariants as variant
use Rattle.types.specs.declared.ty.Ty.{Ty}
use Rattle.world.specs.declared.infer.InferenceResult.{InferenceResult}
use Rattle.types.specs.declared.operators.BinaryOp.{BinaryOp}
use Rattle.types.specs.declared.operators.BinaryOp.TheVariants as binary
use Rattle.numbers.specs.Operators.{of_arith, of_compare}
use Rattle.source_meaning.specs.Core.{CoreExpr, Findings, Operation, MakeTuple, MakeArray, Repeat, MakeStruct, PlaceElem, ElementAt, FieldOf, Part, Literal, Path, UnitStruct, Field, Strict, Update, Logic, If, Assign, Compound, Block, Labelled, Loop, Break, Continue, Return, Call, core_literal, unary_operation, unary_form, eager_form, binary_form, call_form, path_form, record_form, step_from, core_of, element_taken, expr_in, field_named, field_step, field_taken, is_adjusted_twice, is_dereferenced_pattern, part_in, step_to, value_type}
use Rattle.source_meaning.specs.Indices.{is_array, is_usize}
use Rattle.source_meaning.specs.Structs.{StructAt, all_places, all_sources, are_others_ready, places_in_order, ready_field, struct_args}
use Rattle.source_meaning.specs.Source.{Source, assigned_by, assigned_field, assignee_by, findings, is_adjusted, node, pattern_expr}
use Rattle.source_meaning.specs.Steps.{parts_of, assigned_parts, assignee_parts, statement_parts}
use Rattle.source_meaning.proofs.Parts.{elem_parts, first_is_contained, nothing_is_contained, rest_is_contained, among_more, strict_parts, update_parts, if_parts, compound_parts, block_parts, tail_part, call_parts}

pub mapped : {A B : Type 0} (f : A → B) (given : Option A) (y : B) → option_map f given ≡ Some y → (x : A) × (given ≡ Some x) × (f x ≡ y)
mapped f (Some x) y is = (x, refl, (let same : f x ≡ y = cc in same))
mapped f None y is = absurd cc

-- what a statement evaluates it holds
statement_part_is_child : (one : Statement) (child : ℕ) → Contains (statement_parts one) child → Contains (statement_children one) child
statement_part_is_child (statement.Let pat (Some e) None) child within = within
statement_part_is_child (statement.Let pat (Some e) (Some other)) child within = absurd (nothing_is_contained child within)
statement_part_is_child (statement.Let pat None other) child within = absurd (nothing_is_contained child within)
statement_part_is_child (statement.Expr e has_semi) child within = within
statement_part_is_child statement.Item child within = within

-- an operator evaluates its operand
unary_parts : (e : ℕ) (given : Option Operation) (core : CoreExpr) → unary_form e given ≡ Some core → parts_of (Some core) ≡ e ∷ []
unary_parts e given core is = let from = mapped (λ op. Strict op (e ∷ [])) given core is in ap (λ c. parts_of (Some c)) (sym from.2)

-- a step to a field or to the part of a tuple evaluates nothing
step_to_parts : (world : HirDatabase) (base : Option Ty) (field : FieldId) (parent : VariantId) (elem : PlaceElem) → step_to world base field parent ≡ Some elem → elem_parts elem ≡ []
step_to_parts world base field (variant.StructId id) elem is = by_test (is_some (option_and_then (ready_field world id field.local_id) (option_and_then (struct_args id) base))) is
  where
    by_test : (test : Bool) → (if test then Some (FieldOf field) else None) ≡ Some elem → elem_parts elem ≡ []
    by_test true taken = let same : FieldOf field ≡ elem = cc in ap elem_parts (sym same)
    by_test false taken = absurd cc
step_to_parts world base field _ elem is = absurd cc

field_step_parts : (world : HirDatabase) (base : Option Ty) (to : Option (Either FieldId TupleFieldId)) (elem : PlaceElem) → option_and_then (field_step world base) to ≡ Some elem → elem_parts elem ≡ []
field_step_parts world base (Some (Left field)) elem is = step_to_parts world base field field.parent elem is
field_step_parts world base (Some (Right field)) elem is = let same : Part field.index ≡ elem = cc in ap elem_parts (sym same)
field_step_parts world base None elem is = absurd cc

pub field_taken_parts : (world : HirDatabase) (infer : InferenceResult) (e base : ExprId) (elem : PlaceElem) → field_taken world infer e base ≡ Some elem → elem_parts elem ≡ []
field_taken_parts world infer e base elem is = field_step_parts world (value_type infer base) (field_named infer e) elem is

-- that to an element is one by the index of the expression itself
pub element_taken_is : (infer : InferenceResult) (e base index : ExprId) (elem : PlaceElem) → element_taken infer e base index ≡ Some elem → ElementAt e.0 index.0 ≡ elem
element_taken_is infer e base index elem is = by_test (is_array (value_type infer base) && is_usize (value_type infer index)) is
  where
    by_test : (test : Bool) → (if test then Some (ElementAt e.0 index.0) else None) ≡ Some elem → ElementAt e.0 index.0 ≡ elem
    by_test true taken = cc
    by_test false taken = absurd cc

-- what the steps evaluate that an expression may take: nothing to a field, and its index to an element
record TakesSteps (found : Findings) : Type 0 where
  field : (base : ExprId) (elem : PlaceElem) → found.field base ≡ Some elem → elem_parts elem ≡ []
  element : (base index : ExprId) (elem : PlaceElem) → found.element base index ≡ Some elem → elem_parts elem ≡ index.0 ∷ []

takes-steps : (source : Source) (e : ℕ) → TakesSteps (findings source e)
takes-steps source e = record {
  field = field_taken_parts source.world source.infer (record { 0 = e });
  element = λ base index elem is. ap elem_parts (sym (element_taken_is source.infer (record { 0 = e }) base index elem is));
}

-- a field or an element evaluates its base, and what its step needs
field_part : (base : ℕ) (step : Option PlaceElem) (parts : List ℕ) (core : CoreExpr) → ((elem : PlaceElem) → step ≡ Some elem → elem_parts elem ≡ parts) → option_map (Field base) step ≡ Some core → (child : ℕ) → Contains (parts_of (Some core)) child → Contains (base ∷ parts) child
field_part base step parts core evaluates is child within =
    let from = mapped (Field base) step core is in
    subst (λ rest. Contains (base ∷ rest) child) (evaluates from.0 from.1) (subst (λ c. Contains (parts_of (Some c)) child) (sym from.2) within)

-- one with a base evaluates that too
update_part : (made : StructAt) (written : List RecordLitField) (base : ℕ) (test : Bool) (core : CoreExpr) → (if test then option_map (λ sources. Update base made.id made.args sources (field_numbers written)) (all_sources made.id made.fields written) else None) ≡ Some core →
    (child : ℕ) → Contains (parts_of (Some core)) child → Contains (field_numbers written ++ base ∷ []) child
update_part made written base true core is child within =
    let from = mapped (λ sources. Update base made.id made.args sources (field_numbers written)) (all_sources made.id made.fields written) core is in
    ⊎_elim (λ here. Contains-append_right (field_numbers written) (base ∷ []) child here)
    (λ there. Contains-append_left (field_numbers written) (base ∷ []) child there)
    (Contains-append_cases (base ∷ []) (field_numbers written) child
    (subst (λ parts. Contains parts child) (ap (λ c. parts_of (Some c)) (sym from.2) ∙ update_parts base made.id made.args from.0 (field_numbers written)) within))
update_part made written base false core is child within = absurd cc

-- a struct literal evaluates what its fields are given
record_part : (made : Option StructAt) (written : List RecordLitField) (base : RecordSpread) (core : CoreExpr) → record_form made written base ≡ Some core → (child : ℕ) → Contains (parts_of (Some core)) child → Contains (field_numbers written ++ spread_children base) child
record_part (Some made) written spread.None core is child within =
    let from = mapped (λ places. Strict (MakeStruct made.id made.args places) (field_numbers written)) (all_places made.fields written) core is in
    Contains-append_left (field_numbers written) [] child
    (subst (λ parts. Contains parts child) (ap (λ c. parts_of (Some c)) (sym from.2) ∙ strict_parts (MakeStruct made.id made.args from.0) (field_numbers written)) within)
record_part (Some made) written (spread.Expr base) core is child within = update_part made written base.0 (are_others_ready made.args made.fields written) core is child within
record_part (Some made) written spread.FieldDefaults core is child within = absurd cc
record_part None written base core is child within = absurd cc

-- a call of a constructor evaluates its arguments, and so does any other
call_part : (made : Option StructAt) (callee : ExprId) (args : List ExprId) (core : CoreExpr) → call_form made callee args ≡ Some core → (child : ℕ) → Contains (parts_of (Some core)) child → Contains (expr_numbers args) child
call_part (Some made) callee args core is child within =
    let from = mapped (λ places. Strict (MakeStruct made.id made.args places) (expr_numbers args)) (places_in_order made.fields args) core is in
    subst (λ parts. Contains parts child) (ap (λ c. parts_of (Some c)) (sym from.2) ∙ strict_parts (MakeStruct made.id made.args from.0) (expr_numbers args)) within
call_part None callee args core is child within =
    let same : core ≡ Call (Some callee.0) (expr_numbers args) = cc in
    subst (λ parts. Contains parts child) (ap (λ c. parts_of (Some c)) same ∙ call_parts (Some callee.0) (expr_numbers args)) within

block_part_is_child : (statements : List Statement) (tail : Option ExprId) (child : ℕ) → Contains (parts_of (Some (Block statements tail))) child → Contains (flat_map statement_children statements ++ optional tail) child
block_part_is_child statements tail child within =
    ⊎_elim (λ here. Contains-append_left (flat_map statement_children statements) (optional tail) child (among_more statement_parts statement_children statements child (λ one. statement_part_is_child one child) here))
    (λ there. Contains-append_right (flat_map statement_children statements) (optional tail) child there)
    (Contains-append_cases (flat_map statement_parts statements) (optional tail) child (subst (λ parts. Contains parts child) (block_parts statements tail) within))

-- An expression stands where another does: the other holds it, it is in the target of an assignment that the other is, or the base of the
-- field or the index of the element that the left operand of the other is.
data StandsIn (found : Findings) (e : Expr) (child : ℕ) : Type 0 where
  as_child : Contains (children_of e) child → StandsIn found e child
  in_target : (k : ℕ) (target : PatId) → slice_get (patterns_of e) k ≡ Some target.0 → Contains (assignee_parts (found.assignee target)) child → StandsIn found e child
  in_left : (left : ExprId) → Contains (children_of e) left.0 → Contains (assigned_parts (found.assigned left)) child → StandsIn found e child

binary_part : (found : Findings) (lhs rhs : ExprId) (op : BinaryOp) (core : CoreExpr) → binary_form (found.assigned lhs) lhs.0 rhs.0 op ≡ Some core → (child : ℕ) → Contains (parts_of (Some core)) child → StandsIn found (whole.BinaryOp lhs rhs (Some op)) child
binary_part found lhs rhs (binary.ArithOp op) core is child within = let same : core ≡ eager_form lhs.0 rhs.0 (of_arith op) = cc in as_child (subst (λ c. Contains (parts_of (Some c)) child) same within)
binary_part found lhs rhs (binary.CmpOp op) core is child within = let same : core ≡ eager_form lhs.0 rhs.0 (of_compare op) = cc in as_child (subst (λ c. Contains (parts_of (Some c)) child) same within)
binary_part found lhs rhs (binary.LogicOp op) core is child within = let same : core ≡ Logic op lhs.0 rhs.0 = cc in as_child (subst (λ c. Contains (parts_of (Some c)) child) same within)
binary_part found lhs rhs (binary.Assignment (Some op)) core is child within =
    let same : core ≡ Compound (of_arith op) (found.assigned lhs) rhs.0 = cc in
    ⊎_elim (λ here. in_left lhs (first_is_contained lhs.0 (rhs.0 ∷ [])) here)
    (λ there. as_child (rest_is_contained lhs.0 (rhs.0 ∷ []) child there))
    (Contains-append_cases (assigned_parts (found.assigned lhs)) (rhs.0 ∷ []) child
    (subst (λ parts. Contains parts child) (ap (λ c. parts_of (Some c)) same ∙ compound_parts (of_arith op) (found.assigned lhs) rhs.0) within))
binary_part found lhs rhs (binary.Assignment None) core is child within = absurd cc

-- an assignment evaluates its value, and what its target is
assignment_part : (found : Findings) (target : PatId) (value : ExprId) (child : ℕ) → Contains (parts_of (Some (Assign (found.assignee target) value.0))) child → StandsIn found (whole.Assignment target value) child
assignment_part found target value child within =
    ⊎_elim (λ here. as_child here) (λ there. in_target 0 target refl there) (Contains-append_cases (value.0 ∷ []) (assignee_parts (found.assignee target)) child within)

name_has_no_parts : (unit item : Bool) (name : List ℕ) (core : CoreExpr) → path_form unit item name ≡ Some core → (child : ℕ) → Contains (parts_of (Some core)) child → ⊥
name_has_no_parts true item name core is child within =
    let same : UnitStruct ≡ core = cc in nothing_is_contained child (subst (λ c. Contains (parts_of (Some c)) child) (sym same) within)
name_has_no_parts false true name core is child within = absurd cc
name_has_no_parts false false name core is child within =
    let same : Path name ≡ core = cc in nothing_is_contained child (subst (λ c. Contains (parts_of (Some c)) child) (sym same) within)

-- what an expression evaluates stands in it
part_stands : (found : Findings) → TakesSteps found → (e : Expr) (core : CoreExpr) → core_of found e ≡ Some core → (child : ℕ) → Contains (parts_of (Some core)) child → StandsIn found e child
part_stands found takes (whole.Literal given) core is child within =
    let from = mapped Literal (core_literal given) core is in
    absurd (nothing_is_contained child (subst (λ c. Contains (parts_of (Some c)) child) (sym from.2) within))
part_stands found takes (whole.Path name) core is child within = absurd (name_has_no_parts found.names_unit found.names_item name core is child within)
part_stands found takes (whole.Field base name) core is child within = as_child (field_part base.0 (found.field base) [] core (takes.field base) is child within)
part_stands found takes (whole.Index base index) core is child within = as_child (field_part base.0 (found.element base index) (index.0 ∷ []) core (takes.element base index) is child within)
part_stands found takes (whole.UnaryOp e op) core is child within = as_child (subst (λ parts. Contains parts child) (unary_parts e.0 (unary_operation op) core is) within)
part_stands found takes (whole.Cast e) core is child within = as_child (subst (λ parts. Contains parts child) (unary_parts e.0 (found.casts e) core is) within)
part_stands found takes (whole.BinaryOp lhs rhs (Some op)) core is child within = binary_part found lhs rhs op core is child within
part_stands found takes (whole.BinaryOp lhs rhs None) core is child within = absurd cc
part_stands found takes (whole.If condition then_branch else_branch) core is child within =
    let same : core ≡ If condition.0 then_branch.0 else_branch = cc in
    as_child (subst (λ parts. Contains parts child) (ap (λ c. parts_of (Some c)) same ∙ if_parts condition.0 then_branch.0 else_branch) within)
part_stands found takes (whole.Assignment target value) core is child within =
    let same : Assign (found.assignee target) value.0 ≡ core = cc in assignment_part found target value child (subst (λ c. Contains (parts_of (Some c)) child) (sym same) within)
part_stands found takes (whole.Block statements tail None) core is child within =
    let same : Block statements tail ≡ core = cc in as_child (block_part_is_child statements tail child (subst (λ c. Contains (parts_of (Some c)) child) (sym same) within))
part_stands found takes (whole.Block statements tail (Some label)) core is child within =
    let same : Labelled label statements tail ≡ core = cc in as_child (block_part_is_child statements tail child (subst (λ c. Contains (parts_of (Some c)) child) (sym same) within))
part_stands found takes (whole.Loop body label) core is child within =
    let same : Loop label body.0 ≡ core = cc in as_child (subst (λ c. Contains (parts_of (Some c)) child) (sym same) within)
part_stands found takes (whole.Break value label) core is child within =
    let same : core ≡ Break label value = cc in
    as_child (subst (λ parts. Contains parts child) (ap (λ c. parts_of (Some c)) same ∙ tail_part value) within)
part_stands found takes (whole.Continue label) core is child within =
    let same : Continue label ≡ core = cc in absurd (nothing_is_contained child (subst (λ c. Contains (parts_of (Some c)) child) (sym same) within))
part_stands found takes (whole.Return value) core is child within =
    let same : core ≡ Return value = cc in
    as_child (subst (λ parts. Contains parts child) (ap (λ c. parts_of (Some c)) same ∙ tail_part value) within)
part_stands found takes (whole.Call callee args) core is child within =
    as_child (rest_is_contained callee.0 (expr_numbers args) child (call_part (found.constructed callee) callee args core is child within))
part_stands found takes (whole.MethodCall receiver args name) core is child within =
    let same : core ≡ Call None (receiver.0 ∷ expr_numbers args) = cc in
    as_child (subst (λ parts. Contains parts child) (ap (λ c. parts_of (Some c)) same ∙ call_parts None (receiver.0 ∷ expr_numbers args)) within)
part_stands found takes (whole.Tuple parts) core is child within =
    let same : core ≡ Strict MakeTuple (expr_numbers parts) = cc in
    as_child (subst (λ given. Contains given child) (ap (λ c. parts_of (Some c)) same ∙ strict_parts MakeTuple (expr_numbers parts)) within)
part_stands found takes (whole.Array elements) core is child within =
    let same : core ≡ Strict MakeArray (expr_numbers elements) = cc in
    as_child (subst (λ parts. Contains parts child) (ap (λ c. parts_of (Some c)) same ∙ strict_parts MakeArray (expr_numbers elements)) within)
part_stands found takes (whole.Repeat initializer) core is child within =
    let same : core ≡ Strict Repeat (initializer.0 ∷ []) = cc in as_child (subst (λ c. Contains (parts_of (Some c)) child) same within)
part_stands found takes (whole.RecordLit path written base) core is child within = as_child (record_part found.made written base core is child within)
part_stands found takes _ core is child within = absurd cc

-- the pattern that holds an expression as the target of an assignment
held_from : (dereferenced : Bool) (found : Option Pat) (e : ExprId) → if dereferenced then None else option_and_then expr_in found ≡ Some e → (given : Pat) × (found ≡ Some given) × (inner_exprs_of given ≡ e.0 ∷ [])
held_from true found e is = absurd cc
held_from false None e is = absurd cc
held_from false (Some (pat.Expr held)) e is = (pat.Expr held, refl, (let same : held ≡ e = cc in ap (λ (one : ExprId). one.0 ∷ []) same))
held_from false (Some _) e is = absurd cc

pattern_holds : (source : Source) (p : ℕ) (e : ExprId) → pattern_expr source p ≡ Some e → (given : Pat) × (slice_get source.body.pats p ≡ Some given) × (inner_exprs_of given ≡ e.0 ∷ [])
unfolding pattern_expr
pattern_holds source p e is = held_from (is_dereferenced_pattern source.infer (record { 0 = p })) (slice_get source.body.pats p) e is

-- what the target of an assignment evaluates its pattern holds
assignee_part_is_inner : (source : Source) (p : ℕ) (held : Option ExprId) (child : ℕ) → pattern_expr source p ≡ held → Contains (assignee_parts (assignee_by p held)) child →
    (given : Pat) × (slice_get source.body.pats p ≡ Some given) × Contains (inner_exprs_of given) child
assignee_part_is_inner source p (Some e) child is within = let from = pattern_holds source p e is in (from.0, from.1, subst (λ inner. Contains inner child) (sym from.2) within)
assignee_part_is_inner source p None child is within = absurd (nothing_is_contained child within)

-- the field or the element that an expression is as the target of a compound assignment
step_children : (base : ℕ) (step : Option PlaceElem) (parts : List ℕ) (field : ℕ × PlaceElem) → ((elem : PlaceElem) → step ≡ Some elem → elem_parts elem ≡ parts) → step_from base step ≡ Some field → base ∷ parts ≡ field.0 ∷ elem_parts field.1
step_children base (Some elem) parts field evaluates is =
    let same : (base, elem) ≡ field = cc in
    ap (λ rest. base ∷ rest) (sym (evaluates elem refl)) ∙ ap (λ (f : ℕ × PlaceElem). f.0 ∷ elem_parts f.1) same
step_children base None parts field evaluates is = absurd cc

field_from : (twice : Bool) (world : HirDatabase) (infer : InferenceResult) (e : ExprId) (found : Option Expr) (field : ℕ × PlaceElem) → if twice then None else option_and_then (part_in (field_taken world infer e) (element_taken infer e)) found ≡ Some field →
    (given : Expr) × (found ≡ Some given) × (children_of given ≡ field.0 ∷ elem_parts field.1)
field_from true world infer e found field is = absurd cc
field_from false world infer e None field is = absurd cc
field_from false world infer e (Some (whole.Field base name)) field is = (whole.Field base name, refl, step_children base.0 (field_taken world infer e base) [] field (field_taken_parts world infer e base) is)
field_from false world infer e (Some (whole.Index base index)) field is =
    (whole.Index base index, refl, step_children base.0 (element_taken infer e base index) (index.0 ∷ []) field (λ elem taken. ap elem_parts (sym (element_taken_is infer e base index elem taken))) is)
field_from false world infer e (Some _) field is = absurd cc

field_holds : (source : Source) (e : ℕ) (field : ℕ × PlaceElem) → assigned_field source e ≡ Some field → (given : Expr) × (expr_of source.body e ≡ Some given) × (children_of given ≡ field.0 ∷ elem_parts field.1)
unfolding assigned_field
field_holds source e field is = field_from (is_adjusted_twice source.infer (record { 0 = e })) source.world source.infer (record { 0 = e }) (expr_of source.body e) field is

-- what the target of a compound assignment evaluates it holds
assigned_part_is_child : (source : Source) (e : ℕ) (field : Option (ℕ × PlaceElem)) (child : ℕ) → assigned_field source e ≡ field → Contains (assigned_parts (assigned_by e field)) child →
    (given : Expr) × (expr_of source.body e ≡ Some given) × Contains (children_of given) child
assigned_part_is_child source e (Some field) child is within = let from = field_holds source e field is in (from.0, from.1, subst (λ held. Contains held child) (sym from.2) within)
assigned_part_is_child source e None child is within = absurd (nothing_is_contained child within)

pub node_from : (adjusted : Bool) (findings : Findings) (found : Option Expr) (core : CoreExpr) → if adjusted then None else option_and_then (core_of findings) found ≡ Some core → (e : Expr) × (found ≡ Some e) × (core_of findings e ≡ Some core)
node_from true findings found core is = absurd cc
node_from false findings None core is = absurd cc
node_from false findings (Some e) core is = (e, refl, is)

-- what stands in an expression has a lower number
standing_is_below : (source : Source) → IsCheckedBody source.body source.infer → (e : ℕ) (given : Expr) → expr_of source.body e ≡ Some given → (child : ℕ) → StandsIn (findings source e) given child → child < e
standing_is_below source checked e given is child (as_child within) = All-contains (λ other. other < e) (children_of given) child (checked.children e given is) within
standing_is_below source checked e given is child (in_target k target holds within) =
    let from = assignee_part_is_inner source target.0 (pattern_expr source target.0) child refl within in
    All-contains (λ other. other < e) (inner_exprs_of from.0) child (checked.inside e given k target.0 from.0 is holds from.1) from.2
standing_is_below source checked e given is child (in_left left holds within) =
    let from = assigned_part_is_child source left.0 (assigned_field source left.0) child refl within in
    let lower : child < left.0 = All-contains (λ other. other < left.0) (children_of from.0) child (checked.children left.0 from.0 from.1) from.2 in
    let earlier : left.0 < e = All-contains (λ other. other < e) (children_of given) left.0 (checked.children e given is) holds in
    omega (arith, lower, earlier)

part_of_form_is_below : (source : Source) → IsCheckedBody source.body source.infer → (e child : ℕ) (form : Option CoreExpr) → node source e ≡ form → Contains (parts_of form) child → child < e
unfolding node
part_of_form_is_below source checked e child (Some core) is within =
    let from = node_from (is_adjusted source e) (findings source e) (expr_of source.body e) core is in
    standing_is_below source checked e from.0 from.1 child (part_stands (findings source e) (takes-steps source e) from.0 core from.2 child within)
part_of_form_is_below source checked e child None is within = absurd (nothing_is_contained child within)

-- what is evaluated where an expression is has a lower number
pub part_is_below : (source : Source) → IsCheckedBody source.body source.infer → (e child : ℕ) → Contains (parts_of (node source e)) child → child < e
part_is_below source checked e child within = part_of_form_is_below source checked e child (node source e) refl within
