-- Elements: the index expression that each is found by, and the cell that its index is evaluated into.
use Rattle.std.proofs.Common.{◌≡◌, ℕ, Bool, true, false, List, [], ◌∷◌, Option, Some, None, option_map, option_and_then, if◌then◌else◌, refl, sym, ap, ap₂, ◌∙◌, subst}
use Rattle.types.specs.declared.ids.ExprId.{ExprId}
use Rattle.types.specs.declared.operators.BinaryOp.{BinaryOp}
use Rattle.types.specs.declared.operators.BinaryOp.TheVariants as binary
use Rattle.types.specs.declared.scalars.UintTy.TheVariants.{Usize}
use Rattle.types.specs.declared.ty.Ty.{Uint as UintTy}
use Rattle.world.specs.declared.expr.Expr.TheVariants as whole
use Rattle.world.specs.declared.expr.Expr.{Expr}
use Rattle.world.specs.declared.expr.RecordLitField.{RecordLitField}
use Rattle.world.specs.declared.expr.RecordSpread.{RecordSpread}
use Rattle.world.specs.declared.expr.RecordSpread.TheVariants as spread
use Rattle.world.specs.declared.infer.InferenceResult.{InferenceResult}
use Rattle.world.specs.Lookups.{expr_of}
use Rattle.world.specs.Nodes.{expr_numbers, field_numbers}
use Rattle.numbers.specs.declared.operator.Operator.{Operator}
use Rattle.numbers.specs.Operators.{of_arith}
use Rattle.source_meaning.specs.Core.{ByField, CoreExpr, CoreLiteral, ElementAt, FieldOf, Findings, Operation, MakeStruct, Part, PlaceElem, Literal, Field, Strict, Update, Compound, binary_form, call_form, core_literal, core_of, element_taken, field_taken, is_adjusted_twice, part_in, path_form, record_form, step_from, unary_form, unary_operation}
use Rattle.source_meaning.specs.Structs.{StructAt, FieldSource, all_places, all_sources, are_others_ready, places_in_order}
use Rattle.source_meaning.specs.Source.{Source, IndexOf, assigned, assigned_by, assigned_field, cell_type, findings, index_in, index_of, is_adjusted, node, node_type}
use Rattle.source_meaning.specs.Valid.{HasPlainIndex}
use Rattle.source_meaning.proofs.Core.{element_taken_is, field_taken_parts, mapped, node_from}
use Rattle.source_meaning.proofs.Parts.{elem_parts}

-- a form that is no step into a value and has no such target
abbrev IsOther : CoreExpr → Type 0
IsOther (Field base elem) = ⊥
IsOther (Compound op to value) = ⊥
IsOther _ = Unit {0}

abbrev IsOtherForm : Option CoreExpr → Type 0
IsOtherForm (Some form) = IsOther form
IsOtherForm None = Unit {0}

other-from : (form : Option CoreExpr) (core : CoreExpr) → IsOtherForm form → form ≡ Some core → IsOther core
other-from (Some form) core other is = let same : form ≡ core = cc in subst IsOther same other
other-from None core other is = absurd cc

unary-other : (e : ℕ) (given : Option Operation) → IsOtherForm (unary_form e given)
unary-other e (Some op) = tt
unary-other e None = tt

literal-other : (given : Option CoreLiteral) → IsOtherForm (option_map Literal given)
literal-other (Some given) = tt
literal-other None = tt

path-other : (unit item : Bool) (name : List ℕ) → IsOtherForm (path_form unit item name)
path-other true item name = tt
path-other false true name = tt
path-other false false name = tt

update-other : (made : StructAt) (written : List RecordLitField) (base : ℕ) (test : Bool) (sources : Option (List FieldSource)) → IsOtherForm (if test then option_map (λ given. Update base made.id made.args given (field_numbers written)) sources else None)
update-other made written base true (Some sources) = tt
update-other made written base true None = tt
update-other made written base false sources = tt

struct-other : (made : StructAt) (written : List RecordLitField) (places : Option (List ℕ)) → IsOtherForm (option_map (λ given. Strict (MakeStruct made.id made.args given) (field_numbers written)) places)
struct-other made written (Some places) = tt
struct-other made written None = tt

record-other : (made : Option StructAt) (written : List RecordLitField) (base : RecordSpread) → IsOtherForm (record_form made written base)
record-other (Some made) written spread.None = struct-other made written (all_places made.fields written)
record-other (Some made) written (spread.Expr base) = update-other made written base.0 (are_others_ready made.args made.fields written) (all_sources made.id made.fields written)
record-other (Some made) written spread.FieldDefaults = tt
record-other None written base = tt

call-other : (made : Option StructAt) (callee : ExprId) (args : List ExprId) → IsOtherForm (call_form made callee args)
call-other (Some made) callee args = by_places (places_in_order made.fields args)
  where
    by_places : (places : Option (List ℕ)) → IsOtherForm (option_map (λ given. Strict (MakeStruct made.id made.args given) (expr_numbers args)) places)
    by_places (Some places) = tt
    by_places None = tt
call-other None callee args = tt

-- which expression a form is that of: a field, an element, a compound assignment, or another
data IsFormOf (found : Findings) (e : Expr) (core : CoreExpr) : Type 0 where
  a_field : (base : ExprId) (elem : PlaceElem) → found.field base ≡ Some elem → Field base.0 elem ≡ core → IsFormOf found e core
  an_element : (base index : ExprId) (elem : PlaceElem) → index_in e ≡ Some index.0 → found.element base index ≡ Some elem → Field base.0 elem ≡ core → IsFormOf found e core
  a_compound : (op : Operator) (left : ExprId) (value : ℕ) → Compound op (found.assigned left) value ≡ core → IsFormOf found e core
  another : IsOther core → IsFormOf found e core

binary-form : (found : Findings) (lhs rhs : ExprId) (op : BinaryOp) (core : CoreExpr) → binary_form (found.assigned lhs) lhs.0 rhs.0 op ≡ Some core → IsFormOf found (whole.BinaryOp lhs rhs (Some op)) core
binary-form found lhs rhs (binary.ArithOp op) core is = another (other-from _ core tt is)
binary-form found lhs rhs (binary.CmpOp op) core is = another (other-from _ core tt is)
binary-form found lhs rhs (binary.LogicOp op) core is = another (other-from _ core tt is)
binary-form found lhs rhs (binary.Assignment (Some op)) core is = a_compound (of_arith op) lhs rhs.0 (let same : Compound (of_arith op) (found.assigned lhs) rhs.0 ≡ core = cc in same)
binary-form found lhs rhs (binary.Assignment None) core is = absurd cc

form-of : (found : Findings) (e : Expr) (core : CoreExpr) → core_of found e ≡ Some core → IsFormOf found e core
form-of found (whole.Field base name) core is = let from = mapped (Field base.0) (found.field base) core is in a_field base from.0 from.1 from.2
form-of found (whole.Index base index) core is = let from = mapped (Field base.0) (found.element base index) core is in an_element base index from.0 refl from.1 from.2
form-of found (whole.BinaryOp lhs rhs (Some op)) core is = binary-form found lhs rhs op core is
form-of found (whole.BinaryOp lhs rhs None) core is = absurd cc
form-of found (whole.Literal given) core is = another (other-from (option_map Literal (core_literal given)) core (literal-other (core_literal given)) is)
form-of found (whole.Path name) core is = another (other-from (path_form found.names_unit found.names_item name) core (path-other found.names_unit found.names_item name) is)
form-of found (whole.UnaryOp operand op) core is = another (other-from (unary_form operand.0 (unary_operation op)) core (unary-other operand.0 (unary_operation op)) is)
form-of found (whole.Cast operand) core is = another (other-from (unary_form operand.0 (found.casts operand)) core (unary-other operand.0 (found.casts operand)) is)
form-of found (whole.RecordLit path written base) core is = another (other-from (record_form found.made written base) core (record-other found.made written base) is)
form-of found (whole.Call callee args) core is = another (other-from (call_form (found.constructed callee) callee args) core (call-other (found.constructed callee) callee args) is)
form-of found (whole.Block statements tail None) core is = another (other-from _ core tt is)
form-of found (whole.Block statements tail (Some label)) core is = another (other-from _ core tt is)
form-of found e core is = another (other-from (core_of found e) core tt is)

-- the parts of a form that is a step into a value
no-field-element : (base base' n index : ℕ) (elem : PlaceElem) → elem_parts elem ≡ [] → Field base elem ≡ Field base' (ElementAt n index) → ⊥
no-field-element base base' n index elem none is =
    let same : elem ≡ ElementAt n index = cc in
    let parts : index ∷ [] ≡ [] = sym (ap elem_parts same) ∙ none in
    absurd cc

element-from : (infer : InferenceResult) (e base index : ExprId) (elem : PlaceElem) (base' n i : ℕ) → element_taken infer e base index ≡ Some elem → Field base.0 elem ≡ Field base' (ElementAt n i) → (n ≡ e.0) × (index.0 ≡ i)
element-from infer e base index elem base' n i taken is =
    let same : elem ≡ ElementAt n i = cc in
    let own : ElementAt e.0 index.0 ≡ ElementAt n i = element_taken_is infer e base index elem taken ∙ same in
    ((let first : n ≡ e.0 = cc in first), (let second : index.0 ≡ i = cc in second))

module _ (source : Source) where
  -- an element is found by its own expression, whose index leads to it
  pub element_of_node : (e base n index : ℕ) → node source e ≡ Some (Field base (ElementAt n index)) → (n ≡ e) × (index_of source e ≡ Some index)
  unfolding node
  element_of_node e base n index is =
      let from = node_from (is_adjusted source e) (findings source e) (expr_of source.body e) (Field base (ElementAt n index)) is in
      by_form from.0 from.1 (form-of (findings source e) from.0 (Field base (ElementAt n index)) from.2)
    where
      by_form : (given : Expr) → expr_of source.body e ≡ Some given → IsFormOf (findings source e) given (Field base (ElementAt n index)) → (n ≡ e) × (index_of source e ≡ Some index)
      by_form given found (a_field base' elem taken same) = absurd (no-field-element base'.0 base n index elem (field_taken_parts source.world source.infer (record { 0 = e }) base' elem taken) same)
      by_form given found (an_element base' index' elem indexed taken same) =
          let both = element-from source.infer (record { 0 = e }) base' index' elem base n index taken same in
          (both.0, ap (option_and_then index_in) found ∙ indexed ∙ ap Some both.1)
      by_form given found (a_compound op left value same) = absurd cc
      by_form given found (another other) = absurd other

  -- and so is one that a compound assignment writes, by the expression that is its left operand
  element-taken : (twice : Bool) (e : ExprId) (found : Option Expr) (base n index : ℕ) → if twice then None else option_and_then (part_in (field_taken source.world source.infer e) (element_taken source.infer e)) found ≡ Some (base, ElementAt n index) →
      (n ≡ e.0) × (option_and_then index_in found ≡ Some index)
  element-taken true e found base n index is = absurd cc
  element-taken false e None base n index is = absurd cc
  element-taken false e (Some (whole.Field base' name)) base n index is = by_step (field_taken source.world source.infer e base') refl is
    where
      by_step : (step : Option PlaceElem) → field_taken source.world source.infer e base' ≡ step → step_from base'.0 step ≡ Some (base, ElementAt n index) → (n ≡ e.0) × (None ≡ Some index)
      by_step (Some elem) taken same = absurd (no-field-element base'.0 base n index elem (field_taken_parts source.world source.infer e base' elem taken) (let pair : (base'.0, elem) ≡ (base, ElementAt n index) = cc in ap (λ (field : ℕ × PlaceElem). Field field.0 field.1) pair))
      by_step None taken same = absurd cc
  element-taken false e (Some (whole.Index base' index')) base n index is = by_step (element_taken source.infer e base' index') refl is
    where
      by_step : (step : Option PlaceElem) → element_taken source.infer e base' index' ≡ step → step_from base'.0 step ≡ Some (base, ElementAt n index) → (n ≡ e.0) × (Some index'.0 ≡ Some index)
      by_step (Some elem) taken same =
          let both = element-from source.infer e base' index' elem base n index taken (let pair : (base'.0, elem) ≡ (base, ElementAt n index) = cc in ap (λ (field : ℕ × PlaceElem). Field field.0 field.1) pair) in
          (both.0, ap Some both.1)
      by_step None taken same = absurd cc
  element-taken false e (Some _) base n index is = absurd cc

  pub element_of_assigned : (e : ExprId) (base n index : ℕ) → assigned source e ≡ ByField base (ElementAt n index) → (n ≡ e.0) × (index_of source e.0 ≡ Some index)
  unfolding assigned_field
  element_of_assigned e base n index is = by_field (assigned_field source e.0) refl is
    where
      by_field : (field : Option (ℕ × PlaceElem)) → assigned_field source e.0 ≡ field → assigned_by e.0 field ≡ ByField base (ElementAt n index) → (n ≡ e.0) × (index_of source e.0 ≡ Some index)
      by_field (Some field) found same =
          let pair : field ≡ (base, ElementAt n index) = ap₂ (λ b step. (b, step)) (let first : field.0 ≡ base = cc in first) (let second : field.1 ≡ ElementAt n index = cc in second) in
          element-taken (is_adjusted_twice source.infer e) e (expr_of source.body e.0) base n index (found ∙ ap Some pair)
      by_field None found same = absurd cc

  pub element_of_compound : (e : ℕ) (op : Operator) (base n index value : ℕ) → node source e ≡ Some (Compound op (ByField base (ElementAt n index)) value) → index_of source n ≡ Some index
  unfolding node
  element_of_compound e op base n index value is =
      let core = Compound op (ByField base (ElementAt n index)) value in
      let from = node_from (is_adjusted source e) (findings source e) (expr_of source.body e) core is in
      by_form (form-of (findings source e) from.0 core from.2)
    where
      by_form : {given : Expr} → IsFormOf (findings source e) given (Compound op (ByField base (ElementAt n index)) value) → index_of source n ≡ Some index
      by_form (a_field base' elem taken same) = absurd cc
      by_form (an_element base' index' elem indexed taken same) = absurd cc
      by_form (a_compound op' left value' same) =
          let to : assigned source left ≡ ByField base (ElementAt n index) = cc in
          let element = element_of_assigned left base n index to in
          ap (index_of source) element.0 ∙ element.1
      by_form (another other) = absurd other

  -- the cell of an index has the type of the index
  pub index_cell_type : (n index : ℕ) → index_of source n ≡ Some index → cell_type source (IndexOf n) ≡ node_type source index
  index_cell_type n index is = ap (option_and_then (node_type source)) is

-- the index that a step is by is that of the index expression
abbrev pub HasOwnIndex : Source → PlaceElem → Type 0
HasOwnIndex source (ElementAt n index) = index_of source n ≡ Some index
HasOwnIndex source _ = Unit {0}

pub node_has_index : (source : Source) (e base : ℕ) (elem : PlaceElem) → node source e ≡ Some (Field base elem) → HasOwnIndex source elem
node_has_index source e base (Part index) is = tt
node_has_index source e base (FieldOf field) is = tt
node_has_index source e base (ElementAt n index) is = let element = element_of_node source e base n index is in ap (index_of source) element.0 ∙ element.1

pub target_has_index : (source : Source) (e : ℕ) (op : Operator) (base : ℕ) (elem : PlaceElem) (value : ℕ) → node source e ≡ Some (Compound op (ByField base elem) value) → HasOwnIndex source elem
target_has_index source e op base (Part index) value is = tt
target_has_index source e op base (FieldOf field) value is = tt
target_has_index source e op base (ElementAt n index) value is = element_of_compound source e op base n index value is

-- the cell of an index that leads to an element is of type `usize`
abbrev pub HasIndexCell : Source → PlaceElem → Type 0
HasIndexCell source (ElementAt n index) = cell_type source (IndexOf n) ≡ Some (UintTy Usize)
HasIndexCell source _ = Unit {0}

pub has_index_cell : (source : Source) (elem : PlaceElem) → HasOwnIndex source elem → HasPlainIndex source elem → HasIndexCell source elem
has_index_cell source (Part index) own plain = tt
has_index_cell source (FieldOf field) own plain = tt
has_index_cell source (ElementAt n index) own plain = index_cell_type source n index own ∙ plain
