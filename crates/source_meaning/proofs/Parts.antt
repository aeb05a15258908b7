-- The parts of each form, as its steps list them.
use Rattle.std.specs.Prelude.{flat_map, Contains}
use Rattle.std.proofs.Common.{⊎_elim, ◌≡◌, ℕ, zero, suc, ◌<◌, Bool, true, false, cond, List, [], ◌∷◌, ◌++◌, length, map, get_or, Option, Some, None, refl, sym, ap, ap₂, ◌∙◌, subst, append-nil, arith}
use Rattle.std.proofs.lemmas.List.Concat.{flat_map-append}
use Rattle.std.proofs.lemmas.List.Elements.{Contains-append_left, Contains-append_right, Contains-append_cases}
use Rattle.world.specs.declared.body.Statement.{Statement}
use Rattle.types.specs.declared.ids.ExprId.{ExprId}
use Rattle.types.specs.declared.ids.StructId.{StructId}
use Rattle.types.specs.declared.ty.GenericArgs.{GenericArgs}
use Rattle.types.specs.declared.operators.LogicOp.{LogicOp}
use Rattle.world.specs.declared.body.Statement.TheVariants as statement
use Rattle.world.specs.Nodes.{optional}
use Rattle.numbers.specs.declared.operator.Operator.{Operator}
use Rattle.source_meaning.specs.Structs.{FieldSource}
use Rattle.source_meaning.specs.Core.{Assigned, Assignee, ByField, ByPath, ByPattern, ByPlace, CoreExpr, ElementAt, FieldOf, Operation, Part, PlaceElem, Field, Strict, Update, Logic, If, Assign, Compound, Block, Call, is_truth}
use Rattle.source_meaning.specs.Source.{Source, unadjusted}
use Rattle.source_meaning.specs.Steps.{Step, Operand, Place, Into, Index, Bind, Open, Close, statement_steps, tail_steps, block_steps, elem_steps, field_parts, assigned_steps, assignee_steps, steps_of, step_part, parts_of, assigned_parts, assignee_parts, statement_parts}
use Rattle.source_meaning.specs.Valid.{sized_part, sized_parts}

-- a list has its first element, and what the rest has
pub first_is_contained : (first : ℕ) (rest : List ℕ) → Contains (first ∷ rest) first
first_is_contained first rest = (0, omega arith, refl)

pub rest_is_contained : (first : ℕ) (rest : List ℕ) (x : ℕ) → Contains rest x → Contains (first ∷ rest) x
rest_is_contained first rest x in_rest = Contains-append_right (first ∷ []) rest x in_rest

pub nothing_is_contained : (x : ℕ) → Contains [] x → ⊥
nothing_is_contained x within = let less = within.1 in omega arith

-- what is made from an element of a list is among what is made from the list
among_at : {X : Type 0} (f : X → List ℕ) (xs : List X) (one : X) (y k : ℕ) → k < length xs → get_or xs k one ≡ one → Contains (f one) y → Contains (flat_map f xs) y
among_at f [] one y k less is within = absurd (omega arith)
among_at f (first ∷ rest) one y zero less is within =
    Contains-append_left (f first) (flat_map f rest) y (subst (λ x. Contains (f x) y) (sym is) within)
among_at f (first ∷ rest) one y (suc k) less is within =
    Contains-append_right (f first) (flat_map f rest) y (among_at f rest one y k (omega arith) is within)

pub among : {X : Type 0} (f : X → List ℕ) (xs : List X) (one : X) (y : ℕ) → Contains xs one → Contains (f one) y → Contains (flat_map f xs) y
among f xs one y there within = among_at f xs one y there.0 there.1 there.2 within

-- what is made from each element alone grows, and so does what is made from the list
pub among_more : {X : Type 0} (f g : X → List ℕ) (xs : List X) (y : ℕ) → ((x : X) → Contains (f x) y → Contains (g x) y) → Contains (flat_map f xs) y → Contains (flat_map g xs) y
among_more f g [] y more within = within
among_more f g (first ∷ rest) y more within =
    ⊎_elim (λ here. Contains-append_left (g first) (flat_map g rest) y (more first here)) (λ there. Contains-append_right (g first) (flat_map g rest) y (among_more f g rest y more there)) (Contains-append_cases (f first) (flat_map f rest) y within)

pub flat_map-flat_map : {X Y Z : Type 0} (f : X → List Y) (g : Y → List Z) (xs : List X) → flat_map g (flat_map f xs) ≡ flat_map (λ x. flat_map g (f x)) xs
flat_map-flat_map f g [] = refl
flat_map-flat_map f g (x ∷ xs) = flat_map-append g (f x) (flat_map f xs) ∙ ap (λ rest. flat_map g (f x) ++ rest) (flat_map-flat_map f g xs)

-- the expressions that are evaluated for a step into a value: the index that leads to an element
abbrev pub elem_parts : PlaceElem → List ℕ
elem_parts elem = flat_map step_part (elem_steps elem)

-- a strict form evaluates its operands
pub operand_parts : (operands : List ℕ) → flat_map step_part (map Operand operands) ≡ operands
operand_parts [] = refl
operand_parts (e ∷ rest) = ap (λ others. e ∷ others) (operand_parts rest)

pub strict_parts : (operation : Operation) (operands : List ℕ) → parts_of (Some (Strict operation operands)) ≡ operands
strict_parts operation operands = operand_parts operands

-- a struct literal with a base evaluates that, and then its operands
pub update_parts : (base : ℕ) (id : StructId) (args : GenericArgs) (sources : List FieldSource) (operands : List ℕ) → parts_of (Some (Update base id args sources operands)) ≡ base ∷ operands
update_parts base id args sources operands = ap (λ rest. base ∷ rest) (operand_parts operands)

-- a call evaluates its arguments
pub call_parts : (callee : Option ℕ) (args : List ℕ) → parts_of (Some (Call callee args)) ≡ args
call_parts callee args = operand_parts args

pub tail_part : (tail : Option ExprId) → flat_map step_part (tail_steps tail) ≡ optional tail
tail_part (Some e) = refl
tail_part None = refl

-- an `if` evaluates its condition and its branches
pub if_parts : (condition then_branch : ℕ) (else_branch : Option ExprId) → parts_of (Some (If condition then_branch else_branch)) ≡ condition ∷ then_branch ∷ optional else_branch
if_parts condition then_branch else_branch = ap (λ rest. condition ∷ then_branch ∷ rest) (tail_part else_branch)

-- a compound assignment evaluates what its target is found by, and its value
pub compound_parts : (op : Operator) (to : Assigned) (value : ℕ) → parts_of (Some (Compound op to value)) ≡ assigned_parts to ++ value ∷ []
compound_parts op to value = flat_map-append step_part (assigned_steps to) (Operand value ∷ [])

-- what is made from the steps inside a block's scope
pub inner_parts : (statements : List Statement) (tail : Option ExprId) → flat_map step_part (block_steps statements tail) ≡ flat_map statement_parts statements ++ optional tail
inner_parts statements tail =
    flat_map-append step_part (flat_map statement_steps statements) (tail_steps tail)
    ∙ ap₂ ◌++◌ (flat_map-flat_map statement_steps step_part statements) (tail_part tail)

-- a block evaluates what its statements do, and its tail
pub block_parts : (statements : List Statement) (tail : Option ExprId) → parts_of (Some (Block statements tail)) ≡ flat_map statement_parts statements ++ optional tail
block_parts statements tail =
    flat_map-append step_part (block_steps statements tail) (Close ∷ []) ∙ append-nil (flat_map step_part (block_steps statements tail)) ∙ inner_parts statements tail

-- what needs a layout is evaluated
sized_is_part : (source : Source) (one : Step) (child : ℕ) → Contains (sized_part source one) child → Contains (step_part one) child
sized_is_part source (Operand e) child within = by_truth (is_truth (unadjusted source e)) within
  where
    by_truth : (test : Bool) → Contains (cond test [] (e ∷ [])) child → Contains (e ∷ []) child
    by_truth true within = absurd (nothing_is_contained child within)
    by_truth false within = within
sized_is_part source (Place e) child within = within
sized_is_part source (Into e) child within = within
sized_is_part source (Index e index) child within = within
sized_is_part source (Bind pat) child within = within
sized_is_part source Open child within = within
sized_is_part source Close child within = within

pub sized_part_is_part : (source : Source) (form : Option CoreExpr) (child : ℕ) → Contains (sized_parts source form) child → Contains (parts_of form) child
sized_part_is_part source (Some form) child within = among_more (sized_part source) step_part (steps_of form) child (λ one. sized_is_part source one child) within
sized_part_is_part source None child within = within

-- an operand that is no truth value needs a layout
pub operand_is_sized : (source : Source) (operands : List ℕ) (e : ℕ) → Contains operands e → is_truth (unadjusted source e) ≡ false → Contains (flat_map (sized_part source) (map Operand operands)) e
operand_is_sized source [] e within is = absurd (nothing_is_contained e within)
operand_is_sized source (first ∷ rest) e within is =
    ⊎_elim (λ here. Contains-append_left (sized_part source (Operand first)) (flat_map (sized_part source) (map Operand rest)) e (itself (first-is first e here)))
    (λ there. Contains-append_right (sized_part source (Operand first)) (flat_map (sized_part source) (map Operand rest)) e (operand_is_sized source rest e there is))
    (Contains-append_cases (first ∷ []) rest e within)
  where
    first-is : (x y : ℕ) → Contains (x ∷ []) y → x ≡ y
    first-is x y (zero, less, is) = is
    first-is x y (suc k, less, is) = absurd (omega arith)

    itself : first ≡ e → Contains (sized_part source (Operand first)) e
    itself same =
        subst (λ x. Contains (sized_part source (Operand x)) e) (sym same)
        (subst (λ test. Contains (cond test [] (e ∷ [])) e) (sym is) (first_is_contained e []))

-- so does one that other steps come after
pub first_is_sized : (source : Source) (e : ℕ) (rest : List Step) → is_truth (unadjusted source e) ≡ false → Contains (flat_map (sized_part source) (Operand e ∷ rest)) e
first_is_sized source e rest is =
    Contains-append_left (sized_part source (Operand e)) (flat_map (sized_part source) rest) e
    (subst (λ test. Contains (cond test [] (e ∷ [])) e) (sym is) (first_is_contained e []))

-- the right operand of `&&` and `||` needs a layout, since it is evaluated into the place of the whole
pub right_is_sized : (source : Source) (op : LogicOp) (left right : ℕ) → Contains (sized_parts source (Some (Logic op left right))) right
right_is_sized source op left right = Contains-append_right (sized_part source (Operand left)) (right ∷ []) right (first_is_contained right [])

branches_are_sized : (source : Source) (then_branch : ℕ) (else_branch : Option ExprId) → flat_map (sized_part source) (Into then_branch ∷ tail_steps else_branch) ≡ then_branch ∷ optional else_branch
branches_are_sized source then_branch (Some e) = refl
branches_are_sized source then_branch None = refl

-- and so do the branches of an `if`
pub branch_is_sized : (source : Source) (condition then_branch : ℕ) (else_branch : Option ExprId) (child : ℕ) → Contains (then_branch ∷ optional else_branch) child → Contains (sized_parts source (Some (If condition then_branch else_branch))) child
branch_is_sized source condition then_branch else_branch child within =
    Contains-append_right (sized_part source (Operand condition)) (flat_map (sized_part source) (Into then_branch ∷ tail_steps else_branch)) child
    (subst (λ parts. Contains parts child) (sym (branches_are_sized source then_branch else_branch)) within)

-- the value of an assignment needs a layout, and so does what its target is
pub assigned_value_is_sized : (source : Source) (to : Assignee) (value : ℕ) → Contains (sized_parts source (Some (Assign to value))) value
assigned_value_is_sized source to value = first_is_contained value (flat_map (sized_part source) (assignee_steps to))

sized_assignee_part : (source : Source) (to : Assignee) (child : ℕ) → Contains (assignee_parts to) child → Contains (flat_map (sized_part source) (assignee_steps to)) child
sized_assignee_part source (ByPattern pat) child within = within
sized_assignee_part source (ByPlace e) child within = within

pub assignee_is_sized : (source : Source) (to : Assignee) (value child : ℕ) → Contains (assignee_parts to) child → Contains (sized_parts source (Some (Assign to value))) child
assignee_is_sized source to value child within = rest_is_contained value (flat_map (sized_part source) (assignee_steps to)) child (sized_assignee_part source to child within)

-- so does what the target of a compound assignment is found by, and its value, where that is no truth value
sized_compound_parts : (source : Source) (op : Operator) (to : Assigned) (value : ℕ) →
    sized_parts source (Some (Compound op to value)) ≡ flat_map (sized_part source) (assigned_steps to) ++ flat_map (sized_part source) (Operand value ∷ [])
sized_compound_parts source op to value = flat_map-append (sized_part source) (assigned_steps to) (Operand value ∷ [])

-- the index that leads to an element needs a layout, since it is evaluated into a cell
pub sized_elem_parts : (source : Source) (elem : PlaceElem) → flat_map (sized_part source) (elem_steps elem) ≡ elem_parts elem
sized_elem_parts source (Part index) = refl
sized_elem_parts source (FieldOf field) = refl
sized_elem_parts source (ElementAt e index) = refl

-- and so does what a field or an element evaluates
pub sized_field_parts : (source : Source) (base : ℕ) (elem : PlaceElem) → sized_parts source (Some (Field base elem)) ≡ field_parts base elem
sized_field_parts source base elem = ap (λ rest. base ∷ rest) (sized_elem_parts source elem)

sized_assigned_part : (source : Source) (to : Assigned) (child : ℕ) → Contains (assigned_parts to) child → Contains (flat_map (sized_part source) (assigned_steps to)) child
sized_assigned_part source (ByPath e) child within = within
sized_assigned_part source (ByField base elem) child within = subst (λ parts. Contains parts child) (sym (sized_field_parts source base elem)) within

pub assigned_is_sized : (source : Source) (op : Operator) (to : Assigned) (value child : ℕ) → Contains (assigned_parts to) child → Contains (sized_parts source (Some (Compound op to value))) child
assigned_is_sized source op to value child within =
    subst (λ parts. Contains parts child) (sym (sized_compound_parts source op to value))
    (Contains-append_left (flat_map (sized_part source) (assigned_steps to)) (flat_map (sized_part source) (Operand value ∷ [])) child (sized_assigned_part source to child within))

pub combined_value_is_sized : (source : Source) (op : Operator) (to : Assigned) (value : ℕ) → is_truth (unadjusted source value) ≡ false → Contains (sized_parts source (Some (Compound op to value))) value
combined_value_is_sized source op to value is =
    subst (λ parts. Contains parts value) (sym (sized_compound_parts source op to value))
    (Contains-append_right (flat_map (sized_part source) (assigned_steps to)) (flat_map (sized_part source) (Operand value ∷ [])) value (first_is_sized source value [] is))

-- what a block evaluates needs layouts as it is evaluated, since none of it is an operand
sized_statement_part : (source : Source) (one : Statement) (child : ℕ) → Contains (statement_parts one) child → Contains (flat_map (sized_part source) (statement_steps one)) child
sized_statement_part source (statement.Let pat (Some e) None) child within = within
sized_statement_part source (statement.Let pat (Some e) (Some other)) child within = within
sized_statement_part source (statement.Let pat None other) child within = within
sized_statement_part source (statement.Expr e has_semi) child within = within
sized_statement_part source statement.Item child within = within

pub sized_tail : (source : Source) (tail : Option ExprId) (child : ℕ) → Contains (optional tail) child → Contains (flat_map (sized_part source) (tail_steps tail)) child
sized_tail source (Some e) child within = within
sized_tail source None child within = within

pub sized_block_parts : (source : Source) (statements : List Statement) (tail : Option ExprId) (child : ℕ) → Contains (flat_map statement_parts statements ++ optional tail) child → Contains (sized_parts source (Some (Block statements tail))) child
sized_block_parts source statements tail child within =
    subst (λ parts. Contains parts child) (sym (flat_map-append (sized_part source) (block_steps statements tail) (Close ∷ [])))
    (Contains-append_left (flat_map (sized_part source) (block_steps statements tail)) [] child
    (subst (λ parts. Contains parts child) (sym (flat_map-append (sized_part source) (flat_map statement_steps statements) (tail_steps tail)))
    (⊎_elim (λ here. Contains-append_left (flat_map (sized_part source) (flat_map statement_steps statements)) (flat_map (sized_part source) (tail_steps tail)) child
    (subst (λ parts. Contains parts child) (sym (flat_map-flat_map statement_steps (sized_part source) statements))
    (among_more statement_parts (λ one. flat_map (sized_part source) (statement_steps one)) statements child (λ one. sized_statement_part source one child) here)))
    (λ there. Contains-append_right (flat_map (sized_part source) (flat_map statement_steps statements)) (flat_map (sized_part source) (tail_steps tail)) child (sized_tail source tail child there))
    (Contains-append_cases (flat_map statement_parts statements) (optional tail) child within))))

-- an operand that needs a layout is no truth value
pub sized_operand : (source : Source) (operands : List ℕ) (e : ℕ) → Contains (flat_map (sized_part source) (map Operand operands)) e → Contains operands e × (is_truth (unadjusted source e) ≡ false)
sized_operand source [] e within = absurd (nothing_is_contained e within)
sized_operand source (first ∷ rest) e within =
    ⊎_elim (λ here. by_truth (is_truth (unadjusted source first)) refl here)
    (λ there. let later = sized_operand source rest e there in (rest_is_contained first rest e later.0, later.1))
    (Contains-append_cases (sized_part source (Operand first)) (flat_map (sized_part source) (map Operand rest)) e within)
  where
    first-is : (x y : ℕ) → Contains (x ∷ []) y → x ≡ y
    first-is x y (zero, less, is) = is
    first-is x y (suc k, less, is) = absurd (omega arith)

    by_truth : (test : Bool) → is_truth (unadjusted source first) ≡ test → Contains (cond test [] (first ∷ [])) e → Contains (first ∷ rest) e × (is_truth (unadjusted source e) ≡ false)
    by_truth true is here = absurd (nothing_is_contained e here)
    by_truth false is here =
        let same = first-is first e here in
        (subst (λ x. Contains (first ∷ rest) x) same (first_is_contained first rest), subst (λ x. is_truth (unadjusted source x) ≡ false) same is)
