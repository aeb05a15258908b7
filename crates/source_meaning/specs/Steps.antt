-- What each form consists of: which expressions it evaluates, how, and in which scopes. All that is said of a form's
-- parts derives from this list.
use Rattle.std.specs.Prelude.{ℕ, List, [], ◌∷◌, ◌++◌, map, flat_map, Option, Some, None}
use Rattle.types.specs.declared.ids.ExprId.{ExprId}
use Rattle.world.specs.declared.body.Statement.{Statement}
use Rattle.world.specs.declared.body.Statement.TheVariants as statement
use Rattle.source_meaning.specs.Core as expr
use Rattle.source_meaning.specs.Core.{Assigned, Assignee, ByField, ByPath, ByPattern, ByPlace, CoreExpr, ElementAt, PlaceElem}

-- A step of a form: it evaluates an expression to an operand, to a place, or into a given place (the form's own, that of the loop
-- which a `break` ends, or the return path), evaluates the index of an index expression `e` into the cell that it has for it, binds a pattern, or opens
-- or closes a scope.
pub data Step : Type 0 where
  Operand : (e : ℕ) → Step
  Place : (e : ℕ) → Step
  Into : (e : ℕ) → Step
  Index : (e index : ℕ) → Step
  Bind : (pat : ℕ) → Step
  Open : Step
  Close : Step

-- A `let` with an initializer and without `else`: its place, and then the pattern is bound. An expression statement: its
-- place, in a scope of its own.
abbrev pub statement_steps : Statement → List Step
statement_steps (statement.Let pat (Some e) None) = Place e.0 ∷ Bind pat.0 ∷ []
statement_steps (statement.Expr e has_semi) = Open ∷ Place e.0 ∷ Close ∷ []
statement_steps _ = []

-- an expression that may be left out, into a place that was there before
abbrev pub tail_steps : Option ExprId → List Step
tail_steps (Some e) = Into e.0 ∷ []
tail_steps None = []

-- the steps inside a block's scope: its statements, and then its tail
abbrev pub block_steps : List Statement → Option ExprId → List Step
block_steps statements tail = flat_map statement_steps statements ++ tail_steps tail

-- what is evaluated for a step into a value: the index that leads to an element
abbrev pub elem_steps : PlaceElem → List Step
elem_steps (ElementAt e index) = Index e index ∷ []
elem_steps _ = []

-- the base of a field is evaluated to a place, and then what the step from it needs
abbrev pub field_steps : (base : ℕ) → PlaceElem → List Step
field_steps base elem = Place base ∷ elem_steps elem

-- what is evaluated for the target of an assignment, and of a compound one
abbrev pub assignee_steps : Assignee → List Step
assignee_steps (ByPattern pat) = []
assignee_steps (ByPlace e) = Place e ∷ []

abbrev pub assigned_steps : Assigned → List Step
assigned_steps (ByPath e) = []
assigned_steps (ByField base elem) = field_steps base elem

-- The steps of each form, in order of lowering. The callee of a call isn't evaluated: it is named by a path, whose type is a function's own.
abbrev pub steps_of : CoreExpr → List Step
steps_of (expr.Literal given) = []
steps_of (expr.Path name) = []
steps_of expr.UnitStruct = []
steps_of (expr.Field base elem) = field_steps base elem
steps_of (expr.Strict operation operands) = map Operand operands
steps_of (expr.Update base id args sources operands) = Place base ∷ map Operand operands
steps_of (expr.Logic op left right) = Operand left ∷ Into right ∷ []
steps_of (expr.If condition then_branch else_branch) = Operand condition ∷ Into then_branch ∷ tail_steps else_branch
steps_of (expr.Assign to value) = Place value ∷ assignee_steps to
steps_of (expr.Compound op to value) = assigned_steps to ++ Operand value ∷ []
steps_of (expr.Block statements tail) = Open ∷ block_steps statements tail ++ Close ∷ []
steps_of (expr.Labelled label statements tail) = Open ∷ block_steps statements tail ++ Close ∷ []
steps_of (expr.Loop label body) = Open ∷ Place body ∷ Close ∷ []
steps_of (expr.Break label value) = tail_steps value
steps_of (expr.Continue label) = []
steps_of (expr.Return value) = tail_steps value
steps_of (expr.Call callee args) = map Operand args

-- the expression that a step evaluates
abbrev pub step_part : Step → List ℕ
step_part (Operand e) = e ∷ []
step_part (Place e) = e ∷ []
step_part (Into e) = e ∷ []
step_part (Index e index) = index ∷ []
step_part _ = []

-- the expressions that an expression evaluates, or may evaluate (both branches of an `if`), in the order of lowering
abbrev pub parts_of : Option CoreExpr → List ℕ
parts_of (Some form) = flat_map step_part (steps_of form)
parts_of None = []

-- the expressions that are evaluated for a field or an element
abbrev pub field_parts : (base : ℕ) → PlaceElem → List ℕ
field_parts base elem = flat_map step_part (field_steps base elem)

-- the expressions that are evaluated for the target of an assignment, and of a compound one
abbrev pub assignee_parts : Assignee → List ℕ
assignee_parts to = flat_map step_part (assignee_steps to)

abbrev pub assigned_parts : Assigned → List ℕ
assigned_parts to = flat_map step_part (assigned_steps to)

-- the expressions that a statement evaluates
abbrev pub statement_parts : Statement → List ℕ
statement_parts given = flat_map step_part (statement_steps given)
