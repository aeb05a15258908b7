-- What the nodes of a body hold, in the order of their fields, and the labels that they name.
use Rattle.std.specs.Prelude.{ℕ, List, [], ◌∷◌, ◌++◌, Option, Some, None, flat_map, map}
use Rattle.types.specs.declared.ids.BindingId.{BindingId}
use Rattle.types.specs.declared.ids.ExprId.{ExprId}
use Rattle.types.specs.declared.ids.LabelId.{LabelId}
use Rattle.types.specs.declared.ids.PatId.{PatId}
use Rattle.world.specs.declared.body.Statement.{Statement}
use Rattle.world.specs.declared.body.Statement.TheVariants as statement
use Rattle.world.specs.declared.expr.Expr.{Expr}
use Rattle.world.specs.declared.expr.Expr.TheVariants as expr
use Rattle.world.specs.declared.expr.MatchArm.{MatchArm}
use Rattle.world.specs.declared.expr.RecordLitField.{RecordLitField}
use Rattle.world.specs.declared.expr.RecordSpread.{RecordSpread}
use Rattle.world.specs.declared.expr.RecordSpread.TheVariants as spread
use Rattle.world.specs.declared.pat.Pat.{Pat}
use Rattle.world.specs.declared.pat.Pat.TheVariants as pat
use Rattle.world.specs.declared.pat.RecordFieldPat.{RecordFieldPat}

-- an optional expression's number
abbrev pub optional : Option ExprId → List ℕ
optional (Some e) = e.0 ∷ []
optional None = []

-- the numbers of expressions
abbrev pub expr_numbers : List ExprId → List ℕ
expr_numbers ids = map (λ (id : ExprId). id.0) ids

-- an optional pattern's number
abbrev pub optional_pat : Option PatId → List ℕ
optional_pat (Some p) = p.0 ∷ []
optional_pat None = []

-- the numbers of patterns
abbrev pub pat_numbers : List PatId → List ℕ
pat_numbers ids = map (λ (id : PatId). id.0) ids

-- the expressions that a statement holds
abbrev pub statement_children : Statement → List ℕ
statement_children (statement.Let pat initializer else_branch) = optional initializer ++ optional else_branch
statement_children (statement.Expr e has_semi) = e.0 ∷ []
statement_children statement.Item = []

-- the patterns that a statement holds
abbrev pub statement_patterns : Statement → List ℕ
statement_patterns (statement.Let pat initializer else_branch) = pat.0 ∷ []
statement_patterns _ = []

-- the expressions that an arm holds
abbrev pub arm_children : MatchArm → List ℕ
arm_children arm = optional arm.guard ++ (arm.expr.0 ∷ [])

-- the fields that a record literal names
abbrev pub field_numbers : List RecordLitField → List ℕ
field_numbers fields = map (λ (field : RecordLitField). field.expr.0) fields

-- the base of a record literal
abbrev pub spread_children : RecordSpread → List ℕ
spread_children (spread.Expr e) = e.0 ∷ []
spread_children _ = []

-- the expressions that an expression holds itself, and not in a pattern
abbrev pub children_of : Expr → List ℕ
children_of (expr.If condition then_branch else_branch) = condition.0 ∷ then_branch.0 ∷ optional else_branch
children_of (expr.Let pat e) = e.0 ∷ []
children_of (expr.Block statements tail label) = flat_map statement_children statements ++ optional tail
children_of (expr.Unsafe statements tail) = flat_map statement_children statements ++ optional tail
children_of (expr.Loop body label) = body.0 ∷ []
children_of (expr.Call callee args) = callee.0 ∷ expr_numbers args
children_of (expr.MethodCall receiver args method_name) = receiver.0 ∷ expr_numbers args
children_of (expr.Match e arms) = e.0 ∷ flat_map arm_children arms
children_of (expr.Break e label) = optional e
children_of (expr.Return e) = optional e
children_of (expr.RecordLit path fields base) = field_numbers fields ++ spread_children base
children_of (expr.Field e name) = e.0 ∷ []
children_of (expr.Cast e) = e.0 ∷ []
children_of (expr.Ref e mutability) = e.0 ∷ []
children_of (expr.Box e) = e.0 ∷ []
children_of (expr.UnaryOp e op) = e.0 ∷ []
children_of (expr.BinaryOp lhs rhs op) = lhs.0 ∷ rhs.0 ∷ []
children_of (expr.Assignment target value) = value.0 ∷ []
children_of (expr.Range lhs rhs) = optional lhs ++ optional rhs
children_of (expr.Index base index) = base.0 ∷ index.0 ∷ []
children_of (expr.Closure args body) = body.0 ∷ []
children_of (expr.Tuple exprs) = expr_numbers exprs
children_of (expr.Array elements) = expr_numbers elements
children_of (expr.Repeat initializer) = initializer.0 ∷ []
children_of (expr.Become e) = e.0 ∷ []
children_of (expr.Yield e) = optional e
children_of (expr.Yeet e) = optional e
children_of (expr.Await e) = e.0 ∷ []
children_of (expr.Async e) = e.0 ∷ []
children_of (expr.Const e) = e.0 ∷ []
children_of _ = []

-- the patterns that an expression holds
abbrev pub patterns_of : Expr → List ℕ
patterns_of (expr.Let pat e) = pat.0 ∷ []
patterns_of (expr.Block statements tail label) = flat_map statement_patterns statements
patterns_of (expr.Unsafe statements tail) = flat_map statement_patterns statements
patterns_of (expr.Match e arms) = map (λ (arm : MatchArm). arm.pat.0) arms
patterns_of (expr.Assignment target value) = target.0 ∷ []
patterns_of (expr.Closure args body) = pat_numbers args
patterns_of _ = []

-- the patterns that a pattern holds
abbrev pub subpatterns_of : Pat → List ℕ
subpatterns_of (pat.Tuple args ellipsis) = pat_numbers args
subpatterns_of (pat.Or alternatives) = pat_numbers alternatives
subpatterns_of (pat.Record args) = map (λ (field : RecordFieldPat). field.pat.0) args
subpatterns_of (pat.Slice prefix slice suffix) = pat_numbers prefix ++ (optional_pat slice ++ pat_numbers suffix)
subpatterns_of (pat.Bind id subpat) = optional_pat subpat
subpatterns_of (pat.TupleStruct args ellipsis) = pat_numbers args
subpatterns_of (pat.Ref inner) = inner.0 ∷ []
subpatterns_of (pat.Box inner) = inner.0 ∷ []
subpatterns_of _ = []

-- the expressions that a pattern holds
abbrev pub inner_exprs_of : Pat → List ℕ
inner_exprs_of (pat.Range start end range_type) = optional start ++ optional end
inner_exprs_of (pat.Lit e) = e.0 ∷ []
inner_exprs_of (pat.Expr e) = e.0 ∷ []
inner_exprs_of (pat.ConstBlock e) = e.0 ∷ []
inner_exprs_of _ = []

-- the label that a jump names
abbrev pub jump_label : Expr → Option LabelId
jump_label (expr.Break e label) = label
jump_label (expr.Continue label) = label
jump_label _ = None

-- the label of a loop or a block
abbrev pub scope_label : Expr → Option LabelId
scope_label (expr.Loop body label) = label
scope_label (expr.Block statements tail label) = label
scope_label _ = None

-- the binding that a pattern is
abbrev pub binding_of : Pat → Option BindingId
binding_of (pat.Bind id subpat) = Some id
binding_of _ = None
