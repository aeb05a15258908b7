-- Readers of expressions.
use Rattle.std.specs.Prelude.{[], ◌∷◌, Option, None, codes}
use Rattle.serde_json.specs.Data.{Data}
use Rattle.world.specs.declared.expr.Expr.TheVariants as the_expr
use Rattle.world.specs.declared.expr.Expr.{Expr}
use Rattle.world.specs.declared.expr.MatchArm.{MatchArm}
use Rattle.world.specs.declared.expr.RecordLitField.{RecordLitField}
use Rattle.world.specs.declared.expr.RecordSpread.TheVariants as the_record_spread
use Rattle.world.specs.declared.expr.RecordSpread.{RecordSpread}
use Rattle.json_kit.specs.Fit.{Fit, ◌>>=◌}
use Rattle.json_types.specs.Ids.{expr_id_of, label_id_of, pat_id_of}
use Rattle.json_kit.specs.Keys.{members_of, optional, required, with_no_other}
use Rattle.json_types.specs.Kinds.{mutability_of}
use Rattle.json_bodies.specs.Literals.{literal_of}
use Rattle.json_bodies.specs.Operators.{binary_op_of, unary_op_of}
use Rattle.json_kit.specs.Parts.{list_of, option_of}
use Rattle.json_kit.specs.Scalars.{text_of}
use Rattle.json_bodies.specs.Statements.{statement_of}
use Rattle.json_kit.specs.Variants.{Named, enum_of, first_of, payload, unit}

unfoldable pub match_arm_of : Data → Fit MatchArm
match_arm_of d = do
  ms ← members_of d
  pat ← required (codes "pat") pat_id_of d
  guard ← optional None (codes "guard") (option_of expr_id_of) d
  expr ← required (codes "expr") expr_id_of d
  with_no_other (codes "pat" ∷ codes "guard" ∷ codes "expr" ∷ []) ms (record { pat = pat; guard = guard; expr = expr })

unfoldable pub record_lit_field_of : Data → Fit RecordLitField
record_lit_field_of d = do
  ms ← members_of d
  name ← required (codes "name") text_of d
  expr ← required (codes "expr") expr_id_of d
  with_no_other (codes "name" ∷ codes "expr" ∷ []) ms (record { name = name; expr = expr })

unfoldable pub record_spread_of : Data → Fit RecordSpread
record_spread_of = enum_of (payload (codes "Expr") expr_id_of the_record_spread.Expr ∷ unit (codes "None") the_record_spread.None ∷ unit (codes "FieldDefaults") the_record_spread.FieldDefaults ∷ [])

unfoldable pub expr_if_of : Data → Fit Expr
expr_if_of d = do
  ms ← members_of d
  condition ← required (codes "condition") expr_id_of d
  then_branch ← required (codes "then_branch") expr_id_of d
  else_branch ← optional None (codes "else_branch") (option_of expr_id_of) d
  with_no_other (codes "condition" ∷ codes "then_branch" ∷ codes "else_branch" ∷ []) ms (the_expr.If condition then_branch else_branch)

unfoldable pub expr_let_of : Data → Fit Expr
expr_let_of d = do
  ms ← members_of d
  pat ← required (codes "pat") pat_id_of d
  expr ← required (codes "expr") expr_id_of d
  with_no_other (codes "pat" ∷ codes "expr" ∷ []) ms (the_expr.Let pat expr)

unfoldable pub expr_block_of : Data → Fit Expr
expr_block_of d = do
  ms ← members_of d
  statements ← optional [] (codes "statements") (list_of statement_of) d
  tail ← optional None (codes "tail") (option_of expr_id_of) d
  label ← optional None (codes "label") (option_of label_id_of) d
  with_no_other (codes "statements" ∷ codes "tail" ∷ codes "label" ∷ []) ms (the_expr.Block statements tail label)

unfoldable pub expr_unsafe_of : Data → Fit Expr
expr_unsafe_of d = do
  ms ← members_of d
  statements ← optional [] (codes "statements") (list_of statement_of) d
  tail ← optional None (codes "tail") (option_of expr_id_of) d
  with_no_other (codes "statements" ∷ codes "tail" ∷ []) ms (the_expr.Unsafe statements tail)

unfoldable pub expr_loop_of : Data → Fit Expr
expr_loop_of d = do
  ms ← members_of d
  body ← required (codes "body") expr_id_of d
  label ← optional None (codes "label") (option_of label_id_of) d
  with_no_other (codes "body" ∷ codes "label" ∷ []) ms (the_expr.Loop body label)

unfoldable pub expr_call_of : Data → Fit Expr
expr_call_of d = do
  ms ← members_of d
  callee ← required (codes "callee") expr_id_of d
  args ← optional [] (codes "args") (list_of expr_id_of) d
  with_no_other (codes "callee" ∷ codes "args" ∷ []) ms (the_expr.Call callee args)

unfoldable pub expr_method_call_of : Data → Fit Expr
expr_method_call_of d = do
  ms ← members_of d
  receiver ← required (codes "receiver") expr_id_of d
  args ← optional [] (codes "args") (list_of expr_id_of) d
  method_name ← required (codes "method_name") text_of d
  with_no_other (codes "receiver" ∷ codes "args" ∷ codes "method_name" ∷ []) ms (the_expr.MethodCall receiver args method_name)

unfoldable pub expr_match_of : Data → Fit Expr
expr_match_of d = do
  ms ← members_of d
  expr ← required (codes "expr") expr_id_of d
  arms ← optional [] (codes "arms") (list_of match_arm_of) d
  with_no_other (codes "expr" ∷ codes "arms" ∷ []) ms (the_expr.Match expr arms)

unfoldable pub expr_continue_of : Data → Fit Expr
expr_continue_of d = do
  ms ← members_of d
  label ← optional None (codes "label") (option_of label_id_of) d
  with_no_other (codes "label" ∷ []) ms (the_expr.Continue label)

unfoldable pub expr_break_of : Data → Fit Expr
expr_break_of d = do
  ms ← members_of d
  expr ← optional None (codes "expr") (option_of expr_id_of) d
  label ← optional None (codes "label") (option_of label_id_of) d
  with_no_other (codes "expr" ∷ codes "label" ∷ []) ms (the_expr.Break expr label)

unfoldable pub expr_return_of : Data → Fit Expr
expr_return_of d = do
  ms ← members_of d
  expr ← optional None (codes "expr") (option_of expr_id_of) d
  with_no_other (codes "expr" ∷ []) ms (the_expr.Return expr)

unfoldable pub expr_record_lit_of : Data → Fit Expr
expr_record_lit_of d = do
  ms ← members_of d
  path ← optional None (codes "path") (option_of text_of) d
  fields ← optional [] (codes "fields") (list_of record_lit_field_of) d
  spread ← required (codes "spread") record_spread_of d
  with_no_other (codes "path" ∷ codes "fields" ∷ codes "spread" ∷ []) ms (the_expr.RecordLit path fields spread)

unfoldable pub expr_field_of : Data → Fit Expr
expr_field_of d = do
  ms ← members_of d
  expr ← required (codes "expr") expr_id_of d
  name ← required (codes "name") text_of d
  with_no_other (codes "expr" ∷ codes "name" ∷ []) ms (the_expr.Field expr name)

unfoldable pub expr_cast_of : Data → Fit Expr
expr_cast_of d = do
  ms ← members_of d
  expr ← required (codes "expr") expr_id_of d
  with_no_other (codes "expr" ∷ []) ms (the_expr.Cast expr)

unfoldable pub expr_ref_of : Data → Fit Expr
expr_ref_of d = do
  ms ← members_of d
  expr ← required (codes "expr") expr_id_of d
  mutability ← required (codes "mutability") mutability_of d
  with_no_other (codes "expr" ∷ codes "mutability" ∷ []) ms (the_expr.Ref expr mutability)

unfoldable pub expr_box_of : Data → Fit Expr
expr_box_of d = do
  ms ← members_of d
  expr ← required (codes "expr") expr_id_of d
  with_no_other (codes "expr" ∷ []) ms (the_expr.Box expr)

unfoldable pub expr_unary_op_of : Data → Fit Expr
expr_unary_op_of d = do
  ms ← members_of d
  expr ← required (codes "expr") expr_id_of d
  op ← required (codes "op") unary_op_of d
  with_no_other (codes "expr" ∷ codes "op" ∷ []) ms (the_expr.UnaryOp expr op)

unfoldable pub expr_binary_op_of : Data → Fit Expr
expr_binary_op_of d = do
  ms ← members_of d
  lhs ← required (codes "lhs") expr_id_of d
  rhs ← required (codes "rhs") expr_id_of d
  op ← optional None (codes "op") (option_of binary_op_of) d
  with_no_other (codes "lhs" ∷ codes "rhs" ∷ codes "op" ∷ []) ms (the_expr.BinaryOp lhs rhs op)

unfoldable pub expr_assignment_of : Data → Fit Expr
expr_assignment_of d = do
  ms ← members_of d
  target ← required (codes "target") pat_id_of d
  value ← required (codes "value") expr_id_of d
  with_no_other (codes "target" ∷ codes "value" ∷ []) ms (the_expr.Assignment target value)

unfoldable pub expr_range_of : Data → Fit Expr
expr_range_of d = do
  ms ← members_of d
  lhs ← optional None (codes "lhs") (option_of expr_id_of) d
  rhs ← optional None (codes "rhs") (option_of expr_id_of) d
  with_no_other (codes "lhs" ∷ codes "rhs" ∷ []) ms (the_expr.Range lhs rhs)

unfoldable pub expr_index_of : Data → Fit Expr
expr_index_of d = do
  ms ← members_of d
  base ← required (codes "base") expr_id_of d
  index ← required (codes "index") expr_id_of d
  with_no_other (codes "base" ∷ codes "index" ∷ []) ms (the_expr.Index base index)

unfoldable pub expr_closure_of : Data → Fit Expr
expr_closure_of d = do
  ms ← members_of d
  args ← optional [] (codes "args") (list_of pat_id_of) d
  body ← required (codes "body") expr_id_of d
  with_no_other (codes "args" ∷ codes "body" ∷ []) ms (the_expr.Closure args body)

unfoldable pub expr_tuple_of : Data → Fit Expr
expr_tuple_of d = do
  ms ← members_of d
  exprs ← optional [] (codes "exprs") (list_of expr_id_of) d
  with_no_other (codes "exprs" ∷ []) ms (the_expr.Tuple exprs)

unfoldable pub expr_array_of : Data → Fit Expr
expr_array_of d = do
  ms ← members_of d
  elements ← optional [] (codes "elements") (list_of expr_id_of) d
  with_no_other (codes "elements" ∷ []) ms (the_expr.Array elements)

unfoldable pub expr_repeat_of : Data → Fit Expr
expr_repeat_of d = do
  ms ← members_of d
  initializer ← required (codes "initializer") expr_id_of d
  with_no_other (codes "initializer" ∷ []) ms (the_expr.Repeat initializer)

unfoldable pub bare_expr_of : Named → Fit (Option Expr)
bare_expr_of = first_of (unit (codes "Missing") the_expr.Missing ∷ unit (codes "Underscore") the_expr.Underscore ∷ unit (codes "OffsetOf") the_expr.OffsetOf ∷ unit (codes "InlineAsm") the_expr.InlineAsm ∷ [])

unfoldable pub simple_expr_of : Named → Fit (Option Expr)
simple_expr_of = first_of (payload (codes "Path") text_of the_expr.Path ∷ payload (codes "Literal") literal_of the_expr.Literal ∷ payload (codes "Become") expr_id_of the_expr.Become ∷ payload (codes "Yield") (option_of expr_id_of) the_expr.Yield ∷ [])

unfoldable pub jump_expr_of : Named → Fit (Option Expr)
jump_expr_of = first_of (payload (codes "Yeet") (option_of expr_id_of) the_expr.Yeet ∷ payload (codes "Await") expr_id_of the_expr.Await ∷ payload (codes "Async") expr_id_of the_expr.Async ∷ payload (codes "Const") expr_id_of the_expr.Const ∷ [])

unfoldable pub branch_expr_of : Named → Fit (Option Expr)
branch_expr_of = first_of (payload (codes "If") expr_if_of (λ whole. whole) ∷ payload (codes "Let") expr_let_of (λ whole. whole) ∷ payload (codes "Block") expr_block_of (λ whole. whole) ∷ payload (codes "Unsafe") expr_unsafe_of (λ whole. whole) ∷ [])

unfoldable pub call_expr_of : Named → Fit (Option Expr)
call_expr_of = first_of (payload (codes "Loop") expr_loop_of (λ whole. whole) ∷ payload (codes "Call") expr_call_of (λ whole. whole) ∷ payload (codes "MethodCall") expr_method_call_of (λ whole. whole) ∷ payload (codes "Match") expr_match_of (λ whole. whole) ∷ [])

unfoldable pub exit_expr_of : Named → Fit (Option Expr)
exit_expr_of = first_of (payload (codes "Continue") expr_continue_of (λ whole. whole) ∷ payload (codes "Break") expr_break_of (λ whole. whole) ∷ payload (codes "Return") expr_return_of (λ whole. whole) ∷ payload (codes "RecordLit") expr_record_lit_of (λ whole. whole) ∷ [])

unfoldable pub place_expr_of : Named → Fit (Option Expr)
place_expr_of = first_of (payload (codes "Field") expr_field_of (λ whole. whole) ∷ payload (codes "Cast") expr_cast_of (λ whole. whole) ∷ payload (codes "Ref") expr_ref_of (λ whole. whole) ∷ payload (codes "Box") expr_box_of (λ whole. whole) ∷ [])

unfoldable pub operator_expr_of : Named → Fit (Option Expr)
operator_expr_of = first_of (payload (codes "UnaryOp") expr_unary_op_of (λ whole. whole) ∷ payload (codes "BinaryOp") expr_binary_op_of (λ whole. whole) ∷ payload (codes "Assignment") expr_assignment_of (λ whole. whole) ∷ payload (codes "Range") expr_range_of (λ whole. whole) ∷ [])

unfoldable pub part_expr_of : Named → Fit (Option Expr)
part_expr_of = first_of (payload (codes "Index") expr_index_of (λ whole. whole) ∷ payload (codes "Closure") expr_closure_of (λ whole. whole) ∷ payload (codes "Tuple") expr_tuple_of (λ whole. whole) ∷ [])

unfoldable pub array_expr_of : Named → Fit (Option Expr)
array_expr_of = first_of (payload (codes "Array") expr_array_of (λ whole. whole) ∷ payload (codes "Repeat") expr_repeat_of (λ whole. whole) ∷ [])

unfoldable pub expr_of : Data → Fit Expr
expr_of = enum_of (bare_expr_of ∷ simple_expr_of ∷ jump_expr_of ∷ branch_expr_of ∷ call_expr_of ∷ exit_expr_of ∷ place_expr_of ∷ operator_expr_of ∷ part_expr_of ∷ array_expr_of ∷ [])
