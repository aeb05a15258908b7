-- Readers of operators.
use Rattle.std.specs.Prelude.{[], ◌∷◌, None, codes, false}
use Rattle.serde_json.specs.Data.{Data}
use Rattle.types.specs.declared.operators.ArithOp.TheVariants as the_arith_op
use Rattle.types.specs.declared.operators.ArithOp.{ArithOp}
use Rattle.types.specs.declared.operators.BinaryOp.TheVariants as the_binary_op
use Rattle.types.specs.declared.operators.BinaryOp.{BinaryOp}
use Rattle.types.specs.declared.operators.CmpOp.TheVariants as the_cmp_op
use Rattle.types.specs.declared.operators.CmpOp.{CmpOp}
use Rattle.types.specs.declared.operators.LogicOp.TheVariants as the_logic_op
use Rattle.types.specs.declared.operators.LogicOp.{LogicOp}
use Rattle.types.specs.declared.operators.Ordering.TheVariants as the_ordering
use Rattle.types.specs.declared.operators.Ordering.{Ordering}
use Rattle.types.specs.declared.operators.UnaryOp.TheVariants as the_unary_op
use Rattle.types.specs.declared.operators.UnaryOp.{UnaryOp}
use Rattle.json_kit.specs.Fit.{Fit, ◌>>=◌}
use Rattle.json_kit.specs.Keys.{members_of, optional, required, with_no_other}
use Rattle.json_kit.specs.Parts.{option_of}
use Rattle.json_kit.specs.Scalars.{bool_of}
use Rattle.json_kit.specs.Variants.{enum_of, payload, unit}

unfoldable pub unary_op_of : Data → Fit UnaryOp
unary_op_of = enum_of (unit (codes "Deref") the_unary_op.Deref ∷ unit (codes "Not") the_unary_op.Not ∷ unit (codes "Neg") the_unary_op.Neg ∷ [])

unfoldable pub logic_op_of : Data → Fit LogicOp
logic_op_of = enum_of (unit (codes "And") the_logic_op.And ∷ unit (codes "Or") the_logic_op.Or ∷ [])

unfoldable pub arith_op_of : Data → Fit ArithOp
arith_op_of = enum_of (unit (codes "Add") the_arith_op.Add ∷ unit (codes "Mul") the_arith_op.Mul ∷ unit (codes "Sub") the_arith_op.Sub ∷ unit (codes "Div") the_arith_op.Div ∷ unit (codes "Rem") the_arith_op.Rem ∷ unit (codes "Shl") the_arith_op.Shl ∷ unit (codes "Shr") the_arith_op.Shr ∷ unit (codes "BitXor") the_arith_op.BitXor ∷ unit (codes "BitOr") the_arith_op.BitOr ∷ unit (codes "BitAnd") the_arith_op.BitAnd ∷ [])

unfoldable pub ordering_of : Data → Fit Ordering
ordering_of = enum_of (unit (codes "Less") the_ordering.Less ∷ unit (codes "Greater") the_ordering.Greater ∷ [])

unfoldable pub cmp_op_eq_of : Data → Fit CmpOp
cmp_op_eq_of d = do
  ms ← members_of d
  negated ← optional false (codes "negated") bool_of d
  with_no_other (codes "negated" ∷ []) ms (the_cmp_op.Eq negated)

unfoldable pub cmp_op_ord_of : Data → Fit CmpOp
cmp_op_ord_of d = do
  ms ← members_of d
  ordering ← required (codes "ordering") ordering_of d
  strict ← optional false (codes "strict") bool_of d
  with_no_other (codes "ordering" ∷ codes "strict" ∷ []) ms (the_cmp_op.Ord ordering strict)

unfoldable pub cmp_op_of : Data → Fit CmpOp
cmp_op_of = enum_of (payload (codes "Eq") cmp_op_eq_of (λ whole. whole) ∷ payload (codes "Ord") cmp_op_ord_of (λ whole. whole) ∷ [])

unfoldable pub binary_op_assignment_of : Data → Fit BinaryOp
binary_op_assignment_of d = do
  ms ← members_of d
  op ← optional None (codes "op") (option_of arith_op_of) d
  with_no_other (codes "op" ∷ []) ms (the_binary_op.Assignment op)

unfoldable pub binary_op_of : Data → Fit BinaryOp
binary_op_of = enum_of (payload (codes "LogicOp") logic_op_of the_binary_op.LogicOp ∷ payload (codes "ArithOp") arith_op_of the_binary_op.ArithOp ∷ payload (codes "CmpOp") cmp_op_of the_binary_op.CmpOp ∷ payload (codes "Assignment") binary_op_assignment_of (λ whole. whole) ∷ [])
