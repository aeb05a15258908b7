-- Readers of statements.
use Rattle.std.specs.Prelude.{[], ◌∷◌, None, codes, false}
use Rattle.serde_json.specs.Data.{Data}
use Rattle.world.specs.declared.body.Statement.TheVariants as the_statement
use Rattle.world.specs.declared.body.Statement.{Statement}
use Rattle.json_kit.specs.Fit.{Fit, ◌>>=◌}
use Rattle.json_types.specs.Ids.{expr_id_of, pat_id_of}
use Rattle.json_kit.specs.Keys.{members_of, optional, required, with_no_other}
use Rattle.json_kit.specs.Parts.{option_of}
use Rattle.json_kit.specs.Scalars.{bool_of}
use Rattle.json_kit.specs.Variants.{enum_of, payload, unit}

unfoldable pub statement_let_of : Data → Fit Statement
statement_let_of d = do
  ms ← members_of d
  pat ← required (codes "pat") pat_id_of d
  initializer ← optional None (codes "initializer") (option_of expr_id_of) d
  else_branch ← optional None (codes "else_branch") (option_of expr_id_of) d
  with_no_other (codes "pat" ∷ codes "initializer" ∷ codes "else_branch" ∷ []) ms (the_statement.Let pat initializer else_branch)

unfoldable pub statement_expr_of : Data → Fit Statement
statement_expr_of d = do
  ms ← members_of d
  expr ← required (codes "expr") expr_id_of d
  has_semi ← optional false (codes "has_semi") bool_of d
  with_no_other (codes "expr" ∷ codes "has_semi" ∷ []) ms (the_statement.Expr expr has_semi)

unfoldable pub statement_of : Data → Fit Statement
statement_of = enum_of (payload (codes "Let") statement_let_of (λ whole. whole) ∷ payload (codes "Expr") statement_expr_of (λ whole. whole) ∷ unit (codes "Item") the_statement.Item ∷ [])
