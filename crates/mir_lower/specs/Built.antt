-- What a typed body has where it is lowered: each expression that is evaluated is of a form that is built, each number
-- literal's type has a layout, and each `break` and each `continue` means a loop or a labelled block around it.
use Rattle.std.specs.Prelude.{ℕ, List, [], All, Option, Some}
use Rattle.source_meaning.specs.Built.{IsBuiltForm, IsBuiltStatement}
use Rattle.source_meaning.specs.Core.{CoreExpr}
use Rattle.source_meaning.specs.Core as expr
use Rattle.source_meaning.specs.Around.{Opened}
use Rattle.source_meaning.specs.Source.{Source, node, root}
use Rattle.source_meaning.specs.Steps.{statement_parts}
use Rattle.source_meaning.specs.Valid.{Evaluates, EvaluatesIn, HasOpenTarget}
use Rattle.types.specs.declared.ids.LabelId.{LabelId}
use Rattle.world.specs.declared.body.Statement.{Statement}
use Rattle.body_forms.specs.Literals.{IsBuiltLiteral}

-- a loop or a labelled block of the body is open around an expression, and a jump with this label, or without one, means it
pub record HasTarget (source : Source) (e : ℕ) (label : Option LabelId) : Type 0 where
  pub opened : List Opened
  pub stands : EvaluatesIn source [] (root source) opened e
  pub leads : HasOpenTarget opened label

-- an expression that is lowered, whatever its parts are: its form is built, a literal has what it needs, and a jump has a target
abbrev pub IsBuiltNode : Source → ℕ → Option CoreExpr → Type 0
IsBuiltNode source e (Some (expr.Literal l)) = IsBuiltLiteral source e l
IsBuiltNode source e (Some (expr.Break label value)) = HasTarget source e label
IsBuiltNode source e (Some (expr.Continue label)) = HasTarget source e label
IsBuiltNode source e form = IsBuiltForm source e form

-- each expression that is evaluated where one is, is built
pub record IsBuilt (source : Source) (e : ℕ) : Type 0 where
  pub each : (f : ℕ) → Evaluates source e f → IsBuiltNode source f (node source f)

-- a statement is built, and so is each expression that is evaluated where it is
pub record IsBuiltThrough (source : Source) (one : Statement) : Type 0 where
  pub own : IsBuiltStatement source one
  pub parts : All (IsBuilt source) (statement_parts one)
