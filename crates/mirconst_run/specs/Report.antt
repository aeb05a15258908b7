-- The text of the report on the evaluations of goals, which are definitions to be evaluated as constants.
use Rattle.std.specs.Prelude.{ℕ, ◌+◌, List, [], ◌∷◌, ◌++◌}
use Rattle.consteval.specs.declared.evaluated.Evaluated.{Evaluated}
use Rattle.report_text.specs.Goals.{goal_text}
use Rattle.world.specs.declared.database.HirDatabase.{HirDatabase}

-- the lines for the outcomes of evaluations, with the names that a world gives to items; the first outcome is that of goal `number`
abbrev pub report_from : HirDatabase → ℕ → List Evaluated → List ℕ
report_from world number [] = []
report_from world number (outcome ∷ outcomes) =
    goal_text world number outcome.result outcome.output outcome.turns ++ report_from world (number + 1) outcomes

-- the lines for the outcomes of all goals, which are counted from 0
abbrev pub report_text : HirDatabase → List Evaluated → List ℕ
report_text world outcomes = report_from world 0 outcomes
