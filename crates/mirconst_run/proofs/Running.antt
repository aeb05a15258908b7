-- A run whose goals are evaluated, from its parts.
use Rattle.std.proofs.Common.{◌≡◌, ℕ, Bool, List, ◌++◌, option_map, sym}
use Rattle.std.specs.List.{list_all}
use Rattle.serde_json.specs.Read.{read}
use Rattle.consteval.specs.Kept.{Kept}
use Rattle.consteval.specs.declared.evaluated.Evaluated.{Evaluated}
use Rattle.world.specs.declared.database.HirDatabase.{HirDatabase}
use Rattle.world_json.specs.declared.goal.Goal.{Goal}
use Rattle.mirconst_run.specs.Answers.{AreAnswers, has_value, nothing_kept}
use Rattle.mirconst_input.specs.Input.{IsReadToEnd, StandsFor}
use Rattle.mirconst_input.specs.Streams.{Streams}
use Rattle.mirconst_run.specs.Report.{report_text}
use Rattle.mirconst_run.specs.Runs.{IsReportOf, IsAnswered}

-- the input was read to its end, and the report on its goals was written
pub answered : (before after : Streams) (bytes text : List ℕ) (all : Bool) → IsReadToEnd before.left after.left bytes → IsReportOf bytes text all →
    after.written ≡ option_map (λ earlier. earlier ++ text) before.written → IsAnswered before after all
answered before after bytes text all read reports appended =
    record { bytes = bytes; read = read; reported = record { text = text; is_report = reports; appended = appended } }

-- the text of the report on the goals in the bytes of the input
pub reports : (bytes text : List ℕ) (world : HirDatabase) (goals : List Goal) (outcomes : List Evaluated) (all : Bool) → StandsFor bytes world goals →
    ((after : Kept) × AreAnswers (nothing_kept world) goals outcomes after) → all ≡ list_all has_value outcomes → text ≡ report_text world outcomes → IsReportOf bytes text all
reports bytes text world goals outcomes all input answers valued reported = record {
  world = world;
  outcomes = outcomes;
  are = record { goals = goals; input = input; after = answers.0; answers = answers.1 };
  valued = sym valued;
  reported = reported;
}
