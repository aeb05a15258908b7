-- The text of the report, one evaluation after another.
use Rattle.std.proofs.Common.{◌≡◌, ℕ, suc, ◌+◌, ◌<◌, ◌≤◌, List, [], ◌∷◌, ◌++◌, length, get_or, drop, refl, sym, ap, ◌∙◌, append_assoc, drop-cons, length-drop, arith}
use Rattle.std.proofs.lemmas.List.{append-nil, nil_from_length}
use Rattle.consteval.specs.declared.evaluated.Evaluated.{Evaluated}
use Rattle.mirconst_run.specs.Report.{report_from}
use Rattle.report_text.specs.Goals.{goal_text}
use Rattle.world.specs.declared.database.HirDatabase.{HirDatabase}

-- the lines for the outcome of the evaluation of goal `number`
abbrev pub lines : HirDatabase → ℕ → Evaluated → List ℕ
lines world number outcome = goal_text world number outcome.result outcome.output outcome.turns

-- the outcomes that are left begin with the next one
next : (outcomes : List Evaluated) (i : ℕ) (outcome : Evaluated) → i < length outcomes → outcome ≡ get_or outcomes i outcome →
    drop i outcomes ≡ outcome ∷ drop (i + 1) outcomes
next outcomes i outcome within is =
    let more : suc i ≡ i + 1 = omega arith in
    drop-cons outcomes i outcome within ∙ ap (λ (n : ℕ). get_or outcomes i outcome ∷ drop n outcomes) more ∙ ap (λ (first : Evaluated). first ∷ drop (i + 1) outcomes) (sym is)

pub one_more : (world : HirDatabase) (out out' whole : List ℕ) (outcomes : List Evaluated) (i : ℕ) (outcome : Evaluated) → i < length outcomes → outcome ≡ get_or outcomes i outcome →
    out' ≡ out ++ lines world i outcome → out ++ report_from world i (drop i outcomes) ≡ whole → out' ++ report_from world (i + 1) (drop (i + 1) outcomes) ≡ whole
one_more world out out' whole outcomes i outcome within is more so_far =
    let split : report_from world i (drop i outcomes) ≡ lines world i outcome ++ report_from world (i + 1) (drop (i + 1) outcomes) = rw (next outcomes i outcome within is) refl in
    ap (λ (text : List ℕ). text ++ report_from world (i + 1) (drop (i + 1) outcomes)) more
    ∙ append_assoc out (lines world i outcome) (report_from world (i + 1) (drop (i + 1) outcomes)) ∙ ap (λ (rest : List ℕ). out ++ rest) (sym split) ∙ so_far

pub all_done : (world : HirDatabase) (out whole : List ℕ) (outcomes : List Evaluated) (i : ℕ) → length outcomes ≤ i →
    out ++ report_from world i (drop i outcomes) ≡ whole → out ≡ whole
all_done world out whole outcomes i past is =
    let nothing : drop i outcomes ≡ [] = nil_from_length (drop i outcomes) (omega (arith, length-drop i outcomes)) in
    let end : out ++ report_from world i (drop i outcomes) ≡ out = rw nothing (append-nil out) in
    sym end ∙ is
