use Rattle.std.proofs.Common.{◌≡◌, ◌≢◌, true, ap, sym, ◌∙◌, rules}
use Rattle.std.specs.Prelude.{List, Option, option_and_then, slice_get}
use Rattle.mir.specs.declared.answers.Answer.{Answer}
use Rattle.mir.specs.declared.answers.Query.{Query}
use Rattle.mir.specs.Run.{Program, begun}
use Rattle.types.specs.declared.ids.Crate.{Crate}
use Rattle.mir_eval.specs.Evaluators.{machine_of}
use Rattle.mir_eval.specs.Machine.{pointer_bytes}
use Rattle.mir_eval.specs.Start.{is_own_width, started}
use Rattle.mir_eval.proofs.Starting.{starts}
use Rattle.mir_eval.proofs.evaluator.Evaluator.begin.Goals as goal

pub returns-in-Ok-clause-began : goal.returns-in-Ok-clause-began
returns-in-Ok-clause-began g c =
    let old = c.args.self.now in
    let own : c.is_own_width.result ≡ true = search rules in
    let width : c.pointer_bytes.result ≡ pointer_bytes old.db.now old.owner =
    c.pointer_bytes.ensures
    ∙ ap (λ (k : Option Crate). option_and_then (λ krate. option_and_then (λ row. row.pointer_bytes) (slice_get old.db.now.crates krate.0)) k) c.crate_of.ensures in
    let some : old.nesting ≢ 0 = search rules in
    let body = c.args.body.value in
    let told : List (Query × Answer) → Program = λ answers. record { world = old.db.now; nesting = old.nesting; bytes = old.bytes; answers = answers } in
    starts (machine_of g.M.Memory.areas old) body _ (ap is_own_width (sym width) ∙ sym c.is_own_width.ensures ∙ own) some
    (ap (λ (answers : List (Query × Answer)). started body.param_locals (begun (told answers) body) body.start_block.0 old.blocks) (sym c.new.ensures) ∙ c.in-Ok.ensures.ok)
