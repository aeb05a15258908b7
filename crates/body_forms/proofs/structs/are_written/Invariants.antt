use Rattle.std.proofs.Common.{◌≡◌, drop}
use Rattle.std.specs.Prelude.{is_some}
use Rattle.source_meaning.specs.Structs.{places_named}
use Rattle.body_forms.proofs.structs.are_written.Given as goal

-- the fields from here on are written just where all are
abbrev pub invariant-loop-field : goal.invariant-loop-field
invariant-loop-field l = is_some (places_named (drop l.field-index l.fields) l.written) ≡ is_some (places_named l.fields l.written)
