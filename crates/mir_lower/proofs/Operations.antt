-- What is assigned to a place: a literal, and what a path names.
use Rattle.std.proofs.Common.{◌≡◌, ℕ, List, [], Option, Some, Ok, refl, sym, ap, ◌∙◌, subst, append-nil}
use Rattle.source_meaning.specs.Core.{CoreLiteral}
use Rattle.source_meaning.specs.Core as expr
use Rattle.world.specs.declared.infer.ValueNs.{ValueNs}
use Rattle.mir.specs.declared.operand.Operand.{Operand as MirOperand}
use Rattle.mir.specs.declared.operand.OperandKind.TheVariants.{Copy}
use Rattle.mir.specs.declared.ids.LocalId.{LocalId}
use Rattle.mir.specs.declared.operand.Place.{Place}
use Rattle.mir.specs.declared.operand.Rvalue.{Rvalue}
use Rattle.mir.specs.declared.operand.Rvalue.TheVariants.{Use}
use Rattle.mir.specs.declared.span.MirSpan.{MirSpan}
use Rattle.mir.specs.declared.statement.Statement.{Statement}
use Rattle.mir.specs.declared.statement.StatementKind.TheVariants.{Assign}
use Rattle.mir.specs.Memory.{Memory}
use Rattle.mir.specs.Run.{Frame, reads_out, rvalue_bytes, operand_bytes as mir_bytes, read}
use Rattle.source_meaning.specs.Around.{Around}
use Rattle.source_meaning.specs.Events.{marked_itself}
use Rattle.source_meaning.specs.Meaning.{constant_cost, copy_to, level_at, callees_at, put, put_literal, named_into, into_of, read_into}
use Rattle.source_meaning.specs.Places.{operand_bytes, operand_out, place_bytes, bytes_behind}
use Rattle.source_meaning.specs.Source.{Source, node, Cell, Binding, Place as SourcePlace, whole as place_of_cell, Store, Operand, At}
use Rattle.source_meaning.proofs.Marks.{literal_marks, name_marks}
use Rattle.mir_lower.specs.Does.{Stands, here, Fits, IsAt, IsFrameOf, Holds, Landings, Reaches, Nothing}
use Rattle.mir.specs.WholePlaces.{whole_place}
use Rattle.mir_graph.specs.Graph.{Shape, with_statement, local_of}
use Rattle.mir_lower.specs.Growth.{Grows, IsSound, IsOpen, IsReady}
use Rattle.body_forms.specs.Literals.{IsLiteral}
use Rattle.mir_lower.specs.Lowered.{Keeps, IsNamed, LowersOwn}
use Rattle.mir_lower.proofs.Growing.{grows-trans, with_statement-grows}
use Rattle.mir_lower.proofs.Laid.{lays-literal-into, lays-name-into}
use Rattle.mir_lower.proofs.Operands.{literal-fits}
use Rattle.mir_lower.proofs.Reading.{place-fits}
use Rattle.mir_lower.proofs.Reaching.{comes-refl, reaches-after}
use Rattle.mir_lower.proofs.Sound.{with_statement-sound, with_statement-open, with_statement-scope}
use Rattle.mir_lower.proofs.Sparing.{with_statement-spares}
use Rattle.mir_lower.proofs.Projecting.{whole-at}
use Rattle.mir_lower.proofs.Steps.{local_of-grows, assigned-bytes, assigned-copy, assigned-within, does-form}
use Rattle.mir_lower.specs.Callees.{Serves}

abbrev pub assignment : LocalId → Rvalue → MirSpan → Statement
assignment to rvalue span = record { kind = Assign (whole_place to) rvalue; span = span }

-- one assignment keeps the graph, and gives no cells
pub keeps-assigned : (source : Source) (s : Shape) (statement : Statement) → IsSound source s → IsOpen s → Keeps source s (with_statement statement s) []
keeps-assigned source s statement sound opened =
    record {
      grows = with_statement-grows statement s opened;
      spares = with_statement-spares statement s opened;
      sound = with_statement-sound source statement s opened sound;
      «open» = with_statement-open statement s opened;
      scope = with_statement-scope statement s opened ∙ sym (append-nil s.scope);
    }

with-marks : (source : Source) (old new : Shape) (some others : List Cell) → others ≡ some → Keeps source old new some → Keeps source old new others
with-marks source old new some others same keeps = subst (λ (m : List Cell). Keeps source old new m) (sym same) keeps

-- the cell's local in a graph that one more assignment grew to
pub local-later : (s whole : Shape) (statement : Statement) → IsOpen s → Grows (with_statement statement s) whole → (c : Cell) (l : ℕ) → local_of s c ≡ Some l → local_of whole c ≡ Some l
local-later s whole statement opened grows c l found = local_of-grows s whole (grows-trans s (with_statement statement s) whole (with_statement-grows statement s opened) grows) c l found

literal-computes : (source : Source) (whole : Shape) (frame : Frame) (e : ℕ) (l : CoreLiteral) (operand : MirOperand) (is : IsLiteral source e l operand.kind) (store : Store) (memory : Memory) → Holds whole frame store memory → rvalue_bytes frame memory (Use operand) ≡ Ok is.bytes
unfolding rvalue_bytes
literal-computes source whole frame e l operand is store memory holds = ap read ((literal-fits source whole frame e l operand.kind is).bytes store memory holds)

-- what lies at a place is copied
pub copy-computes : (source : Source) (whole : Shape) (frame : Frame) (from : Place) (at : SourcePlace) (operand : MirOperand) → operand.kind ≡ Copy from → IsSound source whole → IsFrameOf whole frame → frame.program.world ≡ source.world → IsAt whole from at → (store : Store) (memory : Memory) → Holds whole frame store memory → rvalue_bytes frame memory (Use operand) ≡ read (place_bytes source store at)
unfolding rvalue_bytes
copy-computes source whole frame from at operand copies sound frame-is world is store memory holds =
    ap (λ k. read (mir_bytes frame memory k)) copies ∙ ap read ((place-fits source whole frame from at sound frame-is world is).bytes store memory holds)

-- all of a cell has the cell's bytes
pub whole-bytes : (source : Source) (store : Store) (c : Cell) → place_bytes source store (place_of_cell c) ≡ Some (store c)
unfolding place_bytes bytes_behind
whole-bytes source store c = refl

-- a local that holds a cell's value is that cell, as a place
pub local-at : (s : Shape) (local : LocalId) (c : Cell) → local_of s c ≡ Some local.0 → IsAt s (whole_place local) (place_of_cell c)
local-at s local c found = whole-at s local c found

-- the bytes of an operand of the source are copied to a cell's local, where it isn't a place out of bounds
module _ (source : Source) (s whole : Shape) (frame : Frame) (to : LocalId) (operand : MirOperand) (span : MirSpan) (opened : IsOpen s) (sound : IsSound source whole) (is : IsFrameOf whole frame) (lands : Landings) (grows : Grows (with_statement (assignment to (Use operand) span) s) whole) (c : Cell) (local : local_of whole c ≡ Some to.0) (store : Store) (memory : Memory) (holds : Holds whole frame store memory) where
  pub assigned-read : (value : Operand) → Fits source operand.kind whole frame value → Reaches source whole lands frame (here s) (here (with_statement (assignment to (Use operand) span) s)) memory (Nothing whole frame) (read_into source value (record { cell = c }) store)
  unfolding reads_out rvalue_bytes
  assigned-read value fits =
      assigned-within source s whole frame to (Use operand) span opened sound is lands grows c local store memory holds (operand_out source store value) (fits.out store memory holds) (copy_to store (record { cell = c }) (operand_bytes source store value))
      (λ within. assigned-copy source s whole frame to (Use operand) span opened sound is lands grows c local store memory holds (operand_bytes source store value) (ap read (fits.bytes store memory holds)))

-- a copy of a place has what lies at the place
pub copy-fits : (source : Source) (whole : Shape) (frame : Frame) (from : Place) (at : SourcePlace) (operand : MirOperand) → operand.kind ≡ Copy from → IsSound source whole → IsFrameOf whole frame → frame.program.world ≡ source.world → IsAt whole from at → Fits source operand.kind whole frame (At at)
copy-fits source whole frame from at operand copies sound frame-is world is = subst (λ kind. Fits source kind whole frame (At at)) (sym copies) (place-fits source whole frame from at sound frame-is world is)

-- a literal is assigned
pub lowers-literal : (source : Source) (s new : Shape) (e : ℕ) (l : CoreLiteral) (to : LocalId) (operand : MirOperand) (span : MirSpan) → IsReady source s e → node source e ≡ Some (expr.Literal l) → IsLiteral source e l operand.kind → new ≡ with_statement (assignment to (Use operand) span) s → (c : Cell) → local_of s c ≡ Some to.0 → LowersOwn source s new e c
lowers-literal source s new e l to operand span ready form is same c local =
    let st = assignment to (Use operand) span in
    subst (λ (n : Shape). LowersOwn source s n e c) (sym same)
    (record {
      keeps = with-marks source s (with_statement st s) [] (marked_itself source e) (literal_marks source ready.checked e ready.within l form) (keeps-assigned source s st ready.sound ready.«open»);
      does = does-form source s (with_statement st s) e c (Some (expr.Literal l)) form (record { reaches = reaches });
      laid = lays-literal-into source (with_statement st s) e l form;
    }) where
      reaches : (whole : Shape) (frame : Frame) → Grows (with_statement (assignment to (Use operand) span) s) whole → IsSound source whole → IsFrameOf whole frame → (lands : Landings) (around : Around) → Stands whole s lands around → (fuel : ℕ) → Serves fuel source frame.program → (store : Store) (memory : Memory) → Holds whole frame store memory → Reaches source whole lands frame (here s) (here (with_statement (assignment to (Use operand) span) s)) memory (Nothing whole frame) (into_of source (level_at source fuel) (callees_at fuel) around e (Some (expr.Literal l)) (record { cell = c }) store)
      reaches whole frame grows sound frame-is lands around stands fuel serves store memory holds =
          subst (λ (bytes : Option (List ℕ)). Reaches source whole lands frame (here s) (here (with_statement (assignment to (Use operand) span) s)) memory (Nothing whole frame) (put_literal source e store (record { cell = c }) bytes)) (sym is.has_bytes)
          (reaches-after source whole lands frame (here s) (here s) (here (with_statement (assignment to (Use operand) span) s)) memory memory (Nothing whole frame) (constant_cost source e) (comes-refl frame (here s) memory) (put store (record { cell = c }) is.bytes)
          (assigned-bytes source s whole frame to (Use operand) span ready.«open» sound frame-is lands grows c (local-later s whole _ ready.«open» grows c to.0 local) store memory holds is.bytes (literal-computes source whole frame e l operand is store memory holds)))

-- what a path names is copied
pub lowers-named : (source : Source) (s new : Shape) (e : ℕ) (name : _) (to from : LocalId) (operand : MirOperand) (span : MirSpan) → IsReady source s e → node source e ≡ Some (expr.Path name) → IsNamed source s e from.0 → operand.kind ≡ Copy (whole_place from) → new ≡ with_statement (assignment to (Use operand) span) s → (c : Cell) → local_of s c ≡ Some to.0 → LowersOwn source s new e c
lowers-named source s new e name to from operand span ready form named copies same c local =
    let st = assignment to (Use operand) span in
    subst (λ (n : Shape). LowersOwn source s n e c) (sym same)
    (record {
      keeps = with-marks source s (with_statement st s) [] (marked_itself source e) (name_marks source ready.checked e ready.within name form) (keeps-assigned source s st ready.sound ready.«open»);
      does = does-form source s (with_statement st s) e c (Some (expr.Path name)) form (record { reaches = reaches });
      laid = lays-name-into source (with_statement st s) e name form;
    }) where
      reaches : (whole : Shape) (frame : Frame) → Grows (with_statement (assignment to (Use operand) span) s) whole → IsSound source whole → IsFrameOf whole frame → (lands : Landings) (around : Around) → Stands whole s lands around → (fuel : ℕ) → Serves fuel source frame.program → (store : Store) (memory : Memory) → Holds whole frame store memory → Reaches source whole lands frame (here s) (here (with_statement (assignment to (Use operand) span) s)) memory (Nothing whole frame) (into_of source (level_at source fuel) (callees_at fuel) around e (Some (expr.Path name)) (record { cell = c }) store)
      reaches whole frame grows sound frame-is lands around stands fuel serves store memory holds =
          subst (λ (n : Option ValueNs). Reaches source whole lands frame (here s) (here (with_statement (assignment to (Use operand) span) s)) memory (Nothing whole frame) (named_into n (record { cell = c }) store)) (sym named.named)
          (assigned-bytes source s whole frame to (Use operand) span ready.«open» sound frame-is lands grows c (local-later s whole _ ready.«open» grows c to.0 local) store memory holds (store (Binding named.binding.0))
          (copy-computes source whole frame (whole_place from) (place_of_cell (Binding named.binding.0)) operand copies sound frame-is serves.world
          (local-at whole from (Binding named.binding.0) (local-later s whole _ ready.«open» grows (Binding named.binding.0) from.0 named.found)) store memory holds
          ∙ ap read (whole-bytes source store (Binding named.binding.0))))
