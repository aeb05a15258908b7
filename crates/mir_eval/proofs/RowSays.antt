-- What rows say, said of a run: the bytes of sources, what statements do, and where terminators lead.
use Rattle.std.proofs.Common.{◌≡◌, ℕ, Bool, true, false, ◌||◌, List, [], ◌∷◌, length, slice_index_or, Option, Some, None, Result, Ok, refl, sym, ap, ◌∙◌, subst, arith}
use Rattle.std.specs.Prelude.{IfSome, if◌then◌else◌, ◌==◌, option_map, option_and_then}
use Rattle.std.specs.List.{concat}
use Rattle.types.specs.declared.ty.Ty.{Ty}
use Rattle.numbers.specs.Bytes.{value_of}
use Rattle.numbers.specs.declared.operator.Kind.{Kind}
use Rattle.numbers.specs.declared.operator.Operator.{Operator}
use Rattle.numbers.specs.Operators.{Computes, computed, converted}
use Rattle.mir.specs.declared.address.Interval.{Interval}
use Rattle.mir.specs.declared.body.Terminator.{Terminator}
use Rattle.mir.specs.declared.body.TerminatorKind.{TerminatorKind}
use Rattle.mir.specs.declared.body.TerminatorKind.TheVariants as ends
use Rattle.mir.specs.declared.errors.MirEvalError.{MirEvalError}
use Rattle.mir.specs.declared.ids.BasicBlockId.{BasicBlockId}
use Rattle.mir.specs.declared.ids.LocalId.{LocalId}
use Rattle.mir.specs.declared.operand.Operand.{Operand}
use Rattle.mir.specs.declared.operand.OperandKind.{OperandKind}
use Rattle.mir.specs.declared.operand.OperandKind.TheVariants as operand
use Rattle.mir.specs.declared.operand.Place.{Place}
use Rattle.mir.specs.declared.operand.Rvalue.{Rvalue}
use Rattle.mir.specs.declared.operand.Rvalue.TheVariants.{Use, Repeat, CheckedBinaryOp, UnaryOp, Cast, Aggregate}
use Rattle.mir.specs.declared.statement.StatementKind.{StatementKind}
use Rattle.mir.specs.declared.statement.StatementKind.TheVariants.{Assign, FakeRead, StorageLive, StorageDead}
use Rattle.mir.specs.declared.switch.SwitchTargets.{SwitchTargets}
use Rattle.mir.specs.Memory.{Memory, cell_bytes, number_held}
use Rattle.mir.specs.Places.{is_out_of_bounds}
use Rattle.mir.specs.Run.{Frame, GoesTo, after_statement, assigned, cell_now, copied, led, operand_bytes, operand_out, reads_out, operand_type, operated, read, rvalue_bytes, switched, terminated}
use Rattle.mir.specs.Switches.{first_target, target_of}
use Rattle.mir_ops.specs.declared.made.Made.{Made}
use Rattle.mir_ops.specs.Made.{made_bytes}
use Rattle.mir_rows.specs.declared.row.Action.{Action}
use Rattle.mir_rows.specs.declared.row.Action.TheVariants as action
use Rattle.mir_rows.specs.declared.row.Short.{Short}
use Rattle.mir_rows.specs.declared.row.Source.{Source}
use Rattle.mir_rows.specs.declared.row.Source.TheVariants as source
use Rattle.mir_rows.specs.declared.row.Way.{Way}
use Rattle.mir_rows.specs.declared.row.Way.TheVariants as way
use Rattle.mir_rows.specs.declared.spots.Spot.{Spot}
use Rattle.mir_rows.specs.declared.spots.Spot.TheVariants as at
use Rattle.mir_rows.specs.Rows.{AreOperands, IsCast, IsSource, IsWay, Leads, Says, constant_in, short_bytes}
use Rattle.mir_rows.specs.Spots.{IsSpot, LiesAt, spot_cell}
use Rattle.mir_eval.specs.Frames.{code_in}
use Rattle.mir_eval.specs.Reads.{Converts, HasBytes, HoldsAt, LiesIn, Makes}
use Rattle.mir_eval.proofs.Operated.{cast-made, operated_if_made}

-- what follows from what was done
pub if-some : {A P Q : Type 0} (result : Option A) → (P → Q) → IfSome result (λ done. P) → IfSome result (λ done. Q)
if-some None follows is = tt
if-some (Some done) follows is = follows is

-- the pieces that were read
pub some_read : (view : Option (List (List ℕ))) (bytes : Option (List ℕ)) → option_map concat view ≡ bytes → IfSome view (λ pieces. bytes ≡ Some (concat pieces))
some_read None bytes are = tt
some_read (Some pieces) bytes are = sym are

-- a list of one byte
pub one-byte : (bytes : List ℕ) → length bytes ≡ 1 → bytes ≡ slice_index_or bytes 0 0 ∷ []
one-byte [] h = absurd (omega arith)
one-byte (byte ∷ []) h = refl
one-byte (byte ∷ more ∷ rest) h = absurd (omega arith)

-- the number that one byte is
number-of-one : (byte : ℕ) → value_of (byte ∷ []) ≡ byte
unfolding value_of
number-of-one byte = omega arith

module _ (frame : Frame) (memory : Memory) where
  -- the bytes of an operand whose value lies at a spot
  pub spot-bytes : (spot : Spot) (kind : OperandKind) → LiesAt (code_in frame) spot kind → operand_bytes frame memory kind ≡ option_and_then (cell_bytes memory) (spot_cell (number_held memory frame.cells) frame.cells spot)
  unfolding operand_bytes
  spot-bytes spot (operand.Copy place) is = ap (λ (found : Option Interval). option_and_then (cell_bytes memory) found) (is.lies (number_held memory frame.cells) frame.cells)
  spot-bytes spot (operand.Constant konst ty) is = absurd is

  -- such an operand isn't out of bounds where the spot isn't
  spot-within : (spot : Spot) (cell : Interval) → LiesIn frame memory spot cell → (kind : OperandKind) → LiesAt (code_in frame) spot kind → operand_out frame.program.world frame.body (number_held memory frame.cells) kind ≡ false
  unfolding operand_out
  spot-within spot cell lies (operand.Copy place) is = is.past (number_held memory frame.cells) ∙ lies.within
  spot-within spot cell lies (operand.Constant konst ty) is = absurd is

  -- nor is a constant
  constant-within : (bytes : List ℕ) (kind : OperandKind) → constant_in kind ≡ Some bytes → operand_out frame.program.world frame.body (number_held memory frame.cells) kind ≡ false
  unfolding operand_out
  constant-within bytes (operand.Copy place) is = absurd cc
  constant-within bytes (operand.Constant konst ty) is = refl

  either-false : (one other : Bool) → one ≡ false → other ≡ false → (one || other) ≡ false
  either-false false other first second = second
  either-false true other first second = absurd cc

  -- what an assignment leaves whose places aren't out of bounds
  assigned-within : (place : Place) (to : Spot) (cell : Interval) → LiesIn frame memory to cell → (rvalue : Rvalue) → IsSpot (code_in frame) place to → reads_out frame.program.world frame.body (number_held memory frame.cells) rvalue ≡ false →
      copied memory (cell_now frame memory place) (rvalue_bytes frame memory rvalue) ≡ after_statement frame memory (Assign place rvalue)
  unfolding after_statement
  assigned-within place to cell lies rvalue is within =
      ap (λ (out : Bool). assigned out memory (cell_now frame memory place) (rvalue_bytes frame memory rvalue))
      (sym (either-false (is_out_of_bounds frame.program.world frame.body (number_held memory frame.cells) place) (reads_out frame.program.world frame.body (number_held memory frame.cells) rvalue) (is.past (number_held memory frame.cells) ∙ lies.within) within))

  -- where a source says that a value lies
  pub lies-whole : (given : Source) (local : LocalId) → given ≡ source.Whole local → (kind : OperandKind) → IsSource (code_in frame) given kind → LiesAt (code_in frame) (at.Whole local) kind
  lies-whole given local is kind said = subst (λ (s : Source). IsSource (code_in frame) s kind) is said

  pub lies-at : (given : Source) (spot : Spot) → given ≡ source.At spot → (kind : OperandKind) → IsSource (code_in frame) given kind → LiesAt (code_in frame) spot kind
  lies-at given spot is kind said = subst (λ (s : Source). IsSource (code_in frame) s kind) is said

  pub view-at : (given : Source) (spot : Spot) (cell : Interval) (view : Option (List (List ℕ))) → ((kind : OperandKind) → IsSource (code_in frame) given kind → LiesAt (code_in frame) spot kind) → LiesIn frame memory spot cell → IfSome view (λ pieces. cell_bytes memory cell ≡ Some (concat pieces)) →
      IfSome view (λ pieces. (kind : OperandKind) → IsSource (code_in frame) given kind → HasBytes frame memory kind (concat pieces))
  view-at given spot cell None is lies are = tt
  view-at given spot cell (Some pieces) is lies are =
      λ kind said. record {
        has = spot-bytes spot kind (is kind said) ∙ ap (λ (found : Option Interval). option_and_then (cell_bytes memory) found) lies.there ∙ are;
        within = spot-within spot cell lies kind (is kind said);
      }

  -- the bytes of an operand that is a constant
  constant-bytes : (bytes : List ℕ) (kind : OperandKind) → constant_in kind ≡ Some bytes → operand_bytes frame memory kind ≡ Some bytes
  unfolding operand_bytes
  constant-bytes bytes (operand.Copy place) is = absurd cc
  constant-bytes bytes (operand.Constant konst ty) is = is

  pub short-bytes : (given : Source) (short : Short) (bytes : List ℕ) → given ≡ source.Constant short → short_bytes short ≡ bytes →
      (kind : OperandKind) → IsSource (code_in frame) given kind → HasBytes frame memory kind bytes
  short-bytes given short bytes is are kind said =
      let constant : constant_in kind ≡ Some bytes = subst (λ (s : Source). IsSource (code_in frame) s kind) is said ∙ ap Some are in
      record { has = constant-bytes bytes kind constant; within = constant-within bytes kind constant }

  -- what an operator makes of two sources
  pub combined : (op : Operator) (kind other : Kind) (left right : Source) (made : Option Made) (left_pieces right_pieces : List (List ℕ)) (l r : List ℕ) → l ≡ concat left_pieces → r ≡ concat right_pieces →
      ((one : OperandKind) → IsSource (code_in frame) left one → HasBytes frame memory one (concat left_pieces)) → ((one : OperandKind) → IsSource (code_in frame) right one → HasBytes frame memory one (concat right_pieces)) →
      IfSome made (λ m. computed op (Some kind) (Some other) l r ≡ Computes (made_bytes m)) →
      IfSome made (λ m. (one two : OperandKind) → AreOperands (code_in frame) kind other left right one two → Makes frame memory op one two (made_bytes m))
  combined op kind other left right None left_pieces right_pieces l r le re lf rf computes = tt
  combined op kind other left right (Some m) left_pieces right_pieces l r le re lf rf computes =
      λ one two are.
      let first = lf one are.left in
      let second = rf two are.right in
      record {
        makes =
            operated_if_made made_bytes (Some m) op kind other (operand_type frame.program.world frame.body one) (operand_type frame.program.world frame.body two) (operand_bytes frame memory one) (operand_bytes frame memory two) l r
            are.left_kind are.right_kind (first.has ∙ ap Some (sym le)) (second.has ∙ ap Some (sym re)) computes;
        within = either-false (operand_out frame.program.world frame.body (number_held memory frame.cells) one) (operand_out frame.program.world frame.body (number_held memory frame.cells) two) first.within second.within;
      }

  -- what a cast makes of a source
  pub converted-source : (kind : Kind) (size : ℕ) (from : Source) (made : Option Made) (pieces : List (List ℕ)) (bytes : List ℕ) → bytes ≡ concat pieces →
      ((one : OperandKind) → IsSource (code_in frame) from one → HasBytes frame memory one (concat pieces)) →
      IfSome made (λ m. converted (Some kind) size bytes ≡ Computes (made_bytes m)) →
      IfSome made (λ m. (one : OperandKind) (ty : Ty) → IsCast (code_in frame) kind size from one ty → Converts frame memory one ty (made_bytes m))
  converted-source kind size from None pieces bytes are has computes = tt
  converted-source kind size from (Some m) pieces bytes are has computes =
      λ one ty is.
      let held = has one is.source in
      record {
        makes = cast-made ty (operand_type frame.program.world frame.body one) kind size (operand_bytes frame memory one) bytes (made_bytes m) is.own_kind is.own_size (held.has ∙ ap Some (sym are)) computes;
        within = held.within;
      }

  module _ (out : Result Memory MirEvalError) (to : Spot) (cell : Interval) (lies : LiesIn frame memory to cell) where
    combines : (op : Operator) (kind other_kind : Kind) (guess : ℕ) (left right : Source) (m : Made) →
        ((one other : OperandKind) → AreOperands (code_in frame) kind other_kind left right one other → Makes frame memory op one other (made_bytes m)) → out ≡ copied memory (Some cell) (Ok (made_bytes m)) →
        (statement : StatementKind) → Says (code_in frame) (action.Combine op kind other_kind guess to left right) statement → out ≡ after_statement frame memory statement
    unfolding rvalue_bytes reads_out
    combines op kind other_kind guess left right m makes is (Assign place (CheckedBinaryOp operator one other)) says =
        is
        ∙ ap (λ (found : Option Interval). copied memory found (Ok (made_bytes m))) (sym (says.0.lies (number_held memory frame.cells) frame.cells ∙ lies.there))
        ∙ ap (copied memory (cell_now frame memory place))
        (sym (makes one.kind other.kind says.2).makes ∙ ap (λ (o : Operator). operated o (operand_type frame.program.world frame.body one.kind) (operand_type frame.program.world frame.body other.kind) (operand_bytes frame memory one.kind) (operand_bytes frame memory other.kind)) (sym says.1))
        ∙ assigned-within place to cell lies (CheckedBinaryOp operator one other) says.0 (makes one.kind other.kind says.2).within
    combines op kind other_kind guess left right m makes is (Assign place (Use given)) says = absurd says
    combines op kind other_kind guess left right m makes is (Assign place (UnaryOp operator given)) says = absurd says
    combines op kind other_kind guess left right m makes is (Assign place (Cast cast given ty)) says = absurd says
    combines op kind other_kind guess left right m makes is (Assign place (Repeat given len)) says = absurd says
    combines op kind other_kind guess left right m makes is (Assign place (Aggregate made parts)) says = absurd says
    combines op kind other_kind guess left right m makes is (FakeRead place) says = absurd says
    combines op kind other_kind guess left right m makes is (StorageLive local) says = absurd says
    combines op kind other_kind guess left right m makes is (StorageDead local) says = absurd says

    -- a statement that assigns what an operator makes
    pub does-combine : (given : Action) (op : Operator) (kind other_kind : Kind) (guess : ℕ) (left right : Source) (m : Made) → given ≡ action.Combine op kind other_kind guess to left right →
        ((one other : OperandKind) → AreOperands (code_in frame) kind other_kind left right one other → Makes frame memory op one other (made_bytes m)) → out ≡ copied memory (Some cell) (Ok (made_bytes m)) →
        (statement : StatementKind) → Says (code_in frame) given statement → out ≡ after_statement frame memory statement
    does-combine given op kind other_kind guess left right m same makes is statement says =
        combines op kind other_kind guess left right m makes is statement (subst (λ (a : Action). Says (code_in frame) a statement) same says)

    -- or what a cast makes
    casts : (kind : Kind) (size : ℕ) (from : Source) (m : Made) →
        ((one : OperandKind) (ty : Ty) → IsCast (code_in frame) kind size from one ty → Converts frame memory one ty (made_bytes m)) → out ≡ copied memory (Some cell) (Ok (made_bytes m)) →
        (statement : StatementKind) → Says (code_in frame) (action.Cast kind size to from) statement → out ≡ after_statement frame memory statement
    unfolding rvalue_bytes reads_out
    casts kind size from m makes is (Assign place (Cast cast one ty)) says =
        is
        ∙ ap (λ (found : Option Interval). copied memory found (Ok (made_bytes m))) (sym (says.0.lies (number_held memory frame.cells) frame.cells ∙ lies.there))
        ∙ ap (copied memory (cell_now frame memory place)) (sym (makes one.kind ty says.1).makes)
        ∙ assigned-within place to cell lies (Cast cast one ty) says.0 (makes one.kind ty says.1).within
    casts kind size from m makes is (Assign place (CheckedBinaryOp operator one other)) says = absurd says
    casts kind size from m makes is (Assign place (Use given)) says = absurd says
    casts kind size from m makes is (Assign place (UnaryOp operator given)) says = absurd says
    casts kind size from m makes is (Assign place (Repeat given len)) says = absurd says
    casts kind size from m makes is (Assign place (Aggregate made parts)) says = absurd says
    casts kind size from m makes is (FakeRead place) says = absurd says
    casts kind size from m makes is (StorageLive local) says = absurd says
    casts kind size from m makes is (StorageDead local) says = absurd says

    pub does-cast : (given : Action) (kind : Kind) (size : ℕ) (from : Source) (m : Made) → given ≡ action.Cast kind size to from →
        ((one : OperandKind) (ty : Ty) → IsCast (code_in frame) kind size from one ty → Converts frame memory one ty (made_bytes m)) → out ≡ copied memory (Some cell) (Ok (made_bytes m)) →
        (statement : StatementKind) → Says (code_in frame) given statement → out ≡ after_statement frame memory statement
    does-cast given kind size from m same makes is statement says =
        casts kind size from m makes is statement (subst (λ (a : Action). Says (code_in frame) a statement) same says)

    -- or the bytes of one operand
    puts : (bytes : Result (List ℕ) MirEvalError) → out ≡ copied memory (Some cell) bytes →
        (place : Place) (one : Operand) → IsSpot (code_in frame) place to → operand_out frame.program.world frame.body (number_held memory frame.cells) one.kind ≡ false → read (operand_bytes frame memory one.kind) ≡ bytes → out ≡ after_statement frame memory (Assign place (Use one))
    unfolding rvalue_bytes reads_out
    puts bytes does place one is within are =
        does
        ∙ ap (λ (found : Option Interval). copied memory found bytes) (sym (is.lies (number_held memory frame.cells) frame.cells ∙ lies.there))
        ∙ ap (copied memory (cell_now frame memory place)) (sym are)
        ∙ assigned-within place to cell lies (Use one) is within

    copies : (from : Spot) (there : Interval) → LiesIn frame memory from there → out ≡ copied memory (Some cell) (read (cell_bytes memory there)) →
        (statement : StatementKind) → Says (code_in frame) (action.Copy to from) statement → out ≡ after_statement frame memory statement
    copies from there stands does (Assign place (Use one)) says =
        puts _ does place one says.0 (spot-within from there stands one.kind says.1)
        (ap read (spot-bytes from one.kind says.1 ∙ ap (λ (found : Option Interval). option_and_then (cell_bytes memory) found) stands.there))
    copies from there stands does (Assign place (CheckedBinaryOp operator one other)) says = absurd says
    copies from there stands does (Assign place (UnaryOp operator one)) says = absurd says
    copies from there stands does (Assign place (Cast cast one ty)) says = absurd says
    copies from there stands does (Assign place (Repeat given len)) says = absurd says
    copies from there stands does (Assign place (Aggregate made parts)) says = absurd says
    copies from there stands does (FakeRead place) says = absurd says
    copies from there stands does (StorageLive local) says = absurd says
    copies from there stands does (StorageDead local) says = absurd says

    pub does-copy : (given : Action) (from : Spot) (there : Interval) → LiesIn frame memory from there → given ≡ action.Copy to from → out ≡ copied memory (Some cell) (read (cell_bytes memory there)) →
        (statement : StatementKind) → Says (code_in frame) given statement → out ≡ after_statement frame memory statement
    does-copy given from there stands same does statement says = copies from there stands does statement (subst (λ (a : Action). Says (code_in frame) a statement) same says)

    puts-short : (short : Short) → out ≡ copied memory (Some cell) (Ok (short_bytes short)) →
        (statement : StatementKind) → Says (code_in frame) (action.Put to short) statement → out ≡ after_statement frame memory statement
    puts-short short does (Assign place (Use one)) says = puts _ does place one says.0 (constant-within (short_bytes short) one.kind says.1) (ap read (constant-bytes (short_bytes short) one.kind says.1))
    puts-short short does (Assign place (CheckedBinaryOp operator one other)) says = absurd says
    puts-short short does (Assign place (UnaryOp operator one)) says = absurd says
    puts-short short does (Assign place (Cast cast one ty)) says = absurd says
    puts-short short does (Assign place (Repeat given len)) says = absurd says
    puts-short short does (Assign place (Aggregate made parts)) says = absurd says
    puts-short short does (FakeRead place) says = absurd says
    puts-short short does (StorageLive local) says = absurd says
    puts-short short does (StorageDead local) says = absurd says

    pub does-put : (given : Action) (short : Short) → given ≡ action.Put to short → out ≡ copied memory (Some cell) (Ok (short_bytes short)) →
        (statement : StatementKind) → Says (code_in frame) given statement → out ≡ after_statement frame memory statement
    does-put given short same does statement says = puts-short short does statement (subst (λ (a : Action). Says (code_in frame) a statement) same says)

  -- a terminator of each kind that leads to one block
  goto-kind : (block : BasicBlockId) (terminator : Terminator) (kind : TerminatorKind) → Leads (code_in frame) (way.Goto block) kind → terminated frame memory (Some (record terminator { kind = kind })) ≡ GoesTo frame memory block.0
  unfolding terminated
  goto-kind block terminator (ends.Goto target) leads = ap (λ (b : BasicBlockId). GoesTo frame memory b.0) leads
  goto-kind block terminator (ends.Drop place target unwind) leads = ap (λ (b : BasicBlockId). GoesTo frame memory b.0) leads
  goto-kind block terminator (ends.SwitchInt discr targets) leads = absurd leads
  goto-kind block terminator ends.Return leads = absurd leads
  goto-kind block terminator (ends.Call func args destination target cleanup from_hir_call) leads = absurd leads

  goto-terminated : (block : BasicBlockId) (terminator : Option Terminator) → IsWay (code_in frame) (way.Goto block) terminator → terminated frame memory terminator ≡ GoesTo frame memory block.0
  goto-terminated block None is = absurd cc
  goto-terminated block (Some terminator) is = goto-kind block terminator terminator.kind is

  pub goto-leads : (given : Way) (block : BasicBlockId) → given ≡ way.Goto block → (terminator : Option Terminator) → IsWay (code_in frame) given terminator → terminated frame memory terminator ≡ GoesTo frame memory block.0
  goto-leads given block same terminator is = goto-terminated block terminator (subst (λ (w : Way). IsWay (code_in frame) w terminator) same is)

  module _ (spot : Spot) (value : ℕ) (hit miss : BasicBlockId) (byte : ℕ) (held : HoldsAt frame memory spot (byte ∷ [])) where
    -- where the test of a byte leads
    abbrev Chosen : BasicBlockId
    Chosen = if value == byte then hit else miss

    tested : switched frame memory ((value, hit) ∷ [], miss) (Some (byte ∷ [])) ≡ GoesTo frame memory Chosen.0
    unfolding switched target_of first_target
    tested = ap (λ (n : ℕ). GoesTo frame memory (if value == n then hit else miss).0) (number-of-one byte)

    branch-kind : (terminator : Terminator) (kind : TerminatorKind) → Leads (code_in frame) (way.Branch spot value hit miss) kind → terminated frame memory (Some (record terminator { kind = kind })) ≡ GoesTo frame memory Chosen.0
    unfolding terminated
    branch-kind terminator (ends.SwitchInt discr targets) leads =
        ap (λ (out : Bool). led frame out (switched frame memory targets (operand_bytes frame memory discr.kind))) (spot-within spot held.cell held.lies discr.kind leads.0)
        ∙ ap (switched frame memory targets) (spot-bytes spot discr.kind leads.0 ∙ ap (λ (found : Option Interval). option_and_then (cell_bytes memory) found) held.lies.there ∙ held.holds) ∙ ap (λ (t : SwitchTargets). switched frame memory t (Some (byte ∷ []))) leads.1 ∙ tested
    branch-kind terminator (ends.Goto target) leads = absurd leads
    branch-kind terminator (ends.Drop place target unwind) leads = absurd leads
    branch-kind terminator ends.Return leads = absurd leads
    branch-kind terminator (ends.Call func args destination target cleanup from_hir_call) leads = absurd leads

    branch-terminated : (terminator : Option Terminator) → IsWay (code_in frame) (way.Branch spot value hit miss) terminator → terminated frame memory terminator ≡ GoesTo frame memory Chosen.0
    branch-terminated None is = absurd cc
    branch-terminated (Some terminator) is = branch-kind terminator terminator.kind is

    pub branch-leads : (given : Way) (block : BasicBlockId) → given ≡ way.Branch spot value hit miss → Chosen ≡ block → (terminator : Option Terminator) → IsWay (code_in frame) given terminator → terminated frame memory terminator ≡ GoesTo frame memory block.0
    branch-leads given block same chosen terminator is =
        branch-terminated terminator (subst (λ (w : Way). IsWay (code_in frame) w terminator) same is) ∙ ap (λ (b : BasicBlockId). GoesTo frame memory b.0) chosen
