-- `if`, `&&` and `||`: an operand that is tested, and two branches.
use Rattle.std.proofs.Common.{◌≡◌, ℕ, List, [], ◌∷◌, Contains, Option, Some, None, refl, sym, ap, ◌∙◌, subst, arith, append-nil, ⊎_elim}
use Rattle.std.specs.Prelude.{IfSome, flat_map}
use Rattle.std.proofs.lemmas.List.Elements.{Contains-append_cases}
use Rattle.source_meaning.specs.Core as expr
use Rattle.types.specs.declared.ids.ExprId.{ExprId}
use Rattle.types.specs.declared.operators.LogicOp.{LogicOp}
use Rattle.mir.specs.declared.operand.Operand.{Operand as MirOperand}
use Rattle.mir.specs.declared.operand.OperandKind.{OperandKind}
use Rattle.mir.specs.declared.ids.LocalId.{LocalId}
use Rattle.mir.specs.declared.operand.Rvalue.TheVariants.{Use}
use Rattle.mir.specs.declared.span.MirSpan.{MirSpan}
use Rattle.mir.specs.Memory.{Memory, number_held}
use Rattle.mir.specs.Run.{Frame, rvalue_bytes, read, reads_out}
use Rattle.source_meaning.specs.Around.{Around, marking}
use Rattle.source_meaning.specs.Ends.{after}
use Rattle.source_meaning.specs.Events.{marked, marked_as_operand, marked_by_tail}
use Rattle.source_meaning.specs.Meaning.{level_at, copy_to, deciding_byte, read_into, reading_cost, decided_into, branch_into}
use Rattle.source_meaning.specs.Places.{operand_bytes, operand_out}
use Rattle.source_meaning.specs.Source.{Source, node, own_type, Cell, Store, Operand, Literally, At}
use Rattle.source_meaning.specs.Steps.{parts_of, tail_steps}
use Rattle.source_meaning.specs.Steps as step
use Rattle.source_meaning.specs.Valid.{itself, own, inside, sized_part, sized_parts, HasPlainForm, IsPlainNode, IsPlainTail, IsPlainLogic, IsPlainIf, IsLaidOut, NeedsLayout, IsLaidOutNode}
use Rattle.source_meaning.proofs.Depth.{logic_operand_is_part, if_part_is_part, tail_is_part}
use Rattle.source_meaning.proofs.Marks.{logic_marks, if_marks}
use Rattle.source_meaning.proofs.Parts.{sized_part_is_part}
use Rattle.mir_lower.specs.Does.{Stands, here, IsFrameOf, Holds, Landings, Reaches, Nothing, Fits}
use Rattle.mir_graph.specs.Graph.{Shape, with_statement, local_of}
use Rattle.mir_lower.specs.Growth.{Grows, IsSound, IsOpen, IsReady}
use Rattle.mir_lower.specs.Lowered.{IsPlainWithin, Keeps, HasLayouts, LaysOut, LowersInto, LowersOperand, LowersTail, LowersOwn}
use Rattle.mir_lower.specs.Runs.{Comes}
use Rattle.mir_lower.proofs.Branches.{IsBranched, grows5, grows3, grows1, branched-keeps}
use Rattle.mir_lower.proofs.Branching.{reaches-tested, lays-tested, lays-into}
use Rattle.mir_lower.proofs.Growing.{grows-trans}
use Rattle.mir_lower.proofs.Laid.{layouts-before, plain-part, one-of}
use Rattle.mir_lower.proofs.Operations.{assignment, keeps-assigned}
use Rattle.mir_lower.proofs.Reaching.{comes-refl, reaches-after, reaches-then}
use Rattle.mir_lower.proofs.Standing.{marking-fits, stands-in}
use Rattle.mir_lower.proofs.Steps.{local_of-grows, assigned-copy, assigned-within, does-form}

-- What is lowered is a part: the operands of `&&` and `||`, the condition and the branches of an `if`, and what may be left out.

pub left-part : (source : Source) (e : ℕ) (op : LogicOp) (left right : ℕ) → node source e ≡ Some (expr.Logic op left right) → Contains (parts_of (node source e)) left
left-part source e op left right form = logic_operand_is_part source e op left right left form (0, omega arith, refl)

pub right-part : (source : Source) (e : ℕ) (op : LogicOp) (left right : ℕ) → node source e ≡ Some (expr.Logic op left right) → Contains (parts_of (node source e)) right
right-part source e op left right form = logic_operand_is_part source e op left right right form (1, omega arith, refl)

pub condition-part : (source : Source) (e condition then_branch : ℕ) (else_branch : Option ExprId) → node source e ≡ Some (expr.If condition then_branch else_branch) → Contains (parts_of (node source e)) condition
condition-part source e condition then_branch else_branch form = if_part_is_part source e condition then_branch else_branch condition form (0, omega arith, refl)

pub then-part : (source : Source) (e condition then_branch : ℕ) (else_branch : Option ExprId) → node source e ≡ Some (expr.If condition then_branch else_branch) → Contains (parts_of (node source e)) then_branch
then-part source e condition then_branch else_branch form = if_part_is_part source e condition then_branch else_branch then_branch form (1, omega arith, refl)

pub else-part : (source : Source) (e condition then_branch : ℕ) (else_branch : Option ExprId) → node source e ≡ Some (expr.If condition then_branch else_branch) → IfSome else_branch (λ one. Contains (parts_of (node source e)) one.0)
else-part source e condition then_branch (Some one) form = if_part_is_part source e condition then_branch (Some one) one.0 form (2, omega arith, refl)
else-part source e condition then_branch None form = tt

pub tail-part : (source : Source) (e : ℕ) (statements : List _) (tail : Option ExprId) → node source e ≡ Some (expr.Block statements tail) → IfSome tail (λ one. Contains (parts_of (node source e)) one.0)
tail-part source e statements (Some one) form = tail_is_part source e statements one form
tail-part source e statements None form = tt

-- `if`.

module _ (source : Source) (s0 s1 s2 s3 s4 s5 s6 : Shape) (e condition then_branch : ℕ) (else_branch : Option ExprId) (operand : OperandKind) (other join : ℕ) (c : Cell) (form : node source e ≡ Some (expr.If condition then_branch else_branch)) (tested : LowersOperand source s0 s1 condition operand) (first : LowersInto source s2 s3 then_branch c) (second : LowersTail source s4 s5 else_branch c) (parts : IsBranched source s0 s1 s2 s3 s4 s5 s6 operand 1 other join (marked_as_operand source condition) (marked source then_branch) (marked_by_tail source else_branch)) where
  lays-else : (child : ℕ) (branch : Option ExprId) → else_branch ≡ branch → Contains (flat_map (sized_part source) (tail_steps branch)) child → (whole : IsPlainNode source e) → IsPlainTail source else_branch whole.ty → IsLaidOut source (own_type source e) → IsPlainWithin source child → HasLayouts source s6 → (f : ℕ) → NeedsLayout source child f → IsLaidOutNode source f
  lays-else child None is within whole typed laid plain layouts f needs = absurd (let below = within.1 in omega arith)
  lays-else child (Some one) is within whole typed laid plain layouts f needs =
      let same : one.0 ≡ child = one-of one.0 child within in
      let has = subst (λ (o : Option ExprId). IsPlainTail source o whole.ty) is typed in
      second.laid one is (subst (IsLaidOut source) (whole.has_type ∙ sym has) laid) (subst (IsPlainWithin source) (sym same) plain) (layouts-before source s5 s6 (grows5 parts) layouts) f (subst (λ x. NeedsLayout source x f) (sym same) needs)

  lays-if : IsLaidOutNode source e → LaysOut source s6 e
  lays-if laid plain layouts f own = laid
  lays-if laid plain layouts f (inside {child = child} within rest) =
      let below = plain-part source e child (sized_part_is_part source (node source e) child within) laid plain in
      let node = plain.nodes e itself in
      let typed : IsPlainIf source condition then_branch else_branch node.ty = subst (λ n. HasPlainForm source e n node.ty) form node.form in
      ⊎_elim
      (λ test. lays-tested source s0 s1 s6 condition child operand tested (grows1 parts) test below layouts f rest)
      (λ branch. ⊎_elim
      (λ one. lays-into source s2 s3 s6 e then_branch child c first (grows3 parts) (one-of then_branch child one) (typed.then_has ∙ sym node.has_type) laid.of_itself below layouts f rest)
      (λ other. lays-else child else_branch refl other node typed.else_has laid.of_itself below layouts f rest)
      (Contains-append_cases (then_branch ∷ []) (flat_map (sized_part source) (tail_steps else_branch)) child branch))
      (Contains-append_cases (sized_part source (step.Operand condition)) (then_branch ∷ flat_map (sized_part source) (tail_steps else_branch)) child (subst (λ n. Contains (sized_parts source n) child) form within))

  -- an `if` was lowered: its condition, a test of it, and both branches
  pub lowers-if : IsReady source s0 e → LowersOwn source s0 s6 e c
  lowers-if ready =
      record {
        keeps = subst (λ (m : List Cell). Keeps source s0 s6 m) (sym (if_marks source ready.checked e ready.within condition then_branch else_branch form)) (branched-keeps parts);
        does = does-form source s0 s6 e c (Some (expr.If condition then_branch else_branch)) form (record {
          reaches = λ whole frame grows sound is lands around stands fuel serves store memory holds.
              let below = level_at source fuel in
              let grown3 : Grows s3 whole = grows-trans s3 s6 whole (grows3 parts) grows in
              let grown5 : Grows s5 whole = grows-trans s5 s6 whole (grows5 parts) grows in
              let grown1 : Grows s1 whole = grows-trans s1 s6 whole (grows1 parts) grows in
              let around1 : Around = marking (marked_as_operand source condition) around in
              let stands1 : Stands whole s2 lands around1 = stands-in parts.forked.scope parts.forked.spares.targets (marking-fits parts.test around stands) in
              let around2 : Around = marking (marked source then_branch) around1 in
              let stands2 : Stands whole s4 lands around2 = stands-in parts.one_ended.scope parts.one_ended.targets (marking-fits parts.one around1 stands1) in
              reaches-then source whole lands frame (here s0) (here s1) (here s6) memory (Fits source operand whole frame) (Nothing whole frame) ((below around).operand condition store) _
              (tested.does.reaches whole frame grown1 sound is lands around stands fuel serves store memory holds)
              (λ given store1 memory1 claims.
              reaches-tested parts whole frame grows is lands memory1
              (λ test. branch_into source below around1 then_branch else_branch test (record { cell = c }) store1) refl
              (first.does.reaches whole frame grown3 sound is lands around1 stands1 fuel serves store1 memory1 claims.0)
              (second.does.reaches whole frame grown5 sound is lands around2 stands2 fuel serves store1 memory1 claims.0)
              (operand_out source store1 given) (claims.1.out store1 memory1 claims.0) (operand_bytes source store1 given) (claims.1.bytes store1 memory1 claims.0));
        });
        laid = lays-if;
      }

-- `&&` and `||`.

decided-computes : (source : Source) (whole : Shape) (frame : Frame) (operand : MirOperand) (given : Operand) (store : Store) (memory : Memory) → Holds whole frame store memory → Fits source operand.kind whole frame given → rvalue_bytes frame memory (Use operand) ≡ read (operand_bytes source store given)
unfolding rvalue_bytes
decided-computes source whole frame operand given store memory holds fits = ap read (fits.bytes store memory holds)

decided-reads : (source : Source) (whole : Shape) (frame : Frame) (operand : MirOperand) (given : Operand) (store : Store) (memory : Memory) → Holds whole frame store memory → Fits source operand.kind whole frame given → reads_out frame.program.world frame.body (number_held memory frame.cells) (Use operand) ≡ operand_out source store given
unfolding reads_out
decided-reads source whole frame operand given store memory holds fits = fits.out store memory holds

-- reading an operand once more enters no block
reading-enters-none : (source : Source) (given : Operand) → (reading_cost source given).turns ≡ 0
reading-enters-none source (Literally ty bytes) = refl
reading-enters-none source (At path) = refl

-- the left operand that decides is written
module _ (source : Source) (s new : Shape) (operand : MirOperand) (to : LocalId) (span : MirSpan) (opened : IsOpen s) (same : new ≡ with_statement (assignment to (Use operand) span) s) where
  pub keeps-decided : IsSound source s → Keeps source s new []
  keeps-decided sound = subst (λ (n : Shape). Keeps source s n []) (sym same) (keeps-assigned source s (assignment to (Use operand) span) sound opened)

  reaches-decided : (whole : Shape) (lands : Landings) (frame : Frame) (c : Cell) (given : Operand) (store : Store) (memory : Memory) → Grows new whole → IsSound source whole → IsFrameOf whole frame → local_of whole c ≡ Some to.0 → Holds whole frame store memory → Fits source operand.kind whole frame given → Reaches source whole lands frame (here s) (here new) memory (Nothing whole frame) (after (reading_cost source given) (read_into source given (record { cell = c }) store))
  reaches-decided whole lands frame c given store memory grows sound is local holds fits =
      let grown = subst (λ (n : Shape). Grows n whole) same grows in
      let reads : Comes frame (reading_cost source given).turns (reading_cost source given).bytes (here s) memory (here s) memory =
      subst (λ (n : ℕ). Comes frame n (reading_cost source given).bytes (here s) memory (here s) memory) (sym (reading-enters-none source given)) (comes-refl frame (here s) memory) in
      subst (λ (n : Shape). Reaches source whole lands frame (here s) (here n) memory (Nothing whole frame) (after (reading_cost source given) (read_into source given (record { cell = c }) store))) (sym same)
      (reaches-after source whole lands frame (here s) (here s) (here (with_statement (assignment to (Use operand) span) s)) memory memory (Nothing whole frame) (reading_cost source given) reads (read_into source given (record { cell = c }) store)
      (assigned-within source s whole frame to (Use operand) span opened sound is lands grown c local store memory holds (operand_out source store given) (decided-reads source whole frame operand given store memory holds fits) (copy_to store (record { cell = c }) (operand_bytes source store given))
      (λ within. assigned-copy source s whole frame to (Use operand) span opened sound is lands grown c local store memory holds (operand_bytes source store given) (decided-computes source whole frame operand given store memory holds fits))))

module _ (source : Source) (s0 s1 s2 s3 s4 s5 s6 : Shape) (e : ℕ) (op : LogicOp) (left right : ℕ) (operand : MirOperand) (to : LocalId) (span : MirSpan) (other join : ℕ) (c : Cell) (form : node source e ≡ Some (expr.Logic op left right)) (tested : LowersOperand source s0 s1 left operand.kind) (same : s3 ≡ with_statement (assignment to (Use operand) span) s2) (second : LowersInto source s4 s5 right c) (parts : IsBranched source s0 s1 s2 s3 s4 s5 s6 operand.kind (deciding_byte op) other join (marked_as_operand source left) [] (marked source right)) where
  lays-logic : IsLaidOutNode source e → LaysOut source s6 e
  lays-logic laid plain layouts f own = laid
  lays-logic laid plain layouts f (inside {child = child} within rest) =
      let below = plain-part source e child (sized_part_is_part source (node source e) child within) laid plain in
      let node = plain.nodes e itself in
      let typed : IsPlainLogic source left right node.ty = subst (λ n. HasPlainForm source e n node.ty) form node.form in
      ⊎_elim
      (λ test. lays-tested source s0 s1 s6 left child operand.kind tested (grows1 parts) test below layouts f rest)
      (λ other. lays-into source s4 s5 s6 e right child c second (grows5 parts) (one-of right child other) (typed.right_has ∙ ap Some (sym typed.typed) ∙ sym node.has_type) laid.of_itself below layouts f rest)
      (Contains-append_cases (sized_part source (step.Operand left)) (right ∷ []) child (subst (λ n. Contains (sized_parts source n) child) form within))

  -- `&&` or `||` was lowered: the left operand, a test of it, the assignment of it where it decides, and the right operand
  pub lowers-logic : IsReady source s0 e → local_of s0 c ≡ Some to.0 → LowersOwn source s0 s6 e c
  lowers-logic ready local =
      record {
        keeps = subst (λ (m : List Cell). Keeps source s0 s6 m) (sym (logic_marks source ready.checked e ready.within op left right form)) (branched-keeps parts);
        does = does-form source s0 s6 e c (Some (expr.Logic op left right)) form (record {
          reaches = λ whole frame grows sound is lands around stands fuel serves store memory holds.
              let below = level_at source fuel in
              let grown3 : Grows s3 whole = grows-trans s3 s6 whole (grows3 parts) grows in
              let grown5 : Grows s5 whole = grows-trans s5 s6 whole (grows5 parts) grows in
              let grown1 : Grows s1 whole = grows-trans s1 s6 whole (grows1 parts) grows in
              let found = local_of-grows s0 whole (grows-trans s0 s1 whole tested.keeps.grows grown1) c to.0 local in
              let around1 : Around = marking (marked_as_operand source left) around in
              let stands1 : Stands whole s4 lands around1 = stands-in (parts.one_ended.scope ∙ parts.one.scope ∙ append-nil s2.scope ∙ parts.forked.scope) (parts.one_ended.targets ∙ parts.one.spares.targets ∙ parts.forked.spares.targets) (marking-fits parts.test around stands) in
              reaches-then source whole lands frame (here s0) (here s1) (here s6) memory (Fits source operand.kind whole frame) (Nothing whole frame) ((below around).operand left store) _
              (tested.does.reaches whole frame grown1 sound is lands around stands fuel serves store memory holds)
              (λ given store1 memory1 claims.
              reaches-tested parts whole frame grows is lands memory1
              (λ test. decided_into source (below around1) given right test (record { cell = c }) store1) refl
              (reaches-decided source s2 s3 operand to span parts.forked.«open» same whole lands frame c given store1 memory1 grown3 sound is found claims.0 claims.1)
              (second.does.reaches whole frame grown5 sound is lands around1 stands1 fuel serves store1 memory1 claims.0)
              (operand_out source store1 given) (claims.1.out store1 memory1 claims.0) (operand_bytes source store1 given) (claims.1.bytes store1 memory1 claims.0));
        });
        laid = lays-logic;
      }
