-- Calls: the arguments' operands from left to right, and then the call.
use Rattle.std.proofs.Common.{inr, ◌≡◌, ℕ, zero, suc, ◌+◌, ◌<◌, Bool, true, false, List, [], ◌∷◌, ◌++◌, length, get_or, drop, map, Contains, Option, Some, None, refl, sym, ap, ◌∙◌, subst, append_assoc, append-nil, drop-cons, arith}
use Rattle.std.specs.Prelude.{All}
use Rattle.std.proofs.lemmas.List.Elements.{All-nil, All-cons, All-head, All-tail}
use Rattle.std.proofs.Math.ListN.{length-set}
use Rattle.types.specs.declared.ids.ExprId.{ExprId}
use Rattle.mir.specs.declared.body.Terminator.{Terminator}
use Rattle.mir.specs.declared.ids.BasicBlockId.{BasicBlockId}
use Rattle.mir.specs.declared.operand.Operand.{Operand as MirOperand}
use Rattle.mir.specs.declared.operand.OperandKind.{OperandKind}
use Rattle.mir.specs.declared.ids.LocalId.{LocalId}
use Rattle.mir.specs.Memory.{Memory}
use Rattle.mir.specs.Run.{Frame, Calling, calls, going_on, terminated, operand_type as mir_type}
use Rattle.body_forms.specs.Callees.{IsCalleeOperand}
use Rattle.source_meaning.specs.Around.{Around}
use Rattle.source_meaning.specs.Built.{CallsFunction}
use Rattle.source_meaning.specs.Calls.{must_not_return, source_called}
use Rattle.source_meaning.specs.Core as expr
use Rattle.source_meaning.specs.Core.{is_truth}
use Rattle.source_meaning.specs.Ends.{Stuck}
use Rattle.source_meaning.specs.Meaning.{Callees, level_at, callees_at, operands_of, entered_into, into_of, within_bounds}
use Rattle.source_meaning.specs.Places.{operands_bytes, some_out}
use Rattle.source_meaning.specs.Source.{Source, node, unadjusted, Cell, Path, Store, Operand}
use Rattle.source_meaning.specs.Valid.{own, inside, sized_parts, IsLaidOutNode}
use Rattle.source_meaning.proofs.Depth.{argument_is_part}
use Rattle.source_meaning.proofs.Marks.{call_marks}
use Rattle.source_meaning.proofs.Parts.{first_is_contained, rest_is_contained, sized_operand}
use Rattle.world.specs.Nodes.{expr_numbers}
use Rattle.mir_lower.specs.Built.{IsBuilt}
use Rattle.mir_lower.specs.Callees.{Serves}
use Rattle.mir_lower.specs.Calling.{call_terminator, call_of, target_of_call, HasCalled}
use Rattle.mir_lower.specs.Does.{Stands, here, IsFrameOf, Holds, Landings, Reaches, Nothing, FitAll}
use Rattle.mir.specs.WholePlaces.{whole_place}
use Rattle.mir_graph.specs.Graph.{Shape, with_block, with_terminator, local_of, ended}
use Rattle.mir_lower.specs.Growth.{Grows, Spares, IsSound, IsOpen, IsReady}
use Rattle.mir_lower.specs.Lowered.{LaysOut, LowersOwn, LowersOperand, LowersOperands}
use Rattle.mir_lower.specs.Runs.{Point, start_of}
use Rattle.mir_lower.specs.Stops.{MakesCall}
use Rattle.mir_lower.proofs.Arguments.{ShowAll, shows-all}
use Rattle.mir_lower.proofs.Entering.{call-panics, call-returns, call-strays}
use Rattle.mir_lower.proofs.Growing.{current_of, grows-refl, grows-trans, with_terminator-is, with_terminator-grows, with_block-grows}
use Rattle.mir_lower.proofs.Laid.{layouts-before, plain-part}
use Rattle.mir_lower.proofs.Leaving.{run-terminator, here-with_block}
use Rattle.mir_lower.proofs.Reaching.{reaches-then}
use Rattle.mir_lower.proofs.Serving.{serves-less}
use Rattle.mir_lower.proofs.Sound.{with_terminator-sound, with_terminator-scope, with_block-sound, with_block-open, with_block-scope}
use Rattle.mir_lower.proofs.Sparing.{spares-refl, spares-trans, with_terminator-spares, with_block-spares}
use Rattle.mir_lower.proofs.Steps.{local_of-grows, does-with-callees}
use Rattle.mir_lower.proofs.Strict.{lowers-no-operand, lowers-more-operands}
use Rattle.mir_lower.proofs.Within.{some-out-same}

-- Operands so far: where those behind them are lowered, so are all.
pub record Collects (source : Source) (s0 s : Shape) (es rest : List ℕ) (operands : List OperandKind) : Type 0 where
  pub grows : Grows s0 s
  pub spares : Spares s0 s
  pub sound : IsSound source s
  pub «open» : IsOpen s
  pub rest_to : (later : Shape) (others : List OperandKind) → LowersOperands source s later rest others → LowersOperands source s0 later es (operands ++ others)

pub collects-none : (source : Source) (s : Shape) (es : List ℕ) → IsSound source s → IsOpen s → Collects source s s es es []
collects-none source s es sound opened =
    record { grows = grows-refl s; spares = spares-refl s; sound = sound; «open» = opened; rest_to = λ later others lowers. lowers }

pub collects-more : (source : Source) (s0 s1 s2 : Shape) (es : List ℕ) (e : ℕ) (rest : List ℕ) (operands : List OperandKind) (operand : OperandKind) → Collects source s0 s1 es (e ∷ rest) operands → LowersOperand source s1 s2 e operand → Collects source s0 s2 es rest (operands ++ operand ∷ [])
collects-more source s0 s1 s2 es e rest operands operand collects lowers =
    record {
      grows = grows-trans s0 s1 s2 collects.grows lowers.keeps.grows;
      spares = spares-trans s0 s1 s2 collects.spares lowers.keeps.spares;
      sound = lowers.keeps.sound;
      «open» = lowers.keeps.«open»;
      rest_to = λ later others behind.
          subst (λ (all : List OperandKind). LowersOperands source s0 later es all) (sym (append_assoc operands (operand ∷ []) others))
          (collects.rest_to later (operand ∷ others) (lowers-more-operands source s1 s2 later e rest operand others lowers behind));
    }

pub collects-all : (source : Source) (s0 s : Shape) (es : List ℕ) (operands : List OperandKind) → Collects source s0 s es [] operands → LowersOperands source s0 s es operands
collects-all source s0 s es operands collects =
    subst (λ (all : List OperandKind). LowersOperands source s0 s es all) (append-nil operands) (collects.rest_to s [] (lowers-no-operand source s collects.sound collects.«open»))

-- an argument is one of the arguments
pub argument-in : (args : List ExprId) (i : ℕ) (d : ExprId) → i < length args → Contains (expr_numbers args) (get_or args i d).0
argument-in [] i d less = absurd (omega arith)
argument-in (first ∷ rest) zero d less = first_is_contained first.0 (expr_numbers rest)
argument-in (first ∷ rest) (suc i) d less = rest_is_contained first.0 (expr_numbers rest) (get_or rest i d).0 (argument-in rest i d (omega arith))

-- the arguments from one on
pub arguments-from : (args : List ExprId) (i : ℕ) (d : ExprId) → i < length args → expr_numbers (drop i args) ≡ (get_or args i d).0 ∷ expr_numbers (drop (i + 1) args)
arguments-from args i d less =
    let next : suc i ≡ i + 1 = omega arith in
    ap expr_numbers (drop-cons args i d less) ∙ ap (λ (n : ℕ). (get_or args i d).0 ∷ expr_numbers (drop n args)) next

-- arguments that are built one by one
pub built-arguments : (source : Source) (args : List ExprId) → All (λ (arg : ExprId). IsBuilt source arg.0) args → All (IsBuilt source) (expr_numbers args)
built-arguments source [] all = All-nil (IsBuilt source)
built-arguments source (first ∷ rest) all =
    All-cons (IsBuilt source) first.0 (expr_numbers rest) (All-head (λ (arg : ExprId). IsBuilt source arg.0) first rest all)
    (built-arguments source rest (All-tail (λ (arg : ExprId). IsBuilt source arg.0) first rest all))

-- what the terminator of a call does
call-leads : (frame : Frame) (memory : Memory) (e : ExprId) (func : MirOperand) (args : List MirOperand) (to : LocalId) (target : Option BasicBlockId) → terminated frame memory (Some (call_terminator e func args (whole_place to) target)) ≡ calls frame memory (call_of e func args (whole_place to) target)
unfolding terminated
call-leads frame memory e func args to target = refl

-- ending the current block by a call, and opening the next
pub has-called : (source : Source) (s new : Shape) (e : ExprId) (func : MirOperand) (args : List MirOperand) (to : LocalId) (target : Option BasicBlockId) → IsSound source s → IsOpen s → new ≡ with_block (with_terminator (call_terminator e func args (whole_place to) target) s) → HasCalled source s new (call_of e func args (whole_place to) target) (length s.blocks)
has-called source s new e func args to target sound opened same =
    let t : Terminator = call_terminator e func args (whole_place to) target in
    let b = current_of s opened in
    let many : length (with_terminator t s).blocks ≡ length s.blocks = ap (λ (n : Shape). length n.blocks) (with_terminator-is t s b.0 b.1) ∙ length-set s.blocks s.current (ended t b.0) in
    subst (λ (n : Shape). HasCalled source s n (call_of e func args (whole_place to) target) (length s.blocks)) (sym same)
    (record {
      grows = grows-trans s (with_terminator t s) (with_block (with_terminator t s)) (with_terminator-grows t s opened) (with_block-grows (with_terminator t s));
      spares = spares-trans s (with_terminator t s) (with_block (with_terminator t s)) (with_terminator-spares t s opened) (with_block-spares (with_terminator t s));
      sound = with_block-sound source (with_terminator t s) (with_terminator-sound source t s opened sound);
      «open» = with_block-open (with_terminator t s);
      scope = with_block-scope (with_terminator t s) ∙ with_terminator-scope t s opened;
      begins = here-with_block (with_terminator t s) ∙ ap start_of many;
      does = λ whole frame grows is memory budget.
          let grown = grows-trans (with_terminator t s) (with_block (with_terminator t s)) whole (with_block-grows (with_terminator t s)) grows in
          run-terminator t s whole frame opened grown is memory budget ∙ ap (going_on budget) (call-leads frame memory e func args to target);
    })

lays-call : (source : Source) (s1 new : Shape) (e : ℕ) (callee : Option ℕ) (es : List ℕ) → node source e ≡ Some (expr.Call callee es) → ((child : ℕ) → Contains es child → is_truth (unadjusted source child) ≡ false → LaysOut source s1 child) → Grows s1 new → IsLaidOutNode source e → LaysOut source new e
lays-call source s1 new e callee es form below grows laid plain layouts f own = laid
lays-call source s1 new e callee es form below grows laid plain layouts f (inside {child = child} within rest) =
    let operand = sized_operand source es child (subst (λ n. Contains (sized_parts source n) child) form within) in
    below child operand.0 operand.1 (plain-part source e child (argument_is_part source e callee es child form operand.0) laid plain) (layouts-before source s1 new grows layouts) f rest

-- the type of the operand that names the callee
callee-type : (frame : Frame) (operand : OperandKind) (source : Source) (e : ℕ) (callee : Option ℕ) → (is : IsCalleeOperand source e callee operand) → mir_type frame.program.world frame.body operand ≡ Some is.ty
unfolding mir_type
callee-type frame operand source e callee is = ap (mir_type frame.program.world frame.body) is.is

-- without bytes for each argument a call has no meaning
enters-nothing : (callees : Callees) (diverging : Bool) (callee : Option Source) (path : Path) (store : Store) → entered_into callees diverging callee None path store ≡ Stuck
enters-nothing callees diverging (Some callee) path store = refl
enters-nothing callees diverging None path store = refl

-- a call was lowered: its arguments, and then the call
pub lowers-call : (source : Source) (s0 s1 new : Shape) (e : ExprId) (callee : Option ℕ) (es : List ℕ) (func : MirOperand) (args : List MirOperand) (to : LocalId) (next : BasicBlockId) → IsReady source s0 e.0 → node source e.0 ≡ Some (expr.Call callee es) →
    LowersOperands source s0 s1 es (map (λ (arg : MirOperand). arg.kind) args) → IsCalleeOperand source e.0 callee func.kind → CallsFunction source e.0 callee → next.0 ≡ length s1.blocks →
    HasCalled source s1 new (call_of e func args (whole_place to) (target_of_call (must_not_return source e.0) next)) (length s1.blocks) → (c : Cell) → local_of s0 c ≡ Some to.0 → LowersOwn source s0 new e.0 c
lowers-call source s0 s1 new e callee es func args to next ready form given is built at called c local =
    record {
      keeps = record {
        grows = grows-trans s0 s1 new given.keeps.grows called.grows;
        spares = spares-trans s0 s1 new given.keeps.spares called.spares;
        sound = called.sound;
        «open» = called.«open»;
        scope = called.scope ∙ given.keeps.scope ∙ ap (λ m. s0.scope ++ m) (sym (call_marks source ready.checked e.0 ready.within callee es form));
      };
      does = does-with-callees source s0 new e.0 c (Some (expr.Call callee es)) form reaches;
      laid = lays-call source s1 new e.0 callee es form given.laid called.grows;
    } where
      makes : MakesCall source built.id
      makes = record { e = e.0; evaluated = ready.reached; callee = callee; args = es; is_call = form; names = built.names }

      -- from the call on, by whether its callee must not return
      by-mark : (whole : Shape) (frame : Frame) → Grows new whole → IsSound source whole → IsFrameOf whole frame → (lands : Landings) (fuel : ℕ) → Serves (suc fuel) source frame.program → (values : List (List ℕ)) (store : Store) (memory : Memory) → Holds whole frame store memory →
          ShowAll whole frame store args values → (marked : Bool) → must_not_return source e.0 ≡ marked →
          Reaches source whole lands frame (here s1) (here new) memory (Nothing whole frame) (entered_into (callees_at fuel) marked (source_called source e.0 callee) (Some values) (record { cell = c }) store)
      by-mark whole frame grows sound frame-is lands fuel serves values store memory holds fit true mark =
          let call : Calling = call_of e func args (whole_place to) (target_of_call true next) in
          let found = local_of-grows s0 whole (grows-trans s0 s1 whole given.keeps.grows (grows-trans s1 new whole called.grows grows)) c to.0 local in
          call-strays source whole frame lands (here s1) memory store sound frame-is holds fuel serves call values fit e.0 callee is.ty (callee-type frame func.kind source e.0 callee is) built.id (is.names ∙ built.names) built.names makes c refl found
          (λ budget. called.does whole frame grows frame-is memory budget ∙ ap (λ (m : Bool). going_on budget (calls frame memory (call_of e func args (whole_place to) (target_of_call m next)))) mark)
          (here new) refl
      by-mark whole frame grows sound frame-is lands fuel serves values store memory holds fit false mark =
          let call : Calling = call_of e func args (whole_place to) (target_of_call false next) in
          let found = local_of-grows s0 whole (grows-trans s0 s1 whole given.keeps.grows (grows-trans s1 new whole called.grows grows)) c to.0 local in
          subst (λ (p : Point). Reaches source whole lands frame (here s1) p memory (Nothing whole frame) (entered_into (callees_at fuel) false (source_called source e.0 callee) (Some values) (record { cell = c }) store)) (ap start_of at ∙ sym called.begins)
          (call-returns source whole frame lands (here s1) memory store sound frame-is holds fuel serves call values fit e.0 callee is.ty (callee-type frame func.kind source e.0 callee is) built.id (is.names ∙ built.names) built.names makes c refl found
          (λ budget. called.does whole frame grows frame-is memory budget ∙ ap (λ (m : Bool). going_on budget (calls frame memory (call_of e func args (whole_place to) (target_of_call m next)))) mark)
          next.0 refl)

      -- by whether each argument has bytes
      by-given : (whole : Shape) (frame : Frame) → Grows new whole → IsSound source whole → IsFrameOf whole frame → (lands : Landings) (fuel : ℕ) → Serves (suc fuel) source frame.program → (values : List Operand) (store : Store) (memory : Memory) → Holds whole frame store memory →
          FitAll source (map (λ (arg : MirOperand). arg.kind) args) whole frame values → (given : Option (List (List ℕ))) → operands_bytes source store values ≡ given →
          Reaches source whole lands frame (here s1) (here new) memory (Nothing whole frame) (entered_into (callees_at fuel) (must_not_return source e.0) (source_called source e.0 callee) given (record { cell = c }) store)
      by-given whole frame grows sound frame-is lands fuel serves values store memory holds fit (Some given) is =
          by-mark whole frame grows sound frame-is lands fuel serves given store memory holds (shows-all source whole frame store args values fit given is) (must_not_return source e.0) refl
      by-given whole frame grows sound frame-is lands fuel serves values store memory holds fit None is =
          subst (Reaches source whole lands frame (here s1) (here new) memory (Nothing whole frame)) (sym (enters-nothing (callees_at fuel) (must_not_return source e.0) (source_called source e.0 callee) (record { cell = c }) store)) (inr tt)

      -- by whether an argument is out of bounds
      by-out : (whole : Shape) (frame : Frame) → Grows new whole → IsSound source whole → IsFrameOf whole frame → (lands : Landings) (fuel : ℕ) → Serves (suc fuel) source frame.program → (values : List Operand) (store : Store) (memory : Memory) → Holds whole frame store memory →
          FitAll source (map (λ (arg : MirOperand). arg.kind) args) whole frame values → (out : Bool) → some_out source store values ≡ out →
          Reaches source whole lands frame (here s1) (here new) memory (Nothing whole frame) (within_bounds out (entered_into (callees_at fuel) (must_not_return source e.0) (source_called source e.0 callee) (operands_bytes source store values) (record { cell = c }) store))
      by-out whole frame grows sound frame-is lands fuel serves values store memory holds fit true outside =
          call-panics frame (here s1) memory (call_of e func args (whole_place to) (target_of_call (must_not_return source e.0) next)) is.ty (callee-type frame func.kind source e.0 callee is) built.id (is.names ∙ built.names)
          (called.does whole frame grows frame-is memory) source whole lands (here new) makes (some-out-same source whole frame store memory holds args values fit ∙ outside)
      by-out whole frame grows sound frame-is lands fuel serves values store memory holds fit false outside =
          by-given whole frame grows sound frame-is lands fuel serves values store memory holds fit (operands_bytes source store values) refl

      reaches : (whole : Shape) (frame : Frame) → Grows new whole → IsSound source whole → IsFrameOf whole frame → (lands : Landings) (around : Around) → Stands whole s0 lands around → (fuel : ℕ) → Serves (suc fuel) source frame.program → (store : Store) (memory : Memory) → Holds whole frame store memory →
          Reaches source whole lands frame (here s0) (here new) memory (Nothing whole frame) (into_of source (level_at source fuel) (callees_at fuel) around e.0 (Some (expr.Call callee es)) (record { cell = c }) store)
      reaches whole frame grows sound frame-is lands around stands fuel serves store memory holds =
          reaches-then source whole lands frame (here s0) (here s1) (here new) memory (FitAll source (map (λ (arg : MirOperand). arg.kind) args) whole frame) (Nothing whole frame) (operands_of source (level_at source fuel) around es store) _
          (given.does.reaches whole frame (grows-trans s1 new whole called.grows grows) sound frame-is lands around stands fuel (serves-less fuel source frame.program serves) store memory holds)
          (λ values store1 memory1 claims. by-out whole frame grows sound frame-is lands fuel serves values store1 memory1 claims.0 claims.1 (some_out source store1 values) refl)
