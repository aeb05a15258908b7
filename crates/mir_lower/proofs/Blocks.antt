-- Blocks: names that are bound, statements in order, and a tail, in a scope of their own.
use Rattle.std.proofs.Common.{◌≡◌, ℕ, ⊎_elim, List, [], ◌∷◌, ◌++◌, flat_map, Contains, Option, Some, None, Ok, refl, sym, ap, ◌∙◌, subst, arith, append_assoc, append-nil, inr}
use Rattle.std.proofs.lemmas.Grind.{flat_map-append}
use Rattle.std.proofs.lemmas.List.Elements.{Contains-append_cases}
use Rattle.source_meaning.specs.Core as expr
use Rattle.world.specs.declared.body.Statement.{Statement}
use Rattle.world.specs.declared.body.Statement.TheVariants as statement
use Rattle.types.specs.declared.ids.BindingId.{BindingId}
use Rattle.types.specs.declared.ids.ExprId.{ExprId}
use Rattle.types.specs.declared.ids.PatId.{PatId}
use Rattle.world.specs.Nodes.{optional}
use Rattle.mir.specs.declared.operand.Operand.{Operand as MirOperand}
use Rattle.mir.specs.declared.operand.OperandKind.TheVariants.{Copy}
use Rattle.mir.specs.declared.ids.LocalId.{LocalId}
use Rattle.mir.specs.declared.operand.Place.{Place as GraphPlace}
use Rattle.mir.specs.declared.operand.Rvalue.TheVariants.{Use}
use Rattle.mir.specs.declared.span.MirSpan.{MirSpan}
use Rattle.mir.specs.declared.statement.Statement.{Statement as MirStatement}
use Rattle.mir.specs.declared.statement.StatementKind.TheVariants.{FakeRead}
use Rattle.mir.specs.Memory.{Memory}
use Rattle.mir.specs.Run.{Frame, after_statement}
use Rattle.source_meaning.specs.Around.{Around, marking}
use Rattle.source_meaning.specs.Ends.{no_cost, End, Go, then_do}
use Rattle.source_meaning.specs.Events.{marked_as_place, marked_by_statement, marked_by_tail, marked_in_block}
use Rattle.source_meaning.specs.Meaning.{Levels, level_at, read_into, bind, statement_of, statements_of, tail_into, block_into}
use Rattle.source_meaning.specs.Source.{At, Source, node, own_type, node_type, pattern, Cell, Binding, Place, Store, bound_by, drops}
use Rattle.source_meaning.specs.Steps.{parts_of, statement_parts}
use Rattle.source_meaning.specs.Valid.{itself, HasPlainForm, IsPlainNode, IsPlainTail, IsLaidOut, NeedsLayout, own, inside, IsLaidOutNode}
use Rattle.source_meaning.proofs.Costs.{then-then, then-same, then-go}
use Rattle.source_meaning.proofs.Marks.{let_marks, expression_marks, tail_marks, no_tail_marks, inner_marks, block_marks}
use Rattle.source_meaning.proofs.Parts.{block_parts, sized_part_is_part}
use Rattle.mir_lower.specs.Does.{here, IsAt, IsFrameOf, Reaches, Performs, Nothing, LeadsTo, DoesStatements}
use Rattle.mir_graph.specs.Graph.{Shape, with_statement, with_scope}
use Rattle.mir_lower.specs.Growth.{Grows, IsSound, IsOpen, IsReady}
use Rattle.mir_lower.specs.Leaving.{Idles}
use Rattle.mir_lower.specs.Lowered.{IsPlainWithin, Keeps, LaysOut, IsGiven, Binds, LowersInto, LowersPlace, LowersStatements, LowersTail, LowersOwn}
use Rattle.mir_lower.specs.Runs.{Point, Comes}
use Rattle.mir_lower.proofs.Growing.{grows-refl, grows-trans, with_statement-grows, with_scope-grows}
use Rattle.mir_lower.proofs.Laid.{layouts-before, plain-part, one-of}
use Rattle.mir_lower.proofs.Leaving.{here-scope}
use Rattle.mir_lower.proofs.Operations.{assigned-read, assignment, copy-fits}
use Rattle.mir_lower.proofs.Projecting.{at-later}
use Rattle.mir_lower.proofs.Reaching.{keeps-refl, comes-refl, comes-from, reaches-then}
use Rattle.mir_lower.proofs.Running.{comes-statement}
use Rattle.mir_lower.proofs.Sound.{with_statement-sound, with_statement-open, with_statement-scope}
use Rattle.mir_lower.proofs.Sparing.{spares-refl, spares-trans, with_statement-spares, scoped-spares}
use Rattle.mir_lower.proofs.Standing.{marking-fits, marking-none, marking-more, stands-with}
use Rattle.mir_lower.proofs.Steps.{local_of-grows, reaches-from, does-form}
use Rattle.source_meaning.specs.Core.{CoreExpr}
use Rattle.types.specs.declared.ty.Ty.{Ty}

-- noting that a value was named leaves everything as it is
read-does-nothing : (frame : Frame) (memory : Memory) (place : GraphPlace) → after_statement frame memory (FakeRead place) ≡ Ok memory
unfolding after_statement
read-does-nothing frame memory place = refl

pub idles-read : (source : Source) (s new : Shape) (place : GraphPlace) (span : MirSpan) → IsSound source s → IsOpen s → new ≡ with_statement (record { kind = FakeRead place; span = span }) s → Idles source s new 0
idles-read source s new place span sound opened same =
    let st : MirStatement = record { kind = FakeRead place; span = span } in
    subst (λ (n : Shape). Idles source s n 0) (sym same)
    (record {
      grows = with_statement-grows st s opened;
      spares = with_statement-spares st s opened;
      sound = with_statement-sound source st s opened sound;
      «open» = with_statement-open st s opened;
      scope = with_statement-scope st s opened;
      comes = λ whole frame grows is memory. comes-statement st s whole frame memory opened grows is memory (read-does-nothing frame memory place) (keeps-refl frame memory);
    })

-- a name is bound to the value of a place
pub binds-name : (source : Source) (s0 s1 new : Shape) (pat : PatId) (id : BindingId) (to : LocalId) (from : GraphPlace) (operand : MirOperand) (span : MirSpan) → pattern source pat.0 ≡ Some id → IsGiven source s0 s1 (Binding id.0) to.0 → operand.kind ≡ Copy from → new ≡ with_statement (assignment to (Use operand) span) s1 → (at : Place) → IsAt s0 from at → Binds source s0 new pat.0 at
binds-name source s0 s1 new pat id to from operand span binds given copies same at is-at =
    let st = assignment to (Use operand) span in
    let opened = given.keeps.«open» in
    let last : Grows s1 (with_statement st s1) = with_statement-grows st s1 opened in
    subst (λ (n : Shape). Binds source s0 n pat.0 at) (sym same)
    (record {
      keeps = record {
        grows = grows-trans s0 s1 (with_statement st s1) given.keeps.grows last;
        spares = spares-trans s0 s1 (with_statement st s1) given.keeps.spares (with_statement-spares st s1 opened);
        sound = with_statement-sound source st s1 opened given.keeps.sound;
        «open» = with_statement-open st s1 opened;
        scope = with_statement-scope st s1 opened ∙ given.keeps.scope ∙ ap (λ p. s0.scope ++ bound_by p) (sym binds);
      };
      does = record {
        reaches = λ whole frame grows sound is lands around stands fuel serves store memory holds.
            let grown : Grows s1 whole = grows-trans s1 (with_statement st s1) whole last grows in
            let found = local_of-grows s1 whole grown (Binding id.0) to.0 given.found in
            let later = at-later s0 whole (grows-trans s0 s1 whole given.keeps.grows grown) from at is-at in
            subst (λ (p : Option BindingId). Reaches source whole lands frame (here s0) (here (with_statement st s1)) memory (Nothing whole frame) (bind source p at store)) (sym binds)
            (reaches-from source whole lands frame (here s0) (here s1) (here (with_statement st s1)) memory (Nothing whole frame) (given.comes whole frame grown is memory) (read_into source (At at) (record { cell = Binding id.0 }) store)
            (assigned-read source s1 whole frame to operand span opened sound is lands grows (Binding id.0) found store memory holds (At at) (copy-fits source whole frame from at operand copies sound is serves.world later)));
      };
    })

-- Statements in order.

no-statements : (source : Source) (below : Levels) (around : Around) (store : Store) → statements_of source below around [] store ≡ Go tt store no_cost
unfolding statements_of
no-statements source below around store = refl

first-statement : (source : Source) (below : Levels) (around : Around) (first : Statement) (rest : List Statement) (store : Store) → statements_of source below around (first ∷ rest) store ≡ then_do (statement_of source (below around) first store) (λ _ later. statements_of source below (marking (marked_by_statement source first) around) rest later)
unfolding statements_of
first-statement source below around first rest store = refl

statements-append : (source : Source) (below : Levels) (around : Around) (xs ys : List Statement) (store : Store) → statements_of source below around (xs ++ ys) store ≡ then_do (statements_of source below around xs store) (λ _ later. statements_of source below (marking (flat_map (marked_by_statement source) xs) around) ys later)
statements-append source below around [] ys store =
    sym (ap (λ (end : End (Unit {0})). then_do end (λ _ later. statements_of source below (marking [] around) ys later)) (no-statements source below around store)
    ∙ then-go tt store (λ _ later. statements_of source below (marking [] around) ys later)
    ∙ ap (λ (a : Around). statements_of source below a ys store) (marking-none around))
statements-append source below around (x ∷ xs) ys store =
    let inner : Around = marking (marked_by_statement source x) around in
    let behind : Around = marking (flat_map (marked_by_statement source) xs) inner in
    let all : Around = marking (flat_map (marked_by_statement source) (x ∷ xs)) around in
    first-statement source below around x (xs ++ ys) store
    ∙ then-same (statement_of source (below around) x store) (λ _ later. statements_of source below inner (xs ++ ys) later) (λ _ later. then_do (statements_of source below inner xs later) (λ _ last. statements_of source below behind ys last)) (λ _ later. statements-append source below inner xs ys later)
    ∙ sym (then-then (statement_of source (below around) x store) (λ _ later. statements_of source below inner xs later) (λ _ last. statements_of source below behind ys last))
    ∙ sym (ap (λ (end : End (Unit {0})). then_do end (λ _ last. statements_of source below behind ys last)) (first-statement source below around x xs store))
    ∙ ap (λ (a : Around). then_do (statements_of source below around (x ∷ xs) store) (λ _ last. statements_of source below a ys last)) (marking-more (marked_by_statement source x) (flat_map (marked_by_statement source) xs) around)

-- no statements were lowered
pub lowers-none : (source : Source) (s : Shape) → IsSound source s → IsOpen s → LowersStatements source s s []
lowers-none source s sound opened =
    record {
      keeps = record { grows = grows-refl s; spares = spares-refl s; sound = sound; «open» = opened; scope = sym (append-nil s.scope) };
      does = record {
        reaches = λ whole frame grows whole-sound is lands around stands fuel serves store memory holds.
            subst (Reaches source whole lands frame (here s) (here s) memory (Nothing whole frame)) (sym (no-statements source (level_at source fuel) around store))
            (inr (memory, comes-refl frame (here s) memory, holds, tt));
      };
      laid = λ child within. absurd (let below = within.1 in omega arith);
    }

-- one statement was lowered, by what it does
one-statement : (source : Source) (old new : Shape) (st : Statement) → Performs source old new Nothing (λ around fuel store. statement_of source (level_at source fuel around) st store) → DoesStatements source old new (st ∷ [])
one-statement source old new st performs =
    record {
      reaches = λ whole frame grows sound is lands around stands fuel serves store memory holds.
          subst (Reaches source whole lands frame (here old) (here new) memory (Nothing whole frame)) (sym (first-statement source (level_at source fuel) around st [] store))
          (reaches-then source whole lands frame (here old) (here new) (here new) memory (Nothing whole frame) (Nothing whole frame) (statement_of source (level_at source fuel around) st store) _
          (performs.reaches whole frame grows sound is lands around stands fuel serves store memory holds)
          (λ value store1 memory1 claims.
          subst (Reaches source whole lands frame (here new) (here new) memory1 (Nothing whole frame)) (sym (no-statements source (level_at source fuel) (marking (marked_by_statement source st) around) store1))
          (inr (memory1, comes-refl frame (here new) memory1, claims.0, claims.1))));
    }

-- statements, and then others
pub lowers-more : (source : Source) (s0 s1 s2 : Shape) (xs ys : List Statement) → LowersStatements source s0 s1 xs → LowersStatements source s1 s2 ys → LowersStatements source s0 s2 (xs ++ ys)
lowers-more source s0 s1 s2 xs ys first second =
    record {
      keeps = record {
        grows = grows-trans s0 s1 s2 first.keeps.grows second.keeps.grows;
        spares = spares-trans s0 s1 s2 first.keeps.spares second.keeps.spares;
        sound = second.keeps.sound;
        «open» = second.keeps.«open»;
        scope =
            second.keeps.scope ∙ ap (λ scope. scope ++ flat_map (marked_by_statement source) ys) first.keeps.scope
            ∙ append_assoc s0.scope (flat_map (marked_by_statement source) xs) (flat_map (marked_by_statement source) ys)
            ∙ ap (λ m. s0.scope ++ m) (sym (flat_map-append (marked_by_statement source) xs ys));
      };
      does = record {
        reaches = λ whole frame grows sound is lands around stands fuel serves store memory holds.
            subst (Reaches source whole lands frame (here s0) (here s2) memory (Nothing whole frame)) (sym (statements-append source (level_at source fuel) around xs ys store))
            (reaches-then source whole lands frame (here s0) (here s1) (here s2) memory (Nothing whole frame) (Nothing whole frame) (statements_of source (level_at source fuel) around xs store) _
            (first.does.reaches whole frame (grows-trans s1 s2 whole second.keeps.grows grows) sound is lands around stands fuel serves store memory holds)
            (λ value store1 memory1 claims. second.does.reaches whole frame grows sound is lands (marking (flat_map (marked_by_statement source) xs) around) (marking-fits first.keeps around stands) fuel serves store1 memory1 claims.0));
      };
      laid = λ child within plain layouts. ⊎_elim
          (λ one. first.laid child one plain (layouts-before source s1 s2 second.keeps.grows layouts))
          (λ other. second.laid child other plain layouts)
          (Contains-append_cases (flat_map statement_parts xs) (flat_map statement_parts ys) child (subst (λ (parts : List ℕ). Contains parts child) (flat_map-append statement_parts xs ys) within));
    }

-- a `let`: the initializer's place, which is noted as read, and then the name is bound
pub lowers-let : (source : Source) (s0 s1 s2 s3 : Shape) (pat : PatId) (e : ExprId) (local : GraphPlace) (place : LowersPlace source s0 s1 e.0 local) → Idles source s1 s2 0 → ((at : Place) → IsAt s2 local at → Binds source s2 s3 pat.0 at) → LowersStatements source s0 s3 (statement.Let pat (Some e) None ∷ [])
lowers-let source s0 s1 s2 s3 pat e local place idles binding =
    let c = place.does.at in
    let binds = binding c (at-later s1 s2 idles.grows local c place.does.is) in
    let later : Grows s1 s3 = grows-trans s1 s2 s3 idles.grows binds.keeps.grows in
    record {
      keeps = record {
        grows = grows-trans s0 s1 s3 place.keeps.grows later;
        spares = spares-trans s0 s1 s3 place.keeps.spares (spares-trans s1 s2 s3 idles.spares binds.keeps.spares);
        sound = binds.keeps.sound;
        «open» = binds.keeps.«open»;
        scope =
            binds.keeps.scope ∙ ap (λ scope. scope ++ bound_by (pattern source pat.0)) (idles.scope ∙ place.keeps.scope)
            ∙ append_assoc s0.scope (marked_as_place source e.0) (bound_by (pattern source pat.0))
            ∙ ap (λ m. s0.scope ++ m) (sym (append-nil (marked_by_statement source (statement.Let pat (Some e) None)) ∙ let_marks source pat e));
      };
      does = one-statement source s0 s3 (statement.Let pat (Some e) None) (record {
        reaches = λ whole frame grows sound is lands around stands fuel serves store memory holds.
            let grown : Grows s2 whole = grows-trans s2 s3 whole binds.keeps.grows grows in
            reaches-then source whole lands frame (here s0) (here s1) (here s3) memory (LeadsTo c whole frame) (Nothing whole frame) ((level_at source fuel around).place e.0 store) _
            (place.does.does.reaches whole frame (grows-trans s1 s2 whole idles.grows grown) sound is lands around stands fuel serves store memory holds)
            (λ path store1 memory1 claims.
            subst (λ (p : Place). Reaches source whole lands frame (here s1) (here s3) memory1 (Nothing whole frame) (bind source (pattern source pat.0) p store1)) (sym claims.1)
            (reaches-from source whole lands frame (here s1) (here s2) (here s3) memory1 (Nothing whole frame) (idles.comes whole frame grown is memory1) _
            (binds.does.reaches whole frame grows sound is lands (record around { marks = s2.scope }) (stands-with (idles.spares.targets ∙ place.keeps.spares.targets) stands) fuel serves store1 memory1 claims.0)));
      });
      laid = λ child within plain layouts f needs.
          let same : e.0 ≡ child = one-of e.0 child within in
          place.laid (subst (IsPlainWithin source) (sym same) plain) (layouts-before source s1 s3 later layouts) f (subst (λ x. NeedsLayout source x f) (sym same) needs);
    }

-- behind a scope that was left the run goes on
pub scope-idles : (s : Shape) (outer : List Cell) (source : Source) (new : Shape) (turns : ℕ) → Idles source (with_scope outer s) new turns → (whole : Shape) (frame : Frame) → Grows new whole → IsFrameOf whole frame → (memory : Memory) → Comes frame turns 0 (here s) memory (here new) memory
scope-idles s outer source new turns idles whole frame grows is memory =
    subst (λ (p : Point). Comes frame turns 0 p memory (here new) memory) (here-scope s outer) (idles.comes whole frame grows is memory)

-- an expression statement: its place, in a scope of its own, which is then left
pub lowers-expr-statement : (source : Source) (s0 s1 s2 s3 : Shape) (e : ExprId) (has_semi : _) (local : GraphPlace) → LowersPlace source s0 s1 e.0 local → Idles source s1 s2 0 → Idles source (with_scope s0.scope s2) s3 (drops source (marked_as_place source e.0)) → LowersStatements source s0 s3 (statement.Expr e has_semi ∷ [])
lowers-expr-statement source s0 s1 s2 s3 e has_semi local place read left =
    let into : Grows s1 s3 = grows-trans s1 s2 s3 read.grows (grows-trans s2 (with_scope s0.scope s2) s3 (with_scope-grows s0.scope s2) left.grows) in
    let turns = drops source (marked_as_place source e.0) in
    record {
      keeps = record {
        grows = grows-trans s0 s1 s3 place.keeps.grows into;
        spares = scoped-spares s0 s2 s3 (spares-trans s0 s1 s2 place.keeps.spares read.spares) s0.scope left.spares;
        sound = left.sound;
        «open» = left.«open»;
        scope = left.scope ∙ sym (append-nil s0.scope) ∙ ap (λ m. s0.scope ++ m) (sym (append-nil (marked_by_statement source (statement.Expr e has_semi)) ∙ expression_marks source e has_semi));
      };
      does = one-statement source s0 s3 (statement.Expr e has_semi) (record {
        reaches = λ whole frame grows sound is lands around stands fuel serves store memory holds.
            let grown2 : Grows s2 whole = grows-trans s2 (with_scope s0.scope s2) whole (with_scope-grows s0.scope s2) (grows-trans (with_scope s0.scope s2) s3 whole left.grows grows) in
            reaches-then source whole lands frame (here s0) (here s1) (here s3) memory (LeadsTo place.does.at whole frame) (Nothing whole frame) ((level_at source fuel around).place e.0 store) _
            (place.does.does.reaches whole frame (grows-trans s1 s2 whole read.grows grown2) sound is lands around stands fuel serves store memory holds)
            (λ path store1 memory1 claims. inr (
              memory1,
              comes-from frame turns (here s1) (here s2) (here s3) memory1 memory1 memory1 (read.comes whole frame grown2 is memory1) (scope-idles s2 s0.scope source s3 turns left whole frame grows is memory1),
              claims.0,
              tt,
            ));
      });
      laid = λ child within plain layouts f needs.
          let same : e.0 ≡ child = one-of e.0 child within in
          place.laid (subst (IsPlainWithin source) (sym same) plain) (layouts-before source s1 s3 into layouts) f (subst (λ x. NeedsLayout source x f) (sym same) needs);
    }

-- the tail of a block, where it has one
pub lowers-tail : (source : Source) (s0 s1 : Shape) (t : ExprId) (c : Cell) → LowersInto source s0 s1 t.0 c → LowersTail source s0 s1 (Some t) c
lowers-tail source s0 s1 t c into =
    record {
      keeps = subst (λ (m : List Cell). Keeps source s0 s1 m) (sym (tail_marks source t)) into.keeps;
      does = into.does;
      laid = λ e same laid. (let is : t ≡ e = cc in subst (λ (x : ExprId). IsLaidOut source (node_type source x.0) → LaysOut source s1 x.0) is into.laid laid);
    }

pub lowers-no-tail : (source : Source) (s : Shape) (c : Cell) → IsSound source s → IsOpen s → LowersTail source s s None c
lowers-no-tail source s c sound opened =
    record {
      keeps = record { grows = grows-refl s; spares = spares-refl s; sound = sound; «open» = opened; scope = sym (ap (λ m. s.scope ++ m) (no_tail_marks source) ∙ append-nil s.scope) };
      does = record { reaches = λ whole frame grows whole-sound is lands around stands fuel serves store memory holds. inr (memory, comes-refl frame (here s) memory, holds, tt) };
      laid = λ e same. absurd cc;
    }

-- the types of what a block evaluates, with a label or without
pub lays-block : (source : Source) (s0 s1 s2 new : Shape) (e : ℕ) (core : CoreExpr) (statements : List Statement) (tail : Option ExprId) (c : Cell) → node source e ≡ Some core → parts_of (Some core) ≡ flat_map statement_parts statements ++ optional tail →
    ((ty : Ty) → HasPlainForm source e (Some core) ty → IsPlainTail source tail ty) → LowersStatements source s0 s1 statements → LowersTail source s1 s2 tail c → Grows s1 new → Grows s2 new → IsLaidOutNode source e → LaysOut source new e
lays-block source s0 s1 s2 new e core statements tail c form parts fits first last grows1 grows2 laid plain layouts f own = laid
lays-block source s0 s1 s2 new e core statements tail c form parts fits first last grows1 grows2 laid plain layouts f (inside {child = child} within rest) =
    let evaluated = sized_part_is_part source (node source e) child within in
    ⊎_elim
    (λ one. first.laid child one (plain-part source e child evaluated laid plain) (layouts-before source s1 new grows1 layouts) f rest)
    (λ other. by-tail tail refl other)
    (Contains-append_cases (flat_map statement_parts statements) (optional tail) child (subst (λ (list : List ℕ). Contains list child) (ap parts_of form ∙ parts) evaluated)) where
      tail-type : (t : ExprId) → tail ≡ Some t → (whole : IsPlainNode source e) → HasPlainForm source e (Some core) whole.ty → node_type source t.0 ≡ own_type source e
      tail-type t is whole plain-form = subst (λ (o : Option ExprId). IsPlainTail source o whole.ty) is (fits whole.ty plain-form) ∙ sym whole.has_type

      by-tail : (o : Option ExprId) → tail ≡ o → Contains (optional o) child → IsLaidOutNode source f
      by-tail None is holds = absurd (let below = holds.1 in omega arith)
      by-tail (Some t) is holds =
          let same : t.0 ≡ child = one-of t.0 child holds in
          last.laid t is (subst (IsLaidOut source) (sym (tail-type t is (plain.nodes e itself) (subst (λ n. HasPlainForm source e n (plain.nodes e itself).ty) form (plain.nodes e itself).form))) laid.of_itself)
          (subst (IsPlainWithin source) (sym same) (plain-part source e child (sized_part_is_part source (node source e) child within) laid plain)) (layouts-before source s2 new grows2 layouts) f (subst (λ x. NeedsLayout source x f) (sym same) rest)

-- what came into use in a block: in its statements and in its tail
pub block-inner : (source : Source) (s0 s1 s2 : Shape) (statements : List Statement) (tail : Option ExprId) (c : Cell) → LowersStatements source s0 s1 statements → LowersTail source s1 s2 tail c → s2.scope ≡ s0.scope ++ marked_in_block source statements tail
block-inner source s0 s1 s2 statements tail c first last =
    last.keeps.scope ∙ ap (λ scope. scope ++ marked_by_tail source tail) first.keeps.scope
    ∙ append_assoc s0.scope (flat_map (marked_by_statement source) statements) (marked_by_tail source tail)
    ∙ ap (λ m. s0.scope ++ m) (sym (inner_marks source statements tail))

-- what the code of a block does: its statements and its tail, in a scope of their own, which is then left
pub does-block : (source : Source) (s0 s1 s2 s3 : Shape) (statements : List Statement) (tail : Option ExprId) (c : Cell) → LowersStatements source s0 s1 statements → LowersTail source s1 s2 tail c → Idles source (with_scope s0.scope s2) s3 (drops source (marked_in_block source statements tail)) →
    Performs source s0 s3 Nothing (λ around fuel store. block_into source (level_at source fuel) around statements tail (record { cell = c }) store)
does-block source s0 s1 s2 s3 statements tail c first last left =
    let into2 : Grows s2 s3 = grows-trans s2 (with_scope s0.scope s2) s3 (with_scope-grows s0.scope s2) left.grows in
    let turns = drops source (marked_in_block source statements tail) in
    record {
      reaches = λ whole frame grows sound is lands around stands fuel serves store memory holds.
          let grown2 : Grows s2 whole = grows-trans s2 s3 whole into2 grows in
          let below = level_at source fuel in
          let behind : Around = marking (flat_map (marked_by_statement source) statements) around in
          reaches-then source whole lands frame (here s0) (here s1) (here s3) memory (Nothing whole frame) (Nothing whole frame) (statements_of source below around statements store) _
          (first.does.reaches whole frame (grows-trans s1 s2 whole last.keeps.grows grown2) sound is lands around stands fuel serves store memory holds)
          (λ value store1 memory1 claims1.
          reaches-then source whole lands frame (here s1) (here s2) (here s3) memory1 (Nothing whole frame) (Nothing whole frame) (tail_into (below behind) tail (record { cell = c }) store1) _
          (last.does.reaches whole frame grown2 sound is lands behind (marking-fits first.keeps around stands) fuel serves store1 memory1 claims1.0)
          (λ value store2 memory2 claims2. inr (memory2, scope-idles s2 s0.scope source s3 turns left whole frame grows is memory2, claims2.0, tt)));
    }

-- a block without a label
pub lowers-block : (source : Source) (s0 s1 s2 s3 : Shape) (e : ℕ) (statements : List Statement) (tail : Option ExprId) (c : Cell) → IsReady source s0 e → node source e ≡ Some (expr.Block statements tail) → LowersStatements source s0 s1 statements → LowersTail source s1 s2 tail c → Idles source (with_scope s0.scope s2) s3 (drops source (marked_in_block source statements tail)) → LowersOwn source s0 s3 e c
lowers-block source s0 s1 s2 s3 e statements tail c ready form first last left =
    let into2 : Grows s2 s3 = grows-trans s2 (with_scope s0.scope s2) s3 (with_scope-grows s0.scope s2) left.grows in
    let into1 : Grows s1 s3 = grows-trans s1 s2 s3 last.keeps.grows into2 in
    record {
      keeps = record {
        grows = grows-trans s0 s1 s3 first.keeps.grows into1;
        spares = scoped-spares s0 s2 s3 (spares-trans s0 s1 s2 first.keeps.spares last.keeps.spares) s0.scope left.spares;
        sound = left.sound;
        «open» = left.«open»;
        scope = left.scope ∙ sym (append-nil s0.scope) ∙ ap (λ m. s0.scope ++ m) (sym (block_marks source ready.checked e ready.within statements tail form));
      };
      does = does-form source s0 s3 e c (Some (expr.Block statements tail)) form (does-block source s0 s1 s2 s3 statements tail c first last left);
      laid = lays-block source s0 s1 s2 s3 e (expr.Block statements tail) statements tail c form (block_parts statements tail) (λ ty plain. plain.1) first last into1 into2;
    }
