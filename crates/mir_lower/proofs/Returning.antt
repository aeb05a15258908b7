-- `return`: its value goes to the result, all open scopes are left, and the body returns.
use Rattle.std.proofs.Common.{◌≡◌, ℕ, List, ◌++◌, Contains, Option, Some, None, refl, sym, ap, ◌∙◌, subst, arith, inr}
use Rattle.std.specs.Prelude.{flat_map, IfSome}
use Rattle.types.specs.declared.ids.ExprId.{ExprId}
use Rattle.mir.specs.declared.body.Terminator.{Terminator}
use Rattle.mir.specs.declared.body.TerminatorKind.TheVariants as kind
use Rattle.mir.specs.declared.span.MirSpan.{MirSpan}
use Rattle.mir.specs.Memory.{Memory}
use Rattle.mir.specs.Run.{Frame}
use Rattle.source_meaning.specs.Around.{Around}
use Rattle.source_meaning.specs.Core as expr
use Rattle.source_meaning.specs.Core.{CoreExpr}
use Rattle.source_meaning.specs.Ends.{Jumps, Return, turns_alone}
use Rattle.source_meaning.specs.Events.{marked_by_tail}
use Rattle.source_meaning.specs.Meaning.{level_at, tail_into, return_into}
use Rattle.source_meaning.specs.Source.{Source, node, node_type, root, Cell, Result, Path, Store, drops}
use Rattle.source_meaning.specs.Steps.{tail_steps, parts_of}
use Rattle.source_meaning.specs.Valid.{itself, own, inside, sized_part, sized_parts, HasPlainForm, HasPlainReturn, IsLaidOut, IsLaidOutNode, NeedsLayout}
use Rattle.source_meaning.proofs.Marks.{return_marks}
use Rattle.source_meaning.proofs.Parts.{sized_part_is_part}
use Rattle.mir_lower.specs.Does.{here, IsFrameOf, Holds, Landings, Lands, Reaches, Nothing, Stands}
use Rattle.mir_graph.specs.Graph.{Shape, with_terminator, with_block}
use Rattle.mir_lower.specs.Growth.{Grows, IsSound, IsOpen, IsReady}
use Rattle.mir_lower.specs.Jumps.{HasReturned}
use Rattle.mir_lower.specs.Leaving.{Idles}
use Rattle.mir_lower.specs.Lowered.{IsPlainWithin, LaysOut, LowersOwn, LowersTail, HasLayouts}
use Rattle.mir_lower.specs.Runs.{Exit, Comes}
use Rattle.mir_lower.proofs.Growing.{grows-trans, with_terminator-grows, with_block-grows}
use Rattle.mir_lower.proofs.Laid.{layouts-before, plain-part, one-of}
use Rattle.mir_lower.proofs.Leaving.{comes-return}
use Rattle.mir_lower.proofs.Reaching.{comes-on, reaches-then}
use Rattle.mir_lower.proofs.Sound.{slot-there, with_terminator-sound, with_terminator-scope, with_block-sound, with_block-open, with_block-scope}
use Rattle.mir_lower.proofs.Sparing.{spares-trans, with_terminator-spares, with_block-spares}
use Rattle.mir_lower.proofs.Steps.{does-form}
use Rattle.mir_lower.specs.Callees.{Serves}

-- all open scopes were left, the current block returns, and a new block is the current one
pub returns : (source : Source) (s0 s1 s2 new : Shape) (span : MirSpan) (turns : ℕ) → Idles source s0 s1 turns → s2 ≡ with_terminator (record { span = span; kind = kind.Return }) s1 → new ≡ with_block s2 → HasReturned source s0 new turns
returns source s0 s1 s2 new span turns idles same2 same3 =
    let t : Terminator = record { span = span; kind = kind.Return } in
    let done : Shape = with_terminator t s1 in
    let same : new ≡ with_block done = same3 ∙ ap with_block same2 in
    let opened : IsOpen s1 = idles.«open» in
    subst (λ (n : Shape). HasReturned source s0 n turns) (sym same)
    (record {
      grows = grows-trans s0 s1 (with_block done) idles.grows (grows-trans s1 done (with_block done) (with_terminator-grows t s1 opened) (with_block-grows done));
      spares = spares-trans s0 s1 (with_block done) idles.spares (spares-trans s1 done (with_block done) (with_terminator-spares t s1 opened) (with_block-spares done));
      sound = with_block-sound source done (with_terminator-sound source t s1 opened idles.sound);
      «open» = with_block-open done;
      scope = with_block-scope done ∙ with_terminator-scope t s1 opened ∙ idles.scope;
      leaves = λ whole frame grows is memory.
          let grown : Grows done whole = grows-trans done (with_block done) whole (with_block-grows done) grows in
          let comes : Comes frame turns 0 (here s0) memory (here s1) memory = idles.comes whole frame (grows-trans s1 done whole (with_terminator-grows t s1 opened) grown) is memory in
          comes-on frame turns (here s0) (here s1) Exit memory memory memory comes (comes-return s1 whole frame span memory opened grown is);
    })

-- the value of a `return` is a part of it
pub return-part : (source : Source) (e : ℕ) (value : Option ExprId) → node source e ≡ Some (expr.Return value) → IfSome value (λ one. Contains (parts_of (node source e)) one.0)
return-part source e None form = tt
return-part source e (Some one) form = subst (λ n. Contains (parts_of n) one.0) (sym form) (0, omega arith, refl)

-- A `return`: its value went to the result, and a return was added.
module _ (source : Source) (s0 s1 s2 : Shape) (e : ℕ) (value : Option ExprId) (form : node source e ≡ Some (expr.Return value)) (ready : IsReady source s0 e) (tail : LowersTail source s0 s1 value Result) (returned : HasReturned source s1 s2 (drops source s1.scope)) where
  return-reaches : (whole : Shape) (frame : Frame) → Grows s2 whole → IsSound source whole → IsFrameOf whole frame → (lands : Landings) (around : Around) → Stands whole s0 lands around → (fuel : ℕ) → Serves fuel source frame.program → (store : Store) (memory : Memory) → Holds whole frame store memory → Reaches source whole lands frame (here s0) (here s2) memory (Nothing whole frame) (return_into source (level_at source fuel) around value store)
  return-reaches whole frame grows sound is lands around stands fuel serves store memory holds =
      let grown1 : Grows s1 whole = grows-trans s1 s2 whole returned.grows grows in
      let leaving : ℕ = drops source (around.marks ++ marked_by_tail source value) in
      let counted : leaving ≡ drops source s1.scope =
      ap (λ (marks : List Cell). drops source (marks ++ marked_by_tail source value)) stands.marks ∙ ap (drops source) (sym tail.keeps.scope) in
      reaches-then source whole lands frame (here s0) (here s1) (here s2) memory (Nothing whole frame) (Nothing whole frame) (tail_into (level_at source fuel around) value around.result store) (λ _ later. Jumps Return later (turns_alone leaving))
      (subst (λ (p : Path). Reaches source whole lands frame (here s0) (here s1) memory (Nothing whole frame) (tail_into (level_at source fuel around) value p store)) (sym stands.result)
      (tail.does.reaches whole frame grown1 sound is lands around stands fuel serves store memory holds))
      (λ done store1 memory1 claims.
      inr (subst (Lands whole frame (here s1) memory1 store1 (turns_alone leaving)) (sym stands.returns)
      (memory1, subst (λ (n : ℕ). Comes frame n 0 (here s1) memory1 Exit memory1) (sym counted) (returned.leaves whole frame grows is memory1), claims.0)))

  -- the value has the type of the result, which has a local
  lays-value : (child : ℕ) (given : Option ExprId) → value ≡ given → Contains (flat_map (sized_part source) (tail_steps given)) child → IsPlainWithin source e → IsPlainWithin source child → HasLayouts source s2 → (f : ℕ) → NeedsLayout source child f → IsLaidOutNode source f
  lays-value child None is within plain below layouts f needs = absurd (let bound = within.1 in omega arith)
  lays-value child (Some one) is within plain below layouts f needs =
      let same : one.0 ≡ child = one-of one.0 child within in
      let node-is = plain.nodes e itself in
      let fits : HasPlainReturn source (Some one) = subst (HasPlainReturn source) is (subst (λ (n : Option CoreExpr). HasPlainForm source e n node-is.ty) form node-is.form) in
      let slot = slot-there source s2 returned.sound in
      let root-laid : IsLaidOut source (node_type source (root source)) = subst (IsLaidOut source) (sym slot.2) (layouts 0 slot.0 slot.1) in
      let typed : IsLaidOut source (node_type source one.0) = subst (IsLaidOut source) (fits.result_has ∙ sym fits.value_has) root-laid in
      tail.laid one is typed (subst (IsPlainWithin source) (sym same) below) (layouts-before source s1 s2 returned.grows layouts) f (subst (λ x. NeedsLayout source x f) (sym same) needs)

  lays-return : IsLaidOutNode source e → LaysOut source s2 e
  lays-return laid plain layouts f own = laid
  lays-return laid plain layouts f (inside {child = child} within rest) =
      lays-value child value refl (subst (λ n. Contains (sized_parts source n) child) form within) plain
      (plain-part source e child (sized_part_is_part source (node source e) child within) laid plain) layouts f rest

  pub lowers-return : (c : Cell) → LowersOwn source s0 s2 e c
  lowers-return c =
      record {
        keeps = record {
          grows = grows-trans s0 s1 s2 tail.keeps.grows returned.grows;
          spares = spares-trans s0 s1 s2 tail.keeps.spares returned.spares;
          sound = returned.sound;
          «open» = returned.«open»;
          scope = returned.scope ∙ tail.keeps.scope ∙ ap (λ m. s0.scope ++ m) (sym (return_marks source ready.checked e ready.within value form));
        };
        does = does-form source s0 s2 e c (Some (expr.Return value)) form (record { reaches = return-reaches });
        laid = lays-return;
      }
