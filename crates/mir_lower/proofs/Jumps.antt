-- Entering and leaving loops and labelled blocks, and jumping to them: what the graph keeps, and which points its runs reach.
use Rattle.std.proofs.Common.{◌≡◌, ℕ, suc, List, ◌∷◌, length, refl, sym, ap, ◌∙◌, subst, arith}
use Rattle.mir.specs.declared.body.Terminator.{Terminator}
use Rattle.mir.specs.declared.body.TerminatorKind.TheVariants.{Goto}
use Rattle.mir.specs.declared.ids.BasicBlockId.{BasicBlockId}
use Rattle.mir.specs.declared.span.MirSpan.{MirSpan}
use Rattle.source_meaning.specs.Source.{Source}
use Rattle.mir_lower.specs.Branches.{IsReserved, HasGoneOn}
use Rattle.mir_lower.specs.Does.{here}
use Rattle.mir_graph.specs.Graph.{Shape, OpenTarget, with_targets, with_reserved, with_terminator, with_block}
use Rattle.mir_lower.specs.Growth.{terminator_at, count_at, Grows, Spares, IsSound, IsOpen}
use Rattle.mir_lower.specs.Jumps.{IsEntered, HasJumped}
use Rattle.mir_lower.specs.Leaving.{Idles}
use Rattle.mir_lower.specs.Runs.{Point, Entry, Comes}
use Rattle.mir_lower.proofs.Branches.{reserved-spared, reserved-gone}
use Rattle.mir_lower.proofs.Forking.{goto-leads}
use Rattle.mir_lower.proofs.Growing.{same_blocks, grows_blocks, grows-trans, with_terminator-grows, with_block-grows}
use Rattle.mir_lower.proofs.Leaving.{heads-ended}
use Rattle.mir_lower.proofs.Reaching.{comes-on}
use Rattle.mir_lower.proofs.Reserving.{Reserves, reserves}
use Rattle.mir_lower.proofs.Sound.{sound_by, with_terminator-sound, with_terminator-scope, with_block-sound, with_block-open, with_block-scope}
use Rattle.mir_lower.proofs.Sparing.{spares-trans, spares-entered, with_terminator-spares, with_block-spares}

-- which loops and labelled blocks stand around the code counts for nothing else
pub with_targets-grows : (targets : List OpenTarget) (s : Shape) → Grows s (with_targets targets s)
with_targets-grows targets s = grows_blocks s (with_targets targets s) (same_blocks s.blocks) refl refl refl refl

pub with_targets-sound : (source : Source) (targets : List OpenTarget) (s : Shape) → IsSound source s → IsSound source (with_targets targets s)
with_targets-sound source targets s sound = sound_by source s (with_targets targets s) refl refl refl sound

pub with_targets-open : (targets : List OpenTarget) (s : Shape) → IsOpen s → IsOpen (with_targets targets s)
unfolding terminator_at
with_targets-open targets s opened = record { there = opened.there; unended = opened.unended }

pub with_targets-reserved : (targets : List OpenTarget) (s : Shape) (block : ℕ) → IsReserved s block → IsReserved (with_targets targets s) block
with_targets-reserved targets s block reserved = record { empty = reserved.empty; apart = reserved.apart }

pub here-targets : (targets : List OpenTarget) (s : Shape) → here (with_targets targets s) ≡ here s
unfolding count_at
here-targets targets s = refl

pub spares-targeted : (a b : Shape) → Spares a b → Spares a (with_targets a.targets b)
spares-targeted a b spares = record { others = spares.others; moves = spares.moves; many = spares.many; targets = refl }

pub spares-retargeted : (a b : Shape) (targets : List OpenTarget) → Spares a b → Spares (with_targets targets a) (with_targets targets b)
spares-retargeted a b targets spares = record { others = spares.others; moves = spares.moves; many = spares.many; targets = refl }

-- the block where a loop begins is reserved up to its end
pub begin-reserved : (source : Source) (s0 r1 r2 : Shape) (begin end : ℕ) → IsSound source s0 → IsOpen s0 → begin ≡ length s0.blocks → r1 ≡ with_reserved s0 → end ≡ length r1.blocks → r2 ≡ with_reserved r1 → IsReserved r2 begin
begin-reserved source s0 r1 r2 begin end sound opened at1 same1 at2 same2 =
    let first : Reserves source s0 r1 begin = reserves source s0 r1 begin sound opened at1 same1 in
    let second : Reserves source r1 r2 end = reserves source r1 r2 end first.sound first.«open» at2 same2 in
    reserved-spared second.spares first.reserved

-- Two blocks were reserved, the loop or labelled block was noted, and the current block leads to the first of the two.
pub enters : (source : Source) (s0 r1 r2 p new : Shape) (target : OpenTarget) → IsSound source s0 → IsOpen s0 → target.begin_block ≡ length s0.blocks → r1 ≡ with_reserved s0 → target.end_block ≡ length r1.blocks → r2 ≡ with_reserved r1 →
    target.kept ≡ length r2.scope → p ≡ with_targets (target ∷ r2.targets) r2 → HasGoneOn source p new target.begin_block target.begin_block → IsEntered source s0 new target
enters source s0 r1 r2 p new target sound opened at1 same1 at2 same2 kept same3 moved =
    let noted : Shape = with_targets (target ∷ r2.targets) r2 in
    let first : Reserves source s0 r1 target.begin_block = reserves source s0 r1 target.begin_block sound opened at1 same1 in
    let second : Reserves source r1 r2 target.end_block = reserves source r1 r2 target.end_block first.sound first.«open» at2 same2 in
    let gone : HasGoneOn source noted new target.begin_block target.begin_block = subst (λ (n : Shape). HasGoneOn source n new target.begin_block target.begin_block) same3 moved in
    let spares : Spares s0 r2 = spares-trans s0 r1 r2 first.spares second.spares in
    let end-is : target.end_block ≡ suc (length s0.blocks) = at2 ∙ first.many in
    record {
      grows = grows-trans s0 r1 new first.grows (grows-trans r1 r2 new second.grows (grows-trans r2 noted new (with_targets-grows (target ∷ r2.targets) r2) gone.grows));
      spares = spares-entered s0 (with_targets s0.targets r2) (with_targets s0.targets new) (spares-targeted s0 r2 spares) gone.others gone.many refl (let is = gone.current in omega arith);
      sound = gone.sound;
      «open» = gone.«open»;
      scope = gone.scope ∙ second.scope ∙ first.scope;
      targets = gone.targets ∙ ap (λ (targets : List OpenTarget). target ∷ targets) spares.targets;
      kept = kept ∙ ap length (second.scope ∙ first.scope);
      begins = gone.begins;
      end_reserved = reserved-gone gone (λ same. omega arith) (with_targets-reserved (target ∷ r2.targets) r2 target.end_block second.reserved);
      end_new = omega arith;
      heads = λ whole frame grows is memory.
          subst (λ (p : Point). Comes frame 0 0 p memory (Entry target.begin_block) memory) (here-targets (target ∷ r2.targets) r2 ∙ second.same_here ∙ first.same_here)
          (gone.heads whole frame grows is memory);
    }

-- All scopes inside the target were left, the current block leads to another one, and a new block is the current one.
pub jumps : (source : Source) (s0 s1 s2 new : Shape) (to : BasicBlockId) (span : MirSpan) (turns : ℕ) → Idles source s0 s1 turns → s2 ≡ with_terminator (record { span = span; kind = Goto to }) s1 → new ≡ with_block s2 → HasJumped source s0 new to.0 turns
jumps source s0 s1 s2 new to span turns idles same2 same3 =
    let t : Terminator = record { span = span; kind = Goto to } in
    let done : Shape = with_terminator t s1 in
    let same : new ≡ with_block done = same3 ∙ ap with_block same2 in
    let opened : IsOpen s1 = idles.«open» in
    subst (λ (n : Shape). HasJumped source s0 n to.0 turns) (sym same)
    (record {
      grows = grows-trans s0 s1 (with_block done) idles.grows (grows-trans s1 done (with_block done) (with_terminator-grows t s1 opened) (with_block-grows done));
      spares = spares-trans s0 s1 (with_block done) idles.spares (spares-trans s1 done (with_block done) (with_terminator-spares t s1 opened) (with_block-spares done));
      sound = with_block-sound source done (with_terminator-sound source t s1 opened idles.sound);
      «open» = with_block-open done;
      scope = with_block-scope done ∙ with_terminator-scope t s1 opened ∙ idles.scope;
      heads = λ whole frame grows is memory.
          let grown : Grows done whole = grows-trans done (with_block done) whole (with_block-grows done) grows in
          comes-on frame turns (here s0) (here s1) (Entry to.0) memory memory memory (idles.comes whole frame (grows-trans s1 done whole (with_terminator-grows t s1 opened) grown) is memory)
          (heads-ended t s1 whole frame opened grown is memory to.0 (goto-leads frame memory to span));
    })
