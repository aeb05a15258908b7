-- The switch that parts two branches, and the way on behind a branch.
use Rattle.std.proofs.Common.{◌≡◌, ◌≢◌, ℕ, suc, ◌≤◌, Bool, true, false, List, [], ◌∷◌, length, Some, refl, sym, ap, ◌∙◌, subst, arith}
use Rattle.std.specs.Prelude.{if◌then◌else◌, nat_le, ◌==◌}
use Rattle.std.proofs.lemmas.Bool.Decides.{nat_tests}
use Rattle.mir.specs.declared.body.Terminator.{Terminator}
use Rattle.mir.specs.declared.body.TerminatorKind.TheVariants.{Goto, SwitchInt}
use Rattle.mir.specs.declared.ids.BasicBlockId.{BasicBlockId}
use Rattle.mir.specs.declared.operand.Operand.{Operand}
use Rattle.mir.specs.declared.span.MirSpan.{MirSpan}
use Rattle.mir.specs.declared.switch.SwitchTargets.{SwitchTargets}
use Rattle.mir.specs.Memory.{Memory, number_held}
use Rattle.mir.specs.Run.{Frame, GoesTo, faults, led, out_of_bounds, terminated, switched, operand_bytes, operand_out}
use Rattle.mir.specs.Switches.{first_target, target_of, pairs_of, otherwise_of}
use Rattle.numbers.specs.Bytes.{value_of}
use Rattle.source_meaning.specs.Source.{Source}
use Rattle.mir_lower.specs.Branches.{IsReserved, IsForked, HasGoneOn}
use Rattle.mir_lower.specs.Does.{here}
use Rattle.mir_graph.specs.Graph.{Shape, with_terminator, with_reserved, with_entered}
use Rattle.mir_lower.specs.Growth.{Spares, IsSound, IsOpen}
use Rattle.mir_lower.specs.Runs.{Point, Comes, EndsAfter, IsFault, run_from, start_of}
use Rattle.mir_lower.proofs.Branches.{reserved-spared}
use Rattle.mir_lower.proofs.Growing.{grows-trans}
use Rattle.mir_lower.proofs.Reserving.{Reserves, reserves, LeadsOn, leads-on}
use Rattle.mir_lower.proofs.Sparing.{spares-trans, spares-entered}
use Rattle.mir_lower.proofs.Within.{read-within}

pub goto-leads : (frame : Frame) (memory : Memory) (to : BasicBlockId) (span : MirSpan) → terminated frame memory (Some (record { span = span; kind = Goto to })) ≡ GoesTo frame memory to.0
unfolding terminated
goto-leads frame memory to span = refl

-- a branch was ended, and the code goes on in a reserved block
pub goes-on : (source : Source) (s new : Shape) (to next : BasicBlockId) (span : MirSpan) → IsSound source s → IsOpen s → IsReserved s next.0 → new ≡ with_entered next.0 (with_terminator (record { span = span; kind = Goto to }) s) → HasGoneOn source s new to.0 next.0
goes-on source s new to next span sound opened reserved same =
    let t : Terminator = record { span = span; kind = Goto to } in
    let leads : LeadsOn source s new t next.0 = leads-on source s new t next.0 sound opened reserved same in
    record {
      grows = leads.grows;
      others = leads.others;
      many = leads.many;
      sound = leads.sound;
      «open» = leads.«open»;
      scope = leads.scope;
      targets = leads.targets;
      current = leads.current;
      begins = leads.begins;
      heads = λ whole frame grows is memory. leads.heads whole frame grows is memory to.0 (goto-leads frame memory to span);
      comes = λ whole frame grows is memory. leads.comes whole frame grows is memory to.0 (goto-leads frame memory to span);
    }

chosen : {A : Type 0} (one other : A) (test : Bool) → test ≡ true → (if test then one else other) ≡ one
chosen one other test is = ap (λ t. if t then one else other) is

-- a switch goes by the number that its operand's bytes are
switch-leads : (frame : Frame) (memory : Memory) (discr : Operand) (targets : SwitchTargets) (span : MirSpan) (bytes : List ℕ) → operand_bytes frame memory discr.kind ≡ Some bytes → length bytes ≤ 16 → terminated frame memory (Some (record { span = span; kind = SwitchInt discr targets })) ≡ GoesTo frame memory (target_of targets (value_of bytes)).0
unfolding terminated switched
switch-leads frame memory discr targets span bytes found short =
    let fits : nat_le (length bytes) 16 ≡ true = grind (arith, nat_tests) in
    ap (λ (out : Bool). led frame out (switched frame memory targets (operand_bytes frame memory discr.kind))) (read-within frame memory discr.kind bytes found)
    ∙ ap (switched frame memory targets) found ∙ chosen _ _ (nat_le (length bytes) 16) fits

-- on what is out of bounds it is a fault
switch-out : (frame : Frame) (memory : Memory) (discr : Operand) (targets : SwitchTargets) (span : MirSpan) → operand_out frame.program.world frame.body (number_held memory frame.cells) discr.kind ≡ true → terminated frame memory (Some (record { span = span; kind = SwitchInt discr targets })) ≡ faults frame out_of_bounds
unfolding terminated
switch-out frame memory discr targets span out = ap (λ (o : Bool). led frame o (switched frame memory targets (operand_bytes frame memory discr.kind))) out

unequal : (m n : ℕ) → m ≢ n → (m == n) ≡ false
unequal m n differ = grind (arith, nat_tests)

-- a switch whose targets tell one number from all others
pub record Parts (targets : SwitchTargets) (number taken other : ℕ) : Type 0 where
  pub same : (target_of targets number).0 ≡ taken
  pub differ : (n : ℕ) → n ≢ number → (target_of targets n).0 ≡ other

-- the targets of a test whether a number is one
pub parts-by-pair : (targets : SwitchTargets) (number : ℕ) (taken other : BasicBlockId) → pairs_of targets ≡ (number, taken) ∷ [] → otherwise_of targets ≡ other → Parts targets number taken.0 other.0
unfolding target_of first_target
parts-by-pair targets number taken other pairs otherwise =
    record {
      same =
          let is : (number == number) ≡ true = grind (arith, nat_tests) in
          ap (λ (p : List (ℕ × BasicBlockId)). (first_target p (otherwise_of targets) number).0) pairs
          ∙ ap (λ (test : Bool). (if test then taken else otherwise_of targets).0) is;
      differ = λ n apart.
          let is : (number == n) ≡ false = unequal number n (λ equal. apart (sym equal)) in
          ap (λ (p : List (ℕ × BasicBlockId)). (first_target p (otherwise_of targets) n).0) pairs
          ∙ ap (λ (test : Bool). (if test then taken else otherwise_of targets).0) is
          ∙ ap (λ (block : BasicBlockId). block.0) otherwise;
    }

-- Three blocks were reserved, the current one ended by a switch, and the first of the three is the current one.
pub forks : (source : Source) (s0 s1 s2 s3 new : Shape) (discr : Operand) (targets : SwitchTargets) (span : MirSpan) (number taken other join : ℕ) → IsSound source s0 → IsOpen s0 →
    taken ≡ length s0.blocks → s1 ≡ with_reserved s0 → other ≡ length s1.blocks → s2 ≡ with_reserved s1 → join ≡ length s2.blocks → s3 ≡ with_reserved s2 → Parts targets number taken other →
    new ≡ with_entered taken (with_terminator (record { span = span; kind = SwitchInt discr targets }) s3) → IsForked source s0 new discr.kind number other join
forks source s0 s1 s2 s3 new discr targets span number taken other join sound opened at1 same1 at2 same2 at3 same3 parts same =
    let t : Terminator = record { span = span; kind = SwitchInt discr targets } in
    let first : Reserves source s0 s1 taken = reserves source s0 s1 taken sound opened at1 same1 in
    let second : Reserves source s1 s2 other = reserves source s1 s2 other first.sound first.«open» at2 same2 in
    let third : Reserves source s2 s3 join = reserves source s2 s3 join second.sound second.«open» at3 same3 in
    let taken-reserved : IsReserved s3 taken = reserved-spared third.spares (reserved-spared second.spares first.reserved) in
    let other-reserved : IsReserved s3 other = reserved-spared third.spares second.reserved in
    let spares : Spares s0 s3 = spares-trans s0 s1 s3 first.spares (spares-trans s1 s2 s3 second.spares third.spares) in
    let leads : LeadsOn source s3 new t taken = leads-on source s3 new t taken third.sound third.«open» taken-reserved same in
    let other-is : other ≡ suc (length s0.blocks) = at2 ∙ first.many in
    let join-is : join ≡ suc (suc (length s0.blocks)) = at3 ∙ second.many ∙ ap suc first.many in
    let begins : here s3 ≡ here s0 = third.same_here ∙ second.same_here ∙ first.same_here in
    record {
      grows = grows-trans s0 s1 new first.grows (grows-trans s1 s2 new second.grows (grows-trans s2 s3 new third.grows leads.grows));
      spares = spares-entered s0 s3 new spares leads.others leads.many leads.targets (let is = leads.current in omega arith);
      sound = leads.sound;
      «open» = leads.«open»;
      scope = leads.scope ∙ third.scope ∙ second.scope ∙ first.scope;
      other_reserved = record { empty = leads.others other other-reserved.apart ∙ other-reserved.empty; apart = λ is. (let now = leads.current in omega arith) };
      join_reserved = record { empty = leads.others join third.reserved.apart ∙ third.reserved.empty; apart = λ is. (let now = leads.current in omega arith) };
      distinct = λ is. omega arith;
      other_new = omega arith;
      join_new = omega arith;
      taken = λ whole frame grows is memory bytes found short equal.
          let to : GoesTo frame memory (target_of targets (value_of bytes)).0 ≡ GoesTo frame memory taken = ap (λ n. GoesTo frame memory (target_of targets n).0) equal ∙ ap (GoesTo frame memory) parts.same in
          let comes = leads.comes whole frame grows is memory taken (switch-leads frame memory discr targets span bytes found short ∙ to) in
          subst (λ (p : Point). Comes frame 1 0 p memory (here new) memory) begins (subst (λ (p : Point). Comes frame 1 0 (here s3) memory p memory) (sym leads.begins) comes);
      left = λ whole frame grows is memory bytes found short differ.
          let comes = leads.comes whole frame grows is memory other (switch-leads frame memory discr targets span bytes found short ∙ ap (GoesTo frame memory) (parts.differ (value_of bytes) differ)) in
          subst (λ (p : Point). Comes frame 1 0 p memory (start_of other) memory) begins comes;
      out = λ whole frame grows is memory out.
          subst (λ (p : Point). EndsAfter 0 (IsFault out_of_bounds) (run_from frame memory p)) begins
          (leads.ends whole frame grows is memory out_of_bounds (switch-out frame memory discr targets span out));
    }
