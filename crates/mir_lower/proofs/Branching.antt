-- Code that parts into two branches and joins again: what it does, and which layouts its parts need.
use Rattle.std.proofs.Common.{◌≡◌, ℕ, Bool, true, false, List, [], ◌∷◌, Contains, Option, Some, None, refl, sym, ◌∙◌, subst, arith, eqb, inr}
use Rattle.std.proofs.lemmas.Bool.{eqb-true, eqb-false}
use Rattle.std.proofs.lemmas.List.Elements.{Contains-append_left}
use Rattle.mir.specs.declared.operand.OperandKind.{OperandKind}
use Rattle.mir.specs.Memory.{Memory, number_held}
use Rattle.mir.specs.Run.{Frame, operand_bytes as mir_bytes, operand_out as mir_out}
use Rattle.numbers.specs.Bytes.{value_of}
use Rattle.source_meaning.specs.Ends.{End, Go, Stuck, turns_alone, after, then_do}
use Rattle.source_meaning.specs.Meaning.{is_byte, branched, within_bounds}
use Rattle.source_meaning.specs.Core.{is_truth}
use Rattle.source_meaning.specs.Source.{Source, unadjusted, own_type, node_type, Cell}
use Rattle.source_meaning.specs.Steps.{Operand}
use Rattle.source_meaning.specs.Valid.{IsLaidOut, NeedsLayout, sized_part, IsLaidOutNode}
use Rattle.source_meaning.proofs.Parts.{sized_operand}
use Rattle.mir_lower.specs.Does.{here, IsFrameOf, Landings, Reaches, Nothing}
use Rattle.mir_graph.specs.Graph.{Shape}
use Rattle.mir_lower.specs.Growth.{Grows}
use Rattle.mir_lower.specs.Lowered.{IsPlainWithin, HasLayouts, LowersInto, LowersOperand}
use Rattle.mir_lower.specs.Runs.{Comes}
use Rattle.mir_lower.proofs.Branches.{IsBranched, comes-first, comes-second, ends-out, first-joins, second-joins}
use Rattle.mir_lower.proofs.Laid.{layouts-before, one-of}
use Rattle.mir_lower.proofs.Reaching.{reaches-after, reaches-then}

-- one byte as a number
one-byte : (byte : ℕ) → value_of (byte ∷ []) ≡ byte
unfolding value_of
one-byte byte = omega arith

module _ {source : Source} {s0 s1 s2 s3 s4 s5 s6 : Shape} {operand : OperandKind} {number other join : ℕ} {tested first second : List Cell} (parts : IsBranched source s0 s1 s2 s3 s4 s5 s6 operand number other join tested first second) (whole : Shape) (frame : Frame) (grows : Grows s6 whole) (is : IsFrameOf whole frame) (lands : Landings) (memory : Memory) where
  -- what a branch does, and a block on the way to it and one on the way to the join
  one-branch : (from to : Shape) (end : End (Unit {0})) → Comes frame 1 0 (here s1) memory (here from) memory → ((later : Memory) → Comes frame 1 0 (here to) later (here s6) later) → Reaches source whole lands frame (here from) (here to) memory (Nothing whole frame) end → Reaches source whole lands frame (here s1) (here s6) memory (Nothing whole frame) (branched end)
  one-branch from to end enters leaves does =
      reaches-after source whole lands frame (here s1) (here from) (here s6) memory memory (Nothing whole frame) (turns_alone 1) enters (then_do end (λ _ last. Go tt last (turns_alone 1)))
      (reaches-then source whole lands frame (here from) (here to) (here s6) memory (Nothing whole frame) (Nothing whole frame) end (λ _ last. Go tt last (turns_alone 1)) does
      (λ value store later claims. inr (later, leaves later, claims.0, claims.1)))

  stuck-branch : Reaches source whole lands frame (here s1) (here s6) memory (Nothing whole frame) (branched Stuck)
  unfolding after then_do
  stuck-branch = inr tt

  module _ (branch : Option Bool → End (Unit {0})) (stuck : branch None ≡ Stuck) (one : Reaches source whole lands frame (here s2) (here s3) memory (Nothing whole frame) (branch (Some true))) (two : Reaches source whole lands frame (here s4) (here s5) memory (Nothing whole frame) (branch (Some false))) where
    by-test : (byte : ℕ) → mir_bytes frame memory operand ≡ Some (byte ∷ []) → (test : Bool) → eqb byte number ≡ test → Reaches source whole lands frame (here s1) (here s6) memory (Nothing whole frame) (branched (branch (Some test)))
    by-test byte has true same =
        one-branch s2 s3 (branch (Some true)) (comes-first parts whole frame grows is memory (byte ∷ []) has (omega arith) (one-byte byte ∙ eqb-true byte number same)) (λ later. first-joins parts whole frame grows is later) one
    by-test byte has false differs =
        one-branch s4 s5 (branch (Some false)) (comes-second parts whole frame grows is memory (byte ∷ []) has (omega arith) (λ same. eqb-false byte number differs (sym (one-byte byte) ∙ same))) (λ later. second-joins parts whole frame grows is later) two

    without : Reaches source whole lands frame (here s1) (here s6) memory (Nothing whole frame) (branched (branch None))
    without = subst (λ (end : End (Unit {0})). Reaches source whole lands frame (here s1) (here s6) memory (Nothing whole frame) (branched end)) (sym stuck) stuck-branch

    -- by the operand's byte one of the branches is taken; other bytes than one have no meaning
    reaches-branched : (bytes : Option (List ℕ)) → mir_bytes frame memory operand ≡ bytes → Reaches source whole lands frame (here s1) (here s6) memory (Nothing whole frame) (branched (branch (is_byte number bytes)))
    reaches-branched None has = without
    reaches-branched (Some []) has = without
    reaches-branched (Some (byte ∷ [])) has = by-test byte has (eqb byte number) refl
    reaches-branched (Some (byte ∷ more ∷ rest)) has = without

    -- an operand that is out of bounds is a panic before that
    pub reaches-tested : (out : Bool) → mir_out frame.program.world frame.body (number_held memory frame.cells) operand ≡ out → (bytes : Option (List ℕ)) → mir_bytes frame memory operand ≡ bytes → Reaches source whole lands frame (here s1) (here s6) memory (Nothing whole frame) (within_bounds out (branched (branch (is_byte number bytes))))
    reaches-tested true tested bytes has = inr (ends-out parts whole frame grows is memory tested)
    reaches-tested false tested bytes has = reaches-branched bytes has

-- an operand that is tested, where it needs a layout
pub lays-tested : (source : Source) (s0 s1 new : Shape) (e child : ℕ) (operand : OperandKind) → LowersOperand source s0 s1 e operand → Grows s1 new → Contains (sized_part source (Operand e)) child → IsPlainWithin source child → HasLayouts source new → (f : ℕ) → NeedsLayout source child f → IsLaidOutNode source f
lays-tested source s0 s1 new e child operand lowered grows within plain layouts f needs =
    let is = sized_operand source (e ∷ []) child (Contains-append_left (sized_part source (Operand e)) [] child within) in
    let same : e ≡ child = one-of e child is.0 in
    lowered.laid (subst (λ x. is_truth (unadjusted source x) ≡ false) (sym same) is.1) (subst (IsPlainWithin source) (sym same) plain) (layouts-before source s1 new grows layouts) f (subst (λ x. NeedsLayout source x f) (sym same) needs)

-- what is evaluated into the place of the whole itself, and has its type
pub lays-into : (source : Source) (s0 s1 new : Shape) (e part child : ℕ) (c : Cell) → LowersInto source s0 s1 part c → Grows s1 new → part ≡ child → node_type source part ≡ own_type source e → IsLaidOut source (own_type source e) → IsPlainWithin source child → HasLayouts source new → (f : ℕ) → NeedsLayout source child f → IsLaidOutNode source f
lays-into source s0 s1 new e part child c lowered grows same typed laid plain layouts f needs =
    lowered.laid (subst (IsLaidOut source) (sym typed) laid) (subst (IsPlainWithin source) (sym same) plain) (layouts-before source s1 new grows layouts) f (subst (λ x. NeedsLayout source x f) (sym same) needs)
