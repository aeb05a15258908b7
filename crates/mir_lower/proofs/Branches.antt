-- Code that parts into two branches and joins again: what its graphs keep, and which points its runs reach.
use Rattle.std.proofs.Common.{◌≡◌, ◌≢◌, ℕ, ◌<◌, ◌≤◌, ⊎_elim, true, List, ◌++◌, length, Some, sym, ap, ◌∙◌, subst, arith, append_assoc}
use Rattle.mir.specs.declared.operand.OperandKind.{OperandKind}
use Rattle.mir.specs.Memory.{Memory, number_held}
use Rattle.mir.specs.Run.{Frame, operand_bytes, operand_out, out_of_bounds}
use Rattle.numbers.specs.Bytes.{value_of}
use Rattle.source_meaning.specs.Source.{Source, Cell}
use Rattle.mir_lower.specs.Branches.{IsReserved, IsForked, HasGoneOn}
use Rattle.mir_lower.specs.Does.{here, IsFrameOf}
use Rattle.mir_graph.specs.Graph.{Shape, no_statements}
use Rattle.mir_lower.specs.Growth.{Grows, Spares}
use Rattle.mir_lower.specs.Lowered.{Keeps}
use Rattle.mir_lower.specs.Runs.{Point, run_from, Comes, EndsAfter, IsFault}
use Rattle.mir_lower.proofs.Growing.{grows-trans}
use Rattle.mir_graph.proofs.Lists.{slice_get_below}
use Rattle.mir_lower.proofs.Sparing.{spares-trans, spares-entered}

-- a reserved block is one of the graph's blocks
pub reserved-below : {s : Shape} {block : ℕ} → IsReserved s block → block < length s.blocks
reserved-below {s = s} {block = block} reserved = slice_get_below s.blocks block no_statements reserved.empty

-- it stays reserved while code is added
pub reserved-spared : {old new : Shape} {block : ℕ} → Spares old new → IsReserved old block → IsReserved new block
reserved-spared {old = old} {new = new} {block = block} spares reserved =
    let within : block < length old.blocks = reserved-below reserved in
    record {
      empty = spares.others block reserved.apart within ∙ reserved.empty;
      apart = λ same. ⊎_elim (λ stays. reserved.apart (same ∙ stays)) (λ moved. absurd (omega arith)) spares.moves;
    }

-- and where another reserved block becomes the current one
pub reserved-gone : {source : Source} {old new : Shape} {to next block : ℕ} → HasGoneOn source old new to next → block ≢ next → IsReserved old block → IsReserved new block
reserved-gone {old = old} {new = new} {block = block} gone differ reserved =
    record { empty = gone.others block reserved.apart ∙ reserved.empty; apart = λ same. differ (same ∙ gone.current) }

-- where a block becomes the current one that a graph did not have, what that graph had is left as it was
pub spares-gone : {source : Source} {first old new : Shape} {to next : ℕ} → Spares first old → HasGoneOn source old new to next → length first.blocks ≤ next → Spares first new
spares-gone {first = first} {old = old} {new = new} {next = next} spares gone behind =
    spares-entered first old new spares gone.others gone.many gone.targets (let is = gone.current in omega arith)

-- The test's operand, the switch, the first branch, its way to the join, the second branch, and its way to the join.
pub record IsBranched (source : Source) (s0 s1 s2 s3 s4 s5 s6 : Shape) (operand : OperandKind) (number other join : ℕ) (tested first second : List Cell) : Type 0 where
  pub test : Keeps source s0 s1 tested
  pub forked : IsForked source s1 s2 operand number other join
  pub one : Keeps source s2 s3 first
  pub one_ended : HasGoneOn source s3 s4 join other
  pub two : Keeps source s4 s5 second
  pub two_ended : HasGoneOn source s5 s6 join join

-- the second branch's block is reserved up to the first branch's end
pub other-reserved : {source : Source} {s1 s2 s3 : Shape} {operand : OperandKind} {number other join : ℕ} {first : List Cell} → IsForked source s1 s2 operand number other join → Keeps source s2 s3 first → IsReserved s3 other
other-reserved forked one = reserved-spared one.spares forked.other_reserved

-- the join's block is reserved up to the second branch's end
pub join-reserved : {source : Source} {s1 s2 s3 s4 s5 : Shape} {operand : OperandKind} {number other join : ℕ} {first second : List Cell} → IsForked source s1 s2 operand number other join → Keeps source s2 s3 first → HasGoneOn source s3 s4 join other → Keeps source s4 s5 second → IsReserved s5 join
join-reserved forked one gone two =
    reserved-spared two.spares (reserved-gone gone (λ same. forked.distinct (sym same)) (reserved-spared one.spares forked.join_reserved))

module _ {source : Source} {s0 s1 s2 s3 s4 s5 s6 : Shape} {operand : OperandKind} {number other join : ℕ} {tested first second : List Cell} (branched : IsBranched source s0 s1 s2 s3 s4 s5 s6 operand number other join tested first second) where
  -- each graph on the way grew to the last one
  pub grows5 : Grows s5 s6
  grows5 = branched.two_ended.grows

  pub grows4 : Grows s4 s6
  grows4 = grows-trans s4 s5 s6 branched.two.grows grows5

  pub grows3 : Grows s3 s6
  grows3 = grows-trans s3 s4 s6 branched.one_ended.grows grows4

  pub grows2 : Grows s2 s6
  grows2 = grows-trans s2 s3 s6 branched.one.grows grows3

  pub grows1 : Grows s1 s6
  grows1 = grows-trans s1 s2 s6 branched.forked.grows grows2

  pub grows0 : Grows s0 s6
  grows0 = grows-trans s0 s1 s6 branched.test.grows grows1

  pub branched-spares : Spares s0 s6
  branched-spares =
      let before : length s0.blocks ≤ length s1.blocks = branched.test.spares.many in
      let other-new : length s0.blocks ≤ other = (let new = branched.forked.other_new in omega arith) in
      let join-new : length s0.blocks ≤ join = (let new = branched.forked.join_new in omega arith) in
      let to3 : Spares s0 s3 = spares-trans s0 s1 s3 branched.test.spares (spares-trans s1 s2 s3 branched.forked.spares branched.one.spares) in
      let to4 : Spares s0 s4 = spares-gone to3 branched.one_ended other-new in
      spares-gone (spares-trans s0 s4 s5 to4 branched.two.spares) branched.two_ended join-new

  pub branched-scope : s6.scope ≡ s0.scope ++ (tested ++ (first ++ second))
  branched-scope =
      branched.two_ended.scope ∙ branched.two.scope
      ∙ ap (λ scope. scope ++ second) (branched.one_ended.scope ∙ branched.one.scope ∙ ap (λ scope. scope ++ first) (branched.forked.scope ∙ branched.test.scope))
      ∙ append_assoc ((s0.scope ++ tested)) first second
      ∙ append_assoc s0.scope tested (first ++ second)

  -- the whole keeps the graph, and gives what the three parts give
  pub branched-keeps : Keeps source s0 s6 (tested ++ (first ++ second))
  branched-keeps =
      record {
        grows = grows0;
        spares = branched-spares;
        sound = branched.two_ended.sound;
        «open» = branched.two_ended.«open»;
        scope = branched-scope;
      }

  -- In each graph that the last one grows to:
  module _ (whole : Shape) (frame : Frame) (grows : Grows s6 whole) (is : IsFrameOf whole frame) (memory : Memory) where
    -- the switch leads to the first branch where the operand is the number,
    pub comes-first : (bytes : List ℕ) → operand_bytes frame memory operand ≡ Some bytes → length bytes ≤ 16 → value_of bytes ≡ number → Comes frame 1 0 (here s1) memory (here s2) memory
    comes-first bytes found short same = branched.forked.taken whole frame (grows-trans s2 s6 whole grows2 grows) is memory bytes found short same

    -- and else to the second, or ends the run where the operand is out of bounds;
    pub comes-second : (bytes : List ℕ) → operand_bytes frame memory operand ≡ Some bytes → length bytes ≤ 16 → value_of bytes ≢ number → Comes frame 1 0 (here s1) memory (here s4) memory
    comes-second bytes found short differ =
        subst (λ (p : Point). Comes frame 1 0 (here s1) memory p memory) (sym branched.one_ended.begins)
        (branched.forked.left whole frame (grows-trans s2 s6 whole grows2 grows) is memory bytes found short differ)

    pub ends-out : operand_out frame.program.world frame.body (number_held memory frame.cells) operand ≡ true → EndsAfter 0 (IsFault out_of_bounds) (run_from frame memory (here s1))
    ends-out out = branched.forked.out whole frame (grows-trans s2 s6 whole grows2 grows) is memory out

    -- from the end of either branch the run reaches the join.
    pub first-joins : Comes frame 1 0 (here s3) memory (here s6) memory
    first-joins =
        subst (λ (p : Point). Comes frame 1 0 (here s3) memory p memory) (sym branched.two_ended.begins)
        (branched.one_ended.comes whole frame (grows-trans s4 s6 whole grows4 grows) is memory)

    pub second-joins : Comes frame 1 0 (here s5) memory (here s6) memory
    second-joins =
        subst (λ (p : Point). Comes frame 1 0 (here s5) memory p memory) (sym branched.two_ended.begins)
        (branched.two_ended.comes whole frame grows is memory)
