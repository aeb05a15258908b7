-- A run that stops at a call does so within what is counted from a point before, and within more.
use Rattle.std.proofs.Common.{◌≡◌, ℕ, ◌+◌, ◌<◌, ◌≤◌, ⊎_elim, inl, inr, Bool, true, false, refl, sym, ap, ◌∙◌, arith}
use Rattle.std.specs.Prelude.{◌&&◌}
use Rattle.types.specs.declared.ids.FunctionId.{FunctionId}
use Rattle.mir.specs.declared.answers.Query.{Query}
use Rattle.mir.specs.Areas.{taken}
use Rattle.mir.specs.declared.errors.MirEvalError.{MirEvalError}
use Rattle.mir.specs.declared.errors.MirEvalError as error
use Rattle.mir.specs.Memory.{Memory}
use Rattle.mir.specs.Run.{Program, Frame, Ending, Returned, Faulted, Asked, Ended, levels_over}
use Rattle.world.specs.declared.database.HirDatabase.{HirDatabase}
use Rattle.source_meaning.specs.Calls.{source_of}
use Rattle.source_meaning.specs.Ends.{Cost, plus}
use Rattle.source_meaning.specs.Source.{Source}
use Rattle.source_meaning.specs.Valid.{Reaches, at_once, through}
use Rattle.source_meaning.proofs.Calls.{called_world}
use Rattle.mir_lower.specs.Runs.{EndsAfter, HasGrown}
use Rattle.mir_lower.specs.Stops.{OfReached, LacksLayout, LacksSize, LacksRoom, ReachesCall, IsAsked, WasRefused, IsCut, StopsWithin}

-- an end of another kind
pub ends-as : (turns : ℕ) (some other : Ending → Type 0) (run : ℕ → Ended) → ((ending : Ending) → some ending → other ending) → EndsAfter turns some run → EndsAfter turns other run
ends-as turns some other run each after =
    record { with_more = λ more. let end = after.with_more more in (end.0, each end.0 end.1, end.2); with_fewer = after.with_fewer }

-- what a source reaches is a source of its world
pub reached-world : {source reached : Source} → Reaches source reached → reached.world ≡ source.world
reached-world at_once = refl
reached-world (through {source = source} {called = called} calls on) = reached-world on ∙ called_world source calls.e calls.callee called calls.enters

-- what is undefined only together with something defined is defined
pub defined-by : (few many : Bool) → (few ≡ false → many ≡ false) → many ≡ true → few ≡ true
defined-by true many undefined is = refl
defined-by false many undefined is = let none = undefined refl in let both : true ≡ false = sym is ∙ none in absurd cc

-- From a source on another is reached. What is counted from one moment is counted from another too, where other levels are held and other
-- bytes are taken.
module _ (called source : Source) (onward : (reached : Source) → Reaches called reached → Reaches source reached) (program : Program) (levels : ℕ) (memory : Memory) (few : Cost) (more : ℕ) (other : Memory) (many : Cost)
    (defined : few.defined ≡ false → many.defined ≡ false)
    (bytes : memory.limit < taken memory.stack + few.bytes → other.limit < taken other.stack + many.bytes)
    (nesting : levels + few.nesting ≤ more + many.nesting) where
  of-reached : (Holds : Source → Type 0) → OfReached called Holds → OfReached source Holds
  of-reached Holds of = (of.0, onward of.0 of.1, of.2)

  pub lacks-onward : (e : MirEvalError) → LacksRoom called program levels memory few e → LacksRoom source program more other many e
  lacks-onward (error.LayoutError cause ty) lacks = (lacks.0, of-reached (λ reached. LacksLayout reached ty) lacks.1, defined lacks.2)
  lacks-onward (error.TypeIsUnsized ty text) lacks = (of-reached (λ reached. LacksSize reached ty) lacks.0, defined lacks.1)
  lacks-onward error.MemoryLimitExceeded lacks = bytes lacks
  lacks-onward error.StackOverflow lacks = omega arith
  lacks-onward _ lacks = absurd lacks

  call-onward : (id : FunctionId) → ReachesCall called id → ReachesCall source id
  call-onward id call = record { caller = call.caller; reached = onward call.caller call.reached; makes = call.makes }

  refused-onward : (e : MirEvalError) → WasRefused called program few e → WasRefused source program many e
  refused-onward e was =
      record {
        id = was.id;
        call = call-onward was.id was.call;
        refusal = was.refusal;
        told = was.told;
        is = was.is;
        counted = λ callee has_body counts.
            let in_world : source_of called.world was.id ≡ source_of source.world was.id = ap (λ (w : HirDatabase). source_of w was.id) (reached-world (onward called at_once)) in
            was.counted callee (in_world ∙ has_body) (defined-by few.defined many.defined defined counts);
      }

  asked-onward : (q : Query) → IsAsked called q → IsAsked source q
  asked-onward q asked = record { id = asked.id; call = call-onward asked.id asked.call; is = asked.is }

  pub cut-onward : (ending : Ending) → IsCut called program levels memory few ending → IsCut source program more other many ending
  cut-onward (Returned bytes) cut = absurd cut
  cut-onward (Faulted e trail) cut = ⊎_elim (λ refused. inl (refused-onward e refused)) (λ lacks. inr (lacks-onward e lacks)) cut
  cut-onward (Asked q frame memory call) cut = asked-onward q cut

-- a cost is part of another
pub record IsPart (few many : Cost) : Type 0 where
  pub turns : few.turns ≤ many.turns
  pub bytes : few.bytes ≤ many.bytes
  pub nesting : few.nesting ≤ many.nesting
  pub defined : few.defined ≡ false → many.defined ≡ false

undefined-first : (a b : Bool) → a ≡ false → (a && b) ≡ false
undefined-first false b is = refl
undefined-first true b is = absurd cc

undefined-second : (a b : Bool) → b ≡ false → (a && b) ≡ false
undefined-second false b is = refl
undefined-second true b is = is

-- of one cost after another both are parts
pub first-part : (first second : Cost) → IsPart first (plus first second)
unfolding plus
first-part first second = record { turns = omega arith; bytes = omega arith; nesting = omega arith; defined = undefined-first first.defined second.defined }

pub second-part : (first second : Cost) → IsPart second (plus first second)
unfolding plus
second-part first second = record { turns = omega arith; bytes = omega arith; nesting = omega arith; defined = undefined-second first.defined second.defined }

-- a run that stops at a call within some cost does so within more
pub stops-within : (source : Source) (program : Program) (levels : ℕ) (memory : Memory) (few many : Cost) (run : ℕ → Ended) → IsPart few many → StopsWithin source program levels memory few run → StopsWithin source program levels memory many run
stops-within source program levels memory few many run part stops =
    let turns = part.turns in
    let bytes = part.bytes in
    let nesting = part.nesting in
    let within = stops.within in
    record {
      call = stops.call;
      blocks = stops.blocks;
      within = omega arith;
      ends = ends-as stops.blocks (IsCut source program levels memory few) (IsCut source program levels memory many) run
          (cut-onward source source (λ reached on. on) program levels memory few levels memory many part.defined (λ passes. omega arith) (omega arith)) stops.ends;
    }

-- one that does so from a point on does so from a point before, from which it came to that one
pub cut-before : (source : Source) (frame : Frame) (memory middle : Memory) (first second : Cost) → HasGrown first.bytes memory middle → (ending : Ending) →
    IsCut source frame.program (levels_over frame.below) middle second ending → IsCut source frame.program (levels_over frame.below) memory (plus first second) ending
unfolding plus
cut-before source frame memory middle first second grown =
    let stack = grown.stack in
    let limit = grown.limit in
    cut-onward source source (λ reached on. on) frame.program (levels_over frame.below) middle second (levels_over frame.below) memory (plus first second)
    (undefined-second first.defined second.defined) (λ passes. omega arith) (omega arith)
