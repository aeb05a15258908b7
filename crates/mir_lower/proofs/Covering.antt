-- What the end of a call counts: at least what entering its callee does.
use Rattle.std.proofs.Common.{◌≡◌, ℕ, ◌⊎◌, ⊎_elim, inl, inr, Bool, true, false, cond, List, length, refl, sym, subst, arith, eqb}
use Rattle.source_meaning.specs.Ends.{Cost, no_cost, turns_alone, one_level_more, plus, End, Go, Jumps, Faults, NoLayout, Stuck, More, after, then_do}
use Rattle.source_meaning.specs.Entering.{entering as entering_cost}
use Rattle.source_meaning.specs.Meaning.{put, call_returned, call_diverged, unfit_meaning}
use Rattle.source_meaning.specs.Source.{Source, Path, Store, with_cell_bytes}
use Rattle.mir_lower.proofs.Stopping.{IsPart, first-part}

by_test : {A : Type 0} (fits not : A) (b : Bool) → (cond b fits not ≡ fits) ⊎ (cond b fits not ≡ not)
by_test fits not true = inl refl
by_test fits not false = inr refl

-- a write's bytes fit their cell, or the write is stuck
pub put-fits : (store : Store) (path : Path) (bytes : List ℕ) → (put store path bytes ≡ Go tt (with_cell_bytes store path.cell bytes) no_cost) ⊎ (put store path bytes ≡ Stuck)
unfolding put
put-fits store path bytes = by_test (Go tt (with_cell_bytes store path.cell bytes) no_cost) Stuck (eqb (length bytes) (length (store path.cell)))

-- an end counts at least a cost, or is stuck
abbrev pub Covers : {A : Type 0} → Cost → End A → Type 0
Covers least (Go value store cost) = IsPart least cost
Covers least (Jumps to store cost) = IsPart least cost
Covers least (Faults fault cost) = IsPart least cost
Covers least Stuck = Unit {0}
Covers least (More cost) = IsPart least cost

part-trans : (few some many : Cost) → IsPart few some → IsPart some many → IsPart few many
part-trans few some many one two =
    let turns = one.turns in
    let bytes = one.bytes in
    let nesting = one.nesting in
    let turns' = two.turns in
    let bytes' = two.bytes in
    let nesting' = two.nesting in
    record { turns = omega arith; bytes = omega arith; nesting = omega arith; defined = λ is. two.defined (one.defined is) }

-- an end counts what stands before it
pub covers-after : {A : Type 0} (cost : Cost) (end : End A) → Covers cost (after cost end)
unfolding after
covers-after cost (Go value store then) = first-part cost then
covers-after cost (Jumps to store then) = first-part cost then
covers-after cost (Faults fault then) = first-part cost then
covers-after cost Stuck = tt
covers-after cost (More then) = first-part cost then

-- so does a callee that can't be entered
pub covers-unfit : (called : Source) (laid : Bool) → Covers (entering_cost called) (unfit_meaning laid called)
covers-unfit called true = tt
covers-unfit called false = covers-after (entering_cost called) (Faults NoLayout no_cost)

-- the end of a call counts what that of its callee's body does
pub covers-on : (least : Cost) (path : Path) (store : Store) (end : End (List ℕ)) → Covers least end → Covers least (call_returned path store end)
unfolding after then_do
covers-on least path store (Go value left cost) covers =
    ⊎_elim
    (λ fits. subst (λ (written : End (Unit {0})). Covers least (after cost (then_do written (λ _ last. Go tt last (turns_alone 1))))) (sym fits)
    (part-trans least cost (plus cost (plus no_cost (turns_alone 1))) covers (first-part cost (plus no_cost (turns_alone 1)))))
    (λ stuck. subst (λ (written : End (Unit {0})). Covers least (after cost (then_do written (λ _ last. Go tt last (turns_alone 1))))) (sym stuck) tt)
    (put-fits store path value)
covers-on least path store (Jumps to left cost) covers = tt
covers-on least path store (Faults fault cost) covers = covers
covers-on least path store Stuck covers = tt
covers-on least path store (More cost) covers = covers

-- and where the callee must not return, one level of nesting more
deeper-part : (least cost : Cost) → IsPart least cost → IsPart (one_level_more least) (one_level_more cost)
deeper-part least cost part =
    let nesting = part.nesting in
    record { turns = part.turns; bytes = part.bytes; nesting = omega arith; defined = part.defined }

pub covers-astray : (least : Cost) (end : End (List ℕ)) → Covers least end → Covers (one_level_more least) (call_diverged end)
covers-astray least (Go value left cost) covers = deeper-part least cost covers
covers-astray least (Jumps to left cost) covers = tt
covers-astray least (Faults fault cost) covers = deeper-part least cost covers
covers-astray least Stuck covers = tt
covers-astray least (More cost) covers = deeper-part least cost covers
