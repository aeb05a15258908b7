-- A write to a part of a cell: what the cell holds afterwards, and what lies apart from it.
use Rattle.std.proofs.Common.{◌≡◌, ℕ, ◌+◌, ◌-◌, ◌≤◌, ◌⊎◌, inl, inr, Bool, true, false, cond, eqb, leb, List, [], ◌++◌, length, take, drop, Option, Some, None, option_and_then, option_map, refl, sym, ap, ◌∙◌, subst, arith}
use Rattle.std.proofs.Math.Seq.{take-take, take-append-add, drop-append-add, drop-append_seam}
use Rattle.std.proofs.lemmas.Bool.{cases_eq}
use Rattle.std.proofs.lemmas.List.{append_assoc, drop-take, length-append, length-drop, length-take, length-take-le, nil_from_length, take-append-drop}
use borrow.Author.Tests.{eqb-true, le-leb}
use Rattle.numbers.specs.Aggregates.{with_part as bytes_with_part}
use Rattle.mir.specs.Addresses.{moved}
use Rattle.mir.specs.Areas.{AreApart, part_of, with_part, some_bytes_at, with_some_bytes, with_bytes}
use Rattle.mir.specs.declared.address.Address.{Address}
use Rattle.mir.specs.declared.address.Address.TheVariants.{Stack, Heap, Invalid}
use Rattle.mir.specs.declared.address.Interval.{Interval}
use Rattle.mir.specs.Memory.{Memory, cell_bytes}
use Rattle.mir.specs.Places.{part_of_cell}
use Rattle.mir_mem.proofs.Parts.{bytes_at-some, part_of-inside, with_bytes-none, with_bytes-some}
use Rattle.mir_mem.proofs.Writing.{kept-some}
use Rattle.mir_lower.proofs.Stack.{can_write, length-cell_bytes, read-written}

-- bytes with others from a place on
abbrev replaced : List ℕ → ℕ → List ℕ → List ℕ
replaced area place bytes = take place area ++ (bytes ++ drop (place + length bytes) area)

length-replaced : (area bytes : List ℕ) (place : ℕ) → place + length bytes ≤ length area → length (replaced area place bytes) ≡ length area
length-replaced area bytes place within = simp (length-append, length-take, length-drop) (omega arith)

-- no bytes replace nothing
none-replaced : (area bytes : List ℕ) (place : ℕ) → bytes ≡ [] → replaced area place bytes ≡ area
none-replaced area bytes place none =
    let plain : place + 0 ≡ place = omega arith in
    ap (replaced area place) none ∙ ap (λ n. take place area ++ drop n area) plain ∙ take-append-drop place area

-- what stands in front of a place stays
front-stays : (front rest bytes : List ℕ) (offset : ℕ) → replaced (front ++ rest) (length front + offset) bytes ≡ front ++ replaced rest offset bytes
front-stays front rest bytes offset =
    let behind : length front + offset + length bytes ≡ length front + (offset + length bytes) = omega arith in
    ap (λ first. first ++ (bytes ++ drop (length front + offset + length bytes) (front ++ rest))) (take-append-add front rest offset)
    ∙ ap (λ n. front ++ take offset rest ++ (bytes ++ drop n (front ++ rest))) behind
    ∙ ap (λ last. front ++ take offset rest ++ (bytes ++ last)) (drop-append-add front rest (offset + length bytes))
    ∙ append_assoc front (take offset rest) (bytes ++ drop (offset + length bytes) rest)

-- the first of the bytes, beyond those that were replaced
first-replaced : (rest bytes : List ℕ) (offset more : ℕ) → offset ≤ length rest → take (offset + length bytes + more) (replaced rest offset bytes) ≡ replaced (take (offset + length bytes + more) rest) offset bytes
first-replaced rest bytes offset more within =
    let first = take offset rest in
    let last = drop (offset + length bytes) rest in
    let long : length first ≡ offset = length-take-le offset rest within in
    let split : offset + length bytes + more ≡ length first + (length bytes + more) = omega arith in
    ap (λ n. take n (first ++ (bytes ++ last))) split
    ∙ take-append-add first (bytes ++ last) (length bytes + more)
    ∙ ap (λ l. first ++ l) (take-append-add bytes last more)
    ∙ ap (λ l. l ++ (bytes ++ take more last)) (sym (take-take offset (offset + length bytes + more) rest (omega arith)))
    ∙ ap (λ l. take offset (take (offset + length bytes + more) rest) ++ (bytes ++ l)) (sym (drop-take (offset + length bytes) more rest))

behind-front : (front rest bytes : List ℕ) (offset size : ℕ) → offset + length bytes ≤ size → size ≤ length rest → take size (drop (length front) (replaced (front ++ rest) (length front + offset) bytes)) ≡ replaced (take size rest) offset bytes
behind-front front rest bytes offset size within fits =
    let more = size - (offset + length bytes) in
    let all : offset + length bytes + more ≡ size = omega arith in
    ap (λ area. take size (drop (length front) area)) (front-stays front rest bytes offset)
    ∙ ap (take size) (drop-append_seam front (replaced rest offset bytes))
    ∙ ap (λ n. take n (replaced rest offset bytes)) (sym all)
    ∙ first-replaced rest bytes offset more (omega arith)
    ∙ ap (λ n. replaced (take n rest) offset bytes) all

-- Bytes of a part of an area that are replaced there are replaced in the part.
part-replaced : (area bytes : List ℕ) (place size offset : ℕ) → place + size ≤ length area → offset + length bytes ≤ size → take size (drop place (replaced area (place + offset) bytes)) ≡ replaced (take size (drop place area)) offset bytes
part-replaced area bytes place size offset fits within =
    let front = take place area in
    let rest = drop place area in
    let long : length front ≡ place = length-take-le place area (omega arith) in
    let room : size ≤ length rest = (let n : length rest ≡ length area - place = length-drop place area in omega arith) in
    let there : take size (drop place (replaced (front ++ rest) (place + offset) bytes)) ≡ replaced (take size rest) offset bytes =
    subst (λ n. take size (drop n (replaced (front ++ rest) (n + offset) bytes)) ≡ replaced (take size rest) offset bytes) long (behind-front front rest bytes offset size within room) in
    ap (λ all. take size (drop place (replaced all (place + offset) bytes))) (sym (take-append-drop place area)) ∙ there

area-replaced : (area old bytes : List ℕ) (place size offset : ℕ) → part_of area place size ≡ Some old → offset + length bytes ≤ size → part_of (replaced area (place + offset) bytes) place size ≡ Some (replaced old offset bytes)
unfolding part_of
area-replaced area old bytes place size offset found within =
    let kept = kept-some (place + size) (length area) (take size (drop place area)) old found in
    let fits = kept.0 in
    let long = length-replaced area bytes (place + offset) (omega arith) in
    part_of-inside (replaced area (place + offset) bytes) place size (omega arith)
    ∙ ap Some (part-replaced area bytes place size offset fits within ∙ ap (λ given. replaced given offset bytes) (sym kept.1))

area-written : (area old bytes : List ℕ) (place size offset : ℕ) → part_of area place size ≡ Some old → offset + length bytes ≤ size → with_part area (place + offset) bytes ≡ Some (replaced area (place + offset) bytes)
unfolding part_of with_part
area-written area old bytes place size offset found within =
    let fits : place + size ≤ length area = (kept-some (place + size) (length area) (take size (drop place area)) old found).0 in
    let ends : leb (place + offset + length bytes) (length area) ≡ true = le-leb _ _ (omega arith) in
    ap (λ b. cond b (Some (replaced area (place + offset) bytes)) None) ends

some-written : (memory : Memory) (address : Address) (old bytes : List ℕ) (size offset : ℕ) → some_bytes_at memory address size ≡ Some old → offset + length bytes ≤ size → (later : Memory) × (with_some_bytes memory (moved address offset) bytes ≡ Some later) × (some_bytes_at later address size ≡ Some (replaced old offset bytes))
unfolding some_bytes_at with_some_bytes
some-written memory (Stack place) old bytes size offset found within = (
  record memory { stack = replaced memory.stack (place + offset) bytes },
  ap (option_map (λ (stack : List ℕ). record memory { stack = stack })) (area-written memory.stack old bytes place size offset found within),
  area-replaced memory.stack old bytes place size offset found within,
)
some-written memory (Heap place) old bytes size offset found within = (
  record memory { heap = replaced memory.heap (place + offset) bytes },
  ap (option_map (λ (heap : List ℕ). record memory { heap = heap })) (area-written memory.heap old bytes place size offset found within),
  area-replaced memory.heap old bytes place size offset found within,
)
some-written memory (Invalid n) old bytes size offset found within = absurd cc

-- bytes that stand in a cell's old ones from an offset on can be written there, and then the cell has them
part-written : (memory : Memory) (cell : Interval) (old bytes all : List ℕ) (offset : ℕ) → cell_bytes memory cell ≡ Some old → bytes_with_part offset bytes old ≡ Some all → (later : Memory) × (with_bytes memory (moved cell.addr offset) bytes ≡ Some later) × (cell_bytes later cell ≡ Some all)
unfolding bytes_with_part
part-written memory cell old bytes all offset found made = by_count (cases_eq (length bytes) 0)
  where
    kept : (offset + length bytes ≤ length old) × (all ≡ replaced old offset bytes)
    kept = kept-some (offset + length bytes) (length old) (replaced old offset bytes) all made

    by_count : (length bytes ≡ 0) ⊎ (length bytes ≡ 0 → ⊥) → (later : Memory) × (with_bytes memory (moved cell.addr offset) bytes ≡ Some later) × (cell_bytes later cell ≡ Some all)
    by_count (inl none) =
        let nil = nil_from_length bytes none in (
          memory,
          ap (with_bytes memory (moved cell.addr offset)) nil ∙ with_bytes-none memory (moved cell.addr offset),
          found ∙ ap Some (sym (kept.1 ∙ none-replaced old bytes offset nil)),
        )
    by_count (inr some) =
        let long = length-cell_bytes memory cell old found in
        let within : offset + length bytes ≤ cell.size = (let fits = kept.0 in omega arith) in
        let there = sym (bytes_at-some memory cell.addr cell.size (λ none. some (omega arith))) ∙ found in
        let later = some-written memory cell.addr old bytes cell.size offset there within in (
          later.0,
          with_bytes-some memory (moved cell.addr offset) bytes some ∙ later.1,
          bytes_at-some later.0 cell.addr cell.size (λ none. some (omega arith)) ∙ later.2 ∙ ap Some (sym kept.1),
        )

-- what lies apart from a cell lies apart from its parts
part-apart : (address beyond : Address) (size more offset count : ℕ) → offset + count ≤ size → AreApart (record { addr = address; size = size }) (record { addr = beyond; size = more }) → AreApart (record { addr = moved address offset; size = count }) (record { addr = beyond; size = more })
unfolding AreApart
part-apart (Stack first) (Stack second) size more offset count within apart = λ k from below second-from second-below. apart k (omega arith) (omega arith) second-from second-below
part-apart (Stack first) (Heap second) size more offset count within apart = tt
part-apart (Stack first) (Invalid n) size more offset count within apart = tt
part-apart (Heap first) (Stack second) size more offset count within apart = tt
part-apart (Heap first) (Heap second) size more offset count within apart = λ k from below second-from second-below. apart k (omega arith) (omega arith) second-from second-below
part-apart (Heap first) (Invalid n) size more offset count within apart = tt
part-apart (Invalid n) beyond size more offset count within apart = tt

-- Bytes can be written to an interval inside a cell, which then holds all of some others. What lies apart from the cell lies apart from the
-- interval.
pub record IsPatched (memory : Memory) (cell : Interval) (bytes all : List ℕ) (part : Interval) : Type 0 where
  pub later : Memory
  pub written : with_bytes memory part.addr bytes ≡ Some later
  pub long : length bytes ≡ part.size
  pub read : cell_bytes later cell ≡ Some all
  pub apart : (other : Interval) → AreApart cell other → AreApart part other

-- all of a cell, where as many bytes are written
pub whole-patched : (memory : Memory) (cell : Interval) (old bytes all : List ℕ) → cell_bytes memory cell ≡ Some old → cond (eqb (length bytes) (length old)) (Some bytes) None ≡ Some all → IsPatched memory cell bytes all cell
whole-patched memory cell old bytes all found fits = by_test (eqb (length bytes) (length old)) refl fits
  where
    by_test : (test : Bool) → eqb (length bytes) (length old) ≡ test → cond test (Some bytes) None ≡ Some all → IsPatched memory cell bytes all cell
    by_test true is same =
        let equal = eqb-true (length bytes) (length old) is in
        let long : length bytes ≡ cell.size = equal ∙ length-cell_bytes memory cell old found in
        let can = can_write memory cell old bytes found equal in
        record { later = can.0; written = can.1; long = long; read = read-written memory can.0 cell bytes can.1 long ∙ same; apart = λ other is-apart. is-apart }
    by_test false is same = absurd cc

-- where so many bytes from an offset on lie in a cell
abbrev lies-in : Interval → Option ℕ → Option ℕ → Option Interval
lies-in cell size offset = option_and_then (λ at. option_and_then (part_of_cell cell at) size) offset

part-within : (bytes old all : List ℕ) (offset : ℕ) → bytes_with_part offset bytes old ≡ Some all → offset + length bytes ≤ length old
unfolding bytes_with_part
part-within bytes old all offset made = (kept-some (offset + length bytes) (length old) (replaced old offset bytes) all made).0

-- so many bytes from an offset on, where as many are written
pub part-patched : (memory : Memory) (cell : Interval) (old bytes all : List ℕ) → cell_bytes memory cell ≡ Some old → (size offset : Option ℕ) →
    option_and_then (λ at. option_and_then (λ count. cond (eqb (length bytes) count) (bytes_with_part at bytes old) None) size) offset ≡ Some all →
    (part : Interval) × (option_and_then (λ at. option_and_then (part_of_cell cell at) size) offset ≡ Some part) × IsPatched memory cell bytes all part
part-patched memory cell old bytes all found (Some count) (Some at) fits = by_test (eqb (length bytes) count) refl fits
  where
    by_test : (test : Bool) → eqb (length bytes) count ≡ test → cond test (bytes_with_part at bytes old) None ≡ Some all → (part : Interval) × (lies-in cell (Some count) (Some at) ≡ Some part) × IsPatched memory cell bytes all part
    by_test true is same =
        let equal = eqb-true (length bytes) count is in
        let inside : at + count ≤ cell.size = (let fits = part-within bytes old all at same in let long = length-cell_bytes memory cell old found in omega arith) in
        let part : Interval = record { addr = moved cell.addr at; size = count } in
        let written = part-written memory cell old bytes all at found same in (
          part,
          ap (λ b. cond b (Some part) None) (le-leb (at + count) cell.size inside),
          record { later = written.0; written = written.1; long = equal; read = written.2; apart = λ other is-apart. part-apart cell.addr other.addr cell.size other.size at count inside is-apart },
        )
    by_test false is same = absurd cc
part-patched memory cell old bytes all found None (Some at) fits = absurd cc
part-patched memory cell old bytes all found size None fits = absurd cc
