-- The memory after growth: new cells of the stack, and new blocks of the heap.
use Rattle.std.proofs.Common.{◌≡◌, ℕ, zero, suc, ◌+◌, ◌-◌, ◌*◌, ◌/◌, ◌%◌, ◌<◌, ◌≤◌, ◌⊎◌, inl, inr, Bool, true, false, cond, List, [], ◌∷◌, ◌++◌, length, take, drop, replicate, Option, Some, None, Ok, Err, IsOk, IsSome, IsTrue, All, refl, sym, ◌∙◌, ap, arith}
use Rattle.std.specs.List.{AllZip, AllPairs}
use Rattle.std.specs.Int.{next_multiple_of}
use Rattle.std.specs.Option.{ok_or}
use Rattle.std.proofs.Math.Nat.{mod-lt, mod-eq_of_lt, mod_self, sub-zero}
use Rattle.std.proofs.lemmas.Bool.{cases_eq}
use Rattle.std.proofs.lemmas.List.{length-append, length-replicate, take-append-le, drop-append-le, drop_at, drop-drop, drop-replicate, take-replicate, length-drop}
use Rattle.std.proofs.lemmas.List.Elements.{All-nil, All-cons, All-head, All-tail, All-weaker}
use Rattle.std.proofs.lemmas.List.Kept.{AllPairs-cons}
use Rattle.std.proofs.lemmas.Nat.{div-add-mod'}
use lib.Count.{ones, ones_in}
use Rattle.world.specs.Checked.{IsAlignment}
use Rattle.mir.specs.declared.address.Address.{Address}
use Rattle.mir.specs.declared.address.Address.TheVariants.{Stack, Heap, Invalid}
use Rattle.mir.specs.declared.address.CellSize.{CellSize}
use Rattle.mir.specs.declared.address.Interval.{Interval}
use Rattle.mir.specs.declared.mem_fault.MemFault.TheVariants.{MemoryLimitExceeded}
use Rattle.mir.specs.Areas.{Areas, AreApart, AreRangesApart, part_of, bytes_at, some_bytes_at, reading, grown_to, start_behind, end_behind, cells_behind, length_behind, after_push, is_heap_align, after_block, after_allocation, bad_align, bad_read}
use Rattle.mir_mem.specs.MemoryLaws.{IsNewCell, IsNewBlock}
use Rattle.mir_mem.proofs.Bounds.{positive, length_behind-ge}
use Rattle.mir_mem.proofs.Parts.{part_of-inside, bytes_at-some, inside-stack, inside-heap, reading-some}
use Rattle.mir_mem.proofs.Writing.{kept-ok, kept-some, reading-is, reading-none, reading-stack, reading-heap}

-- the first multiple from a number on
multiple_of : (x y : ℕ) → 0 < y → (k : ℕ) × (next_multiple_of x y ≡ k * y)
multiple_of x y h = by_rest (cases_eq (x % y) 0)
  where
    by_rest : (x % y ≡ 0) ⊎ (x % y ≡ 0 → ⊥) → (k : ℕ) × (next_multiple_of x y ≡ k * y)
    by_rest (inl e) =
        let none : (y - x % y) % y ≡ 0 = ap (λ k. (y - k) % y) e ∙ ap (λ k. k % y) (sub-zero y) ∙ mod_self y in
        (x / y, omega (arith, div-add-mod' x y))
    by_rest (inr n) =
        let rest : x % y < y = mod-lt x h in
        let some : (y - x % y) % y ≡ y - x % y = mod-eq_of_lt (omega arith) in
        let sum : x + (y - x % y) ≡ (x / y + 1) * y = omega (arith, div-add-mod' x y) in
        (x / y + 1, ap (λ k. x + k) some ∙ sum)

-- parts of a grown area
grown-old : (area bytes : List ℕ) (end place size : ℕ) → part_of area place size ≡ Some bytes → part_of (grown_to end area) place size ≡ Some bytes
unfolding part_of
grown-old area bytes end place size e =
    let kept = kept-some (place + size) (length area) _ bytes e in
    let fits : place + size ≤ length area = kept.0 in
    let long : length (grown_to end area) ≡ length area + (end - length area) = simp (length-append, length-replicate) (refl) in
    let rest : drop place (grown_to end area) ≡ drop place area ++ replicate (end - length area) 0 = drop-append-le place area (replicate (end - length area) 0) (omega arith) in
    let front : take size (drop place area ++ replicate (end - length area) 0) ≡ take size (drop place area) = take-append-le size (drop place area) (replicate (end - length area) 0) (simp length-drop (omega arith)) in
    part_of-inside (grown_to end area) place size (omega arith) ∙ ap Some (ap (take size) rest ∙ front ∙ sym kept.1)

grown-new : (area : List ℕ) (end place size : ℕ) → length area ≤ place → place + size ≤ end → part_of (grown_to end area) place size ≡ Some (replicate size 0)
grown-new area end place size behind fits =
    let long : length (grown_to end area) ≡ length area + (end - length area) = simp (length-append, length-replicate) (refl) in
    let more : length area + (place - length area) ≡ place = omega arith in
    let zeros : drop (length area) (grown_to end area) ≡ replicate (end - length area) 0 = drop_at area (replicate (end - length area) 0) (length area) refl in
    let rest : drop place (grown_to end area) ≡ replicate (end - length area - (place - length area)) 0 =
    ap (λ n. drop n (grown_to end area)) (sym more) ∙ sym (drop-drop (place - length area) (length area) (grown_to end area)) ∙ ap (drop (place - length area)) zeros ∙ drop-replicate (place - length area) (end - length area) 0 in
    part_of-inside (grown_to end area) place size (omega arith) ∙ ap Some (ap (take size) rest ∙ take-replicate size (end - length area - (place - length area)) 0 (omega arith))

-- reading older bytes
some-old : (before after : Areas) (address : Address) (size : ℕ) (bytes : List ℕ) →
    ((place : ℕ) → part_of before.stack place size ≡ Some bytes → part_of after.stack place size ≡ Some bytes) →
    ((place : ℕ) → part_of before.heap place size ≡ Some bytes → part_of after.heap place size ≡ Some bytes) →
    some_bytes_at before address size ≡ Some bytes → some_bytes_at after address size ≡ Some bytes
unfolding some_bytes_at
some-old before after (Stack place) size bytes stack heap e = stack place e
some-old before after (Heap place) size bytes stack heap e = heap place e
some-old before after (Invalid n) size bytes stack heap e = cc

reading-old : (before after : Areas) (address : Address) (size : ℕ) (bytes : List ℕ) →
    ((place : ℕ) → part_of before.stack place size ≡ Some bytes → part_of after.stack place size ≡ Some bytes) →
    ((place : ℕ) → part_of before.heap place size ≡ Some bytes → part_of after.heap place size ≡ Some bytes) →
    reading before address size ≡ Ok bytes → reading after address size ≡ Ok bytes
reading-old before after address size bytes stack heap e = by_size (cases_eq size 0)
  where
    by_size : (size ≡ 0) ⊎ (size ≡ 0 → ⊥) → reading after address size ≡ Ok bytes
    by_size (inl none) = reading-none after address size none ∙ sym (reading-none before address size none) ∙ e
    by_size (inr some) =
        let there = sym (bytes_at-some before address size some) ∙ reading-is before address size bytes e in
        reading-some after address size bytes (bytes_at-some after address size some ∙ some-old before after address size bytes stack heap there)

-- the stack after a push
record IsPush (before after : Areas) (cells : List CellSize) (placed : List Interval) : Type 0 where
  intervals : placed ≡ cells_behind (length before.stack) cells
  memory : after ≡ record before { stack = grown_to (length_behind (length before.stack) cells) before.stack }

is_push : (before after : Areas) (cells : List CellSize) (placed : List Interval) → after_push before cells ≡ Ok (placed, after) → IsPush before after cells placed
unfolding after_push
is_push before after cells placed e =
    let kept = (kept-ok (length_behind (length before.stack) cells - 1) before.limit _ (placed, after) MemoryLimitExceeded e).1 in
    record { intervals = ap (λ pair. pair.0) kept; memory = ap (λ pair. pair.1) kept }

pub cells_keep : (before after : Areas) (cells : List CellSize) (placed : List Interval) (old : Interval) (bytes : List ℕ) →
    after_push before cells ≡ Ok (placed, after) → reading before old.addr old.size ≡ Ok bytes → reading after old.addr old.size ≡ Ok bytes
cells_keep before after cells placed old bytes e there =
    let push = is_push before after cells placed e in
    reading-old before after old.addr old.size bytes
    (λ place h. ap (λ areas. part_of areas.stack place old.size) push.memory ∙ grown-old before.stack bytes _ place old.size h)
    (λ place h. ap (λ areas. part_of areas.heap place old.size) push.memory ∙ h)
    there

-- cells that are placed behind the stack
zip_cells : (before after : Areas) (length' end : ℕ) (cells : List CellSize) → after.stack ≡ grown_to length' before.stack → length before.stack ≤ end → length_behind end cells ≤ length' →
    All (λ cell. IsAlignment cell.align) cells → AllZip (IsNewCell before after) cells (cells_behind end cells)
unfolding cells_behind length_behind
zip_cells before after length' end [] grown behind fits aligned = tt
zip_cells before after length' end (cell ∷ cells) grown behind fits aligned =
    let align = positive cell.align (All-head (λ c. IsAlignment c.align) cell cells aligned) in
    let multiple = multiple_of end cell.align align in
    let more = length_behind-ge (end_behind end cell) cells in
    let there : part_of after.stack (start_behind end cell) cell.size ≡ Some (replicate cell.size 0) =
    ap (λ stack. part_of stack (start_behind end cell) cell.size) grown ∙ grown-new before.stack length' (start_behind end cell) cell.size (omega arith) (omega arith) in (
      record {
        place = start_behind end cell;
        address = refl;
        behind = omega arith;
        aligned = multiple;
        size = refl;
        zero = reading-stack after (Stack (start_behind end cell)) (start_behind end cell) cell.size (replicate cell.size 0) refl there;
      },
      zip_cells before after length' (end_behind end cell) cells grown (omega arith) fits (All-tail (λ c. IsAlignment c.align) cell cells aligned),
    )

pub cells_new : (before after : Areas) (cells : List CellSize) (placed : List Interval) → All (λ cell. IsAlignment cell.align) cells →
    after_push before cells ≡ Ok (placed, after) → AllZip (IsNewCell before after) cells placed
cells_new before after cells placed aligned e =
    let push = is_push before after cells placed e in
    let zipped = zip_cells before after (length_behind (length before.stack) cells) (length before.stack) cells (ap (λ areas. areas.stack) push.memory) (omega arith) (omega arith) aligned in
    rw push.intervals zipped

-- an interval of the stack from an offset on
record IsFrom (start : ℕ) (interval : Interval) : Type 0 where
  place : ℕ
  address : interval.addr ≡ Stack place
  from : start ≤ place

from_later : (first start : ℕ) (interval : Interval) → first ≤ start → IsFrom start interval → IsFrom first interval
from_later first start interval h is = let from = is.from in record { place = is.place; address = is.address; from = omega arith }

cells_from : (end : ℕ) (cells : List CellSize) → All (IsFrom end) (cells_behind end cells)
unfolding cells_behind
cells_from end [] = All-nil (IsFrom end)
cells_from end (cell ∷ cells) =
    All-cons (IsFrom end) _ _ record { place = start_behind end cell; address = refl; from = omega arith }
    (All-weaker (IsFrom (end_behind end cell)) (IsFrom end) (λ interval is. from_later end (end_behind end cell) interval (omega arith) is) _ (cells_from (end_behind end cell) cells))

ranges_apart : (first size second more : ℕ) → first + size ≤ second → AreRangesApart first size second more
ranges_apart first size second more h k from below from' below' = omega arith

apart_from : (place size start : ℕ) (interval : Interval) → place + size ≤ start → IsFrom start interval → AreApart record { addr = Stack place; size = size } interval
unfolding AreApart
apart_from place size start interval h is =
    let from = is.from in
    rw is.address (ranges_apart place size is.place interval.size (omega arith))

apart_cells : (end : ℕ) (cells : List CellSize) → AllPairs AreApart (cells_behind end cells)
unfolding cells_behind
apart_cells end [] = λ i j d before within. absurd (omega arith)
apart_cells end (cell ∷ cells) =
    AllPairs-cons AreApart _ _
    (All-weaker (IsFrom (end_behind end cell)) (AreApart record { addr = Stack (start_behind end cell); size = cell.size })
    (λ interval is. apart_from (start_behind end cell) cell.size (end_behind end cell) interval (omega arith) is) _ (cells_from (end_behind end cell) cells))
    (apart_cells (end_behind end cell) cells)

pub cells_apart : (before after : Areas) (cells : List CellSize) (placed : List Interval) → after_push before cells ≡ Ok (placed, after) → AllPairs AreApart placed
cells_apart before after cells placed e = rw (is_push before after cells placed e).intervals (apart_cells (length before.stack) cells)

-- older bytes are before the end
is_some-from_ok : {A E : Type 0} (o : Option A) (fault : E) → IsOk (ok_or o fault) → IsSome o
is_some-from_ok (Some x) fault there = refl
is_some-from_ok None fault there = cc

there-from_ok : (areas : Areas) (address : Address) (size : ℕ) → IsOk (reading areas address size) → IsSome (bytes_at areas address size)
unfolding reading
there-from_ok areas address size there = is_some-from_ok (bytes_at areas address size) (bad_read address size) there

stack_inside : (areas : Areas) (place size : ℕ) → IsOk (reading areas (Stack place) size) → (size ≡ 0) ⊎ (place + size ≤ length areas.stack)
stack_inside areas place size there = by_size (cases_eq size 0)
  where
    by_size : (size ≡ 0) ⊎ (size ≡ 0 → ⊥) → (size ≡ 0) ⊎ (place + size ≤ length areas.stack)
    by_size (inl none) = inl none
    by_size (inr some) = inr (inside-stack areas (Stack place) place size refl some (there-from_ok areas (Stack place) size there))

heap_inside : (areas : Areas) (place size : ℕ) → IsOk (reading areas (Heap place) size) → (size ≡ 0) ⊎ (place + size ≤ length areas.heap)
heap_inside areas place size there = by_size (cases_eq size 0)
  where
    by_size : (size ≡ 0) ⊎ (size ≡ 0 → ⊥) → (size ≡ 0) ⊎ (place + size ≤ length areas.heap)
    by_size (inl none) = inl none
    by_size (inr some) = inr (inside-heap areas (Heap place) place size refl some (there-from_ok areas (Heap place) size there))

old_ranges : (place size length' second more : ℕ) → (size ≡ 0) ⊎ (place + size ≤ length') → length' ≤ second → AreRangesApart place size second more
old_ranges place size length' second more (inl none) h k from below from' below' = omega arith
old_ranges place size length' second more (inr fits) h k from below from' below' = omega arith

old_apart : (before : Areas) (old interval : Interval) (address : Address) → old.addr ≡ address → IsOk (reading before address old.size) → IsFrom (length before.stack) interval → AreApart old interval
unfolding AreApart
old_apart before old interval (Stack first) e there is = rw (e, is.address) (old_ranges first old.size (length before.stack) is.place interval.size (stack_inside before first old.size there) is.from)
old_apart before old interval (Heap first) e there is = rw (e, is.address) tt
old_apart before old interval (Invalid n) e there is = rw e tt

pub cells_apart_from_old : (before after : Areas) (cells : List CellSize) (placed : List Interval) (old : Interval) →
    after_push before cells ≡ Ok (placed, after) → IsOk (reading before old.addr old.size) → All (AreApart old) placed
cells_apart_from_old before after cells placed old e there =
    rw (is_push before after cells placed e).intervals
    (All-weaker (IsFrom (length before.stack)) (AreApart old) (λ interval is. old_apart before old interval old.addr refl there is) _ (cells_from (length before.stack) cells))

-- blocks of the heap
record IsBlock (before after : Areas) (size align : ℕ) (address : Address) : Type 0 where
  valid : IsTrue (is_heap_align align)
  is : address ≡ Heap (next_multiple_of (length before.heap) align)
  memory : after ≡ record before { heap = grown_to (next_multiple_of (length before.heap) align + size) before.heap }

block_placed : (before after : Areas) (size place : ℕ) (address : Address) → after_block before place size ≡ Ok (address, after) →
    (address ≡ Heap place) × (after ≡ record before { heap = grown_to (place + size) before.heap })
unfolding after_block
block_placed before after size place address e =
    let kept = (kept-ok (place + size - 1) before.limit _ (address, after) MemoryLimitExceeded e).1 in
    (ap (λ pair. pair.0) kept, ap (λ pair. pair.1) kept)

is_block : (before after : Areas) (size align : ℕ) (address : Address) → after_allocation before size align ≡ Ok (address, after) → IsBlock before after size align address
unfolding after_allocation
is_block before after size align address e = by_test (is_heap_align align) refl e
  where
    by_test : (b : Bool) → is_heap_align align ≡ b → cond b (after_block before (next_multiple_of (length before.heap) align) size) (Err (bad_align align)) ≡ Ok (address, after) → IsBlock before after size align address
    by_test true test e =
        let placed = block_placed before after size (next_multiple_of (length before.heap) align) address e in
        record { valid = test; is = placed.0; memory = placed.1 }
    by_test false test e = cc

heap_align_positive : (align : ℕ) → IsTrue (is_heap_align align) → 0 < align
unfolding ones ones_in
heap_align_positive zero h = cc
heap_align_positive (suc align) h = omega arith

pub blocks_keep : (before after : Areas) (size align : ℕ) (address : Address) (old : Interval) (bytes : List ℕ) →
    after_allocation before size align ≡ Ok (address, after) → reading before old.addr old.size ≡ Ok bytes → reading after old.addr old.size ≡ Ok bytes
blocks_keep before after size align address old bytes e there =
    let block = is_block before after size align address e in
    reading-old before after old.addr old.size bytes
    (λ place h. ap (λ areas. part_of areas.stack place old.size) block.memory ∙ h)
    (λ place h. ap (λ areas. part_of areas.heap place old.size) block.memory ∙ grown-old before.heap bytes _ place old.size h)
    there

pub blocks_new : (before after : Areas) (size align : ℕ) (address : Address) → after_allocation before size align ≡ Ok (address, after) → IsNewBlock before after size align address
blocks_new before after size align address e =
    let block = is_block before after size align address e in
    let start = next_multiple_of (length before.heap) align in
    let there : part_of after.heap start size ≡ Some (replicate size 0) =
    ap (λ areas. part_of areas.heap start size) block.memory ∙ grown-new before.heap (start + size) start size (omega arith) (omega arith) in
    record {
      place = start;
      is = block.is;
      behind = omega arith;
      aligned = multiple_of (length before.heap) align (heap_align_positive align block.valid);
      zero = reading-heap after address start size (replicate size 0) block.is there;
    }

old_apart_heap : (before : Areas) (old interval : Interval) (address : Address) (place : ℕ) → old.addr ≡ address → interval.addr ≡ Heap place → IsOk (reading before address old.size) → length before.heap ≤ place → AreApart old interval
unfolding AreApart
old_apart_heap before old interval (Stack first) place e f there h = rw (e, f) tt
old_apart_heap before old interval (Heap first) place e f there h = rw (e, f) (old_ranges first old.size (length before.heap) place interval.size (heap_inside before first old.size there) h)
old_apart_heap before old interval (Invalid n) place e f there h = rw e tt

pub blocks_apart_from_old : (before after : Areas) (size align : ℕ) (address : Address) (old : Interval) →
    after_allocation before size align ≡ Ok (address, after) → IsOk (reading before old.addr old.size) →
    AreApart old record { addr = address; size = size }
blocks_apart_from_old before after size align address old e there =
    let block = is_block before after size align address e in
    old_apart_heap before old record { addr = address; size = size } old.addr (next_multiple_of (length before.heap) align) refl block.is there (omega arith)
