-- The bytes after writes and copies.
use Rattle.std.proofs.Common.{◌≡◌, ℕ, ◌+◌, ◌-◌, ◌<◌, ◌≤◌, ◌⊎◌, inl, inr, Bool, true, false, cond, leb, List, [], ◌∷◌, ◌++◌, length, get_or, take, drop, Option, Some, None, Result, Ok, Err, option_map, refl, sym, ◌∙◌, ap, arith}
use Rattle.std.specs.Option.{ok_or}
use Rattle.std.proofs.lemmas.List.{length-append, length-take, length-take-le, length-drop, take_at, drop_at, get_or_append_left, get_or-append_right, get_or-take, get_or-drop, same_lists, nil_from_length}
use Rattle.std.proofs.lemmas.Bool.{cases_eq, cases_lt}
use borrow.Author.Tests.{leb-true}
use Rattle.mir.specs.declared.address.Address.{Address}
use Rattle.mir.specs.declared.address.Address.TheVariants.{Stack, Heap, Invalid}
use Rattle.mir.specs.declared.address.Interval.{Interval}
use Rattle.mir.specs.declared.mem_fault.MemFault.{MemFault}
use Rattle.mir.specs.Areas.{Areas, AreApart, AreRangesApart, part_of, with_part, bytes_at, some_bytes_at, with_bytes, with_some_bytes, bad_read, reading, after_write, after_copy}
use Rattle.mir_mem.specs.MemoryLaws.{IsAsLong}
use Rattle.mir_mem.proofs.Parts.{part_of-inside, length-part_of, length-bytes_at, bytes_at-none, bytes_at-some, bytes_at-stack, bytes_at-heap, with_bytes-none, with_bytes-some, reading-some}

-- facts from a test that passed
pub kept-some : {A : Type 0} (m n : ℕ) (x y : A) → cond (leb m n) (Some x) None ≡ Some y → (m ≤ n) × (y ≡ x)
kept-some {A} m n x y e = by_test (leb m n) refl e
  where
    by_test : (b : Bool) → leb m n ≡ b → cond b (Some x) None ≡ Some y → (m ≤ n) × (y ≡ x)
    by_test true test e = (leb-true m n test, cc)
    by_test false test e = cc

pub kept-ok : {A E : Type 0} (m n : ℕ) (x y : A) (fault : E) → cond (leb m n) (Ok x) (Err fault) ≡ Ok y → (m ≤ n) × (y ≡ x)
kept-ok {A} {E} m n x y fault e = by_test (leb m n) refl e
  where
    by_test : (b : Bool) → leb m n ≡ b → cond b (Ok x) (Err fault) ≡ Ok y → (m ≤ n) × (y ≡ x)
    by_test true test e = (leb-true m n test, cc)
    by_test false test e = cc

pub ok_or-ok : {A E : Type 0} (o : Option A) (fault : E) (x : A) → ok_or o fault ≡ Ok x → o ≡ Some x
ok_or-ok (Some y) fault x e = cc
ok_or-ok None fault x e = cc

pub reading-is : (areas : Areas) (address : Address) (size : ℕ) (bytes : List ℕ) → reading areas address size ≡ Ok bytes → bytes_at areas address size ≡ Some bytes
unfolding reading
reading-is areas address size bytes e = ok_or-ok (bytes_at areas address size) (bad_read address size) bytes e

pub length-reading : (areas : Areas) (address : Address) (size : ℕ) (bytes : List ℕ) → reading areas address size ≡ Ok bytes → length bytes ≡ size
length-reading areas address size bytes e = length-bytes_at areas address bytes size (reading-is areas address size bytes e)

-- an area after a write
record IsPatched (area after bytes : List ℕ) (place : ℕ) : Type 0 where
  fits : place + length bytes ≤ length area
  shape : after ≡ take place area ++ (bytes ++ drop (place + length bytes) area)

patched : (area after bytes : List ℕ) (place : ℕ) → with_part area place bytes ≡ Some after → IsPatched area after bytes place
unfolding with_part
patched area after bytes place e =
    let kept = kept-some (place + length bytes) (length area) _ after e in
    record { fits = kept.0; shape = kept.1 }

length-patched : (area after bytes : List ℕ) (place : ℕ) → IsPatched area after bytes place → length after ≡ length area
length-patched area after bytes place h =
    let fits = h.fits in
    ap length h.shape ∙ simp (length-append, length-take, length-drop) (omega arith)

written-patched : (area after bytes : List ℕ) (place : ℕ) → IsPatched area after bytes place → part_of after place (length bytes) ≡ Some bytes
written-patched area after bytes place h =
    let fits = h.fits in
    let long = length-patched area after bytes place h in
    let front : length (take place area) ≡ place = length-take-le place area (omega arith) in
    let rest : drop place after ≡ bytes ++ drop (place + length bytes) area = ap (drop place) h.shape ∙ drop_at (take place area) (bytes ++ drop (place + length bytes) area) place front in
    part_of-inside after place (length bytes) (omega arith) ∙ ap Some (ap (take (length bytes)) rest ∙ take_at bytes (drop (place + length bytes) area) (length bytes) refl)

-- a byte apart from the written ones
byte-patched : (area after bytes : List ℕ) (place j d : ℕ) → IsPatched area after bytes place → (j < place) ⊎ (place + length bytes ≤ j) → get_or after j d ≡ get_or area j d
byte-patched area after bytes place j d h (inl below) =
    let fits = h.fits in
    let front : length (take place area) ≡ place = length-take-le place area (omega arith) in
    ap (λ l. get_or l j d) h.shape ∙ get_or_append_left (take place area) (bytes ++ drop (place + length bytes) area) d j (omega arith) ∙ get_or-take place area j d below
byte-patched area after bytes place j d h (inr above) =
    let fits = h.fits in
    let front : length (take place area) ≡ place = length-take-le place area (omega arith) in
    let past : place + length bytes + (j - place - length bytes) ≡ j = omega arith in
    ap (λ l. get_or l j d) h.shape
    ∙ get_or-append_right (take place area) (bytes ++ drop (place + length bytes) area) place j d front (omega arith)
    ∙ get_or-append_right bytes (drop (place + length bytes) area) (length bytes) (j - place) d refl (omega arith)
    ∙ get_or-drop (place + length bytes) area (j - place - length bytes) d
    ∙ ap (λ k. get_or area k d) past

outside : (place size second more k : ℕ) → AreRangesApart place size second more → k < more → (second + k < place) ⊎ (place + size ≤ second + k)
outside place size second more k apart h = by_place (cases_lt (second + k) place) (cases_lt (second + k) (place + size))
  where
    by_place : (second + k < place) ⊎ (place ≤ second + k) → (second + k < place + size) ⊎ (place + size ≤ second + k) → (second + k < place) ⊎ (place + size ≤ second + k)
    by_place (inl below) test = inl below
    by_place (inr from) (inr above) = inr above
    by_place (inr from) (inl below) = absurd (apart (second + k) from below (omega arith) (omega arith))

other-patched : (area after bytes : List ℕ) (place second more : ℕ) → IsPatched area after bytes place → AreRangesApart place (length bytes) second more → part_of after second more ≡ part_of area second more
unfolding part_of
other-patched area after bytes place second more h apart =
    let long = length-patched area after bytes place h in
    ap (λ n. cond (leb (second + more) n) (Some (take more (drop second after))) None) long ∙ by_test (leb (second + more) (length area)) refl
  where
    same : second + more ≤ length area → take more (drop second after) ≡ take more (drop second area)
    same fits =
        let long = length-patched area after bytes place h in
        let size : length (take more (drop second after)) ≡ more = simp (length-take, length-drop) (omega arith) in
        let size' : length (take more (drop second area)) ≡ more = simp (length-take, length-drop) (omega arith) in
        same_lists (take more (drop second after)) (take more (drop second area)) (size ∙ sym size') (λ k d within.
        let k_in : k < more = omega arith in
        get_or-take more (drop second after) k d k_in
        ∙ get_or-drop second after k d
        ∙ byte-patched area after bytes place (second + k) d h (outside place (length bytes) second more k apart k_in)
        ∙ sym (get_or-drop second area k d)
        ∙ sym (get_or-take more (drop second area) k d k_in))

    by_test : (b : Bool) → leb (second + more) (length area) ≡ b → cond b (Some (take more (drop second after))) None ≡ cond b (Some (take more (drop second area))) None
    by_test true test = ap Some (same (leb-true _ _ test))
    by_test false test = refl

-- a write changes nothing, or one area
data IsWrite (before after : Areas) (address : Address) (bytes : List ℕ) : Type 0 where
  OfNothing : bytes ≡ [] → after ≡ before → IsWrite before after address bytes
  OnStack : (place : ℕ) (stack : List ℕ) → address ≡ Stack place → IsPatched before.stack stack bytes place → after ≡ record before { stack = stack } → IsWrite before after address bytes
  OnHeap : (place : ℕ) (heap : List ℕ) → address ≡ Heap place → IsPatched before.heap heap bytes place → after ≡ record before { heap = heap } → IsWrite before after address bytes

option_map-some : {A B : Type 0} (f : A → B) (o : Option A) (y : B) → option_map f o ≡ Some y → (x : A) × (o ≡ Some x) × (y ≡ f x)
option_map-some f (Some x) y e = (x, refl, cc)
option_map-some f None y e = cc

is_write : (before after : Areas) (address : Address) (bytes : List ℕ) → with_some_bytes before address bytes ≡ Some after → IsWrite before after address bytes
unfolding with_some_bytes
is_write before after (Stack place) bytes e =
    let made = option_map-some (λ stack. record before { stack = stack }) (with_part before.stack place bytes) after e in
    OnStack place made.0 refl (patched before.stack made.0 bytes place made.1) made.2
is_write before after (Heap place) bytes e =
    let made = option_map-some (λ heap. record before { heap = heap }) (with_part before.heap place bytes) after e in
    OnHeap place made.0 refl (patched before.heap made.0 bytes place made.1) made.2
is_write before after (Invalid n) bytes e = cc

of_bytes : (before after : Areas) (address : Address) (bytes : List ℕ) → with_bytes before address bytes ≡ Some after → IsWrite before after address bytes
of_bytes before after address [] e =
    let same : Some before ≡ Some after = sym (with_bytes-none before address) ∙ e in
    let same' : after ≡ before = cc in
    OfNothing refl same'
of_bytes before after address (byte ∷ bytes) e = is_write before after address (byte ∷ bytes) (sym (with_bytes-some before address (byte ∷ bytes) (λ none. cc)) ∙ e)

written : (before after : Areas) (address : Address) (bytes : List ℕ) → after_write before address bytes ≡ Ok after → IsWrite before after address bytes
unfolding after_write
written before after address bytes e = of_bytes before after address bytes (ok_or-ok (with_bytes before address bytes) _ after e)

-- reading, area by area
some-same : (before after : Areas) (address : Address) (size : ℕ) →
    ((place : ℕ) → address ≡ Stack place → part_of after.stack place size ≡ part_of before.stack place size) →
    ((place : ℕ) → address ≡ Heap place → part_of after.heap place size ≡ part_of before.heap place size) →
    some_bytes_at after address size ≡ some_bytes_at before address size
unfolding some_bytes_at
some-same before after (Stack place) size stack heap = stack place refl
some-same before after (Heap place) size stack heap = heap place refl
some-same before after (Invalid n) size stack heap = refl

reading-same : (before after : Areas) (address : Address) (size : ℕ) →
    ((place : ℕ) → address ≡ Stack place → part_of after.stack place size ≡ part_of before.stack place size) →
    ((place : ℕ) → address ≡ Heap place → part_of after.heap place size ≡ part_of before.heap place size) →
    reading after address size ≡ reading before address size
unfolding reading
reading-same before after address size stack heap = ap (λ o. ok_or o (bad_read address size)) (by_size (cases_eq size 0))
  where
    by_size : (size ≡ 0) ⊎ (size ≡ 0 → ⊥) → bytes_at after address size ≡ bytes_at before address size
    by_size (inl none) = bytes_at-none after address size none ∙ sym (bytes_at-none before address size none)
    by_size (inr some) = bytes_at-some after address size some ∙ some-same before after address size stack heap ∙ sym (bytes_at-some before address size some)

pub reading-none : (areas : Areas) (address : Address) (size : ℕ) → size ≡ 0 → reading areas address size ≡ Ok []
reading-none areas address size e = reading-some areas address size [] (bytes_at-none areas address size e)

pub reading-stack : (areas : Areas) (address : Address) (place size : ℕ) (bytes : List ℕ) → address ≡ Stack place → part_of areas.stack place size ≡ Some bytes → reading areas address size ≡ Ok bytes
reading-stack areas address place size bytes e there = by_size (cases_eq size 0)
  where
    by_size : (size ≡ 0) ⊎ (size ≡ 0 → ⊥) → reading areas address size ≡ Ok bytes
    by_size (inl none) = reading-none areas address size none ∙ ap Ok (sym (nil_from_length bytes (length-part_of areas.stack bytes place size there ∙ none)))
    by_size (inr some) = reading-some areas address size bytes (bytes_at-stack areas address place size e some ∙ there)

pub reading-heap : (areas : Areas) (address : Address) (place size : ℕ) (bytes : List ℕ) → address ≡ Heap place → part_of areas.heap place size ≡ Some bytes → reading areas address size ≡ Ok bytes
reading-heap areas address place size bytes e there = by_size (cases_eq size 0)
  where
    by_size : (size ≡ 0) ⊎ (size ≡ 0 → ⊥) → reading areas address size ≡ Ok bytes
    by_size (inl none) = reading-none areas address size none ∙ ap Ok (sym (nil_from_length bytes (length-part_of areas.heap bytes place size there ∙ none)))
    by_size (inr some) = reading-some areas address size bytes (bytes_at-heap areas address place size e some ∙ there)

-- the laws
by_write : (before after : Areas) (address : Address) (bytes : List ℕ) → IsWrite before after address bytes → reading after address (length bytes) ≡ Ok bytes
by_write before after address bytes (OfNothing none same) = reading-none after address (length bytes) (ap length none) ∙ ap Ok (sym none)
by_write before after address bytes (OnStack place stack at patch same) =
    reading-stack after address place (length bytes) bytes at (ap (λ areas. part_of areas.stack place (length bytes)) same ∙ written-patched before.stack stack bytes place patch)
by_write before after address bytes (OnHeap place heap at patch same) =
    reading-heap after address place (length bytes) bytes at (ap (λ areas. part_of areas.heap place (length bytes)) same ∙ written-patched before.heap heap bytes place patch)

pub reads_written : (before after : Areas) (address : Address) (bytes : List ℕ) → after_write before address bytes ≡ Ok after → reading after address (length bytes) ≡ Ok bytes
reads_written before after address bytes e = by_write before after address bytes (written before after address bytes e)

stack_ranges : (one other : Interval) (first second : ℕ) → one.addr ≡ Stack first → other.addr ≡ Stack second → AreApart one other → AreRangesApart first one.size second other.size
unfolding AreApart
stack_ranges one other first second e f apart = rw (e, f) at apart

heap_ranges : (one other : Interval) (first second : ℕ) → one.addr ≡ Heap first → other.addr ≡ Heap second → AreApart one other → AreRangesApart first one.size second other.size
unfolding AreApart
heap_ranges one other first second e f apart = rw (e, f) at apart

others_by : (before after : Areas) (address : Address) (bytes : List ℕ) (other : Interval) → IsWrite before after address bytes →
    AreApart record { addr = address; size = length bytes } other → reading after other.addr other.size ≡ reading before other.addr other.size
others_by before after address bytes other (OfNothing none same) apart = ap (λ areas. reading areas other.addr other.size) same
others_by before after address bytes other (OnStack place stack at patch same) apart =
    reading-same before after other.addr other.size
    (λ second e. ap (λ areas. part_of areas.stack second other.size) same
    ∙ other-patched before.stack stack bytes place second other.size patch (stack_ranges record { addr = address; size = length bytes } other place second at e apart))
    (λ second e. ap (λ areas. part_of areas.heap second other.size) same)
others_by before after address bytes other (OnHeap place heap at patch same) apart =
    reading-same before after other.addr other.size
    (λ second e. ap (λ areas. part_of areas.stack second other.size) same)
    (λ second e. ap (λ areas. part_of areas.heap second other.size) same
    ∙ other-patched before.heap heap bytes place second other.size patch (heap_ranges record { addr = address; size = length bytes } other place second at e apart))

pub writes_keep : (before after : Areas) (address : Address) (bytes : List ℕ) (other : Interval) → after_write before address bytes ≡ Ok after →
    AreApart record { addr = address; size = length bytes } other → reading after other.addr other.size ≡ reading before other.addr other.size
writes_keep before after address bytes other e apart = others_by before after address bytes other (written before after address bytes e) apart

lengths_by : (before after : Areas) (address : Address) (bytes : List ℕ) → IsWrite before after address bytes → IsAsLong before after
lengths_by before after address bytes (OfNothing none same) =
    record { stack = ap (λ areas. length areas.stack) same; heap = ap (λ areas. length areas.heap) same; limit = ap (λ areas. areas.limit) same }
lengths_by before after address bytes (OnStack place stack at patch same) =
    record { stack = ap (λ areas. length areas.stack) same ∙ length-patched before.stack stack bytes place patch; heap = ap (λ areas. length areas.heap) same; limit = ap (λ areas. areas.limit) same }
lengths_by before after address bytes (OnHeap place heap at patch same) =
    record { stack = ap (λ areas. length areas.stack) same; heap = ap (λ areas. length areas.heap) same ∙ length-patched before.heap heap bytes place patch; limit = ap (λ areas. areas.limit) same }

pub writes_keep_lengths : (before after : Areas) (address : Address) (bytes : List ℕ) → after_write before address bytes ≡ Ok after → IsAsLong before after
writes_keep_lengths before after address bytes e = lengths_by before after address bytes (written before after address bytes e)

-- a copy reads, and then writes the bytes that it read
record IsCopy (before after : Areas) (to : Address) (from : Interval) : Type 0 where
  bytes : List ℕ
  read : reading before from.addr from.size ≡ Ok bytes
  write : after_write before to bytes ≡ Ok after

is_copy : (before after : Areas) (to : Address) (from : Interval) → after_copy before to from ≡ Ok after → IsCopy before after to from
unfolding after_copy
is_copy before after to from e = by_read (reading before from.addr from.size) refl e
  where
    by_result : Result (List ℕ) MemFault → Result Areas MemFault
    by_result r = elim r [ Ok bytes ↦ after_write before to bytes | Err fault ↦ Err fault ]

    by_read : (r : Result (List ℕ) MemFault) → reading before from.addr from.size ≡ r → by_result r ≡ Ok after → IsCopy before after to from
    by_read (Ok bytes) read e = record { bytes = bytes; read = read; write = e }
    by_read (Err fault) read e = cc

pub copies_source : (before after : Areas) (to : Address) (from : Interval) → after_copy before to from ≡ Ok after → reading after to from.size ≡ reading before from.addr from.size
copies_source before after to from e =
    let copy = is_copy before after to from e in
    let long = length-reading before from.addr from.size copy.bytes copy.read in
    ap (reading after to) (sym long) ∙ reads_written before after to copy.bytes copy.write ∙ sym copy.read

pub copies_keep : (before after : Areas) (to : Address) (from other : Interval) → after_copy before to from ≡ Ok after →
    AreApart record { addr = to; size = from.size } other → reading after other.addr other.size ≡ reading before other.addr other.size
copies_keep before after to from other e apart =
    let copy = is_copy before after to from e in
    let long = length-reading before from.addr from.size copy.bytes copy.read in
    writes_keep before after to copy.bytes other copy.write (rw long apart)
