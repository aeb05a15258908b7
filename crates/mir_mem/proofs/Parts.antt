-- Parts of the areas of a memory, by their addresses.
use Rattle.std.proofs.Common.{◌≡◌, ℕ, ◌+◌, ◌≤◌, ◌⊎◌, inl, inr, List, [], length, take, drop, Option, Some, None, Ok, Err, IsSome, IsErrAnd, option_and_then, refl, sym, ◌∙◌, ap, arith}
use Rattle.std.proofs.lemmas.List.{length-take, length-drop}
use Rattle.std.specs.Option.{ok_or}
use Rattle.std.proofs.lemmas.Bool.{cases_eq}
use Rattle.std.proofs.lemmas.Bool.Decides.{nat_tests}
use borrow.Author.Tests.{ne_eqb}
use Rattle.mir.specs.declared.address.Address.{Address}
use Rattle.mir.specs.declared.address.Address.TheVariants.{Stack, Heap, Invalid}
use Rattle.mir.specs.declared.address.Interval.{Interval}
use Rattle.mir.specs.declared.mem_fault.MemFault.{MemFault}
use Rattle.mir.specs.Areas.{Areas, IsFault, part_of, bytes_at, some_bytes_at, with_bytes, with_some_bytes, bad_read, bad_write, reading, after_write, after_copy}

-- a part that the area has, and its length
pub part_of-inside : (area : List ℕ) (place size : ℕ) → place + size ≤ length area → part_of area place size ≡ Some (take size (drop place area))
unfolding part_of
part_of-inside area place size h = grind (arith, nat_tests)

pub inside : (area : List ℕ) (place size : ℕ) → IsSome (part_of area place size) → place + size ≤ length area
unfolding part_of
inside area place size h = grind (arith, nat_tests)

pub length-part_of : (area bytes : List ℕ) (place size : ℕ) → part_of area place size ≡ Some bytes → length bytes ≡ size
unfolding part_of
length-part_of area bytes place size e = grind (arith, nat_tests, length-take, length-drop)

-- no bytes
pub bytes_at-none : (areas : Areas) (address : Address) (size : ℕ) → size ≡ 0 → bytes_at areas address size ≡ Some []
unfolding bytes_at
bytes_at-none areas address size e = rw e refl

pub with_bytes-none : (areas : Areas) (address : Address) → with_bytes areas address [] ≡ Some areas
unfolding with_bytes
with_bytes-none areas address = refl

-- some bytes
pub bytes_at-some : (areas : Areas) (address : Address) (size : ℕ) → (size ≡ 0 → ⊥) → bytes_at areas address size ≡ some_bytes_at areas address size
unfolding bytes_at
bytes_at-some areas address size h = rw (ne_eqb size 0 h) refl

pub with_bytes-some : (areas : Areas) (address : Address) (bytes : List ℕ) → (length bytes ≡ 0 → ⊥) → with_bytes areas address bytes ≡ with_some_bytes areas address bytes
unfolding with_bytes
with_bytes-some areas address bytes h = rw (ne_eqb (length bytes) 0 h) refl

pub bytes_at-stack : (areas : Areas) (address : Address) (place size : ℕ) → address ≡ Stack place → (size ≡ 0 → ⊥) → bytes_at areas address size ≡ part_of areas.stack place size
unfolding some_bytes_at
bytes_at-stack areas address place size e h = bytes_at-some areas address size h ∙ ap (λ a. some_bytes_at areas a size) e

pub bytes_at-heap : (areas : Areas) (address : Address) (place size : ℕ) → address ≡ Heap place → (size ≡ 0 → ⊥) → bytes_at areas address size ≡ part_of areas.heap place size
unfolding some_bytes_at
bytes_at-heap areas address place size e h = bytes_at-some areas address size h ∙ ap (λ a. some_bytes_at areas a size) e

pub bytes_at-invalid : (areas : Areas) (address : Address) (n size : ℕ) → address ≡ Invalid n → (size ≡ 0 → ⊥) → bytes_at areas address size ≡ None
unfolding some_bytes_at
bytes_at-invalid areas address n size e h = bytes_at-some areas address size h ∙ ap (λ a. some_bytes_at areas a size) e

-- a copy of a part that the area has
pub copied-none : (areas : Areas) (to from : Address) (size : ℕ) → size ≡ 0 → option_and_then (with_bytes areas to) (bytes_at areas from size) ≡ Some areas
copied-none areas to from size e = ap (option_and_then (with_bytes areas to)) (bytes_at-none areas from size e) ∙ with_bytes-none areas to

copied-part : (areas : Areas) (to : Address) (area : List ℕ) (place size : ℕ) → (size ≡ 0 → ⊥) → place + size ≤ length area →
    option_and_then (with_bytes areas to) (part_of area place size) ≡ with_some_bytes areas to (take size (drop place area))
copied-part areas to area place size h fits =
    let there = part_of-inside area place size fits in
    let long : length (take size (drop place area)) ≡ size = length-part_of area _ place size there in
    ap (option_and_then (with_bytes areas to)) there ∙ with_bytes-some areas to _ (λ e. h (sym long ∙ e))

pub copied-stack : (areas : Areas) (to from : Address) (place size : ℕ) → from ≡ Stack place → (size ≡ 0 → ⊥) → place + size ≤ length areas.stack →
    option_and_then (with_bytes areas to) (bytes_at areas from size) ≡ with_some_bytes areas to (take size (drop place areas.stack))
copied-stack areas to from place size e h fits =
    ap (option_and_then (with_bytes areas to)) (bytes_at-stack areas from place size e h) ∙ copied-part areas to areas.stack place size h fits

pub copied-heap : (areas : Areas) (to from : Address) (place size : ℕ) → from ≡ Heap place → (size ≡ 0 → ⊥) → place + size ≤ length areas.heap →
    option_and_then (with_bytes areas to) (bytes_at areas from size) ≡ with_some_bytes areas to (take size (drop place areas.heap))
copied-heap areas to from place size e h fits =
    ap (option_and_then (with_bytes areas to)) (bytes_at-heap areas from place size e h) ∙ copied-part areas to areas.heap place size h fits

-- the area has the bytes of a read or a write
pub inside-stack : (areas : Areas) (address : Address) (place size : ℕ) → address ≡ Stack place → (size ≡ 0 → ⊥) → IsSome (bytes_at areas address size) → place + size ≤ length areas.stack
inside-stack areas address place size e h there = inside areas.stack place size (rw (bytes_at-stack areas address place size e h) at there)

pub inside-heap : (areas : Areas) (address : Address) (place size : ℕ) → address ≡ Heap place → (size ≡ 0 → ⊥) → IsSome (bytes_at areas address size) → place + size ≤ length areas.heap
inside-heap areas address place size e h there = inside areas.heap place size (rw (bytes_at-heap areas address place size e h) at there)

pub invalid-absurd : (areas : Areas) (address : Address) (n size : ℕ) → address ≡ Invalid n → (size ≡ 0 → ⊥) → IsSome (bytes_at areas address size) → ⊥
invalid-absurd areas address n size e h there = let none : IsSome {T = List ℕ} None = rw (bytes_at-invalid areas address n size e h) at there in cc

-- the number of bytes that the area has
length-some_bytes_at : (areas : Areas) (address : Address) (bytes : List ℕ) (size : ℕ) → some_bytes_at areas address size ≡ Some bytes → length bytes ≡ size
unfolding some_bytes_at
length-some_bytes_at areas (Stack place) bytes size e = length-part_of areas.stack bytes place size e
length-some_bytes_at areas (Heap place) bytes size e = length-part_of areas.heap bytes place size e
length-some_bytes_at areas (Invalid n) bytes size e = cc

pub length-bytes_at : (areas : Areas) (address : Address) (bytes : List ℕ) (size : ℕ) → bytes_at areas address size ≡ Some bytes → length bytes ≡ size
length-bytes_at areas address bytes size e = by_size (cases_eq size 0)
  where
    by_size : (size ≡ 0) ⊎ (size ≡ 0 → ⊥) → length bytes ≡ size
    by_size (inl none) =
        let bytes' : Some [] ≡ Some bytes = sym (bytes_at-none areas address size none) ∙ e in
        let empty : [] ≡ bytes = cc in
        ap length (sym empty) ∙ sym none
    by_size (inr some) = length-some_bytes_at areas address bytes size (sym (bytes_at-some areas address size some) ∙ e)

-- the bytes of a read
pub reading-some : (areas : Areas) (address : Address) (size : ℕ) (bytes : List ℕ) → bytes_at areas address size ≡ Some bytes → reading areas address size ≡ Ok bytes
unfolding reading
reading-some areas address size bytes e = ap (λ o. ok_or o (bad_read address size)) e

-- a copy of bytes that the area has is a write
copied : (areas : Areas) (to : Address) (from : Interval) (bytes : List ℕ) → bytes_at areas from.addr from.size ≡ Some bytes → after_copy areas to from ≡ after_write areas to bytes
unfolding after_copy
copied areas to from bytes e = rw (reading-some areas from.addr from.size bytes e, after_copy) refl

-- a copy whose write is refused
refused_by : (areas : Areas) (to : Address) (from : Interval) (fault : MemFault) (o : Option (List ℕ)) → bytes_at areas from.addr from.size ≡ o → IsSome o →
    option_and_then (with_bytes areas to) o ≡ None → IsFault (bad_write to from.size) fault → IsErrAnd (after_copy areas to from) (λ meant. IsFault meant fault)
unfolding after_write
refused_by areas to from fault (Some bytes) e there refused is =
    let long = length-bytes_at areas from.addr bytes from.size e in
    let whole : after_copy areas to from ≡ Err (bad_write to from.size) =
    copied areas to from bytes e ∙ ap (λ o. ok_or o (bad_write to (length bytes))) refused ∙ ap (λ n. Err (bad_write to n)) long in
    rw whole is
refused_by areas to from fault None e there refused is = cc

pub copy_refused : (areas : Areas) (to : Address) (from : Interval) (fault : MemFault) → IsSome (bytes_at areas from.addr from.size) →
    option_and_then (with_bytes areas to) (bytes_at areas from.addr from.size) ≡ None → IsFault (bad_write to from.size) fault →
    IsErrAnd (after_copy areas to from) (λ meant. IsFault meant fault)
copy_refused areas to from fault there refused is = refused_by areas to from fault (bytes_at areas from.addr from.size) refl there refused is
