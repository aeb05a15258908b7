-- Reading a cell after a write, by the laws of a memory.
use Rattle.std.proofs.Common.{◌≡◌, ℕ, ◌+◌, ◌≤◌, ◌⊎◌, inl, inr, true, cond, leb, List, ◌++◌, length, take, drop, Some, None, Ok, option_map, sym, ap, ◌∙◌, subst, arith}
use Rattle.std.specs.Option.{ok_or}
use Rattle.std.proofs.lemmas.Bool.{cases_eq}
use Rattle.std.proofs.lemmas.List.{nil_from_length}
use borrow.Author.Tests.{le-leb}
use Rattle.mir.specs.declared.address.Address.{Address}
use Rattle.mir.specs.declared.address.Address.TheVariants.{Stack, Heap, Invalid}
use Rattle.mir.specs.declared.address.Interval.{Interval}
use Rattle.mir.specs.Areas.{AreApart, part_of, with_part, some_bytes_at, with_some_bytes, with_bytes, bad_write, reading, after_write}
use Rattle.mir.specs.Memory.{Memory, cell_bytes}
use Rattle.mir_mem.proofs.Parts.{length-bytes_at, bytes_at-some, with_bytes-none, with_bytes-some, reading-some}
use Rattle.mir_mem.proofs.Writing.{kept-some, reading-is, reads_written, writes_keep}

-- what was read has as many bytes as its cell
pub length-cell_bytes : (memory : Memory) (cell : Interval) (bytes : List ℕ) → cell_bytes memory cell ≡ Some bytes → length bytes ≡ cell.size
length-cell_bytes memory cell bytes found = length-bytes_at memory cell.addr bytes cell.size found

-- an area with other bytes from a place on
abbrev replaced : List ℕ → ℕ → List ℕ → List ℕ
replaced area place bytes = take place area ++ (bytes ++ drop (place + length bytes) area)

part-fits : (area old bytes : List ℕ) (place size : ℕ) → part_of area place size ≡ Some old → length bytes ≡ size → with_part area place bytes ≡ Some (replaced area place bytes)
unfolding part_of with_part
part-fits area old bytes place size found long =
    let within : place + size ≤ length area = (kept-some (place + size) (length area) _ old found).0 in
    let fits : leb (place + length bytes) (length area) ≡ true = le-leb _ _ (omega arith) in
    ap (λ b. cond b (Some (replaced area place bytes)) None) fits

some-fits : (memory : Memory) (address : Address) (size : ℕ) (old bytes : List ℕ) → some_bytes_at memory address size ≡ Some old → length bytes ≡ size → (later : Memory) × (with_some_bytes memory address bytes ≡ Some later)
unfolding some_bytes_at with_some_bytes
some-fits memory (Stack place) size old bytes found long = (record memory { stack = replaced memory.stack place bytes }, ap (option_map (λ (stack : List ℕ). record memory { stack = stack })) (part-fits memory.stack old bytes place size found long))
some-fits memory (Heap place) size old bytes found long = (record memory { heap = replaced memory.heap place bytes }, ap (option_map (λ (heap : List ℕ). record memory { heap = heap })) (part-fits memory.heap old bytes place size found long))
some-fits memory (Invalid n) size old bytes found long = cc

-- as many bytes as can be read from a cell can be written to it
pub can_write : (memory : Memory) (cell : Interval) (old bytes : List ℕ) → cell_bytes memory cell ≡ Some old → length bytes ≡ length old → (later : Memory) × (with_bytes memory cell.addr bytes ≡ Some later)
can_write memory cell old bytes found same = by_size (cases_eq (length bytes) 0)
  where
    by_size : (length bytes ≡ 0) ⊎ (length bytes ≡ 0 → ⊥) → (later : Memory) × (with_bytes memory cell.addr bytes ≡ Some later)
    by_size (inl none) = (memory, ap (with_bytes memory cell.addr) (nil_from_length bytes none) ∙ with_bytes-none memory cell.addr)
    by_size (inr some) =
        let long : length bytes ≡ cell.size = same ∙ length-cell_bytes memory cell old found in
        let there = sym (bytes_at-some memory cell.addr cell.size (λ none. some (long ∙ none))) ∙ found in
        let made = some-fits memory cell.addr cell.size old bytes there long in
        (made.0, with_bytes-some memory cell.addr bytes some ∙ made.1)

pub as-write : (memory later : Memory) (address : Address) (bytes : List ℕ) → with_bytes memory address bytes ≡ Some later → after_write memory address bytes ≡ Ok later
unfolding after_write
as-write memory later address bytes written = ap (λ o. ok_or o (bad_write address (length bytes))) written

-- what was written is read
pub read-written : (memory later : Memory) (cell : Interval) (bytes : List ℕ) → with_bytes memory cell.addr bytes ≡ Some later → length bytes ≡ cell.size → cell_bytes later cell ≡ Some bytes
read-written memory later cell bytes written size =
    reading-is later cell.addr cell.size bytes (ap (reading later cell.addr) (sym size) ∙ reads_written memory later cell.addr bytes (as-write memory later cell.addr bytes written))

-- what lies apart from a write is read as before
pub read-apart : (memory later : Memory) (cell other : Interval) (bytes old : List ℕ) → with_bytes memory cell.addr bytes ≡ Some later → length bytes ≡ cell.size → AreApart cell other → cell_bytes memory other ≡ Some old → cell_bytes later other ≡ Some old
read-apart memory later cell other bytes old written size apart found =
    let apart' : AreApart record { addr = cell.addr; size = length bytes } other = subst (λ (n : ℕ). AreApart record { addr = cell.addr; size = n } other) (sym size) apart in
    reading-is later other.addr other.size old
    (writes_keep memory later cell.addr bytes other (as-write memory later cell.addr bytes written) apart'
    ∙ reading-some memory other.addr other.size old found)
