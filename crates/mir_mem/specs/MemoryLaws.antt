-- The laws of a memory, which its users rely on.
use Rattle.std.specs.Prelude.{◌≡◌, ℕ, ◌*◌, ◌^◌, ◌≤◌, List, length, replicate, Ok, All, AllPairs, IsOk}
use Rattle.std.specs.List.{AllZip}
use Rattle.world.specs.Checked.{IsAlignment}
use Rattle.mir.specs.declared.address.Address.{Address}
use Rattle.mir.specs.declared.address.Address.TheVariants.{Stack, Heap}
use Rattle.mir.specs.declared.address.CellSize.{CellSize}
use Rattle.mir.specs.declared.address.Interval.{Interval}
use Rattle.mir.specs.Addresses.{address_of, usize_of}
use Rattle.mir.specs.Areas.{Areas, AreApart, after_allocation, after_copy, after_push, after_write, reading}

-- a read gives the bytes that were written last
abbrev pub ReadsGiveWhatWasWritten : Type 0
ReadsGiveWhatWasWritten =
    (before after : Areas) (address : Address) (bytes : List ℕ) →
    after_write before address bytes ≡ Ok after → reading after address (length bytes) ≡ Ok bytes

-- bytes apart from the written ones are read as before
abbrev pub WritesKeepOtherBytes : Type 0
WritesKeepOtherBytes =
    (before after : Areas) (address : Address) (bytes : List ℕ) (other : Interval) →
    after_write before address bytes ≡ Ok after → AreApart record { addr = address; size = length bytes } other →
    reading after other.addr other.size ≡ reading before other.addr other.size

-- neither area is longer or shorter after a write, and the limit is the same
pub record IsAsLong (before after : Areas) : Type 0 where
  pub stack : length after.stack ≡ length before.stack
  pub heap : length after.heap ≡ length before.heap
  pub limit : after.limit ≡ before.limit

abbrev pub WritesKeepLengths : Type 0
WritesKeepLengths = (before after : Areas) (address : Address) (bytes : List ℕ) → after_write before address bytes ≡ Ok after → IsAsLong before after

-- a copy leaves at its destination the bytes that its source had before
abbrev pub CopiesGiveTheSource : Type 0
CopiesGiveTheSource =
    (before after : Areas) (to : Address) (from : Interval) → after_copy before to from ≡ Ok after →
    reading after to from.size ≡ reading before from.addr from.size

-- bytes apart from the destination are read as before
abbrev pub CopiesKeepOtherBytes : Type 0
CopiesKeepOtherBytes =
    (before after : Areas) (to : Address) (from other : Interval) → after_copy before to from ≡ Ok after →
    AreApart record { addr = to; size = from.size } other →
    reading after other.addr other.size ≡ reading before other.addr other.size

-- bytes that can be read before cells are added are the same after
abbrev pub CellsKeepOldBytes : Type 0
CellsKeepOldBytes =
    (before after : Areas) (cells : List CellSize) (placed : List Interval) (old : Interval) (bytes : List ℕ) →
    after_push before cells ≡ Ok (placed, after) → reading before old.addr old.size ≡ Ok bytes → reading after old.addr old.size ≡ Ok bytes

-- bytes that can be read before a block is added are the same after
abbrev pub BlocksKeepOldBytes : Type 0
BlocksKeepOldBytes =
    (before after : Areas) (size align : ℕ) (address : Address) (old : Interval) (bytes : List ℕ) →
    after_allocation before size align ≡ Ok (address, after) → reading before old.addr old.size ≡ Ok bytes → reading after old.addr old.size ≡ Ok bytes

-- a new cell: behind all older bytes of the stack, aligned, of its size, and zero
pub record IsNewCell (before after : Areas) (cell : CellSize) (interval : Interval) : Type 0 where
  pub place : ℕ
  pub address : interval.addr ≡ Stack place
  pub behind : length before.stack ≤ place
  pub aligned : (k : ℕ) × (place ≡ k * cell.align)
  pub size : interval.size ≡ cell.size
  pub zero : reading after interval.addr interval.size ≡ Ok (replicate cell.size 0)

abbrev pub CellsAreNew : Type 0
CellsAreNew =
    (before after : Areas) (cells : List CellSize) (placed : List Interval) → All (λ cell. IsAlignment cell.align) cells →
    after_push before cells ≡ Ok (placed, after) → AllZip (IsNewCell before after) cells placed

-- new cells share no byte with one another
abbrev pub CellsAreApart : Type 0
CellsAreApart =
    (before after : Areas) (cells : List CellSize) (placed : List Interval) →
    after_push before cells ≡ Ok (placed, after) → AllPairs AreApart placed

-- and none with older bytes
abbrev pub CellsAreApartFromOldBytes : Type 0
CellsAreApartFromOldBytes =
    (before after : Areas) (cells : List CellSize) (placed : List Interval) (old : Interval) →
    after_push before cells ≡ Ok (placed, after) → IsOk (reading before old.addr old.size) → All (AreApart old) placed

-- a new block: behind all older bytes of the heap, aligned, and zero
pub record IsNewBlock (before after : Areas) (size align : ℕ) (address : Address) : Type 0 where
  pub place : ℕ
  pub is : address ≡ Heap place
  pub behind : length before.heap ≤ place
  pub aligned : (k : ℕ) × (place ≡ k * align)
  pub zero : reading after address size ≡ Ok (replicate size 0)

abbrev pub BlocksAreNew : Type 0
BlocksAreNew =
    (before after : Areas) (size align : ℕ) (address : Address) →
    after_allocation before size align ≡ Ok (address, after) → IsNewBlock before after size align address

-- a new block shares no byte with older ones
abbrev pub BlocksAreApartFromOldBytes : Type 0
BlocksAreApartFromOldBytes =
    (before after : Areas) (size align : ℕ) (address : Address) (old : Interval) →
    after_allocation before size align ≡ Ok (address, after) → IsOk (reading before old.addr old.size) →
    AreApart old record { addr = address; size = size }

-- an address that is cast to an integer and back is the same
pub record AddressesRoundTrip : Type 0 where
  pub stack : (place : ℕ) → 1 ≤ place → address_of (usize_of (Stack place)) ≡ Stack place
  pub heap : (place : ℕ) → 1 ≤ place → place ≤ 2 ^ 59 → address_of (usize_of (Heap place)) ≡ Heap place
