-- The memory of a run: a stack and a heap of bytes, what is read there, and what writing, copying and growing leave.
use Rattle.std.specs.Prelude.{◌≡◌, ℕ, Bool, ◌+◌, ◌-◌, ◌^◌, ◌<◌, ◌≤◌, ◌⊎◌, ◌&&◌, if◌then◌else◌, ◌==◌, nat_le, List, [], ◌∷◌, ◌++◌, length, take, drop, replicate, Option, Some, None, Result, Ok, Err, option_map, codes, decimal}
use Rattle.std.specs.Int.{is_power_of_two, next_multiple_of}
use Rattle.std.specs.Option.{ok_or}
use Rattle.mir.specs.declared.address.Address.{Address}
use Rattle.mir.specs.declared.address.Address.TheVariants.{Stack, Heap, Invalid}
use Rattle.mir.specs.declared.address.CellSize.{CellSize}
use Rattle.mir.specs.declared.address.Interval.{Interval}
use Rattle.mir.specs.declared.mem_fault.MemFault.{MemFault}
use Rattle.mir.specs.declared.mem_fault.MemFault.TheVariants.{UndefinedBehavior, MemoryLimitExceeded, NoMemory}

-- the bytes of the stack and of the heap, and how many each of the two may take beside its first one
pub record Areas : Type 0 where
  pub stack : List ℕ
  pub heap : List ℕ
  pub limit : ℕ

-- before anything was placed: one zero byte in each area, so that nothing has the place 0
abbrev pub first_areas : ℕ → Areas
first_areas limit = record { stack = 0 ∷ []; heap = 0 ∷ []; limit = limit }

-- how many bytes an area has beside its first one
abbrev pub taken : List ℕ → ℕ
taken area = length area - 1

-- each area has its first byte and keeps to the limit, and the limit leaves room for numbers that stand for addresses
pub record IsBounded (areas : Areas) : Type 0 where
  pub stack_begun : 0 < length areas.stack
  pub heap_begun : 0 < length areas.heap
  pub stack_kept : taken areas.stack ≤ areas.limit
  pub heap_kept : taken areas.heap ≤ areas.limit
  pub limit : areas.limit ≤ 2 ^ 59

-- a number of bytes of an area from a place on, where the area has that many there
unfoldable pub part_of : List ℕ → ℕ → ℕ → Option (List ℕ)
part_of area place size = if nat_le (place + size) (length area) then Some (take size (drop place area)) else None

-- the area with other bytes from a place on, where it has as many bytes there
unfoldable pub with_part : List ℕ → ℕ → List ℕ → Option (List ℕ)
with_part area place bytes =
    if nat_le (place + length bytes) (length area)
    then Some (take place area ++ (bytes ++ drop (place + length bytes) area))
    else None

-- the bytes at an address, of which there is at least one
unfoldable pub some_bytes_at : Areas → Address → ℕ → Option (List ℕ)
some_bytes_at areas (Stack place) size = part_of areas.stack place size
some_bytes_at areas (Heap place) size = part_of areas.heap place size
some_bytes_at areas (Invalid n) size = None

-- the bytes at an address; no bytes are at every address
unfoldable pub bytes_at : Areas → Address → ℕ → Option (List ℕ)
bytes_at areas address size = if size == 0 then Some [] else some_bytes_at areas address size

-- the memory with other bytes at an address, of which there is at least one
unfoldable pub with_some_bytes : Areas → Address → List ℕ → Option Areas
with_some_bytes areas (Stack place) bytes = option_map (λ stack. record areas { stack = stack }) (with_part areas.stack place bytes)
with_some_bytes areas (Heap place) bytes = option_map (λ heap. record areas { heap = heap }) (with_part areas.heap place bytes)
with_some_bytes areas (Invalid n) bytes = None

-- the memory with other bytes at an address; no bytes change nothing, at every address
unfoldable pub with_bytes : Areas → Address → List ℕ → Option Areas
with_bytes areas address bytes = if length bytes == 0 then Some areas else with_some_bytes areas address bytes

-- what a refused read says
unfoldable pub bad_read : Address → ℕ → MemFault
bad_read (Invalid n) size =
    UndefinedBehavior (codes "read invalid memory address " ++ (decimal n ++ (codes " with size " ++ decimal size)))
bad_read _ size = UndefinedBehavior (codes "out of bound memory read")

-- what a refused write says
unfoldable pub bad_write : Address → ℕ → MemFault
bad_write (Invalid n) size =
    UndefinedBehavior (codes "write invalid memory address " ++ (decimal n ++ (codes " with size " ++ decimal size)))
bad_write _ size = UndefinedBehavior (codes "out of bound memory write")

-- what a refused alignment says
unfoldable pub bad_align : ℕ → MemFault
bad_align align = UndefinedBehavior (codes "Alignment " ++ (decimal align ++ codes " is invalid"))

-- the bytes at an address, or the fault of reading them
unfoldable pub reading : Areas → Address → ℕ → Result (List ℕ) MemFault
reading areas address size = ok_or (bytes_at areas address size) (bad_read address size)

-- the memory after bytes were written to an address, or the fault
unfoldable pub after_write : Areas → Address → List ℕ → Result Areas MemFault
after_write areas address bytes = ok_or (with_bytes areas address bytes) (bad_write address (length bytes))

-- the memory after the bytes of an interval, as they were before, were written to an address; or the fault of the read, else of the write
unfoldable pub after_copy : Areas → Address → Interval → Result Areas MemFault
after_copy areas to from =
    elim (reading areas from.addr from.size) [ Ok bytes ↦ after_write areas to bytes | Err fault ↦ Err fault ]

-- an area with zeros at its end, up to a length
abbrev pub grown_to : ℕ → List ℕ → List ℕ
grown_to end area = area ++ replicate (end - length area) 0

-- where a cell begins that is placed behind `end` bytes: at the first place from there on that its alignment divides
abbrev pub start_behind : ℕ → CellSize → ℕ
start_behind end cell = next_multiple_of end cell.align

-- where it ends
abbrev pub end_behind : ℕ → CellSize → ℕ
end_behind end cell = start_behind end cell + cell.size

-- the intervals of cells that are placed in order behind `end` bytes of the stack
unfoldable pub cells_behind : ℕ → List CellSize → List Interval
cells_behind end [] = []
cells_behind end (cell ∷ cells) = record { addr = Stack (start_behind end cell); size = cell.size } ∷ cells_behind (end_behind end cell) cells

-- how many bytes there are with the last of them
unfoldable pub length_behind : ℕ → List CellSize → ℕ
length_behind end [] = end
length_behind end (cell ∷ cells) = length_behind (end_behind end cell) cells

-- the intervals of new zeroed cells at the stack's end, and the memory with all of them, where the stack keeps to the limit
unfoldable pub after_push : Areas → List CellSize → Result (List Interval × Areas) MemFault
after_push areas cells =
    let end = length_behind (length areas.stack) cells in
    if nat_le (end - 1) areas.limit
    then Ok (cells_behind (length areas.stack) cells, record areas { stack = grown_to end areas.stack })
    else Err MemoryLimitExceeded

-- an alignment that a block of the heap may have
abbrev pub is_heap_align : ℕ → Bool
is_heap_align align = is_power_of_two align && nat_le align 10000

-- the address of a new zeroed block that begins at a place behind the heap, and the memory with it, where the heap keeps to the limit
unfoldable pub after_block : Areas → ℕ → ℕ → Result (Address × Areas) MemFault
after_block areas place size =
    if nat_le (place + size - 1) areas.limit
    then Ok (Heap place, record areas { heap = grown_to (place + size) areas.heap })
    else Err MemoryLimitExceeded

-- the same of a block of an alignment: it begins at the first place from the heap's end on that the alignment divides
unfoldable pub after_allocation : Areas → ℕ → ℕ → Result (Address × Areas) MemFault
after_allocation areas size align =
    if is_heap_align align then after_block areas (next_multiple_of (length areas.heap) align) size else Err (bad_align align)

-- a fault is the one that is meant, or there was no memory for its text
abbrev pub IsFault : MemFault → MemFault → Type 0
IsFault meant fault = (fault ≡ meant) ⊎ (fault ≡ NoMemory)

-- no byte is in both of two ranges of an area, each given by its first place and its size
abbrev pub AreRangesApart : ℕ → ℕ → ℕ → ℕ → Type 0
AreRangesApart first size second more = (k : ℕ) → first ≤ k → k < first + size → second ≤ k → k < second + more → ⊥

-- no byte is in both of two intervals
unfoldable pub AreApart : Interval → Interval → Type 0
AreApart one other = apart one.addr other.addr
  where
    apart : Address → Address → Type 0
    apart (Stack first) (Stack second) = AreRangesApart first one.size second other.size
    apart (Heap first) (Heap second) = AreRangesApart first one.size second other.size
    apart _ _ = Unit {0}
