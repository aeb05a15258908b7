-- The memory that two lists of bytes are.
use Rattle.std.specs.Prelude.{ℕ, ◌+◌, ◌-◌, ◌≤◌}
use Rattle.std.proofs.Common.{arith}
use Rattle.mir.specs.Areas.{Areas, IsBounded}
use Rattle.mir_mem.specs.declared.flat.FlatMemory.{FlatMemory}

abbrev pub areas_of : FlatMemory → Areas
areas_of memory = record { stack = memory.stack.items; heap = memory.heap.items; limit = memory.limit }

one_less : (length limit : ℕ) → length ≤ limit + 1 → length - 1 ≤ limit
one_less length limit h = omega arith

pub bounds_of : (memory : FlatMemory) → IsBounded (areas_of memory)
bounds_of memory = record {
  stack_begun = memory.stack_begun;
  heap_begun = memory.heap_begun;
  stack_kept = one_less _ _ memory.stack_kept;
  heap_kept = one_less _ _ memory.heap_kept;
  limit = memory.limit_kept;
}
