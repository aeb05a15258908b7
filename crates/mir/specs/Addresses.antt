-- The numbers that stand for addresses where a program holds them as a `usize`.
use Rattle.std.specs.Prelude.{ℕ, ◌+◌, ◌-◌, ◌^◌, if◌then◌else◌, nat_lt}
use Rattle.mir.specs.declared.address.Address.{Address}
use Rattle.mir.specs.declared.address.Address.TheVariants.{Stack, Heap, Invalid}

-- the address that a number stands for: the stack's come after the heap's, and what comes before both is in neither
abbrev pub address_of : ℕ → Address
address_of n = if nat_lt (2 ^ 60) n then Stack (n - 2 ^ 60) else (if nat_lt (2 ^ 59) n then Heap (n - 2 ^ 59) else Invalid n)

-- the number that stands for an address
abbrev pub usize_of : Address → ℕ
usize_of (Stack place) = place + 2 ^ 60
usize_of (Heap place) = place + 2 ^ 59
usize_of (Invalid n) = n

-- the address that is a number of bytes further on
abbrev pub moved : Address → ℕ → Address
moved (Stack place) by = Stack (place + by)
moved (Heap place) by = Heap (place + by)
moved (Invalid n) by = Invalid (n + by)
