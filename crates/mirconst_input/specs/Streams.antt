-- What a run reads from and writes to, at one moment.
use Rattle.std.specs.Prelude.{ℕ, List, Option, None}

-- A source of bytes and a sink for bytes at one moment: the bytes that are not yet read, how many reads have failed, the
-- bytes that were written, and how many writes have failed. The bytes are `None` where the contract of the source or
-- of the sink leaves them open, as for the standard input and output; a count stays at the greatest `u64`.
pub record Streams : Type 0 where
  pub left : Option (List ℕ)
  pub failed_reads : ℕ
  pub written : Option (List ℕ)
  pub failed_writes : ℕ

-- a source and a sink, from the four parts of their state
abbrev pub streams_of : Option (List ℕ) → ℕ → Option (List ℕ) → ℕ → Streams
streams_of left failed_reads written failed_writes = record { left = left; failed_reads = failed_reads; written = written; failed_writes = failed_writes }

-- a source from which bytes are read while nothing is written: the bytes that were written are left open
abbrev pub source_alone : Option (List ℕ) → ℕ → Streams
source_alone left failed_reads = streams_of left failed_reads None 0
