-- A run that ends without a report, from its parts.
use Rattle.std.proofs.Common.{◌≡◌, ℕ, Bool, List, String}
use Rattle.std.specs.declared.alloc.Global.{Global}
use Rattle.streams.specs.Faults.{HasCause}
use Rattle.mirconst_input.specs.Refusals.{IsOfReading, IsOfInput}
use Rattle.mirconst_input.specs.Input.{IsReadToEnd}
use Rattle.mirconst_input.specs.Streams.{Streams, source_alone}
use Rattle.mirconst_run.specs.Runs.{IsBegun, IsReportOf, Stops, Means}
use Rattle.mirconst_input.specs.declared.status.Status.{Status}
use Rattle.mirconst_input.specs.declared.status.Status.TheVariants.{Values, Errors, BadWords, NotJson, NotAWorld, BadWorld, TooLong, ReadFault, WriteFault, NoMemory}

-- reading the input failed
pub unread : (before after : Streams) (status : Status) → after.written ≡ before.written →
    IsOfReading (source_alone before.left before.failed_reads) (source_alone after.left after.failed_reads) status → Stops before after status
unread before after Values silent is = absurd is
unread before after Errors silent is = absurd is
unread before after BadWords silent is = absurd is
unread before after NotJson silent is = absurd is
unread before after (NotAWorld path) silent is = absurd is
unread before after (BadWorld invalid) silent is = absurd is
unread before after TooLong silent is = record { longer = is.longer; taken = is.taken; nothing_written = silent }
unread before after ReadFault silent is = record { cause = is; nothing_written = silent }
unread before after WriteFault silent is = absurd is
unread before after NoMemory silent is = record { nothing_written = silent }

-- the input was read, and is no checked world with goals that fit it
pub refused : (before after : Streams) (bytes : List ℕ) (status : Status) → after.written ≡ before.written →
    IsReadToEnd before.left after.left bytes → IsOfInput bytes status → Stops before after status
refused before after bytes Values silent read is = absurd is
refused before after bytes Errors silent read is = absurd is
refused before after bytes BadWords silent read is = absurd is
refused before after bytes NotJson silent read is = record { bytes = bytes; read = read; no_json = is; nothing_written = silent }
refused before after bytes (NotAWorld path) silent read is = record { bytes = bytes; read = read; misfit = is; nothing_written = silent }
refused before after bytes (BadWorld invalid) silent read is = record { bytes = bytes; read = read; fails = is; nothing_written = silent }
refused before after bytes TooLong silent read is = absurd is
refused before after bytes ReadFault silent read is = absurd is
refused before after bytes WriteFault silent read is = absurd is
refused before after bytes NoMemory silent read is = record { nothing_written = silent }

-- writing the report failed
pub unwritten : (before after : Streams) (bytes text : List ℕ) (all : Bool) → IsReadToEnd before.left after.left bytes → IsReportOf bytes text all →
    IsBegun text before.written after.written → HasCause before.failed_writes after.failed_writes → Stops before after WriteFault
unwritten before after bytes text all read reports begun cause =
    record {
      bytes = bytes;
      read = read;
      cause = cause;
      begun = record { text = text; all = all; is_report = reports; begun = begun };
    }

-- what the status says of a run that ends without a report
pub stop_means : (words : List (String Global)) (before after : Streams) (status : Status) → Stops before after status → Means words before after status
stop_means words before after Values stops = absurd stops
stop_means words before after Errors stops = absurd stops
stop_means words before after BadWords stops = absurd stops
stop_means words before after NotJson stops = stops
stop_means words before after (NotAWorld path) stops = stops
stop_means words before after (BadWorld invalid) stops = stops
stop_means words before after TooLong stops = stops
stop_means words before after ReadFault stops = stops
stop_means words before after WriteFault stops = stops
stop_means words before after NoMemory stops = stops
