-- The bytes that a source in memory has left, and those that a sink in memory has.
use Rattle.std.specs.Prelude.{ℕ, ◌-◌, List, length, drop}
use Rattle.streams.specs.declared.bytes_source.BytesSource.{BytesSource}
use Rattle.streams.specs.declared.bytes_sink.BytesSink.{BytesSink}
use Rattle.streams.specs.declared.steady.SteadySource.{SteadySource}

abbrev pub left_of : BytesSource → List ℕ
left_of source = drop source.at source.bytes

abbrev pub left_of_steady : SteadySource → List ℕ
left_of_steady source = drop source.at source.bytes

abbrev pub written_to : BytesSink → List ℕ
written_to sink = sink.bytes.items

-- how many more bytes the sink accepts
abbrev pub room_of : BytesSink → ℕ
room_of sink = sink.room - length sink.bytes.items
