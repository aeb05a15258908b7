-- What a cell holds, as all else uses it: it is copied as it is, bytes are put into it, and an operation reads it as bytes.
use Rattle.std.specs.Prelude.{ℕ, List}

-- one element of what a cell holds: a byte
abbrev pub Element : Type 0
Element = ℕ

-- What a cell holds. Its parts are parts of the list.
abbrev pub Contents : Type 0
Contents = List Element

-- the contents that are these bytes
abbrev pub holding : List ℕ → Contents
holding bytes = bytes

-- contents read as bytes
abbrev pub bytes_in : Contents → List ℕ
bytes_in contents = contents
