-- The pieces of a view of bytes of a memory.
use Rattle.std.specs.Prelude.{ℕ, List, [], ◌∷◌}

-- the bytes as one piece, or as none if there are no bytes
abbrev pub pieces_of : List ℕ → List (List ℕ)
pieces_of [] = []
pieces_of (byte ∷ bytes) = (byte ∷ bytes) ∷ []
