-- The command line, without the program's name.
use Rattle.std.specs.Prelude.{Bool, true, false, List, [], ◌∷◌, String, string_bytes, bytes_eq, codes}
use Rattle.std.specs.declared.alloc.Global.{Global}

-- whether the arguments of the program are a command to evaluate the input: none, or `eval` alone
abbrev pub is_command : List (String Global) → Bool
is_command [] = true
is_command (word ∷ []) = bytes_eq (string_bytes word) (codes "eval")
is_command (word ∷ other ∷ words) = false
