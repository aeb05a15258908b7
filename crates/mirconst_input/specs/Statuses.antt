-- The exit codes of the program for the ways in which a run ends, and the lines that it prints for them.
use Rattle.std.specs.Prelude.{ℕ, List, [], ◌++◌, codes}
use Rattle.mirconst_input.specs.declared.status.Status.{Status}
use Rattle.mirconst_input.specs.declared.status.Status.TheVariants.{Values, Errors, BadWords, NotJson, NotAWorld, BadWorld, TooLong, ReadFault, WriteFault, NoMemory}
use Rattle.world_check.specs.declared.fault.CheckRow.{CheckRow}
use Rattle.world_check.specs.declared.fault.CheckRow.TheVariants.{C1, C2, C3, C4, C5, C6, C7}

-- the exit code of the program
abbrev pub code_of : Status → ℕ
code_of Values = 0
code_of Errors = 1
code_of BadWords = 2
code_of NotJson = 3
code_of (NotAWorld path) = 4
code_of (BadWorld invalid) = 5
code_of TooLong = 6
code_of ReadFault = 7
code_of WriteFault = 8
code_of NoMemory = 9

-- the name of a condition in the check of a world
abbrev pub row_text : CheckRow → List ℕ
row_text C1 = codes "C1"
row_text C2 = codes "C2"
row_text C3 = codes "C3"
row_text C4 = codes "C4"
row_text C5 = codes "C5"
row_text C6 = codes "C6"
row_text C7 = codes "C7"

-- the line that the program prints for the way in which a run ends; empty if the results of all goals were written
abbrev pub line_of : Status → List ℕ
line_of Values = []
line_of Errors = []
line_of BadWords = codes "usage: mirconst [eval [--blocks N] [--nesting N] [--bytes N] | make N]"
line_of NotJson = codes "mirconst: input is not JSON"
line_of (NotAWorld path) = codes "mirconst: not a world: " ++ path
line_of (BadWorld invalid) = codes "mirconst: world fails " ++ (row_text invalid.row ++ (codes " at " ++ invalid.place))
line_of TooLong = codes "mirconst: input is longer than 67108864 bytes"
line_of ReadFault = codes "mirconst: read fault"
line_of WriteFault = codes "mirconst: write fault"
line_of NoMemory = codes "mirconst: no memory"
