-- What the program writes of a fault.
use Rattle.std.specs.Prelude.{ℕ, List, ◌++◌, codes, decimal}
use Rattle.vecbench_lines.specs.declared.fault.Fault.{Fault}
use Rattle.vecbench_lines.specs.declared.fault.Fault.TheVariants.{UnknownCommand, NotAscending, NotANumberOrKey, WrongCount, NoMemory}

-- the number of a fault
abbrev pub number_of : Fault → ℕ
number_of UnknownCommand = 1
number_of NotAscending = 2
number_of NotANumberOrKey = 3
number_of WrongCount = 4
number_of NoMemory = 5

-- the text of a fault
abbrev pub text_of : Fault → List ℕ
text_of UnknownCommand = codes "unknown command"
text_of NotAscending = codes "not ascending"
text_of NotANumberOrKey = codes "not a number or key"
text_of WrongCount = codes "wrong count of words"
text_of NoMemory = codes "no memory"

-- the answer to line `line`, which has the fault
abbrev pub fault_line : ℕ → Fault → List ℕ
fault_line line fault =
    codes "line " ++ decimal line ++ codes ": fault " ++ decimal (number_of fault) ++ codes ": " ++ text_of fault ++ codes "\n"
