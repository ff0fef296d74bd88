-- The workload of n statements: the commands that write a program and then undo and redo its last changes.
use Rattle.std.specs.Prelude.{ℕ, zero, suc, ◌+◌, ◌*◌, ◌/◌, ◌%◌, nat_eq, nat_lt, min, if◌then◌else◌, List, [], ◌∷◌, ◌++◌, replicate, codes}
use Rattle.std.specs.Fmt.{decimal}
use Rattle.sg_script.specs.declared.command.Command.{Command}
use Rattle.sg_script.specs.declared.command.Command.TheVariants.{New, Next, InsertAfter, Text, Undo, Redo}

-- the numbers from which the statements are drawn: the first is n, and each next one comes from the one before
abbrev pub next_number : ℕ → ℕ
next_number x = (x * 1103515245 + 12345) % 2147483648

abbrev pub number_at : (n i : ℕ) → ℕ
number_at n zero = n
number_at n (suc i) = next_number (number_at n i)

-- the statement of such a number, by its upper bits: the declaration of one of eight names, or its print
abbrev pub declaration : (name value : ℕ) → List ℕ
declaration name value = codes "let v" ++ decimal name ++ codes " = " ++ decimal value

abbrev pub print : (name : ℕ) → List ℕ
print name = codes "print v" ++ decimal name

abbrev pub statement_by : ℕ → List ℕ
statement_by y = if nat_eq (y / 8 % 2) 0 then declaration (y % 8) (y % 1000) else print (y % 8)

abbrev pub statement_of : ℕ → List ℕ
statement_of x = statement_by (x / 65536)

-- the commands that write the i-th statement, from 1: each but the first is put behind the one before
abbrev pub place_made : ℕ → List Command
place_made i = if nat_lt 1 i then InsertAfter ∷ [] else []

abbrev pub written : (n i : ℕ) → List Command
written n i = place_made i ++ Text (statement_of (number_at n i)) ∷ []

-- those that write the first k statements
abbrev pub statements : (n k : ℕ) → List Command
statements n zero = []
statements n (suc k) = statements n k ++ written n (suc k)

-- how many changes are undone, and then done again
abbrev pub turns : ℕ → ℕ
turns n = min n 100

-- a buffer whose first statement is selected, all statements, and the turns back and forth
abbrev pub opening : List Command
opening = New (codes "main") ∷ Next ∷ Next ∷ []

abbrev pub workload : ℕ → List Command
workload n = opening ++ statements n n ++ replicate (turns n) Undo ++ replicate (turns n) Redo
