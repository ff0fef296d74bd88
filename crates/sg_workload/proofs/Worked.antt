-- Workloads of one and of two statements.
use Rattle.std.specs.Prelude.{◌≡◌, [], ◌∷◌, ◌++◌}
use Rattle.std.proofs.Common.{refl}
use Rattle.sg_script.specs.declared.command.Command.TheVariants.{InsertAfter, Text, Undo, Redo}
use Rattle.sg_workload.specs.Workload.{declaration, print, statement_of, number_at, opening, workload}

first_of_one : statement_of (number_at 1 1) ≡ declaration 6 838
first_of_one = refl

first_of_two : statement_of (number_at 2 1) ≡ print 4
first_of_two = refl

second_of_two : statement_of (number_at 2 2) ≡ declaration 1 817
second_of_two = refl

one : workload 1 ≡ opening ++ Text (declaration 6 838) ∷ Undo ∷ Redo ∷ []
one = refl

two : workload 2
    ≡ opening ++ Text (print 4) ∷ InsertAfter ∷ Text (declaration 1 817) ∷ Undo ∷ Undo ∷ Redo ∷ Redo ∷ []
two = refl
