-- No command of a workload asks anything of the shelf.
use Rattle.std.specs.Prelude.{ℕ, zero, suc, Bool, true, false, nat_lt, if◌then◌else◌, List, [], ◌∷◌, ◌++◌, replicate, codes, All, IsTrue}
use Rattle.std.proofs.Common.{refl}
use Rattle.std.proofs.lemmas.List.Elements.{All-nil, All-cons, All-append, All-replicate}
use Rattle.sg_script.specs.declared.command.Command.{Command}
use Rattle.sg_script.specs.declared.command.Command.TheVariants.{New, Next, InsertAfter, Text, Undo, Redo}
use Rattle.sg_editor.specs.Ask.{asks_nothing}
use Rattle.sg_workload.specs.Workload.{number_at, statement_of, place_made, written, statements, turns, workload}

abbrev IsQuiet : Command → Type 0
IsQuiet c = IsTrue (asks_nothing c)

one_quiet : (c : Command) → IsQuiet c → (cs : List Command) → All IsQuiet cs → All IsQuiet (c ∷ cs)
one_quiet c q cs qs = All-cons IsQuiet c cs q qs

place_quiet : (i : ℕ) → All IsQuiet (place_made i)
place_quiet i = by (nat_lt 1 i)
  where
    by : (b : Bool) → All IsQuiet (if b then InsertAfter ∷ [] else [])
    by true = one_quiet InsertAfter refl [] (All-nil IsQuiet)
    by false = All-nil IsQuiet

written_quiet : (n i : ℕ) → All IsQuiet (written n i)
written_quiet n i =
    All-append IsQuiet (place_made i) _ (place_quiet i)
    (one_quiet (Text (statement_of (number_at n i))) refl [] (All-nil IsQuiet))

statements_quiet : (n k : ℕ) → All IsQuiet (statements n k)
statements_quiet n zero = All-nil IsQuiet
statements_quiet n (suc k) =
    All-append IsQuiet (statements n k) (written n (suc k)) (statements_quiet n k) (written_quiet n (suc k))

-- behind the opening
abbrev behind : ℕ → List Command
behind n = statements n n ++ replicate (turns n) Undo ++ replicate (turns n) Redo

behind_quiet : (n : ℕ) → All IsQuiet (behind n)
behind_quiet n =
    All-append IsQuiet (statements n n ++ replicate (turns n) Undo) (replicate (turns n) Redo)
    (All-append IsQuiet (statements n n) (replicate (turns n) Undo) (statements_quiet n n) (All-replicate IsQuiet (turns n) Undo refl))
    (All-replicate IsQuiet (turns n) Redo refl)

pub quiet : (n : ℕ) → All (λ c. IsTrue (asks_nothing c)) (workload n)
quiet n =
    one_quiet (New (codes "main")) refl (Next ∷ Next ∷ behind n) (one_quiet Next refl (Next ∷ behind n) (one_quiet Next refl (behind n) (behind_quiet n)))
