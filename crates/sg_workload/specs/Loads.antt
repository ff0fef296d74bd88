-- What a workload of n statements comes to, in an editor of a specification whose texts are read so.
use Rattle.std.specs.Prelude.{ℕ, ◌+◌, List, [], ◌∷◌, ◌++◌, length, codes, option_and_then, unwrap_or}
use Rattle.std.specs.Option.{option_map_or}
use Rattle.std.specs.Fmt.{decimal}
use Rattle.sg_kinds.specs.Values.{Bytes}
use Rattle.sg_kinds.specs.Terms.{nodes_of}
use Rattle.sg_kinds.specs.declared.spec.Spec.{Spec}
use Rattle.sg_script.specs.declared.command.Command.{Command}
use Rattle.sg_script.specs.declared.message.Message.TheVariants.{Fine}
use Rattle.sg_states.specs.States.{State}
use Rattle.sg_printing.specs.Shown.{shown}
use Rattle.sg_workload.specs.Workload.{workload}
use Rattle.sg_editor.specs.Session.{Session, start, current_of}
use Rattle.sg_editor.specs.Ask.{Readers, Step, Ask, Tells, Asks, says, ask}

-- the step of a command that asks nothing of the shelf; another one is left out
abbrev pub step_by : Session → Ask → Step
step_by s (Tells step) = step
step_by s (Asks request next) = says s Fine

-- the session after commands, and how many equations they evaluated
pub record Played : Type 0 where
  pub session : Session
  pub evaluated : ℕ

module _ (spec : Spec) (height : ℕ) (readers : Readers) where
  abbrev pub step_of : Session → Command → Step
  step_of s c = step_by s (ask spec height readers s c)

  abbrev pub played : Session → List Command → Played
  played s [] = record { session = s; evaluated = 0 }
  played s (c ∷ commands) = record {
    session = (played (step_of s c).session commands).session;
    evaluated = length (step_of s c).set + (played (step_of s c).session commands).evaluated;
  }

-- how many nodes the term of the current buffer has
abbrev pub nodes_in : Session → ℕ
nodes_in s = option_map_or (λ (b : Bytes × State). nodes_of b.1.term) (current_of s) 0

-- the slot of `errs`, which stands behind `e` among the attributes of the list
abbrev pub errs : ℕ
errs = 1

-- how many errors there are, as the list below the root tells it
abbrev pub errors_in : Spec → Session → Bytes
errors_in spec s =
    unwrap_or (option_and_then (λ (b : Bytes × State). shown spec b.1.term (0 ∷ []) errs) (current_of s)) []

-- the line of a workload
abbrev pub line_of : (n nodes : ℕ) → (errors : Bytes) → (evaluated : ℕ) → Bytes
line_of n nodes errors evaluated =
    codes "load " ++ decimal n ++ codes " nodes " ++ decimal nodes ++ codes " errors " ++ errors ++ codes " evaluated "
    ++ decimal evaluated ++ 10 ∷ []

-- the window that no screen shows
abbrev pub window_height : ℕ
window_height = 24

-- all its commands from the first session on, how many equations they evaluate, and the line at their end
unfoldable pub worked : Spec → Readers → ℕ → Played
worked spec readers n = played spec window_height readers start (workload n)

abbrev pub work : Spec → Readers → ℕ → ℕ
work spec readers n = (worked spec readers n).evaluated

abbrev pub work_line : Spec → Readers → ℕ → Bytes
work_line spec readers n =
    let s = (worked spec readers n).session in line_of n (nodes_in s) (errors_in spec s) (work spec readers n)
