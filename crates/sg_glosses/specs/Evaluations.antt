-- Which commands evaluate something, and what.
use Rattle.std.specs.Prelude.{◌≡◌, ℕ, Bool, true, false, not, ◌||◌, List, ◌∷◌, Some, slice_get}
use Rattle.sg_kinds.specs.Values.{Bytes}
use Rattle.sg_kinds.specs.Terms.{Term}
use Rattle.sg_kinds.specs.Places.{Place, put}
use Rattle.sg_kinds.specs.Instances.{instances}
use Rattle.sg_kinds.specs.Specification.{rules_of}
use Rattle.sg_kinds.specs.declared.spec.Spec.{Spec}
use Rattle.sg_groves.specs.Evaluated.{evaluated}
use Rattle.sg_changes.specs.Changes.{Change, Put, part_of}
use Rattle.sg_changes.specs.declared.direction.Direction.{Direction}
use Rattle.sg_script.specs.declared.command.Command.{Command}
use Rattle.sg_script.specs.declared.command.Command.TheVariants as command
use Rattle.sg_states.specs.States.{State, ahead, begun, gone}
use Rattle.sg_commands.specs.Turns.{evaluated_along}
use Rattle.sg_editor.specs.Ask.{Step}
use Rattle.sg_editor.specs.Session.{Session, current_of}

-- whether a command makes a new buffer, puts a subterm in the place of another, turns a mark, or goes along a change
abbrev pub is_opening : Command → Bool
is_opening (command.New name) = true
is_opening (command.Load name file) = true
is_opening c = false

abbrev pub is_replacement : Command → Bool
is_replacement (command.Do name) = true
is_replacement (command.ReplaceAll name) = true
is_replacement command.Delete = true
is_replacement command.Remove = true
is_replacement command.InsertBefore = true
is_replacement command.InsertAfter = true
is_replacement command.Cut = true
is_replacement command.Paste = true
is_replacement (command.Text text) = true
is_replacement command.Enter = true
is_replacement c = false

abbrev pub is_mark : Command → Bool
is_mark command.Alternate = true
is_mark command.Elide = true
is_mark c = false

abbrev pub is_travel : Command → Bool
is_travel command.Undo = true
is_travel command.Redo = true
is_travel c = false

-- whether a command changes the term while nothing is being typed
abbrev pub changes : Command → Bool
changes command.Enter = false
changes c = is_replacement c || is_mark c

-- all others, and marks, never evaluate anything
abbrev pub evaluates_nothing : Command → Bool
evaluates_nothing c = not (is_opening c || is_replacement c || is_travel c)

-- a step has made a new buffer, which is current, and evaluates every equation of its term
pub record HasOpened (spec : Spec) (step : Step) : Type 0 where
  pub name : Bytes
  pub term : Term
  pub current : current_of step.session ≡ Some (name, begun term)
  pub set : step.set ≡ instances (rules_of spec) term

-- a step has put a subterm at a place of the current buffer's term, which is its newest change, and evaluates the
-- equations of the new subterm, and of the others those with a changed argument
pub record HasReplaced (spec : Spec) (s : Session) (step : Step) : Type 0 where
  pub name : Bytes
  pub old : State
  pub new : State
  pub before : current_of s ≡ Some (name, old)
  pub after : current_of step.session ≡ Some (name, new)
  pub place : Place
  pub subterm : Term
  pub term : new.term ≡ put old.term place subterm
  pub newest : slice_get new.past 0 ≡ Some (Put place (part_of old.term place) subterm old.spot new.spot)
  pub set : step.set ≡ evaluated spec old.term place subterm

-- a step has gone along the nearest change that way, and evaluates what the exchange of its subterms does; of marks
-- nothing
pub record HasGone (spec : Spec) (height : ℕ) (d : Direction) (s : Session) (step : Step) : Type 0 where
  pub name : Bytes
  pub old : State
  pub change : Change
  pub others : List Change
  pub before : current_of s ≡ Some (name, old)
  pub nearest : ahead d old ≡ change ∷ others
  pub after : current_of step.session ≡ Some (name, gone spec height d old)
  pub set : step.set ≡ evaluated_along d spec old.term change
