-- Changes of a term, each with what is selected and shown before and after it.
use Rattle.std.specs.Prelude.{Option, Some, None, option_and_then, unwrap_or}
use Rattle.sg_kinds.specs.Terms.{Term, Leaf, Node}
use Rattle.sg_kinds.specs.Places.{Place, sub, put}
use Rattle.sg_changes.specs.declared.direction.Direction.{Direction}
use Rattle.sg_changes.specs.declared.direction.Direction.TheVariants.{Back, Forth}
use Rattle.sg_changes.specs.declared.spot.Spot.{Spot}
use Rattle.sg_changes.specs.declared.step.Marks.{Marks}

-- the first of two for the way back, the second for the way forth
abbrev pub chosen : {A : Type 0} → Direction → A → A → A
chosen Back back forth = back
chosen Forth back forth = forth

-- the other way
abbrev pub opposite : Direction → Direction
opposite Back = Forth
opposite Forth = Back

-- another subterm at a place, or other marks of the node there: the old ones before the new ones
pub data Change : Type 0 where
  Put : Place → Term → Term → Spot → Spot → Change
  Mark : Place → Marks → Marks → Spot → Spot → Change

abbrev pub before_of : Change → Spot
before_of (Put u old new before after) = before
before_of (Mark u old new before after) = before

abbrev pub after_of : Change → Spot
after_of (Put u old new before after) = after
after_of (Mark u old new before after) = after

-- what is selected and shown where a way leads along a change
abbrev pub spot_along : Direction → Change → Spot
spot_along Back = before_of
spot_along Forth = after_of

-- the subterm at a place; the term itself where it has no such place
abbrev pub part_of : Term → Place → Term
part_of t u = unwrap_or (sub t u) t

-- the marks of a node, None of a leaf
abbrev pub marks_of : Term → Option Marks
marks_of (Leaf p v) = None
marks_of (Node op scheme elided ts) = Some (record { scheme = scheme; elided = elided })

-- and of the node at a place
abbrev pub marks_at : Term → Place → Option Marks
marks_at t u = option_and_then marks_of (sub t u)

-- a term with other marks at its top
abbrev pub with_marks : Term → Marks → Term
with_marks (Leaf p v) marks = Leaf p v
with_marks (Node op scheme elided ts) marks = Node op marks.scheme marks.elided ts

-- and at a place
abbrev pub marked : Term → Place → Marks → Term
marked t u marks = put t u (with_marks (part_of t u) marks)

-- the term before a change of it
abbrev pub undone : Term → Change → Term
undone t (Put u old new before after) = put t u old
undone t (Mark u old new before after) = marked t u old

-- the term after a change of it
abbrev pub redone : Term → Change → Term
redone t (Put u old new before after) = put t u new
redone t (Mark u old new before after) = marked t u new

-- the term to which a way leads along a change of it
abbrev pub term_along : Direction → Term → Change → Term
term_along Back = undone
term_along Forth = redone
