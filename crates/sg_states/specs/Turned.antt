-- Marks that are turned: the next scheme, after the last one the first, or the elided mark.
use Rattle.std.specs.Prelude.{ℕ, ◌+◌, ◌%◌, Bool, not, nat_lt, if◌then◌else◌, Option, Some, None}
use Rattle.sg_kinds.specs.Terms.{Term, Leaf, Node}
use Rattle.sg_kinds.specs.declared.spec.Spec.{Spec}
use Rattle.sg_changes.specs.declared.step.Marks.{Marks}
use Rattle.sg_unparse.specs.Printing.{count_of}
use Rattle.sg_states.specs.declared.marks.Mark.{Mark}
use Rattle.sg_states.specs.declared.marks.Mark.TheVariants.{Alternate, Elide}

abbrev pub marks : ℕ → Bool → Marks
marks scheme elided = record { scheme = scheme; elided = elided }

-- the marks of a node of an operator with so many schemes, once they are turned; None where there is no other scheme
abbrev pub turned : Mark → ℕ → Marks → Option Marks
turned Alternate count m =
    if nat_lt 1 count then Some (marks ((m.scheme + 1) % count) m.elided) else None
turned Elide count m = Some (marks m.scheme (not m.elided))

-- and of the node at the top of a term; None at a leaf
abbrev pub turned_in : Spec → Mark → Term → Option Marks
turned_in spec mark (Leaf p v) = None
turned_in spec mark (Node op scheme elided ts) = turned mark (count_of spec op) (marks scheme elided)
