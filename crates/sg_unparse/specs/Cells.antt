-- The cells that a term writes, each with the node that owns it, and where each node ends.
use Rattle.std.specs.Prelude.{ℕ, zero, suc, ◌+◌, ◌-◌, ◌*◌, Bool, true, false, ◌==◌, if◌then◌else◌, List, [], ◌∷◌, ◌++◌, map, replicate, codes, Option, Some, None, option_map, unwrap_or}
use Rattle.sg_kinds.specs.Values.{Bytes, Value}
use Rattle.sg_kinds.specs.Terms.{Term, Terms, Leaf, Node, NoTerm, AndTerm}
use Rattle.sg_kinds.specs.Places.{Place}
use Rattle.sg_kinds.specs.Nets.{Reference}
use Rattle.sg_kinds.specs.Typing.{slot_type}
use Rattle.sg_kinds.specs.declared.spec.Occurrence.{Occurrence}
use Rattle.sg_kinds.specs.declared.spec.Spec.{Spec}
use Rattle.sg_kinds.specs.declared.spec.Scheme.{Scheme}
use Rattle.sg_kinds.specs.declared.spec.Piece.{Piece}
use Rattle.sg_kinds.specs.declared.spec.Piece.TheVariants.{Written, Newline, Margin}
use Rattle.sg_kinds.specs.declared.spec.Item.{Item}
use Rattle.sg_kinds.specs.declared.spec.Item.TheVariants.{Writes as WritesPieces, Child, Shows, Separates}
use Rattle.sg_kinds.specs.declared.marks.ChildPlace.{ChildPlace}
use Rattle.sg_kinds.specs.declared.marks.ChildPlace.TheVariants.{Resting, Passed, Hidden}
use Rattle.sg_unparse.specs.Printing.{value_text, scheme_of}

-- a byte of a cell with its owner, or the end of a node with how many cells were written for it
pub data Mark : Type 0 where
  Writes : ℕ → Place → Mark
  Closed : Place → ℕ → Mark

-- what is written from a margin on, and the margin behind it
abbrev pub Writing : Type 0
Writing = ℕ → List Mark × ℕ

abbrev pub nothing : Writing
nothing m = ([], m)

abbrev pub in_turn : Writing → Writing → Writing
in_turn f g m = ((f m).0 ++ (g (f m).1).0, (g (f m).1).1)

-- bytes as they are; a newline and as many blanks as the margin
abbrev pub as_they_are : Place → Bytes → Writing
as_they_are u s m = (map (λ b. Writes b u) s, m)

abbrev pub newline : Place → Writing
newline u m = as_they_are u (10 ∷ replicate m 32) m

-- a text in which a byte 10 acts as a newline
abbrev pub plain : Place → Bytes → Writing
plain u [] = nothing
plain u (b ∷ s) = in_turn (if b == 10 then newline u else as_they_are u (b ∷ [])) (plain u s)

-- the pieces of a string: a step of the margin takes 2 away so many times, never below 0, and then adds 2 so many times
abbrev pub piece : Place → Piece → Writing
piece u (Written s) = as_they_are u s
piece u Newline = newline u
piece u (Margin back on) = λ m. ([], (m - 2 * back) + 2 * on)

abbrev pub pieces : Place → List Piece → Writing
pieces u [] = nothing
pieces u (p ∷ ps) = in_turn (piece u p) (pieces u ps)

-- how many cells are among marks, and what a node writes with its end behind it
abbrev pub cells_in : List Mark → ℕ
cells_in [] = 0
cells_in (Writes b u ∷ marks) = suc (cells_in marks)
cells_in (Closed u n ∷ marks) = cells_in marks

abbrev pub ended : Place → Writing → Writing
ended u f m = ((f m).0 ++ Closed u (cells_in (f m).0) ∷ [], (f m).1)

-- a child at its place
abbrev pub placed : ChildPlace → Writing → Writing
placed Resting kid = kid
placed Passed kid = kid
placed Hidden kid = nothing

-- whether the second child of a list's node has children, so that its separator is shown
abbrev pub has_kids : Term → Bool
has_kids (Node op n elided (AndTerm t ts)) = true
has_kids t = false

abbrev pub goes_on : Terms → Bool
goes_on (AndTerm first (AndTerm second ts)) = has_kids second
goes_on ts = false

-- an occurrence of the operator at a place
abbrev pub reference : Place → Occurrence → Reference Place
reference u o = record { node = elim o.at [ zero ↦ u | suc k ↦ k ∷ u ]; slot = o.slot }

abbrev pub items_of : Spec → ℕ → ℕ → List Item
items_of spec op n = unwrap_or (option_map (λ (s : Scheme). s.items) (scheme_of spec op n)) []

-- the values that are shown, and the text that is typed in the place of a node
module _ (spec : Spec) (value : Reference Place → Value) (typed : Place → Option Bytes) where
  -- an occurrence with its value
  abbrev pub shows : Place → ℕ → Occurrence → Writing
  shows u op o = plain u (value_text spec (unwrap_or (slot_type spec op o.at o.slot) 0) (value (reference u o)))

  -- the items of a scheme in order, over the children that are still to come
  abbrev pub items : Place → ℕ → Bool → List Item → List Writing → Writing
  items u op more [] kids = nothing
  items u op more (WritesPieces ps ∷ is) kids = in_turn (pieces u ps) (items u op more is kids)
  items u op more (Child place ∷ is) [] = items u op more is []
  items u op more (Child place ∷ is) (kid ∷ kids) = in_turn (placed place kid) (items u op more is kids)
  items u op more (Shows o ∷ is) kids = in_turn (shows u op o) (items u op more is kids)
  items u op more (Separates ps ∷ is) kids = in_turn (if more then pieces u ps else nothing) (items u op more is kids)

  -- a node writes what is typed in its place, else the mark of an elided node, else its leaf or its scheme
  abbrev pub content : Place → Option Bytes → Bool → Writing → Writing
  content u (Some text) elided own = plain u text
  content u None true own = as_they_are u (codes "...")
  content u None false own = own

  abbrev mutual
    pub unparsed : Place → Term → Writing
    unparsed u (Leaf p v) = ended u (content u (typed u) false (plain u (value_text spec p v)))
    unparsed u (Node op n elided ts) =
        ended u (content u (typed u) elided (items u op (goes_on ts) (items_of spec op n) (unparsed_among u 0 ts)))

    pub unparsed_among : Place → ℕ → Terms → List Writing
    unparsed_among u k NoTerm = []
    unparsed_among u k (AndTerm t ts) = unparsed (k ∷ u) t ∷ unparsed_among u (suc k) ts

  -- the marks of a term, whose margin begins at 0
  abbrev pub marks_of : Term → List Mark
  marks_of t = (unparsed [] t 0).0
