-- Worked examples: marks that are turned, and a change that is made, undone and done again, also in another view.
use Rattle.std.specs.Prelude.{◌≡◌, refl, ℕ, true, false, List, [], ◌∷◌, length, Option, Some, None}
use Rattle.sg_kinds.specs.Terms.{Term, Node, NoTerm, AndTerm}
use Rattle.sg_kinds.specs.Places.{Place}
use Rattle.sg_kinds.specs.InView.{ops_in}
use Rattle.sg_kinds.specs.declared.marks.ChildPlace.TheVariants.{Resting}
use Rattle.sg_kinds.specs.declared.spec.Item.{Item}
use Rattle.sg_kinds.specs.declared.spec.Item.TheVariants.{Child}
use Rattle.sg_kinds.specs.declared.spec.Operator.{Operator}
use Rattle.sg_kinds.specs.declared.spec.Scheme.{Scheme}
use Rattle.sg_kinds.specs.declared.spec.Spec.{Spec}
use Rattle.sg_changes.specs.Captured.{captured}
use Rattle.sg_changes.specs.Changes.{Change, Put, Mark}
use Rattle.sg_changes.specs.declared.spot.Spot.{Spot}
use Rattle.sg_states.specs.Selections.{alone}
use Rattle.sg_states.specs.Seen.{first_line}
use Rattle.sg_states.specs.States.{State, begun, marked, redone, replaced, undone, viewed}
use Rattle.sg_states.specs.Turned.{marks, turned}
use Rattle.sg_states.specs.declared.marks.Mark.TheVariants.{Alternate, Elide}

-- two operators, the first with two schemes, the second with one; in a view the first shows no child
abbrev scheme : List Item → Scheme
scheme items = record { rests = true; editable = false; items = items }

abbrev both : Scheme
both = scheme (Child Resting ∷ Child Resting ∷ [])

abbrev operator : List Scheme → Operator
operator schemes = record { name = []; phylum = 3; args = []; locals = []; schemes = schemes }

abbrev spec : Spec
spec = record {
  phyla = [];
  ops = operator (both ∷ both ∷ []) ∷ operator (both ∷ []) ∷ [];
  exprs = [];
  rules = [];
  functions = [];
  transforms = [];
  lexemes = [];
  productions = [];
  entries = [];
  levels = [];
  views = record { names = (118 ∷ []) ∷ []; rows = ((scheme [] ∷ []) ∷ []) ∷ [] };
  root = 3;
}

-- the next scheme, after the last one the first; where there is one only there is no other
next_scheme : turned Alternate 2 (marks 0 false) ≡ Some (marks 1 false)
next_scheme = refl

first_again : turned Alternate 2 (marks 1 true) ≡ Some (marks 0 true)
first_again = refl

far_number : turned Alternate 3 (marks 7 false) ≡ Some (marks 2 false)
far_number = refl

one_scheme : turned Alternate 1 (marks 0 false) ≡ None
one_scheme = refl

elided : turned Elide 1 (marks 5 false) ≡ Some (marks 5 true)
elided = refl

shown_again : turned Elide 0 (marks 5 true) ≡ Some (marks 5 false)
shown_again = refl

-- a node over two leaves of operators
abbrev leaf : ℕ → Term
leaf op = Node op 0 false NoTerm

abbrev pair : ℕ → Term → Term → Term
pair k a b = Node 0 k false (AndTerm a (AndTerm b NoTerm))

abbrev spot : ℕ → Place → ℕ → Spot
spot v u top = record { selection = alone u; top = top; view = v }

-- the second child was replaced
abbrev change : Change
change = Put (1 ∷ []) (leaf 1) (leaf 0) (spot 0 [] 1) (spot 0 (1 ∷ []) 1)

abbrev mark : Change
mark = Mark [] (marks 0 false) (marks 1 false) (spot 0 [] 1) (spot 0 [] 1)

abbrev now : State
now = record { term = pair 1 (leaf 1) (leaf 0); spot = spot 0 (0 ∷ []) 1; past = change ∷ mark ∷ []; future = []; capture = None }

abbrev before : State
before = record { term = pair 1 (leaf 1) (leaf 1); spot = spot 0 [] 1; past = mark ∷ []; future = change ∷ []; capture = None }

-- undoing gives back the old subterm, the selection and the window's first line of before the change
goes_back : undone spec 10 now ≡ before
unfolding first_line ops_in
goes_back = refl

goes_forth : redone spec 10 before ≡ record now { spot = spot 0 (1 ∷ []) 1 }
unfolding first_line ops_in
goes_forth = refl

-- and marks
goes_on : undone spec 10 before ≡ record { term = pair 0 (leaf 1) (leaf 1); spot = spot 0 [] 1; past = []; future = mark ∷ change ∷ []; capture = None }
unfolding first_line ops_in
goes_on = refl

-- in the view the nearest node that is shown there is selected, also once a change is done again
seen_there : viewed spec 10 1 now ≡ record now { spot = spot 1 [] 1 }
unfolding first_line ops_in
seen_there = refl

forth_there : redone spec 10 (viewed spec 10 1 before) ≡ record now { spot = spot 1 [] 1 }
unfolding first_line ops_in
forth_there = refl

-- the change keeps what was selected
back_and_forth : redone spec 10 (viewed spec 10 0 (undone spec 10 (viewed spec 10 1 now))) ≡ record now { spot = spot 0 (1 ∷ []) 1 }
unfolding first_line ops_in
back_and_forth = refl

nothing_undone : undone spec 10 (begun (leaf 1)) ≡ begun (leaf 1)
nothing_undone = refl

nothing_redone : redone spec 10 now ≡ now
nothing_redone = refl

-- a new change is the newest of the past; the future is gone, and so is what was typed
abbrev typing : State
typing = record before { capture = Some (captured (65 ∷ []) 1) }

abbrev put_again : State
put_again = replaced spec 10 (0 ∷ []) (leaf 0) (alone (0 ∷ [])) typing

new_term : put_again.term ≡ pair 1 (leaf 0) (leaf 1)
new_term = refl

one_more : length put_again.past ≡ 2
one_more = refl

no_future : put_again.future ≡ []
no_future = refl

no_text : put_again.capture ≡ None
no_text = refl

-- so it is with a mark of the selected node
other_scheme : marked spec 10 Alternate (begun (leaf 1)) ≡ None
unfolding ops_in
other_scheme = refl

abbrev term_in : Option State → Option Term
term_in None = None
term_in (Some st) = Some st.term

turned_scheme : term_in (marked spec 10 Alternate (begun (leaf 0))) ≡ Some (Node 0 1 false NoTerm)
unfolding ops_in
turned_scheme = refl
