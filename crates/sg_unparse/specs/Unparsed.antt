-- Which nodes are unparsed, each behind those below it: the root, and below a node that shows its scheme the children
-- whose places there are not `..`.
use Rattle.std.specs.Prelude.{ℕ, suc, Bool, true, false, List, [], ◌∷◌, ◌++◌, Option, Some, None}
use Rattle.sg_kinds.specs.Values.{Bytes}
use Rattle.sg_kinds.specs.Terms.{Term, Terms, Leaf, Node, NoTerm, AndTerm}
use Rattle.sg_kinds.specs.Places.{Place}
use Rattle.sg_kinds.specs.declared.spec.Spec.{Spec}
use Rattle.sg_kinds.specs.declared.spec.Item.{Item}
use Rattle.sg_kinds.specs.declared.spec.Item.TheVariants.{Writes as WritesPieces, Child, Shows, Separates}
use Rattle.sg_kinds.specs.declared.marks.ChildPlace.{ChildPlace}
use Rattle.sg_kinds.specs.declared.marks.ChildPlace.TheVariants.{Resting, Passed, Hidden}
use Rattle.sg_unparse.specs.Cells.{Mark, Writes, Closed, items_of}

-- the nodes that end, in order
abbrev pub ends_of : List Mark → List Place
ends_of [] = []
ends_of (Writes b u ∷ marks) = ends_of marks
ends_of (Closed u n ∷ marks) = u ∷ ends_of marks

-- the places of children in a scheme
abbrev pub child_places : List Item → List ChildPlace
child_places [] = []
child_places (WritesPieces ps ∷ is) = child_places is
child_places (Child place ∷ is) = place ∷ child_places is
child_places (Shows o ∷ is) = child_places is
child_places (Separates ps ∷ is) = child_places is

-- what stands below children that have a place other than `..`
abbrev pub shown_below : List ChildPlace → List (List Place) → List Place
shown_below [] kids = []
shown_below (place ∷ places) [] = []
shown_below (Resting ∷ places) (kid ∷ kids) = kid ++ shown_below places kids
shown_below (Passed ∷ places) (kid ∷ kids) = kid ++ shown_below places kids
shown_below (Hidden ∷ places) (kid ∷ kids) = shown_below places kids

-- whether a node shows its scheme: nothing is typed in its place, and it is not elided
abbrev pub shows_scheme : Option Bytes → Bool → Bool
shows_scheme (Some text) elided = false
shows_scheme None true = false
shows_scheme None false = true

module _ (spec : Spec) (typed : Place → Option Bytes) where
  abbrev pub below_scheme : Bool → List Place → List Place
  below_scheme true places = places
  below_scheme false places = []

  -- a node and what is shown below it
  abbrev mutual
    pub unparsed_places : Place → Term → List Place
    unparsed_places u (Leaf p v) = u ∷ []
    unparsed_places u (Node op n elided ts) =
        below_scheme (shows_scheme (typed u) elided) (shown_below (child_places (items_of spec op n)) (places_under u 0 ts)) ++ u ∷ []

    pub places_under : Place → ℕ → Terms → List (List Place)
    places_under u k NoTerm = []
    places_under u k (AndTerm t ts) = unparsed_places (k ∷ u) t ∷ places_under u (suc k) ts
