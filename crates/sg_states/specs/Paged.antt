-- What is seen of the term that a root holds, in the view of its grove.
use Rattle.std.specs.Prelude.{◌≡◌, ℕ, false, true, IfSome, Option}
use Rattle.sg_kinds.specs.Values.{Bytes}
use Rattle.sg_kinds.specs.Terms.{Term}
use Rattle.sg_kinds.specs.Places.{Place}
use Rattle.sg_kinds.specs.Specification.{is_inherited}
use Rattle.sg_changes.specs.declared.spot.Spot.{Spot}
use Rattle.sg_forest.specs.declared.node_id.NodeId.{NodeId}
use Rattle.sg_forest.specs.Trees.{Climbs, IsRoot}
use Rattle.sg_groves.specs.Grove.{Grove, nodes, spec_shown}
use Rattle.sg_groves.specs.Holds.{Holds}
use Rattle.sg_groves.specs.IsRight.{IsRight}
use Rattle.sg_select.specs.RestingPlaces.{is_open}
use Rattle.sg_unparse.specs.Along.{node_along}
use Rattle.sg_unparse.specs.Sheet.{Sheet}
use Rattle.sg_unparse.specs.Written.{sheet_of}
use Rattle.sg_states.specs.Selections.{place_in}
use Rattle.sg_states.specs.Seen.{nothing_typed, marks_seen, first_line}
use Rattle.sg_states.specs.Beginnings.{Begins, Foretells}
use Rattle.sg_states.specs.declared.forecast.Before.{Before}
use Rattle.sg_states.specs.declared.looks.Found.{Found}
use Rattle.sg_states.specs.declared.looks.Look.{Look}

-- a right tree, whose root holds a term and inherits nothing
pub record IsWhole (g : Grove) (root : NodeId) (t : Term) : Type 0 where
  pub top : IsRoot (nodes g) root
  pub holds : Holds g root t
  pub right : IsRight g root
  pub free : (slot : ℕ) → is_inherited g.spec.phyla top.node.label.phylum slot ≡ false

-- its page with its from-scratch values, by the numbers of its nodes, and with a text typed at a place
unfoldable pub page_seen : Grove → NodeId → Term → (Place → Option Bytes) → Sheet
page_seen g root t typed = sheet_of (node_along g root) (marks_seen g.spec g.view t typed)

-- a spot, its node and the path of that, and where it begins and the page without a typed text, where these are told
pub record IsLook (g : Grove) (root : NodeId) (t : Term) (spot : Spot) (l : Look) : Type 0 where
  pub selected : Climbs (nodes g) (place_in spot.selection) l.selected root
  pub spot_is : l.spot ≡ spot
  pub way : l.way ≡ spot.selection.path
  pub page : IfSome l.page (λ p. p ≡ page_seen g root t nothing_typed)
  pub begins : IfSome l.begins (Begins g.spec g.view t (place_in spot.selection))

-- the line in which the node at a place begins, and where it begins and the page, where these are told
pub record IsFound (g : Grove) (root : NodeId) (t : Term) (u : Place) (f : Found) : Type 0 where
  pub line : f.line ≡ first_line g.spec g.view t u
  pub page : IfSome f.page (λ p. p ≡ page_seen g root t nothing_typed)
  pub begins : IfSome f.begins (Begins g.spec g.view t u)

-- what was told before a change holds of the term that the root holds now, where the node above can be reached
pub record IsForetold (g : Grove) (root : NodeId) (b : Before) : Type 0 where
  pub term : Term
  pub place : Place
  pub whole : IsWhole g root term
  pub way : Climbs (nodes g) place b.above root
  pub reached : is_open (spec_shown g) term place ≡ true
  pub tells : Foretells g.spec g.view term place b
