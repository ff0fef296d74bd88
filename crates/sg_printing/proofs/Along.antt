-- A node to which a path leads in the term of a buffer, and what it holds.
use Rattle.std.specs.Prelude.{◌≡◌, refl, ℕ, Option, Some, None, option_map, option_and_then}
use Rattle.std.proofs.Common.{sym, ap, ◌∙◌, subst}
use Rattle.std.proofs.lemmas.Option.{same_Some}
use Rattle.sg_kinds.specs.Terms.{Term}
use Rattle.sg_kinds.specs.Places.{Place, sub}
use Rattle.sg_kinds.specs.declared.spec.Spec.{Spec}
use Rattle.sg_forest.specs.declared.node_id.NodeId.{NodeId}
use Rattle.sg_forest.specs.Trees.{IsLive}
use Rattle.sg_forest.specs.Tree.{Tree, node, Stands}
use Rattle.sg_groves.specs.declared.kind.Kind.{Kind}
use Rattle.sg_groves.specs.declared.part.Part.{Part}
use Rattle.sg_groves.specs.Grove.{Grove, nodes, IsGrove}
use Rattle.sg_groves.specs.Holds.{Holds}
use Rattle.sg_groves.proofs.Held.{part_held}
use Rattle.sg_select.specs.Leads.{LeadsTo}
use Rattle.sg_select.specs.Paths.{there}
use Rattle.sg_buffer.specs.Buffers.{StandsFor}
use Rattle.sg_buffer.specs.Held.{Held, state_of}
use Rattle.sg_printing.specs.At.{IsAt}
use Rattle.sg_printing.specs.Shown.{text_at, shown}
use Rattle.sg_printing.specs.declared.printed.Form.TheVariants.{Page}

module _ (b : Held) (stands : StandsFor b (state_of b)) (u : Place) where
  abbrev term : Term
  term = (state_of b).term

  -- what is told of a grove and a root is told of those of the buffer
  pub leads_in : (g : Grove) (r : NodeId) (o : Option NodeId) → g ≡ b.grove → r ≡ b.root → ((t : Term) → Holds g r t → LeadsTo g r (there t u) o) → LeadsTo b.grove b.root (there term u) o
  leads_in g r o is at h =
      let holds : Holds g r term = subst (λ z. Holds z r term) (sym is) (subst (λ z. Holds b.grove z term) (sym at) stands.whole.holds) in
      subst (λ z. LeadsTo z b.root (there term u) o) is (subst (λ z. LeadsTo g z (there term u) o) at (h term holds))

  -- the part of the term that stands at a node to which the path leads
  pub at_node : (n : NodeId) → LeadsTo b.grove b.root (there term u) (Some n) → (x : Term) × IsAt b.grove b.root n term u x
  at_node n leads = by (sub term u) refl leads
    where
      by : (o : Option Term) → sub term u ≡ o → LeadsTo b.grove b.root (option_map (λ (_ : Term). u) o) (Some n) → (x : Term) × IsAt b.grove b.root n term u x
      by None e none = absurd none
      by (Some x) e climbs = (x, record { whole = stands.whole; fits = stands.fits; part = e; way = climbs })

-- what is shown there
module _ (spec : Spec) (t : Term) (u : Place) (slot : ℕ) where
  pub shown_there : (x : Term) → sub t u ≡ Some x → text_at spec Page t u slot x ≡ shown spec t u slot
  unfolding shown
  shown_there x is = sym (ap (option_and_then (text_at spec Page t u slot)) is)

-- a node that holds a term is live
holds_live : (g : Grove) (n : NodeId) (w : Tree Kind Part) → Stands (nodes g) n w → IsLive (nodes g) n
holds_live g n (node kind part ts) stands = record { node = stands.1.node; found = stands.1.found }

-- a node that stands at a place holds the part of the term there
module _ (g : Grove) (is : IsGrove g) (root n : NodeId) (t : Term) (u : Place) (x : Term) (at : IsAt g root n t u x) where
  pub at_holds : Holds g n x
  at_holds =
      let part = part_held g is u n root t at.way at.whole.holds in
      subst (Holds g n) (same_Some part.0 x (sym part.2 ∙ at.part)) part.1

  pub at_live : IsLive (nodes g) n
  at_live = holds_live g n at_holds.tree at_holds.stands
