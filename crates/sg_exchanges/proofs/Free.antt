-- Roots that inherit nothing.
use Rattle.std.specs.Prelude.{◌≡◌, ℕ, false, Some}
use Rattle.std.proofs.Common.{ap, ◌∙◌}
use Rattle.sg_kinds.specs.Terms.{Term}
use Rattle.sg_kinds.specs.Fits.{Fits}
use Rattle.sg_kinds.specs.Specification.{is_inherited}
use Rattle.sg_forest.specs.declared.node_id.NodeId.{NodeId}
use Rattle.sg_forest.specs.Node as forest
use Rattle.sg_groves.specs.declared.kind.Kind.{Kind}
use Rattle.sg_groves.specs.declared.part.Part.{Part}
use Rattle.sg_groves.specs.Grove.{Grove, nodes, IsGrove}
use Rattle.sg_groves.specs.Holds.{Holds}
use Rattle.sg_groves.proofs.Held.{held_fits}
use Rattle.sg_build.proofs.Roots.{one_phylum}
use Rattle.sg_plans.proofs.Solved.{root_inherits_nothing}

-- a root of the root's phylum inherits nothing
pub root_free : (g : Grove) → IsGrove g → (root : NodeId) (t : Term) → Holds g root t → Fits g.spec t g.spec.root → (x : forest.Node Kind Part) → nodes g root ≡ Some x
    → (slot : ℕ) → is_inherited g.spec.phyla x.label.phylum slot ≡ false
root_free g is root t holds fits x found slot =
    let same : x.label.phylum ≡ g.spec.root = one_phylum g.spec t x.label.phylum g.spec.root (held_fits g is root x t found holds) fits in
    ap (λ p. is_inherited g.spec.phyla p slot) same ∙ root_inherits_nothing g.spec is.sound slot
