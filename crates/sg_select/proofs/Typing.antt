-- A text that is typed at a node, and the places of the term.
use Rattle.std.proofs.Common.{◌≡◌, refl, ap, subst, ◌∙◌, Bool, true, false, Some, None, arith}
use Rattle.std.specs.Prelude.{◌≢◌, ◌==◌, if◌then◌else◌}
use Rattle.std.proofs.lemmas.Bool.Decides.{nat_tests}
use Rattle.sg_kinds.specs.Values.{Bytes}
use Rattle.sg_kinds.specs.Terms.{Term}
use Rattle.sg_kinds.specs.Places.{Place, sub}
use Rattle.sg_forest.specs.declared.node_id.NodeId.{NodeId}
use Rattle.sg_forest.specs.Trees.{Climbs}
use Rattle.sg_groves.specs.Grove.{Grove, nodes, IsGrove}
use Rattle.sg_groves.specs.Holds.{Holds, IsPlaced}
use Rattle.sg_groves.proofs.Held.{node_held}
use Rattle.sg_groves.proofs.Ways.{one_way}
use Rattle.sg_unparse.specs.Along.{node_along, typed_in}
use Rattle.sg_unparse.proofs.Placed.{climbs_along}

module _ (g : Grove) (is : IsGrove g) (root n : NodeId) (t : Term) (u : Place) (text : Bytes) (placed : IsPlaced g root t u n) where
  typed_by : (v : Place) (m : NodeId) (b : Bool) → node_along g root v ≡ m → (m.key == n.key) ≡ b
      → typed_in g root (Some n) text v ≡ (if b then Some text else None)
  typed_by v m b along test =
      ap (λ (it : NodeId). if it.key == n.key then Some text else None) along ∙ ap (λ c. if c then Some text else None) test

  pub typed_here : typed_in g root (Some n) text u ≡ Some text
  typed_here =
      let same : (n.key == n.key) ≡ true = grind (arith, nat_tests) in
      typed_by u n true (climbs_along g is root u n placed.way) same

  pub typed_elsewhere : (x : Term) (v : Place) → sub t v ≡ Some x → u ≢ v → typed_in g root (Some n) text v ≡ None
  typed_elsewhere x v there other = by (m.0.key == n.key) refl
    where
      m : (k : NodeId) × Climbs (nodes g) v k root × Holds g k x
      m = node_held g is v root t x placed.holds there

      by : (b : Bool) → (m.0.key == n.key) ≡ b → typed_in g root (Some n) text v ≡ None
      by false test = typed_by v m.0 false (climbs_along g is root v m.0 m.1) test
      by true test =
          let keys : m.0.key ≡ n.key = grind (arith, nat_tests) in
          let same : m.0 ≡ n = λ i. record { key = keys i } in
          absurd (other (one_way g is u v n root root placed.top placed.top placed.way (subst (λ k. Climbs (nodes g) v k root) same m.1)).0)
