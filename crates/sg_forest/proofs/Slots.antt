-- From the keys of a slab to the numbers of nodes.
use Rattle.std.proofs.Common.{◌≡◌, ◌≢◌, ℕ, length, take, ◌-◌, Option, Some, None, is_some, refl, sym, ap, ◌∙◌, arith}
use Rattle.std.specs.List.{slice_get}
use Rattle.std.proofs.lemmas.Option.{slice_get_within, slice_get-get_or}
use Rattle.slab.specs.Slab.{Slab, get, ContainsKey}
use Rattle.sg_forest.specs.declared.node_id.NodeId.{NodeId}
use Rattle.sg_forest.specs.Node.{Node}
use Rattle.sg_forest.specs.Trees.{node_in, IsLive, Lists}
use Rattle.sg_forest.specs.Steps.{IsPartSet}
use Rattle.sg_forest.proofs.Paths.{same_id}
use Rattle.sg_forest.proofs.Unhung.{IsUnhung}

module _ {L D : Type 0} (s : Slab (Node L D)) where
  pub contains_key : (n : NodeId) → IsLive (node_in s) n → ContainsKey s n.key
  contains_key n live = rw live.found refl

  pub live_by_key : (n : NodeId) → ContainsKey s n.key → IsLive (node_in s) n
  live_by_key n present = by_slot (get s n.key) refl
    where
      by_slot : (slot : Option (Node L D)) → get s n.key ≡ slot → IsLive (node_in s) n
      by_slot None e = absurd (cc (present, ap is_some e))
      by_slot (Some x) e = record { node = x; found = e }

  -- where the last place has no child, none has
  pub leaf_of : (n : NodeId) (x : Node L D) → node_in s n ≡ Some x → None ≡ slice_get x.kids (length x.kids - 1) → (j : ℕ) (c : NodeId) → Lists (node_in s) n j c → ⊥
  leaf_of n x found none j c above =
      let same : x ≡ above.node = cc (found, above.found) in
      let within = slice_get_within above.node.kids j c above.lists in
      let some = slice_get-get_or x.kids (length x.kids - 1) c (omega (arith, within, ap (λ z. length z.kids) same)) in
      cc (none, some)

module _ {L D : Type 0} (s t : Slab (Node L D)) (a : NodeId) (others : (m : ℕ) → m ≢ a.key → get t m ≡ get s m) where
  pub others_by_id : (n : NodeId) → n ≢ a → node_in t n ≡ node_in s n
  others_by_id n differs = others n.key (λ e. differs (same_id n a e))

  pub IsPartSet-written : (part : D) → ((x : Node L D) → get s a.key ≡ Some x → get t a.key ≡ Some (record x { part = part })) → IsPartSet (node_in s) (node_in t) a part
  IsPartSet-written part written = record { changed = written; others = others_by_id }

  -- a node is taken out, and then its parent's list is shorter
  pub IsUnhung-steps : (u : Slab (Node L D)) (p : NodeId) → get t a.key ≡ None → p ≢ a → ((x : Node L D) → get t p.key ≡ Some x → get u p.key ≡ Some (record x { kids = take (length x.kids - 1) x.kids })) → ((m : ℕ) → m ≢ p.key → get u m ≡ get t m) → IsUnhung (node_in s) (node_in u) a p
  IsUnhung-steps u p gone differs written rest = record {
    gone = rest a.key (λ e. differs (same_id p a (sym e))) ∙ gone;
    shorter = λ x found. written x (others_by_id p differs ∙ found);
    others = λ m not_a not_p. rest m.key (λ e. not_p (same_id m p e)) ∙ others_by_id m not_a;
  }
