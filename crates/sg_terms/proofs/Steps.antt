-- What each step on the trees keeps of a grove.
use Rattle.std.proofs.Common.{◌≡◌, ◌≢◌, ◌⊎◌, ℕ, List, set, Option, Some, None, refl, sym, ◌∙◌, ap, subst, inl, inr}
use Rattle.std.specs.List.{slice_get}
use Rattle.std.proofs.lemmas.Option.{slice_get_within}
use Rattle.std.proofs.lemmas.Bool.Decides.{eqb_tells}
use Rattle.sg_kinds.specs.Values.{Value}
use Rattle.sg_kinds.specs.Specification.{args_of}
use Rattle.sg_kinds.specs.declared.spec.Spec.{Spec}
use Rattle.sg_pool.specs.Pools.{IsGrown}
use Rattle.sg_forest.specs.declared.node_id.NodeId.{NodeId}
use Rattle.sg_forest.specs.Node.{Node}
use Rattle.sg_forest.specs.Trees.{Trees, node_at, IsLive, IsChild, IsInside}
use Rattle.sg_forest.specs.Steps.{SameSort, KeepsParts, KeepsKids, KeepsShape, IsPartSet, IsSwapped, IsRootMade, IsDropped}
use Rattle.sg_forest.proofs.Paths.{cases_id}
use Rattle.sg_forest.proofs.Moves.{slice_get-set_same, slice_get-set_other}
use Rattle.sg_forest.proofs.Shape.{KeepsShape-part_set, IsForest-shape}
use Rattle.sg_groves.specs.declared.kind.Kind.{Kind}
use Rattle.sg_groves.specs.declared.part.Part.{Part}
use Rattle.sg_groves.specs.Grove.{Grove, IsNode, IsGrove}
use Rattle.sg_terms.specs.Occurrences.{AreTrees}
use Rattle.sg_terms.proofs.Same.{node_at-same}
use Rattle.sg_terms.proofs.Held.{KeepsKinds, KidsFit, PartFits, kids_fit, operation_at, node_after, operation_after, IsGrove-after}

pub cases_place : (j k : ℕ) → (j ≡ k) ⊎ (j ≢ k)
cases_place j k = elim (eqb_tells j k) [ inl is ↦ inl is.1 | inr not ↦ inr not.1 ]

abbrev pub grove : Spec → ℕ → Trees Kind Part → List Value → Grove
grove spec view trees pool = record { spec = spec; trees = trees; pool = pool; view = view }

module _ (spec : Spec) (view : ℕ) (old new : Trees Kind Part) (was now : List Value) (grown : IsGrown was now) (held : IsGrove (grove spec view old was)) where
  -- the same nodes
  pub IsGrove-same : new.nodes ≡ old.nodes → IsGrove (grove spec view new now)
  IsGrove-same same = IsGrove-after spec view old new was now grown held trees each
    where
      trees : AreTrees new
      trees = subst (λ ns. AreTrees (record { nodes = ns; spare = new.spare })) (sym same) held.forest

      kinds : KeepsKinds spec view old new was now
      kinds n x y there then =
          let one : Some y ≡ Some x = sym then ∙ node_at-same old new same n ∙ there in
          let is : y ≡ x = cc one in
          ap (λ (z : Node Kind Part). z.label) is

      each : (n : NodeId) (y : Node Kind Part) → node_at new n ≡ Some y → IsNode (grove spec view new now) y
      each n y then =
          let there = sym (node_at-same old new same n) ∙ then in
          node_after spec view old new was now grown held n y y there refl refl (kids_fit spec view old new was now grown held kinds n y there)

  -- a node of an operator with another part that fits
  pub IsGrove-part : (n : NodeId) (x : Node Kind Part) (op : ℕ) (part : Part) → node_at old n ≡ Some x → x.label.op ≡ Some op → PartFits spec view old new was now op part → IsPartSet (node_at old) (node_at new) n part → IsGrove (grove spec view new now)
  IsGrove-part n x op part here is fits is_set = IsGrove-after spec view old new was now grown held (IsForest-shape (node_at old) (node_at new) shape _ _ _ held.forest) each
    where
      shape : KeepsShape (node_at old) (node_at new)
      shape = KeepsShape-part_set (node_at old) (node_at new) n part (record { node = x; found = here }) is_set

      kinds : KeepsKinds spec view old new was now
      kinds m w y there then =
          let k = shape.kept m w there in
          let same : k.0 ≡ y = cc (k.1, then) in
          ap (λ (z : Node Kind Part). z.label) (sym same) ∙ k.2

      written : Node Kind Part
      written = record x { part = part }

      each : (m : NodeId) (y : Node Kind Part) → node_at new m ≡ Some y → IsNode (grove spec view new now) y
      each m y then =
          elim (cases_id m n) [
            | inl e ↦
                let one : Some y ≡ Some (record x { part = part }) = sym then ∙ ap (node_at new) e ∙ is_set.changed x here in
                let same : y ≡ record x { part = part } = cc one in
                subst (IsNode (grove spec view new now)) (sym same)
                (operation_after spec view old new was now grown held n x (record x { part = part }) op here is refl fits (kids_fit spec view old new was now grown held kinds n x here))
            | inr other ↦
                let there = sym (is_set.others m other) ∙ then in
                node_after spec view old new was now grown held m y y there refl refl (kids_fit spec view old new was now grown held kinds m y there)
          ]

  -- a new root that fits
  module _ (id : NodeId) (kind : Kind) (part : Part) (kids : List NodeId) (made : IsRootMade (node_at old) (node_at new) kind part kids id) (live : (k : ℕ) (c : NodeId) → slice_get kids k ≡ Some c → IsLive (node_at old) c) (keeps : KeepsKids (node_at old) (node_at new)) where
    pub made_kinds : KeepsKinds spec view old new was now
    made_kinds m w y there then =
        let k = keeps.kept m w there in
        let same : k.0 ≡ y = cc (k.1, then) in
        ap (λ (z : Node Kind Part). z.label) (sym same) ∙ k.2

    pub IsGrove-made : AreTrees new → IsNode (grove spec view new now) (record { label = kind; part = part; up = None; kids = kids }) → IsGrove (grove spec view new now)
    IsGrove-made trees fits = IsGrove-after spec view old new was now grown held trees each
      where
        stays : (m : NodeId) (x y : Node Kind Part) → node_at old m ≡ Some x → node_at new m ≡ Some y → IsNode (grove spec view new now) y
        stays m x y there then =
            let k = keeps.kept m x there in
            let same : k.0 ≡ y = cc (k.1, then) in
            let label : y.label ≡ x.label = ap (λ (z : Node Kind Part). z.label) (sym same) ∙ k.2 in
            let has : y.part ≡ x.part = ap (λ (z : Node Kind Part). z.part) (sym same) ∙ k.3 in
            let below : y.kids ≡ x.kids = ap (λ (z : Node Kind Part). z.kids) (sym same) ∙ k.4 in
            node_after spec view old new was now grown held m x y there label has
            (subst (KidsFit spec view old new was now x.label) (sym below) (kids_fit spec view old new was now grown held made_kinds m x there))

        fresh : (m : NodeId) (y : Node Kind Part) → m ≢ id → node_at new m ≡ Some y → node_at old m ≡ None → ⊥
        fresh m y other then none =
            let apart : (k : ℕ) → slice_get kids k ≢ Some m = λ k lists. let l = live k m lists in cc (l.found, none) in
            let kept = made.others m other apart in
            cc (kept, then, none)

        by : (m : NodeId) (y : Node Kind Part) → m ≢ id → node_at new m ≡ Some y → (slot : Option (Node Kind Part)) → node_at old m ≡ slot → IsNode (grove spec view new now) y
        by m y other then None e = absurd (fresh m y other then e)
        by m y other then (Some x) e = stays m x y e then

        each : (m : NodeId) (y : Node Kind Part) → node_at new m ≡ Some y → IsNode (grove spec view new now) y
        each m y then =
            elim (cases_id m id) [
              | inl e ↦
                  let one : Some y ≡ Some (record { label = kind; part = part; up = None; kids = kids }) = sym then ∙ ap (node_at new) e ∙ made.root in
                  let same : y ≡ record { label = kind; part = part; up = None; kids = kids } = cc one in
                  subst (IsNode (grove spec view new now)) (sym same) fits
              | inr other ↦ by m y other then (node_at old m) refl
            ]

  -- a tree gone
  pub IsGrove-dropped : (root : NodeId) → IsDropped (node_at old) (node_at new) root → AreTrees new → IsGrove (grove spec view new now)
  IsGrove-dropped root dropped trees = IsGrove-after spec view old new was now grown held trees each
    where
      kept : (n : NodeId) (y : Node Kind Part) → node_at new n ≡ Some y → node_at old n ≡ Some y
      kept n y then = by (node_at old n) refl
        where
          outside : IsLive (node_at old) n → IsInside (node_at old) n root → ⊥
          outside l inside = let none = dropped.gone n inside in cc (none, then)

          by : (slot : Option (Node Kind Part)) → node_at old n ≡ slot → node_at old n ≡ Some y
          by None e = sym (dropped.others n (λ inside. let none = dropped.gone n inside in cc (none, then))) ∙ then
          by (Some x) e = sym (dropped.others n (outside (record { node = x; found = e }))) ∙ then

      kinds : KeepsKinds spec view old new was now
      kinds n x y there then =
          let has = kept n y then in
          let one : Some y ≡ Some x = sym has ∙ there in
          let is : y ≡ x = cc one in
          ap (λ (z : Node Kind Part). z.label) is

      each : (n : NodeId) (y : Node Kind Part) → node_at new n ≡ Some y → IsNode (grove spec view new now) y
      each n y then = node_after spec view old new was now grown held n y y (kept n y then) refl refl (kids_fit spec view old new was now grown held kinds n y (kept n y then))

  -- a root in the place of a node of its phylum
  pub IsGrove-swapped : (a d p : NodeId) (k : ℕ) → IsChild (node_at old) a p k → IsLive (node_at old) d → SameSort (λ (l : Kind). l.phylum) (node_at old) a d → IsSwapped (node_at old) (node_at new) a d p k → KeepsParts (node_at old) (node_at new) → AreTrees new → IsGrove (grove spec view new now)
  IsGrove-swapped a d p k child live phyla swapped keeps trees = IsGrove-after spec view old new was now grown held trees each
    where
      kinds : KeepsKinds spec view old new was now
      kinds m w y there then =
          let q = keeps.kept m w there in
          let same : q.0 ≡ y = cc (q.1, then) in
          ap (λ (z : Node Kind Part). z.label) (sym same) ∙ q.2

      is_node : (y z : Node Kind Part) (m : NodeId) → node_at new m ≡ Some y → node_at new m ≡ Some z → IsNode (grove spec view new now) z → IsNode (grove spec view new now) y
      is_node y z m one two fits = let same : z ≡ y = cc (one, two) in subst (IsNode (grove spec view new now)) same fits

      -- a node with the children that it had
      plain : (m : NodeId) (x y : Node Kind Part) → node_at old m ≡ Some x → y.label ≡ x.label → y.part ≡ x.part → y.kids ≡ x.kids → IsNode (grove spec view new now) y
      plain m x y there label part kids =
          node_after spec view old new was now grown held m x y there label part (subst (KidsFit spec view old new was now x.label) (sym kids) (kids_fit spec view old new was now grown held kinds m x there))

      parent : (x : Node Kind Part) → node_at old p ≡ Some x → KidsFit spec view old new was now x.label (set x.kids k d)
      parent x there op is j c z lists then =
          elim (cases_place j k) [
            | inl e ↦
                let at_k : slice_get (set x.kids k d) k ≡ Some c = rw e at lists in
                let above = held.forest.linked.upward p k a child in
                let lists_a : slice_get x.kids k ≡ Some a = let same : above.node ≡ x = cc (above.found, there) in ap (λ (w : Node Kind Part). slice_get w.kids k) (sym same) ∙ above.lists in
                let here = slice_get-set_same x.kids k d (slice_get_within x.kids k a lists_a) in
                let is_d : d ≡ c = cc (here, at_k) in
                let then_d : node_at new d ≡ Some z = ap (node_at new) is_d ∙ then in
                let fits = (operation_at spec view old new was now grown held p x op there is).kids k a child.node lists_a child.found in
                let sort : child.node.label.phylum ≡ live.node.label.phylum = phyla child.node live.node child.found live.found in
                let label : z.label ≡ live.node.label = kinds d live.node z live.found then_d in
                subst (λ i. slice_get (args_of spec.ops op) i ≡ Some z.label.phylum) (sym e)
                (fits ∙ ap Some (sort ∙ ap (λ (l : Kind). l.phylum) (sym label)))
            | inr differs ↦
                kids_fit spec view old new was now grown held kinds p x there op is j c z (sym (slice_get-set_other x.kids k j d differs) ∙ lists) then
          ]

      each : (m : NodeId) (y : Node Kind Part) → node_at new m ≡ Some y → IsNode (grove spec view new now) y
      each m y then = by_p (cases_id m p)
        where
          by_d : m ≢ p → m ≢ a → (m ≡ d) ⊎ (m ≢ d) → IsNode (grove spec view new now) y
          by_d not_p not_a (inl e) =
              let x = live.node in
              let here : node_at old m ≡ Some x = ap (node_at old) e ∙ live.found in
              is_node y (record x { up = Some (p, k) }) m then (ap (node_at new) e ∙ swapped.placed x live.found) (plain m x (record x { up = Some (p, k) }) here refl refl refl)
          by_d not_p not_a (inr not_d) = let there = sym (swapped.others m not_a not_d not_p) ∙ then in plain m y y there refl refl refl

          by_a : m ≢ p → (m ≡ a) ⊎ (m ≢ a) → IsNode (grove spec view new now) y
          by_a not_p (inl e) =
              let x = child.node in
              let here : node_at old m ≡ Some x = ap (node_at old) e ∙ child.found in
              is_node y (record x { up = None }) m then (ap (node_at new) e ∙ swapped.freed x child.found) (plain m x (record x { up = None }) here refl refl refl)
          by_a not_p (inr not_a) = by_d not_p not_a (cases_id m d)

          by_p : (m ≡ p) ⊎ (m ≢ p) → IsNode (grove spec view new now) y
          by_p (inl e) =
              let above = held.forest.linked.upward p k a child in
              let x = above.node in
              let here : node_at old m ≡ Some x = ap (node_at old) e ∙ above.found in
              is_node y (record x { kids = set x.kids k d }) m then (ap (node_at new) e ∙ swapped.listed x above.found)
              (node_after spec view old new was now grown held m x (record x { kids = set x.kids k d }) here refl refl (parent x above.found))
          by_p (inr not_p) = by_a not_p (cases_id m a)
