-- What is known before a change tells where nodes begin after it.
use Rattle.std.specs.Prelude.{◌≡◌, true, ◌≢◌, ◌⊎◌, refl, ℕ, zero, suc, ◌<◌, ◌≤◌, [], ◌∷◌, ◌++◌, length, Option, None, Some, Result, Ok, Err, IfOk, IfSome}
use Rattle.std.proofs.Common.{sym, ap, ◌∙◌, subst, arith, append_assoc, length-append, inl, inr}
use Rattle.sg_kinds.specs.Terms.{Term, nodes_of}
use Rattle.sg_kinds.specs.Nets.{Operation, label_of, phylum_at}
use Rattle.sg_kinds.specs.Instances.{attr_count}
use Rattle.sg_kinds.specs.Specification.{phylum_of, rules_of}
use Rattle.sg_kinds.specs.Places.{Place, put, sub}
use Rattle.sg_kinds.specs.FromScratch.{value_in}
use Rattle.sg_forest.specs.declared.node_id.NodeId.{NodeId}
use Rattle.sg_forest.specs.Trees.{Climbs, IsChild, IsRoot}
use Rattle.sg_forest.proofs.Laws.{ways_over}
use Rattle.sg_forest.proofs.Paths.{one_parent, root_is_no_child}
use Rattle.sg_groves.specs.Evaluated.{IsAtOrBelow}
use Rattle.sg_groves.specs.Grove.{Grove, nodes, spec_shown, IsGrove}
use Rattle.sg_groves.specs.TermAt.{term_at}
use Rattle.sg_groves.specs.Unchanged.{OnlyStored}
use Rattle.sg_groves.proofs.Frames.{only_climbs}
use Rattle.sg_groves.proofs.Held.{one_term}
use Rattle.sg_groves.proofs.Puts.{label_outside}
use Rattle.sg_groves.proofs.Ways.{one_way}
use Rattle.sg_attrib.proofs.Nodes.{op_label}
use Rattle.sg_select.specs.RestingPlaces.{is_open, rests}
use Rattle.sg_trail.specs.Trails.{IsAnySlot, IsExchanged}
use Rattle.sg_propagate.specs.Asked.{root_then}
use Rattle.sg_propagate.specs.Exchanged.{Reaches}
use Rattle.sg_unparse.specs.Begins.{AreAlikeOutside}
use Rattle.sg_states.specs.Beginnings.{Begins, WillForetell}
use Rattle.sg_states.specs.Paged.{IsForetold, IsWhole}
use Rattle.sg_states.specs.declared.forecast.Before.{Before}
use Rattle.sg_states.proofs.Foretold.{if_some}
use Rattle.sg_exchanges.specs.Known.{HasAttributesOnly, IsKnown, IsNear, ReachesThen, WillTell}
use Rattle.sg_exchanges.specs.Turns.{MayTurn}
use Rattle.sg_exchanges.specs.declared.forecast.Known.{Known}
use Rattle.sg_exchanges.specs.declared.turns.What.TheVariants.{Tree}
use Rattle.sg_exchanges.proofs.Localless.{no_value}
use Rattle.sg_exchanges.proofs.Reached.{above_rests, open_above}
use Rattle.sg_exchanges.proofs.Swaps.{root_is}

nat_cases : (m n : ℕ) → (m < n) ⊎ (n ≤ m)
nat_cases zero zero = inr (omega arith)
nat_cases zero (suc n) = inl (omega arith)
nat_cases (suc m) zero = inr (omega arith)
nat_cases (suc m) (suc n) = elim (nat_cases m n) [ inl h ↦ inl (omega (arith, h)) | inr h ↦ inr (omega (arith, h)) ]

module _ (g : Grove) (is : IsGrove g) (root at : NodeId) where
  if_told : {E : Type 0} (t : Term) (p v : Place) (above : NodeId) (r : Result (Option Before) E) → rests (spec_shown g) t v ≡ true → IfOk r (λ o. IfSome o (λ b. (b.above ≡ above) × IsAtOrBelow v p × WillForetell g.spec g.view t p b))
      → IfOk r (λ o. IfSome o (λ b. (is_open (spec_shown g) t p ≡ true) × WillForetell g.spec g.view t p b))
  if_told t p v above (Err e) rest h = tt
  if_told t p v above (Ok o) rest h = if_some (λ (b : Before). (b.above ≡ above) × IsAtOrBelow v p × WillForetell g.spec g.view t p b) (λ b. (is_open (spec_shown g) t p ≡ true) × WillForetell g.spec g.view t p b) o
      (λ b h. (above_rests (spec_shown g) t v p h.1 rest, h.2)) h

  -- before
  pub told_first : {E : Type 0} (k : Known) (t : Term) (u : Place) (above : NodeId) (j : ℕ) (r : Result (Option Before) E) → IsKnown g root k → IsWhole g root t → Climbs (nodes g) u at root → IsChild (nodes g) at above j
      → ((y : Term) (p v : Place) → IsWhole g root y → Climbs (nodes g) p above root → Climbs (nodes g) v k.selected root → Begins g.spec g.view y v k.begins → k.count ≡ nodes_of y → IfOk r (λ o. IfSome o (λ b. (b.above ≡ above) × IsAtOrBelow v p × WillForetell g.spec g.view y p b)))
      → IfOk r (λ o. IfSome o (WillTell g.spec g.view t u))
  told_first k t [] above j r known whole same child tells = absurd (root_is_no_child (nodes g) at above j (subst (IsRoot (nodes g)) (sym same) whole.top) child)
  told_first k t (i ∷ p) above j r known whole climbs child tells =
      let one = one_parent (nodes g) at above climbs.0 j i child climbs.1 in
      let same : known.term ≡ t = one_term g root known.term t known.whole.holds whole.holds in
      if_told t p known.place above r (subst (λ z. rests (spec_shown g) z known.place ≡ true) same known.rests)
      (tells t p known.place whole (subst (λ z. Climbs (nodes g) p z root) (sym one.0) climbs.2) known.way (subst (λ z. Begins g.spec g.view z known.place k.begins) same known.begins) (known.counted ∙ ap nodes_of same))

  -- and after
  pub told_then : (b : Before) (t s : Term) (u : Place) (above : NodeId) (j : ℕ) (reach : NodeId) → IsWhole g root (put t u s) → Climbs (nodes g) u at root → Reaches g.spec g root t u s reach → WillTell g.spec g.view t u b → IsChild (nodes g) at above j
      → IsNear g at above reach → IsForetold g root (record { above = above; old = b.old; from = b.from; margin = b.margin })
  told_then b t s [] above j reach whole same reaches tells child near = absurd tells
  told_then b t s (k ∷ p) above j reach whole climbs reaches tells child near =
      let told = tells.1 (k ∷ []) s (λ e. cc) (elim near [ inl is_at ↦ alike_at is_at | inr is_above ↦ alike_above is_above.0 is_above.1 ]) in
      record { term = (put t (k ∷ p) s); place = p; whole = whole; way = to; reached = open_above (spec_shown g) t k p s ∙ tells.0; tells = record { tells = told.tells } }
    where
      one : (above ≡ climbs.0) × (j ≡ k)
      one = one_parent (nodes g) at above climbs.0 j k child climbs.1

      to : Climbs (nodes g) p above root
      to = subst (λ z. Climbs (nodes g) p z root) (sym one.0) climbs.2

      far : (v w : Place) → ((v ≡ p) ⊎ (IsAtOrBelow v p → ⊥)) → v ≡ w ++ (k ∷ p) → ⊥
      far v w (inl same) e = let long = ap length (sym same ∙ e) in let parts = length-append w (k ∷ p) in omega (arith, long, parts)
      far v w (inr out) e = out (record { below = w ++ k ∷ []; is = e ∙ sym (append_assoc w (k ∷ []) p) })

      alike_at : reach ≡ at → AreAlikeOutside p (value_in g.spec t) (value_in g.spec (put t (k ∷ p) s))
      alike_at is_at a out =
          let place : reaches.place ≡ k ∷ p = (one_way g is reaches.place (k ∷ p) at root root whole.top whole.top (subst (λ z. Climbs (nodes g) reaches.place z root) is_at reaches.climbs) climbs).0 in
          sym (reaches.outside a (λ w e. far a.node w out (e ∙ ap (λ z. w ++ z) place)))

      alike_above : reach ≡ above → HasAttributesOnly g above → AreAlikeOutside p (value_in g.spec t) (value_in g.spec (put t (k ∷ p) s))
      alike_above is_above only a out = elim out [
        | inl here ↦ subst (λ z. value_in g.spec t (record { node = z; slot = a.slot }) ≡ value_in g.spec (put t (k ∷ p) s) (record { node = z; slot = a.slot })) (sym here) (at_node a.slot)
        | inr away ↦ sym (reaches.outside a (λ w e. away (record { below = w; is = e ∙ ap (λ z. w ++ z) place })))
      ]
        where
          place : reaches.place ≡ p
          place = (one_way g is reaches.place p above root root whole.top whole.top (subst (λ z. Climbs (nodes g) reaches.place z root) is_above reaches.climbs) to).0

          some : reaches.place ≢ []
          some e = only.hangs (subst (IsRoot (nodes g)) (sym (subst (λ z. Climbs (nodes g) z above root) (sym place ∙ e) to)) whole.top)

          label_now : label_of (sub (put t (k ∷ p) s) p) ≡ Operation only.op
          label_now = op_label g is above root (put t (k ∷ p) s) p (record { top = whole.top; holds = whole.holds; way = to }) only.op only.is

          label_was : label_of (sub t p) ≡ Operation only.op
          label_was = sym (label_outside t (k ∷ p) s p (λ b. far p b.below (inl refl) b.is)) ∙ label_now

          at_node : (slot : ℕ) → value_in g.spec t (record { node = p; slot = slot }) ≡ value_in g.spec (put t (k ∷ p) s) (record { node = p; slot = slot })
          at_node slot = by (phylum_of g.spec.ops only.op) refl (nat_cases slot (attr_count (rules_of g.spec) (phylum_of g.spec.ops only.op)))
            where
              beyond : attr_count (rules_of g.spec) (phylum_of g.spec.ops only.op) ≤ slot → value_in g.spec t (record { node = p; slot = slot }) ≡ value_in g.spec (put t (k ∷ p) s) (record { node = p; slot = slot })
              beyond high = no_value g.spec is.sound only.op only.none slot high t p label_was ∙ sym (no_value g.spec is.sound only.op only.none slot high (put t (k ∷ p) s) p label_now)

              by : (o : Option ℕ) → phylum_of g.spec.ops only.op ≡ o → (slot < attr_count (rules_of g.spec) (phylum_of g.spec.ops only.op)) ⊎ (attr_count (rules_of g.spec) (phylum_of g.spec.ops only.op) ≤ slot)
                  → value_in g.spec t (record { node = p; slot = slot }) ≡ value_in g.spec (put t (k ∷ p) s) (record { node = p; slot = slot })
              by o e (inr high) = beyond high
              by None e (inl low) = let none = ap (attr_count (rules_of g.spec)) e in absurd (omega (arith, low, none))
              by (Some X) e (inl low) =
                  let count = ap (attr_count (rules_of g.spec)) e in
                  subst (λ z. value_in g.spec t (record { node = z; slot = slot }) ≡ value_in g.spec (put t (k ∷ p) s) (record { node = z; slot = slot })) place
                  (sym (reaches.own X slot some (subst (λ z. phylum_at g.spec.ops (label_of (sub (put t (k ∷ p) s) z)) ≡ Some X) (sym place) (ap (phylum_at g.spec.ops) label_now ∙ e)) (omega (arith, low, count))))

module _ (old new : Grove) (is : IsGrove old) (root at d : NodeId) (t : Term) (u : Place) (may : MayTurn old root at (Tree d) t u) (mid : Grove) (exchanged : IsExchanged old mid at d) (stored : OnlyStored mid new IsAnySlot) where
  stands_then : Climbs (nodes new) u d (root_then u root d)
  stands_then = only_climbs mid new IsAnySlot stored u d (root_then u root d) (by u may.way)
    where
      by : (w : Place) → Climbs (nodes old) w at root → Climbs (nodes mid) w d (root_then w root d)
      by [] e = refl
      by (k ∷ w) c = ways_over (nodes old) (nodes mid) at d c.0 k is.forest.linked c.1 exchanged.root exchanged.apart (exchanged.swapped c.0 k c.1) k w root c

  pub reaches_then : (then : NodeId) → (at ≡ root → then ≡ d) → (at ≢ root → then ≡ root) → (reach : NodeId) → Reaches old.spec new (root_then u root d) t u (term_at old d) reach → ReachesThen old new d then t u reach
  reaches_then then here there reach reaches =
      subst (λ r. ReachesThen old new d r t u reach) (sym (root_is old is root at d t u may then here there)) (record { way = stands_then; reaches = reaches })
