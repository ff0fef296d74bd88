-- Another tree in the place of a node of the edited term.
use Rattle.std.specs.Prelude.{◌≡◌, ◌≢◌, ◌⊎◌, refl, ℕ, zero, suc, ◌≤◌, false, List, [], ◌∷◌, ◌++◌, Some}
use Rattle.std.proofs.Common.{sym, ap, ◌∙◌, subst, arith, inl, inr}
use Rattle.std.proofs.lemmas.Option.{none-some, same_Some}
use Rattle.sg_kinds.specs.Terms.{Term}
use Rattle.sg_kinds.specs.Fits.{Fits}
use Rattle.sg_kinds.specs.Nets.{phylum_at}
use Rattle.sg_kinds.specs.Places.{Place, put, sub}
use Rattle.sg_kinds.specs.Specification.{is_inherited}
use Rattle.sg_kinds.specs.declared.spec.Spec.{Spec}
use Rattle.sg_forest.specs.declared.node_id.NodeId.{NodeId}
use Rattle.sg_forest.specs.Node as forest
use Rattle.sg_forest.specs.Trees.{Climbs, HasRoot, IsChild, IsInside, IsLive, IsRoot}
use Rattle.sg_forest.proofs.Paths.{cases_id, child_is_live, inside_itself, no_cycle, root_is_live, root_is_no_child}
use Rattle.sg_groves.specs.declared.kind.Kind.{Kind}
use Rattle.sg_groves.specs.declared.part.Part.{Part}
use Rattle.sg_groves.specs.Grove.{Grove, nodes, IsGrove}
use Rattle.sg_groves.specs.Holds.{Holds}
use Rattle.sg_groves.specs.IsRight.{IsRight}
use Rattle.sg_groves.specs.TermAt.{term_at}
use Rattle.sg_groves.specs.Unchanged.{OnlyStored}
use Rattle.sg_groves.proofs.Frames.{only_root, only_was_root}
use Rattle.sg_groves.proofs.Held.{held_fits, part_held}
use Rattle.sg_groves.proofs.Puts.{label_outside}
use Rattle.sg_groves.proofs.Ways.{one_way}
use Rattle.sg_terms.specs.Kept.{KeepsTermsNotOver}
use Rattle.sg_build.proofs.Roots.{one_phylum}
use Rattle.sg_changes.specs.Changes.{part_of}
use Rattle.sg_changes.proofs.Marking.{part_is}
use Rattle.sg_plans.proofs.Nodes.{fitting_phylum}
use Rattle.sg_trail.specs.Trails.{IsAnySlot, IsExchanged}
use Rattle.sg_propagate.specs.Asked.{IsAsked, root_then}
use Rattle.sg_propagate.specs.Exchanged.{KeepsOtherRoots}
use Rattle.sg_states.specs.Paged.{IsWhole}
use Rattle.sg_exchanges.specs.Roots.{times, AreTheRoots}
use Rattle.sg_exchanges.specs.Turns.{MayTurn, KeepsHanging}
use Rattle.sg_exchanges.specs.declared.turns.What.TheVariants.{Tree}
use Rattle.sg_exchanges.proofs.Free.{root_free}
use Rattle.sg_exchanges.proofs.Trees.{holds_at}
use Rattle.sg_exchanges.proofs.Times.{times_same, times_other}

no_cons : (v : List ℕ) (k : ℕ) (u : List ℕ) → [] ≡ v ++ (k ∷ u) → ⊥
no_cons [] k u e = cc
no_cons (j ∷ v) k u e = cc

module _ (old : Grove) (is : IsGrove old) (root at d : NodeId) (t : Term) (u : Place) (may : MayTurn old root at (Tree d) t u) where
  abbrev s : Term
  s = term_at old d

  part : (x : Term) × Holds old at x × (sub t u ≡ Some x)
  part = part_held old is u at root t may.way may.whole.holds

  pub at_live : IsLive (nodes old) at
  at_live = by u may.way
    where
      by : (w : Place) → Climbs (nodes old) w at root → IsLive (nodes old) at
      by [] e = subst (IsLive (nodes old)) (sym e) (root_is_live (nodes old) root may.whole.top)
      by (k ∷ w) c = child_is_live (nodes old) at c.0 k c.1

  pub apart : IsInside (nodes old) at d → ⊥
  apart inside = may.may.1 (sym (one_way old is u inside.path at root d may.whole.top may.may.0 may.way inside.climbs).1)

  pub inherits : (r : NodeId) (x : forest.Node Kind Part) → IsRoot (nodes old) r → IsInside (nodes old) at r → nodes old r ≡ Some x → (slot : ℕ) → is_inherited old.spec.phyla x.label.phylum slot ≡ false
  inherits r x top inside found slot =
      let same : root ≡ r = (one_way old is u inside.path at root r may.whole.top top may.way inside.climbs).1 in
      root_free old is root t may.whole.holds may.fits x (ap (nodes old) same ∙ found) slot

  pub asked : IsAsked old at d root t u s
  asked = record {
    placed = record { top = may.whole.top; holds = may.whole.holds; way = may.way };
    right = may.whole.right;
    part = holds_at old is d (root_is_live (nodes old) d may.may.0);
  }

  at_differs : at ≢ d
  at_differs same = apart (subst (IsInside (nodes old) at) same (inside_itself (nodes old) at))

  child_differs : (k : ℕ) (w : Place) → Climbs (nodes old) (k ∷ w) at root → root ≢ at
  child_differs k w c same = root_is_no_child (nodes old) root c.0 k may.whole.top (subst (λ z. IsChild (nodes old) z c.0 k) (sym same) c.1)

  -- the root then
  pub root_is : (now : NodeId) → (at ≡ root → now ≡ d) → (at ≢ root → now ≡ root) → now ≡ root_then u root d
  root_is now here there = by u may.way
    where
      by : (w : Place) → Climbs (nodes old) w at root → now ≡ root_then w root d
      by [] e = here e
      by (k ∷ w) c = there (λ same. child_differs k w c (sym same))

  abbrev now : NodeId
  now = root_then u root d

  module _ (new : Grove) (on : IsGrove new) (spec : new.spec ≡ old.spec) (right : IsRight new now) (holds : Holds new now (put t u s)) (mid : Grove) (exchanged : IsExchanged old mid at d) (stored : OnlyStored mid new IsAnySlot)
      (freed : IsRoot (nodes new) at) (others : KeepsOtherRoots old new at d) (terms : KeepsTermsNotOver old new at) where
    top_then : IsRoot (nodes new) now
    top_then = by u may.way
      where
        by : (w : Place) → Climbs (nodes old) w at root → IsRoot (nodes new) (root_then w root d)
        by [] e =
            let same = exchanged.unchanged (subst (IsRoot (nodes old)) (sym e) may.whole.top) d in
            only_root mid new IsAnySlot stored d (record { node = may.may.0.node; found = same ∙ may.may.0.found; top = may.may.0.top })
        by (k ∷ w) c = (others root (child_differs k w c) (λ same. may.may.1 (sym same))).1 may.whole.top

    root_fits : (x : forest.Node Kind Part) → nodes old root ≡ Some x → x.label.phylum ≡ old.spec.root
    root_fits x found = one_phylum old.spec t x.label.phylum old.spec.root (held_fits old is root x t found may.whole.holds) may.fits

    pub fits_then : Fits old.spec (put t u s) old.spec.root
    fits_then = by u may.way holds top_then
      where
        by : (w : Place) → Climbs (nodes old) w at root → Holds new (root_then w root d) (put t w s) → IsRoot (nodes new) (root_then w root d) → Fits old.spec (put t w s) old.spec.root
        by [] e h top =
            let a = root_is_live (nodes old) root may.whole.top in
            let found : nodes old at ≡ Some a.node = ap (nodes old) e ∙ a.found in
            let same : a.node.label.phylum ≡ may.may.0.node.label.phylum = may.may.2 a.node may.may.0.node found may.may.0.found in
            subst (Fits old.spec s) (sym same ∙ root_fits a.node a.found) (held_fits old is d may.may.0.node s may.may.0.found (holds_at old is d (root_is_live (nodes old) d may.may.0)))
        by (k ∷ w) c h top =
            let fit : Fits old.spec (put t (k ∷ w) s) top.node.label.phylum = subst (λ (z : Spec). Fits z (put t (k ∷ w) s) top.node.label.phylum) spec (held_fits new on root top.node (put t (k ∷ w) s) top.found h) in
            let label = label_outside t (k ∷ w) s [] (λ b. no_cons b.below k w b.is) in
            let same : top.node.label.phylum ≡ old.spec.root = same_Some top.node.label.phylum old.spec.root
            (sym (fitting_phylum old.spec (put t (k ∷ w) s) top.node.label.phylum fit) ∙ ap (phylum_at old.spec.ops) label ∙ fitting_phylum old.spec t old.spec.root may.fits) in
            subst (Fits old.spec (put t (k ∷ w) s)) same fit

    pub whole_then : IsWhole new now (put t u s)
    whole_then = record {
      top = top_then;
      holds = holds;
      right = right;
      free = root_free new on now (put t u s) holds (subst (λ (z : Spec). Fits z (put t u s) z.root) (sym spec) fits_then) top_then.node top_then.found;
    }

    pub hanging_then : KeepsHanging old new root (Tree d)
    hanging_then n x top differs other h = terms n x (λ b. differs (sym (one_way old is u (b.place ∷ b.path) at root n may.whole.top top may.way b.climbs).1)) h

    pub out_then : Holds new at (part_of t u)
    out_then =
        let has : HasRoot (nodes old) at = record { root = root; is_root = may.whole.top; path = u; climbs = may.way } in
        subst (Holds new at) (sym (part_is t u part.0 part.2)) (terms at part.0 (λ b. no_cycle (nodes old) b.place b.path at has b.climbs) part.1)

    -- the roots
    hangs : (k : ℕ) (p : NodeId) → IsChild (nodes old) at p k → IsRoot (nodes new) d → ⊥
    hangs k p child top =
        let was = only_was_root mid new IsAnySlot stored d top in
        let placed = (exchanged.swapped p k child).placed may.may.0.node may.may.0.found in
        none-some (p, k) (sym was.top ∙ ap (λ (x : forest.Node Kind Part). x.up) (same_Some _ _ (sym was.found ∙ placed)))

    module _ (rest : List NodeId) (were : AreTheRoots old (root ∷ (d ∷ rest))) where
      zero_or : (k : ℕ) → k ≤ 1 → (k ≡ 0) ⊎ (k ≡ 1)
      zero_or zero h = inl refl
      zero_or (suc k) h = inr (omega (arith, h))

      root_or : (r : NodeId) (n : NodeId) → (n ≡ r) ⊎ (n ≢ r)
      root_or r n = cases_id n r

      cons : (n r : NodeId) (ns : List NodeId) → ((n ≡ r) × (times n (r ∷ ns) ≡ suc (times n ns))) ⊎ ((n ≢ r) × (times n (r ∷ ns) ≡ times n ns))
      cons n r ns = elim (cases_id n r) [
        | inl same ↦ inl (same, subst (λ z. times z (r ∷ ns) ≡ suc (times z ns)) (sym same) (times_same r ns))
        | inr differs ↦ inr (differs, times_other n r ns differs)
      ]

      -- at the root the two lists have the same
      at_root : at ≡ root → IsRoot (nodes new) d → AreTheRoots new (d ∷ (at ∷ rest))
      at_root e top = record { once = λ n. (let c = count n in let o = were.once n in omega (arith, c, o)); are = λ n. (to n, from n) }
        where
          count : (n : NodeId) → times n (d ∷ (at ∷ rest)) ≡ times n (root ∷ (d ∷ rest))
          count n =
              let same : times n (root ∷ rest) ≡ times n (at ∷ rest) = ap (λ z. times n (z ∷ rest)) (sym e) in
              elim (cons n d (at ∷ rest)) [
                | inl a ↦ elim (cons n d rest) [
                  | inl b ↦ elim (cons n root (d ∷ rest)) [
                    | inl c ↦ elim (cons n root rest) [ inl f ↦ omega (arith, same, a.1, b.1, c.1, f.1) | inr f ↦ absurd (f.0 c.0) ]
                    | inr c ↦ elim (cons n root rest) [ inl f ↦ absurd (c.0 f.0) | inr f ↦ omega (arith, same, a.1, b.1, c.1, f.1) ]
                  ]
                  | inr b ↦ absurd (b.0 a.0)
                ]
                | inr a ↦ elim (cons n d rest) [
                  | inl b ↦ absurd (a.0 b.0)
                  | inr b ↦ elim (cons n root (d ∷ rest)) [
                    | inl c ↦ elim (cons n root rest) [ inl f ↦ omega (arith, same, a.1, b.1, c.1, f.1) | inr f ↦ absurd (f.0 c.0) ]
                    | inr c ↦ elim (cons n root rest) [ inl f ↦ absurd (c.0 f.0) | inr f ↦ omega (arith, same, a.1, b.1, c.1, f.1) ]
                  ]
                ]
              ]

          is_same : (n : NodeId) → IsRoot (nodes new) n → IsRoot (nodes old) n
          is_same n r = elim (cases_id n at) [
            | inl a ↦ subst (IsRoot (nodes old)) (sym (a ∙ e)) may.whole.top
            | inr a ↦ elim (cases_id n d) [ inl b ↦ subst (IsRoot (nodes old)) (sym b) may.may.0 | inr b ↦ (others n a b).0 r ]
          ]

          is_still : (n : NodeId) → IsRoot (nodes old) n → IsRoot (nodes new) n
          is_still n r = elim (cases_id n at) [
            | inl a ↦ subst (IsRoot (nodes new)) (sym a) freed
            | inr a ↦ elim (cases_id n d) [ inl b ↦ subst (IsRoot (nodes new)) (sym b) top | inr b ↦ (others n a b).1 r ]
          ]

          to : (n : NodeId) → IsRoot (nodes new) n → times n (d ∷ (at ∷ rest)) ≡ 1
          to n r = count n ∙ (were.are n).0 (is_same n r)

          from : (n : NodeId) → times n (d ∷ (at ∷ rest)) ≡ 1 → IsRoot (nodes new) n
          from n one = is_still n ((were.are n).1 (sym (count n) ∙ one))

      -- below it the one comes for the other
      below_root : (k : ℕ) (w : Place) → Climbs (nodes old) (k ∷ w) at root → AreTheRoots new (root ∷ (at ∷ rest))
      below_root k w c = record { once = once; are = λ n. (to n, from n) }
        where
          d_gone : times d rest ≡ 0
          d_gone = (let o = were.once d in let e = times_other d root (d ∷ rest) may.may.1 in let f = times_same d rest in omega (arith, o, e, f))

          not_root : IsRoot (nodes old) at → ⊥
          not_root top = root_is_no_child (nodes old) at c.0 k top c.1

          at_new : times at rest ≡ 0
          at_new =
              let e = times_other at root (d ∷ rest) (λ same. child_differs k w c (sym same)) in
              let f = times_other at d rest at_differs in
              elim (zero_or (times at (root ∷ (d ∷ rest))) (were.once at)) [
                | inl z ↦ omega (arith, e, f, z)
                | inr one ↦ absurd (not_root ((were.are at).1 one))
              ]

          once : (n : NodeId) → times n (root ∷ (at ∷ rest)) ≤ 1
          once n = elim (cases_id n at) [
            | inl a ↦
                let e = times_other at root (at ∷ rest) (λ same. child_differs k w c (sym same)) in
                let f = times_same at rest in
                subst (λ z. times z (root ∷ (at ∷ rest)) ≤ 1) (sym a) (omega (arith, e, f, at_new))
            | inr a ↦
                let e = times_other n at rest a in
                let o = were.once n in
                elim (cons n root (at ∷ rest)) [
                  | inl b ↦ elim (cons n root (d ∷ rest)) [
                    | inl g ↦ elim (cons n d rest) [ inl h ↦ omega (arith, e, o, b.1, g.1, h.1) | inr h ↦ omega (arith, e, o, b.1, g.1, h.1) ]
                    | inr g ↦ absurd (g.0 b.0)
                  ]
                  | inr b ↦ elim (cons n root (d ∷ rest)) [
                    | inl g ↦ absurd (b.0 g.0)
                    | inr g ↦ elim (cons n d rest) [ inl h ↦ omega (arith, e, o, b.1, g.1, h.1) | inr h ↦ omega (arith, e, o, b.1, g.1, h.1) ]
                  ]
                ]
          ]

          -- another node is counted as before
          count : (n : NodeId) → n ≢ at → n ≢ d → times n (root ∷ (at ∷ rest)) ≡ times n (root ∷ (d ∷ rest))
          count n a b =
              let e = times_other n at rest a in
              let f = times_other n d rest b in
              elim (cons n root (at ∷ rest)) [
                | inl g ↦ elim (cons n root (d ∷ rest)) [ inl h ↦ omega (arith, e, f, g.1, h.1) | inr h ↦ absurd (h.0 g.0) ]
                | inr g ↦ elim (cons n root (d ∷ rest)) [ inl h ↦ absurd (g.0 h.0) | inr h ↦ omega (arith, e, f, g.1, h.1) ]
              ]

          to : (n : NodeId) → IsRoot (nodes new) n → times n (root ∷ (at ∷ rest)) ≡ 1
          to n r = elim (cases_id n at) [
            | inl a ↦
                let e = times_other at root (at ∷ rest) (λ same. child_differs k w c (sym same)) in
                let f = times_same at rest in
                subst (λ z. times z (root ∷ (at ∷ rest)) ≡ 1) (sym a) (omega (arith, e, f, at_new))
            | inr a ↦ elim (cases_id n d) [
              | inl b ↦ absurd (hangs k c.0 c.1 (subst (IsRoot (nodes new)) b r))
              | inr b ↦ count n a b ∙ (were.are n).0 ((others n a b).0 r)
            ]
          ]

          from : (n : NodeId) → times n (root ∷ (at ∷ rest)) ≡ 1 → IsRoot (nodes new) n
          from n one = elim (cases_id n at) [
            | inl a ↦ subst (IsRoot (nodes new)) (sym a) freed
            | inr a ↦ elim (cases_id n d) [
              | inl b ↦
                  let z : times d (root ∷ (at ∷ rest)) ≡ 1 = subst (λ z. times z (root ∷ (at ∷ rest)) ≡ 1) b one in
                  let e = times_other d root (at ∷ rest) may.may.1 in
                  let f = times_other d at rest (λ same. at_differs (sym same)) in
                  absurd (omega (arith, z, e, f, d_gone))
              | inr b ↦ (others n a b).1 ((were.are n).1 (sym (count n a b) ∙ one))
            ]
          ]

      pub roots_then : AreTheRoots new (now ∷ (at ∷ rest))
      roots_then = by u may.way top_then
        where
          by : (w : Place) → Climbs (nodes old) w at root → IsRoot (nodes new) (root_then w root d) → AreTheRoots new (root_then w root d ∷ (at ∷ rest))
          by [] e top = at_root e top
          by (k ∷ w) c top = below_root k w c
