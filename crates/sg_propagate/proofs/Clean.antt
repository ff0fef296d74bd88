-- Equations outside a change that name nothing changed: of which each argument has the value of before or is defined by
-- one of them, as those of a node's visits where nothing that they take is changed.
use Rattle.std.specs.Prelude.{◌≡◌, ◌⊎◌, ℕ, zero, suc, ◌<◌, ◌≤◌, List, [], ◌∷◌, ◌++◌, length, map, Some, Contains}
use Rattle.std.proofs.Common.{refl, sym, ap, ◌∙◌, subst, get_or, arith, inl, inr}
use Rattle.sg_kinds.specs.declared.plans.Plans.{Plans}
use Rattle.sg_kinds.specs.declared.spec.Spec.{Spec}
use Rattle.sg_kinds.specs.declared.spec.Rules.{Rules}
use Rattle.sg_kinds.specs.declared.spec.Occurrence.{Occurrence}
use Rattle.sg_kinds.specs.Terms.{Term}
use Rattle.sg_kinds.specs.Specification.{rules_of}
use Rattle.sg_kinds.specs.Places.{Place, put}
use Rattle.sg_kinds.specs.Nets.{Net, Reference, referred, net_of}
use Rattle.sg_kinds.specs.Instances.{Site, args_at, site_of}
use Rattle.sg_kinds.specs.Dependencies.{occurrence}
use Rattle.sg_orders.specs.LiveSites.{IsLive}
use Rattle.sg_orders.proofs.Fixpoint.{site_induction}
use Rattle.sg_orders.proofs.ValidFacts.{valid_timed}
use Rattle.sg_plans.specs.Planned.{IsPlanned}
use Rattle.sg_plans.specs.Segments.{IsOfVisit, IsOutside, IsTaken, bearer}
use Rattle.sg_plans.proofs.Bearers.{ranges, bearer_found, found_bears, found_live}
use Rattle.sg_plans.proofs.Closed.{closed}
use Rattle.sg_propagate.proofs.Changing.{IsSame, cut, leaf_same, one_above}

-- an element of a list's image
mapped : {X Y : Type 0} (f : X → Y) (xs : List X) (y : Y) → Contains (map f xs) y → (x : X) × Contains xs x × (f x ≡ y)
mapped f [] y has = absurd (let l = has.1 in omega (arith, l))
mapped {X} {Y} f (x ∷ xs) y has = by has.0 has.1 has.2 (mapped f xs y)
  where
    by : (i : ℕ) → i < length (map f (x ∷ xs)) → get_or (map f (x ∷ xs)) i y ≡ y → (Contains (map f xs) y → (z : X) × Contains xs z × (f z ≡ y)) → (z : X) × Contains (x ∷ xs) z × (f z ≡ y)
    by zero low at rest = (x, (0, omega arith, refl), at)
    by (suc i) low at rest = let r = rest (i, (omega (arith, low)), at) in let c = r.1 in let l = c.1 in (r.0, (suc c.0, omega (arith, l), c.2), r.2)

-- in a term with another subterm at a place: each argument has the value of before, or one of these equations defines it
abbrev pub IsClosed : Spec → Term → Term → Place → (Site Place → Type 0) → Type 0
IsClosed spec t s u P = (i : Site Place) → IsLive (rules_of spec) (put t u s) i → P i → (o : Occurrence) → Contains i.rule.args o
    → IsSame spec t s u (referred (net_of (put t u s)) i.node o) ⊎ ((j : Site Place) × (site_of (rules_of spec) (net_of (put t u s)) (referred (net_of (put t u s)) i.node o) ≡ Some j) × P j)

module _ (spec : Spec) (plans : Plans) (t s : Term) (u : Place) (was_planned : IsPlanned spec plans t) (planned : IsPlanned spec plans (put t u s)) where
  abbrev rules : Rules
  rules = rules_of spec

  abbrev net : Net Place
  net = net_of (put t u s)

  module _ (P : Site Place → Type 0) (far : (i : Site Place) → P i → IsOutside u i.node) (is_closed : IsClosed spec t s u P) where
    IsClean : Site Place → Type 0
    IsClean i = P i → (a : Reference Place) → Contains (args_at (net_of (put t u s)) i) a → IsSame spec t s u a

    clean_step : (i : Site Place) → IsLive (rules_of spec) (put t u s) i
        → ((o : Occurrence) → Contains i.rule.args o → (j : Site Place) → site_of (rules_of spec) (net_of (put t u s)) (referred (net_of (put t u s)) i.node o) ≡ Some j → IsClean j) → IsClean i
    unfolding IsClean
    clean_step i live rest is a has =
        let o = mapped (referred net i.node) i.rule.args a has in
        subst (IsSame spec t s u) o.2 (elim (is_closed i live is o.0 o.1) [
          | inl same ↦ same
          | inr next ↦
              let there = found_live rules (put t u s) (referred net i.node o.0) next.0 next.1 in
              let bears = found_bears rules (put t u s) (referred net i.node o.0) next.0 next.1 in
              subst (IsSame spec t s u) bears (cut spec plans t s u was_planned planned next.0 there (far next.0 next.2) (rest o.0 o.1 next.0 next.1 next.2))
        ])

    -- what such an equation names has the value of before
    pub clean : (i : Site Place) → IsLive (rules_of spec) (put t u s) i → P i → (a : Reference Place) → Contains (args_at (net_of (put t u s)) i) a → IsSame spec t s u a
    unfolding IsClean
    clean i live =
        site_induction spec (ranges spec (put t u s) planned.root planned.sound planned.fits) plans (valid_timed rules plans planned.valid) (put t u s) planned.root planned.fits IsClean clean_step
        (bearer (put t u s) i) i (bearer_found spec (put t u s) planned.root planned.sound planned.fits i live)

    -- and so has what it defines
    pub same : (i : Site Place) → IsLive (rules_of spec) (put t u s) i → P i → IsSame spec t s u (bearer (put t u s) i)
    same i live is = cut spec plans t s u was_planned planned i live (far i is) (clean i live is)

  -- the first visits of a node apart from the change, where nothing that they take is changed
  module _ (c : Place) (out : IsOutside u c) (apart : IsOutside c u) (j : ℕ) (taken : (a : Reference Place) → IsTaken (rules_of spec) plans (put t u s) c j a → IsSame spec t s u a) where
    abbrev IsUpTo : Site Place → Type 0
    IsUpTo i = (h : ℕ) × (h ≤ j) × IsOfVisit (rules_of spec) plans (put t u s) c h i

    outside_below : (w : List ℕ) (v : Place) → v ≡ w ++ c → IsOutside u v
    outside_below w v at x is = elim (one_above w x c u (sym at ∙ is)) [ inl low ↦ out low.0 low.1 | inr high ↦ apart high.0 high.1 ]

    node_below : (i : Site Place) (o : Occurrence) (w : List ℕ) → i.node ≡ w ++ c → (x : List ℕ) × ((referred net i.node o).node ≡ x ++ c)
    node_below i o w at = by o.at
      where
        by : (k : ℕ) → (x : List ℕ) × ((referred net i.node (occurrence k o.slot)).node ≡ x ++ c)
        by zero = (w, at)
        by (suc k) = (k ∷ w, ap (λ v. k ∷ v) at)

    visits_closed : IsClosed spec t s u IsUpTo
    visits_closed i live is o names = by is.0 is.1 is.2
      where
        by : (h : ℕ) → h ≤ j → IsOfVisit (rules_of spec) plans (put t u s) c h i
            → IsSame spec t s u (referred (net_of (put t u s)) i.node o) ⊎ ((k : Site Place) × (site_of (rules_of spec) (net_of (put t u s)) (referred (net_of (put t u s)) i.node o) ≡ Some k) × IsUpTo k)
        by h low of = elim (closed spec plans (put t u s) planned c h i of o names) [
          | inl leaf ↦ inl (leaf_same spec plans t s u was_planned planned (referred net i.node o) leaf (let b = node_below i o of.way of.below in outside_below b.0 (referred net i.node o).node b.1))
          | inr (inl x) ↦ inl (taken (referred net i.node o) (record { node = x.node; phylum = x.phylum; left = x.left; inherited = x.inherited; visit = (let v = x.visit in omega (arith, v, low)) }))
          | inr (inr gives) ↦ (let g = gives.2 in let le = gives.1 in inr (g.site, g.found, (gives.0, omega (arith, le, low), g.of_visit)))
        ]

    pub visit_clean : (h : ℕ) (i : Site Place) → h ≤ j → IsOfVisit (rules_of spec) plans (put t u s) c h i → (a : Reference Place) → Contains (args_at (net_of (put t u s)) i) a → IsSame spec t s u a
    visit_clean h i low of = clean IsUpTo (λ k is. (let of = is.2 in outside_below of.way k.node of.below)) visits_closed i of.live (h, low, of)
