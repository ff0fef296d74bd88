-- The nearest resting place above a place, by a walk up that keeps the lowest good one met.
use Rattle.std.specs.Prelude.{◌≡◌, ◌↔◌, ◌⊎◌, IsTrue, refl, ℕ, Bool, true, false, ◌&&◌, cond, [], ◌∷◌, Option, Some, None, is_some, unwrap_or, option_map, nat_eq}
use Rattle.std.specs.List.{find}
use Rattle.std.proofs.Common.{sym, ap, ◌∙◌, subst, inl, inr}
use Rattle.std.proofs.lemmas.Bool.{false≢true}
use Rattle.sg_kinds.proofs.Elementary.{eq_is, eq_itself}
use Rattle.sg_kinds.specs.Terms.{Term}
use Rattle.sg_kinds.specs.Places.{Place, sub}
use Rattle.sg_kinds.specs.declared.spec.Spec.{Spec}
use Rattle.sg_select.specs.RestingPlaces.{above, is_open, leads_on, rests, rests_under, settled}
use Rattle.sg_forest.specs.declared.node_id.NodeId.{NodeId}
use Rattle.sg_forest.specs.Trees.{Climbs}
use Rattle.sg_groves.specs.Grove.{Grove, nodes, IsGrove, spec_shown}
use Rattle.sg_groves.specs.Holds.{IsPlaced}
use Rattle.sg_groves.proofs.Ways.{one_node, one_way}
use Rattle.sg_select.specs.Leads.{IsOpenAt, LeadsTo}
use Rattle.sg_select.proofs.Climbing.{IsStep, Knows}
use Rattle.sg_select.proofs.Around.{reached_from}
use Rattle.sg_select.specs.Kept.{IsKept, nearest, or_kept}
use Rattle.sg_select.proofs.Within.{open_child, rests_child, closed_rests}

module _ (spec : Spec) (t : Term) where
  pub kept_first : (u : Place) → IsKept spec t u u None
  kept_first u = record { reached = λ _. refl; closed = λ _. refl }

  passed : (u : Place) → rests spec t u ≡ false → nearest spec t u ≡ find (rests spec t) (above u)
  passed u rest = ap (λ b. cond b (Some u) (find (rests spec t) (above u))) rest

  found : (u : Place) → rests spec t u ≡ true → nearest spec t u ≡ Some u
  found u rest = ap (λ b. cond b (Some u) (find (rests spec t) (above u))) rest

  no_true : {A : Type 0} → (b : Bool) → b ≡ false → b ≡ true → A
  no_true b off on = absurd (false≢true (sym off ∙ on))

  module _ (u : Place) (k : ℕ) (w : Place) (x y : Term) (at : sub t w ≡ Some x) (there : sub t (k ∷ w) ≡ Some y) where
    -- a step up past a place that is not shown, or from below an elided node
    pub kept_closed : (kept : Option Place) → leads_on spec x k ≡ false → IsKept spec t u (k ∷ w) kept → IsKept spec t u w None
    kept_closed kept off h = record { reached = λ _. up; closed = λ _. up }
      where
        shut : is_open spec t (k ∷ w) ≡ false
        shut = by (is_open spec t w) refl
          where
            by : (b : Bool) → is_open spec t w ≡ b → is_open spec t (k ∷ w) ≡ false
            by true way = open_child spec t k w x at way ∙ off
            by false way = ap (λ b. b && unwrap_or (option_map (λ z. leads_on spec z k) (sub t w)) false) way

        up : nearest spec t u ≡ nearest spec t w
        up = h.closed shut ∙ passed (k ∷ w) (closed_rests spec t (k ∷ w) shut)

    shut_above : is_open spec t w ≡ false → is_open spec t (k ∷ w) ≡ false
    shut_above way = ap (λ b. b && unwrap_or (option_map (λ z. leads_on spec z k) (sub t w)) false) way

    closed_up : (kept : Option Place) → IsKept spec t u (k ∷ w) kept → is_open spec t w ≡ false → nearest spec t u ≡ nearest spec t w
    closed_up kept h way = h.closed (shut_above way) ∙ passed (k ∷ w) (closed_rests spec t (k ∷ w) (shut_above way))

    -- past one that is kept already
    pub kept_same : (v : Place) → leads_on spec x k ≡ true → IsKept spec t u (k ∷ w) (Some v) → IsKept spec t u w (Some v)
    kept_same v on h = record { reached = λ way. h.reached (open_child spec t k w x at way ∙ on); closed = closed_up (Some v) h }

    -- where the child rests, it is kept
    pub kept_here : leads_on spec x k ≡ true → rests_under spec x k y ≡ true → IsKept spec t u (k ∷ w) None → IsKept spec t u w (Some (k ∷ w))
    kept_here on rest h =
        record {
          reached = λ way.
              let reached = open_child spec t k w x at way ∙ on in
              h.reached reached ∙ found (k ∷ w) (rests_child spec t k w x y at there reached ∙ rest);
          closed = closed_up None h;
        }

    -- and where it does not, nothing is
    pub kept_none : leads_on spec x k ≡ true → rests_under spec x k y ≡ false → IsKept spec t u (k ∷ w) None → IsKept spec t u w None
    kept_none on rest h =
        record {
          reached = λ way.
              let reached = open_child spec t k w x at way ∙ on in
              h.reached reached ∙ passed (k ∷ w) (rests_child spec t k w x y at there reached ∙ rest);
          closed = closed_up None h;
        }

  -- at the root
  pub kept_last : (u : Place) (kept : Option Place) → IsKept spec t u [] kept → nearest spec t u ≡ or_kept kept (Some [])
  kept_last u kept h = h.reached refl

  pub settled_kept : (u v : Place) → IsKept spec t u [] (Some v) → settled spec t u ≡ v
  settled_kept u v h = ap (λ o. unwrap_or o []) (kept_last u (Some v) h)

  pub settled_root : (u : Place) → IsKept spec t u [] None → settled spec t u ≡ []
  settled_root u h = ap (λ o. unwrap_or o []) (kept_last u None h)

  -- some place is the nearest, since the root rests
  pub nearest_settled : (u : Place) → nearest spec t u ≡ Some (settled spec t u)
  nearest_settled [] = refl
  nearest_settled (k ∷ u) = by (rests spec t (k ∷ u)) refl (nearest_settled u)
    where
      by : (b : Bool) → rests spec t (k ∷ u) ≡ b → nearest spec t u ≡ Some (settled spec t u)
          → cond b (Some (k ∷ u)) (nearest spec t u) ≡ Some (unwrap_or (cond b (Some (k ∷ u)) (nearest spec t u)) [])
      by true is rest = refl
      by false is rest = rest ∙ ap (λ o. Some (unwrap_or o [])) (sym rest) ∙ refl

  -- the nearest resting place rests
  pub settled_rests : (u : Place) → rests spec t (settled spec t u) ≡ true
  settled_rests [] = refl
  settled_rests (k ∷ u) = by (rests spec t (k ∷ u)) refl (settled_rests u)
    where
      by : (b : Bool) → rests spec t (k ∷ u) ≡ b → rests spec t (settled spec t u) ≡ true → rests spec t (unwrap_or (cond b (Some (k ∷ u)) (nearest spec t u)) []) ≡ true
      by true is rest = is
      by false is rest = rest

  pub settled_itself : (u : Place) → rests spec t u ≡ true → settled spec t u ≡ u
  settled_itself u rest = ap (λ b. unwrap_or (cond b (Some u) (find (rests spec t) (above u))) []) rest

-- what is kept names the node that is
pub record IsKeeping (g : Grove) (root : NodeId) (t : Term) (u w : Place) (kept : Option NodeId) : Type 0 where
  pub place : Option Place
  pub leads : LeadsTo g root place kept
  pub known : IsKept (spec_shown g) t u w place

abbrev pub Keeps : Grove → Option NodeId → Knows
Keeps g kept root t u w = IsKeeping g root t u w kept

-- an answer that names a node names it for a place, and one that does not has none
pub leads_is_some : (g : Grove) (root : NodeId) (o : Option Place) (r : Option NodeId) → is_some r ≡ true → LeadsTo g root o r → (v : Place) × (o ≡ Some v)
leads_is_some g root None (Some m) some h = absurd h
leads_is_some g root (Some v) (Some m) some h = (v, refl)
leads_is_some g root o None some h = absurd (false≢true some)

pub leads_is_none : (g : Grove) (root : NodeId) (o : Option Place) (r : Option NodeId) → is_some r ≡ false → LeadsTo g root o r → o ≡ None
leads_is_none g root None r none h = refl
leads_is_none g root (Some v) None none h = absurd h
leads_is_none g root (Some v) (Some m) none h = absurd (false≢true (sym none))

pub settled_at : (g : Grove) (root at : NodeId) (t : Term) (u : Place) (kept : Option NodeId) → IsKeeping g root t u [] kept → at ≡ root
    → Climbs (nodes g) (settled (spec_shown g) t u) (unwrap_or kept at) root
settled_at g root at t u kept h top = by kept h.place h.leads h.known
  where
    by : (r : Option NodeId) (o : Option Place) → LeadsTo g root o r → IsKept (spec_shown g) t u [] o → Climbs (nodes g) (settled (spec_shown g) t u) (unwrap_or r at) root
    by None None leads known = subst (λ v. Climbs (nodes g) v at root) (sym (settled_root (spec_shown g) t u known)) top
    by None (Some v) leads known = absurd leads
    by (Some m) None leads known = absurd leads
    by (Some m) (Some v) leads known = subst (λ z. Climbs (nodes g) z m root) (sym (settled_kept (spec_shown g) t u v known)) leads

-- where the place of a walk can be reached, what is kept is settled
pub settled_met : (g : Grove) (root m : NodeId) (t : Term) (u w : Place) (kept : Option NodeId) → IsKeeping g root t u w kept → kept ≡ Some m → is_open (spec_shown g) t w ≡ true
    → Climbs (nodes g) (settled (spec_shown g) t u) m root
settled_met g root m t u w kept h is way = by h.place (subst (LeadsTo g root h.place) is h.leads) h.known
  where
    by : (o : Option Place) → LeadsTo g root o (Some m) → IsKept (spec_shown g) t u w o → Climbs (nodes g) (settled (spec_shown g) t u) m root
    by None leads known = absurd leads
    by (Some v) leads known = subst (λ z. Climbs (nodes g) z m root) (sym (ap (λ o. unwrap_or o []) (known.reached way))) leads

-- a walk that met a node which can be reached is at a place that can be
pub record HasMet (g : Grove) (kept : Option NodeId) (met : Bool) (n root : NodeId) (t : Term) (u w : Place) : Type 0 where
  pub keeps : IsKeeping g root t u w kept
  pub way : IsOpenAt g root t n → met ≡ true → is_open (spec_shown g) t w ≡ true

abbrev pub Meets : Grove → Option NodeId → Bool → NodeId → Knows
Meets g kept met n root t u w = HasMet g kept met n root t u w

pub met_here : (g : Grove) (root n at : NodeId) (t : Term) (u w : Place) (kept : Option NodeId) (met now : Bool) → Climbs (nodes g) w at root → HasMet g kept met n root t u w
    → (IsTrue now → IsTrue met ⊎ (at ≡ n)) → IsOpenAt g root t n → now ≡ true → is_open (spec_shown g) t w ≡ true
met_here g root n at t u w kept met now here h either reached on = elim (either on) [
  | inl was ↦ h.way reached was
  | inr same ↦ reached w (subst (λ z. Climbs (nodes g) w z root) same here)
]

pub met_up : (g : Grove) (root n at p : NodeId) (t : Term) (u w : Place) (k : ℕ) (x y : Term) (kept : Option NodeId) (met now : Bool) → IsStep g root t k w p at x y → HasMet g kept met n root t u (k ∷ w)
    → (IsTrue now → IsTrue met ⊎ (at ≡ n)) → IsOpenAt g root t n → now ≡ true → is_open (spec_shown g) t w ≡ true
met_up g root n at p t u w k x y kept met now s h either reached on =
    (reached_from (spec_shown g) t k w x s.there (met_here g root n at t u (k ∷ w) kept met now s.below.way h either reached on)).way

-- a node is where its walk settles exactly where it rests
pub itself_rests : (g : Grove) → IsGrove g → (root n m : NodeId) (t : Term) (u : Place) → IsPlaced g root t u n → Climbs (nodes g) (settled (spec_shown g) t u) m root
    → (m ≡ n) ↔ (rests (spec_shown g) t u ≡ true)
itself_rests g is root n m t u placed way = (
  (λ same. subst (λ v. rests (spec_shown g) t v ≡ true) (one_way g is (settled (spec_shown g) t u) u n root root placed.top placed.top (subst (λ z. Climbs (nodes g) (settled (spec_shown g) t u) z root) same way) placed.way).0
      (settled_rests (spec_shown g) t u)),
  (λ rest. one_node g is u m n root (subst (λ v. Climbs (nodes g) v m root) (settled_itself (spec_shown g) t u rest) way) placed.way),
)

pub same_tests : (a b : Bool) → (a ≡ true) ↔ (b ≡ true) → a ≡ b
same_tests true b h = sym (h.0 refl)
same_tests false true h = h.1 refl
same_tests false false h = refl

-- nodes are compared by their numbers
pub tested : (m n : NodeId) (b : Bool) → b ≡ nat_eq m.key n.key → (m ≡ n) ↔ (b ≡ true)
tested m n b is = (
  (λ same. is ∙ ap (λ (z : NodeId). nat_eq z.key n.key) same ∙ eq_itself n.key),
  (λ on. let keys = eq_is m.key n.key (sym is ∙ on) in λ i. record { key = keys i }),
)
