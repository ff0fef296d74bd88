-- Where moves and cells lead.
use Rattle.std.specs.Prelude.{◌≡◌, refl, ℕ, true, [], ◌∷◌, Option, None, Some, option_map, MatchOption}
use Rattle.std.proofs.Common.{sym, ap, ◌∙◌, subst}
use Rattle.std.proofs.lemmas.Option.{none-some, same_Some}
use Rattle.sg_kinds.specs.Terms.{Term}
use Rattle.sg_kinds.specs.Places.{Place}
use Rattle.sg_kinds.specs.FromScratch.{value_in}
use Rattle.sg_forest.specs.declared.node_id.NodeId.{NodeId}
use Rattle.sg_forest.specs.Trees.{Climbs, IsLive}
use Rattle.sg_groves.specs.Grove.{Grove, nodes, IsGrove, spec_shown}
use Rattle.sg_groves.specs.Holds.{IsPlaced}
use Rattle.sg_groves.proofs.Held.{node_held}
use Rattle.sg_groves.proofs.Ways.{one_way}
use Rattle.sg_select.specs.Leads.{LeadsTo}
use Rattle.sg_select.specs.RestingPlaces.{rests, settled}
use Rattle.sg_select.proofs.Leading.{leads_some}
use Rattle.sg_select.proofs.Settling.{settled_itself, settled_rests}
use Rattle.sg_unparse.specs.Along.{node_along}
use Rattle.sg_unparse.specs.Page.{cells_of, owner_at}
use Rattle.sg_unparse.specs.Sheet.{Sheet}
use Rattle.sg_unparse.proofs.Placed.{climbs_along}
use Rattle.sg_states.specs.Seen.{marks_seen, nothing_typed}
use Rattle.sg_states.specs.States.{target}
use Rattle.sg_states.specs.Paged.{IsWhole, page_seen}
use Rattle.sg_states.specs.declared.marks.Move.{Move}
use Rattle.sg_states.proofs.Leading.{leads_to_rest}
use Rattle.sg_states.proofs.Sheeted.{marks_there, owner_there, owner_told}

module _ (g : Grove) (is : IsGrove g) (root : NodeId) (t : Term) (whole : IsWhole g root t) where
  placed : (u : Place) (n : NodeId) → Climbs (nodes g) u n root → IsPlaced g root t u n
  placed u n way = record { top = whole.top; holds = whole.holds; way = way }

  -- a node at a resting place is settled
  pub settled_there : (u v : Place) (n : NodeId) → Climbs (nodes g) v n root → rests (spec_shown g) t v ≡ true → Climbs (nodes g) u n root → settled (spec_shown g) t u ≡ u
  settled_there u v n at rest way =
      let same : u ≡ v = (one_way g is u v n root root whole.top whole.top way at).0 in
      settled_itself (spec_shown g) t u (subst (λ z. rests (spec_shown g) t z ≡ true) (sym same) rest)

  -- the owner of a cell of the page
  record Owns (line col : ℕ) (n : NodeId) : Type 0 where
    place : Place
    owner : owner_at (cells_of (marks_seen g.spec g.view t nothing_typed)) line col ≡ Some place
    way : Climbs (nodes g) place n root

  module _ (p : Sheet) (page : p ≡ page_seen g root t nothing_typed) (line col : ℕ) where
    abbrev owner : Option Place
    owner = owner_at (cells_of (marks_seen g.spec g.view t nothing_typed)) line col

    told : owner_at p.cells line col ≡ option_map (node_along g root) owner
    unfolding page_seen
    told = ap (λ (z : Sheet). owner_at z.cells line col) page ∙ owner_told (node_along g root) (marks_seen g.spec g.view t nothing_typed) line col

    owns : (n : NodeId) → owner_at p.cells line col ≡ Some n → Owns line col n
    owns n e = by owner refl (sym told ∙ e)
      where
        by : (o : Option Place) → owner ≡ o → option_map (node_along g root) o ≡ Some n → Owns line col n
        by None at h = absurd (none-some n h)
        by (Some v) at h =
            let of = owner_there t (marks_seen g.spec g.view t nothing_typed) line col v (marks_there (spec_shown g) (value_in g.spec t) nothing_typed t) at in
            let m = node_held g is v root t of.0 whole.holds of.1 in
            let same : m.0 ≡ n = sym (climbs_along g is root v m.0 m.1) ∙ same_Some (node_along g root v) n h in
            record { place = v; owner = at; way = subst (λ z. Climbs (nodes g) v z root) same m.1 }

    pub cell_live : (n : NodeId) → owner_at p.cells line col ≡ Some n → IsLive (nodes g) n
    cell_live n e =
        let o = owns n e in
        live o.place o.way
      where
        live : (v : Place) → Climbs (nodes g) v n root → IsLive (nodes g) n
        live v way = (let x = node_of v way in x)
          where
            node_of : (v : Place) → Climbs (nodes g) v n root → IsLive (nodes g) n
            node_of [] e = subst (IsLive (nodes g)) (sym e) (record { node = whole.top.node; found = whole.top.found })
            node_of (k ∷ w) c = record { node = c.1.node; found = c.1.found }

    pub cell_leads : (r : Option NodeId) → (owner_at p.cells line col ≡ None → r ≡ None)
        → ((n : NodeId) (u : Place) → owner_at p.cells line col ≡ Some n → IsPlaced g root t u n → LeadsTo g root (Some (settled (spec_shown g) t u)) r)
        → LeadsTo g root (option_map (settled (spec_shown g) t) owner) r
    cell_leads r none some = by owner refl (owner_at p.cells line col) refl
      where
        by : (o : Option Place) → owner ≡ o → (w : Option NodeId) → owner_at p.cells line col ≡ w → LeadsTo g root (option_map (settled (spec_shown g) t) o) r
        by None at None e = subst (LeadsTo g root None) (sym (none e)) tt
        by None at (Some n) e = absurd (none-some n (sym (told ∙ ap (option_map (node_along g root)) at) ∙ e))
        by (Some v) at None e = absurd (none-some (node_along g root v) (sym e ∙ told ∙ ap (option_map (node_along g root)) at))
        by (Some v) at (Some n) e =
            let o = owns n e in
            let same : o.place ≡ v = same_Some o.place v (sym o.owner ∙ at) in
            subst (λ z. LeadsTo g root (Some (settled (spec_shown g) t z)) r) same (some n o.place e (placed o.place n o.way))

  -- an answer that leads to a resting place
  pub record Reached (o : Option Place) (n : NodeId) : Type 0 where
    pub place : Place
    pub at : o ≡ Some place
    pub way : Climbs (nodes g) place n root
    pub rest : rests (spec_shown g) t place ≡ true

  pub reached : (o : Option Place) (n : NodeId) → ((v : Place) → o ≡ Some v → rests (spec_shown g) t v ≡ true) → LeadsTo g root o (Some n) → Reached o n
  reached o n rest leads = (let v = leads_some g root n o leads in record { place = v.0; at = v.1; way = v.2; rest = rest v.0 v.1 })

  pub move_rests : (to : Move) (u v : Place) → target to (spec_shown g) t u ≡ Some v → rests (spec_shown g) t v ≡ true
  move_rests to u v e = leads_to_rest (spec_shown g) t to u v e

  pub cell_rests : (o : Option Place) (v : Place) → option_map (settled (spec_shown g) t) o ≡ Some v → rests (spec_shown g) t v ≡ true
  cell_rests None v e = absurd (none-some v e)
  cell_rests (Some w) v e = subst (λ z. rests (spec_shown g) t z ≡ true) (same_Some (settled (spec_shown g) t w) v e) (settled_rests (spec_shown g) t w)

-- what is answered where a move leads somewhere, and where it leads nowhere
pub answered_some : {A : Type 0} (f : Place → A) (o : Option Place) (v : Place) (P : Type 0) (R : A → Type 0) → o ≡ Some v → R (f v) → MatchOption (option_map f o) P R
answered_some f o v P R e r = subst (λ z. MatchOption (option_map f z) P R) (sym e) r

pub answered_none : {A : Type 0} (f : Place → A) (o : Option Place) (P : Type 0) (R : A → Type 0) → o ≡ None → P → MatchOption (option_map f o) P R
answered_none f o P R e p = subst (λ z. MatchOption (option_map f z) P R) (sym e) p

pub answered_through : {A : Type 0} (g : Place → Place) (f : Place → A) (o : Option Place) (v : Place) (P : Type 0) (R : A → Type 0) → option_map g o ≡ Some v → R (f v) → MatchOption (option_map (λ w. f (g w)) o) P R
answered_through g f None v P R e r = absurd (none-some v e)
answered_through g f (Some w) v P R e r = subst (λ z. R (f z)) (sym (same_Some (g w) v e)) r
