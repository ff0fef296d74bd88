-- What is printed of a buffer: its page is that of its term, by the nodes at the places.
use Rattle.std.specs.Prelude.{◌≡◌, refl, ◌≤◌, ℕ, zero, suc, Bool, true, false, cond, ◌==◌, bytes_eq, List, [], ◌∷◌, map, Option, Some, None, MatchOption, option_map, unwrap_or}
use Rattle.std.specs.Option.{option_map_or}
use Rattle.std.specs.List.{AllByRecursion, slice_split}
use Rattle.std.proofs.Common.{sym, ap, ◌∙◌, subst, arith, inl, inr}
use Rattle.std.proofs.lemmas.Option.{none-some, same_Some}
use Rattle.sg_kinds.specs.Values.{Bytes}
use Rattle.sg_kinds.specs.Terms.{Term}
use Rattle.sg_kinds.specs.Places.{Place, sub}
use Rattle.sg_kinds.specs.FromScratch.{value_in}
use Rattle.sg_kinds.proofs.Elementary.{bytes_is, bytes_itself, eq_is, eq_itself}
use Rattle.sg_forest.specs.declared.node_id.NodeId.{NodeId}
use Rattle.sg_forest.specs.Trees.{Climbs, IsLive}
use Rattle.sg_groves.specs.Grove.{Grove, nodes, IsGrove, spec_shown}
use Rattle.sg_groves.specs.Holds.{Holds, IsPlaced}
use Rattle.sg_groves.proofs.Held.{node_held}
use Rattle.sg_groves.proofs.Ways.{one_node, one_way}
use Rattle.sg_select.proofs.Settling.{same_tests}
use Rattle.sg_select.proofs.Leading.{leads_none, leads_some}
use Rattle.sg_select.specs.Leads.{LeadsTo}
use Rattle.sg_select.specs.Paths.{elements, is_list_node, spine_from}
use Rattle.sg_unparse.specs.Along.{node_along}
use Rattle.sg_unparse.specs.Cells.{Mark}
use Rattle.sg_unparse.specs.Owned.{place_of_mark}
use Rattle.sg_unparse.specs.Page.{Region as RegionOf, Cell, bytes_of, cells_of, is_cut, is_newline, lines_of, region_of}
use Rattle.sg_unparse.specs.Sheet.{Sheet, region_on, as_region}
use Rattle.sg_unparse.specs.Written.{by_node}
use Rattle.sg_unparse.proofs.Placed.{climbs_along}
use Rattle.sg_states.specs.Seen.{marks_seen}
use Rattle.sg_edits.specs.Edits.{IsRunAt}
use Rattle.sg_edits.proofs.Behind.{spine_long}
use Rattle.sg_commands.proofs.Choosing.{live_here, placed_here, run_here, run_there}
use Rattle.sg_kinds.specs.declared.spec.Spec.{Spec}
use Rattle.sg_states.specs.States.{selected_place}
use Rattle.sg_buffer.specs.Held.{Held, shown, state_of, typed_by}
use Rattle.sg_buffer.specs.Buffers.{StandsFor}
use Rattle.sg_unparse.specs.declared.page.Region.{Region as Given}
use Rattle.sg_editor.specs.Screen.{TellsRegions, page_begin, region_of_run, shown_in}
use Rattle.sg_states.specs.Paged.{IsWhole, page_seen}
use Rattle.sg_states.proofs.Sheeted.{IsOf, MarkOf, Tells, marks_there, region_told}

module _ (g : Grove) (is : IsGrove g) (root : NodeId) (t : Term) (whole : IsWhole g root t) where
  placed_at : (u : Place) (n : NodeId) → Climbs (nodes g) u n root → IsPlaced g root t u n
  placed_at u n way = record { top = whole.top; holds = whole.holds; way = way }

  -- a node of the tree is told by its place
  tells : (u : Place) (n : NodeId) → Climbs (nodes g) u n root → (v : Place) → IsOf t v → ((node_along g root v).key == n.key) ≡ bytes_eq v u
  tells u n at v of =
      let m = node_held g is v root t of.0 whole.holds of.1 in
      ap (λ (z : NodeId). z.key == n.key) (climbs_along g is root v m.0 m.1) ∙ same_tests (m.0.key == n.key) (bytes_eq v u) (
        (λ on.
            let keys : m.0.key ≡ n.key = eq_is m.0.key n.key on in
            let same : m.0 ≡ n = λ i. record { key = keys i } in
            let way : v ≡ u = (one_way g is v u n root root whole.top whole.top (subst (λ (z : NodeId). Climbs (nodes g) v z root) same m.1) at).0 in
            ap (λ z. bytes_eq z u) way ∙ bytes_itself u),
        (λ on.
            let same : m.0 ≡ n = one_node g is u m.0 n root (subst (λ (z : Place). Climbs (nodes g) z m.0 root) (bytes_is v u on) m.1) at in
            ap (λ (z : NodeId). z.key == n.key) same ∙ eq_itself n.key),
      )

  all_tell : (u : Place) (n : NodeId) → Climbs (nodes g) u n root → (marks : List Mark) → AllByRecursion (MarkOf t) marks → AllByRecursion (λ m. Tells (node_along g root) n u (place_of_mark m)) marks
  all_tell u n at [] h = tt
  all_tell u n at (m ∷ marks) h = (tells u n at (place_of_mark m) h.0, all_tell u n at marks h.1)

  -- the region of a node
  pub region_seen : (typed : Place → Option Bytes) (u : Place) (n : NodeId) → Climbs (nodes g) u n root → region_on (page_seen g root t typed) n ≡ region_of (marks_seen g.spec g.view t typed) u
  unfolding page_seen
  region_seen typed u n way =
      region_told (node_along g root) n u (marks_seen g.spec g.view t typed) (all_tell u n way (marks_seen g.spec g.view t typed) (marks_there (spec_shown g) (value_in g.spec t) typed t))

-- the bytes of a page, and whether it was cut
bytes_same : (at : Place → NodeId) (cells : List Cell) → bytes_of (map (by_node at) cells) ≡ bytes_of cells
bytes_same at [] = refl
bytes_same at (c ∷ cells) = ap (λ l. c.0 ∷ l) (bytes_same at cells)

module _ (g : Grove) (root : NodeId) (t : Term) (typed : Place → Option Bytes) where
  pub bytes_seen : bytes_of (page_seen g root t typed).cells ≡ bytes_of (cells_of (marks_seen g.spec g.view t typed))
  unfolding page_seen
  bytes_seen = bytes_same (node_along g root) (cells_of (marks_seen g.spec g.view t typed))

  pub cut_seen : (page_seen g root t typed).more ≡ is_cut (marks_seen g.spec g.view t typed)
  unfolding page_seen
  cut_seen = refl

capture_seen : (h : Held) → h.capture ≡ (state_of h).capture
unfolding state_of
capture_seen h = refl

pub view_seen : (h : Held) → h.grove.view ≡ (state_of h).spot.view
unfolding state_of
view_seen h = refl

-- the name of the view that is told
pub named_view : {X : Type 0} (res : Option X) (f : X → Bytes) (o p : Option Bytes) → MatchOption res (o ≡ None) (λ x. o ≡ Some (f x)) → o ≡ p → option_map f res ≡ p
named_view None f o p is same = sym is ∙ same
named_view (Some x) f o p is same = sym is ∙ same

-- the lines of a buffer's page
pub lines_seen : (spec : Spec) (b : Held) (page : Sheet) → b.grove.spec ≡ spec → page ≡ shown b
    → lines_of page.cells ≡ lines_of (cells_of (shown_in spec (state_of b)))
lines_seen spec b page same is =
    let t = (state_of b).term in
    let typed = typed_by b.capture (selected_place (state_of b)) in
    ap (λ (p : Sheet). lines_of p.cells) is
    ∙ ap (slice_split is_newline) (bytes_seen b.grove b.root t typed)
    ∙ (λ i. lines_of (cells_of (marks_seen (same i) (view_seen b i) t (typed_by (capture_seen b i) (selected_place (state_of b))))))

-- the regions of its nodes
pub told_or : (o : Option Given) → as_region (unwrap_or o (record { line = 1; col = 1; end_line = 1; end_col = 1 })) ≡ unwrap_or (option_map as_region o) page_begin
told_or None = refl
told_or (Some r) = refl

pub regions_shown : (b : Held) → StandsFor b (state_of b) → (page : Sheet) → page ≡ shown b → TellsRegions b.grove b.root page (shown_in b.grove.spec (state_of b))
regions_shown b stands page is u n way =
    let t = (state_of b).term in
    let at = selected_place (state_of b) in
    ap (λ (p : Sheet). region_on p n) is
    ∙ region_seen b.grove stands.grove b.root t stands.whole (typed_by b.capture at) u n way
    ∙ (λ i. region_of (marks_seen b.grove.spec (view_seen b i) t (typed_by (capture_seen b i) at)) u)

-- of one place that is its region
same_option : (o : Option RegionOf) → option_map_or Some None o ≡ o
same_option None = refl
same_option (Some r) = refl

pub one_region : (marks : List Mark) (u : Place) (n : ℕ) → n ≡ 1 → region_of_run marks u n ≡ unwrap_or (region_of marks u) page_begin
one_region marks u n one =
    ap (region_of_run marks u) one
    ∙ (λ i. record { first = (unwrap_or (region_of marks u) page_begin).first; last = (unwrap_or (same_option (region_of marks u) i) page_begin).last })

-- an element is the first child of its list's node
pub first_child : (spec : Spec) (t : Term) (u p : Place) → spine_from spec t u ≡ Some p → u ≡ 0 ∷ p
first_child spec t [] p at = absurd (none-some p at)
first_child spec t (zero ∷ u) p at = by (unwrap_or (option_map (is_list_node spec) (sub t u)) false) at
  where
    by : (b : Bool) → cond b (Some u) None ≡ Some p → zero ∷ u ≡ 0 ∷ p
    by true h = ap (λ v. 0 ∷ v) (same_Some u p h)
    by false h = absurd (none-some p h)
first_child spec t (suc k ∷ u) p at = absurd (none-some p at)

-- the list's node of the first selected element: from there on the run is long enough, and its place is that of the
-- element without 0
pub record IsSpine (g : Grove) (root m : NodeId) (u : Place) (n : ℕ) : Type 0 where
  pub long : (x : Term) → Holds g m x → n ≤ elements g.spec x
  pub place : Place
  pub is : u ≡ 0 ∷ place
  pub way : Climbs (nodes g) place m root

module _ (b : Held) (stands : StandsFor b (state_of b)) (g : Grove) (same : g ≡ b.grove) (n : NodeId) (way : Climbs (nodes b.grove) (selected_place (state_of b)) n b.root) where
  placed_there : IsPlaced g b.root (state_of b).term (selected_place (state_of b)) n
  placed_there = subst (λ (h : Grove). IsPlaced h b.root (state_of b).term (selected_place (state_of b)) n) (sym same) (placed_here b stands g same n way)

  pub spine_there : (m : NodeId) → IsLive (nodes g) m → ((root : NodeId) (t : Term) (u : Place) → IsPlaced g root t u n → LeadsTo g root (spine_from g.spec t u) (Some m))
      → IsSpine g b.root m (selected_place (state_of b)) (state_of b).spot.selection.count
  spine_there m below leads =
      let t = (state_of b).term in
      let u = selected_place (state_of b) in
      let k = (state_of b).spot.selection.count in
      let lead = leads_some g b.root m (spine_from g.spec t u) (leads b.root t u placed_there) in
      record {
        long = spine_long g (subst IsGrove (sym same) stands.grove) n m (live_here b stands g same n way) k (run_here b stands g same n way k refl) leads below;
        place = lead.0;
        is = first_child g.spec t u lead.0 lead.1;
        way = lead.2;
      }

  -- where there is none one node is selected
  pub alone_there : ((root : NodeId) (t : Term) (u : Place) → IsPlaced g root t u n → LeadsTo g root (spine_from g.spec t u) None) → (state_of b).spot.selection.count ≡ 1
  alone_there leads =
      let t = (state_of b).term in
      let u = selected_place (state_of b) in
      let none = leads_none g b.root (spine_from g.spec t u) (leads b.root t u placed_there) in
      by (subst (λ (h : Grove). spine_from h.spec t u ≡ None) same none) (run_there b stands g same n way)
    where
      by : spine_from b.grove.spec (state_of b).term (selected_place (state_of b)) ≡ None → IsRunAt b.grove.spec (state_of b).term (selected_place (state_of b)) (state_of b).spot.selection.count
          → (state_of b).spot.selection.count ≡ 1
      by none (inl one) = one
      by none (inr more) =
          let e = ap (λ o. option_map_or (λ p. option_map_or (elements b.grove.spec) (sub (state_of b).term p) 0) o 0) none in
          absurd (omega (arith, more.0, more.1, e))
