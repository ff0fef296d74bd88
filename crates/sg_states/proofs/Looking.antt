-- What is seen of a held term is what the definitions say of the term.
use Rattle.std.specs.Prelude.{◌≡◌, ◌↔◌, refl, ℕ, zero, suc, ◌<◌, ◌≤◌, Bool, true, false, not, ◌&&◌, ◌||◌, ◌==◌, cond, if◌then◌else◌, nat_eq, nat_le, nat_lt, min, bytes_eq, List, [], ◌∷◌, Option, Some, None, Result, Ok, Err, IfOk, IfSome, IsTrue, option_map}
use Rattle.std.specs.Option.{option_map_or}
use Rattle.std.specs.List.{AllByRecursion}
use Rattle.std.proofs.Common.{sym, ap, ◌∙◌, subst, arith}
use Rattle.std.proofs.lemmas.Bool.{false≢true}
use Rattle.std.proofs.lemmas.Bool.Decides.{nat_tests}
use Rattle.std.proofs.lemmas.Option.{none-some, same_Some}
use Rattle.sg_kinds.specs.Values.{Bytes}
use Rattle.sg_kinds.specs.Terms.{Term}
use Rattle.sg_kinds.specs.Places.{Place, place_of, sub}
use Rattle.sg_kinds.specs.FromScratch.{value_in}
use Rattle.sg_kinds.specs.InView.{in_view}
use Rattle.sg_kinds.specs.declared.spec.Spec.{Spec}
use Rattle.sg_kinds.proofs.Elementary.{bytes_is, bytes_itself, eq_is, eq_itself}
use Rattle.sg_forest.specs.declared.node_id.NodeId.{NodeId}
use Rattle.sg_forest.specs.Trees.{Climbs, IsRoot}
use Rattle.sg_groves.specs.Grove.{Grove, nodes, spec_shown, IsGrove}
use Rattle.sg_groves.specs.Holds.{Holds, IsPlaced}
use Rattle.sg_groves.proofs.Held.{held_fits, node_held, part_held}
use Rattle.sg_groves.proofs.Ways.{one_node, one_way}
use Rattle.sg_changes.specs.Top.{topped}
use Rattle.sg_changes.specs.declared.spot.Selection.{Selection}
use Rattle.sg_changes.specs.declared.spot.Spot.{Spot}
use Rattle.sg_select.specs.RestingPlaces.{rests, settled}
use Rattle.sg_select.specs.Leads.{LeadsTo}
use Rattle.sg_select.specs.Paths.{elements, spine_from, there}
use Rattle.sg_select.proofs.Leading.{leads_none, leads_some}
use Rattle.sg_select.proofs.Neighbours.{differ}
use Rattle.sg_select.proofs.Settling.{same_tests, settled_rests}
use Rattle.sg_unparse.specs.Along.{node_along, stored, typed_in}
use Rattle.sg_unparse.specs.Cells.{Mark, marks_of}
use Rattle.sg_unparse.specs.Owned.{place_of_mark}
use Rattle.sg_unparse.specs.Sheet.{Sheet, region_on}
use Rattle.sg_unparse.specs.Written.{sheet_of}
use Rattle.sg_unparse.proofs.Placed.{climbs_along}
use Rattle.sg_states.specs.Selections.{elements_at, is_selection, settled_count, path_to, place_in}
use Rattle.sg_states.specs.Seen.{first_line, marks_seen, nothing_typed, typed_at, settled_spot}
use Rattle.sg_states.specs.Beginnings.{Begins}
use Rattle.sg_states.specs.declared.looks.Found.{Found}
use Rattle.sg_states.specs.Paged.{IsWhole, IsFound, IsLook, page_seen}
use Rattle.sg_states.proofs.Righted.{stored_marks}
use Rattle.sg_states.proofs.Selecting.{path_there, path_back}
use Rattle.sg_states.proofs.Sheeted.{IsOf, MarkOf, Tells, marks_there, region_told}

abbrev spot : List ℕ → ℕ → ℕ → ℕ → Spot
spot path count top view = record { selection = record { path = path; count = count }; top = top; view = view }

-- a run of elements by the numbers of the code
run_is : (count e most n : ℕ) → 1 < count → count ≤ most → n ≡ min e most → nat_le count n ≡ (nat_eq count 1 || (nat_lt 1 count && not (nat_lt e count)))
run_is count e most n some few is = grind (arith, nat_tests)

pub run_told : (spec : Spec) (v : ℕ) (t : Term) (u : Place) (count n most : ℕ) → rests (in_view spec v) t u ≡ true → 1 < count → count ≤ most → n ≡ min (elements_at spec t u) most
    → nat_le count n ≡ is_selection spec v t u count
run_told spec v t u count n most rest some few is =
    run_is count (elements_at spec t u) most n some few is
    ∙ sym (ap (λ b. b && (nat_eq count 1 || (nat_lt 1 count && not (nat_lt (elements_at spec t u) count)))) rest)

-- the count of a settled selection
pub count_told : (spec : Spec) (v : ℕ) (t : Term) (path : List ℕ) (count r : ℕ) (u : Place) (a b : Bool) → IsTrue a ↔ (u ≡ place_of path) → b ≡ is_selection spec v t u count → r ≡ cond (a && b) count 1
    → r ≡ settled_count spec v t (place_of path) u count
count_told spec v t path count r u a b leads selected is = is ∙ ap (λ z. cond (a && z) count 1) selected ∙ ap (λ z. cond (z && is_selection spec v t u count) count 1) (by a leads)
  where
    by : (a : Bool) → IsTrue a ↔ (u ≡ place_of path) → a ≡ bytes_eq u (place_of path)
    by true h = sym (ap (λ z. bytes_eq z (place_of path)) (h.0 refl) ∙ bytes_itself (place_of path))
    by false h = sym (differ u (place_of path) (λ e. false≢true (h.1 e)))

-- no run is settled to none, and one node to one
none_settled : (n : ℕ) (a b : Bool) → n ≡ cond (a && (b && false)) 0 n
none_settled n false b = refl
none_settled n true true = refl
none_settled n true false = refl

one_settled : (n : ℕ) (a : Bool) → n ≡ cond a n n
one_settled n true = refl
one_settled n false = refl

pub few_settled : (spec : Spec) (v : ℕ) (t : Term) (u w : Place) (n : ℕ) → n ≤ 1 → 1 ≡ settled_count spec v t u w n
few_settled spec v t u w zero few = none_settled 1 (bytes_eq w u) (rests (in_view spec v) t w)
few_settled spec v t u w (suc zero) few = one_settled 1 (bytes_eq w u && is_selection spec v t w 1)
few_settled spec v t u w (suc (suc n)) few = absurd (omega (arith, few))

module _ (g : Grove) (is : IsGrove g) (root : NodeId) (t : Term) where
  -- a node of the tree is told by its place
  tells : (u : Place) (n : NodeId) → IsPlaced g root t u n → (v : Place) → IsOf t v → ((node_along g root v).key == n.key) ≡ bytes_eq v u
  tells u n placed v of =
      let m = node_held g is v root t of.0 placed.holds of.1 in
      let along = climbs_along g is root v m.0 m.1 in
      ap (λ (z : NodeId). z.key == n.key) along ∙ same_tests (m.0.key == n.key) (bytes_eq v u) (
        (λ on.
            let keys : m.0.key ≡ n.key = eq_is m.0.key n.key on in
            let same : m.0 ≡ n = λ i. record { key = keys i } in
            let way : v ≡ u = (one_way g is v u n root root placed.top placed.top (subst (λ z. Climbs (nodes g) v z root) same m.1) placed.way).0 in
            ap (λ z. bytes_eq z u) way ∙ bytes_itself u),
        (λ on.
            let same : m.0 ≡ n = one_node g is u m.0 n root (subst (λ z. Climbs (nodes g) z m.0 root) (bytes_is v u on) m.1) placed.way in
            ap (λ (z : NodeId). z.key == n.key) same ∙ eq_itself n.key),
      )

  pub all_tell : (u : Place) (n : NodeId) → IsPlaced g root t u n → (marks : List Mark) → AllByRecursion (MarkOf t) marks → AllByRecursion (λ m. Tells (node_along g root) n u (place_of_mark m)) marks
  all_tell u n placed [] h = tt
  all_tell u n placed (m ∷ marks) h = (tells u n placed (place_of_mark m) h.0, all_tell u n placed marks h.1)

  module _ (whole : IsWhole g root t) where
    pub placed_at : (u : Place) (n : NodeId) → Climbs (nodes g) u n root → IsPlaced g root t u n
    placed_at u n way = record { top = whole.top; holds = whole.holds; way = way }

    marks_told : (typed others : Place → Option Bytes) → ((u : Place) (x : Term) → sub t u ≡ Some x → typed u ≡ others u) → marks_of (spec_shown g) (stored g root) typed t ≡ marks_seen g.spec g.view t others
    marks_told typed others alike =
        stored_marks g is root t whole.top whole.holds whole.right whole.top.node.label.phylum (held_fits g is root whole.top.node t whole.top.found whole.holds) whole.free typed others alike

    pub plain_page : (text : Bytes) → sheet_of (node_along g root) (marks_of (spec_shown g) (stored g root) (typed_in g root None text) t) ≡ page_seen g root t nothing_typed
    unfolding page_seen
    plain_page text = ap (sheet_of (node_along g root)) (marks_told (typed_in g root None text) nothing_typed (λ u x at. refl))

    pub typed_page : (u : Place) (n : NodeId) (text : Bytes) → Climbs (nodes g) u n root
        → sheet_of (node_along g root) (marks_of (spec_shown g) (stored g root) (typed_in g root (Some n) text) t) ≡ page_seen g root t (typed_at u text)
    unfolding page_seen
    typed_page u n text way = ap (sheet_of (node_along g root)) (marks_told (typed_in g root (Some n) text) (typed_at u text)
        (λ v x at. ap (λ b. if b then Some text else None) (tells u n (placed_at u n way) v (x, at))))

    pub line_seen : (u : Place) (n : NodeId) (p : Sheet) → Climbs (nodes g) u n root → p ≡ page_seen g root t nothing_typed
        → option_map_or (λ r. r.first.line) (region_on p n) 1 ≡ first_line g.spec g.view t u
    unfolding page_seen first_line
    line_seen u n p way page =
        ap (λ (z : Sheet). option_map_or (λ r. r.first.line) (region_on z n) 1) page
        ∙ ap (λ o. option_map_or (λ r. r.first.line) o 1)
        (region_told (node_along g root) n u (marks_seen g.spec g.view t nothing_typed) (all_tell u n (placed_at u n way) (marks_seen g.spec g.view t nothing_typed) (marks_there (spec_shown g) (value_in g.spec t) nothing_typed t)))

    pub top_seen : (height line top r : ℕ) (u : Place) (n : NodeId) (p : Sheet) → Climbs (nodes g) u n root → p ≡ page_seen g root t nothing_typed
        → line ≡ option_map_or (λ r. r.first.line) (region_on p n) 1 → r ≡ topped height line top → r ≡ topped height (first_line g.spec g.view t u) top
    top_seen height line top r u n p way page told is = is ∙ ap (λ l. topped height l top) (told ∙ line_seen u n p way page)

  -- elements
  pub no_elements : (u : Place) → LeadsTo g root (spine_from g.spec t u) None → 0 ≡ elements_at g.spec t u
  no_elements u leads = sym (ap (λ o. option_map_or (λ v. option_map_or (elements g.spec) (sub t v) 0) o 0) (leads_none g root (spine_from g.spec t u) leads))

  pub some_elements : (u : Place) (spine : NodeId) (n most : ℕ) → Holds g root t → LeadsTo g root (spine_from g.spec t u) (Some spine) → ((s : Term) → Holds g spine s → n ≡ min (elements g.spec s) most)
      → n ≡ min (elements_at g.spec t u) most
  some_elements u spine n most holds leads count =
      let v = leads_some g root spine (spine_from g.spec t u) leads in
      let s = part_held g is v.0 spine root t v.2 holds in
      count s.0 s.1 ∙ sym (ap (λ o. min (option_map_or (λ v. option_map_or (elements g.spec) (sub t v) 0) o 0) most) v.1 ∙ ap (λ o. min (option_map_or (elements g.spec) o 0) most) s.2)

  -- a path leads to a node exactly where it names its place
  pub leads_there : (path : List ℕ) (m n : NodeId) (v : Place) (b : Bool) → IsRoot (nodes g) root → LeadsTo g root (there t (place_of path)) (Some m) → Climbs (nodes g) v n root → (IsTrue b ↔ (m ≡ n)) → IsTrue b ↔ (v ≡ place_of path)
  leads_there path m n v b top leads way eq =
      let w = leads_some g root m (there t (place_of path)) leads in
      let same : w.0 ≡ place_of path = named (sub t (place_of path)) w.0 w.1 in
      let here : Climbs (nodes g) (place_of path) m root = subst (λ z. Climbs (nodes g) z m root) same w.2 in (
        (λ on. (one_way g is v (place_of path) n root root top top way (subst (λ z. Climbs (nodes g) (place_of path) z root) (eq.0 on) here)).0),
        (λ e. eq.1 (one_node g is (place_of path) m n root here (subst (λ z. Climbs (nodes g) z n root) e way))),
      )
    where
      named : (o : Option Term) (v : Place) → option_map (λ _. place_of path) o ≡ Some v → v ≡ place_of path
      named None v e = absurd (none-some v e)
      named (Some x) v e = sym (same_Some (place_of path) v e)

  pub leads_nowhere : (path : List ℕ) (n : NodeId) (v : Place) → Holds g root t → LeadsTo g root (there t (place_of path)) None → Climbs (nodes g) v n root → IsTrue false ↔ (v ≡ place_of path)
  leads_nowhere path n v holds leads way =
      let none = leads_none g root (there t (place_of path)) leads in
      let s = part_held g is v n root t way holds in (
        (λ off. absurd (false≢true off)),
        (λ e. absurd (none-some (place_of path) (sym none ∙ ap (option_map (λ _. place_of path)) (ap (sub t) (sym e) ∙ s.2)))),
      )

  -- the path of a node is that which leads to it
  pub path_copied : {E : Type 0} (path : List ℕ) (n : NodeId) (u : Place) (r : Result (List ℕ) E) → IfOk r (λ p. p ≡ path) → IsPlaced g root t u n → Climbs (nodes g) (place_of path) n root → IfOk r (λ p. place_of p ≡ u)
  path_copied path n u (Err e) h placed way = tt
  path_copied path n u (Ok p) h placed way = ap place_of h ∙ (one_way g is (place_of path) u n root root placed.top placed.top way placed.way).0

  pub path_climbed : {E : Type 0} (n : NodeId) (u : Place) (r : Result (List ℕ) E) → IfOk r (λ p. (root : NodeId) (t : Term) (u : Place) → IsPlaced g root t u n → place_of p ≡ u) → IsPlaced g root t u n → IfOk r (λ p. place_of p ≡ u)
  path_climbed n u (Err e) h placed = tt
  path_climbed n u (Ok p) h placed = h root t u placed

  pub looked : (s : Selection) (height top first : ℕ) (path kept : List ℕ) (count view : ℕ) (m : NodeId) (f : Found) → kept ≡ path → view ≡ g.view → IsWhole g root t → Climbs (nodes g) (settled (spec_shown g) t (place_in s)) m root
      → ((u : Place) → IsPlaced g root t u m → place_of path ≡ u)
      → ((v : Place) → IsPlaced g root t v m → rests (spec_shown g) t v ≡ true → count ≡ settled_count g.spec g.view t (place_in s) v s.count)
      → ((u : Place) → Climbs (nodes g) u m root → IsFound g root t u f) → first ≡ topped height f.line top
      → IsLook g root t (settled_spot g.spec height g.view t s top) (record { selected = m; spot = spot path count first view; way = kept; page = f.page; begins = f.begins })
  looked s height top first path kept count view m f same shown whole way named counted found topped_at =
      let v = settled (spec_shown g) t (place_in s) in
      let back = sym (path_there v) in
      let path_is : path ≡ path_to v = sym (path_back path) ∙ ap path_to (named v (placed_at whole v m way)) in
      let count_is = counted v (placed_at whole v m way) (settled_rests (spec_shown g) t (place_in s)) in
      let is_found = found v way in
      let top_is = topped_at ∙ ap (λ l. topped height l top) is_found.line ∙ ap (λ z. topped height (first_line g.spec g.view t z) top) back in
      record {
        selected = subst (λ z. Climbs (nodes g) z m root) back way;
        spot_is =
            ap (λ p. spot p count first view) path_is ∙ ap (λ n. spot (path_to v) n first view) count_is
            ∙ ap (λ n. spot (path_to v) (settled_count g.spec g.view t (place_in s) v s.count) n view) top_is
            ∙ ap (spot (path_to v) (settled_count g.spec g.view t (place_in s) v s.count) (topped height (first_line g.spec g.view t (place_of (path_to v))) top)) shown;
        way = same ∙ path_is;
        page = is_found.page;
        begins = subst (λ z. IfSome f.begins (Begins g.spec g.view t z)) back is_found.begins;
      }
