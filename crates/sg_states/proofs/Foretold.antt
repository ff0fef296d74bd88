-- Where nodes begin, on pages and after changes.
use Rattle.std.specs.Prelude.{◌≡◌, refl, ℕ, suc, ◌+◌, ◌-◌, ◌<◌, ◌≤◌, Bool, true, false, cond, bytes_eq, List, [], ◌∷◌, ◌++◌, find, Option, Some, None, option_map, IfSome}
use Rattle.std.specs.Option.{option_map_or}
use Rattle.std.proofs.Common.{sym, ap, ◌∙◌, subst, arith}
use Rattle.std.proofs.lemmas.Option.{none-some, same_Some}
use Rattle.sg_kinds.specs.Terms.{Term}
use Rattle.sg_kinds.specs.Places.{Place, put, sub}
use Rattle.sg_kinds.specs.FromScratch.{value_in}
use Rattle.sg_kinds.specs.InView.{in_view}
use Rattle.sg_kinds.specs.declared.spec.Spec.{Spec}
use Rattle.sg_kinds.proofs.Elementary.{bytes_is}
use Rattle.sg_forest.specs.declared.node_id.NodeId.{NodeId}
use Rattle.sg_forest.specs.Trees.{Climbs}
use Rattle.sg_groves.specs.Evaluated.{IsAtOrBelow}
use Rattle.sg_groves.specs.Grove.{Grove, nodes, spec_shown, IsGrove}
use Rattle.sg_groves.specs.Holds.{Holds}
use Rattle.sg_groves.proofs.Held.{held_fits, one_term, part_held}
use Rattle.sg_groves.proofs.Ways.{one_way}
use Rattle.sg_select.specs.Leads.{IsOpenAt}
use Rattle.sg_select.specs.RestingPlaces.{is_open}
use Rattle.sg_unparse.specs.Along.{IsAlong, node_along, unparsed_in}
use Rattle.sg_unparse.specs.Begins.{begins_at, begins_in, begins_on, margin_bound}
use Rattle.sg_unparse.specs.Cells.{Mark, Writes, Closed}
use Rattle.sg_unparse.specs.Owned.{AreOwned}
use Rattle.sg_unparse.specs.Page.{Span, Region, all_cells, region_of, span_of, spans_behind}
use Rattle.sg_unparse.specs.Sheet.{Sheet}
use Rattle.sg_unparse.specs.Written.{sheet_of}
use Rattle.sg_unparse.specs.declared.page.Beginning.{Beginning}
use Rattle.sg_unparse.proofs.Moved.{moved}
use Rattle.sg_unparse.proofs.Owners.{unparsed_owned}
use Rattle.sg_unparse.proofs.Placed.{climbs_along}
use Rattle.sg_unparse.proofs.Told.{page_told, line_told}
use Rattle.sg_states.specs.Beginnings.{Begins, BeginsAlone, Foretells, WillForetell, foretold, marks_alone}
use Rattle.sg_states.specs.Paged.{IsForetold, IsWhole, page_seen}
use Rattle.sg_states.specs.Seen.{first_line, marks_seen, nothing_typed}
use Rattle.sg_states.specs.declared.forecast.Before.{Before}
use Rattle.sg_states.proofs.Looking.{all_tell, placed_at}
use Rattle.sg_states.proofs.Righted.{stored_alone}
use Rattle.sg_states.proofs.Sheeted.{marks_of_term, marks_there}

-- what begins among owned marks is owned
found_owned : (p v : Place) (k : ℕ) (marks : List Mark) (s : Span) → AreOwned p marks → find (λ z. bytes_eq z.node v) (spans_behind k marks) ≡ Some s → IsAtOrBelow v p
found_owned p v k [] s owned at = absurd (none-some s at)
found_owned p v k (Writes b u ∷ marks) s owned at = found_owned p v (suc k) marks s owned.1 at
found_owned p v k (Closed u n ∷ marks) s owned at = by (found_owned p v k marks s owned.1) (bytes_eq u v) refl at
  where
    here : Span
    here = record { node = u; from = k - n; to = k }

    by : (find (λ z. bytes_eq z.node v) (spans_behind k marks) ≡ Some s → IsAtOrBelow v p) → (t : Bool) → bytes_eq u v ≡ t
        → cond t (Some here) (find (λ z. bytes_eq z.node v) (spans_behind k marks)) ≡ Some s → IsAtOrBelow v p
    by again true same e = subst (λ z. IsAtOrBelow z p) (bytes_is u v same) owned.0
    by again false same e = again e

begun_owned : (p v : Place) (marks : List Mark) (b : Beginning) → AreOwned p marks → begins_in marks v ≡ Some b → IsAtOrBelow v p
begun_owned p v marks b owned begins = by (span_of marks v) refl begins
  where
    by : (o : Option Span) → span_of marks v ≡ o → option_map (λ (s : Span). begins_at (all_cells marks) s.from) o ≡ Some b → IsAtOrBelow v p
    by None e h = absurd (none-some b h)
    by (Some s) e h = found_owned p v 0 marks s owned e

module _ (g : Grove) (is : IsGrove g) (root : NodeId) (t : Term) (whole : IsWhole g root t) where
  -- by the page of the term
  pub begun_here : (u : Place) (n : NodeId) (p : Sheet) (b : Beginning) → Climbs (nodes g) u n root → p ≡ page_seen g root t nothing_typed → begins_on p n ≡ Some b → b.cells < 1048576 → Begins g.spec g.view t u b
  unfolding page_seen
  begun_here u n p b way page on low =
      let marks = marks_seen g.spec g.view t nothing_typed in
      let alone = all_tell g is root t u n (placed_at g is root t whole u n way) marks (marks_there (spec_shown g) (value_in g.spec t) nothing_typed t) in
      record { now = b; there = page_told (node_along g root) n u marks b alone (ap (λ z. begins_on z n) (sym page) ∙ on) low; newlines = refl; cells = omega arith }

  -- by the page of what a node writes alone
  pub begun_alone : (p v : Place) (x : Term) (above n : NodeId) (s : Sheet) (b : Beginning) → Climbs (nodes g) p above root → Climbs (nodes g) v n root → sub t p ≡ Some x
      → ((r : NodeId) (u : Place) (y : Term) → IsAlong g r u above y → s ≡ sheet_of (node_along g r) (unparsed_in g r None [] u y 0).0)
      → begins_on s n ≡ Some b → b.cells < 1048576 → BeginsAlone g.spec g.view t p x v b
  begun_alone p v x above n s b way to at written on low =
      let y = part_held g is p above root t way whole.holds in
      let same : y.0 ≡ x = same_Some y.0 x (sym y.2 ∙ at) in
      let holds : Holds g above x = subst (Holds g above) same y.1 in
      let marks = marks_alone g.spec g.view t p x in
      let right = stored_alone g is root t whole.top whole.holds whole.right whole.top.node.label.phylum (held_fits g is root whole.top.node t whole.top.found whole.holds) whole.free p x at in
      let sheet : s ≡ sheet_of (node_along g root) marks =
      written root p x (record { along = climbs_along g is root p above way; holds = holds }) ∙ ap (λ z. sheet_of (node_along g root) z.0) right in
      let alone = all_tell g is root t v n (placed_at g is root t whole v n to) marks (marks_of_term (spec_shown g) (value_in g.spec t) nothing_typed t p x at 0) in
      let there = page_told (node_along g root) n v marks b alone (ap (λ z. begins_on z n) (sym sheet) ∙ on) low in
      record { below = begun_owned p v marks b (unparsed_owned (spec_shown g) (value_in g.spec t) nothing_typed p x 0) there; there = there }

  -- the node above a change can be reached
  above_open : (b : Before) → IsForetold g root b → IsOpenAt g root t b.above
  above_open b told p way =
      let same : told.term ≡ t = one_term g root told.term t told.whole.holds whole.holds in
      let place : p ≡ told.place = (one_way g is p told.place b.above root root whole.top whole.top way told.way).0 in
      subst (λ z. is_open (spec_shown g) z p ≡ true) same (subst (λ z. is_open (spec_shown g) told.term z ≡ true) (sym place) told.reached)

  pub all_open : (o : Option Before) → IfSome o (IsForetold g root) → IfSome (option_map (λ (b : Before). b.above) o) (IsOpenAt g root t)
  all_open None h = tt
  all_open (Some b) h = above_open b h

  -- after a change
  pub begun_after : (b : Before) (u : Place) (n : NodeId) (to r : Beginning) → IsForetold g root b → Climbs (nodes g) u n root
      → ((x : Term) (p : Place) → Climbs (nodes g) p b.above root → sub t p ≡ Some x → BeginsAlone g.spec g.view t p x u to) → r ≡ foretold b to → Begins g.spec g.view t u r
  begun_after b u n to r told way alone is_r =
      let same : told.term ≡ t = one_term g root told.term t told.whole.holds whole.holds in
      let tells : Foretells g.spec g.view t told.place b = subst (λ z. Foretells g.spec g.view z told.place b) same told.tells in
      let y = part_held g is told.place b.above root t told.way whole.holds in
      subst (Begins g.spec g.view t u) (sym is_r) (tells.tells y.0 u to y.2 (alone y.0 told.place told.way y.2))

-- what is told before a change
pub will_foretell : (spec : Spec) (v : ℕ) (t x : Term) (p u : Place) (above : NodeId) (old from : Beginning) (m : ℕ) → sub t p ≡ Some x → Begins spec v t u old → BeginsAlone spec v t p x u from
    → m ≡ margin_bound (in_view spec v) t → WillForetell spec v t p (record { above = above; old = old; from = from; margin = m })
will_foretell spec v t x p u above old from m at begins alone wide z s some alike = record {
  tells = λ y w to now there.
      let new = moved (in_view spec v) (value_in spec t) (value_in spec (put t (z ++ p) s)) t p z s x y u w begins.now from to m some alike at now alone.below there.below begins.there alone.there there.there (omega (arith, wide)) in
      let most = begins.cells in
      let lines = begins.newlines in
      record { now = new.now; there = new.begins; newlines = ap (λ n. (n - from.newlines) + to.newlines) lines ∙ sym new.newlines; cells = (let few = new.cells in omega (arith, most, few)) };
}

-- the line
pub line_is : (spec : Spec) (v : ℕ) (t : Term) (u : Place) (b : Beginning) (line : ℕ) → Begins spec v t u b → b.cells ≤ 1048576 → line ≡ b.newlines + 1 → line ≡ first_line spec v t u
unfolding first_line
line_is spec v t u b line begins low is =
    let most = begins.cells in
    let lines = begins.newlines in
    by (region_of (marks_seen spec v t nothing_typed) u) (line_told (marks_seen spec v t nothing_typed) u begins.now begins.there (omega (arith, low, most)))
  where
    by : (o : Option Region) → option_map (λ r. r.first.line) o ≡ Some (1 + begins.now.newlines) → line ≡ option_map_or (λ r. r.first.line) o 1
    by None e = absurd (none-some (1 + begins.now.newlines) e)
    by (Some r) e = let same = same_Some r.first.line (1 + begins.now.newlines) e in let lines = begins.newlines in omega (arith, same, lines, is)

-- what holds of some value
pub if_some : {A : Type 0} (P Q : A → Type 0) (o : Option A) → ((a : A) → P a → Q a) → IfSome o P → IfSome o Q
if_some P Q None f h = tt
if_some P Q (Some a) f h = f a h
