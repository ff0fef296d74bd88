-- Where a node begins on a page, and among the marks.
use Rattle.std.specs.Prelude.{◌≡◌, refl, ℕ, suc, ◌+◌, ◌<◌, ◌≤◌, Bool, true, false, cond, min, bytes_eq, List, [], ◌∷◌, length, map, take, find, Option, Some, None, is_some, option_map}
use Rattle.std.specs.List.{count_by}
use Rattle.std.proofs.Common.{sym, ap, ◌∙◌, arith}
use Rattle.std.proofs.lemmas.List.{take-map, take-take, length-take}
use Rattle.std.proofs.lemmas.Option.{none-some, same_Some}
use Rattle.sg_kinds.specs.Places.{Place}
use Rattle.sg_forest.specs.declared.node_id.NodeId.{NodeId}
use Rattle.sg_unparse.specs.Cells.{Mark, Writes, Closed, cells_in}
use Rattle.sg_unparse.specs.Page.{Cell, Span as SpanOf, all_cells, bytes_of, cells_of, is_newline, region_in, region_of, span_of, spans_behind}
use Rattle.sg_unparse.specs.Sheet.{is_of}
use Rattle.sg_unparse.specs.Written.{by_node, on_page, sheet_of}
use Rattle.sg_unparse.specs.Begins.{StandsAlone, begins_at, begins_in, begins_on}
use Rattle.sg_unparse.specs.declared.page.Beginning.{Beginning}
use Rattle.sg_unparse.specs.declared.page.Span.{Span}
use Rattle.sg_unparse.proofs.Streams.{length-all_cells}
use Rattle.sg_unparse.proofs.Spans.{span_at}

from_within : (v : Place) (k : ℕ) (marks : List Mark) (s : SpanOf) → find (λ z. bytes_eq z.node v) (spans_behind k marks) ≡ Some s → s.from ≤ k + cells_in marks
from_within v k [] s found = absurd (none-some s found)
from_within v k (Writes b u ∷ marks) s found = let h = from_within v (suc k) marks s found in omega (arith, h)
from_within v k (Closed u n ∷ marks) s found = by (from_within v k marks s) (bytes_eq u v) found
  where
    by : (find (λ z. bytes_eq z.node v) (spans_behind k marks) ≡ Some s → s.from ≤ k + cells_in marks) → (t : Bool)
        → cond t (Some (span_at u n k)) (find (λ z. bytes_eq z.node v) (spans_behind k marks)) ≡ Some s → s.from ≤ k + cells_in marks
    by again true e = let from = ap (λ (z : SpanOf). z.from) (same_Some (span_at u n k) s e) in omega (arith, from)
    by again false e = again e

-- a place on the page of marks
abbrev begins_cut : List Mark → ℕ → Beginning
begins_cut marks k = begins_at (cells_of marks) (min k (length (cells_of marks)))

cut_same : (marks : List Mark) (k : ℕ) → k ≤ length (all_cells marks) → k ≤ 1048576 → begins_cut marks k ≡ begins_at (all_cells marks) k
cut_same marks k there low =
    let long = length-take 1048576 (all_cells marks) in
    let few : min k (length (cells_of marks)) ≡ k = omega (arith, long, there, low) in
    let byte : Cell → ℕ = λ c. c.0 in
    ap (begins_at (cells_of marks)) few
    ∙ ap (λ s. record { newlines = count_by is_newline s; cells = k })
    (take-map byte k (take 1048576 (all_cells marks)) ∙ ap (map byte) (take-take k 1048576 (all_cells marks) low) ∙ sym (take-map byte k (all_cells marks)))

line_cut : (marks : List Mark) (v : Place) → option_map (λ r. r.first.line) (region_of marks v) ≡ option_map (λ (s : SpanOf). 1 + (begins_cut marks s.from).newlines) (span_of marks v)
line_cut marks v = by (span_of marks v)
  where
    by : (o : Option SpanOf) → option_map (λ r. r.first.line) (option_map (λ (s : SpanOf). region_in (cells_of marks) (min s.from (length (cells_of marks))) (min s.to (length (cells_of marks)))) o) ≡ option_map (λ (s : SpanOf). 1 + (begins_cut marks s.from).newlines) o
    by None = refl
    by (Some s) = refl

spans_mapped : {A : Type 0} (f : SpanOf → A) (o : Option SpanOf) → is_some (option_map f o) ≡ is_some o
spans_mapped f None = refl
spans_mapped f (Some s) = refl

pub region_there : (marks : List Mark) (v : Place) → is_some (region_of marks v) ≡ is_some (begins_in marks v)
region_there marks v =
    spans_mapped (λ (s : SpanOf). region_in (cells_of marks) (min s.from (length (cells_of marks))) (min s.to (length (cells_of marks)))) (span_of marks v)
    ∙ sym (spans_mapped (λ (s : SpanOf). begins_at (all_cells marks) s.from) (span_of marks v))

pub line_told : (marks : List Mark) (v : Place) (b : Beginning) → begins_in marks v ≡ Some b → b.cells ≤ 1048576 → option_map (λ r. r.first.line) (region_of marks v) ≡ Some (1 + b.newlines)
line_told marks v b begins low = line_cut marks v ∙ by (span_of marks v) refl begins
  where
    by : (o : Option SpanOf) → span_of marks v ≡ o → option_map (λ (s : SpanOf). begins_at (all_cells marks) s.from) o ≡ Some b → option_map (λ (s : SpanOf). 1 + (begins_cut marks s.from).newlines) o ≡ Some (1 + b.newlines)
    by None found e = absurd (none-some b e)
    by (Some s) found e =
        let is = same_Some (begins_at (all_cells marks) s.from) b e in
        let cells = ap (λ (z : Beginning). z.cells) is in
        let there = from_within v 0 marks s found in
        let long = length-all_cells marks in
        ap (λ (z : Beginning). Some (1 + z.newlines)) (cut_same marks s.from (omega (arith, there, long)) (omega (arith, cells, low)) ∙ is)

module _ (at : Place → NodeId) where
  bytes_same : (cells : List Cell) → bytes_of (map (by_node at) cells) ≡ bytes_of cells
  bytes_same [] = refl
  bytes_same (c ∷ cells) = ap (λ l. c.0 ∷ l) (bytes_same cells)

  found_span : (n : NodeId) (v : Place) (count k : ℕ) (marks : List Mark) → StandsAlone at n v marks
      → find (is_of n) (map (on_page at count) (spans_behind k marks)) ≡ option_map (on_page at count) (find (λ s. bytes_eq s.node v) (spans_behind k marks))
  found_span n v count k [] h = refl
  found_span n v count k (Writes b u ∷ marks) h = found_span n v count (suc k) marks h.1
  found_span n v count k (Closed u c ∷ marks) h =
      ap (λ b. cond b (Some (on_page at count (span_at u c k))) (find (is_of n) (map (on_page at count) (spans_behind k marks)))) h.0
      ∙ by (bytes_eq u v) (found_span n v count k marks h.1)
    where
      by : (b : Bool) → find (is_of n) (map (on_page at count) (spans_behind k marks)) ≡ option_map (on_page at count) (find (λ s. bytes_eq s.node v) (spans_behind k marks))
          → cond b (Some (on_page at count (span_at u c k))) (find (is_of n) (map (on_page at count) (spans_behind k marks))) ≡ option_map (on_page at count) (cond b (Some (span_at u c k)) (find (λ s. bytes_eq s.node v) (spans_behind k marks)))
      by true rest = refl
      by false rest = rest

  on_cut : (n : NodeId) (v : Place) (marks : List Mark) → StandsAlone at n v marks → begins_on (sheet_of at marks) n ≡ option_map (λ (s : SpanOf). begins_cut marks s.from) (span_of marks v)
  on_cut n v marks h =
      let cells = cells_of marks in
      ap (option_map (λ (s : Span). begins_at (map (by_node at) cells) s.from)) (found_span n v (length cells) 0 marks h) ∙ by (span_of marks v)
    where
      by : (o : Option SpanOf) → option_map (λ (s : Span). begins_at (map (by_node at) (cells_of marks)) s.from) (option_map (on_page at (length (cells_of marks))) o) ≡ option_map (λ (s : SpanOf). begins_cut marks s.from) o
      by None = refl
      by (Some s) = ap (λ z. Some (record { newlines = count_by is_newline (take (min s.from (length (cells_of marks))) z); cells = min s.from (length (cells_of marks)) })) (bytes_same (cells_of marks))

  pub page_told : (n : NodeId) (v : Place) (marks : List Mark) (b : Beginning) → StandsAlone at n v marks → begins_on (sheet_of at marks) n ≡ Some b → b.cells < 1048576 → begins_in marks v ≡ Some b
  page_told n v marks b h begins low = by (span_of marks v) refl (sym (on_cut n v marks h) ∙ begins)
    where
      by : (o : Option SpanOf) → span_of marks v ≡ o → option_map (λ (s : SpanOf). begins_cut marks s.from) o ≡ Some b → option_map (λ (s : SpanOf). begins_at (all_cells marks) s.from) o ≡ Some b
      by None found e = absurd (none-some b e)
      by (Some s) found e =
          let is = same_Some (begins_cut marks s.from) b e in
          let cells = ap (λ (z : Beginning). z.cells) is in
          let there = from_within v 0 marks s found in
          let long = length-all_cells marks in
          let page = length-take 1048576 (all_cells marks) in
          ap Some (sym (cut_same marks s.from (omega (arith, there, long)) (omega (arith, cells, low, page, there, long))) ∙ is)

  pub marks_told : (n : NodeId) (v : Place) (marks : List Mark) (b : Beginning) → StandsAlone at n v marks → begins_in marks v ≡ Some b → b.cells ≤ 1048576 → begins_on (sheet_of at marks) n ≡ Some b
  marks_told n v marks b h begins low = on_cut n v marks h ∙ by (span_of marks v) refl begins
    where
      by : (o : Option SpanOf) → span_of marks v ≡ o → option_map (λ (s : SpanOf). begins_at (all_cells marks) s.from) o ≡ Some b → option_map (λ (s : SpanOf). begins_cut marks s.from) o ≡ Some b
      by None found e = absurd (none-some b e)
      by (Some s) found e =
          let is = same_Some (begins_at (all_cells marks) s.from) b e in
          let cells = ap (λ (z : Beginning). z.cells) is in
          let there = from_within v 0 marks s found in
          let long = length-all_cells marks in
          ap Some (cut_same marks s.from (omega (arith, there, long)) (omega (arith, cells, low)) ∙ is)

  pub none_told : (n : NodeId) (v : Place) (marks : List Mark) → StandsAlone at n v marks → is_some (begins_on (sheet_of at marks) n) ≡ is_some (begins_in marks v)
  none_told n v marks h =
      ap is_some (on_cut n v marks h) ∙ spans_mapped (λ (s : SpanOf). begins_cut marks s.from) (span_of marks v)
      ∙ sym (spans_mapped (λ (s : SpanOf). begins_at (all_cells marks) s.from) (span_of marks v))
