-- Pages by the numbers of nodes, and by the places where they stand.
use Rattle.std.specs.Prelude.{◌≡◌, refl, ℕ, zero, suc, ◌+◌, ◌-◌, Bool, true, false, not, ◌&&◌, ◌==◌, cond, nat_lt, min, bytes_eq, if◌then◌else◌, List, [], ◌∷◌, length, map, take, reverse, find, slice_get, Option, Some, None, option_map, option_and_then}
use Rattle.std.specs.List.{AllByRecursion, take_while, count_by, range_with_len}
use Rattle.std.proofs.Common.{ap, ◌∙◌, subst, arith}
use Rattle.std.proofs.lemmas.List.{length-map}
use Rattle.std.proofs.lemmas.Option.{none-some, same_Some}
use Rattle.sg_kinds.specs.Values.{Bytes, Value}
use Rattle.sg_kinds.specs.Terms.{Term, Terms, Leaf, Node, NoTerm, AndTerm, terms_of}
use Rattle.sg_kinds.specs.Places.{Place, child, sub}
use Rattle.sg_kinds.specs.Nets.{Reference}
use Rattle.sg_kinds.specs.declared.spec.Spec.{Spec}
use Rattle.sg_forest.specs.declared.node_id.NodeId.{NodeId}
use Rattle.sg_unparse.specs.Cells.{Mark, Writes, Closed, Writing, plain, cells_in, ended, goes_on, items_of, items, content, unparsed, unparsed_among}
use Rattle.sg_unparse.specs.Printing.{value_text}
use Rattle.sg_unparse.specs.Page.{Cell, Position, Region, Span as SpanOf, all_cells, cells_of, is_newline, bytes_of, region_in, region_of, spans_behind, stands_at, owner_at}
use Rattle.sg_unparse.specs.Sheet.{region_on, is_of}
use Rattle.sg_unparse.specs.Written.{by_node, on_page, sheet_of}
use Rattle.sg_unparse.specs.declared.page.Span.{Span}
use Rattle.sg_unparse.specs.Owned.{place_of_mark}
use Rattle.sg_unparse.proofs.Each.{Each, append_each, plain_each, items_each, content_each}

-- what is written belongs to nodes of the term
abbrev pub IsOf : Term → Place → Type 0
IsOf t u = (x : Term) × (sub t u ≡ Some x)

abbrev pub MarkOf : Term → Mark → Type 0
MarkOf t m = IsOf t (place_of_mark m)

module _ (spec : Spec) (value : Reference Place → Value) (typed : Place → Option Bytes) (t : Term) where
  ended_of : (u : Place) (f : Writing) → IsOf t u → Each (MarkOf t) f → Each (MarkOf t) (ended u f)
  ended_of u f here h m = append_each (MarkOf t) (f m).0 (Closed u (cells_in (f m).0) ∷ []) (h m) (here, tt)

  abbrev AreKids : Place → ℕ → Terms → Type 0
  AreKids u k ts = (j : ℕ) (x : Term) → slice_get (terms_of ts) j ≡ Some x → sub t ((j + k) ∷ u) ≡ Some x

  next_kids : (u : Place) (k : ℕ) (y : Term) (ts : Terms) → AreKids u k (AndTerm y ts) → AreKids u (suc k) ts
  next_kids u k y ts are j x at = (let e : suc j + k ≡ j + suc k = omega arith in subst (λ i. sub t (i ∷ u) ≡ Some x) e (are (suc j) x at))

  first_kid : (u : Place) (k : ℕ) (y : Term) (ts : Terms) → AreKids u k (AndTerm y ts) → sub t (k ∷ u) ≡ Some y
  first_kid u k y ts are = (let e : 0 + k ≡ k = omega arith in subst (λ i. sub t (i ∷ u) ≡ Some y) e (are 0 y refl))

  all_kids : (u : Place) (op n : ℕ) (elided : Bool) (ts : Terms) → sub t u ≡ Some (Node op n elided ts) → AreKids u 0 ts
  all_kids u op n elided ts at j x found =
      let e : j ≡ j + 0 = omega arith in
      subst (λ i. sub t (i ∷ u) ≡ Some x) e (ap (option_and_then (child j)) at ∙ found)

  mutual
    pub marks_of_term : (u : Place) (x : Term) → sub t u ≡ Some x → Each (MarkOf t) (unparsed spec value typed u x)
    marks_of_term u (Leaf p v) at =
        let here : IsOf t u = (Leaf p v, at) in
        let own = plain u (value_text spec p v) in
        ended_of u (content spec value typed u (typed u) false own) here
        (content_each (MarkOf t) u (λ b. here) spec value typed (typed u) false own (plain_each (MarkOf t) u (λ b. here) (value_text spec p v)))
    marks_of_term u (Node op n elided ts) at =
        let here : IsOf t u = (Node op n elided ts, at) in
        let kids = unparsed_among spec value typed u 0 ts in
        let own = items spec value typed u op (goes_on ts) (items_of spec op n) kids in
        ended_of u (content spec value typed u (typed u) elided own) here
        (content_each (MarkOf t) u (λ b. here) spec value typed (typed u) elided own
        (items_each (MarkOf t) u (λ b. here) spec value typed op (goes_on ts) (items_of spec op n) kids (marks_of_kids u 0 ts (all_kids u op n elided ts at))))

    marks_of_kids : (u : Place) (k : ℕ) (ts : Terms) → AreKids u k ts → AllByRecursion (Each (MarkOf t)) (unparsed_among spec value typed u k ts)
    marks_of_kids u k NoTerm are = tt
    marks_of_kids u k (AndTerm y ts) are = (marks_of_term (k ∷ u) y (first_kid u k y ts are), marks_of_kids u (suc k) ts (next_kids u k y ts are))

  pub marks_there : AllByRecursion (MarkOf t) (unparsed spec value typed [] t 0).0
  marks_there = marks_of_term [] t refl 0

-- where bytes end
abbrev place_after : Bytes → Position
place_after bytes = record { line = 1 + count_by is_newline bytes; column = 1 + length (take_while (λ b. not (is_newline b)) (reverse bytes)) }

abbrev region_by : Bytes → ℕ → ℕ → Region
region_by bytes from to = record { first = place_after (take from bytes); last = place_after (take (if nat_lt from to then to - 1 else from) bytes) }

abbrev stands_by : Bytes → ℕ → ℕ → ℕ → ℕ → Bool
stands_by bytes count line column k = nat_lt k count && ((place_after (take k bytes)).line == line) && ((place_after (take k bytes)).column == column)

module _ (at : Place → NodeId) where
  bytes_same : (cells : List Cell) → bytes_of (map (by_node at) cells) ≡ bytes_of cells
  bytes_same [] = refl
  bytes_same (c ∷ cells) = ap (λ l. c.0 ∷ l) (bytes_same cells)

  cells_got : (cells : List Cell) (k : ℕ) → slice_get (map (by_node at) cells) k ≡ option_map (by_node at) (slice_get cells k)
  cells_got [] k = refl
  cells_got (c ∷ cells) zero = refl
  cells_got (c ∷ cells) (suc k) = cells_got cells k

  region_same : (cells : List Cell) (from to : ℕ) → region_in (map (by_node at) cells) from to ≡ region_in cells from to
  region_same cells from to = ap (λ bytes. region_by bytes from to) (bytes_same cells)

  -- the node tells its place, among those of marks
  abbrev pub Tells : NodeId → Place → Place → Type 0
  Tells n u v = ((at v).key == n.key) ≡ bytes_eq v u

  found_span : (n : NodeId) (u : Place) (count k : ℕ) (marks : List Mark) → AllByRecursion (λ m. Tells n u (place_of_mark m)) marks
      → find (is_of n) (map (on_page at count) (spans_behind k marks)) ≡ option_map (on_page at count) (find (λ s. bytes_eq s.node u) (spans_behind k marks))
  found_span n u count k [] h = refl
  found_span n u count k (Writes b v ∷ marks) h = found_span n u count (suc k) marks h.1
  found_span n u count k (Closed v c ∷ marks) h =
      let s : SpanOf = record { node = v; from = k - c; to = k } in
      ap (λ b. cond b (Some (on_page at count s)) (find (is_of n) (map (on_page at count) (spans_behind k marks)))) h.0
      ∙ by s (bytes_eq v u) (found_span n u count k marks h.1)
    where
      by : (s : SpanOf) (b : Bool) → find (is_of n) (map (on_page at count) (spans_behind k marks)) ≡ option_map (on_page at count) (find (λ s. bytes_eq s.node u) (spans_behind k marks))
          → cond b (Some (on_page at count s)) (find (is_of n) (map (on_page at count) (spans_behind k marks))) ≡ option_map (on_page at count) (cond b (Some s) (find (λ s. bytes_eq s.node u) (spans_behind k marks)))
      by s true rest = refl
      by s false rest = rest

  regioned : (cells : List Cell) (o : Option SpanOf)
      → option_map (λ (s : Span). region_in (map (by_node at) cells) s.from s.to) (option_map (on_page at (length cells)) o) ≡ option_map (λ (s : SpanOf). region_in cells (min s.from (length cells)) (min s.to (length cells))) o
  regioned cells None = refl
  regioned cells (Some s) = ap (λ r. Some r) (region_same cells (min s.from (length cells)) (min s.to (length cells)))

  pub region_told : (n : NodeId) (u : Place) (marks : List Mark) → AllByRecursion (λ m. Tells n u (place_of_mark m)) marks → region_on (sheet_of at marks) n ≡ region_of marks u
  region_told n u marks h =
      let cells = cells_of marks in
      ap (option_map (λ (s : Span). region_in (map (by_node at) cells) s.from s.to)) (found_span n u (length cells) 0 marks h)
      ∙ regioned cells (find (λ s. bytes_eq s.node u) (spans_behind 0 marks))

  owned : (cells : List Cell) (o : Option ℕ) → option_map (λ (c : ℕ × NodeId). c.1) (option_and_then (slice_get (map (by_node at) cells)) o) ≡ option_map at (option_map (λ (c : Cell). c.1) (option_and_then (slice_get cells) o))
  owned cells None = refl
  owned cells (Some k) = ap (option_map (λ (c : ℕ × NodeId). c.1)) (cells_got cells k) ∙ by (slice_get cells k)
    where
      by : (o : Option Cell) → option_map (λ (c : ℕ × NodeId). c.1) (option_map (by_node at) o) ≡ option_map at (option_map (λ (c : Cell). c.1) o)
      by None = refl
      by (Some c) = refl

  pub owner_told : (marks : List Mark) (line column : ℕ) → owner_at (sheet_of at marks).cells line column ≡ option_map at (owner_at (cells_of marks) line column)
  owner_told marks line column =
      let cells = cells_of marks in
      ap (λ bytes. option_map (λ (c : ℕ × NodeId). c.1) (option_and_then (slice_get (map (by_node at) cells)) (find (stands_by bytes (length (map (by_node at) cells)) line column) (range_with_len 0 (length (map (by_node at) cells)))))) (bytes_same cells)
      ∙ ap (λ n. option_map (λ (c : ℕ × NodeId). c.1) (option_and_then (slice_get (map (by_node at) cells)) (find (stands_by (bytes_of cells) n line column) (range_with_len 0 n)))) (length-map cells (by_node at))
      ∙ owned cells (find (stands_by (bytes_of cells) (length cells) line column) (range_with_len 0 (length cells)))

-- the owner of a cell is a node of the term
cell_there : (t : Term) (marks : List Mark) (n k : ℕ) (c : Cell) → AllByRecursion (MarkOf t) marks → slice_get (take n (all_cells marks)) k ≡ Some c → IsOf t c.1
cell_there t [] zero k c h at = absurd (none-some c at)
cell_there t [] (suc n) k c h at = absurd (none-some c at)
cell_there t (Writes b u ∷ marks) zero k c h at = absurd (none-some c at)
cell_there t (Writes b u ∷ marks) (suc n) zero c h at = subst (λ (z : Cell). IsOf t z.1) (same_Some (b, u) c at) h.0
cell_there t (Writes b u ∷ marks) (suc n) (suc k) c h at = cell_there t marks n k c h.1 at
cell_there t (Closed u m ∷ marks) n k c h at = cell_there t marks n k c h.1 at

pub owner_there : (t : Term) (marks : List Mark) (line column : ℕ) (v : Place) → AllByRecursion (MarkOf t) marks → owner_at (cells_of marks) line column ≡ Some v → IsOf t v
owner_there t marks line column v h at = by (find (stands_at (cells_of marks) line column) (range_with_len 0 (length (cells_of marks)))) at
  where
    cell : (k : ℕ) (o : Option Cell) → slice_get (cells_of marks) k ≡ o → option_map (λ (c : Cell). c.1) o ≡ Some v → IsOf t v
    cell k None e at = absurd (none-some v at)
    cell k (Some c) e at = subst (IsOf t) (same_Some c.1 v at) (cell_there t marks 1048576 k c h e)

    by : (o : Option ℕ) → option_map (λ (c : Cell). c.1) (option_and_then (slice_get (cells_of marks)) o) ≡ Some v → IsOf t v
    by None at = absurd (none-some v at)
    by (Some k) at = cell k (slice_get (cells_of marks) k) refl at
