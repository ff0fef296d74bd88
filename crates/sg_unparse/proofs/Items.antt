-- What a node writes, item by item.
use Rattle.std.specs.Prelude.{◌≡◌, refl, ℕ, zero, suc, ◌+◌, ◌-◌, ◌<◌, ◌≤◌, min, Bool, true, false, if◌then◌else◌, List, [], ◌∷◌, ◌++◌, length, map, drop, Option, Some, None, slice_get, option_map, unwrap_or, Result, IfOk}
use Rattle.std.proofs.Common.{sym, ap, ◌∙◌, subst, arith, get_or}
use Rattle.std.proofs.Math.ListN.{drop_of_length-le}
use Rattle.std.proofs.Math.Seq.{drop-cons}
use Rattle.std.proofs.lemmas.List.{length-take}
use Rattle.std.proofs.lemmas.Result.{IfOk-weaker}
use Rattle.sg_kinds.specs.Values.{Bytes}
use Rattle.sg_kinds.specs.Terms.{Term, Terms, Leaf, Node, NoTerm, AndTerm, terms_of}
use Rattle.sg_kinds.specs.Places.{Place}
use Rattle.sg_kinds.specs.declared.spec.Item.{Item}
use Rattle.sg_kinds.specs.declared.spec.Scheme.{Scheme}
use Rattle.sg_kinds.specs.declared.spec.Item.TheVariants.{Writes as WritesPieces, Child, Shows, Separates}
use Rattle.sg_kinds.specs.declared.spec.Piece.{Piece}
use Rattle.sg_kinds.specs.declared.spec.Occurrence.{Occurrence}
use Rattle.sg_kinds.specs.declared.marks.ChildPlace.{ChildPlace}
use Rattle.sg_kinds.specs.declared.marks.ChildPlace.TheVariants.{Resting, Passed, Hidden}
use Rattle.sg_forest.specs.declared.node_id.NodeId.{NodeId}
use Rattle.sg_groves.specs.Grove.{Grove, spec_shown}
use Rattle.sg_terms.specs.Labels.{elided_of}
use Rattle.sg_unparse.specs.Printing.{scheme_of}
use Rattle.sg_unparse.specs.Along.{node_along, stored, is_captured, typed_in, items_in, shows_in, kids_in, own_in, content_in, unparsed_in}
use Rattle.sg_unparse.specs.Cells.{Mark, Writes, Closed, Writing, nothing, in_turn, as_they_are, plain, pieces, placed, ended, cells_in, content, items_of, goes_on, unparsed_among}
use Rattle.sg_unparse.specs.Page.{all_cells, cells_of, spans_behind}
use Rattle.sg_unparse.specs.Written.{HoldsMarks, Wrote, by_node, on_page, sheet_of}
use Rattle.sg_unparse.specs.Sheet.{Sheet, kept_cells}
use Rattle.sg_unparse.specs.declared.writer.Writer.{Writer}
use Rattle.sg_unparse.proofs.Streams.{length-all_cells}
use Rattle.sg_unparse.proofs.Writing.{wrote_as, wrote_nothing, wrote_turn}

module _ (g : Grove) (root : NodeId) (captured : Option NodeId) (text : Bytes) where
  -- a node ends behind its content
  ended_content : (u : Place) (t : Term) (m : ℕ) → ended u (content_in g root captured text u t) m ≡ unparsed_in g root captured text u t m
  ended_content u (Leaf p v) m = refl
  ended_content u (Node op n elided ts) m = refl

  pub node_written : (old new : Writer) (u : Place) (t : Term) → Wrote (node_along g root) old new (ended u (content_in g root captured text u t)) → Wrote (node_along g root) old new (unparsed_in g root captured text u t)
  node_written old new u t w = wrote_as (node_along g root) old new (ended u (content_in g root captured text u t)) (unparsed_in g root captured text u t) (ended_content u t) w

  -- what is typed in its place
  typed_is : (u : Place) (n : NodeId) (b : Bool) → node_along g root u ≡ n → is_captured captured n ≡ b → typed_in g root captured text u ≡ (if b then Some text else None)
  typed_is u n b along is = ap (λ m. if is_captured captured m then Some text else None) along ∙ ap (λ t. if t then Some text else None) is

  content_is : (u : Place) (t : Term) (o : Option Bytes) (elided : Bool) → typed_in g root captured text u ≡ o → elided_of t ≡ elided → (m : ℕ) → content (spec_shown g) (stored g root) (typed_in g root captured text) u o elided (own_in g root captured text u t) m ≡ content_in g root captured text u t m
  content_is u t o elided e f m =
      ap (λ x. content (spec_shown g) (stored g root) (typed_in g root captured text) u x elided (own_in g root captured text u t) m) (sym e)
      ∙ ap (λ x. content (spec_shown g) (stored g root) (typed_in g root captured text) u (typed_in g root captured text u) x (own_in g root captured text u t) m) (sym f)

  pub content_typed : (old new : Writer) (u : Place) (n : NodeId) (t : Term) → node_along g root u ≡ n → is_captured captured n ≡ true → Wrote (node_along g root) old new (plain u text) → Wrote (node_along g root) old new (content_in g root captured text u t)
  content_typed old new u n t along is w = wrote_as (node_along g root) old new (plain u text) (content_in g root captured text u t) (content_is u t (Some text) (elided_of t) (typed_is u n true along is) refl) w

  pub content_elided : (old new : Writer) (u : Place) (n : NodeId) (t : Term) → node_along g root u ≡ n → is_captured captured n ≡ false → elided_of t ≡ true → Wrote (node_along g root) old new (as_they_are u (46 ∷ 46 ∷ 46 ∷ [])) → Wrote (node_along g root) old new (content_in g root captured text u t)
  content_elided old new u n t along is e w = wrote_as (node_along g root) old new (as_they_are u (46 ∷ 46 ∷ 46 ∷ [])) (content_in g root captured text u t) (content_is u t None true (typed_is u n false along is) e) w

  pub content_own : (old new : Writer) (u : Place) (n : NodeId) (t : Term) → node_along g root u ≡ n → is_captured captured n ≡ false → elided_of t ≡ false → Wrote (node_along g root) old new (own_in g root captured text u t) → Wrote (node_along g root) old new (content_in g root captured text u t)
  content_own old new u n t along is e w = wrote_as (node_along g root) old new (own_in g root captured text u t) (content_in g root captured text u t) (content_is u t None false (typed_is u n false along is) e) w

  -- the children that are still to come
  among_drop : (u : Place) (j k : ℕ) (ts : Terms) (s : Term) → slice_get (terms_of ts) k ≡ Some s → drop k (unparsed_among (spec_shown g) (stored g root) (typed_in g root captured text) u j ts) ≡ unparsed_in g root captured text ((j + k) ∷ u) s ∷ drop (k + 1) (unparsed_among (spec_shown g) (stored g root) (typed_in g root captured text) u j ts)
  among_drop u j k NoTerm s e = absurd (let IsNone : Option Term → Type 0 = λ o. elim o [ None ↦ Unit {0} | Some y ↦ ⊥ ] in subst IsNone e tt)
  among_drop u j zero (AndTerm t ts) s e =
      let same : t ≡ s = ap (λ o. unwrap_or o s) e in
      let here : j ≡ j + 0 = omega arith in
      ap (λ x. unparsed_in g root captured text (j ∷ u) x ∷ unparsed_among (spec_shown g) (stored g root) (typed_in g root captured text) u (suc j) ts) same
      ∙ ap (λ i. unparsed_in g root captured text (i ∷ u) s ∷ unparsed_among (spec_shown g) (stored g root) (typed_in g root captured text) u (suc j) ts) here
  among_drop u j (suc k) (AndTerm t ts) s e =
      let here : suc j + k ≡ j + suc k = omega arith in
      let next : suc (k + 1) ≡ suc k + 1 = omega arith in
      among_drop u (suc j) k ts s e
      ∙ ap (λ i. unparsed_in g root captured text (i ∷ u) s ∷ drop (k + 1) (unparsed_among (spec_shown g) (stored g root) (typed_in g root captured text) u (suc j) ts)) here
      ∙ ap (λ i. unparsed_in g root captured text ((j + suc k) ∷ u) s ∷ drop i (unparsed_among (spec_shown g) (stored g root) (typed_in g root captured text) u j (AndTerm t ts))) next

  kids_drop : (u : Place) (k : ℕ) (ts : Terms) (s : Term) → slice_get (terms_of ts) k ≡ Some s → drop k (kids_in g root captured text u ts) ≡ unparsed_in g root captured text (k ∷ u) s ∷ drop (k + 1) (kids_in g root captured text u ts)
  kids_drop u k ts s e = (let here : 0 + k ≡ k = omega arith in among_drop u 0 k ts s e ∙ ap (λ i. unparsed_in g root captured text (i ∷ u) s ∷ drop (k + 1) (kids_in g root captured text u ts)) here)

  among_past : (u : Place) (j k : ℕ) (ts : Terms) → length (terms_of ts) ≤ k → drop k (unparsed_among (spec_shown g) (stored g root) (typed_in g root captured text) u j ts) ≡ []
  among_past u j zero NoTerm h = refl
  among_past u j (suc k) NoTerm h = refl
  among_past u j zero (AndTerm t ts) h = absurd (omega (arith, h))
  among_past u j (suc k) (AndTerm t ts) h = among_past u (suc j) k ts (omega (arith, h))

  -- items over what is left of the children
  module _ (u : Place) (op : ℕ) (more : Bool) (is : List Item) (ts : Terms) (k : ℕ) (old end : Writer) where
    abbrev rest : ℕ → Writing
    rest i = items_in g root captured text u op more is (drop i (kids_in g root captured text u ts))

    pub writes_item : (mid : Writer) (ps : List Piece) → Wrote (node_along g root) old mid (pieces u ps) → Wrote (node_along g root) mid end (rest k) → Wrote (node_along g root) old end (items_in g root captured text u op more (WritesPieces ps ∷ is) (drop k (kids_in g root captured text u ts)))
    writes_item mid ps v w = wrote_turn (node_along g root) old mid end (pieces u ps) (rest k) v w

    pub shows_item : (mid : Writer) (o : Occurrence) → Wrote (node_along g root) old mid (shows_in g root captured text u op o) → Wrote (node_along g root) mid end (rest k) → Wrote (node_along g root) old end (items_in g root captured text u op more (Shows o ∷ is) (drop k (kids_in g root captured text u ts)))
    shows_item mid o v w = wrote_turn (node_along g root) old mid end (shows_in g root captured text u op o) (rest k) v w

    separates_as : (ps : List Piece) (f : Writing) (b : Bool) → more ≡ b → ((m : ℕ) → f m ≡ (if b then pieces u ps else nothing) m) → (m : ℕ) → in_turn f (rest k) m ≡ items_in g root captured text u op more (Separates ps ∷ is) (drop k (kids_in g root captured text u ts)) m
    separates_as ps f b e h m =
        ap (λ (x : List Mark × ℕ). (x.0 ++ (rest k x.1).0, (rest k x.1).1)) (h m)
        ∙ ap (λ (t : Bool). in_turn (if t then pieces u ps else nothing) (rest k) m) (sym e)

    pub separates_shown : (mid : Writer) (ps : List Piece) → more ≡ true → Wrote (node_along g root) old mid (pieces u ps) → Wrote (node_along g root) mid end (rest k) → Wrote (node_along g root) old end (items_in g root captured text u op more (Separates ps ∷ is) (drop k (kids_in g root captured text u ts)))
    separates_shown mid ps e v w = wrote_as (node_along g root) old end (in_turn (pieces u ps) (rest k)) (items_in g root captured text u op more (Separates ps ∷ is) (drop k (kids_in g root captured text u ts))) (separates_as ps (pieces u ps) true e (λ m. refl)) (wrote_turn (node_along g root) old mid end (pieces u ps) (rest k) v w)

    pub separates_hidden : (ps : List Piece) → more ≡ false → Wrote (node_along g root) old end (rest k) → Wrote (node_along g root) old end (items_in g root captured text u op more (Separates ps ∷ is) (drop k (kids_in g root captured text u ts)))
    separates_hidden ps e w = wrote_as (node_along g root) old end (in_turn nothing (rest k)) (items_in g root captured text u op more (Separates ps ∷ is) (drop k (kids_in g root captured text u ts))) (separates_as ps nothing false e (λ m. refl)) (wrote_turn (node_along g root) old old end nothing (rest k) (wrote_nothing (node_along g root) old) w)

    pub child_past : (place : ChildPlace) → length (terms_of ts) ≤ k → Wrote (node_along g root) old end (rest k) → Wrote (node_along g root) old end (items_in g root captured text u op more (Child place ∷ is) (drop k (kids_in g root captured text u ts)))
    child_past place h w =
        let none = among_past u 0 k ts h in
        subst (λ kids. Wrote (node_along g root) old end (items_in g root captured text u op more (Child place ∷ is) kids)) (sym none)
        (subst (λ kids. Wrote (node_along g root) old end (items_in g root captured text u op more is kids)) none w)

    child_here : (place : ChildPlace) (s : Term) → slice_get (terms_of ts) k ≡ Some s → Wrote (node_along g root) old end (in_turn (placed place (unparsed_in g root captured text (k ∷ u) s)) (rest (k + 1))) → Wrote (node_along g root) old end (items_in g root captured text u op more (Child place ∷ is) (drop k (kids_in g root captured text u ts)))
    child_here place s e w = subst (λ kids. Wrote (node_along g root) old end (items_in g root captured text u op more (Child place ∷ is) kids)) (sym (kids_drop u k ts s e)) w

    pub child_hidden : (s : Term) → slice_get (terms_of ts) k ≡ Some s → Wrote (node_along g root) old end (rest (k + 1)) → Wrote (node_along g root) old end (items_in g root captured text u op more (Child Hidden ∷ is) (drop k (kids_in g root captured text u ts)))
    child_hidden s e w = child_here Hidden s e (wrote_turn (node_along g root) old old end nothing (rest (k + 1)) (wrote_nothing (node_along g root) old) w)

    pub child_shown : (mid : Writer) (place : ChildPlace) (s : Term) → (place ≡ Hidden → ⊥) → slice_get (terms_of ts) k ≡ Some s → Wrote (node_along g root) old mid (unparsed_in g root captured text (k ∷ u) s) → Wrote (node_along g root) mid end (rest (k + 1)) → Wrote (node_along g root) old end (items_in g root captured text u op more (Child place ∷ is) (drop k (kids_in g root captured text u ts)))
    child_shown mid Resting s n e v w = child_here Resting s e (wrote_turn (node_along g root) old mid end (unparsed_in g root captured text (k ∷ u) s) (rest (k + 1)) v w)
    child_shown mid Passed s n e v w = child_here Passed s e (wrote_turn (node_along g root) old mid end (unparsed_in g root captured text (k ∷ u) s) (rest (k + 1)) v w)
    child_shown mid Hidden s n e v w = absurd (n refl)

-- spans end at most with the last cell, so that either way of cutting them gives the same
spans_cut : (at : Place → NodeId) (n total : ℕ) (xs : List Mark) → n + cells_in xs ≤ total → map (on_page at 1048576) (spans_behind n xs) ≡ map (on_page at (min 1048576 total)) (spans_behind n xs)
spans_cut at n total [] h = refl
spans_cut at n total (Writes b u ∷ xs) h = spans_cut at (suc n) total xs (omega (arith, h))
spans_cut at n total (Closed u k ∷ xs) h =
    let from : min (n - k) 1048576 ≡ min (n - k) (min 1048576 total) = omega (arith, h) in
    let to : min n 1048576 ≡ min n (min 1048576 total) = omega (arith, h) in
    ap (λ a. record { node = at u; from = a; to = min n 1048576 } ∷ map (on_page at 1048576) (spans_behind n xs)) from
    ∙ ap (λ b. record { node = at u; from = min (n - k) (min 1048576 total); to = b } ∷ map (on_page at 1048576) (spans_behind n xs)) to
    ∙ ap (λ ss. on_page at (min 1048576 total) (record { node = u; from = n - k; to = n }) ∷ ss) (spans_cut at n total xs h)

sheet_written : (at : Place → NodeId) (w : Writer) (marks : List Mark) (m : ℕ) → HoldsMarks at w marks m → record { cells = kept_cells w.text.items w.runs.items; spans = w.spans.items; more = w.more } ≡ sheet_of at marks
sheet_written at w marks m h =
    let size : min 1048576 (length (all_cells marks)) ≡ length (cells_of marks) = sym (length-take 1048576 (all_cells marks)) in
    let count = length-all_cells marks in
    let spans : w.spans.items ≡ map (on_page at (length (cells_of marks))) (spans_behind 0 marks) =
    h.spans ∙ spans_cut at 0 (length (all_cells marks)) marks (omega (arith, count)) ∙ ap (λ n. map (on_page at n) (spans_behind 0 marks)) size in
    ap (λ cs. record { cells = cs; spans = w.spans.items; more = w.more }) h.cells
    ∙ ap (λ ss. record { cells = map (by_node at) (cells_of marks); spans = ss; more = w.more }) spans
    ∙ ap (λ b. record { cells = map (by_node at) (cells_of marks); spans = map (on_page at (length (cells_of marks))) (spans_behind 0 marks); more = b }) h.more

pub page_written : {E : Type 0} (at : Place → NodeId) (w : Writer) (marks : List Mark) (m : ℕ) (r : Result Sheet E) → HoldsMarks at w marks m
    → IfOk r (λ p. p ≡ record { cells = kept_cells w.text.items w.runs.items; spans = w.spans.items; more = w.more }) → IfOk r (λ p. p ≡ sheet_of at marks)
page_written at w marks m r h =
    IfOk-weaker r (λ p. p ≡ record { cells = kept_cells w.text.items w.runs.items; spans = w.spans.items; more = w.more }) (λ p. p ≡ sheet_of at marks) (λ p e. e ∙ sheet_written at w marks m h)

-- what is left of a list
pub left_more : {A : Type 0} (xs : List A) (i : ℕ) (x : A) → i < length xs → x ≡ get_or xs i x → drop i xs ≡ x ∷ drop (i + 1) xs
left_more xs i x h e =
    let next : suc i ≡ i + 1 = omega arith in
    drop-cons xs i x h ∙ ap (λ y. y ∷ drop (suc i) xs) (sym e) ∙ ap (λ k. x ∷ drop k xs) next

module _ (g : Grove) (root : NodeId) (captured : Option NodeId) (text : Bytes) (u : Place) (op : ℕ) (more : Bool) (is : List Item) (ts : Terms) where
  -- items over all children, from some item and child on
  abbrev pub left_in : ℕ → ℕ → Writing
  left_in i k = items_in g root captured text u op more (drop i is) (drop k (kids_in g root captured text u ts))

  pub left_item : (i k : ℕ) (item : Item) (old new : Writer) → i < length is → item ≡ get_or is i item → Wrote (node_along g root) old new (items_in g root captured text u op more (item ∷ drop (i + 1) is) (drop k (kids_in g root captured text u ts))) → Wrote (node_along g root) old new (left_in i k)
  left_item i k item old new h e w = subst (λ (l : List Item). Wrote (node_along g root) old new (items_in g root captured text u op more l (drop k (kids_in g root captured text u ts)))) (sym (left_more is i item h e)) w

  pub left_none : (i k : ℕ) (w : Writer) → length is ≤ i → Wrote (node_along g root) w w (left_in i k)
  left_none i k w h = subst (λ (l : List Item). Wrote (node_along g root) w w (items_in g root captured text u op more l (drop k (kids_in g root captured text u ts)))) (sym (drop_of_length-le is h)) (wrote_nothing (node_along g root) w)

module _ (g : Grove) (root : NodeId) (captured : Option NodeId) (text : Bytes) where
  -- the items of a node's scheme, and what they write
  pub found_items : (op k : ℕ) (s : Scheme) → scheme_of (spec_shown g) op k ≡ Some s → s.items ≡ items_of (spec_shown g) op k
  found_items op k s e = sym (ap (λ (o : Option Scheme). unwrap_or (option_map (λ (x : Scheme). x.items) o) []) e)

  pub none_items : (op k : ℕ) → scheme_of (spec_shown g) op k ≡ None → [] ≡ items_of (spec_shown g) op k
  none_items op k e = sym (ap (λ (o : Option Scheme). unwrap_or (option_map (λ (x : Scheme). x.items) o) []) e)

  pub scheme_written : (old new : Writer) (u : Place) (t : Term) (op k : ℕ) (elided : Bool) (ts : Terms) (is : List Item) → t ≡ Node op k elided ts → is ≡ items_of (spec_shown g) op k → Wrote (node_along g root) old new (items_in g root captured text u op (goes_on ts) is (kids_in g root captured text u ts)) → Wrote (node_along g root) old new (own_in g root captured text u t)
  scheme_written old new u t op k elided ts is e i w =
      subst (λ x. Wrote (node_along g root) old new (own_in g root captured text u x)) (sym e)
      (subst (λ l. Wrote (node_along g root) old new (items_in g root captured text u op (goes_on ts) l (kids_in g root captured text u ts))) i w)

  pub nothing_written : (w : Writer) (u : Place) (t : Term) (op k : ℕ) (elided : Bool) (ts : Terms) → t ≡ Node op k elided ts → scheme_of (spec_shown g) op k ≡ None → Wrote (node_along g root) w w (own_in g root captured text u t)
  nothing_written w u t op k elided ts e none = scheme_written w w u t op k elided ts [] e (none_items op k none) (wrote_nothing (node_along g root) w)
