-- Cells of one owner behind those that are written.
use Rattle.std.specs.Prelude.{◌≡◌, refl, ℕ, suc, ◌+◌, ◌-◌, ◌<◌, ◌≤◌, Bool, true, min, List, [], ◌∷◌, ◌++◌, length, map, take, slice_get, Option, Some, None, MatchOption}
use Rattle.std.specs.List.{All}
use Rattle.std.specs.List.Sorted.{IsNonDecreasingBy}
use Rattle.std.proofs.Common.{sym, ap, ◌∙◌, subst, arith, inl, inr, length-append}
use Rattle.std.proofs.lemmas.Bool.{ltb-true, lt-ltb, le-ltb}
use Rattle.std.proofs.lemmas.Option.{get_or_from_slice_get, slice_get_within}
use Rattle.std.proofs.lemmas.List.{take-append-le, take_all, length-take, length-map, map-append, append-nil}
use Rattle.std.proofs.lemmas.List.Elements.{All-push}
use Rattle.std.proofs.lemmas.List.Sorted.{IsNonDecreasingBy-push}
use Rattle.sg_kinds.specs.Values.{Bytes}
use Rattle.sg_kinds.specs.Places.{Place}
use Rattle.sg_forest.specs.declared.node_id.NodeId.{NodeId}
use Rattle.sg_unparse.specs.Cells.{Mark, Writes, as_they_are, cells_in}
use Rattle.sg_unparse.specs.Page.{all_cells, cells_of, is_cut, spans_behind}
use Rattle.sg_unparse.specs.Sheet.{IsWritten, cells_from, kept_cells, owner_in, no_node}
use Rattle.sg_unparse.specs.Written.{HoldsMarks, Wrote, Owns, by_node, on_page}
use Rattle.sg_unparse.specs.declared.page.Run.{Run}
use Rattle.sg_unparse.specs.declared.page.Span.{Span}
use Rattle.sg_unparse.specs.declared.writer.Writer.{Writer}
use Rattle.sg_unparse.proofs.Streams.{all_cells-append, spans_behind-append}
use Rattle.sg_unparse.proofs.Runs.{cells_append, cells_alike, cells_counted, owner_before, owner_last, owner_pushed}

-- runs of which the last one says whose the next cells are
record AreOwned (text : Bytes) (old new : List Run) (owner : NodeId) : Type 0 where
  begins : MatchOption (slice_get new 0) ⊥ (λ (r : Run). r.from ≡ 0)
  rising : IsNonDecreasingBy (λ (r : Run). r.from) new
  within : All (λ (r : Run). r.from ≤ length text) new
  before : (k : ℕ) → k < length text → owner_in no_node new k ≡ owner_in no_node old k
  behind : (k : ℕ) → length text ≤ k → owner_in no_node new k ≡ owner

begun : (o : Option Run) (x : Run) (P : Type 0) → MatchOption o P (λ (r : Run). r.from ≡ 0) → o ≡ Some x → MatchOption o ⊥ (λ (r : Run). r.from ≡ 0)
begun None x P h e = absurd (let IsNone : Option Run → Type 0 = λ o. elim o [ None ↦ Unit {0} | Some y ↦ ⊥ ] in subst IsNone e tt)
begun (Some y) x P h e = h

first_there : (rs : List Run) → 0 < length rs → (x : Run) × (slice_get rs 0 ≡ Some x)
first_there [] h = absurd (omega (arith, h))
first_there (r ∷ rs) h = (r, refl)

push_begins : (text : Bytes) (old : List Run) (r : Run) → r.from ≡ length text → MatchOption (slice_get old 0) (text ≡ []) (λ (r : Run). r.from ≡ 0) → MatchOption (slice_get (old ++ r ∷ []) 0) ⊥ (λ (r : Run). r.from ≡ 0)
push_begins text [] r e h = e ∙ ap length h
push_begins text (x ∷ old) r e h = h

owned : (text : Bytes) (old new : List Run) (spans : List Span) (owner : NodeId) → IsWritten text old spans → Owns old new (length text) owner → AreOwned text old new owner
owned text old new spans owner h (inl p) = subst (λ rs. AreOwned text old rs owner) (sym p.1) (record {
  begins = (let f = first_there old some in begun (slice_get old 0) f.0 (text ≡ []) h.begins f.1);
  rising = h.rising;
  within = h.within;
  before = λ k l. refl;
  behind = λ k m. owner_last no_node old k p.0.run some (λ i d l. (let g = h.within i d l in omega (arith, g, m))) ∙ ap (λ (r : Run). r.owner) (get_or_from_slice_get old (length old - 1) p.0.run p.0.run p.0.there) ∙ p.0.is;
})
  where
    some : 0 < length old
    some = (let l = slice_get_within old (length old - 1) p.0.run p.0.there in omega (arith, l))
owned text old new spans owner h (inr e) =
    let r : Run = record { from = length text; owner = owner } in
    subst (λ rs. AreOwned text old rs owner) (sym e) (record {
      begins = push_begins text old r refl h.begins;
      rising = IsNonDecreasingBy-push (λ (r : Run). r.from) old r h.rising (λ d l. h.within (length old - 1) d (omega (arith, l)));
      within = All-push (λ (r : Run). r.from ≤ length text) old r h.within (omega arith);
      before = λ k l. owner_before no_node old r k l;
      behind = λ k m. owner_pushed no_node old r k m (λ i d l. (let g = h.within i d l in omega (arith, g, m)));
    })

-- what is kept with more cells
kept_more : (text s : Bytes) (old new : List Run) (spans : List Span) (owner : NodeId) → IsWritten text old spans → AreOwned text old new owner → length text + length s ≤ 1048576 → IsWritten (text ++ s) new spans
kept_more text s old new spans owner h o room = record {
  small = (let c = length-append text s in omega (arith, room, c));
  begins = begins (slice_get new 0) o.begins;
  rising = o.rising;
  within = λ i d l. (let c = length-append text s in let g = o.within i d l in omega (arith, g, c));
  ends = λ i d l. (let c = length-append text s in let g = h.ends i d l in (g.0, omega (arith, g.1, c)));
}
  where
    begins : (w : Option Run) → MatchOption w ⊥ (λ (r : Run). r.from ≡ 0) → MatchOption w (text ++ s ≡ []) (λ (r : Run). r.from ≡ 0)
    begins None h = absurd h
    begins (Some r) h = h

-- bytes that a node owns: their marks, how many cells they are, and that no node ends among them
abbrev pub written : Place → Bytes → List Mark
written u s = map (λ b. Writes b u) s

pub as_cells : (u : Place) (s : Bytes) → length (all_cells (written u s)) ≡ length s
as_cells u [] = refl
as_cells u (b ∷ s) = ap suc (as_cells u s)

pub no_ends : (u : Place) (s : Bytes) (n : ℕ) → spans_behind n (written u s) ≡ []
no_ends u [] n = refl
no_ends u (b ∷ s) n = no_ends u s (suc n)

-- the page of marks has as many cells as are kept
pub kept_length : (at : Place → NodeId) (w : Writer) (marks : List Mark) (m : ℕ) → HoldsMarks at w marks m → length w.text.items ≡ min 1048576 (length (all_cells marks))
kept_length at w marks m h =
    sym (cells_counted 0 (owner_in no_node w.runs.items) w.text.items) ∙ ap length h.cells ∙ length-map (cells_of marks) (by_node at) ∙ length-take 1048576 (all_cells marks)

counted : (marks xs : List Mark) → length (all_cells (marks ++ xs)) ≡ length (all_cells marks) + length (all_cells xs)
counted marks xs = ap length (all_cells-append marks xs) ∙ length-append (all_cells marks) (all_cells xs)

-- marks behind a full page
pub cut_stays : (marks xs : List Mark) → 1048576 ≤ length (all_cells marks) → cells_of (marks ++ xs) ≡ cells_of marks
cut_stays marks xs h = ap (take 1048576) (all_cells-append marks xs) ∙ take-append-le 1048576 (all_cells marks) (all_cells xs) h

pub spans_stay : (marks xs : List Mark) → ((n : ℕ) → spans_behind n xs ≡ []) → spans_behind 0 (marks ++ xs) ≡ spans_behind 0 marks
spans_stay marks xs none = spans_behind-append 0 marks xs ∙ ap (λ ss. spans_behind 0 marks ++ ss) (none (0 + cells_in marks)) ∙ append-nil (spans_behind 0 marks)

module _ (at : Place → NodeId) where
  -- a page that is full, with or without more
  pub full : (w : Writer) (more : Bool) (marks xs : List Mark) (m : ℕ) → HoldsMarks at w marks m → ((n : ℕ) → spans_behind n xs ≡ []) → 1048576 ≤ length (all_cells marks) → more ≡ is_cut (marks ++ xs) → HoldsMarks at (record w { more = more }) (marks ++ xs) m
  full w more marks xs m h none room e = record {
    kept = h.kept;
    cells = h.cells ∙ ap (map (by_node at)) (sym (cut_stays marks xs room));
    spans = h.spans ∙ ap (map (on_page at 1048576)) (sym (spans_stay marks xs none));
    more = e;
    margin = h.margin;
  }

  pub full_put : (w : Writer) (u : Place) (b : ℕ) → 1048576 ≤ length w.text.items → Wrote at w (record w { more = true }) (as_they_are u (b ∷ []))
  full_put w u b room = record {
    behind = λ marks m h.
        let size = kept_length at w marks m h in
        let count = counted marks (Writes b u ∷ []) in
        full w true marks (Writes b u ∷ []) m h (λ n. refl) (omega (arith, size, room)) (sym (lt-ltb 1048576 (length (all_cells (marks ++ Writes b u ∷ []))) (omega (arith, size, room, count))));
  }

  pub cut_more : (w : Writer) (marks xs : List Mark) (m : ℕ) → HoldsMarks at w marks m → ((n : ℕ) → spans_behind n xs ≡ []) → w.more ≡ true → HoldsMarks at w (marks ++ xs) m
  cut_more w marks xs m h none e =
      let over = ltb-true 1048576 (length (all_cells marks)) (sym h.more ∙ e) in
      let count = counted marks xs in
      full w w.more marks xs m h none (omega (arith, over)) (e ∙ sym (lt-ltb 1048576 (length (all_cells (marks ++ xs))) (omega (arith, over, count))))

  cells_owned : (n : ℕ) (f : ℕ → NodeId) (u : Place) (s : Bytes) → ((k : ℕ) → n ≤ k → f k ≡ at u) → cells_from n f s ≡ map (by_node at) (all_cells (written u s))
  cells_owned n f u [] h = refl
  cells_owned n f u (b ∷ s) h =
      ap (λ x. (b, x) ∷ cells_from (suc n) f s) (h n (omega arith)) ∙ ap (λ xs. (b, at u) ∷ xs) (cells_owned (suc n) f u s (λ k l. h k (omega (arith, l))))

  cells_more : (text s : Bytes) (old new : List Run) (u : Place) → AreOwned text old new (at u) → kept_cells (text ++ s) new ≡ kept_cells text old ++ map (by_node at) (all_cells (written u s))
  cells_more text s old new u o =
      cells_append 0 (owner_in no_node new) text s
      ∙ ap (λ xs. xs ++ cells_from (0 + length text) (owner_in no_node new) s) (cells_alike 0 (owner_in no_node new) (owner_in no_node old) text (λ k l. o.before k (omega (arith, l))))
      ∙ ap (λ xs. kept_cells text old ++ xs) (cells_owned (0 + length text) (owner_in no_node new) u s (λ k l. o.behind k (omega (arith, l))))

  pub put_written : (old new : Writer) (u : Place) (s : Bytes) → 0 < length s → length old.text.items + length s ≤ 1048576 → new.text.items ≡ old.text.items ++ s → Owns old.runs.items new.runs.items (length old.text.items) (at u) → new.spans.items ≡ old.spans.items → new.margin ≡ old.margin → new.more ≡ old.more → Wrote at old new (as_they_are u s)
  put_written old new u s some room text runs spans margin more = record {
    behind = λ marks m h.
        let size = kept_length at old marks m h in
        let long = as_cells u s in
        let count = counted marks (written u s) in
        let all_fit : length (all_cells (marks ++ written u s)) ≤ 1048576 = omega (arith, size, long, count, some, room) in
        let fit : length (all_cells marks) ≤ 1048576 = omega (arith, count, all_fit) in
        let o = owned old.text.items old.runs.items new.runs.items old.spans.items (at u) h.kept runs in
        let all : cells_of (marks ++ written u s) ≡ all_cells marks ++ all_cells (written u s) = take_all 1048576 (all_cells (marks ++ written u s)) all_fit ∙ all_cells-append marks (written u s) in
        record {
          kept = kept_is (kept_more old.text.items s old.runs.items new.runs.items old.spans.items (at u) h.kept o room);
          cells = ap (λ t. kept_cells t new.runs.items) text
              ∙ cells_more old.text.items s old.runs.items new.runs.items u o
              ∙ ap (λ xs. xs ++ map (by_node at) (all_cells (written u s))) (h.cells ∙ ap (map (by_node at)) (take_all 1048576 (all_cells marks) fit))
              ∙ sym (map-append (by_node at) (all_cells marks) (all_cells (written u s)))
              ∙ ap (map (by_node at)) (sym all);
          spans = spans ∙ h.spans ∙ ap (map (on_page at 1048576)) (sym (spans_stay marks (written u s) (no_ends u s)));
          more = more ∙ h.more ∙ le-ltb 1048576 (length (all_cells marks)) fit ∙ sym (le-ltb 1048576 (length (all_cells (marks ++ written u s))) all_fit);
          margin = margin ∙ h.margin;
        };
  }
    where
      kept_is : IsWritten (old.text.items ++ s) new.runs.items old.spans.items → IsWritten new.text.items new.runs.items new.spans.items
      kept_is k = subst (λ t. IsWritten t new.runs.items new.spans.items) (sym text) (subst (IsWritten (old.text.items ++ s) new.runs.items) (sym spans) k)
