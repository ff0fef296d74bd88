-- What is written one behind another.
use Rattle.std.specs.Prelude.{◌≡◌, refl, ℕ, ◌+◌, ◌-◌, ◌*◌, ◌<◌, ◌≤◌, ◌⊎◌, Bool, true, false, ◌||◌, ◌==◌, nat_lt, min, if◌then◌else◌, List, [], ◌∷◌, ◌++◌, length, map, take, replicate, Result, Ok, Err, OnOk}
use Rattle.std.specs.List.{list_any}
use Rattle.std.proofs.Common.{sym, ap, ◌∙◌, subst, arith, get_or, inl, inr, append_assoc, length-append, add-one}
use Rattle.std.proofs.lemmas.Bool.{true≢false, lt-ltb, cases_lt, eq-eqb, ne_eqb}
use Rattle.std.proofs.lemmas.List.{map-append, append-nil, replicate-append-replicate, length-replicate, take_all}
use Rattle.std.proofs.Math.Seq.{take-suc}
use Rattle.sg_kinds.specs.Values.{Bytes}
use Rattle.sg_kinds.specs.Places.{Place}
use Rattle.sg_kinds.specs.declared.spec.Piece.{Piece}
use Rattle.sg_kinds.specs.declared.spec.Piece.TheVariants.{Margin}
use Rattle.sg_forest.specs.declared.node_id.NodeId.{NodeId}
use Rattle.sg_unparse.specs.Cells.{Mark, Writes, Closed, Writing, nothing, in_turn, as_they_are, newline, plain, piece, pieces, cells_in, ended}
use Rattle.sg_unparse.specs.Page.{Span as SpanOf, all_cells, spans_behind}
use Rattle.std.proofs.lemmas.List.Elements.{All-push}
use Rattle.sg_unparse.specs.Sheet.{IsWritten, kept_cells}
use Rattle.sg_unparse.specs.declared.page.Span.{Span}
use Rattle.sg_unparse.specs.Written.{HoldsMarks, Wrote, blanks_of, by_node, on_page}
use Rattle.sg_unparse.specs.declared.writer.Writer.{Writer}
use Rattle.sg_unparse.proofs.Streams.{all_cells-append, spans_behind-append, length-all_cells, cells_in-append}
use Rattle.sg_unparse.proofs.Put.{as_cells, no_ends, cut_more, kept_length}

none_append : (xs ys : List Mark) → ((n : ℕ) → spans_behind n xs ≡ []) → ((n : ℕ) → spans_behind n ys ≡ []) → (n : ℕ) → spans_behind n (xs ++ ys) ≡ []
none_append xs ys h k n = spans_behind-append n xs ys ∙ ap (λ ss. ss ++ spans_behind (n + cells_in xs) ys) (h n) ∙ k (n + cells_in xs)

-- a text leaves the margin, and no node ends in it
plain_margin : (u : Place) (s : Bytes) (m : ℕ) → (plain u s m).1 ≡ m
plain_margin u [] m = refl
plain_margin u (b ∷ s) m = by (b == 10) (plain_margin u s m)
  where
    by : (t : Bool) → (plain u s m).1 ≡ m → (in_turn (if t then newline u else as_they_are u (b ∷ [])) (plain u s) m).1 ≡ m
    by true rest = rest
    by false rest = rest

plain_ends : (u : Place) (s : Bytes) (m n : ℕ) → spans_behind n (plain u s m).0 ≡ []
plain_ends u [] m n = refl
plain_ends u (b ∷ s) m n = by (b == 10) (λ k. plain_ends u s m k)
  where
    by : (t : Bool) → ((k : ℕ) → spans_behind k (plain u s m).0 ≡ []) → spans_behind n (in_turn (if t then newline u else as_they_are u (b ∷ [])) (plain u s) m).0 ≡ []
    by true h = none_append (newline u m).0 (plain u s m).0 (λ k. no_ends u (10 ∷ replicate m 32) k) h n
    by false h = none_append (as_they_are u (b ∷ []) m).0 (plain u s m).0 (λ k. no_ends u (b ∷ []) k) h n

pub on_ok : {A E : Type 0} (r : Result A E) (P Q : Type 0) → (P → Q) → OnOk r P → OnOk r Q
on_ok (Ok x) P Q f p = f p
on_ok (Err e) P Q f p = tt

module _ (at : Place → NodeId) where
  -- the same, said otherwise
  pub wrote_as : (old new : Writer) (f g : Writing) → ((m : ℕ) → f m ≡ g m) → Wrote at old new f → Wrote at old new g
  wrote_as old new f g e w = record {
    behind = λ marks m h. subst (λ (p : List Mark × ℕ). HoldsMarks at new (marks ++ p.0) p.1) (e m) (w.behind marks m h);
  }

  pub wrote_nothing : (w : Writer) → Wrote at w w nothing
  wrote_nothing w = record { behind = λ marks m h. subst (λ xs. HoldsMarks at w xs m) (sym (append-nil marks)) h }

  pub wrote_turn : (old mid new : Writer) (f g : Writing) → Wrote at old mid f → Wrote at mid new g → Wrote at old new (in_turn f g)
  wrote_turn old mid new f g v w = record {
    behind = λ marks m h. subst (λ xs. HoldsMarks at new xs (g (f m).1).1) (append_assoc marks (f m).0 (g (f m).1).0) (w.behind (marks ++ (f m).0) (f m).1 (v.behind marks m h));
  }

  -- bytes
  pub more_bytes : (old mid new : Writer) (u : Place) (s t : Bytes) → Wrote at old mid (as_they_are u s) → Wrote at mid new (as_they_are u t) → Wrote at old new (as_they_are u (s ++ t))
  more_bytes old mid new u s t v w =
      wrote_as old new (in_turn (as_they_are u s) (as_they_are u t)) (as_they_are u (s ++ t))
      (λ m. ap (λ xs. (xs, m)) (sym (map-append (λ c. Writes c u) s t))) (wrote_turn old mid new (as_they_are u s) (as_they_are u t) v w)

  pub cut_bytes : (w : Writer) (u : Place) (s : Bytes) → w.more ≡ true → Wrote at w w (as_they_are u s)
  cut_bytes w u s e = record { behind = λ marks m h. cut_more at w marks (map (λ b. Writes b u) s) m h (no_ends u s) e }

  -- a newline with its margin
  pub blanks_written : (old new : Writer) (u : Place) (count : ℕ) → count ≡ min old.margin ((1048576 - length old.text.items) + 1) → Wrote at old new (as_they_are u (replicate count 32)) → Wrote at old new (blanks_of u)
  blanks_written old new u count e w = record { behind = λ marks m h. by marks m h (cases_lt count m) }
    where
      by : (marks : List Mark) (m : ℕ) → HoldsMarks at old marks m → ((count < m) ⊎ (m ≤ count)) → HoldsMarks at new (marks ++ (blanks_of u m).0) m
      by marks m h (inr l) =
          let margin = h.margin in
          let same : count ≡ m = omega (arith, e, margin, l) in
          subst (λ k. HoldsMarks at new (marks ++ map (λ b. Writes b u) (replicate k 32)) m) same (w.behind marks m h)
      by marks m h (inl l) =
          let margin = h.margin in
          let size = kept_length at old marks m h in
          let done = w.behind marks m h in
          let first = map (λ b. Writes b u) (replicate count 32) in
          let rest = map (λ b. Writes b u) (replicate (m - count) 32) in
          let cells = ap length (all_cells-append marks first) ∙ length-append (all_cells marks) (all_cells first) in
          let some = as_cells u (replicate count 32) in
          let long = length-replicate {A = ℕ} count 32 in
          let over : 1048576 < length (all_cells (marks ++ first)) = omega (arith, e, margin, l, size, cells, some, long) in
          let sum : count + (m - count) ≡ m = omega (arith, l) in
          subst (λ xs. HoldsMarks at new xs m)
          (append_assoc marks first rest ∙ ap (λ xs. marks ++ xs) (sym (map-append (λ b. Writes b u) (replicate count 32) (replicate (m - count) 32)) ∙ ap (map (λ b. Writes b u)) (replicate-append-replicate count (m - count) 32 ∙ ap (λ k. replicate k 32) sum)))
          (cut_more at new (marks ++ first) rest m done (no_ends u (replicate (m - count) 32)) (done.more ∙ lt-ltb 1048576 (length (all_cells (marks ++ first))) over))

  pub newline_written : (old mid new : Writer) (u : Place) → Wrote at old mid (as_they_are u (10 ∷ [])) → Wrote at mid new (blanks_of u) → Wrote at old new (newline u)
  newline_written old mid new u v w = wrote_as old new (in_turn (as_they_are u (10 ∷ [])) (blanks_of u)) (newline u) (λ m. refl) (wrote_turn old mid new (as_they_are u (10 ∷ [])) (blanks_of u) v w)

  pub newline_flat : (old mid : Writer) (u : Place) → mid.margin ≡ 0 → Wrote at old mid (as_they_are u (10 ∷ [])) → Wrote at old mid (newline u)
  newline_flat old mid u none v = newline_written old mid mid u v (blanks_written mid mid u 0 (omega (arith, none)) (wrote_as mid mid nothing (as_they_are u (replicate 0 32)) (λ m. refl) (wrote_nothing mid)))

  -- a text
  pub plain_newline : (old new : Writer) (u : Place) (b : ℕ) → b ≡ 10 → Wrote at old new (newline u) → Wrote at old new (plain u (b ∷ []))
  plain_newline old new u b e w = wrote_as old new (newline u) (plain u (b ∷ [])) (λ m. ap (λ xs. (xs, m)) (sym (append-nil (newline u m).0)) ∙ ap (λ (t : Bool). in_turn (if t then newline u else as_they_are u (b ∷ [])) nothing m) (sym (eq-eqb b 10 e))) w

  pub plain_other : (old new : Writer) (u : Place) (b : ℕ) → (b ≡ 10 → ⊥) → Wrote at old new (as_they_are u (b ∷ [])) → Wrote at old new (plain u (b ∷ []))
  plain_other old new u b n w = wrote_as old new (as_they_are u (b ∷ [])) (plain u (b ∷ [])) (λ m. ap (λ (t : Bool). in_turn (if t then newline u else as_they_are u (b ∷ [])) nothing m) (sym (ne_eqb b 10 n))) w

  -- where no byte is 10, a text is written as it is
  flat : (u : Place) (s : Bytes) → list_any (λ b. b == 10) s ≡ false → (m : ℕ) → as_they_are u s m ≡ plain u s m
  flat u [] e m = refl
  flat u (b ∷ s) e m = by (b == 10) e (λ r. flat u s r m)
    where
      by : (t : Bool) → (t || list_any (λ b. b == 10) s) ≡ false → (list_any (λ c. c == 10) s ≡ false → as_they_are u s m ≡ plain u s m) → as_they_are u (b ∷ s) m ≡ in_turn (if t then newline u else as_they_are u (b ∷ [])) (plain u s) m
      by true e rest = absurd (true≢false e)
      by false e rest = ap (λ (p : List Mark × ℕ). (Writes b u ∷ p.0, p.1)) (rest e)

  pub plain_flat : (old new : Writer) (u : Place) (s : Bytes) → list_any (λ b. b == 10) s ≡ false → Wrote at old new (as_they_are u s) → Wrote at old new (plain u s)
  plain_flat old new u s e w = wrote_as old new (as_they_are u s) (plain u s) (flat u s e) w

  pub more_plain : (old mid new : Writer) (u : Place) (s : Bytes) (b : ℕ) → Wrote at old mid (plain u s) → Wrote at mid new (plain u (b ∷ [])) → Wrote at old new (plain u (s ++ b ∷ []))
  more_plain old mid new u s b v w = wrote_as old new (in_turn (plain u s) (plain u (b ∷ []))) (plain u (s ++ b ∷ [])) (λ m. joined s m) (wrote_turn old mid new (plain u s) (plain u (b ∷ [])) v w)
    where
      step : (f g h : Writing) (m : ℕ) → in_turn (in_turn f g) h m ≡ in_turn f (in_turn g h) m
      step f g h m = ap (λ xs. (xs, (h (g (f m).1).1).1)) (append_assoc (f m).0 (g (f m).1).0 (h (g (f m).1).1).0)

      joined : (s : Bytes) (m : ℕ) → in_turn (plain u s) (plain u (b ∷ [])) m ≡ plain u (s ++ b ∷ []) m
      joined [] m = refl
      joined (c ∷ s) m = step (if c == 10 then newline u else as_they_are u (c ∷ [])) (plain u s) (plain u (b ∷ [])) m ∙ ap (λ (p : List Mark × ℕ). (((if c == 10 then newline u else as_they_are u (c ∷ [])) m).0 ++ p.0, p.1)) (joined s ((if c == 10 then newline u else as_they_are u (c ∷ [])) m).1)

  pub cut_plain : (w : Writer) (u : Place) (s : Bytes) → w.more ≡ true → Wrote at w w (plain u s)
  cut_plain w u s e = record { behind = λ marks m h. subst (λ k. HoldsMarks at w (marks ++ (plain u s m).0) k) (sym (plain_margin u s m)) (cut_more at w marks (plain u s m).0 m h (plain_ends u s m) e) }

  -- the pieces of a string
  pub step_written : (w new : Writer) (u : Place) (back on : ℕ) → new.text.items ≡ w.text.items → new.runs.items ≡ w.runs.items → new.spans.items ≡ w.spans.items → new.more ≡ w.more → new.margin ≡ (w.margin - 2 * back) + 2 * on → Wrote at w new (piece u (Margin back on))
  step_written w new u back on text runs spans more margin = record {
    behind = λ marks m h. subst (λ xs. HoldsMarks at new xs ((m - 2 * back) + 2 * on)) (sym (append-nil marks)) (record {
      kept = subst (λ s. IsWritten s new.runs.items new.spans.items) (sym text) (subst (λ rs. IsWritten w.text.items rs new.spans.items) (sym runs) (subst (IsWritten w.text.items w.runs.items) (sym spans) h.kept));
      cells = ap (λ s. kept_cells s new.runs.items) text ∙ ap (kept_cells w.text.items) runs ∙ h.cells;
      spans = spans ∙ h.spans;
      more = more ∙ h.more;
      margin = margin ∙ ap (λ k. (k - 2 * back) + 2 * on) h.margin;
    });
  }

  pub more_pieces : (old mid new : Writer) (u : Place) (ps : List Piece) (p : Piece) → Wrote at old mid (pieces u ps) → Wrote at mid new (piece u p) → Wrote at old new (pieces u (ps ++ p ∷ []))
  more_pieces old mid new u ps p v w = wrote_as old new (in_turn (pieces u ps) (piece u p)) (pieces u (ps ++ p ∷ [])) (λ m. joined ps m) (wrote_turn old mid new (pieces u ps) (piece u p) v w)
    where
      step : (f g h : Writing) (m : ℕ) → in_turn (in_turn f g) h m ≡ in_turn f (in_turn g h) m
      step f g h m = ap (λ xs. (xs, (h (g (f m).1).1).1)) (append_assoc (f m).0 (g (f m).1).0 (h (g (f m).1).1).0)

      joined : (ps : List Piece) (m : ℕ) → in_turn (pieces u ps) (piece u p) m ≡ pieces u (ps ++ p ∷ []) m
      joined [] m = ap (λ xs. (xs, (piece u p m).1)) (sym (append-nil (piece u p m).0))
      joined (q ∷ ps) m = step (piece u q) (pieces u ps) (piece u p) m ∙ ap (λ (r : List Mark × ℕ). ((piece u q m).0 ++ r.0, r.1)) (joined ps (piece u q m).1)

  -- the end of a node
  pub closed_written : (before old new : Writer) (u : Place) (n : NodeId) (from to : ℕ) (f : Writing) → at u ≡ n → from ≡ min (length before.text.items) 1048576 → to ≡ min (length old.text.items) 1048576
      → new.text.items ≡ old.text.items → new.runs.items ≡ old.runs.items → new.spans.items ≡ old.spans.items ++ record { node = n; from = from; to = to } ∷ [] → new.more ≡ old.more → new.margin ≡ old.margin → Wrote at before old f → Wrote at before new (ended u f)
  closed_written before old new u n from to f is low high text runs spans more margin w = record {
    behind = λ marks m h.
        let done = w.behind marks m h in
        let xs = (f m).0 in
        let count = cells_in xs in
        let end = Closed u count ∷ [] in
        let size = kept_length at before marks m h in
        let all = kept_length at old (marks ++ xs) (f m).1 done in
        let a = length-all_cells marks in
        let b = length-all_cells (marks ++ xs) ∙ cells_in-append marks xs in
        let same : all_cells (marks ++ xs ++ end) ≡ all_cells (marks ++ xs) = all_cells-append (marks ++ xs) end ∙ append-nil (all_cells (marks ++ xs)) in
        let span : SpanOf = record { node = u; from = (0 + cells_in (marks ++ xs)) - count; to = 0 + cells_in (marks ++ xs) } in
        let c = cells_in-append marks xs in
        let from_is : min span.from 1048576 ≡ from = omega (arith, low, size, a, c) in
        let to_is : min span.to 1048576 ≡ to = omega (arith, high, all, b, c) in
        let some : from ≤ to = omega (arith, low, high, size, all, a, b, c) in
        let within : to ≤ length old.text.items = omega (arith, high) in
        subst (λ ys. HoldsMarks at new ys (f m).1) (append_assoc marks xs end) (record {
          kept = kept_is (record {
            small = done.kept.small;
            begins = done.kept.begins;
            rising = done.kept.rising;
            within = done.kept.within;
            ends = All-push (λ (s : Span). (s.from ≤ s.to) × (s.to ≤ length old.text.items)) old.spans.items (record { node = n; from = from; to = to }) done.kept.ends (some, within);
          });
          cells = ap (λ s. kept_cells s new.runs.items) text ∙ ap (kept_cells old.text.items) runs ∙ done.cells ∙ ap (λ cs. map (by_node at) (take 1048576 cs)) (sym same);
          spans = spans ∙ ap (λ ss. ss ++ record { node = n; from = from; to = to } ∷ []) done.spans
              ∙ ap (λ (s : Span). map (on_page at 1048576) (spans_behind 0 (marks ++ xs)) ++ s ∷ []) (sym (span_is from to (on_page at 1048576 span) is from_is to_is))
              ∙ sym (map-append (on_page at 1048576) (spans_behind 0 (marks ++ xs)) (span ∷ []))
              ∙ ap (map (on_page at 1048576)) (sym (spans_behind-append 0 (marks ++ xs) end));
          more = more ∙ done.more ∙ ap (λ cs. nat_lt 1048576 (length cs)) (sym same);
          margin = margin ∙ done.margin;
        });
  }
    where
      kept_is : IsWritten old.text.items old.runs.items (old.spans.items ++ record { node = n; from = from; to = to } ∷ []) → IsWritten new.text.items new.runs.items new.spans.items
      kept_is k = subst (λ s. IsWritten s new.runs.items new.spans.items) (sym text) (subst (λ rs. IsWritten old.text.items rs new.spans.items) (sym runs) (subst (IsWritten old.text.items old.runs.items) (sym spans) k))

      span_is : (a b : ℕ) (s : Span) → s.node ≡ n → s.from ≡ a → s.to ≡ b → s ≡ record { node = n; from = a; to = b }
      span_is a b s e f g = ap (λ x. record { node = x; from = s.from; to = s.to }) e ∙ ap (λ x. record { node = n; from = x; to = s.to }) f ∙ ap (λ x. record { node = n; from = a; to = x }) g

  -- loops over bytes, pieces and blanks: nothing yet, one more, all
  pub bytes_begun : (w : Writer) (u : Place) (s : Bytes) → Wrote at w w (as_they_are u (take 0 s))
  bytes_begun w u s = wrote_as w w nothing (as_they_are u (take 0 s)) (λ m. refl) (wrote_nothing w)

  pub bytes_more : (old mid new : Writer) (u : Place) (s : Bytes) (i : ℕ) → i < length s → Wrote at old mid (as_they_are u (take i s)) → Wrote at mid new (as_they_are u (get_or s i 0 ∷ [])) → Wrote at old new (as_they_are u (take (i + 1) s))
  bytes_more old mid new u s i h v w = subst (λ t. Wrote at old new (as_they_are u t)) (sym (ap (λ k. take k s) (add-one i) ∙ take-suc s i 0 h)) (more_bytes old mid new u (take i s) (get_or s i 0 ∷ []) v w)

  pub bytes_done : (old new : Writer) (u : Place) (s : Bytes) (i : ℕ) → length s ≤ i → Wrote at old new (as_they_are u (take i s)) → Wrote at old new (as_they_are u s)
  bytes_done old new u s i h w = subst (λ t. Wrote at old new (as_they_are u t)) (take_all i s h) w

  pub plain_begun : (w : Writer) (u : Place) (s : Bytes) → Wrote at w w (plain u (take 0 s))
  plain_begun w u s = wrote_as w w nothing (plain u (take 0 s)) (λ m. refl) (wrote_nothing w)

  pub plain_more : (old mid new : Writer) (u : Place) (s : Bytes) (i : ℕ) → i < length s → Wrote at old mid (plain u (take i s)) → Wrote at mid new (plain u (get_or s i 0 ∷ [])) → Wrote at old new (plain u (take (i + 1) s))
  plain_more old mid new u s i h v w = subst (λ t. Wrote at old new (plain u t)) (sym (ap (λ k. take k s) (add-one i) ∙ take-suc s i 0 h)) (more_plain old mid new u (take i s) (get_or s i 0) v w)

  pub plain_done : (old new : Writer) (u : Place) (s : Bytes) (i : ℕ) → length s ≤ i → Wrote at old new (plain u (take i s)) → Wrote at old new (plain u s)
  plain_done old new u s i h w = subst (λ t. Wrote at old new (plain u t)) (take_all i s h) w

  pub pieces_begun : (w : Writer) (u : Place) (ps : List Piece) → Wrote at w w (pieces u (take 0 ps))
  pieces_begun w u ps = wrote_as w w nothing (pieces u (take 0 ps)) (λ m. refl) (wrote_nothing w)

  pub pieces_more : (old mid new : Writer) (u : Place) (ps : List Piece) (i : ℕ) (p : Piece) → i < length ps → p ≡ get_or ps i p → Wrote at old mid (pieces u (take i ps)) → Wrote at mid new (piece u p) → Wrote at old new (pieces u (take (i + 1) ps))
  pieces_more old mid new u ps i p h e v w = subst (λ t. Wrote at old new (pieces u t)) (sym (ap (λ k. take k ps) (add-one i) ∙ take-suc ps i p h ∙ ap (λ q. take i ps ++ q ∷ []) (sym e))) (more_pieces old mid new u (take i ps) p v w)

  pub pieces_done : (old new : Writer) (u : Place) (ps : List Piece) (i : ℕ) → length ps ≤ i → Wrote at old new (pieces u (take i ps)) → Wrote at old new (pieces u ps)
  pieces_done old new u ps i h w = subst (λ t. Wrote at old new (pieces u t)) (take_all i ps h) w

  pub blanks_begun : (w : Writer) (u : Place) → Wrote at w w (as_they_are u (replicate 0 32))
  blanks_begun w u = wrote_as w w nothing (as_they_are u (replicate 0 32)) (λ m. refl) (wrote_nothing w)

  pub blanks_more : (old mid new : Writer) (u : Place) (i k : ℕ) (t : Bytes) → t ≡ replicate k 32 → Wrote at old mid (as_they_are u (replicate i 32)) → Wrote at mid new (as_they_are u t) → Wrote at old new (as_they_are u (replicate (i + k) 32))
  blanks_more old mid new u i k t e v w = subst (λ s. Wrote at old new (as_they_are u s)) (ap (λ s. replicate i 32 ++ s) e ∙ replicate-append-replicate i k 32) (more_bytes old mid new u (replicate i 32) t v w)

  pub blanks_all : (old new : Writer) (u : Place) (count i : ℕ) → count ≡ min old.margin ((1048576 - length old.text.items) + 1) → i ≤ count → count ≤ i → Wrote at old new (as_they_are u (replicate i 32)) → Wrote at old new (blanks_of u)
  blanks_all old new u count i e h l w = (let same : i ≡ count = omega (arith, h, l) in blanks_written old new u count e (subst (λ k. Wrote at old new (as_they_are u (replicate k 32))) same w))
