-- What is kept of a page tells its cells.
use Rattle.std.specs.Prelude.{◌≡◌, refl, ℕ, zero, suc, ◌+◌, ◌-◌, ◌<◌, ◌≤◌, Bool, true, nat_lt, ◌&&◌, ◌==◌, List, [], ◌∷◌, ◌++◌, length, take, drop, slice_get, find, Option, Some, None, if◌then◌else◌, false, cond, ◌⊎◌, unwrap_or}
use Rattle.std.specs.List.{range_with_len, slice_split, All}
use Rattle.std.specs.List.Sorted.{IsPartitionPoint}
use Rattle.std.proofs.Common.{sym, ap, ◌∙◌, subst, arith, get_or, inl, inr, add-one, leb, leb-true, leb-false}
use Rattle.std.proofs.lemmas.Bool.{and_parts, and_from, ltb-true, lt-ltb, eqb-true, eq-eqb, cases_lt}
use Rattle.std.proofs.lemmas.Option.{slice_get_past}
use Rattle.std.proofs.lemmas.List.{drop-take, get_or_default}
use Rattle.std.proofs.lemmas.List.Splits.{length-slice_split}
use Rattle.sg_kinds.specs.Values.{Bytes}
use Rattle.sg_forest.specs.declared.node_id.NodeId.{NodeId}
use Rattle.sg_unparse.specs.Page.{bytes_of, lines_of, is_newline, position_at, stands_at}
use Rattle.sg_unparse.specs.Sheet.{is_of, Sheet, IsKept, kept_cells, starts_from, owner_in, no_node, line_on}
use Rattle.sg_unparse.specs.declared.page.Span.{Span}
use Rattle.sg_unparse.specs.declared.page.Run.{Run}
use Rattle.sg_unparse.proofs.Lines.{stops_from, stop_is, stop_there, stop_at_most, stops_later, line_there, passed, passed_is, passed_within, passed_next, begun, newlines_before, cells_since, starts_counted, rising, after_within, after_last, after_begun, after_at_most, found_none, found_one}
use Rattle.sg_unparse.proofs.Runs.{bytes_kept, cells_counted}

-- the cells of a page have these bytes, and its lines begin here
pub record IsText (cells : List (ℕ × NodeId)) (text : Bytes) (starts : List ℕ) : Type 0 where
  pub bytes : bytes_of cells ≡ text
  pub count : length cells ≡ length text
  pub lines : starts ≡ starts_from 0 text

pub text_of : (text : Bytes) (runs : List Run) (starts : List ℕ) (spans : List Span) (more : Bool) (p : Sheet) → record { cells = kept_cells text runs; spans = spans; more = more } ≡ p → IsKept text runs starts spans → IsText p.cells text starts
text_of text runs starts spans more p is kept =
    let e : kept_cells text runs ≡ p.cells = ap (λ (q : Sheet). q.cells) is in
    record {
      bytes = ap bytes_of (sym e) ∙ bytes_kept 0 (owner_in no_node runs) text;
      count = ap length (sym e) ∙ cells_counted 0 (owner_in no_node runs) text;
      lines = kept.lines;
    }

-- the parts of a position
pub line_told : (cells : List (ℕ × NodeId)) (text : Bytes) (starts : List ℕ) → IsText cells text starts → (k : ℕ) → (position_at cells k).line ≡ suc (passed k starts)
line_told cells text starts t k =
    let e : 0 + k ≡ k = omega arith in
    let count = newlines_before 0 k (bytes_of cells) ∙ ap (λ i. passed i (starts_from 0 (bytes_of cells))) e ∙ ap (λ s. passed k (starts_from 0 s)) t.bytes ∙ ap (passed k) (sym t.lines) in
    omega (arith, count)

pub column_told : (cells : List (ℕ × NodeId)) (text : Bytes) (starts : List ℕ) → IsText cells text starts → (k : ℕ) → k ≤ length cells → (position_at cells k).column ≡ suc (k - get_or (0 ∷ starts) (passed k starts) 0)
column_told cells text starts t k h =
    let within : k ≤ length (bytes_of cells) = let c = t.count in let b = ap length t.bytes in omega (arith, h, c, b) in
    let count = cells_since (bytes_of cells) k within
    ∙ ap (λ s. k - get_or (0 ∷ starts_from 0 s) (passed k (starts_from 0 s)) 0) t.bytes
    ∙ ap (λ xs. k - get_or (0 ∷ xs) (passed k xs) 0) (sym t.lines) in
    omega (arith, count)

pub lines_counted : (cells : List (ℕ × NodeId)) (text : Bytes) (starts : List ℕ) → IsText cells text starts → length (lines_of cells) ≡ length starts + 1
lines_counted cells text starts t =
    let split = length-slice_split is_newline (bytes_of cells) in
    let count = starts_counted 0 (bytes_of cells) in
    let bytes = ap (λ s. length (starts_from 0 s)) t.bytes in
    let same = ap length t.lines in
    omega (arith, split, count, bytes, same)

-- a line that is not there, and one that is
pub no_line : (p : Sheet) (k : ℕ) → ((k ≡ 0) ⊎ (length (lines_of p.cells) < k)) → line_on p k ≡ None
no_line p zero h = refl
no_line p (suc k) (inl e) = absurd (omega (arith, e))
no_line p (suc k) (inr l) = slice_get_past (lines_of p.cells) k (omega (arith, l))

pub line_here : (p : Sheet) (text : Bytes) (k : ℕ) → bytes_of p.cells ≡ text → 1 ≤ k → line_on p k ≡ slice_get (slice_split is_newline text) (k - 1)
line_here p text zero e h = absurd (omega (arith, h))
line_here p text (suc k) e h = (let same : k ≡ suc k - 1 = omega arith in ap (slice_get (lines_of p.cells)) same ∙ ap (λ s. slice_get (slice_split is_newline s) (suc k - 1)) e)

-- the bytes of a line
pub record IsLine (text : Bytes) (k from after : ℕ) : Type 0 where
  pub some : 1 ≤ after
  pub within : after - 1 ≤ length text
  pub in_order : from ≤ after - 1
  pub line : slice_get (slice_split is_newline text) k ≡ Some (drop from (take (after - 1) text))

part_is : (text : Bytes) (from to : ℕ) → from ≤ to → drop from (take to text) ≡ take (to - from) (drop from text)
part_is text from to h = (let e : to ≡ from + (to - from) = omega (arith, h) in ap (λ k. drop from (take k text)) e ∙ drop-take from (to - from) text)

pub line_is : (text : Bytes) (starts : List ℕ) (k from after : ℕ) → starts ≡ starts_from 0 text → k ≤ length starts → from ≡ get_or (0 ∷ starts) k 0 → after ≡ get_or (starts ++ (length text + 1) ∷ []) k 0 → IsLine text k from after
line_is text starts k from after e h f a = subst (λ xs. k ≤ length xs → from ≡ get_or (0 ∷ xs) k 0 → after ≡ get_or (xs ++ (length text + 1) ∷ []) k 0 → IsLine text k from after) (sym e) by h f a
  where
    by : k ≤ length (starts_from 0 text) → from ≡ get_or (0 ∷ starts_from 0 text) k 0 → after ≡ get_or (starts_from 0 text ++ (length text + 1) ∷ []) k 0 → IsLine text k from after
    by h f a =
        let xs = starts_from 0 text in
        let b : after ≡ get_or (xs ++ suc (length text) ∷ []) k 0 = a ∙ ap (λ n. get_or (xs ++ n ∷ []) k 0) (add-one (length text)) in
        let is = stop_is text k h in
        let there = stop_there text k h in
        let most = stop_at_most text k h in
        let low = stops_later 0 text k h in
        let stop : after - 1 ≡ get_or (stops_from 0 text) k 0 = omega (arith, b, is) in
        let begin : from ≡ get_or (0 ∷ xs) k 0 - 0 = omega (arith, f) in
        let order : from ≤ after - 1 = omega (arith, stop, f, low) in
        record {
          some = omega (arith, b, there);
          within = omega (arith, stop, most);
          in_order = order;
          line = line_there 0 text k h
              ∙ ap (λ i. Some (take (get_or (stops_from 0 text) k 0 - get_or (0 ∷ xs) k 0) (drop i text))) (sym begin)
              ∙ ap (λ i. Some (take (get_or (stops_from 0 text) k 0 - i) (drop from text))) (sym f)
              ∙ ap (λ i. Some (take (i - from) (drop from text))) (sym stop)
              ∙ ap Some (sym (part_is text from (after - 1) order));
        }

-- what passes up to a point has passed
pub point_passed : (xs ys : List ℕ) (k p : ℕ) → xs ≡ ys → p ≤ length xs → IsPartitionPoint (λ y. leb y k ≡ true) (λ y. leb y k ≡ false) xs p → passed k ys ≡ p
point_passed xs ys k p e h point = subst (λ zs. passed k zs ≡ p) e (passed_is k xs p h (λ i d l. leb-true (get_or xs i d) k (point.0 i d (omega arith) l)) (λ i d l m. leb-false (get_or xs i d) k (point.1 i d l m)))

-- spans are found among those that are there
pub found_has : (P : Span → Type 0) (p : Span → Bool) (xs : List Span) (x : Span) → All P xs → find p xs ≡ Some x → P x
found_has P p [] x all e = absurd (let IsNone : Option Span → Type 0 = λ o. elim o [ None ↦ Unit {0} | Some y ↦ ⊥ ] in subst IsNone e tt)
found_has P p (y ∷ xs) x all e = by (p y) e (λ f. found_has P p xs x (λ i d l. all (suc i) d (omega (arith, l))) f)
  where
    by : (t : Bool) → cond t (Some y) (find p xs) ≡ Some x → (find p xs ≡ Some x → P x) → P x
    by true e f = (let same : y ≡ x = ap (λ o. unwrap_or o x) e in subst P same (all 0 y (omega arith)))
    by false e f = f e

-- a span of a kept page
pub span_kept : (text : Bytes) (runs : List Run) (starts : List ℕ) (spans : List Span) (more : Bool) (p : Sheet) → record { cells = kept_cells text runs; spans = spans; more = more } ≡ p → IsKept text runs starts spans
    → (n : NodeId) (seen : List Span) (s : Span) → seen ≡ spans → Some s ≡ find (is_of n) seen → (s.from ≤ s.to) × (s.to ≤ length p.cells)
span_kept text runs starts spans more p is kept n seen s same found =
    let t = text_of text runs starts spans more p is kept in
    let ends = found_has (λ (s : Span). (s.from ≤ s.to) × (s.to ≤ length text)) (is_of n) spans s kept.written.ends (ap (find (is_of n)) (sym same) ∙ sym found) in
    (ends.0, omega (arith, ends.1, t.count))

pub last_within : (from to n : ℕ) → from ≤ to → to ≤ n → (if nat_lt from to then to - 1 else from) ≤ n
last_within from to n h l = by (nat_lt from to)
  where
    by : (t : Bool) → (if t then to - 1 else from) ≤ n
    by true = omega (arith, l)
    by false = omega (arith, h, l)

-- a line and a column, from 1, and the numbers of the cells in the line
module _ (cells : List (ℕ × NodeId)) (text : Bytes) (starts : List ℕ) (t : IsText cells text starts) (line col : ℕ) where
  abbrev first : ℕ
  first = get_or (0 ∷ starts) (line - 1) 0

  abbrev behind : ℕ
  behind = get_or (starts ++ length text ∷ []) (line - 1) 0

  pub record Stood (k : ℕ) : Type 0 where
    pub line_from : 1 ≤ line
    pub line_to : line ≤ suc (length starts)
    pub col_from : 1 ≤ col
    pub col_to : col ≤ behind - first
    pub is : k ≡ first + (col - 1)

  before_behind : (k j : ℕ) → k < length text → passed k starts ≡ j → k < get_or (starts ++ length text ∷ []) j 0
  before_behind k j h e = elim (cases_lt j (length starts)) [
    | inl l ↦ (let g = passed_next k starts 0 (omega (arith, e, l)) in let at = ap (λ i. get_or starts i 0) e in let same = after_within starts (length text) j l in omega (arith, g, at, same))
    | inr l ↦ (let w = passed_within k starts in let all : j ≡ length starts = omega (arith, w, e, l) in let same = ap (λ i. get_or (starts ++ length text ∷ []) i 0) all ∙ after_last starts (length text) in omega (arith, h, same))
  ]

  pub stood : (k : ℕ) → stands_at cells line col k ≡ true → Stood k
  stood k e =
      let ab = and_parts (nat_lt k (length cells) && ((position_at cells k).line == line)) ((position_at cells k).column == col) e in
      let aa = and_parts (nat_lt k (length cells)) ((position_at cells k).line == line) ab.0 in
      let there = ltb-true k (length cells) aa.0 in
      let at_line = eqb-true (position_at cells k).line line aa.1 in
      let at_col = eqb-true (position_at cells k).column col ab.1 in
      let l = line_told cells text starts t k in
      let c = column_told cells text starts t k (omega (arith, there)) in
      let count = t.count in
      let j : passed k starts ≡ line - 1 = omega (arith, l, at_line) in
      let from : get_or (0 ∷ starts) (passed k starts) 0 ≡ first = ap (λ i. get_or (0 ∷ starts) i 0) j in
      let low = begun k starts in
      let high = before_behind k (line - 1) (omega (arith, there, count)) j in
      let w = passed_within k starts in
      record {
        line_from = omega (arith, l, at_line);
        line_to = omega (arith, w, l, at_line);
        col_from = omega (arith, c, at_col);
        col_to = omega (arith, from, low, high, c, at_col);
        is = omega (arith, from, low, c, at_col);
      }

  pub none_stands : (1 ≤ line → line ≤ suc (length starts) → 1 ≤ col → col ≤ behind - first → ⊥) → find (stands_at cells line col) (range_with_len 0 (length cells)) ≡ None
  none_stands out = found_none (stands_at cells line col) 0 (length cells) (λ k e. (let s = stood k e in out s.line_from s.line_to s.col_from s.col_to))

  -- the numbers of a line's cells
  pub begins : line ≤ suc (length starts) → 1 ≤ line → first ≤ behind
  begins h l = (let e = t.lines in subst (λ xs. line ≤ suc (length xs) → get_or (0 ∷ xs) (line - 1) 0 ≤ get_or (xs ++ length text ∷ []) (line - 1) 0) (sym e) (λ g. after_begun text (length text) (line - 1) (omega arith) (omega (arith, g))) h)

  pub ends : line ≤ suc (length starts) → 1 ≤ line → behind ≤ length text
  ends h l = (let e = t.lines in subst (λ xs. line ≤ suc (length xs) → get_or (xs ++ length text ∷ []) (line - 1) 0 ≤ length text) (sym e) (λ g. after_at_most text (line - 1) (omega (arith, g))) h)

  rises : (i j d : ℕ) → i < j → j < length starts → get_or starts i d < get_or starts j d
  rises i j d l h = (let e = t.lines in subst (λ xs. j < length xs → get_or xs i d < get_or xs j d) (sym e) (λ g. rising 0 text i j d l g) h)

  -- the lines before begin at most there, and those behind it later
  passed_here : 1 ≤ line → line ≤ suc (length starts) → (k : ℕ) → first ≤ k → k < behind → passed k starts ≡ line - 1
  passed_here l h k low high = passed_is k starts (line - 1) (omega (arith, h)) (λ i d m. lower (line - 1) i d m low (omega (arith, h))) (λ i d m n. upper (line - 1) i d m n high)
    where
      lower : (p i d : ℕ) → i < p → get_or (0 ∷ starts) p 0 ≤ k → p ≤ length starts → get_or starts i d ≤ k
      lower zero i d m g w = absurd (omega (arith, m))
      lower (suc p) i d m g w = elim (cases_lt i p) [
        | inl n ↦ (let r = rises i p d n (omega (arith, w)) in let s = get_or_default starts p d 0 (omega (arith, w)) in omega (arith, r, s, g))
        | inr n ↦ (let e : i ≡ p = omega (arith, m, n) in let s = ap (λ j. get_or starts j d) e ∙ get_or_default starts p d 0 (omega (arith, w)) in omega (arith, s, g))
      ]

      upper : (p i d : ℕ) → p ≤ i → i < length starts → k < get_or (starts ++ length text ∷ []) p 0 → k < get_or starts i d
      upper p i d m n g =
          let a = after_within starts (length text) p (omega (arith, m, n)) in
          elim (cases_lt p i) [
            | inl q ↦ (let r = rises p i 0 q n in let s = get_or_default starts i 0 d n in omega (arith, a, r, s, g))
            | inr q ↦ (let e : i ≡ p = omega (arith, m, q) in let s = ap (λ j. get_or starts j 0) e in let u = get_or_default starts i 0 d n in omega (arith, a, s, u, g))
          ]

  pub one_stands : 1 ≤ line → line ≤ suc (length starts) → 1 ≤ col → col ≤ behind - first → find (stands_at cells line col) (range_with_len 0 (length cells)) ≡ Some (first + (col - 1))
  one_stands l h m n =
      let k = first + (col - 1) in
      let b = begins h l in
      let e = ends h l in
      let count = t.count in
      let there : k < length cells = omega (arith, b, e, m, n, count) in
      let j = passed_here l h k (omega arith) (omega (arith, b, m, n)) in
      let at_line = line_told cells text starts t k in
      let at_col = column_told cells text starts t k (omega (arith, there)) in
      let from : get_or (0 ∷ starts) (passed k starts) 0 ≡ first = ap (λ i. get_or (0 ∷ starts) i 0) j in
      found_one (stands_at cells line col) 0 (length cells) k (omega arith) (omega (arith, there))
      (and_from (nat_lt k (length cells) && ((position_at cells k).line == line)) ((position_at cells k).column == col)
      (and_from (nat_lt k (length cells)) ((position_at cells k).line == line) (lt-ltb k (length cells) there) (eq-eqb (position_at cells k).line line (omega (arith, at_line, j, l))))
      (eq-eqb (position_at cells k).column col (omega (arith, at_col, from, m))))
      (λ i e. (stood i e).is)

-- a number that is found among numbers in order is one of them
pub found_within : (p : ℕ → Bool) (a n k : ℕ) → find p (range_with_len a n) ≡ Some k → k < a + n
found_within p a zero k e = absurd (let IsNone : Option ℕ → Type 0 = λ o. elim o [ None ↦ Unit {0} | Some y ↦ ⊥ ] in subst IsNone e tt)
found_within p a (suc n) k e = by (p a) e (λ f. (let g = found_within p (a + 1) n k f in omega (arith, g)))
  where
    by : (t : Bool) → cond t (Some a) (find p (range_with_len (a + 1) n)) ≡ Some k → (find p (range_with_len (a + 1) n) ≡ Some k → k < a + suc n) → k < a + suc n
    by true e f = (let same : a ≡ k = ap (λ o. unwrap_or o k) e in omega (arith, same))
    by false e f = f e
