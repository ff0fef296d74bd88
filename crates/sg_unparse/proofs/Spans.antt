-- A node's span has the cells of the node and of those below it, and no others.
use Rattle.std.specs.Prelude.{◌≡◌, ◌⊎◌, refl, ℕ, suc, ◌+◌, ◌-◌, ◌<◌, Bool, true, false, cond, bytes_eq, ◌||◌, min, List, [], ◌∷◌, ◌++◌, length, take, drop, find, Option, Some, None, is_some, option_map, unwrap_or, ⊤}
use Rattle.std.specs.List.{AllByRecursion, list_any}
use Rattle.std.proofs.Common.{sym, ap, ◌∙◌, subst, inl, inr, arith, append_assoc}
use Rattle.std.proofs.lemmas.Bool.{false≢true}
use Rattle.std.proofs.lemmas.List.{length-append}
use Rattle.std.proofs.Math.Seq.{take-append_seam, drop-append_seam, drop-append-add}
use Rattle.sg_kinds.specs.Values.{Bytes, Value}
use Rattle.sg_kinds.specs.Terms.{Term, Terms, Leaf, Node, NoTerm, AndTerm}
use Rattle.sg_kinds.specs.Places.{Place}
use Rattle.sg_kinds.specs.Nets.{Reference}
use Rattle.sg_kinds.specs.declared.spec.Spec.{Spec}
use Rattle.sg_kinds.specs.declared.spec.Item.{Item}
use Rattle.sg_kinds.specs.declared.spec.Item.TheVariants.{Writes as WritesPieces, Child, Shows, Separates}
use Rattle.sg_kinds.specs.declared.marks.ChildPlace.{ChildPlace}
use Rattle.sg_kinds.specs.declared.marks.ChildPlace.TheVariants.{Resting, Passed, Hidden}
use Rattle.sg_kinds.proofs.Elementary.{bytes_is, bytes_itself}
use Rattle.sg_groves.specs.Evaluated.{IsAtOrBelow}
use Rattle.sg_groves.proofs.Below.{below_itself, below_by_child, below_or_not}
use Rattle.sg_unparse.specs.Cells.{Mark, Writes, Closed, Writing, nothing, in_turn, plain, pieces, cells_in, ended, placed, goes_on, items_of, shows, items, content, unparsed, unparsed_among}
use Rattle.sg_unparse.specs.Printing.{value_text}
use Rattle.sg_unparse.specs.Page.{Cell, Span, Region, all_cells, cells_of, spans_behind, span_of, region_in, region_of}
use Rattle.sg_unparse.specs.Owned.{place_of_mark, AreOwned, IsSpanOf}
use Rattle.sg_unparse.specs.Unparsed.{ends_of, unparsed_places}
use Rattle.sg_unparse.proofs.Ends.{unparsed_ends}
use Rattle.sg_unparse.proofs.Streams.{all_cells-append, length-all_cells, spans_behind-append}
use Rattle.sg_unparse.proofs.Each.{Each, append_each, placed_each, bytes_each, plain_each, pieces_each, shows_each, items_each, content_each}
use Rattle.sg_unparse.proofs.Owners.{over, under_child, unparsed_owned}

-- a mark of a node that is not at or below v; one that is there and does not end v
abbrev pub Away : Place → Mark → Type 0
Away v x = IsAtOrBelow (place_of_mark x) v → ⊥

abbrev pub Within : Place → Mark → Type 0
Within v (Writes b u) = IsAtOrBelow u v
Within v (Closed u n) = IsAtOrBelow u v × (u ≡ v → ⊥)

-- a stream in which v ends once, behind what is written for it
pub record Split (v : Place) (xs : List Mark) : Type 0 where
  pub front : List Mark
  pub middle : List Mark
  pub rest : List Mark
  pub is : xs ≡ front ++ (middle ++ (Closed v (cells_in middle) ∷ rest))
  pub away_front : AllByRecursion (Away v) front
  pub within : AllByRecursion (Within v) middle
  pub away_rest : AllByRecursion (Away v) rest

abbrev Whole : Place → List Mark → Type 0
Whole v xs = AllByRecursion (Away v) xs ⊎ Split v xs

abbrev IsWhole : Place → Writing → Type 0
IsWhole v f = (m : ℕ) → Whole v (f m).0

after_away : (v : Place) (xs ys : List Mark) → AllByRecursion (Away v) xs → Whole v ys → Whole v (xs ++ ys)
after_away v xs ys h (inl k) = inl (append_each (Away v) xs ys h k)
after_away v xs ys h (inr p) = inr (record {
  front = xs ++ p.front;
  middle = p.middle;
  rest = p.rest;
  is = ap (λ r. xs ++ r) p.is ∙ sym (append_assoc xs p.front (p.middle ++ (Closed v (cells_in p.middle) ∷ p.rest)));
  away_front = append_each (Away v) xs p.front h p.away_front;
  within = p.within;
  away_rest = p.away_rest;
})

before_away : (v : Place) (xs ys : List Mark) → Whole v xs → AllByRecursion (Away v) ys → Whole v (xs ++ ys)
before_away v xs ys (inl h) k = inl (append_each (Away v) xs ys h k)
before_away v xs ys (inr p) k = inr (record {
  front = p.front;
  middle = p.middle;
  rest = p.rest ++ ys;
  is = ap (λ r. r ++ ys) p.is ∙ append_assoc p.front (p.middle ++ (Closed v (cells_in p.middle) ∷ p.rest)) ys ∙ ap (λ r. p.front ++ r) (append_assoc p.middle (Closed v (cells_in p.middle) ∷ p.rest) ys);
  away_front = p.away_front;
  within = p.within;
  away_rest = append_each (Away v) p.rest ys p.away_rest k;
})

turn_after : (v : Place) (f g : Writing) → Each (Away v) f → IsWhole v g → IsWhole v (in_turn f g)
turn_after v f g h k m = after_away v (f m).0 (g (f m).1).0 (h m) (k (f m).1)

turn_before : (v : Place) (f g : Writing) → IsWhole v f → Each (Away v) g → IsWhole v (in_turn f g)
turn_before v f g h k m = before_away v (f m).0 (g (f m).1).0 (h m) (k (f m).1)

placed_whole : (v : Place) (p : ChildPlace) (f : Writing) → IsWhole v f → IsWhole v (placed p f)
placed_whole v Resting f h m = h m
placed_whole v Passed f h m = h m
placed_whole v Hidden f h m = inl tt

-- a place at or below u is u, or is at or below one child of u
on_way : (w u : Place) → ((w ++ u) ≡ u) ⊎ ((j : ℕ) × IsAtOrBelow (w ++ u) (j ∷ u))
on_way [] u = inl refl
on_way (k ∷ w) u = by (on_way w u)
  where
    by : (((w ++ u) ≡ u) ⊎ ((j : ℕ) × IsAtOrBelow (w ++ u) (j ∷ u))) → ((k ∷ (w ++ u)) ≡ u) ⊎ ((j : ℕ) × IsAtOrBelow (k ∷ (w ++ u)) (j ∷ u))
    by (inl same) = inr (k, record { below = []; is = ap (λ z. k ∷ z) same })
    by (inr d) = inr (d.0, below_by_child k (w ++ u) (d.0 ∷ u) d.1)

way_of : (v u : Place) → IsAtOrBelow v u → (v ≡ u) ⊎ ((j : ℕ) × IsAtOrBelow v (j ∷ u))
way_of v u b = subst (λ z. (z ≡ u) ⊎ ((j : ℕ) × IsAtOrBelow z (j ∷ u))) (sym b.is) (on_way b.below u)

pub one_child : (w : Place) (j k : ℕ) (u : Place) → IsAtOrBelow w (j ∷ u) → IsAtOrBelow w (k ∷ u) → j ≡ k
one_child w j k u one two = ap head_of (sym (drop-append_seam one.below (j ∷ u)) ∙ ap (drop (length one.below)) (sym one.is) ∙ ap (λ n. drop n w) even ∙ ap (drop (length two.below)) two.is ∙ drop-append_seam two.below (k ∷ u))
  where
    head_of : Place → ℕ
    head_of [] = 0
    head_of (n ∷ z) = n

    even : length one.below ≡ length two.below
    even =
        let a : length w ≡ length one.below + length (j ∷ u) = ap length one.is ∙ length-append one.below (j ∷ u) in
        let b : length w ≡ length two.below + length (k ∷ u) = ap length two.is ∙ length-append two.below (k ∷ u) in
        omega (arith, a, b)

pub not_below_child : (u : Place) (k : ℕ) → IsAtOrBelow u (k ∷ u) → ⊥
not_below_child u k b = let long : length u ≡ length b.below + length (k ∷ u) = ap length b.is ∙ length-append b.below (k ∷ u) in omega (arith, long)

-- what is written for children of v
child_within : (v : Place) (k : ℕ) (xs : List Mark) → AreOwned (k ∷ v) xs → AllByRecursion (Within v) xs
child_within v k [] h = tt
child_within v k (Writes b w ∷ xs) h = (under_child w v k h.0, child_within v k xs h.1)
child_within v k (Closed w n ∷ xs) h = ((under_child w v k h.0, (λ same. not_below_child v k (subst (λ z. IsAtOrBelow z (k ∷ v)) same h.0))), child_within v k xs h.1)

-- where v is at or below a child of u, u and its other children write nothing for v
module _ (v u : Place) (j : ℕ) (way : IsAtOrBelow v (j ∷ u)) where
  pub own_away : IsAtOrBelow u v → ⊥
  own_away b = not_below_child u j (over u v (j ∷ u) b way)

  other_away : (k : ℕ) → (IsAtOrBelow v (k ∷ u) → ⊥) → (w : Place) → IsAtOrBelow w (k ∷ u) → IsAtOrBelow w v → ⊥
  other_away k n w b c = n (subst (λ i. IsAtOrBelow v (i ∷ u)) (one_child w j k u (over w v (j ∷ u) c way) b) way)

  pub owned_away : (k : ℕ) → (IsAtOrBelow v (k ∷ u) → ⊥) → (xs : List Mark) → AreOwned (k ∷ u) xs → AllByRecursion (Away v) xs
  owned_away k n [] h = tt
  owned_away k n (x ∷ xs) h = (other_away k n (place_of_mark x) h.0, owned_away k n xs h.1)

-- v ends in one of the children at most
data AtMostOne (v : Place) : List Writing → Type 0 where
  no_kids : AtMostOne v []
  here : (f : Writing) (fs : List Writing) → IsWhole v f → AllByRecursion (Each (Away v)) fs → AtMostOne v (f ∷ fs)
  later : (f : Writing) (fs : List Writing) → Each (Away v) f → AtMostOne v fs → AtMostOne v (f ∷ fs)

module _ (spec : Spec) (value : Reference Place → Value) (typed : Place → Option Bytes) (v : Place) where
  items_whole : (u : Place) (own : (b : ℕ) → Away v (Writes b u)) (op : ℕ) (more : Bool) (is : List Item) (kids : List Writing) → AtMostOne v kids → IsWhole v (items spec value typed u op more is kids)
  items_whole u own op more [] kids h m = inl tt
  items_whole u own op more (WritesPieces ps ∷ is) kids h m = turn_after v (pieces u ps) (items spec value typed u op more is kids) (pieces_each (Away v) u own ps) (items_whole u own op more is kids h) m
  items_whole u own op more (Child place ∷ is) [] no_kids m = items_whole u own op more is [] no_kids m
  items_whole u own op more (Child place ∷ is) (f ∷ fs) (here _ _ w h) m = turn_before v (placed place f) (items spec value typed u op more is fs) (placed_whole v place f w) (items_each (Away v) u own spec value typed op more is fs h) m
  items_whole u own op more (Child place ∷ is) (f ∷ fs) (later _ _ a h) m = turn_after v (placed place f) (items spec value typed u op more is fs) (placed_each (Away v) place f a) (items_whole u own op more is fs h) m
  items_whole u own op more (Shows o ∷ is) kids h m = turn_after v (shows spec value typed u op o) (items spec value typed u op more is kids) (shows_each (Away v) u own spec value typed op o) (items_whole u own op more is kids h) m
  items_whole u own op true (Separates ps ∷ is) kids h m = turn_after v (pieces u ps) (items spec value typed u op true is kids) (pieces_each (Away v) u own ps) (items_whole u own op true is kids h) m
  items_whole u own op false (Separates ps ∷ is) kids h m = turn_after v nothing (items spec value typed u op false is kids) (λ m. tt) (items_whole u own op false is kids h) m

  content_whole : (u : Place) (own : (b : ℕ) → Away v (Writes b u)) (o : Option Bytes) (elided : Bool) (f : Writing) → IsWhole v f → IsWhole v (content spec value typed u o elided f)
  content_whole u own (Some text) elided f h m = inl (plain_each (Away v) u own text m)
  content_whole u own None true f h m = inl (bytes_each (Away v) u own (46 ∷ 46 ∷ 46 ∷ []) m)
  content_whole u own None false f h m = h m

  -- at v itself, and at a node above it
  itself : (u : Place) (o : Option Bytes) (elided : Bool) (f : Writing) → Each (Within u) f → IsWhole u (ended u (content spec value typed u o elided f))
  itself u o elided f h m = inr (record {
    front = [];
    middle = (content spec value typed u o elided f m).0;
    rest = [];
    is = refl;
    away_front = tt;
    within = content_each (Within u) u (λ b. below_itself u) spec value typed o elided f h m;
    away_rest = tt;
  })

  node_whole : (u : Place) (o : Option Bytes) (elided : Bool) (f : Writing) → Each (Within u) f → ((j : ℕ) → IsAtOrBelow v (j ∷ u) → IsWhole v f) → ((v ≡ u) ⊎ ((j : ℕ) × IsAtOrBelow v (j ∷ u))) → IsWhole v (ended u (content spec value typed u o elided f))
  node_whole u o elided f h k (inl same) = subst (λ z. IsWhole z (ended u (content spec value typed u o elided f))) (sym same) (itself u o elided f h)
  node_whole u o elided f h k (inr d) = λ m.
      let own = own_away v u d.0 d.1 in
      let xs = (content spec value typed u o elided f m).0 in
      before_away v xs (Closed u (cells_in xs) ∷ []) (content_whole u (λ b. own) o elided f (k d.0 d.1) m) (own, tt)

  pub among_away : (u : Place) (j : ℕ) → IsAtOrBelow v (j ∷ u) → (i : ℕ) (ts : Terms) → j < i → AllByRecursion (Each (Away v)) (unparsed_among spec value typed u i ts)
  among_away u j way i NoTerm low = tt
  among_away u j way i (AndTerm t ts) low =
      let apart : IsAtOrBelow v (i ∷ u) → ⊥ = λ b. (let same = one_child v j i u way b in omega (arith, same, low)) in
      ((λ m. owned_away v u j way i apart (unparsed spec value typed (i ∷ u) t m).0 (unparsed_owned spec value typed (i ∷ u) t m)), among_away u j way (suc i) ts (omega (arith, low)))

  among_within : (u : Place) (k : ℕ) (ts : Terms) → AllByRecursion (Each (Within u)) (unparsed_among spec value typed u k ts)
  among_within u k NoTerm = tt
  among_within u k (AndTerm t ts) = ((λ m. child_within u k (unparsed spec value typed (k ∷ u) t m).0 (unparsed_owned spec value typed (k ∷ u) t m)), among_within u (suc k) ts)

  mutual
    unparsed_whole : (u : Place) (t : Term) → IsAtOrBelow v u → IsWhole v (unparsed spec value typed u t)
    unparsed_whole u (Leaf p w) b =
        node_whole u (typed u) false (plain u (value_text spec p w)) (plain_each (Within u) u (λ c. below_itself u) (value_text spec p w))
        (λ j way m. inl (plain_each (Away v) u (λ c. own_away v u j way) (value_text spec p w) m)) (way_of v u b)
    unparsed_whole u (Node op n elided ts) b =
        let kids = unparsed_among spec value typed u 0 ts in
        node_whole u (typed u) elided (items spec value typed u op (goes_on ts) (items_of spec op n) kids)
        (items_each (Within u) u (λ c. below_itself u) spec value typed op (goes_on ts) (items_of spec op n) kids (among_within u 0 ts))
        (λ j way. items_whole u (λ c. own_away v u j way) op (goes_on ts) (items_of spec op n) kids (among_whole u j way 0 ts)) (way_of v u b)

    among_whole : (u : Place) (j : ℕ) → IsAtOrBelow v (j ∷ u) → (i : ℕ) (ts : Terms) → AtMostOne v (unparsed_among spec value typed u i ts)
    among_whole u j way i NoTerm = no_kids
    among_whole u j way i (AndTerm t ts) = elim (below_or_not v (i ∷ u)) [
      | inl b ↦ here (unparsed spec value typed (i ∷ u) t) (unparsed_among spec value typed u (suc i) ts) (unparsed_whole (i ∷ u) t b) (among_away u i b (suc i) ts (omega arith))
      | inr n ↦ later (unparsed spec value typed (i ∷ u) t) (unparsed_among spec value typed u (suc i) ts) (λ m. owned_away v u j way i n (unparsed spec value typed (i ∷ u) t m).0 (unparsed_owned spec value typed (i ∷ u) t m)) (among_whole u j way (suc i) ts)
    ]

-- marks that do not end v
abbrev Passes : Place → Mark → Type 0
Passes v (Writes b u) = ⊤
Passes v (Closed u n) = u ≡ v → ⊥

pub away_passes : (v : Place) (xs : List Mark) → AllByRecursion (Away v) xs → AllByRecursion (Passes v) xs
away_passes v [] h = tt
away_passes v (Writes b u ∷ xs) h = (tt, away_passes v xs h.1)
away_passes v (Closed u n ∷ xs) h = ((λ same. h.0 (subst (λ z. IsAtOrBelow u z) same (below_itself u))), away_passes v xs h.1)

within_passes : (v : Place) (xs : List Mark) → AllByRecursion (Within v) xs → AllByRecursion (Passes v) xs
within_passes v [] h = tt
within_passes v (Writes b u ∷ xs) h = (tt, within_passes v xs h.1)
within_passes v (Closed u n ∷ xs) h = (h.0.1, within_passes v xs h.1)

not_same : (u v : Place) → (u ≡ v → ⊥) → bytes_eq u v ≡ false
not_same u v n = by (bytes_eq u v) refl
  where
    by : (b : Bool) → bytes_eq u v ≡ b → bytes_eq u v ≡ false
    by true e = absurd (n (bytes_is u v e))
    by false e = e

abbrev pub span_at : Place → ℕ → ℕ → Span
span_at u k n = record { node = u; from = n - k; to = n }

abbrev is_of : Place → Span → Bool
is_of v s = bytes_eq s.node v

passed_over : (v : Place) (n : ℕ) (xs : List Mark) (ys : List Span) → AllByRecursion (Passes v) xs → find (is_of v) (spans_behind n xs ++ ys) ≡ find (is_of v) ys
passed_over v n [] ys h = refl
passed_over v n (Writes b u ∷ xs) ys h = passed_over v (suc n) xs ys h.1
passed_over v n (Closed u k ∷ xs) ys h = ap (λ t. cond t (Some (span_at u k n)) (find (is_of v) (spans_behind n xs ++ ys))) (not_same u v h.0) ∙ passed_over v n xs ys h.1

pub not_found : (v : Place) (n : ℕ) (xs : List Mark) → AllByRecursion (Passes v) xs → find (is_of v) (spans_behind n xs) ≡ None
not_found v n [] h = refl
not_found v n (Writes b u ∷ xs) h = not_found v (suc n) xs h.1
not_found v n (Closed u k ∷ xs) h = ap (λ t. cond t (Some (span_at u k n)) (find (is_of v) (spans_behind n xs))) (not_same u v h.0) ∙ not_found v n xs h.1

-- the cells of marks
away_cells : (v : Place) (xs : List Mark) → AllByRecursion (Away v) xs → AllByRecursion (λ c. IsAtOrBelow c.1 v → ⊥) (all_cells xs)
away_cells v [] h = tt
away_cells v (Writes b u ∷ xs) h = (h.0, away_cells v xs h.1)
away_cells v (Closed u n ∷ xs) h = away_cells v xs h.1

within_cells : (v : Place) (xs : List Mark) → AllByRecursion (Within v) xs → AllByRecursion (λ c. IsAtOrBelow c.1 v) (all_cells xs)
within_cells v [] h = tt
within_cells v (Writes b u ∷ xs) h = (h.0, within_cells v xs h.1)
within_cells v (Closed u n ∷ xs) h = within_cells v xs h.1

parted : (v : Place) (a b c : List Cell) (s : Span) → s.from ≡ length a → s.to ≡ length a + length b → AllByRecursion (λ c. IsAtOrBelow c.1 v → ⊥) a → AllByRecursion (λ c. IsAtOrBelow c.1 v) b → AllByRecursion (λ c. IsAtOrBelow c.1 v → ⊥) c → IsSpanOf v (a ++ (b ++ c)) s
parted v a b c s from to h k l = record {
  in_order = omega (arith, from, to);
  there = let one = length-append a (b ++ c) in let two = length-append b c in omega (arith, to, one, two);
  before = subst (AllByRecursion (λ c. IsAtOrBelow c.1 v → ⊥)) (sym (ap (λ n. take n (a ++ (b ++ c))) from ∙ take-append_seam a (b ++ c))) h;
  inside = subst (AllByRecursion (λ c. IsAtOrBelow c.1 v)) (sym (ap (λ n. take n (drop s.from (a ++ (b ++ c)))) long ∙ ap (take (length b)) (ap (λ n. drop n (a ++ (b ++ c))) from ∙ drop-append_seam a (b ++ c)) ∙ take-append_seam b c)) k;
  behind = subst (AllByRecursion (λ c. IsAtOrBelow c.1 v → ⊥)) (sym (ap (λ n. drop n (a ++ (b ++ c))) to ∙ drop-append-add a (b ++ c) (length b) ∙ drop-append_seam b c)) l;
}
  where
    long : s.to - s.from ≡ length b
    long = omega (arith, from, to)

pub split_span : (v : Place) (xs : List Mark) (p : Split v xs) → span_of xs v ≡ Some (span_at v (cells_in p.middle) (cells_in p.front + cells_in p.middle))
split_span v xs p =
    let start = 0 + cells_in p.front in
    let count = cells_in p.middle in
    let end : start + count ≡ cells_in p.front + count = omega arith in
    ap (λ z. span_of z v) p.is
    ∙ ap (find (is_of v)) (spans_behind-append 0 p.front (p.middle ++ (Closed v count ∷ p.rest)))
    ∙ passed_over v 0 p.front (spans_behind start (p.middle ++ (Closed v count ∷ p.rest))) (away_passes v p.front p.away_front)
    ∙ ap (find (is_of v)) (spans_behind-append start p.middle (Closed v count ∷ p.rest))
    ∙ passed_over v start p.middle (spans_behind (start + count) (Closed v count ∷ p.rest)) (within_passes v p.middle p.within)
    ∙ ap (λ t. cond t (Some (span_at v count (start + count))) (find (is_of v) (spans_behind (start + count) p.rest))) (bytes_itself v)
    ∙ ap (λ n. Some (span_at v count n)) end

abbrev IsNone : Option Span → Type 0
IsNone None = ⊤
IsNone (Some s) = ⊥

pub none_is : (s : Span) → None ≡ Some s → ⊥
none_is s e = subst IsNone e tt

split_spans : (v : Place) (xs : List Mark) → Split v xs → (s : Span) → span_of xs v ≡ Some s → IsSpanOf v (all_cells xs) s
split_spans v xs p s found =
    let n = cells_in p.front in
    let count = cells_in p.middle in
    let is : s ≡ span_at v count (n + count) = ap (λ o. unwrap_or o s) (sym found ∙ split_span v xs p) in
    let front : length (all_cells p.front) ≡ n = length-all_cells p.front in
    let middle : length (all_cells p.middle) ≡ count = length-all_cells p.middle in
    let cells : all_cells xs ≡ all_cells p.front ++ (all_cells p.middle ++ all_cells p.rest) =
    ap all_cells p.is ∙ all_cells-append p.front (p.middle ++ (Closed v count ∷ p.rest)) ∙ ap (λ z. all_cells p.front ++ z) (all_cells-append p.middle (Closed v count ∷ p.rest)) in
    subst (λ z. IsSpanOf v (all_cells xs) z) (sym is)
    (subst (λ z. IsSpanOf v z (span_at v count (n + count))) (sym cells)
    (parted v (all_cells p.front) (all_cells p.middle) (all_cells p.rest) (span_at v count (n + count)) (omega (arith, front)) (omega (arith, front, middle))
    (away_cells v p.front p.away_front) (within_cells v p.middle p.within) (away_cells v p.rest p.away_rest)))

-- nodes that are not below u do not end in what is written for it
elsewhere : (v u : Place) → (IsAtOrBelow v u → ⊥) → (xs : List Mark) → AreOwned u xs → AllByRecursion (Passes v) xs
elsewhere v u n [] h = tt
elsewhere v u n (Writes b w ∷ xs) h = (tt, elsewhere v u n xs h.1)
elsewhere v u n (Closed w k ∷ xs) h = ((λ same. n (subst (λ z. IsAtOrBelow z u) same h.0)), elsewhere v u n xs h.1)

-- v ends once where it has a span
pub split_found : (spec : Spec) (value : Reference Place → Value) (typed : Place → Option Bytes) (u : Place) (t : Term) (m : ℕ) (v : Place) → (span_of (unparsed spec value typed u t m).0 v ≡ None → ⊥) → Split v (unparsed spec value typed u t m).0
split_found spec value typed u t m v found = by (below_or_not v u)
  where
    whole : Whole v (unparsed spec value typed u t m).0 → Split v (unparsed spec value typed u t m).0
    whole (inl away) = absurd (found (not_found v 0 (unparsed spec value typed u t m).0 (away_passes v (unparsed spec value typed u t m).0 away)))
    whole (inr p) = p

    by : (IsAtOrBelow v u ⊎ (IsAtOrBelow v u → ⊥)) → Split v (unparsed spec value typed u t m).0
    by (inl b) = whole (unparsed_whole spec value typed v u t b m)
    by (inr n) = absurd (found (not_found v 0 (unparsed spec value typed u t m).0 (elsewhere v u n (unparsed spec value typed u t m).0 (unparsed_owned spec value typed u t m))))

pub spans_owned : (spec : Spec) (value : Reference Place → Value) (typed : Place → Option Bytes) (u : Place) (t : Term) (m : ℕ) (v : Place) (s : Span) → span_of (unparsed spec value typed u t m).0 v ≡ Some s → IsSpanOf v (all_cells (unparsed spec value typed u t m).0) s
spans_owned spec value typed u t m v s found =
    let xs = (unparsed spec value typed u t m).0 in
    split_spans v xs (split_found spec value typed u t m v (λ none. none_is s (sym none ∙ found))) s found

-- a node has a region exactly where it ends
bytes_turned : (u v : Place) → bytes_eq u v ≡ bytes_eq v u
bytes_turned u v = by (bytes_eq v u) refl
  where
    by : (b : Bool) → bytes_eq v u ≡ b → bytes_eq u v ≡ bytes_eq v u
    by true e = subst (λ z. bytes_eq u z ≡ bytes_eq z u) (sym (bytes_is v u e)) refl
    by false e = not_same u v (λ same. false≢true (sym e ∙ ap (bytes_eq v) same ∙ bytes_itself v)) ∙ sym e

pub spans_end : (v : Place) (n : ℕ) (xs : List Mark) → is_some (find (is_of v) (spans_behind n xs)) ≡ list_any (bytes_eq v) (ends_of xs)
spans_end v n [] = refl
spans_end v n (Writes b u ∷ xs) = spans_end v (suc n) xs
spans_end v n (Closed u k ∷ xs) = ap (λ t. is_some (cond t (Some (span_at u k n)) (find (is_of v) (spans_behind n xs)))) (bytes_turned u v) ∙ by (spans_end v n xs) (bytes_eq v u)
  where
    by : is_some (find (is_of v) (spans_behind n xs)) ≡ list_any (bytes_eq v) (ends_of xs) → (t : Bool) → is_some (cond t (Some (span_at u k n)) (find (is_of v) (spans_behind n xs))) ≡ (t || list_any (bytes_eq v) (ends_of xs))
    by rest true = refl
    by rest false = rest

mapped : (f : Span → Region) (o : Option Span) → is_some (option_map f o) ≡ is_some o
mapped f None = refl
mapped f (Some s) = refl

pub regions_end : (spec : Spec) (value : Reference Place → Value) (typed : Place → Option Bytes) (u : Place) (t : Term) (m : ℕ) (v : Place) → is_some (region_of (unparsed spec value typed u t m).0 v) ≡ list_any (bytes_eq v) (unparsed_places spec typed u t)
regions_end spec value typed u t m v =
    let xs = (unparsed spec value typed u t m).0 in
    mapped (λ (s : Span). region_in (cells_of xs) (min s.from (length (cells_of xs))) (min s.to (length (cells_of xs)))) (span_of xs v)
    ∙ spans_end v 0 xs ∙ ap (list_any (bytes_eq v)) (unparsed_ends spec value typed u t m)
