-- Where a node begins is found from where another began before, if the term changes strictly below a node at or above
-- both.
use Rattle.std.specs.Prelude.{◌≡◌, ◌⊎◌, refl, ℕ, zero, suc, ◌+◌, ◌-◌, ◌*◌, ◌≤◌, true, cond, bytes_eq, if◌then◌else◌, List, [], ◌∷◌, ◌++◌, take, Option, Some, None, is_some, option_map, option_and_then}
use Rattle.std.specs.List.{AllByRecursion, count_by, list_any}
use Rattle.std.proofs.Common.{sym, ap, ◌∙◌, subst, inl, inr, arith, append_assoc}
use Rattle.std.proofs.lemmas.Bool.{false≢true, or_left}
use Rattle.std.proofs.lemmas.Option.{none-some, same_Some}
use Rattle.std.proofs.lemmas.List.{append-nil}
use Rattle.std.proofs.lemmas.List.Folds.{list_any-append}
use Rattle.std.proofs.lemmas.List.Sums.{sum_by-cons}
use Rattle.std.proofs.Math.Nat.{mul-le-mul_left}
use Rattle.sg_kinds.specs.Values.{Value}
use Rattle.sg_kinds.specs.Terms.{Term, Leaf, Node, NoTerm, AndTerm, nodes_of}
use Rattle.sg_kinds.specs.Places.{Place, child, sub, put, with_child, with_kid}
use Rattle.sg_kinds.specs.Nets.{Reference}
use Rattle.sg_kinds.specs.declared.spec.Spec.{Spec}
use Rattle.sg_kinds.proofs.Elementary.{or_right}
use Rattle.sg_kinds.proofs.TermLaws.{put_sub, sub_put}
use Rattle.sg_groves.specs.Evaluated.{IsAtOrBelow, is_at_or_below}
use Rattle.sg_groves.proofs.Below.{below_itself, below_to}
use Rattle.sg_unparse.specs.Cells.{Mark, Writes, Closed, cells_in, has_kids, marks_of, unparsed}
use Rattle.sg_unparse.specs.Page.{all_cells, bytes_of, is_newline, span_of}
use Rattle.sg_unparse.specs.Owned.{place_of_mark, before}
use Rattle.sg_unparse.specs.Unparsed.{ends_of}
use Rattle.sg_unparse.specs.Margins.{ons_of}
use Rattle.sg_unparse.specs.Begins.{none_typed, begins_at, begins_in, margin_bound, AreAlikeOutside, IsMoved}
use Rattle.sg_unparse.specs.declared.page.Beginning.{Beginning}
use Rattle.sg_unparse.proofs.Begins.{not_there, split_before}
use Rattle.sg_unparse.proofs.Ends.{ends_of-append, unparsed_ends}
use Rattle.sg_unparse.proofs.Owners.{over, under_child}
use Rattle.sg_unparse.proofs.Spans.{Away, Split, split_span, split_found, spans_end, away_passes, not_found, not_below_child}
use Rattle.sg_unparse.proofs.Streams.{cells_in-append}
use Rattle.sg_unparse.proofs.Widths.{IsAbout, newlines_in, before_about, unparsed_elastic}
use Rattle.sg_unparse.proofs.Parts.{Parts, parts_ahead, parts_behind, node_parts}

-- a subterm of a subterm is put into it
sub_inside : (t : Term) (z p : Place) (x : Term) → sub t p ≡ Some x → sub t (z ++ p) ≡ sub x z
sub_inside t [] p x at = at
sub_inside t (k ∷ z) p x at = ap (option_and_then (child k)) (sub_inside t z p x at)

put_inside : (t : Term) (z p : Place) (x s : Term) → sub t p ≡ Some x → put t (z ++ p) s ≡ put t p (put x z s)
put_inside t [] p x s at = refl
put_inside t (k ∷ z) p x s at =
    ap (λ o. elim o [ None ↦ t | Some n ↦ put t (z ++ p) (with_child n k s) ]) (sub_inside t z p x at)
    ∙ by (λ n. put_inside t z p x (with_child n k s) at) (sub x z)
  where
    by : ((n : Term) → put t (z ++ p) (with_child n k s) ≡ put t p (put x z (with_child n k s))) → (o : Option Term)
        → elim o [ None ↦ t | Some n ↦ put t (z ++ p) (with_child n k s) ] ≡ put t p (elim o [ None ↦ x | Some n ↦ put x z (with_child n k s) ])
    by again None = sym (put_sub t p x at)
    by again (Some n) = again n

-- a change strictly below the root lets it have children or none
child_kids : (x : Term) (k : ℕ) (s : Term) → has_kids x ≡ has_kids (with_child x k s)
child_kids (Leaf p v) k s = refl
child_kids (Node op n elided NoTerm) k s = refl
child_kids (Node op n elided (AndTerm t ts)) zero s = refl
child_kids (Node op n elided (AndTerm t ts)) (suc k) s = refl

put_kids : (x : Term) (k : ℕ) (z : Place) (s : Term) → has_kids x ≡ has_kids (put x (k ∷ z) s)
put_kids x k [] s = child_kids x k s
put_kids x k (j ∷ z) s = by (λ r. put_kids x j z r) (sub x (j ∷ z))
  where
    by : ((r : Term) → has_kids x ≡ has_kids (put x (j ∷ z) r)) → (o : Option Term) → has_kids x ≡ has_kids (elim o [ None ↦ x | Some n ↦ put x (j ∷ z) (with_child n k s) ])
    by again None = refl
    by again (Some n) = again (with_child n k s)

far : (k : ℕ) (u : Place) (xs : List Mark) → AllByRecursion (Away u) xs → AllByRecursion (Away (k ∷ u)) xs
far k u [] h = tt
far k u (x ∷ xs) h = ((λ b. h.0 (under_child (place_of_mark x) u k b)), far k u xs h.1)

module _ (spec : Spec) (value other : Reference Place → Value) where
  alike_above : (k : ℕ) (u : Place) → AreAlikeOutside (k ∷ u) value other → AreAlikeOutside u value other
  alike_above k u alike a h = alike a (inr (by h))
    where
      by : ((a.node ≡ u) ⊎ (IsAtOrBelow a.node u → ⊥)) → IsAtOrBelow a.node (k ∷ u) → ⊥
      by (inl same) b = not_below_child u k (subst (λ z. IsAtOrBelow z (k ∷ u)) same b)
      by (inr n) b = n (under_child a.node u k b)

  abbrev Ways : Place → (x y t : Term) → Type 0
  Ways p x y t =
      (c : ℕ) × (c + 2 * ons_of spec * nodes_of x ≤ 2 * ons_of spec * nodes_of t)
      × ((m : ℕ) → Parts p (unparsed spec value none_typed p x) (unparsed spec other none_typed p y) m c (unparsed spec value none_typed [] t m).0 (unparsed spec other none_typed [] (put t p y) m).0)

  -- a term around one of its nodes
  parts_at : (p : Place) (t x y : Term) → AreAlikeOutside p value other → sub t p ≡ Some x → has_kids x ≡ has_kids y → Ways p x y t
  parts_at [] t x y alike at e =
      let same : t ≡ x = same_Some t x at in
      let nodes = ap (λ z. 2 * ons_of spec * nodes_of z) same in (
        0,
        omega (arith, nodes),
        (λ m. inr (record {
          front = [];
          at = m;
          rest = [];
          other = [];
          left = ap (λ z. (unparsed spec value none_typed [] z m).0) same ∙ sym (append-nil (unparsed spec value none_typed [] x m).0);
          right = sym (append-nil (unparsed spec other none_typed [] y m).0);
          away_front = tt;
          away_rest = tt;
          low = omega arith;
        })),
      )
  parts_at (k ∷ u) t x y alike at e = by (λ n r. parts_at u t n r (alike_above k u alike)) (sub t u) refl at
    where
      join : (n r : Term) (a b : ℕ) → ((m : ℕ) → Parts (k ∷ u) (unparsed spec value none_typed (k ∷ u) x) (unparsed spec other none_typed (k ∷ u) y) m b (unparsed spec value none_typed u n m).0 (unparsed spec other none_typed u r m).0)
          → (m : ℕ) → Parts u (unparsed spec value none_typed u n) (unparsed spec other none_typed u r) m a (unparsed spec value none_typed [] t m).0 (unparsed spec other none_typed [] (put t u r) m).0
          → Parts (k ∷ u) (unparsed spec value none_typed (k ∷ u) x) (unparsed spec other none_typed (k ∷ u) y) m (a + b) (unparsed spec value none_typed [] t m).0 (unparsed spec other none_typed [] (put t u r) m).0
      join n r a b here m (inl away) = inl (far k u (unparsed spec value none_typed [] t m).0 away)
      join n r a b here m (inr p) =
          let f = unparsed spec value none_typed (k ∷ u) x in
          let g = unparsed spec other none_typed (k ∷ u) y in
          let xs = (unparsed spec value none_typed u n p.at).0 in
          let ys = (unparsed spec other none_typed u r p.at).0 in
          subst (λ z. Parts (k ∷ u) f g m (a + b) z (unparsed spec other none_typed [] (put t u r) m).0) (sym p.left)
          (subst (λ z. Parts (k ∷ u) f g m (a + b) (p.front ++ (xs ++ p.rest)) z) (sym p.right)
          (parts_behind (k ∷ u) f g m p.at a b (a + b) p.front (xs ++ p.rest) (ys ++ p.other) (far k u p.front p.away_front) p.low (omega arith)
          (parts_ahead (k ∷ u) f g p.at b xs ys p.rest p.other (far k u p.rest p.away_rest) (here p.at))))

      node : ((n r : Term) → sub t u ≡ Some n → has_kids n ≡ has_kids r → Ways u n r t) → (n : Term) → sub t u ≡ Some n → child k n ≡ Some x → Ways (k ∷ u) x y t
      node again (Leaf q v) there found = absurd (none-some x found)
      node again (Node op i elided ts) there found =
          let r = Node op i elided (with_kid ts k y) in
          let above = again (Node op i elided ts) r there (child_kids (Node op i elided ts) k y) in
          let here = node_parts spec value other u k alike op i elided ts x y found e in
          let one = above.1 in
          let two = here.1 in
          let is : put t (k ∷ u) y ≡ put t u r = ap (λ o. elim o [ None ↦ t | Some n ↦ put t u (with_child n k y) ]) there in (
            above.0 + here.0,
            omega (arith, one, two),
            (λ m.
                subst (λ z. Parts (k ∷ u) (unparsed spec value none_typed (k ∷ u) x) (unparsed spec other none_typed (k ∷ u) y) m (above.0 + here.0) (unparsed spec value none_typed [] t m).0 (unparsed spec other none_typed [] z m).0) (sym is)
                (join (Node op i elided ts) r above.0 here.0 here.2 m (above.2 m))),
          )

      by : ((n r : Term) → sub t u ≡ Some n → has_kids n ≡ has_kids r → Ways u n r t) → (o : Option Term) → sub t u ≡ o → option_and_then (child k) o ≡ Some x → Ways (k ∷ u) x y t
      by again None there found = absurd (none-some x found)
      by again (Some n) there found = node again n there found

-- newlines and cells before a node
newlines_taken : (xs ys : List Mark) → count_by is_newline (take (cells_in xs) (bytes_of (all_cells (xs ++ ys)))) ≡ newlines_in xs
newlines_taken [] ys = refl
newlines_taken (Writes b u ∷ xs) ys =
    sum_by-cons (λ c. cond (is_newline c) 1 0) b (take (cells_in xs) (bytes_of (all_cells (xs ++ ys)))) ∙ ap (λ n. cond (is_newline b) 1 0 + n) (newlines_taken xs ys)
newlines_taken (Closed u n ∷ xs) ys = newlines_taken xs ys

newlines_in-append : (xs ys : List Mark) → newlines_in (xs ++ ys) ≡ newlines_in xs + newlines_in ys
newlines_in-append [] ys = omega arith
newlines_in-append (Writes b u ∷ xs) ys = let e = newlines_in-append xs ys in omega (arith, e)
newlines_in-append (Closed u n ∷ xs) ys = newlines_in-append xs ys

abbrev spot : List Mark → Beginning
spot xs = record { newlines = newlines_in xs; cells = cells_in xs }

begins_behind : (v : Place) (xs : List Mark) → Split v xs → begins_in xs v ≡ Some (spot (before v xs))
begins_behind v xs p =
    let count = cells_in p.middle in
    let start : (cells_in p.front + count) - count ≡ cells_in p.front = omega arith in
    let rest = p.middle ++ (Closed v count ∷ p.rest) in
    ap (option_map (λ s. begins_at (all_cells xs) s.from)) (split_span v xs p)
    ∙ ap (λ n. Some (begins_at (all_cells xs) n)) start
    ∙ ap (λ z. Some (begins_at (all_cells z) (cells_in p.front))) p.is
    ∙ ap (λ n. Some (record { newlines = n; cells = cells_in p.front })) (newlines_taken p.front rest)
    ∙ ap (λ z. Some (spot z)) (sym (split_before v xs p))

-- what is before a node among marks around it
before_past : (v : Place) (xs ys : List Mark) → AllByRecursion (Away v) xs → before v (xs ++ ys) ≡ xs ++ before v ys
before_past v [] ys h = refl
before_past v (x ∷ xs) ys h = ap (λ t. if t then [] else x ∷ before v (xs ++ ys)) (not_there (place_of_mark x) v h.0) ∙ ap (λ z. x ∷ z) (before_past v xs ys h.1)

stops_there : (v : Place) (n : ℕ) (xs ys zs : List Mark) → before v (xs ++ (Closed v n ∷ ys)) ≡ before v (xs ++ (Closed v n ∷ zs))
stops_there v n [] ys zs =
    let e = below_to v v (below_itself v) in
    ap (λ t. if t then [] else Closed v n ∷ before v ys) e ∙ sym (ap (λ t. if t then [] else Closed v n ∷ before v zs) e)
stops_there v n (x ∷ xs) ys zs = ap (λ z. if is_at_or_below (place_of_mark x) v then [] else x ∷ z) (stops_there v n xs ys zs)

before_stops : (v : Place) (xs ys : List Mark) → Split v xs → before v (xs ++ ys) ≡ before v xs
before_stops v xs ys p =
    let n = cells_in p.middle in
    let front = p.front ++ p.middle in
    let is : xs ≡ front ++ (Closed v n ∷ p.rest) = p.is ∙ sym (append_assoc p.front p.middle (Closed v n ∷ p.rest)) in
    ap (λ z. before v (z ++ ys)) is
    ∙ ap (before v) (append_assoc front (Closed v n ∷ p.rest) ys)
    ∙ stops_there v n front (p.rest ++ ys) p.rest
    ∙ sym (ap (before v) is)

mapped : {A B : Type 0} (f : A → B) (o : Option A) → is_some (option_map f o) ≡ is_some o
mapped f None = refl
mapped f (Some x) = refl

has_span : (xs : List Mark) (v : Place) (b : Beginning) → begins_in xs v ≡ Some b → is_some (span_of xs v) ≡ true
has_span xs v b e = sym (mapped (λ s. begins_at (all_cells xs) s.from) (span_of xs v)) ∙ ap is_some e

below_away : (v p : Place) (xs : List Mark) → IsAtOrBelow v p → AllByRecursion (Away p) xs → AllByRecursion (Away v) xs
below_away v p [] b h = tt
below_away v p (x ∷ xs) b h = ((λ c. h.0 (over (place_of_mark x) v p c b)), below_away v p xs b h.1)

ended_there : (v : Place) (xs : List Mark) → is_some (span_of xs v) ≡ true → list_any (bytes_eq v) (ends_of xs) ≡ true
ended_there v xs e = sym (spans_end v 0 xs) ∙ e

ended_around : (v : Place) (front xs rest : List Mark) → is_some (span_of xs v) ≡ true → is_some (span_of (front ++ (xs ++ rest)) v) ≡ true
ended_around v front xs rest e =
    let any = list_any (bytes_eq v) in
    spans_end v 0 (front ++ (xs ++ rest))
    ∙ ap any (ends_of-append front (xs ++ rest) ∙ ap (λ z. ends_of front ++ z) (ends_of-append xs rest))
    ∙ list_any-append (bytes_eq v) (ends_of front) (ends_of xs ++ ends_of rest)
    ∙ or_right (any (ends_of front)) (any (ends_of xs ++ ends_of rest))
    (list_any-append (bytes_eq v) (ends_of xs) (ends_of rest) ∙ or_left (any (ends_of xs)) (any (ends_of rest)) (ended_there v xs e))

module _ (spec : Spec) (value : Reference Place → Value) (p : Place) (x : Term) where
  -- a node that begins in a part begins in it from every margin, with the same newlines before it
  abbrev part_from : ℕ → List Mark
  part_from m = (unparsed spec value none_typed p x m).0

  spanned : (v : Place) (m n : ℕ) → is_some (span_of (part_from m) v) ≡ true → is_some (span_of (part_from n) v) ≡ true
  spanned v m n e =
      spans_end v 0 (part_from n) ∙ ap (list_any (bytes_eq v)) (unparsed_ends spec value none_typed p x n ∙ sym (unparsed_ends spec value none_typed p x m))
      ∙ ended_there v (part_from m) e

  split_from : (v : Place) (m : ℕ) → is_some (span_of (part_from m) v) ≡ true → Split v (part_from m)
  split_from v m e = split_found spec value none_typed p x m v (λ none. false≢true (sym (ap is_some none) ∙ e))

  about_from : (v : Place) (m : ℕ) → IsAbout m (before v (part_from 0)) (before v (part_from m))
  about_from v m = before_about m v (part_from 0) (part_from m) (unparsed_elastic spec value none_typed p x m 0 m (omega arith) (omega arith)).marks

  before_around : (v : Place) (m : ℕ) (front rest : List Mark) → AllByRecursion (Away v) front → is_some (span_of (part_from m) v) ≡ true → before v (front ++ (part_from m ++ rest)) ≡ front ++ before v (part_from m)
  before_around v m front rest away e = before_past v front (part_from m ++ rest) away ∙ ap (λ z. front ++ z) (before_stops v (part_from m) rest (split_from v m e))

  counted_around : (v : Place) (m : ℕ) (front rest xs : List Mark) (b : Beginning) → xs ≡ front ++ (part_from m ++ rest) → AllByRecursion (Away v) front → is_some (span_of (part_from m) v) ≡ true
      → b ≡ spot (before v xs) → (b.newlines ≡ newlines_in front + newlines_in (before v (part_from m))) × (b.cells ≡ cells_in front + cells_in (before v (part_from m)))
  counted_around v m front rest xs b is away e at =
      let whole : before v xs ≡ front ++ before v (part_from m) = ap (before v) is ∙ before_around v m front rest away e in (
        ap (λ (z : Beginning). z.newlines) at ∙ ap newlines_in whole ∙ newlines_in-append front (before v (part_from m)),
        ap (λ (z : Beginning). z.cells) at ∙ ap cells_in whole ∙ cells_in-append front (before v (part_from m)),
      )

begun : (xs : List Mark) (v : Place) (b : Beginning) → Split v xs → begins_in xs v ≡ Some b → b ≡ spot (before v xs)
begun xs v b p e = same_Some b (spot (before v xs)) (sym e ∙ begins_behind v xs p)

pub moved : (spec : Spec) (value other : Reference Place → Value) (t : Term) (p z : Place) (s x y : Term) (v w : Place) (old from to : Beginning) (m : ℕ) → (z ≡ [] → ⊥) → AreAlikeOutside p value other
    → sub t p ≡ Some x → sub (put t (z ++ p) s) p ≡ Some y → IsAtOrBelow v p → IsAtOrBelow w p
    → begins_in (marks_of spec value none_typed t) v ≡ Some old
    → begins_in (unparsed spec value none_typed p x 0).0 v ≡ Some from
    → begins_in (unparsed spec other none_typed p y 0).0 w ≡ Some to
    → margin_bound spec t ≤ m → IsMoved (marks_of spec other none_typed (put t (z ++ p) s)) w old from to m
moved spec value other t p [] s x y v w old from to m some alike at now vb wb begins_old begins_from begins_to low = absurd (some refl)
moved spec value other t p (k ∷ z) s x y v w old from to m some alike at now vb wb begins_old begins_from begins_to low =
    subst (λ r. IsMoved (marks_of spec other none_typed r) w old from to m) (sym is) (by (ways.2 0))
  where
    is_put : put t ((k ∷ z) ++ p) s ≡ put t p (put x (k ∷ z) s)
    is_put = put_inside t (k ∷ z) p x s at

    same : put x (k ∷ z) s ≡ y
    same = same_Some (put x (k ∷ z) s) y (sym (ap (λ r. sub r p) is_put ∙ sub_put t p x (put x (k ∷ z) s) at) ∙ now)

    is : put t ((k ∷ z) ++ p) s ≡ put t p y
    is = is_put ∙ ap (put t p) same

    ways : Ways spec value other p x y t
    ways = parts_at spec value other p t x y alike at (put_kids x k z s ∙ ap has_kids same)

    xs : List Mark
    xs = marks_of spec value none_typed t

    ys : List Mark
    ys = marks_of spec other none_typed (put t p y)

    by : Parts p (unparsed spec value none_typed p x) (unparsed spec other none_typed p y) 0 ways.0 xs ys → IsMoved ys w old from to m
    by (inl away) = absurd (false≢true (sym (ap is_some (not_found v 0 xs (away_passes v xs (below_away v p xs vb away)))) ∙ has_span xs v old begins_old))
    by (inr r) =
        let span_x = has_span (unparsed spec value none_typed p x 0).0 v from begins_from in
        let span_y = has_span (unparsed spec other none_typed p y 0).0 w to begins_to in
        let from_x = spanned spec value p x v 0 r.at span_x in
        let from_y = spanned spec other p y w 0 r.at span_y in
        let there : is_some (span_of ys w) ≡ true = ap (λ q. is_some (span_of q w)) r.right ∙ ended_around w r.front (unparsed spec other none_typed p y r.at).0 r.other from_y in
        let one = counted_around spec value p x v r.at r.front r.rest xs old r.left (below_away v p r.front vb r.away_front) from_x (begun xs v old (split_from spec value [] t v 0 (has_span xs v old begins_old)) begins_old) in
        let two = counted_around spec other p y w r.at r.front r.other ys (spot (before w ys)) r.right (below_away w p r.front wb r.away_front) from_y refl in
        let a = about_from spec value p x v r.at in
        let b = about_from spec other p y w r.at in
        let e = begun (unparsed spec value none_typed p x 0).0 v from (split_from spec value p x v 0 span_x) begins_from in
        let f = begun (unparsed spec other none_typed p y 0).0 w to (split_from spec other p y w 0 span_y) begins_to in
        let nx = ap (λ (q : Beginning). q.newlines) e in
        let ny = ap (λ (q : Beginning). q.newlines) f in
        let cy = ap (λ (q : Beginning). q.cells) f in
        let wide : r.at ≤ m = (let bound = ways.1 in let l = r.low in omega (arith, bound, l, low)) in
        let more = mul-le-mul_left (newlines_in (before w (unparsed spec other none_typed p y 0).0)) wide in
        let times = ap (λ q. q * m) ny in
        let old_lines = one.0 in
        let old_cells = one.1 in
        let new_lines = two.0 in
        let new_cells = two.1 in
        let an = a.newlines in
        let bn = b.newlines in
        let few = b.few in
        record {
          now = spot (before w ys);
          begins = begins_behind w ys (split_from spec other [] (put t p y) w 0 there);
          within = omega (arith, old_lines, nx, an);
          newlines = omega (arith, old_lines, new_lines, nx, ny, an, bn);
          cells = omega (arith, old_cells, new_cells, cy, few, more, times);
        }
