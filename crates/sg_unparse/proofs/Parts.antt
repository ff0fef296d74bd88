-- What is written around a node stays where the term changes strictly below it.
use Rattle.std.specs.Prelude.{◌≡◌, ◌⊎◌, refl, ℕ, zero, suc, ◌+◌, ◌*◌, ◌≤◌, Bool, true, false, List, [], ◌∷◌, ◌++◌, Some, None, slice_get}
use Rattle.std.specs.List.{AllByRecursion}
use Rattle.std.proofs.Common.{sym, ap, ◌∙◌, subst, inl, inr, arith, append_assoc}
use Rattle.std.proofs.lemmas.Option.{none-some, same_Some}
use Rattle.sg_kinds.specs.Values.{Value}
use Rattle.sg_kinds.specs.Terms.{Term, Terms, Node, NoTerm, AndTerm, terms_of, nodes_of, nodes_of_all}
use Rattle.sg_kinds.specs.Places.{Place, with_kid}
use Rattle.sg_kinds.specs.Nets.{Reference}
use Rattle.sg_kinds.specs.declared.spec.Spec.{Spec}
use Rattle.sg_kinds.specs.declared.spec.Item.{Item}
use Rattle.sg_kinds.specs.declared.spec.Item.TheVariants.{Writes as WritesPieces, Child, Shows, Separates}
use Rattle.sg_kinds.specs.declared.marks.ChildPlace.{ChildPlace}
use Rattle.sg_kinds.specs.declared.marks.ChildPlace.TheVariants.{Resting, Passed, Hidden}
use Rattle.sg_groves.specs.Evaluated.{IsAtOrBelow}
use Rattle.sg_groves.proofs.Below.{below_itself, below_or_not}
use Rattle.sg_unparse.specs.Cells.{Mark, Writes, Closed, Writing, nothing, in_turn, pieces, cells_in, placed, has_kids, goes_on, items_of, shows, items, content, unparsed, unparsed_among}
use Rattle.sg_unparse.specs.Margins.{ons_of_pieces, ons_of_items, ons_of}
use Rattle.sg_unparse.specs.Begins.{none_typed, AreAlikeOutside}
use Rattle.sg_unparse.proofs.Each.{Each, append_each, placed_each, bytes_each, pieces_each, shows_each, items_each}
use Rattle.sg_unparse.proofs.Owners.{unparsed_owned}
use Rattle.sg_unparse.proofs.Spans.{Away, one_child, not_below_child, owned_away, among_away}
use Rattle.sg_unparse.proofs.Raises.{Raises, stays, placed_raises, pieces_raise, shows_raises, first_item, scheme_raises, one_more, both_times, unparsed_raises}
use Rattle.sg_unparse.proofs.Alike.{ShowSame, shows_same, unparsed_same}

-- one stream has what a node writes, the other what another writes in its place, from one margin, behind the same marks
pub record Around (q : Place) (f g : Writing) (m c : ℕ) (xs ys : List Mark) : Type 0 where
  pub front : List Mark
  pub at : ℕ
  pub rest : List Mark
  pub other : List Mark
  pub left : xs ≡ front ++ ((f at).0 ++ rest)
  pub right : ys ≡ front ++ ((g at).0 ++ other)
  pub away_front : AllByRecursion (Away q) front
  pub away_rest : AllByRecursion (Away q) rest
  pub low : at ≤ m + c

-- or the node is not written
abbrev pub Parts : Place → (f g : Writing) → ℕ → ℕ → (xs ys : List Mark) → Type 0
Parts q f g m c xs ys = AllByRecursion (Away q) xs ⊎ Around q f g m c xs ys

pub parts_behind : (q : Place) (f g : Writing) (m n a b c : ℕ) (cs xs ys : List Mark) → AllByRecursion (Away q) cs → n ≤ m + a → a + b ≤ c → Parts q f g n b xs ys → Parts q f g m c (cs ++ xs) (cs ++ ys)
parts_behind q f g m n a b c cs xs ys h few fit (inl k) = inl (append_each (Away q) cs xs h k)
parts_behind q f g m n a b c cs xs ys h few fit (inr p) = inr (record {
  front = cs ++ p.front;
  at = p.at;
  rest = p.rest;
  other = p.other;
  left = ap (λ z. cs ++ z) p.left ∙ sym (append_assoc cs p.front ((f p.at).0 ++ p.rest));
  right = ap (λ z. cs ++ z) p.right ∙ sym (append_assoc cs p.front ((g p.at).0 ++ p.other));
  away_front = append_each (Away q) cs p.front h p.away_front;
  away_rest = p.away_rest;
  low = (let l = p.low in omega (arith, few, fit, l));
})

pub parts_ahead : (q : Place) (f g : Writing) (m c : ℕ) (xs ys cs bs : List Mark) → AllByRecursion (Away q) cs → Parts q f g m c xs ys → Parts q f g m c (xs ++ cs) (ys ++ bs)
parts_ahead q f g m c xs ys cs bs h (inl k) = inl (append_each (Away q) xs cs k h)
parts_ahead q f g m c xs ys cs bs h (inr p) = inr (record {
  front = p.front;
  at = p.at;
  rest = p.rest ++ cs;
  other = p.other ++ bs;
  left = ap (λ z. z ++ cs) p.left ∙ append_assoc p.front ((f p.at).0 ++ p.rest) cs ∙ ap (λ z. p.front ++ z) (append_assoc (f p.at).0 p.rest cs);
  right = ap (λ z. z ++ bs) p.right ∙ append_assoc p.front ((g p.at).0 ++ p.other) bs ∙ ap (λ z. p.front ++ z) (append_assoc (g p.at).0 p.other bs);
  away_front = p.away_front;
  away_rest = append_each (Away q) p.rest cs p.away_rest h;
  low = p.low;
})

-- children of which one is the node, and how far the margin is widened by those before it
data Kids (q : Place) (f g : Writing) : ℕ → List Writing → List Writing → Type 0 where
  here : (fs gs : List Writing) → AllByRecursion (Each (Away q)) fs → Kids q f g 0 (f ∷ fs) (g ∷ gs)
  later : (c n : ℕ) (h : Writing) (fs gs : List Writing) → Each (Away q) h → Raises c h → Kids q f g n fs gs → Kids q f g (c + n) (h ∷ fs) (h ∷ gs)

turned : (q : Place) (f g : Writing) (m a b c : ℕ) (h k i : Writing) → Each (Away q) h → Raises a h → a + b ≤ c → ((n : ℕ) → Parts q f g n b (k n).0 (i n).0) → Parts q f g m c (in_turn h k m).0 (in_turn h i m).0
turned q f g m a b c h k i away few fit parts = parts_behind q f g m (h m).1 a b c (h m).0 (k (h m).1).0 (i (h m).1).0 (away m) (few m) fit (parts (h m).1)

module _ (spec : Spec) (value other : Reference Place → Value) where
  items_parts : (u q : Place) (own : (b : ℕ) → Away q (Writes b u)) (op : ℕ) (more : Bool) → ShowSame spec value other u op → (f g : Writing) (is : List Item) (n : ℕ) (fs gs : List Writing) → Kids q f g n fs gs → (m : ℕ)
      → Parts q f g m (2 * ons_of_items is + n) (items spec value none_typed u op more is fs m).0 (items spec other none_typed u op more is gs m).0
  items_parts u q own op more same f g [] n fs gs h m = inl tt
  items_parts u q own op more same f g (WritesPieces ps ∷ is) n fs gs h m =
      let e = first_item (WritesPieces ps) is in
      turned q f g m (2 * ons_of_pieces ps) (2 * ons_of_items is + n) (2 * ons_of_items (WritesPieces ps ∷ is) + n) (pieces u ps) (items spec value none_typed u op more is fs) (items spec other none_typed u op more is gs)
      (pieces_each (Away q) u own ps) (pieces_raise u ps) (omega (arith, e)) (items_parts u q own op more same f g is n fs gs h)
  items_parts u q own op more same f g (Child place ∷ is) _ _ _ (here fs gs away) m = by place
    where
      rest : (n : ℕ) → AllByRecursion (Away q) (items spec value none_typed u op more is fs n).0
      rest n = items_each (Away q) u own spec value none_typed op more is fs away n

      there : Around q f g m (2 * ons_of_items (Child place ∷ is) + 0) (in_turn f (items spec value none_typed u op more is fs) m).0 (in_turn g (items spec other none_typed u op more is gs) m).0
      there = record {
        front = [];
        at = m;
        rest = (items spec value none_typed u op more is fs (f m).1).0;
        other = (items spec other none_typed u op more is gs (g m).1).0;
        left = refl;
        right = refl;
        away_front = tt;
        away_rest = rest (f m).1;
        low = stays (2 * ons_of_items (Child place ∷ is) + 0) m;
      }

      by : (p : ChildPlace) → Parts q f g m (2 * ons_of_items (Child place ∷ is) + 0) (in_turn (placed p f) (items spec value none_typed u op more is fs) m).0 (in_turn (placed p g) (items spec other none_typed u op more is gs) m).0
      by Resting = inr there
      by Passed = inr there
      by Hidden = inl (rest m)
  items_parts u q own op more same f g (Child place ∷ is) _ _ _ (later c n h fs gs away few k) m =
      let e = first_item (Child place) is in
      turned q f g m c (2 * ons_of_items is + n) (2 * ons_of_items (Child place ∷ is) + (c + n)) (placed place h) (items spec value none_typed u op more is fs) (items spec other none_typed u op more is gs)
      (placed_each (Away q) place h away) (placed_raises c place h few) (omega (arith, e)) (items_parts u q own op more same f g is n fs gs k)
  items_parts u q own op more same f g (Shows o ∷ is) n fs gs h m =
      let e = first_item (Shows o) is in
      subst (λ z. Parts q f g m (2 * ons_of_items (Shows o ∷ is) + n) (in_turn (shows spec value none_typed u op o) (items spec value none_typed u op more is fs) m).0 (in_turn z (items spec other none_typed u op more is gs) m).0) (same o)
      (turned q f g m 0 (2 * ons_of_items is + n) (2 * ons_of_items (Shows o ∷ is) + n) (shows spec value none_typed u op o) (items spec value none_typed u op more is fs) (items spec other none_typed u op more is gs)
      (shows_each (Away q) u own spec value none_typed op o) (shows_raises spec value none_typed u op o) (omega (arith, e)) (items_parts u q own op more same f g is n fs gs h))
  items_parts u q own op true same f g (Separates ps ∷ is) n fs gs h m =
      let e = first_item (Separates ps) is in
      turned q f g m (2 * ons_of_pieces ps) (2 * ons_of_items is + n) (2 * ons_of_items (Separates ps ∷ is) + n) (pieces u ps) (items spec value none_typed u op true is fs) (items spec other none_typed u op true is gs)
      (pieces_each (Away q) u own ps) (pieces_raise u ps) (omega (arith, e)) (items_parts u q own op true same f g is n fs gs h)
  items_parts u q own op false same f g (Separates ps ∷ is) n fs gs h m =
      let e = first_item (Separates ps) is in
      turned q f g m 0 (2 * ons_of_items is + n) (2 * ons_of_items (Separates ps ∷ is) + n) nothing (items spec value none_typed u op false is fs) (items spec other none_typed u op false is gs)
      (λ m. tt) (stays 0) (omega (arith, e)) (items_parts u q own op false same f g is n fs gs h)

  -- a node and its child whose subterm changes
  module _ (u : Place) (k : ℕ) (alike : AreAlikeOutside (k ∷ u) value other) where
    kid_away : (i : ℕ) → (i ≡ k → ⊥) → (w : Place) → IsAtOrBelow w (i ∷ u) → IsAtOrBelow w (k ∷ u) → ⊥
    kid_away i n w a b = n (one_child w i k u a b)

    shown_same : (op : ℕ) → ShowSame spec value other u op
    shown_same op o = shows_same spec value other u op o (by o.at)
      where
        at_kid : (j : ℕ) → (IsAtOrBelow (j ∷ u) (k ∷ u) ⊎ (IsAtOrBelow (j ∷ u) (k ∷ u) → ⊥)) → ((j ∷ u) ≡ (k ∷ u)) ⊎ (IsAtOrBelow (j ∷ u) (k ∷ u) → ⊥)
        at_kid j (inl b) = inl (ap (λ i. i ∷ u) (one_child (j ∷ u) j k u (below_itself (j ∷ u)) b))
        at_kid j (inr n) = inr n

        by : (n : ℕ) → value (record { node = elim n [ zero ↦ u | suc j ↦ j ∷ u ]; slot = o.slot }) ≡ other (record { node = elim n [ zero ↦ u | suc j ↦ j ∷ u ]; slot = o.slot })
        by zero = alike (record { node = u; slot = o.slot }) (inr (not_below_child u k))
        by (suc j) = alike (record { node = j ∷ u; slot = o.slot }) (at_kid j (below_or_not (j ∷ u) (k ∷ u)))

    kid_same : (i : ℕ) (t : Term) → (i ≡ k → ⊥) → unparsed spec value none_typed (i ∷ u) t ≡ unparsed spec other none_typed (i ∷ u) t
    kid_same i t n = unparsed_same spec value other (i ∷ u) t (λ a b. alike a (inr (kid_away i n a.node b)))

    abbrev SomeKids : (x y : Term) → ℕ → ℕ → Terms → Type 0
    SomeKids x y i j ts =
        (n : ℕ) × (n + 2 * ons_of spec * nodes_of x ≤ 2 * ons_of spec * nodes_of_all ts)
        × Kids (k ∷ u) (unparsed spec value none_typed (k ∷ u) x) (unparsed spec other none_typed (k ∷ u) y) n (unparsed_among spec value none_typed u i ts) (unparsed_among spec other none_typed u i (with_kid ts j y))

    some_kids : (x y : Term) (i j : ℕ) (ts : Terms) → k ≡ j + i → slice_get (terms_of ts) j ≡ Some x → SomeKids x y i j ts
    some_kids x y i j NoTerm at found = absurd (none-some x found)
    some_kids x y i zero (AndTerm t ts) at found =
        let c = 2 * ons_of spec in
        let e : k ≡ i = omega (arith, at) in
        let same : x ≡ t = sym (same_Some t x found) in
        let fs = unparsed_among spec value none_typed u (suc i) ts in
        let gs = unparsed_among spec other none_typed u (suc i) ts in
        let f = unparsed spec value none_typed (k ∷ u) x in
        let g = unparsed spec other none_typed (k ∷ u) y in
        let nodes = ap nodes_of same in
        let d = both_times c (nodes_of x) (nodes_of_all ts) in
        let n = ap (λ z. c * (z + nodes_of_all ts)) nodes in
        let own = here fs gs (among_away spec value none_typed (k ∷ u) u k (below_itself (k ∷ u)) (suc i) ts (omega (arith, at))) in
        let one : f ≡ unparsed spec value none_typed (i ∷ u) t = ap (λ l. unparsed spec value none_typed (l ∷ u) x) e ∙ ap (unparsed spec value none_typed (i ∷ u)) same in
        let two : g ≡ unparsed spec other none_typed (i ∷ u) y = ap (λ l. unparsed spec other none_typed (l ∷ u) y) e in
        (0, omega (arith, d, n), subst (λ z. Kids (k ∷ u) f g 0 (z ∷ fs) (unparsed spec other none_typed (i ∷ u) y ∷ gs)) one (subst (λ z. Kids (k ∷ u) f g 0 (f ∷ fs) (z ∷ gs)) two own))
    some_kids x y i (suc j) (AndTerm t ts) at found =
        let c = 2 * ons_of spec in
        let apart : i ≡ k → ⊥ = λ e. omega (arith, e, at) in
        let next = some_kids x y (suc i) j ts (omega (arith, at)) found in
        let low = next.1 in
        let d = both_times c (nodes_of t) (nodes_of_all ts) in
        let f = unparsed spec value none_typed (k ∷ u) x in
        let g = unparsed spec other none_typed (k ∷ u) y in
        let h = unparsed spec value none_typed (i ∷ u) t in
        let fs = unparsed_among spec value none_typed u (suc i) ts in
        let gs = unparsed_among spec other none_typed u (suc i) (with_kid ts j y) in
        let away : Each (Away (k ∷ u)) h = λ m. owned_away (k ∷ u) u k (below_itself (k ∷ u)) i (λ b. kid_away i apart (k ∷ u) b (below_itself (k ∷ u))) (h m).0 (unparsed_owned spec value none_typed (i ∷ u) t m) in
        (c * nodes_of t + next.0, omega (arith, low, d), subst (λ z. Kids (k ∷ u) f g (c * nodes_of t + next.0) (h ∷ fs) (z ∷ gs)) (kid_same i t apart) (later (c * nodes_of t) next.0 h fs gs away (unparsed_raises spec value none_typed (i ∷ u) t) next.2))

    goes_on_same : (ts : Terms) (j : ℕ) (x y : Term) → slice_get (terms_of ts) j ≡ Some x → has_kids x ≡ has_kids y → goes_on ts ≡ goes_on (with_kid ts j y)
    goes_on_same NoTerm j x y found e = refl
    goes_on_same (AndTerm t NoTerm) zero x y found e = refl
    goes_on_same (AndTerm t NoTerm) (suc j) x y found e = refl
    goes_on_same (AndTerm t (AndTerm s ts)) zero x y found e = refl
    goes_on_same (AndTerm t (AndTerm s ts)) (suc zero) x y found e = ap has_kids (same_Some s x found) ∙ e
    goes_on_same (AndTerm t (AndTerm s ts)) (suc (suc j)) x y found e = refl

    pub node_parts : (op n : ℕ) (elided : Bool) (ts : Terms) (x y : Term) → slice_get (terms_of ts) k ≡ Some x → has_kids x ≡ has_kids y
        → (c : ℕ) × (c + 2 * ons_of spec * nodes_of x ≤ 2 * ons_of spec * nodes_of (Node op n elided ts))
        × ((m : ℕ) → Parts (k ∷ u) (unparsed spec value none_typed (k ∷ u) x) (unparsed spec other none_typed (k ∷ u) y) m c (unparsed spec value none_typed u (Node op n elided ts) m).0 (unparsed spec other none_typed u (Node op n elided (with_kid ts k y)) m).0)
    node_parts op n elided ts x y found e =
        let some = some_kids x y 0 k ts (omega arith) found in
        let d = one_more (2 * ons_of spec) (nodes_of_all ts) in
        let low = some.1 in
        let scheme = scheme_raises spec op n in
        (2 * ons_of_items is + some.0, omega (arith, d, low, scheme), (λ m. parts_ahead (k ∷ u) f g m (2 * ons_of_items is + some.0) (old m).0 (new m).0 (Closed u (cells_in (old m).0) ∷ []) (Closed u (cells_in (new m).0) ∷ []) (own, tt) (written elided some.0 some.2 m)))
      where
        is : List Item
        is = items_of spec op n

        f : Writing
        f = unparsed spec value none_typed (k ∷ u) x

        g : Writing
        g = unparsed spec other none_typed (k ∷ u) y

        fs : List Writing
        fs = unparsed_among spec value none_typed u 0 ts

        gs : List Writing
        gs = unparsed_among spec other none_typed u 0 (with_kid ts k y)

        old : Writing
        old = content spec value none_typed u None elided (items spec value none_typed u op (goes_on ts) is fs)

        new : Writing
        new = content spec other none_typed u None elided (items spec other none_typed u op (goes_on (with_kid ts k y)) is gs)

        own : IsAtOrBelow u (k ∷ u) → ⊥
        own = not_below_child u k

        written : (b : Bool) (c : ℕ) → Kids (k ∷ u) f g c fs gs → (m : ℕ)
            → Parts (k ∷ u) f g m (2 * ons_of_items is + c) (content spec value none_typed u None b (items spec value none_typed u op (goes_on ts) is fs) m).0 (content spec other none_typed u None b (items spec other none_typed u op (goes_on (with_kid ts k y)) is gs) m).0
        written true c kids m = inl (bytes_each (Away (k ∷ u)) u (λ b. own) (46 ∷ 46 ∷ 46 ∷ []) m)
        written false c kids m =
            subst (λ t. Parts (k ∷ u) f g m (2 * ons_of_items is + c) (items spec value none_typed u op (goes_on ts) is fs m).0 (items spec other none_typed u op t is gs m).0) (goes_on_same ts k x y found e)
            (items_parts u (k ∷ u) (λ b. own) op (goes_on ts) (shown_same op) f g is c fs gs kids m)
