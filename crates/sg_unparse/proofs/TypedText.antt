-- What is typed in the place of a node changes nothing before it.
use Rattle.std.specs.Prelude.{◌≡◌, ◌⊎◌, refl, ℕ, suc, Bool, true, false, if◌then◌else◌, List, [], ◌∷◌, ◌++◌, Option, Some, None}
use Rattle.std.proofs.Common.{sym, ap, ◌∙◌, subst, inl, inr, append_assoc}
use Rattle.sg_kinds.specs.Values.{Bytes, Value}
use Rattle.sg_kinds.specs.Terms.{Term, Terms, Leaf, Node, NoTerm, AndTerm}
use Rattle.sg_kinds.specs.Places.{Place}
use Rattle.sg_kinds.specs.Nets.{Reference}
use Rattle.sg_kinds.specs.declared.spec.Spec.{Spec}
use Rattle.sg_kinds.specs.declared.spec.Item.{Item}
use Rattle.sg_kinds.specs.declared.spec.Item.TheVariants.{Writes as WritesPieces, Child, Shows, Separates}
use Rattle.sg_kinds.specs.declared.marks.ChildPlace.{ChildPlace}
use Rattle.sg_kinds.specs.declared.marks.ChildPlace.TheVariants.{Resting, Passed, Hidden}
use Rattle.sg_groves.specs.Evaluated.{IsAtOrBelow, is_at_or_below}
use Rattle.sg_groves.proofs.Below.{below_or_not, below_to}
use Rattle.sg_unparse.specs.Cells.{Mark, Closed, Writing, nothing, in_turn, plain, pieces, cells_in, ended, placed, goes_on, items_of, shows, items, content, unparsed, unparsed_among}
use Rattle.sg_unparse.specs.Printing.{value_text}
use Rattle.sg_unparse.specs.Owned.{place_of_mark, AreOwned, before, AreTypedAlike}
use Rattle.sg_unparse.proofs.Owners.{over, unparsed_owned}

-- two streams are the same up to a mark of a node at or below v in each
record Part (v : Place) (xs ys : List Mark) : Type 0 where
  front : List Mark
  x : Mark
  y : Mark
  after_x : List Mark
  after_y : List Mark
  left : xs ≡ front ++ x ∷ after_x
  right : ys ≡ front ++ y ∷ after_y
  x_there : IsAtOrBelow (place_of_mark x) v
  y_there : IsAtOrBelow (place_of_mark y) v

abbrev Agree : Place → Writing → Writing → Type 0
Agree v f g = (m : ℕ) → (f m ≡ g m) ⊎ Part v (f m).0 (g m).0

behind : (v : Place) (a xs ys : List Mark) → Part v xs ys → Part v (a ++ xs) (a ++ ys)
behind v a xs ys p = record {
  front = a ++ p.front;
  x = p.x;
  y = p.y;
  after_x = p.after_x;
  after_y = p.after_y;
  left = ap (λ r. a ++ r) p.left ∙ sym (append_assoc a p.front (p.x ∷ p.after_x));
  right = ap (λ r. a ++ r) p.right ∙ sym (append_assoc a p.front (p.y ∷ p.after_y));
  x_there = p.x_there;
  y_there = p.y_there;
}

ahead : (v : Place) (xs ys a b : List Mark) → Part v xs ys → Part v (xs ++ a) (ys ++ b)
ahead v xs ys a b p = record {
  front = p.front;
  x = p.x;
  y = p.y;
  after_x = p.after_x ++ a;
  after_y = p.after_y ++ b;
  left = ap (λ r. r ++ a) p.left ∙ append_assoc p.front (p.x ∷ p.after_x) a;
  right = ap (λ r. r ++ b) p.right ∙ append_assoc p.front (p.y ∷ p.after_y) b;
  x_there = p.x_there;
  y_there = p.y_there;
}

abbrev put_behind : List Mark → List Mark × ℕ → List Mark × ℕ
put_behind a z = (a ++ z.0, z.1)

abbrev with_end : Place → List Mark × ℕ → List Mark × ℕ
with_end u z = (z.0 ++ Closed u (cells_in z.0) ∷ [], z.1)

turn_agrees : (v : Place) (f f' g g' : Writing) → Agree v f f' → Agree v g g' → Agree v (in_turn f g) (in_turn f' g')
turn_agrees v f f' g g' h k m = by (h m)
  where
    Turned : List Mark × ℕ → Type 0
    Turned w = (in_turn f g m ≡ put_behind w.0 (g' w.1)) ⊎ Part v (in_turn f g m).0 (put_behind w.0 (g' w.1)).0

    both : (z : List Mark × ℕ) → ((g z.1 ≡ g' z.1) ⊎ Part v (g z.1).0 (g' z.1).0) → (put_behind z.0 (g z.1) ≡ put_behind z.0 (g' z.1)) ⊎ Part v (z.0 ++ (g z.1).0) (z.0 ++ (g' z.1).0)
    both z (inl e) = inl (ap (put_behind z.0) e)
    both z (inr p) = inr (behind v z.0 (g z.1).0 (g' z.1).0 p)

    by : ((f m ≡ f' m) ⊎ Part v (f m).0 (f' m).0) → (in_turn f g m ≡ in_turn f' g' m) ⊎ Part v (in_turn f g m).0 (in_turn f' g' m).0
    by (inl same) = subst Turned same (both (f m) (k (f m).1))
    by (inr p) = inr (ahead v (f m).0 (f' m).0 (g (f m).1).0 (g' (f' m).1).0 p)

same_agrees : (v : Place) (f : Writing) → Agree v f f
same_agrees v f m = inl refl

ended_agrees : (v u : Place) (f g : Writing) → Agree v f g → Agree v (ended u f) (ended u g)
ended_agrees v u f g h m = by (h m)
  where
    by : ((f m ≡ g m) ⊎ Part v (f m).0 (g m).0) → (ended u f m ≡ ended u g m) ⊎ Part v (ended u f m).0 (ended u g m).0
    by (inl e) = inl (ap (with_end u) e)
    by (inr p) = inr (ahead v (f m).0 (g m).0 (Closed u (cells_in (f m).0) ∷ []) (Closed u (cells_in (g m).0) ∷ []) p)

placed_agrees : (v : Place) (p : ChildPlace) (f g : Writing) → Agree v f g → Agree v (placed p f) (placed p g)
placed_agrees v Resting f g h m = h m
placed_agrees v Passed f g h m = h m
placed_agrees v Hidden f g h m = inl refl

-- a node that is at or below v writes only there
inside : (u v : Place) (f g : Writing) → IsAtOrBelow u v → ((m : ℕ) → AreOwned u (ended u f m).0) → ((m : ℕ) → AreOwned u (ended u g m).0) → Agree v (ended u f) (ended u g)
inside u v f g b h k m = by (f m).0 (g m).0 (h m) (k m)
  where
    by : (xs ys : List Mark) → AreOwned u (xs ++ Closed u (cells_in (f m).0) ∷ []) → AreOwned u (ys ++ Closed u (cells_in (g m).0) ∷ []) → (ended u f m ≡ ended u g m) ⊎ Part v (xs ++ Closed u (cells_in (f m).0) ∷ []) (ys ++ Closed u (cells_in (g m).0) ∷ [])
    by [] [] p q = inr (record { front = []; x = Closed u (cells_in (f m).0); y = Closed u (cells_in (g m).0); after_x = []; after_y = []; left = refl; right = refl; x_there = b; y_there = b })
    by [] (y ∷ ys) p q = inr (record { front = []; x = Closed u (cells_in (f m).0); y = y; after_x = []; after_y = ys ++ Closed u (cells_in (g m).0) ∷ []; left = refl; right = refl; x_there = b; y_there = over (place_of_mark y) u v q.0 b })
    by (x ∷ xs) [] p q = inr (record { front = []; x = x; y = Closed u (cells_in (g m).0); after_x = xs ++ Closed u (cells_in (f m).0) ∷ []; after_y = []; left = refl; right = refl; x_there = over (place_of_mark x) u v p.0 b; y_there = b })
    by (x ∷ xs) (y ∷ ys) p q = inr (record { front = []; x = x; y = y; after_x = xs ++ Closed u (cells_in (f m).0) ∷ []; after_y = ys ++ Closed u (cells_in (g m).0) ∷ []; left = refl; right = refl; x_there = over (place_of_mark x) u v p.0 b; y_there = over (place_of_mark y) u v q.0 b })

data AllAgree (v : Place) : List Writing → List Writing → Type 0 where
  no_more : AllAgree v [] []
  and_more : (f g : Writing) (fs gs : List Writing) → Agree v f g → AllAgree v fs gs → AllAgree v (f ∷ fs) (g ∷ gs)

module _ (spec : Spec) (value : Reference Place → Value) (typed others : Place → Option Bytes) (v : Place) (alike : AreTypedAlike v typed others) where
  items_agree : (u : Place) (op : ℕ) (more : Bool) (is : List Item) (fs gs : List Writing) → AllAgree v fs gs → Agree v (items spec value typed u op more is fs) (items spec value others u op more is gs)
  items_agree u op more [] fs gs h m = inl refl
  items_agree u op more (WritesPieces ps ∷ is) fs gs h m = turn_agrees v (pieces u ps) (pieces u ps) (items spec value typed u op more is fs) (items spec value others u op more is gs) (same_agrees v (pieces u ps)) (items_agree u op more is fs gs h) m
  items_agree u op more (Child place ∷ is) [] [] no_more m = items_agree u op more is [] [] no_more m
  items_agree u op more (Child place ∷ is) (f ∷ fs) (g ∷ gs) (and_more _ _ _ _ here h) m = turn_agrees v (placed place f) (placed place g) (items spec value typed u op more is fs) (items spec value others u op more is gs) (placed_agrees v place f g here) (items_agree u op more is fs gs h) m
  items_agree u op more (Child place ∷ is) [] (g ∷ gs) h m = elim h [ ]
  items_agree u op more (Child place ∷ is) (f ∷ fs) [] h m = elim h [ ]
  items_agree u op more (Shows o ∷ is) fs gs h m = turn_agrees v (shows spec value typed u op o) (shows spec value others u op o) (items spec value typed u op more is fs) (items spec value others u op more is gs) (λ m. inl refl) (items_agree u op more is fs gs h) m
  items_agree u op more (Separates ps ∷ is) fs gs h m = turn_agrees v (if more then pieces u ps else nothing) (if more then pieces u ps else nothing) (items spec value typed u op more is fs) (items spec value others u op more is gs) (λ m. inl refl) (items_agree u op more is fs gs h) m

  content_agrees : (u : Place) (o : Option Bytes) (elided : Bool) (f g : Writing) → Agree v f g → Agree v (content spec value typed u o elided f) (content spec value others u o elided g)
  content_agrees u (Some text) elided f g h m = inl refl
  content_agrees u None true f g h m = inl refl
  content_agrees u None false f g h m = h m

  outside : (u : Place) (elided : Bool) (f g : Writing) → (IsAtOrBelow u v → ⊥) → Agree v f g → Agree v (ended u (content spec value typed u (typed u) elided f)) (ended u (content spec value others u (others u) elided g))
  outside u elided f g n h =
      subst (λ o. Agree v (ended u (content spec value typed u (typed u) elided f)) (ended u (content spec value others u o elided g))) (alike u n)
      (ended_agrees v u (content spec value typed u (typed u) elided f) (content spec value others u (typed u) elided g) (content_agrees u (typed u) elided f g h))

  -- a leaf or a node with its children
  pick : (u : Place) (t : Term) (elided : Bool) (f g : Writing) → ((m : ℕ) → AreOwned u (ended u (content spec value typed u (typed u) elided f) m).0) → ((m : ℕ) → AreOwned u (ended u (content spec value others u (others u) elided g) m).0) → Agree v f g → (IsAtOrBelow u v ⊎ (IsAtOrBelow u v → ⊥)) → Agree v (ended u (content spec value typed u (typed u) elided f)) (ended u (content spec value others u (others u) elided g))
  pick u t elided f g h k agree (inl b) = inside u v (content spec value typed u (typed u) elided f) (content spec value others u (others u) elided g) b h k
  pick u t elided f g h k agree (inr n) = outside u elided f g n agree

  mutual
    unparsed_agrees : (u : Place) (t : Term) → Agree v (unparsed spec value typed u t) (unparsed spec value others u t)
    unparsed_agrees u (Leaf p w) =
        let own = plain u (value_text spec p w) in
        pick u (Leaf p w) false own own (unparsed_owned spec value typed u (Leaf p w)) (unparsed_owned spec value others u (Leaf p w)) (same_agrees v own) (below_or_not u v)
    unparsed_agrees u (Node op n elided ts) =
        let f = items spec value typed u op (goes_on ts) (items_of spec op n) (unparsed_among spec value typed u 0 ts) in
        let g = items spec value others u op (goes_on ts) (items_of spec op n) (unparsed_among spec value others u 0 ts) in
        let agree = items_agree u op (goes_on ts) (items_of spec op n) (unparsed_among spec value typed u 0 ts) (unparsed_among spec value others u 0 ts) (among_agree u 0 ts) in
        pick u (Node op n elided ts) elided f g (unparsed_owned spec value typed u (Node op n elided ts)) (unparsed_owned spec value others u (Node op n elided ts)) agree (below_or_not u v)

    among_agree : (u : Place) (k : ℕ) (ts : Terms) → AllAgree v (unparsed_among spec value typed u k ts) (unparsed_among spec value others u k ts)
    among_agree u k NoTerm = no_more
    among_agree u k (AndTerm t ts) =
        and_more (unparsed spec value typed (k ∷ u) t) (unparsed spec value others (k ∷ u) t) (unparsed_among spec value typed u (suc k) ts) (unparsed_among spec value others u (suc k) ts)
        (unparsed_agrees (k ∷ u) t) (among_agree u (suc k) ts)

  pub before_typed : (u : Place) (t : Term) (m : ℕ) → before v (unparsed spec value typed u t m).0 ≡ before v (unparsed spec value others u t m).0
  before_typed u t m = by (unparsed_agrees u t m)
    where
      same_front : (front : List Mark) (x y : Mark) (xs ys : List Mark) → IsAtOrBelow (place_of_mark x) v → IsAtOrBelow (place_of_mark y) v → before v (front ++ x ∷ xs) ≡ before v (front ++ y ∷ ys)
      same_front [] x y xs ys a b =
          ap (λ t. if t then [] else x ∷ before v xs) (below_to (place_of_mark x) v a) ∙ sym (ap (λ t. if t then [] else y ∷ before v ys) (below_to (place_of_mark y) v b))
      same_front (z ∷ front) x y xs ys a b = ap (λ r. if is_at_or_below (place_of_mark z) v then [] else z ∷ r) (same_front front x y xs ys a b)

      by : ((unparsed spec value typed u t m ≡ unparsed spec value others u t m) ⊎ Part v (unparsed spec value typed u t m).0 (unparsed spec value others u t m).0) → before v (unparsed spec value typed u t m).0 ≡ before v (unparsed spec value others u t m).0
      by (inl e) = ap (λ z. before v z.0) e
      by (inr p) = ap (before v) p.left ∙ same_front p.front p.x p.y p.after_x p.after_y p.x_there p.y_there ∙ sym (ap (before v) p.right)
