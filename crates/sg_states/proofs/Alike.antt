-- A term writes the same where the same is typed at its places and the values that its nodes show are the same.
use Rattle.std.specs.Prelude.{◌≡◌, refl, ℕ, suc, ◌+◌, ◌%◌, Bool, true, false, if◌then◌else◌, List, [], ◌∷◌, ◌++◌, length, All, Option, Some, None, slice_get, option_map, option_and_then, unwrap_or, MatchOption}
use Rattle.std.proofs.Common.{ap, ◌∙◌, subst, arith}
use Rattle.std.proofs.lemmas.List.Elements.{All-nil, All-head, All-tail}
use Rattle.sg_kinds.specs.Values.{Bytes, Value}
use Rattle.sg_kinds.specs.Terms.{Term, Terms, Leaf, Node, NoTerm, AndTerm, terms_of}
use Rattle.sg_kinds.specs.Places.{Place, child, sub}
use Rattle.sg_kinds.specs.Nets.{Reference}
use Rattle.sg_kinds.specs.Typing.{slot_type}
use Rattle.sg_kinds.specs.Sound.{HasSchemes, IsItem, IsScheme}
use Rattle.sg_kinds.specs.Specification.{has_shape, is_leaf_shape}
use Rattle.sg_kinds.specs.declared.spec.Spec.{Spec}
use Rattle.sg_kinds.specs.declared.spec.Operator.{Operator}
use Rattle.sg_kinds.specs.declared.spec.Occurrence.{Occurrence}
use Rattle.sg_kinds.specs.declared.spec.Scheme.{Scheme}
use Rattle.sg_kinds.specs.declared.spec.Item.{Item}
use Rattle.sg_kinds.specs.declared.spec.Item.TheVariants.{Writes as WritesPieces, Child, Shows, Separates}
use Rattle.sg_kinds.specs.declared.marks.ChildPlace.{ChildPlace}
use Rattle.sg_kinds.specs.declared.marks.ChildPlace.TheVariants.{Resting, Passed, Hidden}
use Rattle.sg_kinds.proofs.Elementary.{slice_get-All}
use Rattle.sg_unparse.specs.Cells.{Mark, Closed, Writing, nothing, in_turn, plain, pieces, cells_in, ended, placed, goes_on, items_of, shows, items, content, reference, unparsed, unparsed_among, marks_of}
use Rattle.sg_unparse.specs.Printing.{value_text}

abbrev pub Same : Writing → Writing → Type 0
Same f g = (m : ℕ) → f m ≡ g m

abbrev put_behind : List Mark → List Mark × ℕ → List Mark × ℕ
put_behind a z = (a ++ z.0, z.1)

abbrev with_end : Place → List Mark × ℕ → List Mark × ℕ
with_end u z = (z.0 ++ Closed u (cells_in z.0) ∷ [], z.1)

turn_same : (f f' g g' : Writing) → Same f f' → Same g g' → Same (in_turn f g) (in_turn f' g')
turn_same f f' g g' h k m = ap (put_behind (f m).0) (k (f m).1) ∙ ap (λ (z : List Mark × ℕ). put_behind z.0 (g' z.1)) (h m)

ended_same : (u : Place) (f g : Writing) → Same f g → Same (ended u f) (ended u g)
ended_same u f g h m = ap (with_end u) (h m)

placed_same : (p : ChildPlace) (f g : Writing) → Same f g → Same (placed p f) (placed p g)
placed_same Resting f g h m = h m
placed_same Passed f g h m = h m
placed_same Hidden f g h m = refl

data AllSame : List Writing → List Writing → Type 0 where
  no_more : AllSame [] []
  and_more : (f g : Writing) (fs gs : List Writing) → Same f g → AllSame fs gs → AllSame (f ∷ fs) (g ∷ gs)

-- the items of a scheme are sound
items_sound : (spec : Spec) → HasSchemes spec → (op n : ℕ) → All (IsItem spec op) (items_of spec op n)
items_sound spec sound op n = by (slice_get spec.ops op) refl
  where
    scheme : (o : Operator) → slice_get spec.ops op ≡ Some o → (s : Option Scheme) → slice_get o.schemes (n % length o.schemes) ≡ s → All (IsItem spec op) (unwrap_or (option_map (λ (s : Scheme). s.items) s) [])
    scheme o e None at = All-nil (IsItem spec op)
    scheme o e (Some s) at = (slice_get-All (IsScheme spec op) o.schemes (n % length o.schemes) s (sound.schemes op o e) at).shown

    by : (w : Option Operator) → slice_get spec.ops op ≡ w → All (IsItem spec op) (unwrap_or (option_map (λ (s : Scheme). s.items) (option_and_then (λ (o : Operator). slice_get o.schemes (n % length o.schemes)) w)) [])
    by None e = All-nil (IsItem spec op)
    by (Some o) e = scheme o e (slice_get o.schemes (n % length o.schemes)) refl

-- what is shown has a type
shown_typed : (spec : Spec) (op : ℕ) (o : Occurrence) → IsItem spec op (Shows o) → (p : ℕ) × (slot_type spec op o.at o.slot ≡ Some p)
shown_typed spec op o is = by (slot_type spec op o.at o.slot) refl is
  where
    by : (w : Option ℕ) → slot_type spec op o.at o.slot ≡ w → MatchOption w ⊥ (λ p. has_shape spec.phyla is_leaf_shape p ≡ true) → (p : ℕ) × (slot_type spec op o.at o.slot ≡ Some p)
    by None e h = absurd h
    by (Some p) e h = (p, e)

-- the same values of what the node of an operator at a place shows
abbrev pub ShowsSame : Spec → (value other : Reference Place → Value) → Place → ℕ → Type 0
ShowsSame spec value other u op = (o : Occurrence) (p : ℕ) → slot_type spec op o.at o.slot ≡ Some p → value (reference u o) ≡ other (reference u o)

module _ (spec : Spec) (sound : HasSchemes spec) (value other : Reference Place → Value) (typed others : Place → Option Bytes) where
  items_same : (u : Place) (op : ℕ) → ShowsSame spec value other u op → (more : Bool) (is : List Item) → All (IsItem spec op) is → (fs gs : List Writing) → AllSame fs gs
      → Same (items spec value typed u op more is fs) (items spec other others u op more is gs)
  items_same u op same more [] all fs gs h m = refl
  items_same u op same more (WritesPieces ps ∷ is) all fs gs h m =
      turn_same (pieces u ps) (pieces u ps) (items spec value typed u op more is fs) (items spec other others u op more is gs) (λ m. refl)
      (items_same u op same more is (All-tail (IsItem spec op) (WritesPieces ps) is all) fs gs h) m
  items_same u op same more (Child place ∷ is) all [] [] no_more m = items_same u op same more is (All-tail (IsItem spec op) (Child place) is all) [] [] no_more m
  items_same u op same more (Child place ∷ is) all (f ∷ fs) (g ∷ gs) (and_more _ _ _ _ here h) m =
      turn_same (placed place f) (placed place g) (items spec value typed u op more is fs) (items spec other others u op more is gs) (placed_same place f g here)
      (items_same u op same more is (All-tail (IsItem spec op) (Child place) is all) fs gs h) m
  items_same u op same more (Child place ∷ is) all [] (g ∷ gs) h m = elim h [ ]
  items_same u op same more (Child place ∷ is) all (f ∷ fs) [] h m = elim h [ ]
  items_same u op same more (Shows o ∷ is) all fs gs h m =
      let typed_so = shown_typed spec op o (All-head (IsItem spec op) (Shows o) is all) in
      let equal = same o typed_so.0 typed_so.1 in
      turn_same (shows spec value typed u op o) (shows spec other others u op o) (items spec value typed u op more is fs) (items spec other others u op more is gs)
      (λ m. ap (λ v. plain u (value_text spec (unwrap_or (slot_type spec op o.at o.slot) 0) v) m) equal)
      (items_same u op same more is (All-tail (IsItem spec op) (Shows o) is all) fs gs h) m
  items_same u op same more (Separates ps ∷ is) all fs gs h m =
      turn_same (if more then pieces u ps else nothing) (if more then pieces u ps else nothing) (items spec value typed u op more is fs) (items spec other others u op more is gs) (λ m. refl)
      (items_same u op same more is (All-tail (IsItem spec op) (Separates ps) is all) fs gs h) m

  content_same : (u : Place) (o : Option Bytes) (elided : Bool) (f g : Writing) → Same f g → Same (content spec value typed u o elided f) (content spec other others u o elided g)
  content_same u (Some text) elided f g h m = refl
  content_same u None true f g h m = refl
  content_same u None false f g h m = h m

  node_same : (u : Place) (elided : Bool) (f g : Writing) → typed u ≡ others u → Same f g → Same (ended u (content spec value typed u (typed u) elided f)) (ended u (content spec other others u (others u) elided g))
  node_same u elided f g e h =
      subst (λ o. Same (ended u (content spec value typed u (typed u) elided f)) (ended u (content spec other others u o elided g))) e
      (ended_same u (content spec value typed u (typed u) elided f) (content spec other others u (typed u) elided g) (content_same u (typed u) elided f g h))

  module _ (t : Term) (same_typed : (u : Place) (x : Term) → sub t u ≡ Some x → typed u ≡ others u)
      (same_values : (u : Place) (op n : ℕ) (elided : Bool) (ts : Terms) → sub t u ≡ Some (Node op n elided ts) → ShowsSame spec value other u op) where
    -- the children from a number on are those of a place
    abbrev AreKids : Place → ℕ → Terms → Type 0
    AreKids u k ts = (j : ℕ) (x : Term) → slice_get (terms_of ts) j ≡ Some x → sub t ((j + k) ∷ u) ≡ Some x

    next_kids : (u : Place) (k : ℕ) (y : Term) (ts : Terms) → AreKids u k (AndTerm y ts) → AreKids u (suc k) ts
    next_kids u k y ts are j x at = (let e : suc j + k ≡ j + suc k = omega arith in subst (λ i. sub t (i ∷ u) ≡ Some x) e (are (suc j) x at))

    first_kid : (u : Place) (k : ℕ) (y : Term) (ts : Terms) → AreKids u k (AndTerm y ts) → sub t (k ∷ u) ≡ Some y
    first_kid u k y ts are = (let e : 0 + k ≡ k = omega arith in subst (λ i. sub t (i ∷ u) ≡ Some y) e (are 0 y refl))

    all_kids : (u : Place) (op n : ℕ) (elided : Bool) (ts : Terms) → sub t u ≡ Some (Node op n elided ts) → AreKids u 0 ts
    all_kids u op n elided ts at j x found =
        let e : j ≡ j + 0 = omega arith in
        subst (λ i. sub t (i ∷ u) ≡ Some x) e (ap (option_and_then (child j)) at ∙ found)

    mutual
      pub unparsed_same : (u : Place) (x : Term) → sub t u ≡ Some x → Same (unparsed spec value typed u x) (unparsed spec other others u x)
      unparsed_same u (Leaf p v) at = node_same u false (plain u (value_text spec p v)) (plain u (value_text spec p v)) (same_typed u (Leaf p v) at) (λ m. refl)
      unparsed_same u (Node op n elided ts) at =
          node_same u elided (items spec value typed u op (goes_on ts) (items_of spec op n) (unparsed_among spec value typed u 0 ts)) (items spec other others u op (goes_on ts) (items_of spec op n) (unparsed_among spec other others u 0 ts))
          (same_typed u (Node op n elided ts) at)
          (items_same u op (same_values u op n elided ts at) (goes_on ts) (items_of spec op n) (items_sound spec sound op n) (unparsed_among spec value typed u 0 ts) (unparsed_among spec other others u 0 ts)
          (among_same u 0 ts (all_kids u op n elided ts at)))

      among_same : (u : Place) (k : ℕ) (ts : Terms) → AreKids u k ts → AllSame (unparsed_among spec value typed u k ts) (unparsed_among spec other others u k ts)
      among_same u k NoTerm are = no_more
      among_same u k (AndTerm y ts) are =
          and_more (unparsed spec value typed (k ∷ u) y) (unparsed spec other others (k ∷ u) y) (unparsed_among spec value typed u (suc k) ts) (unparsed_among spec other others u (suc k) ts)
          (unparsed_same (k ∷ u) y (first_kid u k y ts are)) (among_same u (suc k) ts (next_kids u k y ts are))

    pub marks_alike : marks_of spec value typed t ≡ marks_of spec other others t
    marks_alike = ap (λ z. z.0) (unparsed_same [] t refl 0)
