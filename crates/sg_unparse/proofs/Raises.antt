-- How far the margin is widened by what is written.
use Rattle.std.specs.Prelude.{◌≡◌, refl, ℕ, zero, suc, ◌+◌, ◌*◌, ◌≤◌, ◌%◌, Bool, true, false, ◌==◌, if◌then◌else◌, List, [], ◌∷◌, length, Option, Some, None, slice_get, option_map, option_and_then, unwrap_or, ⊤}
use Rattle.std.specs.List.{sum_by}
use Rattle.std.proofs.Common.{sym, ap, arith}
use Rattle.std.proofs.lemmas.List.Sums.{sum_by-cons}
use Rattle.std.proofs.lemmas.Option.{none-some, same_Some}
use Rattle.sg_kinds.specs.Values.{Bytes, Value}
use Rattle.sg_kinds.specs.Terms.{Term, Terms, Leaf, Node, NoTerm, AndTerm, nodes_of, nodes_of_all}
use Rattle.sg_kinds.specs.Places.{Place}
use Rattle.sg_kinds.specs.Nets.{Reference}
use Rattle.sg_kinds.specs.Typing.{slot_type}
use Rattle.sg_kinds.specs.declared.spec.Spec.{Spec}
use Rattle.sg_kinds.specs.declared.spec.Operator.{Operator}
use Rattle.sg_kinds.specs.declared.spec.Scheme.{Scheme}
use Rattle.sg_kinds.specs.declared.spec.Occurrence.{Occurrence}
use Rattle.sg_kinds.specs.declared.spec.Piece.{Piece}
use Rattle.sg_kinds.specs.declared.spec.Piece.TheVariants.{Written, Newline, Margin}
use Rattle.sg_kinds.specs.declared.spec.Item.{Item}
use Rattle.sg_kinds.specs.declared.spec.Item.TheVariants.{Writes as WritesPieces, Child, Shows, Separates}
use Rattle.sg_kinds.specs.declared.marks.ChildPlace.{ChildPlace}
use Rattle.sg_kinds.specs.declared.marks.ChildPlace.TheVariants.{Resting, Passed, Hidden}
use Rattle.sg_unparse.specs.Cells.{Writing, nothing, in_turn, as_they_are, newline, plain, piece, pieces, placed, goes_on, reference, items_of, shows, items, content, unparsed, unparsed_among}
use Rattle.sg_unparse.specs.Printing.{value_text}
use Rattle.sg_unparse.specs.Margins.{ons_of_piece, ons_of_pieces, ons_of_item, ons_of_items, ons_of_schemes, ons_of}

-- the margin behind a writing is wider by at most so much
abbrev pub Raises : ℕ → Writing → Type 0
Raises c f = (m : ℕ) → (f m).1 ≤ m + c

-- children that widen it by at most so much together
abbrev pub AllRaise : List Writing → ℕ → Type 0
AllRaise [] n = ⊤
AllRaise (f ∷ fs) n = (c : ℕ) × (d : ℕ) × (c + d ≤ n) × Raises c f × AllRaise fs d

pub stays : (c m : ℕ) → m ≤ m + c
stays c m = omega arith

turn_raises : (a b c : ℕ) (f g : Writing) → a + b ≤ c → Raises a f → Raises b g → Raises c (in_turn f g)
turn_raises a b c f g few h k m = let x = h m in let y = k (f m).1 in omega (arith, few, x, y)

plain_raises : (u : Place) (s : Bytes) → Raises 0 (plain u s)
plain_raises u [] m = stays 0 m
plain_raises u (b ∷ s) m = turn_raises 0 0 0 (if b == 10 then newline u else as_they_are u (b ∷ [])) (plain u s) (stays 0 0) (first (b == 10)) (plain_raises u s) m
  where
    first : (t : Bool) → Raises 0 (if t then newline u else as_they_are u (b ∷ []))
    first true m = stays 0 m
    first false m = stays 0 m

piece_raises : (u : Place) (p : Piece) → Raises (2 * ons_of_piece p) (piece u p)
piece_raises u (Written s) m = stays 0 m
piece_raises u Newline m = stays 0 m
piece_raises u (Margin back on) m = omega arith

pub pieces_raise : (u : Place) (ps : List Piece) → Raises (2 * ons_of_pieces ps) (pieces u ps)
pieces_raise u [] m = stays 0 m
pieces_raise u (p ∷ ps) m =
    let e = sum_by-cons ons_of_piece p ps in
    turn_raises (2 * ons_of_piece p) (2 * ons_of_pieces ps) (2 * ons_of_pieces (p ∷ ps)) (piece u p) (pieces u ps) (omega (arith, e)) (piece_raises u p) (pieces_raise u ps) m

pub placed_raises : (c : ℕ) (p : ChildPlace) (f : Writing) → Raises c f → Raises c (placed p f)
placed_raises c Resting f h m = h m
placed_raises c Passed f h m = h m
placed_raises c Hidden f h m = stays c m

pub shows_raises : (spec : Spec) (value : Reference Place → Value) (typed : Place → Option Bytes) (u : Place) (op : ℕ) (o : Occurrence) → Raises 0 (shows spec value typed u op o)
shows_raises spec value typed u op o = plain_raises u (value_text spec (unwrap_or (slot_type spec op o.at o.slot) 0) (value (reference u o)))

-- the first item and the others
pub first_item : (i : Item) (is : List Item) → ons_of_item i + ons_of_items is ≡ ons_of_items (i ∷ is)
first_item i is = sym (sum_by-cons ons_of_item i is)

-- an element of a sum
in_sum : {X : Type 0} (f : X → ℕ) (xs : List X) (k : ℕ) (x : X) → slice_get xs k ≡ Some x → f x ≤ sum_by f xs
in_sum f [] k x at = absurd (none-some x at)
in_sum f (y ∷ xs) zero x at = let e = sum_by-cons f y xs in let same = ap f (same_Some y x at) in omega (arith, e, same)
in_sum f (y ∷ xs) (suc k) x at = let e = sum_by-cons f y xs in let h = in_sum f xs k x at in omega (arith, e, h)

pub scheme_raises : (spec : Spec) (op n : ℕ) → ons_of_items (items_of spec op n) ≤ ons_of spec
scheme_raises spec op n = by (slice_get spec.ops op) refl
  where
    scheme : (o : Operator) → ons_of_schemes o.schemes ≤ ons_of spec → (s : Option Scheme) → slice_get o.schemes (n % length o.schemes) ≡ s → ons_of_items (unwrap_or (option_map (λ (s : Scheme). s.items) s) []) ≤ ons_of spec
    scheme o low None at = omega arith
    scheme o low (Some s) at = let h = in_sum (λ (s : Scheme). ons_of_items s.items) o.schemes (n % length o.schemes) s at in omega (arith, low, h)

    by : (w : Option Operator) → slice_get spec.ops op ≡ w → ons_of_items (unwrap_or (option_map (λ (s : Scheme). s.items) (option_and_then (λ (o : Operator). slice_get o.schemes (n % length o.schemes)) w)) []) ≤ ons_of spec
    by None at = omega arith
    by (Some o) at = scheme o (in_sum (λ (o : Operator). ons_of_schemes o.schemes) spec.ops op o at) (slice_get o.schemes (n % length o.schemes)) refl

pub one_more : (c n : ℕ) → c * suc n ≡ c + c * n
one_more c n = omega arith

pub both_times : (c a b : ℕ) → c * (a + b) ≡ c * a + c * b
both_times c a b = omega arith

module _ (spec : Spec) (value : Reference Place → Value) (typed : Place → Option Bytes) where
  items_raise : (u : Place) (op : ℕ) (more : Bool) (is : List Item) (kids : List Writing) (n : ℕ) → AllRaise kids n → Raises (2 * ons_of_items is + n) (items spec value typed u op more is kids)
  items_raise u op more [] kids n h m = stays (2 * ons_of_items [] + n) m
  items_raise u op more (WritesPieces ps ∷ is) kids n h m =
      let e = first_item (WritesPieces ps) is in
      turn_raises (2 * ons_of_pieces ps) (2 * ons_of_items is + n) (2 * ons_of_items (WritesPieces ps ∷ is) + n) (pieces u ps) (items spec value typed u op more is kids) (omega (arith, e)) (pieces_raise u ps) (items_raise u op more is kids n h) m
  items_raise u op more (Child place ∷ is) [] n h m =
      let e = first_item (Child place) is in let x = items_raise u op more is [] n h m in omega (arith, e, x)
  items_raise u op more (Child place ∷ is) (kid ∷ kids) n h m =
      let e = first_item (Child place) is in
      let few = h.2 in
      turn_raises h.0 (2 * ons_of_items is + h.1) (2 * ons_of_items (Child place ∷ is) + n) (placed place kid) (items spec value typed u op more is kids) (omega (arith, e, few)) (placed_raises h.0 place kid h.3) (items_raise u op more is kids h.1 h.4) m
  items_raise u op more (Shows o ∷ is) kids n h m =
      let e = first_item (Shows o) is in
      turn_raises 0 (2 * ons_of_items is + n) (2 * ons_of_items (Shows o ∷ is) + n) (shows spec value typed u op o) (items spec value typed u op more is kids) (omega (arith, e)) (shows_raises spec value typed u op o) (items_raise u op more is kids n h) m
  items_raise u op true (Separates ps ∷ is) kids n h m =
      let e = first_item (Separates ps) is in
      turn_raises (2 * ons_of_pieces ps) (2 * ons_of_items is + n) (2 * ons_of_items (Separates ps ∷ is) + n) (pieces u ps) (items spec value typed u op true is kids) (omega (arith, e)) (pieces_raise u ps) (items_raise u op true is kids n h) m
  items_raise u op false (Separates ps ∷ is) kids n h m =
      let e = first_item (Separates ps) is in
      turn_raises 0 (2 * ons_of_items is + n) (2 * ons_of_items (Separates ps ∷ is) + n) nothing (items spec value typed u op false is kids) (omega (arith, e)) (stays 0) (items_raise u op false is kids n h) m

  content_raises : (c : ℕ) (u : Place) (o : Option Bytes) (elided : Bool) (f : Writing) → Raises c f → Raises c (content spec value typed u o elided f)
  content_raises c u (Some text) elided f h m = let x = plain_raises u text m in omega (arith, x)
  content_raises c u None true f h m = stays c m
  content_raises c u None false f h m = h m

  mutual
    pub unparsed_raises : (u : Place) (t : Term) → Raises (2 * ons_of spec * nodes_of t) (unparsed spec value typed u t)
    unparsed_raises u (Leaf p v) m =
        let x = content_raises 0 u (typed u) false (plain u (value_text spec p v)) (plain_raises u (value_text spec p v)) m in
        omega (arith, x)
    unparsed_raises u (Node op n elided ts) m =
        let kids = unparsed_among spec value typed u 0 ts in
        let is = items_of spec op n in
        let x = content_raises (2 * ons_of_items is + 2 * ons_of spec * nodes_of_all ts) u (typed u) elided (items spec value typed u op (goes_on ts) is kids) (items_raise u op (goes_on ts) is kids (2 * ons_of spec * nodes_of_all ts) (among_raise u 0 ts)) m in
        let low = scheme_raises spec op n in
        let e = one_more (2 * ons_of spec) (nodes_of_all ts) in
        omega (arith, x, low, e)

    among_raise : (u : Place) (k : ℕ) (ts : Terms) → AllRaise (unparsed_among spec value typed u k ts) (2 * ons_of spec * nodes_of_all ts)
    among_raise u k NoTerm = tt
    among_raise u k (AndTerm t ts) =
        let e = both_times (2 * ons_of spec) (nodes_of t) (nodes_of_all ts) in
        (2 * ons_of spec * nodes_of t, 2 * ons_of spec * nodes_of_all ts, omega (arith, e), unparsed_raises (k ∷ u) t, among_raise u (suc k) ts)
