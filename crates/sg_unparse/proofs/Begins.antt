-- A node begins behind what is written before it.
use Rattle.std.specs.Prelude.{◌≡◌, refl, ℕ, zero, suc, ◌+◌, ◌-◌, Bool, true, false, not, if◌then◌else◌, min, List, [], ◌∷◌, ◌++◌, length, map, take, reverse, Option, Some, None, option_map, unwrap_or, ⊤}
use Rattle.std.specs.List.{AllByRecursion, take_while, count_by}
use Rattle.std.proofs.Common.{sym, ap, ◌∙◌, subst, arith}
use Rattle.std.proofs.lemmas.List.{take-map, take_min}
use Rattle.std.proofs.Math.Seq.{take-length}
use Rattle.sg_kinds.specs.Values.{Bytes, Value}
use Rattle.sg_kinds.specs.Terms.{Term}
use Rattle.sg_kinds.specs.Places.{Place}
use Rattle.sg_kinds.specs.Nets.{Reference}
use Rattle.sg_kinds.specs.declared.spec.Spec.{Spec}
use Rattle.sg_groves.specs.Evaluated.{IsAtOrBelow, is_at_or_below}
use Rattle.sg_groves.proofs.Below.{below_itself, below_from, below_to}
use Rattle.sg_unparse.specs.Cells.{Mark, Writes, Closed, cells_in, unparsed}
use Rattle.sg_unparse.specs.Page.{Cell, Span, Position, Region, all_cells, cells_of, bytes_of, is_newline, position_behind, region_in, region_of}
use Rattle.sg_unparse.specs.Owned.{place_of_mark, before, AreTypedAlike}
use Rattle.sg_unparse.proofs.Streams.{all_cells-append, length-all_cells}
use Rattle.sg_unparse.proofs.Spans.{Away, Within, Split, span_at, split_span, split_found}
use Rattle.sg_unparse.proofs.TypedText.{before_typed}

pub not_there : (u v : Place) → (IsAtOrBelow u v → ⊥) → is_at_or_below u v ≡ false
not_there u v n = by (is_at_or_below u v) refl
  where
    by : (b : Bool) → is_at_or_below u v ≡ b → is_at_or_below u v ≡ false
    by true e = absurd (n (below_from u v e))
    by false e = e

before_front : (v : Place) (front : List Mark) (y : Mark) (ys : List Mark) → AllByRecursion (Away v) front → IsAtOrBelow (place_of_mark y) v → before v (front ++ (y ∷ ys)) ≡ front
before_front v [] y ys h b = ap (λ t. if t then [] else y ∷ before v ys) (below_to (place_of_mark y) v b)
before_front v (x ∷ front) y ys h b =
    ap (λ t. if t then [] else x ∷ before v (front ++ (y ∷ ys))) (not_there (place_of_mark x) v h.0) ∙ ap (λ r. x ∷ r) (before_front v front y ys h.1 b)

pub split_before : (v : Place) (xs : List Mark) (p : Split v xs) → before v xs ≡ p.front
split_before v xs p = ap (before v) p.is ∙ by p.middle p.within (cells_in p.middle)
  where
    by : (middle : List Mark) → AllByRecursion (Within v) middle → (n : ℕ) → before v (p.front ++ (middle ++ (Closed v n ∷ p.rest))) ≡ p.front
    by [] h n = before_front v p.front (Closed v n) p.rest p.away_front (below_itself v)
    by (Writes b u ∷ ms) h n = before_front v p.front (Writes b u) (ms ++ (Closed v n ∷ p.rest)) p.away_front h.0
    by (Closed u k ∷ ms) h n = before_front v p.front (Closed u k) (ms ++ (Closed v n ∷ p.rest)) p.away_front h.0.0

-- the position behind bytes
abbrev place_after : Bytes → Position
place_after bytes = record { line = 1 + count_by is_newline bytes; column = 1 + length (take_while (λ b. not (is_newline b)) (reverse bytes)) }

abbrev byte_of : Cell → ℕ
byte_of c = c.0

first_taken : (n : ℕ) (a c : List Cell) → take (length a) (take n (a ++ c)) ≡ take n a
first_taken zero [] c = refl
first_taken (suc n) [] c = refl
first_taken zero (x ∷ a) c = refl
first_taken (suc n) (x ∷ a) c = ap (λ z. x ∷ z) (first_taken n a c)

bytes_there : (n k : ℕ) (a c : List Cell) → k ≡ length a → take (min k (length (take n (a ++ c)))) (bytes_of (take n (a ++ c))) ≡ bytes_of (take n a)
bytes_there n k a c e =
    take-map byte_of (min k (length (take n (a ++ c)))) (take n (a ++ c))
    ∙ ap (map byte_of) (take_min k (take n (a ++ c)) ∙ ap (λ i. take i (take n (a ++ c))) e ∙ first_taken n a c)

bytes_whole : (cells : List Cell) → take (length cells) (bytes_of cells) ≡ bytes_of cells
bytes_whole cells = take-map byte_of (length cells) cells ∙ ap (map byte_of) (take-length cells)

split_begins : (v : Place) (xs : List Mark) (p : Split v xs) (r : Region) → region_of xs v ≡ Some r → r.first ≡ position_behind (cells_of (before v xs))
split_begins v xs p r found =
    let count = cells_in p.middle in
    let s = span_at v count (cells_in p.front + count) in
    let rest = p.middle ++ (Closed v count ∷ p.rest) in
    let cells : all_cells xs ≡ all_cells p.front ++ all_cells rest = ap all_cells p.is ∙ all_cells-append p.front rest in
    let size : length (all_cells p.front) ≡ cells_in p.front = length-all_cells p.front in
    let start : (cells_in p.front + count) - count ≡ length (all_cells p.front) = omega (arith, size) in
    ap (λ o. (unwrap_or o r).first) (sym found ∙ ap (option_map (λ (z : Span). region_in (cells_of xs) (min z.from (length (cells_of xs))) (min z.to (length (cells_of xs))))) (split_span v xs p))
    ∙ ap (λ z. place_after (take (min s.from (length (take 1048576 z))) (bytes_of (take 1048576 z)))) cells
    ∙ ap place_after (bytes_there 1048576 s.from (all_cells p.front) (all_cells rest) start)
    ∙ sym (ap place_after (ap (λ z. take (length (cells_of z)) (bytes_of (cells_of z))) (split_before v xs p) ∙ bytes_whole (cells_of p.front)))

abbrev IsThere : Option Region → Type 0
IsThere None = ⊥
IsThere (Some r) = ⊤

no_region : (r : Region) → Some r ≡ None → ⊥
no_region r e = subst IsThere e tt

pub region_begins : (spec : Spec) (value : Reference Place → Value) (typed : Place → Option Bytes) (u : Place) (t : Term) (m : ℕ) (v : Place) (r : Region) → region_of (unparsed spec value typed u t m).0 v ≡ Some r → r.first ≡ position_behind (cells_of (before v (unparsed spec value typed u t m).0))
region_begins spec value typed u t m v r found =
    let xs = (unparsed spec value typed u t m).0 in
    split_begins v xs (split_found spec value typed u t m v (λ none. no_region r (sym found ∙ ap (option_map (λ (z : Span). region_in (cells_of xs) (min z.from (length (cells_of xs))) (min z.to (length (cells_of xs))))) none))) r found

pub region_begins_alike : (spec : Spec) (value : Reference Place → Value) (typed others : Place → Option Bytes) (v : Place) → AreTypedAlike v typed others → (u : Place) (t : Term) (m : ℕ) (r s : Region) → region_of (unparsed spec value typed u t m).0 v ≡ Some r → region_of (unparsed spec value others u t m).0 v ≡ Some s → r.first ≡ s.first
region_begins_alike spec value typed others v alike u t m r s one two =
    region_begins spec value typed u t m v r one
    ∙ ap (λ z. position_behind (cells_of z)) (before_typed spec value typed others v alike u t m)
    ∙ sym (region_begins spec value others u t m v s two)
