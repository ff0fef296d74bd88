-- The nodes that end are those that are unparsed.
use Rattle.std.specs.Prelude.{◌≡◌, refl, ℕ, suc, Bool, true, false, ◌==◌, if◌then◌else◌, List, [], ◌∷◌, ◌++◌, replicate, Option, Some, None, unwrap_or}
use Rattle.std.proofs.Common.{◌∙◌, ap}
use Rattle.sg_kinds.specs.Values.{Bytes, Value}
use Rattle.sg_kinds.specs.Terms.{Term, Terms, Leaf, Node, NoTerm, AndTerm}
use Rattle.sg_kinds.specs.Places.{Place}
use Rattle.sg_kinds.specs.Nets.{Reference}
use Rattle.sg_kinds.specs.Typing.{slot_type}
use Rattle.sg_kinds.specs.declared.spec.Spec.{Spec}
use Rattle.sg_kinds.specs.declared.spec.Occurrence.{Occurrence}
use Rattle.sg_kinds.specs.declared.spec.Piece.{Piece}
use Rattle.sg_kinds.specs.declared.spec.Piece.TheVariants.{Written, Newline, Margin}
use Rattle.sg_kinds.specs.declared.spec.Item.{Item}
use Rattle.sg_kinds.specs.declared.spec.Item.TheVariants.{Writes as WritesPieces, Child, Shows, Separates}
use Rattle.sg_kinds.specs.declared.marks.ChildPlace.{ChildPlace}
use Rattle.sg_kinds.specs.declared.marks.ChildPlace.TheVariants.{Resting, Passed, Hidden}
use Rattle.sg_unparse.specs.Cells.{Mark, Writes, Closed, Writing, nothing, in_turn, as_they_are, newline, plain, piece, pieces, cells_in, ended, goes_on, reference, items_of, shows, items, content, unparsed, unparsed_among}
use Rattle.sg_unparse.specs.Printing.{value_text}
use Rattle.sg_unparse.specs.Unparsed.{ends_of, child_places, shown_below, shows_scheme, below_scheme, unparsed_places, places_under}

-- from every margin the same nodes end
abbrev Ends : Writing → List Place → Type 0
Ends f us = (m : ℕ) → ends_of (f m).0 ≡ us

pub ends_of-append : (xs ys : List Mark) → ends_of (xs ++ ys) ≡ ends_of xs ++ ends_of ys
ends_of-append [] ys = refl
ends_of-append (Writes b u ∷ xs) ys = ends_of-append xs ys
ends_of-append (Closed u n ∷ xs) ys = ap (λ us. u ∷ us) (ends_of-append xs ys)

turn_ends : (f g : Writing) (us vs : List Place) → Ends f us → Ends g vs → Ends (in_turn f g) (us ++ vs)
turn_ends f g us vs h k m = ends_of-append (f m).0 (g (f m).1).0 ∙ ap (λ xs. xs ++ ends_of (g (f m).1).0) (h m) ∙ ap (λ ys. us ++ ys) (k (f m).1)

bytes_end : (u : Place) (s : Bytes) → Ends (as_they_are u s) []
bytes_end u [] m = refl
bytes_end u (b ∷ s) m = bytes_end u s m

newline_ends : (u : Place) → Ends (newline u) []
newline_ends u m = bytes_end u (10 ∷ replicate m 32) m

plain_ends : (u : Place) (s : Bytes) → Ends (plain u s) []
plain_ends u [] m = refl
plain_ends u (b ∷ s) m = turn_ends (if b == 10 then newline u else as_they_are u (b ∷ [])) (plain u s) [] [] (first (b == 10)) (plain_ends u s) m
  where
    first : (t : Bool) → Ends (if t then newline u else as_they_are u (b ∷ [])) []
    first true m = newline_ends u m
    first false m = bytes_end u (b ∷ []) m

piece_ends : (u : Place) (p : Piece) → Ends (piece u p) []
piece_ends u (Written s) m = bytes_end u s m
piece_ends u Newline m = newline_ends u m
piece_ends u (Margin back on) m = refl

pieces_end : (u : Place) (ps : List Piece) → Ends (pieces u ps) []
pieces_end u [] m = refl
pieces_end u (p ∷ ps) m = turn_ends (piece u p) (pieces u ps) [] [] (piece_ends u p) (pieces_end u ps) m

ended_ends : (u : Place) (f : Writing) (us : List Place) → Ends f us → Ends (ended u f) (us ++ u ∷ [])
ended_ends u f us h m = ends_of-append (f m).0 (Closed u (cells_in (f m).0) ∷ []) ∙ ap (λ xs. xs ++ u ∷ []) (h m)

-- children with what ends in each
data AllEnd : List Writing → List (List Place) → Type 0 where
  no_more : AllEnd [] []
  and_more : (f : Writing) (us : List Place) (fs : List Writing) (uss : List (List Place)) → Ends f us → AllEnd fs uss → AllEnd (f ∷ fs) (us ∷ uss)

module _ (spec : Spec) (value : Reference Place → Value) (typed : Place → Option Bytes) where
  shows_ends : (u : Place) (op : ℕ) (o : Occurrence) → Ends (shows spec value typed u op o) []
  shows_ends u op o m = plain_ends u (value_text spec (unwrap_or (slot_type spec op o.at o.slot) 0) (value (reference u o))) m

  items_end : (u : Place) (op : ℕ) (more : Bool) (is : List Item) (kids : List Writing) (uss : List (List Place)) → AllEnd kids uss → Ends (items spec value typed u op more is kids) (shown_below (child_places is) uss)
  items_end u op more [] kids uss h m = refl
  items_end u op more (WritesPieces ps ∷ is) kids uss h m = turn_ends (pieces u ps) (items spec value typed u op more is kids) [] (shown_below (child_places is) uss) (pieces_end u ps) (items_end u op more is kids uss h) m
  items_end u op more (Child place ∷ is) [] [] no_more m = items_end u op more is [] [] no_more m ∙ none (child_places is)
    where
      none : (places : List ChildPlace) → shown_below places [] ≡ []
      none [] = refl
      none (place ∷ places) = refl
  items_end u op more (Child place ∷ is) [] (us ∷ uss) h m = elim h [ ]
  items_end u op more (Child Resting ∷ is) (kid ∷ kids) (us ∷ uss) (and_more _ _ _ _ here h) m = turn_ends kid (items spec value typed u op more is kids) us (shown_below (child_places is) uss) here (items_end u op more is kids uss h) m
  items_end u op more (Child Passed ∷ is) (kid ∷ kids) (us ∷ uss) (and_more _ _ _ _ here h) m = turn_ends kid (items spec value typed u op more is kids) us (shown_below (child_places is) uss) here (items_end u op more is kids uss h) m
  items_end u op more (Child Hidden ∷ is) (kid ∷ kids) (us ∷ uss) (and_more _ _ _ _ here h) m = turn_ends nothing (items spec value typed u op more is kids) [] (shown_below (child_places is) uss) (λ m. refl) (items_end u op more is kids uss h) m
  items_end u op more (Child Resting ∷ is) (kid ∷ kids) [] h m = elim h [ ]
  items_end u op more (Child Passed ∷ is) (kid ∷ kids) [] h m = elim h [ ]
  items_end u op more (Child Hidden ∷ is) (kid ∷ kids) [] h m = elim h [ ]
  items_end u op more (Shows o ∷ is) kids uss h m = turn_ends (shows spec value typed u op o) (items spec value typed u op more is kids) [] (shown_below (child_places is) uss) (shows_ends u op o) (items_end u op more is kids uss h) m
  items_end u op true (Separates ps ∷ is) kids uss h m = turn_ends (pieces u ps) (items spec value typed u op true is kids) [] (shown_below (child_places is) uss) (pieces_end u ps) (items_end u op true is kids uss h) m
  items_end u op false (Separates ps ∷ is) kids uss h m = turn_ends nothing (items spec value typed u op false is kids) [] (shown_below (child_places is) uss) (λ m. refl) (items_end u op false is kids uss h) m

  content_ends : (u : Place) (o : Option Bytes) (elided : Bool) (own : Writing) (us : List Place) → Ends own us → Ends (content spec value typed u o elided own) (below_scheme spec typed (shows_scheme o elided) us)
  content_ends u (Some text) elided own us h m = plain_ends u text m
  content_ends u None true own us h m = bytes_end u (46 ∷ 46 ∷ 46 ∷ []) m
  content_ends u None false own us h m = h m

  leaf_ends : (u : Place) (o : Option Bytes) (own : Writing) → Ends own [] → Ends (content spec value typed u o false own) []
  leaf_ends u (Some text) own h m = plain_ends u text m
  leaf_ends u None own h m = h m

  mutual
    pub unparsed_ends : (u : Place) (t : Term) → Ends (unparsed spec value typed u t) (unparsed_places spec typed u t)
    unparsed_ends u (Leaf p v) m =
        let own = plain u (value_text spec p v) in
        ended_ends u (content spec value typed u (typed u) false own) [] (leaf_ends u (typed u) own (plain_ends u (value_text spec p v))) m
    unparsed_ends u (Node op n elided ts) m =
        let kids = unparsed_among spec value typed u 0 ts in
        let own = items spec value typed u op (goes_on ts) (items_of spec op n) kids in
        let under = shown_below (child_places (items_of spec op n)) (places_under spec typed u 0 ts) in
        ended_ends u (content spec value typed u (typed u) elided own) (below_scheme spec typed (shows_scheme (typed u) elided) under)
        (content_ends u (typed u) elided own under (items_end u op (goes_on ts) (items_of spec op n) kids (places_under spec typed u 0 ts) (among_end u 0 ts))) m

    among_end : (u : Place) (k : ℕ) (ts : Terms) → AllEnd (unparsed_among spec value typed u k ts) (places_under spec typed u k ts)
    among_end u k NoTerm = no_more
    among_end u k (AndTerm t ts) = and_more (unparsed spec value typed (k ∷ u) t) (unparsed_places spec typed (k ∷ u) t) (unparsed_among spec value typed u (suc k) ts) (places_under spec typed u (suc k) ts) (unparsed_ends (k ∷ u) t) (among_end u (suc k) ts)
