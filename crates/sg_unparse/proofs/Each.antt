-- What holds of every mark that is written.
use Rattle.std.specs.Prelude.{ℕ, Bool, true, false, ◌==◌, if◌then◌else◌, List, [], ◌∷◌, ◌++◌, replicate, Option, Some, None, unwrap_or}
use Rattle.std.specs.List.{AllByRecursion}
use Rattle.sg_kinds.specs.Values.{Bytes, Value}
use Rattle.sg_kinds.specs.Places.{Place}
use Rattle.sg_kinds.specs.Nets.{Reference}
use Rattle.sg_kinds.specs.Typing.{slot_type}
use Rattle.sg_kinds.specs.declared.spec.Spec.{Spec}
use Rattle.sg_kinds.specs.declared.spec.Occurrence.{Occurrence}
use Rattle.sg_kinds.specs.declared.spec.Piece.{Piece}
use Rattle.sg_kinds.specs.declared.spec.Piece.TheVariants.{Written, Newline, Margin}
use Rattle.sg_kinds.specs.declared.spec.Item.{Item}
use Rattle.sg_kinds.specs.declared.spec.Item.TheVariants.{Writes as WritesPieces, Child, Shows, Separates}
use Rattle.sg_kinds.specs.declared.marks.ChildPlace.{ChildPlace}
use Rattle.sg_kinds.specs.declared.marks.ChildPlace.TheVariants.{Resting, Passed, Hidden}
use Rattle.sg_unparse.specs.Cells.{Mark, Writes, Writing, nothing, in_turn, as_they_are, newline, plain, piece, pieces, placed, reference, shows, items, content}
use Rattle.sg_unparse.specs.Printing.{value_text}

abbrev pub Each : (Mark → Type 0) → Writing → Type 0
Each P f = (m : ℕ) → AllByRecursion P (f m).0

pub append_each : (P : Mark → Type 0) (xs ys : List Mark) → AllByRecursion P xs → AllByRecursion P ys → AllByRecursion P (xs ++ ys)
append_each P [] ys h k = k
append_each P (x ∷ xs) ys h k = (h.0, append_each P xs ys h.1 k)

pub turn_each : (P : Mark → Type 0) (f g : Writing) → Each P f → Each P g → Each P (in_turn f g)
turn_each P f g h k m = append_each P (f m).0 (g (f m).1).0 (h m) (k (f m).1)

pub placed_each : (P : Mark → Type 0) (p : ChildPlace) (f : Writing) → Each P f → Each P (placed p f)
placed_each P Resting f h m = h m
placed_each P Passed f h m = h m
placed_each P Hidden f h m = tt

-- where it holds of the cells of a node, it holds of what the node writes beside its children
module _ (P : Mark → Type 0) (u : Place) (own : (b : ℕ) → P (Writes b u)) where
  pub bytes_each : (s : Bytes) → Each P (as_they_are u s)
  bytes_each [] m = tt
  bytes_each (b ∷ s) m = (own b, bytes_each s m)

  newline_each : Each P (newline u)
  newline_each m = bytes_each (10 ∷ replicate m 32) m

  pub plain_each : (s : Bytes) → Each P (plain u s)
  plain_each [] m = tt
  plain_each (b ∷ s) m = turn_each P (if b == 10 then newline u else as_they_are u (b ∷ [])) (plain u s) (first (b == 10)) (plain_each s) m
    where
      first : (t : Bool) → Each P (if t then newline u else as_they_are u (b ∷ []))
      first true m = newline_each m
      first false m = bytes_each (b ∷ []) m

  piece_each : (p : Piece) → Each P (piece u p)
  piece_each (Written s) m = bytes_each s m
  piece_each Newline m = newline_each m
  piece_each (Margin back on) m = tt

  pub pieces_each : (ps : List Piece) → Each P (pieces u ps)
  pieces_each [] m = tt
  pieces_each (p ∷ ps) m = turn_each P (piece u p) (pieces u ps) (piece_each p) (pieces_each ps) m

  module _ (spec : Spec) (value : Reference Place → Value) (typed : Place → Option Bytes) where
    pub shows_each : (op : ℕ) (o : Occurrence) → Each P (shows spec value typed u op o)
    shows_each op o m = plain_each (value_text spec (unwrap_or (slot_type spec op o.at o.slot) 0) (value (reference u o))) m

    pub items_each : (op : ℕ) (more : Bool) (is : List Item) (kids : List Writing) → AllByRecursion (Each P) kids → Each P (items spec value typed u op more is kids)
    items_each op more [] kids h m = tt
    items_each op more (WritesPieces ps ∷ is) kids h m = turn_each P (pieces u ps) (items spec value typed u op more is kids) (pieces_each ps) (items_each op more is kids h) m
    items_each op more (Child place ∷ is) [] h m = items_each op more is [] h m
    items_each op more (Child place ∷ is) (kid ∷ kids) h m = turn_each P (placed place kid) (items spec value typed u op more is kids) (placed_each P place kid h.0) (items_each op more is kids h.1) m
    items_each op more (Shows o ∷ is) kids h m = turn_each P (shows spec value typed u op o) (items spec value typed u op more is kids) (shows_each op o) (items_each op more is kids h) m
    items_each op true (Separates ps ∷ is) kids h m = turn_each P (pieces u ps) (items spec value typed u op true is kids) (pieces_each ps) (items_each op true is kids h) m
    items_each op false (Separates ps ∷ is) kids h m = turn_each P nothing (items spec value typed u op false is kids) (λ m. tt) (items_each op false is kids h) m

    pub content_each : (o : Option Bytes) (elided : Bool) (f : Writing) → Each P f → Each P (content spec value typed u o elided f)
    content_each (Some text) elided f h m = plain_each text m
    content_each None true f h m = bytes_each (46 ∷ 46 ∷ 46 ∷ []) m
    content_each None false f h m = h m
