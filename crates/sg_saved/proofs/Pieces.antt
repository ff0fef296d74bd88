-- The subterms that are left of a term, behind so many of its notes.
use Rattle.std.proofs.Common.{◌≡◌, ℕ, zero, suc, ◌+◌, ◌<◌, ◌≤◌, true, List, [], ◌∷◌, ◌++◌, length, drop, get_or, refl, sym, ap, ◌∙◌, subst, arith, append_assoc, append-nil}
use Rattle.std.proofs.lemmas.List.{drop-drop, drop_more, drop_all, get_or_default}
use Rattle.std.proofs.Math.Seq.{drop-append_seam}
use Rattle.std.specs.Prelude.{⊤}
use Rattle.sg_kinds.specs.Values.{Bytes}
use Rattle.sg_saved_form.specs.Files.{Raw, Raws, Branch, Whole, Quote, Flag, NoRaw, AndRaw, left_parenthesis, right_parenthesis, comma, spelled, spelled_all, spelled_more, escaped, IsRaw, AreRaw}
use Rattle.sg_saved_form.specs.Notes.{count_of, notes_of, notes_of_all, first_place, IsOutline}
use Rattle.sg_saved_form.specs.declared.notes.Note.{Note}
use Rattle.sg_saved_form.specs.declared.notes.Noted.TheVariants.{Operator, Number, Text, Truth}
use Rattle.sg_saved_form.specs.declared.notes.Outline.{Outline}
use Rattle.sg_saved.specs.Heads.{IsNoteOf}

-- a subterm, with its first byte
pub record Piece : Type 0 where
  pub at : ℕ
  pub raw : Raw

abbrev pub pieces_of : ℕ → Raws → List Piece
pieces_of at NoRaw = []
pieces_of at (AndRaw r rs) = record { at = at; raw = r } ∷ pieces_of (at + length (spelled r) + 1) rs

abbrev pub kids_of : ℕ → Raw → List Piece
kids_of at (Branch name rs) = pieces_of (at + length name + 1) rs
kids_of at (Whole z) = []
kids_of at (Quote s) = []
kids_of at (Flag b) = []

abbrev pub notes_in : List Piece → List Note
notes_in [] = []
notes_in (x ∷ xs) = notes_of x.at x.raw ++ notes_in xs

pub notes-append : (xs ys : List Piece) → notes_in (xs ++ ys) ≡ notes_in xs ++ notes_in ys
notes-append [] ys = refl
notes-append (x ∷ xs) ys = ap (λ n. notes_of x.at x.raw ++ n) (notes-append xs ys) ∙ sym (append_assoc (notes_of x.at x.raw) (notes_in xs) (notes_in ys))

kid-notes : (at : ℕ) (rs : Raws) → notes_of_all at rs ≡ notes_in (pieces_of at rs)
kid-notes at NoRaw = refl
kid-notes at (AndRaw r rs) = ap (λ n. notes_of at r ++ n) (kid-notes (at + length (spelled r) + 1) rs)

pub kid-count : (at : ℕ) (rs : Raws) → length (pieces_of at rs) ≡ count_of rs
kid-count at NoRaw = refl
kid-count at (AndRaw r rs) = ap suc (kid-count (at + length (spelled r) + 1) rs)

-- the first note of a term, and those behind it
abbrev pub note_at : ℕ → Raw → Note
note_at at (Branch name rs) = record { from = at; kids = count_of rs; what = Operator (at + length name) }
note_at at (Whole z) = record { from = at; kids = 0; what = Number z }
note_at at (Quote s) = record { from = at; kids = 0; what = Text (at + 1 + length (escaped s)) }
note_at at (Flag b) = record { from = at; kids = 0; what = Truth b }

pub note-from : (at : ℕ) (r : Raw) → (note_at at r).from ≡ at
note-from at (Branch name rs) = refl
note-from at (Whole z) = refl
note-from at (Quote s) = refl
note-from at (Flag b) = refl

pub first-note : (at : ℕ) (r : Raw) → notes_of at r ≡ note_at at r ∷ notes_in (kids_of at r)
first-note at (Branch name rs) = ap (λ n. note_at at (Branch name rs) ∷ n) (kid-notes (at + length name + 1) rs)
first-note at (Whole z) = refl
first-note at (Quote s) = refl
first-note at (Flag b) = refl

-- the note is the first of the term
pub note-is : (bytes : Bytes) (note : Note) (r : Raw) → IsNoteOf bytes note r → note_at note.from r ≡ note
note-is bytes note r n = let e : note_at note.from r ∷ notes_in (kids_of note.from r) ≡ note ∷ n.rest = sym (first-note note.from r) ∙ n.notes in cc

-- a term stands in a text at a place
pub record StandsAt (bytes : Bytes) (at : ℕ) (r : Raw) : Type 0 where
  pub is : IsRaw r
  pub more : Bytes
  pub text : drop at bytes ≡ spelled r ++ more

abbrev pub AllStand : Bytes → List Piece → Type 0
AllStand bytes [] = ⊤
AllStand bytes (x ∷ xs) = StandsAt bytes x.at x.raw × AllStand bytes xs

pub both-stand : (bytes : Bytes) (xs ys : List Piece) → AllStand bytes xs → AllStand bytes ys → AllStand bytes (xs ++ ys)
both-stand bytes [] ys f g = g
both-stand bytes (x ∷ xs) ys f g = (f.0, both-stand bytes xs ys f.1 g)

-- what is behind a part of a text
pub drop-past : (bytes a b : Bytes) (at : ℕ) → drop at bytes ≡ a ++ b → drop (at + length a) bytes ≡ b
drop-past bytes a b at is = sym (drop-drop (length a) at bytes) ∙ ap (drop (length a)) is ∙ drop-append_seam a b

pub drop-one : (bytes b : Bytes) (c at : ℕ) → drop at bytes ≡ c ∷ b → drop (at + 1) bytes ≡ b
drop-one bytes b c at is = drop-past bytes (c ∷ []) b at is

one-stands : (bytes : Bytes) (at : ℕ) (r : Raw) (rest more : Bytes) → IsRaw r → drop at bytes ≡ (spelled r ++ rest) ++ more
    → StandsAt bytes at r × (drop (at + length (spelled r)) bytes ≡ rest ++ more)
one-stands bytes at r rest more are is =
    let text : drop at bytes ≡ spelled r ++ (rest ++ more) = is ∙ append_assoc (spelled r) rest more in
    (record { is = are; more = rest ++ more; text = text }, drop-past bytes (spelled r) (rest ++ more) at text)

more-stand : (bytes : Bytes) (at : ℕ) (rs : Raws) (more : Bytes) → AreRaw rs → drop at bytes ≡ spelled_more rs ++ more → AllStand bytes (pieces_of (at + 1) rs)
more-stand bytes at NoRaw more are is = tt
more-stand bytes at (AndRaw r rs) more are is =
    let s = one-stands bytes (at + 1) r (spelled_more rs) more are.0 (drop-one bytes ((spelled r ++ spelled_more rs) ++ more) comma at is) in
    (s.0, more-stand bytes (at + 1 + length (spelled r)) rs more are.1 s.1)

kids-stand : (bytes : Bytes) (at : ℕ) (rs : Raws) (more : Bytes) → AreRaw rs → drop at bytes ≡ spelled_all rs ++ more → AllStand bytes (pieces_of at rs)
kids-stand bytes at NoRaw more are is = tt
kids-stand bytes at (AndRaw r rs) more are is =
    let s = one-stands bytes at r (spelled_more rs) more are.0 is in
    (s.0, more-stand bytes (at + length (spelled r)) rs more are.1 s.1)

pub name-stands : (bytes : Bytes) (at : ℕ) (name : Bytes) (rs : Raws) (more : Bytes) → drop at bytes ≡ spelled (Branch name rs) ++ more
    → drop at bytes ≡ name ++ left_parenthesis ∷ (spelled_all rs ++ right_parenthesis ∷ more)
name-stands bytes at name rs more is =
    is ∙ append_assoc name (left_parenthesis ∷ (spelled_all rs ++ right_parenthesis ∷ [])) more
    ∙ ap (λ x. name ++ left_parenthesis ∷ x) (append_assoc (spelled_all rs) (right_parenthesis ∷ []) more)

pub kids-of-stand : (bytes : Bytes) (at : ℕ) (r : Raw) → StandsAt bytes at r → AllStand bytes (kids_of at r)
kids-of-stand bytes at (Branch name rs) s =
    let rest : Bytes = spelled_all rs ++ right_parenthesis ∷ s.more in
    let text = name-stands bytes at name rs s.more s.text in
    kids-stand bytes (at + length name + 1) rs (right_parenthesis ∷ s.more) s.is.1
    (drop-one bytes rest left_parenthesis (at + length name) (drop-past bytes name (left_parenthesis ∷ rest) at text))
kids-of-stand bytes at (Whole z) s = tt
kids-of-stand bytes at (Quote t) s = tt
kids-of-stand bytes at (Flag b) s = tt

-- the first of the subterms that are left, at one of the notes
module _ (bytes : Bytes) (notes : List Note) where
  pub record Left (i : ℕ) (xs : List Piece) : Type 0 where
    pub stand : AllStand bytes xs
    pub behind : drop i notes ≡ notes_in xs

  pub record First (i : ℕ) (note : Note) (xs : List Piece) : Type 0 where
    pub piece : Piece
    pub rest : List Piece
    pub are : xs ≡ piece ∷ rest
    pub stands : StandsAt bytes piece.at piece.raw
    pub noted : note ≡ note_at piece.at piece.raw
    pub left : Left (i + 1) (kids_of piece.at piece.raw ++ rest)

  pub first-left : (i : ℕ) (note : Note) (xs : List Piece) → i < length notes → note ≡ get_or notes i note → Left i xs → First i note xs
  first-left i note [] low is l = absurd (let e : get_or notes i note ∷ drop (i + 1) notes ≡ [] = sym (drop_more notes i note low) ∙ l.behind in cc)
  first-left i note (x ∷ xs) low is l =
      let e : note ∷ drop (i + 1) notes ≡ note_at x.at x.raw ∷ (notes_in (kids_of x.at x.raw) ++ notes_in xs) =
      ap (λ n. n ∷ drop (i + 1) notes) is ∙ sym (drop_more notes i note low) ∙ l.behind ∙ ap (λ n. n ++ notes_in xs) (first-note x.at x.raw) in
      let here : note ≡ note_at x.at x.raw = cc in
      let behind : drop (i + 1) notes ≡ notes_in (kids_of x.at x.raw) ++ notes_in xs = cc in
      record {
        piece = x;
        rest = xs;
        are = refl;
        stands = l.stand.0;
        noted = here;
        left = record {
          stand = both-stand bytes (kids_of x.at x.raw) xs (kids-of-stand bytes x.at x.raw l.stand.0) l.stand.1;
          behind = behind ∙ sym (notes-append (kids_of x.at x.raw) xs);
        };
      }

  pub note-of : (i : ℕ) (note : Note) (xs : List Piece) (f : First i note xs) → IsNoteOf bytes note f.piece.raw
  note-of i note xs f =
      let from : note.from ≡ f.piece.at = ap (λ n. n.from) f.noted ∙ note-from f.piece.at f.piece.raw in
      record {
        is = f.stands.is;
        more = f.stands.more;
        text = ap (λ k. drop k bytes) from ∙ f.stands.text;
        rest = notes_in (kids_of f.piece.at f.piece.raw);
        notes = ap (λ k. notes_of k f.piece.raw) from ∙ first-note f.piece.at f.piece.raw ∙ ap (λ n. n ∷ notes_in (kids_of f.piece.at f.piece.raw)) (sym f.noted);
      }

  pub none-left : (i : ℕ) (xs : List Piece) → length notes ≤ i → Left i xs → xs ≡ []
  none-left i [] all l = refl
  none-left i (x ∷ xs) all l =
      let e : [] ≡ note_at x.at x.raw ∷ (notes_in (kids_of x.at x.raw) ++ notes_in xs) = sym (drop_all i notes all) ∙ l.behind ∙ ap (λ n. n ++ notes_in xs) (first-note x.at x.raw) in
      absurd (cc)

  -- some subterms are left behind each note
  pub left-at : (xs : List Piece) → Left 0 xs → (i : ℕ) → i ≤ length notes → (ys : List Piece) × Left i ys
  left-at xs l zero low = (xs, l)
  left-at xs l (suc i) low =
      let before = left-at xs l i (omega arith) in
      let f = first-left i (get_or notes i none) before.0 (omega arith) (get_or_default notes i none (get_or notes i none) (omega arith)) before.1 in
      let next : i + 1 ≡ suc i = omega arith in
      (kids_of f.piece.at f.piece.raw ++ f.rest, subst (λ k. Left k (kids_of f.piece.at f.piece.raw ++ f.rest)) next f.left)
    where
      none : Note
      none = record { from = 0; kids = 0; what = Truth true }

-- the whole term is left before the first note
pub whole-left : (bytes : Bytes) (o : Outline) (is : IsOutline bytes o) → Left bytes o.notes.items 0 (record { at = first_place; raw = is.raw } ∷ [])
whole-left bytes o is = record {
  stand = (record { is = is.is; more = 10 ∷ []; text = ap (drop first_place) is.same }, tt);
  behind = is.notes ∙ sym (append-nil (notes_of first_place is.raw));
}

-- each note is that of a subterm
pub some-note : (bytes : Bytes) (o : Outline) → IsOutline bytes o → (k : ℕ) (note : Note) → k < length o.notes.items → note ≡ get_or o.notes.items k note → (r : Raw) × IsNoteOf bytes note r
some-note bytes o is k note low at =
    let l = left-at bytes o.notes.items (record { at = first_place; raw = is.raw } ∷ []) (whole-left bytes o is) k (omega arith) in
    let f = first-left bytes o.notes.items k note l.0 low at l.1 in
    (f.piece.raw, note-of bytes o.notes.items k note l.0 f)

-- a note of a list that is the outline's
abbrev pub no_note : Note
no_note = record { from = 0; kids = 0; what = Operator 0 }

pub seen-note : (seen notes : List Note) → seen ≡ notes → (k : ℕ) (d : Note) → k < length seen → (k < length notes) × (get_or seen k d ≡ get_or notes k (get_or seen k d))
seen-note seen notes same k d low =
    let here : k < length notes = subst (λ ns. k < length ns) same low in
    (here, ap (λ ns. get_or ns k d) same ∙ get_or_default notes k d (get_or seen k d) here)

pub some-seen : (bytes : Bytes) (o : Outline) → IsOutline bytes o → (seen : List Note) → seen ≡ o.notes.items → (k : ℕ) (d : Note) → k < length seen → (r : Raw) × IsNoteOf bytes (get_or seen k d) r
some-seen bytes o is seen same k d low = let s = seen-note seen o.notes.items same k d low in some-note bytes o is k (get_or seen k d) s.0 s.1
