-- The values of the subterms that are left behind a note, which are made from the last note to the first.
use Rattle.std.proofs.Common.{◌≡◌, ℕ, suc, ◌+◌, ◌<◌, ◌≤◌, List, [], ◌∷◌, ◌++◌, length, get_or, map, reverse, Option, unwrap_or, refl, sym, ap, ◌∙◌}
use Rattle.std.proofs.lemmas.List.{map-append, same_from_push, reverse-append}
use Rattle.sg_kinds.specs.Values.{Bytes, Value, Values, Tree, NoValue, AndValue, row_of, list_of}
use Rattle.sg_kinds.specs.declared.spec.Spec.{Spec}
use Rattle.sg_saved_form.specs.Files.{Raw, Raws, Branch, Whole, Quote, Flag, NoRaw, AndRaw, spelled}
use Rattle.sg_saved_form.specs.Notes.{count_of, first_place, IsOutline}
use Rattle.sg_saved_form.specs.declared.notes.Outline.{Outline}
use Rattle.sg_saved_form.specs.declared.notes.Note.{Note}
use Rattle.sg_saved.specs.Misfits.{op_named, value_of, values_of}
use Rattle.sg_saved.specs.Heads.{head_of, kid_values}
use Rattle.sg_saved.specs.declared.heads.Head.TheVariants.{Node, Leaf}
use Rattle.sg_saved.proofs.Pieces.{Piece, pieces_of, kids_of, Left, First, first-left, none-left, whole-left}

-- a row of the values of children
pub row-back : (vs : Values) → row_of (list_of vs) ≡ vs
row-back NoValue = refl
row-back (AndValue v vs) = ap (AndValue v) (row-back vs)

pub kids-count : (spec : Spec) (rs : Raws) → length (list_of (values_of spec rs)) ≡ count_of rs
kids-count spec NoRaw = refl
kids-count spec (AndRaw r rs) = ap suc (kids-count spec rs)

module _ (spec : Spec) where
  abbrev pub values_in : List Piece → List Value
  values_in xs = map (λ (x : Piece). value_of spec x.raw) xs

  row-values : (at : ℕ) (rs : Raws) → values_in (pieces_of at rs) ≡ list_of (values_of spec rs)
  row-values at NoRaw = refl
  row-values at (AndRaw r rs) = ap (λ vs. value_of spec r ∷ vs) (row-values (at + length (spelled r) + 1) rs)

  kids-values : (at : ℕ) (r : Raw) → values_in (kids_of at r) ≡ kid_values spec r
  kids-values at (Branch name rs) = row-values (at + length name + 1) rs
  kids-values at (Whole z) = refl
  kids-values at (Quote s) = refl
  kids-values at (Flag b) = refl

  module _ (bytes : Bytes) (notes : List Note) where
    -- the values of whatever is left behind so many notes are on the stack, the first on top
    abbrev pub Built : ℕ → List Value → Type 0
    Built i values = (xs : List Piece) → Left bytes notes i xs → values ≡ reverse (values_in xs)

    pub none-built : (i : ℕ) (values : List Value) → length notes ≤ i → values ≡ [] → Built i values
    none-built i values all is xs l = is ∙ ap (λ ys. reverse (values_in ys)) (sym (none-left bytes notes i xs all l))

    pub kids-on-top : (i : ℕ) (note : Note) (values : List Value) (xs : List Piece) (f : First bytes notes i note xs) → Built (i + 1) values → values ≡ reverse (values_in f.rest) ++ reverse (kid_values spec f.piece.raw)
    kids-on-top i note values xs f b =
        b (kids_of f.piece.at f.piece.raw ++ f.rest) f.left
        ∙ ap reverse (map-append (λ (x : Piece). value_of spec x.raw) (kids_of f.piece.at f.piece.raw) f.rest ∙ ap (λ vs. vs ++ values_in f.rest) (kids-values f.piece.at f.piece.raw))
        ∙ reverse-append (kid_values spec f.piece.raw) (values_in f.rest)

    -- a value is made of those of its children
    pub one-built : (i : ℕ) (note : Note) (values : List Value) → i < length notes → note ≡ get_or notes i note → Built (i + 1) values
        → (next : List Value) → ((xs : List Piece) (f : First bytes notes i note xs) → next ≡ reverse (values_in f.rest) ++ value_of spec f.piece.raw ∷ []) → Built i next
    one-built i note values low is b next made xs l =
        let f = first-left bytes notes i note xs low is l in
        made xs f ∙ sym (reverse-append (value_of spec f.piece.raw ∷ []) (values_in f.rest)) ∙ ap (λ ys. reverse (values_in ys)) (sym f.are)

-- a node of the values of its children
pub node-count : (spec : Spec) (r : Raw) (op : Option ℕ) (kids : ℕ) → Node op kids ≡ head_of spec r → length (kid_values spec r) ≡ kids
node-count spec (Branch name rs) op kids is = let e : kids ≡ count_of rs = cc in kids-count spec rs ∙ sym e
node-count spec (Whole z) op kids is = absurd (cc)
node-count spec (Quote s) op kids is = absurd (cc)
node-count spec (Flag b) op kids is = absurd (cc)

pub node-made : (spec : Spec) (r : Raw) (op : Option ℕ) (kids : ℕ) (taken : List Value) → Node op kids ≡ head_of spec r → taken ≡ kid_values spec r → Tree (unwrap_or op 0) (row_of taken) ≡ value_of spec r
node-made spec (Branch name rs) op kids taken is same =
    let e : op ≡ op_named spec.ops name = cc in
    (λ i. Tree (unwrap_or (e i) 0) ((ap row_of same ∙ row-back (values_of spec rs)) i))
node-made spec (Whole z) op kids taken is same = absurd (cc)
node-made spec (Quote s) op kids taken is same = absurd (cc)
node-made spec (Flag b) op kids taken is same = absurd (cc)

pub leaf-made : (spec : Spec) (r : Raw) (v : Value) → Leaf v ≡ head_of spec r → (v ≡ value_of spec r) × (kid_values spec r ≡ [])
leaf-made spec (Branch name rs) v is = absurd (cc)
leaf-made spec (Whole z) v is = (cc, refl)
leaf-made spec (Quote s) v is = (cc, refl)
leaf-made spec (Flag b) v is = (cc, refl)

-- at the end the one value is that of the term
pub value-last : (spec : Spec) (bytes : Bytes) (o : Outline) (is : IsOutline bytes o) (values rest : List Value) (v : Value) → Built spec bytes o.notes.items 0 values → values ≡ rest ++ v ∷ [] → v ≡ value_of spec is.raw
value-last spec bytes o is values rest v built same =
    let whole : values ≡ [] ++ value_of spec is.raw ∷ [] = built (record { at = first_place; raw = is.raw } ∷ []) (whole-left bytes o is) in
    sym ((same_from_push [] rest (value_of spec is.raw) v (sym whole ∙ same)).1)
