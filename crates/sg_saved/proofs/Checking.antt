-- The subterms of a file's term against the phyla that are wanted, in the order of its notes.
use Rattle.std.proofs.Common.{◌≡◌, ℕ, suc, Bool, true, false, ◌+◌, ◌<◌, ◌≤◌, List, [], ◌∷◌, ◌++◌, length, get_or, reverse, refl, sym, ap, ◌∙◌, subst, arith, append_assoc, append-nil, length-append, Option, Some, None, option_map, unwrap_or, MatchOption}
use Rattle.std.specs.Prelude.{◌↔◌, IsTrue, IsSome}
use Rattle.std.specs.Option.{option_to_list}
use Rattle.std.proofs.lemmas.List.{same_from_push, nil_from_length, reverse-append, reverse-reverse}
use Rattle.sg_kinds.specs.Values.{Bytes}
use Rattle.sg_kinds.specs.Specification.{args_of, phylum_of}
use Rattle.sg_kinds.specs.declared.spec.Spec.{Spec}
use Rattle.sg_saved_form.specs.Files.{IsRaw, Raw, Raws, Branch, Whole, Quote, Flag, NoRaw, AndRaw, spelled}
use Rattle.sg_saved_form.specs.Notes.{count_of, first_place}
use Rattle.sg_saved_form.specs.declared.notes.Note.{Note}
use Rattle.sg_saved.specs.Misfits.{op_named, args_named, Part, PartFits, HeadFits, EachFits, parts_of, parts_of_all, IsMisfit}
use Rattle.sg_saved.specs.Heads.{IsNoteOf, head_of, args_in}
use Rattle.sg_saved.specs.declared.heads.Head.{Head}
use Rattle.sg_saved.proofs.Pieces.{Piece, pieces_of, kids_of, kid-count, note-from, Left, First, first-left, note-of, none-left, seen-note}

module _ (spec : Spec) where
  -- the parts of subterms at these phyla
  abbrev pub parts_in : List ℕ → List Piece → List Part
  parts_in [] xs = []
  parts_in (p ∷ ps) [] = []
  parts_in (p ∷ ps) (x ∷ xs) = parts_of spec p x.at x.raw ++ parts_in ps xs

  pub parts-append : (ps qs : List ℕ) (xs ys : List Piece) → length ps ≡ length xs → parts_in (ps ++ qs) (xs ++ ys) ≡ parts_in ps xs ++ parts_in qs ys
  parts-append [] qs [] ys same = refl
  parts-append [] qs (x ∷ xs) ys same = absurd (omega arith)
  parts-append (p ∷ ps) qs [] ys same = absurd (omega arith)
  parts-append (p ∷ ps) qs (x ∷ xs) ys same =
      ap (λ n. parts_of spec p x.at x.raw ++ n) (parts-append ps qs xs ys (omega arith)) ∙ sym (append_assoc (parts_of spec p x.at x.raw) (parts_in ps xs) (parts_in qs ys))

  kid-parts : (ps : List ℕ) (at : ℕ) (rs : Raws) → parts_of_all spec ps at rs ≡ parts_in ps (pieces_of at rs)
  kid-parts [] at NoRaw = refl
  kid-parts [] at (AndRaw r rs) = refl
  kid-parts (p ∷ ps) at NoRaw = refl
  kid-parts (p ∷ ps) at (AndRaw r rs) = ap (λ n. parts_of spec p at r ++ n) (kid-parts ps (at + length (spelled r) + 1) rs)

  abbrev pub part_at : ℕ → ℕ → Raw → Part
  part_at p at r = record { phylum = p; at = at; raw = r }

  pub first-part : (p at : ℕ) (r : Raw) → parts_of spec p at r ≡ part_at p at r ∷ parts_in (args_in spec (head_of spec r)) (kids_of at r)
  first-part p at (Branch name rs) = ap (λ n. part_at p at (Branch name rs) ∷ n) (kid-parts (args_named spec.ops name) (at + length name + 1) rs)
  first-part p at (Whole z) = refl
  first-part p at (Quote s) = refl
  first-part p at (Flag b) = refl

  pub args-count : (p at : ℕ) (r : Raw) → HeadFits spec p r → length (args_in spec (head_of spec r)) ≡ length (kids_of at r)
  args-count p at (Branch name rs) fits = by (op_named spec.ops name) fits
    where
      by : (o : Option ℕ) → MatchOption o ⊥ (λ op. (phylum_of spec.ops op ≡ Some p) × (length (args_of spec.ops op) ≡ count_of rs)) → length (unwrap_or (option_map (args_of spec.ops) o) []) ≡ length (pieces_of (at + length name + 1) rs)
      by None f = absurd f
      by (Some op) f = f.1 ∙ sym (kid-count (at + length name + 1) rs)
  args-count p at (Whole z) fits = refl
  args-count p at (Quote s) fits = refl
  args-count p at (Flag b) fits = refl

  one-more-fits : (xs : List Part) (x : Part) → EachFits spec xs → PartFits spec x → EachFits spec (xs ++ x ∷ [])
  one-more-fits [] x all fits = (fits, tt)
  one-more-fits (y ∷ xs) x all fits = (all.0, one-more-fits xs x all.1 fits)

  -- up to one of the notes each subterm fits, and these phyla are wanted of those that are left
  module _ (bytes : Bytes) (notes : List Note) (whole : Raw) where
    pub record Checked (i : ℕ) (wanted : List ℕ) : Type 0 where
      pub phyla : List ℕ
      pub pieces : List Piece
      pub stack : reverse wanted ≡ phyla
      pub count : length phyla ≡ length pieces
      pub left : Left bytes notes i pieces
      pub done : List Part
      pub parts : parts_of spec spec.root first_place whole ≡ done ++ parts_in phyla pieces
      pub fit : EachFits spec done

    pub none-checked : (wanted : List ℕ) → wanted ≡ spec.root ∷ [] → Left bytes notes 0 (record { at = first_place; raw = whole } ∷ []) → Checked 0 wanted
    none-checked wanted is left = record {
      phyla = spec.root ∷ [];
      pieces = record { at = first_place; raw = whole } ∷ [];
      stack = ap reverse is;
      count = refl;
      left = left;
      done = [];
      parts = sym (append-nil (parts_of spec spec.root first_place whole));
      fit = tt;
    }

    -- the next subterm, and the phylum that is wanted of it
    pub record Next (i : ℕ) (note : Note) (wanted : List ℕ) : Type 0 where
      pub phylum : ℕ
      pub phyla : List ℕ
      pub pieces : List Piece
      pub first : First bytes notes i note pieces
      pub stack : wanted ≡ reverse phyla ++ phylum ∷ []
      pub count : length phyla ≡ length first.rest
      pub done : List Part
      pub parts : parts_of spec spec.root first_place whole ≡ done ++ (parts_of spec phylum first.piece.at first.piece.raw ++ parts_in phyla first.rest)
      pub fit : EachFits spec done

    pub next : (i : ℕ) (note : Note) (wanted : List ℕ) → i < length notes → note ≡ get_or notes i note → Checked i wanted → Next i note wanted
    next i note wanted low is c = by c.phyla c.pieces (first-left bytes notes i note c.pieces low is c.left) c.stack c.count c.parts
      where
        by : (ps : List ℕ) (xs : List Piece) (f : First bytes notes i note xs) → reverse wanted ≡ ps → length ps ≡ length xs → parts_of spec spec.root first_place whole ≡ c.done ++ parts_in ps xs → Next i note wanted
        by [] xs f stack count parts = absurd (let e : length xs ≡ suc (length f.rest) = ap length f.are in omega arith)
        by (p ∷ ps) xs f stack count parts =
            let e : length xs ≡ suc (length f.rest) = ap length f.are in
            record {
              phylum = p;
              phyla = ps;
              pieces = xs;
              first = f;
              stack = sym (reverse-reverse wanted) ∙ ap reverse stack ∙ reverse-append (p ∷ []) ps;
              count = omega arith;
              done = c.done;
              parts = parts ∙ ap (λ ys. c.done ++ parts_in (p ∷ ps) ys) f.are;
              fit = c.fit;
            }

    -- what is taken off the stack is the phylum
    pub taken : (i : ℕ) (note : Note) (wanted rest : List ℕ) (o : Option ℕ) (n : Next i note wanted) → wanted ≡ rest ++ option_to_list o → (0 < length wanted → IsSome o) → (o ≡ Some n.phylum) × (rest ≡ reverse n.phyla)
    taken i note wanted rest None n is some =
        let e : length wanted ≡ length (reverse n.phyla) + 1 = ap length n.stack ∙ length-append (reverse n.phyla) (n.phylum ∷ []) in
        let there : false ≡ true = some (omega arith) in
        absurd (cc)
    taken i note wanted rest (Some p) n is some = let e = same_from_push rest (reverse n.phyla) p n.phylum (sym is ∙ n.stack) in (ap Some e.1, e.0)

    pub goes-on : (i : ℕ) (note : Note) (wanted rest more : List ℕ) (n : Next i note wanted) → rest ≡ reverse n.phyla → HeadFits spec n.phylum n.first.piece.raw → reverse more ≡ args_in spec (head_of spec n.first.piece.raw) ++ reverse rest → Checked (i + 1) more
    goes-on i note wanted rest more n was fits is =
        let f = n.first in
        let args : List ℕ = args_in spec (head_of spec f.piece.raw) in
        let same = args-count n.phylum f.piece.at f.piece.raw fits in
        let part : Part = part_at n.phylum f.piece.at f.piece.raw in
        record {
          phyla = args ++ n.phyla;
          pieces = kids_of f.piece.at f.piece.raw ++ f.rest;
          stack = is ∙ ap (λ x. args ++ reverse x) was ∙ ap (λ x. args ++ x) (reverse-reverse n.phyla);
          count = length-append args n.phyla ∙ (λ i. same i + n.count i) ∙ sym (length-append (kids_of f.piece.at f.piece.raw) f.rest);
          left = f.left;
          done = n.done ++ part ∷ [];
          parts =
              n.parts ∙ ap (λ x. n.done ++ (x ++ parts_in n.phyla f.rest)) (first-part n.phylum f.piece.at f.piece.raw)
              ∙ sym (append_assoc n.done (part ∷ []) (parts_in args (kids_of f.piece.at f.piece.raw) ++ parts_in n.phyla f.rest))
              ∙ ap (λ x. (n.done ++ part ∷ []) ++ x) (sym (parts-append args n.phyla (kids_of f.piece.at f.piece.raw) f.rest same));
          fit = one-more-fits n.done part n.fit fits;
        }

    pub misfits : (i : ℕ) (note : Note) (wanted : List ℕ) (n : Next i note wanted) → (HeadFits spec n.phylum n.first.piece.raw → ⊥) → IsMisfit spec whole note.from
    misfits i note wanted n misfit =
        let f = n.first in
        let part : Part = part_at n.phylum f.piece.at f.piece.raw in
        record {
          before = n.done;
          part = part;
          behind = parts_in (args_in spec (head_of spec f.piece.raw)) (kids_of f.piece.at f.piece.raw) ++ parts_in n.phyla f.rest;
          are = n.parts ∙ ap (λ x. n.done ++ (x ++ parts_in n.phyla f.rest)) (first-part n.phylum f.piece.at f.piece.raw);
          fit = n.fit;
          misfit = misfit;
          place = sym (ap (λ x. x.from) f.noted ∙ note-from f.piece.at f.piece.raw);
        }

    -- what is told of a subterm that is looked at: whether its head fits the phylum that was taken
    pub record Looked (i : ℕ) (note : Note) (wanted rest : List ℕ) (phylum : ℕ) (head : Head) (fits : Bool) : Type 0 where
      pub next : Next i note wanted
      pub wants : phylum ≡ next.phylum
      pub was : rest ≡ reverse next.phyla
      pub heads : head ≡ head_of spec next.first.piece.raw
      pub told : IsTrue fits ↔ HeadFits spec next.phylum next.first.piece.raw

    pub looked : (i : ℕ) (note : Note) (wanted rest : List ℕ) (o : Option ℕ) (phylum root : ℕ) (head : Head) (fits : Bool) → i < length notes → note ≡ get_or notes i note → Checked i wanted
        → wanted ≡ rest ++ option_to_list o → (0 < length wanted → IsSome o) → phylum ≡ unwrap_or o root
        → ((r : Raw) → IsNoteOf bytes note r → head ≡ head_of spec r)
        → ((r : Raw) → IsRaw r → head ≡ head_of spec r → IsTrue fits ↔ HeadFits spec phylum r)
        → Looked i note wanted rest phylum head fits
    looked i note wanted rest o phylum root head fits low at checked is some top heads told =
        let n = next i note wanted low at checked in
        let t = taken i note wanted rest o n is some in
        let r = n.first.piece.raw in
        let same : phylum ≡ n.phylum = top ∙ ap (λ x. unwrap_or x root) t.0 in
        let h : head ≡ head_of spec r = heads r (note-of bytes notes i note n.pieces n.first) in
        record {
          next = n;
          wants = same;
          was = t.1;
          heads = h;
          told = subst (λ p. IsTrue fits ↔ HeadFits spec p r) same (told r n.first.stands.is h);
        }

    pub seen-looked : (seen : List Note) → seen ≡ notes → (i : ℕ) (d : Note) (wanted rest : List ℕ) (o : Option ℕ) (phylum root : ℕ) (head : Head) (fits : Bool) → i < length seen → Checked i wanted
        → wanted ≡ rest ++ option_to_list o → (0 < length wanted → IsSome o) → phylum ≡ unwrap_or o root
        → ((r : Raw) → IsNoteOf bytes (get_or seen i d) r → head ≡ head_of spec r)
        → ((r : Raw) → IsRaw r → head ≡ head_of spec r → IsTrue fits ↔ HeadFits spec phylum r)
        → Looked i (get_or seen i d) wanted rest phylum head fits
    seen-looked seen same i d wanted rest o phylum root head fits low checked is some top heads told =
        let s = seen-note seen notes same i d low in
        looked i (get_or seen i d) wanted rest o phylum root head fits s.0 s.1 checked is some top heads told

    pub one-checked : (i : ℕ) (note : Note) (wanted rest more : List ℕ) (phylum : ℕ) (head : Head) (fits : Bool) (l : Looked i note wanted rest phylum head fits) → fits ≡ true
        → reverse more ≡ args_in spec head ++ reverse rest → Checked (i + 1) more
    one-checked i note wanted rest more phylum head fits l held is =
        goes-on i note wanted rest more l.next l.was (l.told.0 held) (is ∙ ap (λ h. args_in spec h ++ reverse rest) l.heads)

    pub one-misfits : (i : ℕ) (note : Note) (wanted rest : List ℕ) (phylum : ℕ) (head : Head) (fits : Bool) (l : Looked i note wanted rest phylum head fits) → fits ≡ false → IsMisfit spec whole note.from
    one-misfits i note wanted rest phylum head fits l fails = misfits i note wanted l.next (λ h. let e : false ≡ true = sym fails ∙ l.told.1 h in cc)

    pub all-checked : (i : ℕ) (wanted : List ℕ) → length notes ≤ i → Checked i wanted → EachFits spec (parts_of spec spec.root first_place whole)
    all-checked i wanted all c =
        let none = none-left bytes notes i c.pieces all c.left in
        let no_phyla : c.phyla ≡ [] = nil_from_length c.phyla (c.count ∙ ap length none) in
        let parts : parts_of spec spec.root first_place whole ≡ c.done = c.parts ∙ ap (λ ps. c.done ++ parts_in ps c.pieces) no_phyla ∙ append-nil c.done in
        subst (EachFits spec) (sym parts) c.fit
