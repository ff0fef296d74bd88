-- The plain terms of subterms, which are made in the order of their notes.
use Rattle.std.proofs.Common.{◌≡◌, ℕ, zero, suc, ◌+◌, ◌-◌, ◌<◌, ◌≤◌, max, List, [], ◌∷◌, ◌++◌, length, drop, take, get_or, refl, sym, ap, ◌∙◌, subst, arith, append_assoc, append-nil, Option, Some, None, option_map, unwrap_or, MatchOption}
use Rattle.std.specs.Prelude.{false, ⊤, Result, Ok, Err}
use Rattle.std.proofs.lemmas.List.{take_more, drop_more, take_all, length-drop, length-take-le, take-append-drop, drop_all}
use Rattle.sg_kinds.specs.Plain.{plain, plain_all}
use Rattle.sg_kinds.specs.Specification.{args_of, phylum_of}
use Rattle.sg_kinds.specs.Terms as term
use Rattle.sg_kinds.specs.Terms.{Term, AndTerm}
use Rattle.sg_kinds.specs.Values.{Bytes}
use Rattle.sg_kinds.specs.declared.spec.Spec.{Spec}
use Rattle.sg_saved_form.specs.Files.{Raw, Raws, Branch, Whole, Quote, Flag, NoRaw, AndRaw, spelled}
use Rattle.sg_saved_form.specs.Notes.{IsOutline, count_of, first_place, height_of, height_of_all, notes_of}
use Rattle.sg_saved_form.specs.declared.notes.Note.{Note}
use Rattle.sg_saved_form.specs.declared.notes.Outline.{Outline}
use Rattle.sg_saved.specs.Ahead.{IsAhead, IsReadAs, term_over}
use Rattle.sg_saved.specs.Heads.{IsNoteOf, head_of, args_in}
use Rattle.sg_saved.specs.Misfits.{op_named, value_of, values_of, Part, HeadFits, EachFits, parts_of, IsFirstMisfit}
use Rattle.sg_saved.specs.declared.heads.Head.{Head}
use Rattle.sg_saved.specs.declared.reading.OpenFault.{OpenFault}
use Rattle.sg_saved.specs.declared.reading.OpenFault.TheVariants as fault
use Rattle.sg_saved.proofs.Pieces.{Piece, pieces_of, kids_of, kid-count, notes_in, note_at, note-from, first-note, AllStand, StandsAt, kids-of-stand}
use Rattle.sg_saved.proofs.Checking.{parts_in, parts-append, part_at, first-part, args-count}

-- a subterm for a place where there is none
abbrev pub no_piece : Piece
no_piece = record { at = 0; raw = Quote [] }

-- a subterm that is read next
module _ (bytes : Bytes) (notes : List Note) (i at : ℕ) (r : Raw) (behind : List Note) (a : IsAhead bytes notes i at r behind) where
  pub low : i < length notes
  low =
      let e : length notes - i ≡ suc (length (notes_in (kids_of at r) ++ behind)) =
      sym (length-drop i notes) ∙ ap length (a.noted ∙ ap (λ n. n ++ behind) (first-note at r)) in
      omega arith

  module _ (note : Note) (is : note ≡ get_or notes i note) where
    here : note ∷ drop (i + 1) notes ≡ note_at at r ∷ (notes_in (kids_of at r) ++ behind)
    here = ap (λ n. n ∷ drop (i + 1) notes) is ∙ sym (drop_more notes i note low) ∙ a.noted ∙ ap (λ n. n ++ behind) (first-note at r)

    noted-here : note ≡ note_at at r
    noted-here = let e = here in cc

    pub kids-ahead : drop (i + 1) notes ≡ notes_in (kids_of at r) ++ behind
    kids-ahead = let e = here in cc

    pub from-here : note.from ≡ at
    from-here = ap (λ n. n.from) noted-here ∙ note-from at r

    pub note-ahead : IsNoteOf bytes note r
    note-ahead = record {
      is = a.is;
      more = a.more;
      text = ap (λ k. drop k bytes) from-here ∙ a.text;
      rest = notes_in (kids_of at r);
      notes = ap (λ k. notes_of k r) from-here ∙ first-note at r ∙ ap (λ n. n ∷ notes_in (kids_of at r)) (sym noted-here);
    }

-- the one of the children that is read next
stands-at : (bytes : Bytes) (xs : List Piece) (k : ℕ) → k < length xs → AllStand bytes xs → StandsAt bytes (get_or xs k no_piece).at (get_or xs k no_piece).raw
stands-at bytes [] k less all = absurd (omega arith)
stands-at bytes (x ∷ xs) zero less all = all.0
stands-at bytes (x ∷ xs) (suc k) less all = stands-at bytes xs k (omega arith) all.1

row-height : (at : ℕ) (rs : Raws) (k : ℕ) → k < length (pieces_of at rs) → height_of (get_or (pieces_of at rs) k no_piece).raw ≤ height_of_all rs
row-height at NoRaw k less = absurd (omega arith)
row-height at (AndRaw r rs) zero less = omega arith
row-height at (AndRaw r rs) (suc k) less = let rest = row-height (at + length (spelled r) + 1) rs k (omega arith) in omega arith

pub kid-height : (at : ℕ) (r : Raw) (k : ℕ) → k < length (kids_of at r) → height_of (get_or (kids_of at r) k no_piece).raw < height_of r
kid-height at (Branch name rs) k less = let e = row-height (at + length name + 1) rs k less in omega arith
kid-height at (Whole z) k less = absurd (omega arith)
kid-height at (Quote s) k less = absurd (omega arith)
kid-height at (Flag b) k less = absurd (omega arith)

pub some-height : (r : Raw) → 0 < height_of r
some-height (Branch name rs) = omega arith
some-height (Whole z) = omega arith
some-height (Quote s) = omega arith
some-height (Flag b) = omega arith

pub kid-ahead : (bytes : Bytes) (notes : List Note) (i at : ℕ) (r : Raw) (behind : List Note) → IsAhead bytes notes i at r behind → (k next : ℕ) → k < length (kids_of at r)
    → drop next notes ≡ notes_in (drop k (kids_of at r)) ++ behind
    → IsAhead bytes notes next (get_or (kids_of at r) k no_piece).at (get_or (kids_of at r) k no_piece).raw (notes_in (drop (k + 1) (kids_of at r)) ++ behind)
kid-ahead bytes notes i at r behind a k next low rest =
    let xs : List Piece = kids_of at r in
    let x : Piece = get_or xs k no_piece in
    let s = stands-at bytes xs k low (kids-of-stand bytes at r (record { is = a.is; more = a.more; text = a.text })) in
    record {
      is = s.is;
      more = s.more;
      text = s.text;
      noted = rest ∙ ap (λ ys. notes_in ys ++ behind) (drop_more xs k no_piece low) ∙ append_assoc (notes_of x.at x.raw) (notes_in (drop (k + 1) xs)) behind;
    }

module _ (spec : Spec) where
  -- the plain terms of subterms at these phyla
  abbrev pub plains : List ℕ → List Piece → List Term
  plains [] xs = []
  plains (p ∷ ps) [] = []
  plains (p ∷ ps) (x ∷ xs) = plain spec (value_of spec x.raw) p ∷ plains ps xs

  plains-more : (ps : List ℕ) (xs : List Piece) (p : ℕ) (x : Piece) → length ps ≡ length xs → plains (ps ++ p ∷ []) (xs ++ x ∷ []) ≡ plains ps xs ++ plain spec (value_of spec x.raw) p ∷ []
  plains-more [] [] p x same = refl
  plains-more [] (y ∷ xs) p x same = absurd (omega arith)
  plains-more (q ∷ ps) [] p x same = absurd (omega arith)
  plains-more (q ∷ ps) (y ∷ xs) p x same = ap (λ ts. plain spec (value_of spec y.raw) q ∷ ts) (plains-more ps xs p x (omega arith))

  plains-all : (ps : List ℕ) (at : ℕ) (rs : Raws) → length ps ≡ count_of rs → term.kids_of (plains ps (pieces_of at rs)) ≡ plain_all spec (values_of spec rs) ps
  plains-all [] at NoRaw same = refl
  plains-all [] at (AndRaw r rs) same = absurd (omega arith)
  plains-all (p ∷ ps) at NoRaw same = absurd (omega arith)
  plains-all (p ∷ ps) at (AndRaw r rs) same = ap (AndTerm (plain spec (value_of spec r) p)) (plains-all ps (at + length (spelled r) + 1) rs (omega arith))

  -- the plain term of a subterm over those of its children
  pub over-plains : (p at : ℕ) (r : Raw) → HeadFits spec p r → term_over (head_of spec r) p (term.kids_of (plains (args_in spec (head_of spec r)) (kids_of at r))) ≡ plain spec (value_of spec r) p
  over-plains p at (Branch name rs) fits = by (op_named spec.ops name) fits
    where
      by : (o : Option ℕ) → MatchOption o ⊥ (λ op. (phylum_of spec.ops op ≡ Some p) × (length (args_of spec.ops op) ≡ count_of rs))
          → term.Node (unwrap_or o 0) 0 false (term.kids_of (plains (unwrap_or (option_map (args_of spec.ops) o) []) (pieces_of (at + length name + 1) rs)))
          ≡ term.Node (unwrap_or o 0) 0 false (plain_all spec (values_of spec rs) (args_of spec.ops (unwrap_or o 0)))
      by None f = absurd f
      by (Some op) f = ap (term.Node op 0 false) (plains-all (args_of spec.ops op) (at + length name + 1) rs f.1)
  over-plains p at (Whole z) fits = refl
  over-plains p at (Quote s) fits = refl
  over-plains p at (Flag b) fits = refl

  both-fit : (xs ys : List Part) → EachFits spec xs → EachFits spec ys → EachFits spec (xs ++ ys)
  both-fit [] ys f g = g
  both-fit (x ∷ xs) ys f g = (f.0, both-fit xs ys f.1 g)

  -- the first children are read
  pub record AreRead (notes : List Note) (args : List ℕ) (xs : List Piece) (behind : List Note) (k : ℕ) (kids : List Term) (next : ℕ) : Type 0 where
    pub fit : EachFits spec (parts_in spec (take k args) (take k xs))
    pub made : kids ≡ plains (take k args) (take k xs)
    pub rest : drop next notes ≡ notes_in (drop k xs) ++ behind

  module _ (notes : List Note) (args : List ℕ) (xs : List Piece) (behind : List Note) (same : length args ≡ length xs) where
    pub none-read : (kids : List Term) (next : ℕ) → kids ≡ [] → drop next notes ≡ notes_in xs ++ behind → AreRead notes args xs behind 0 kids next
    none-read kids next none rest = record { fit = tt; made = none; rest = rest }

    module _ (k : ℕ) (kids : List Term) (next : ℕ) (so_far : AreRead notes args xs behind k kids next) (low : k < length args) (p : ℕ) (at : p ≡ get_or args k p) where
      abbrev pub x : Piece
      x = get_or xs k no_piece

      few : length (take k args) ≡ length (take k xs)
      few = length-take-le k args (omega arith) ∙ sym (length-take-le k xs (omega arith))

      args-more : take (k + 1) args ≡ take k args ++ p ∷ []
      args-more = take_more args k p low ∙ ap (λ q. take k args ++ q ∷ []) (sym at)

      xs-more : take (k + 1) xs ≡ take k xs ++ x ∷ []
      xs-more = take_more xs k no_piece (omega arith)

      pub one-read : (t : Term) (new : List Term) (m : ℕ) → IsReadAs spec p x.at x.raw (Ok t) → drop m notes ≡ notes_in (drop (k + 1) xs) ++ behind → new ≡ kids ++ t ∷ []
          → AreRead notes args xs behind (k + 1) new m
      one-read t new m is rest pushed =
          let parts : parts_in spec (take (k + 1) args) (take (k + 1) xs) ≡ parts_in spec (take k args) (take k xs) ++ (parts_of spec p x.at x.raw ++ []) =
          (λ i. parts_in spec (args-more i) (xs-more i)) ∙ parts-append spec (take k args) (p ∷ []) (take k xs) (x ∷ []) few in
          record {
            fit = subst (EachFits spec) (sym parts) (both-fit (parts_in spec (take k args) (take k xs)) (parts_of spec p x.at x.raw ++ []) so_far.fit (subst (EachFits spec) (sym (append-nil (parts_of spec p x.at x.raw))) is.0));
            made = pushed ∙ (λ i. so_far.made i ++ is.1 i ∷ []) ∙ sym (plains-more (take k args) (take k xs) p x few) ∙ sym (λ i. plains (args-more i) (xs-more i));
            rest = rest;
          }

      all-parts : parts_in spec args xs ≡ parts_in spec (take k args) (take k xs) ++ (parts_of spec p x.at x.raw ++ parts_in spec (drop (k + 1) args) (drop (k + 1) xs))
      all-parts =
          let args_are : args ≡ take k args ++ p ∷ drop (k + 1) args = sym (take-append-drop k args) ∙ ap (λ n. take k args ++ n) (drop_more args k p low ∙ ap (λ q. q ∷ drop (k + 1) args) (sym at)) in
          let xs_are : xs ≡ take k xs ++ x ∷ drop (k + 1) xs = sym (take-append-drop k xs) ∙ ap (λ n. take k xs ++ n) (drop_more xs k no_piece (omega arith)) in
          (λ i. parts_in spec (args_are i) (xs_are i)) ∙ parts-append spec (take k args) (p ∷ drop (k + 1) args) (take k xs) (x ∷ drop (k + 1) xs) few

      -- a refusal of a child is that of the whole
      kid-misfit : (part : Part) (n : ℕ) (fits : EachFits spec (part ∷ [])) → IsFirstMisfit spec (parts_of spec p x.at x.raw) n → IsFirstMisfit spec (part ∷ parts_in spec args xs) n
      kid-misfit part n fits f =
          let done : List Part = parts_in spec (take k args) (take k xs) in
          let rest : List Part = parts_in spec (drop (k + 1) args) (drop (k + 1) xs) in
          record {
            before = (part ∷ done) ++ f.before;
            part = f.part;
            behind = f.behind ++ rest;
            are = ap (λ ys. part ∷ ys) all-parts ∙ ap (λ ys. (part ∷ done) ++ (ys ++ rest)) f.are
                ∙ ap (λ ys. (part ∷ done) ++ ys) (append_assoc f.before (f.part ∷ f.behind) rest)
                ∙ sym (append_assoc (part ∷ done) f.before (f.part ∷ (f.behind ++ rest)));
            fit = both-fit (part ∷ done) f.before (fits.0, so_far.fit) f.fit;
            misfit = f.misfit;
            place = f.place;
          }

      pub kid-refused : (part : Part) → EachFits spec (part ∷ []) → (w n : ℕ) (r : Raw) → parts_of spec w n r ≡ part ∷ parts_in spec args xs → (e : OpenFault) → IsReadAs spec p x.at x.raw (Err e) → IsReadAs spec w n r (Err e)
      kid-refused part fits w n r are (fault.Phylum m) f = subst (λ ys. IsFirstMisfit spec ys m) (sym are) (kid-misfit part m fits f)
      kid-refused part fits w n r are fault.NoMemory f = tt
      kid-refused part fits w n r are (fault.Form m) f = absurd f
      kid-refused part fits w n r are (fault.Size m d) f = absurd f

    pub all-read : (k : ℕ) (kids : List Term) (next : ℕ) → AreRead notes args xs behind k kids next → length args ≤ k
        → EachFits spec (parts_in spec args xs) × (kids ≡ plains args xs) × (drop next notes ≡ behind)
    all-read k kids next so_far all =
        let args_are = take_all k args all in
        let xs_are = take_all k xs (omega arith) in
        let none = length-drop k xs in (
          subst (EachFits spec) (λ i. parts_in spec (args_are i) (xs_are i)) so_far.fit,
          so_far.made ∙ (λ i. plains (args_are i) (xs_are i)),
          so_far.rest ∙ ap (λ ys. notes_in ys ++ behind) (drop_all k xs (omega arith)),
        )

  -- a subterm whose head does not fit
  pub head-misfits : (p at : ℕ) (r : Raw) (n : ℕ) → n ≡ at → (HeadFits spec p r → ⊥) → IsReadAs spec p at r (Err (fault.Phylum n))
  head-misfits p at r n here misfit = record {
    before = [];
    part = part_at spec p at r;
    behind = parts_in spec (args_in spec (head_of spec r)) (kids_of at r);
    are = first-part spec p at r;
    fit = tt;
    misfit = misfit;
    place = sym here;
  }

  -- what is known of a subterm whose head fits
  pub record IsOver (p at : ℕ) (r : Raw) (args : List ℕ) : Type 0 where
    pub fits : HeadFits spec p r
    pub are : args ≡ args_in spec (head_of spec r)

  module _ (p at : ℕ) (r : Raw) (args : List ℕ) (o : IsOver p at r args) where
    pub count-same : length args ≡ length (kids_of at r)
    count-same = ap length o.are ∙ args-count spec p at r o.fits

    pub parts-over : parts_of spec p at r ≡ part_at spec p at r ∷ parts_in spec args (kids_of at r)
    parts-over = first-part spec p at r ∙ ap (λ ps. part_at spec p at r ∷ parts_in spec ps (kids_of at r)) (sym o.are)

    pub made-over : (head : Head) (kids : List Term) (t : Term) → head ≡ head_of spec r → t ≡ term_over head p (term.kids_of kids) → EachFits spec (parts_in spec args (kids_of at r)) → kids ≡ plains args (kids_of at r) → IsReadAs spec p at r (Ok t)
    made-over head kids t heads made fit are = (
      subst (EachFits spec) (sym parts-over) (o.fits, fit),
      made ∙ (λ i. term_over (heads i) p (term.kids_of ((are ∙ ap (λ ps. plains ps (kids_of at r)) o.are) i))) ∙ over-plains p at r o.fits,
    )

-- the whole term is read first
pub whole-ahead : (bytes : Bytes) (o : Outline) (is : IsOutline bytes o) → IsAhead bytes o.notes.items 0 first_place is.raw []
whole-ahead bytes o is = record {
  is = is.is;
  more = 10 ∷ [];
  text = ap (drop first_place) is.same;
  noted = is.notes ∙ sym (append-nil (notes_of first_place is.raw));
}

pub whole-deep : (bytes : Bytes) (o : Outline) (is : IsOutline bytes o) → height_of is.raw ≤ o.depth
whole-deep bytes o is = let e = is.depth in omega arith
