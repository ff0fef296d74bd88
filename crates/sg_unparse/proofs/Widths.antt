-- From a wider margin the same is written, with more blanks behind its newlines.
use Rattle.std.specs.Prelude.{◌≡◌, refl, ℕ, zero, suc, ◌+◌, ◌-◌, ◌*◌, ◌≤◌, Bool, true, false, ◌==◌, cond, if◌then◌else◌, List, [], ◌∷◌, ◌++◌, map, replicate, Option, Some, None, unwrap_or}
use Rattle.std.proofs.Common.{sym, ap, ◌∙◌, subst, arith, append_assoc}
use Rattle.std.proofs.lemmas.List.{map-append, replicate-append-replicate}
use Rattle.sg_kinds.specs.Values.{Bytes, Value}
use Rattle.sg_kinds.specs.Terms.{Term, Terms, Leaf, Node, NoTerm, AndTerm}
use Rattle.sg_kinds.specs.Places.{Place}
use Rattle.sg_kinds.specs.Nets.{Reference}
use Rattle.sg_kinds.specs.Typing.{slot_type}
use Rattle.sg_kinds.specs.declared.spec.Spec.{Spec}
use Rattle.sg_kinds.specs.declared.spec.Piece.{Piece}
use Rattle.sg_kinds.specs.declared.spec.Piece.TheVariants.{Written, Newline, Margin}
use Rattle.sg_kinds.specs.declared.spec.Item.{Item}
use Rattle.sg_kinds.specs.declared.spec.Item.TheVariants.{Writes as WritesPieces, Child, Shows, Separates}
use Rattle.sg_kinds.specs.declared.marks.ChildPlace.{ChildPlace}
use Rattle.sg_kinds.specs.declared.marks.ChildPlace.TheVariants.{Resting, Passed, Hidden}
use Rattle.std.specs.List.{AllByRecursion}
use Rattle.sg_groves.specs.Evaluated.{is_at_or_below}
use Rattle.sg_unparse.specs.Cells.{Mark, Writes, Closed, Writing, nothing, in_turn, as_they_are, newline, plain, piece, pieces, cells_in, ended, placed, goes_on, reference, items_of, shows, items, content, unparsed, unparsed_among}
use Rattle.sg_unparse.specs.Printing.{value_text}
use Rattle.sg_unparse.specs.Page.{is_newline}
use Rattle.sg_unparse.specs.Owned.{before}

abbrev pub blanks : Place → ℕ → List Mark
blanks u j = map (λ b. Writes b u) (replicate j 32)

-- the same marks, with at most d blanks more behind newlines
pub data Wider (d : ℕ) : List Mark → List Mark → Type 0 where
  no_more : Wider d [] []
  same : (b : ℕ) (u : Place) (xs ys : List Mark) → Wider d xs ys → Wider d (Writes b u ∷ xs) (Writes b u ∷ ys)
  ends : (u : Place) (n k : ℕ) (xs ys : List Mark) → Wider d xs ys → Wider d (Closed u n ∷ xs) (Closed u k ∷ ys)
  line : (u : Place) (j : ℕ) (xs ys : List Mark) → j ≤ d → Wider d xs ys → Wider d (Writes 10 u ∷ xs) (Writes 10 u ∷ (blanks u j ++ ys))

wider_append : (d : ℕ) (xs ys cs bs : List Mark) → Wider d xs ys → Wider d cs bs → Wider d (xs ++ cs) (ys ++ bs)
wider_append d _ _ cs bs no_more k = k
wider_append d _ _ cs bs (same b u xs ys h) k = same b u (xs ++ cs) (ys ++ bs) (wider_append d xs ys cs bs h k)
wider_append d _ _ cs bs (ends u n i xs ys h) k = ends u n i (xs ++ cs) (ys ++ bs) (wider_append d xs ys cs bs h k)
wider_append d _ _ cs bs (line u j xs ys few h) k =
    subst (λ z. Wider d (Writes 10 u ∷ (xs ++ cs)) (Writes 10 u ∷ z)) (sym (append_assoc (blanks u j) ys bs)) (line u j (xs ++ cs) (ys ++ bs) few (wider_append d xs ys cs bs h k))

itself_wider : (d : ℕ) (u : Place) (s : Bytes) → Wider d (map (λ b. Writes b u) s) (map (λ b. Writes b u) s)
itself_wider d u [] = no_more
itself_wider d u (b ∷ s) = same b u (map (λ b. Writes b u) s) (map (λ b. Writes b u) s) (itself_wider d u s)

-- what is written from a margin, and from another that is wider by at most d
pub record Wide (d : ℕ) (x y : List Mark × ℕ) : Type 0 where
  pub marks : Wider d x.0 y.0
  pub more : x.1 ≤ y.1
  pub few : y.1 ≤ x.1 + d

abbrev pub IsElastic : Writing → Type 0
IsElastic f = (d a b : ℕ) → a ≤ b → b ≤ a + d → Wide d (f a) (f b)

bytes_elastic : (u : Place) (s : Bytes) → IsElastic (as_they_are u s)
bytes_elastic u s d a b l m = record { marks = itself_wider d u s; more = l; few = m }

nothing_elastic : IsElastic nothing
nothing_elastic d a b l m = record { marks = no_more; more = l; few = m }

turn_elastic : (f g : Writing) → IsElastic f → IsElastic g → IsElastic (in_turn f g)
turn_elastic f g h k d a b l m =
    let x = h d a b l m in
    let y = k d (f a).1 (f b).1 x.more x.few in
    record { marks = wider_append d (f a).0 (f b).0 (g (f a).1).0 (g (f b).1).0 x.marks y.marks; more = y.more; few = y.few }

more_blanks : (u : Place) (a b : ℕ) → a ≤ b → blanks u b ≡ blanks u (b - a) ++ blanks u a
more_blanks u a b l =
    let e : b ≡ (b - a) + a = omega (arith, l) in
    ap (blanks u) e ∙ ap (map (λ b. Writes b u)) (sym (replicate-append-replicate (b - a) a 32)) ∙ map-append (λ b. Writes b u) (replicate (b - a) 32) (replicate a 32)

newline_elastic : (u : Place) → IsElastic (newline u)
newline_elastic u d a b l m = record {
  marks = subst (λ z. Wider d (Writes 10 u ∷ blanks u a) (Writes 10 u ∷ z)) (sym (more_blanks u a b l))
      (line u (b - a) (blanks u a) (blanks u a) (omega (arith, m)) (itself_wider d u (replicate a 32)));
  more = l;
  few = m;
}

plain_elastic : (u : Place) (s : Bytes) → IsElastic (plain u s)
plain_elastic u [] d a b l m = nothing_elastic d a b l m
plain_elastic u (c ∷ s) d a b l m = turn_elastic (if c == 10 then newline u else as_they_are u (c ∷ [])) (plain u s) (first (c == 10)) (plain_elastic u s) d a b l m
  where
    first : (t : Bool) → IsElastic (if t then newline u else as_they_are u (c ∷ []))
    first true = newline_elastic u
    first false = bytes_elastic u (c ∷ [])

piece_elastic : (u : Place) (p : Piece) → IsElastic (piece u p)
piece_elastic u (Written s) = bytes_elastic u s
piece_elastic u Newline = newline_elastic u
piece_elastic u (Margin back on) = λ d a b l m. record { marks = no_more; more = omega (arith, l); few = omega (arith, m) }

pieces_elastic : (u : Place) (ps : List Piece) → IsElastic (pieces u ps)
pieces_elastic u [] = nothing_elastic
pieces_elastic u (p ∷ ps) = turn_elastic (piece u p) (pieces u ps) (piece_elastic u p) (pieces_elastic u ps)

placed_elastic : (p : ChildPlace) (f : Writing) → IsElastic f → IsElastic (placed p f)
placed_elastic Resting f h = h
placed_elastic Passed f h = h
placed_elastic Hidden f h = nothing_elastic

ended_elastic : (u : Place) (f : Writing) → IsElastic f → IsElastic (ended u f)
ended_elastic u f h d a b l m =
    let x = h d a b l m in
    record {
      marks = wider_append d (f a).0 (f b).0 (Closed u (cells_in (f a).0) ∷ []) (Closed u (cells_in (f b).0) ∷ []) x.marks (ends u (cells_in (f a).0) (cells_in (f b).0) [] [] no_more);
      more = x.more;
      few = x.few;
    }

module _ (spec : Spec) (value : Reference Place → Value) (typed : Place → Option Bytes) where
  items_elastic : (u : Place) (op : ℕ) (more : Bool) (is : List Item) (kids : List Writing) → AllByRecursion IsElastic kids → IsElastic (items spec value typed u op more is kids)
  items_elastic u op more [] kids h = nothing_elastic
  items_elastic u op more (WritesPieces ps ∷ is) kids h = turn_elastic (pieces u ps) (items spec value typed u op more is kids) (pieces_elastic u ps) (items_elastic u op more is kids h)
  items_elastic u op more (Child place ∷ is) [] h = items_elastic u op more is [] h
  items_elastic u op more (Child place ∷ is) (kid ∷ kids) h = turn_elastic (placed place kid) (items spec value typed u op more is kids) (placed_elastic place kid h.0) (items_elastic u op more is kids h.1)
  items_elastic u op more (Shows o ∷ is) kids h =
      turn_elastic (shows spec value typed u op o) (items spec value typed u op more is kids)
      (plain_elastic u (value_text spec (unwrap_or (slot_type spec op o.at o.slot) 0) (value (reference u o)))) (items_elastic u op more is kids h)
  items_elastic u op true (Separates ps ∷ is) kids h = turn_elastic (pieces u ps) (items spec value typed u op true is kids) (pieces_elastic u ps) (items_elastic u op true is kids h)
  items_elastic u op false (Separates ps ∷ is) kids h = turn_elastic nothing (items spec value typed u op false is kids) nothing_elastic (items_elastic u op false is kids h)

  content_elastic : (u : Place) (o : Option Bytes) (elided : Bool) (f : Writing) → IsElastic f → IsElastic (content spec value typed u o elided f)
  content_elastic u (Some text) elided f h = plain_elastic u text
  content_elastic u None true f h = bytes_elastic u (46 ∷ 46 ∷ 46 ∷ [])
  content_elastic u None false f h = h

  mutual
    pub unparsed_elastic : (u : Place) (t : Term) → IsElastic (unparsed spec value typed u t)
    unparsed_elastic u (Leaf p v) =
        let own = plain u (value_text spec p v) in
        ended_elastic u (content spec value typed u (typed u) false own) (content_elastic u (typed u) false own (plain_elastic u (value_text spec p v)))
    unparsed_elastic u (Node op n elided ts) =
        let kids = unparsed_among spec value typed u 0 ts in
        let own = items spec value typed u op (goes_on ts) (items_of spec op n) kids in
        ended_elastic u (content spec value typed u (typed u) elided own) (content_elastic u (typed u) elided own (items_elastic u op (goes_on ts) (items_of spec op n) kids (among_elastic u 0 ts)))

    among_elastic : (u : Place) (k : ℕ) (ts : Terms) → AllByRecursion IsElastic (unparsed_among spec value typed u k ts)
    among_elastic u k NoTerm = tt
    among_elastic u k (AndTerm t ts) = (unparsed_elastic (k ∷ u) t, among_elastic u (suc k) ts)

-- newlines among marks
abbrev pub newlines_in : List Mark → ℕ
newlines_in [] = 0
newlines_in (Writes b u ∷ marks) = cond (is_newline b) 1 0 + newlines_in marks
newlines_in (Closed u n ∷ marks) = newlines_in marks

-- as many newlines, and at least as many cells, at most d more for each newline
pub record IsAbout (d : ℕ) (xs ys : List Mark) : Type 0 where
  pub newlines : newlines_in xs ≡ newlines_in ys
  pub more : cells_in xs ≤ cells_in ys
  pub few : cells_in ys ≤ cells_in xs + newlines_in xs * d

spread : (c n d : ℕ) → (c + n) * d ≡ c * d + n * d
spread c n d = omega arith

about_none : (d : ℕ) → IsAbout d [] []
about_none d = record { newlines = refl; more = omega arith; few = omega arith }

about_one : (d b : ℕ) (u : Place) (xs ys : List Mark) → IsAbout d xs ys → IsAbout d (Writes b u ∷ xs) (Writes b u ∷ ys)
about_one d b u xs ys a = record {
  newlines = ap (λ n. cond (is_newline b) 1 0 + n) a.newlines;
  more = (let h = a.more in omega (arith, h));
  few = (let h = a.few in let e = spread (cond (is_newline b) 1 0) (newlines_in xs) d in omega (arith, h, e));
}

no_newlines : (u : Place) (j : ℕ) (zs : List Mark) → newlines_in (blanks u j ++ zs) ≡ newlines_in zs
no_newlines u zero zs = refl
no_newlines u (suc j) zs = let e = no_newlines u j zs in omega (arith, e)

blanks_counted : (u : Place) (j : ℕ) (zs : List Mark) → cells_in (blanks u j ++ zs) ≡ j + cells_in zs
blanks_counted u zero zs = omega arith
blanks_counted u (suc j) zs = let e = blanks_counted u j zs in omega (arith, e)

before_blanks : (v u : Place) (j : ℕ) (ys : List Mark) → is_at_or_below u v ≡ false → before v (blanks u j ++ ys) ≡ blanks u j ++ before v ys
before_blanks v u zero ys n = refl
before_blanks v u (suc j) ys n = ap (λ t. if t then [] else Writes 32 u ∷ before v (blanks u j ++ ys)) n ∙ ap (λ z. Writes 32 u ∷ z) (before_blanks v u j ys n)

about_line : (d : ℕ) (u : Place) (j : ℕ) (xs ys : List Mark) → j ≤ d → IsAbout d xs ys → IsAbout d (Writes 10 u ∷ xs) (Writes 10 u ∷ (blanks u j ++ ys))
about_line d u j xs ys few a = record {
  newlines = ap (λ n. 1 + n) (a.newlines ∙ sym (no_newlines u j ys));
  more = (let h = a.more in let e = blanks_counted u j ys in omega (arith, h, e));
  few = (let h = a.few in let e = blanks_counted u j ys in let f = spread 1 (newlines_in xs) d in omega (arith, h, e, f, few));
}

pub before_about : (d : ℕ) (v : Place) (xs ys : List Mark) → Wider d xs ys → IsAbout d (before v xs) (before v ys)
before_about d v _ _ no_more = about_none d
before_about d v _ _ (same b u xs ys h) = by (is_at_or_below u v) (before_about d v xs ys h)
  where
    by : (t : Bool) → IsAbout d (before v xs) (before v ys) → IsAbout d (if t then [] else Writes b u ∷ before v xs) (if t then [] else Writes b u ∷ before v ys)
    by true a = about_none d
    by false a = about_one d b u (before v xs) (before v ys) a
before_about d v _ _ (ends u n k xs ys h) = by (is_at_or_below u v) (before_about d v xs ys h)
  where
    by : (t : Bool) → IsAbout d (before v xs) (before v ys) → IsAbout d (if t then [] else Closed u n ∷ before v xs) (if t then [] else Closed u k ∷ before v ys)
    by true a = about_none d
    by false a = record { newlines = a.newlines; more = a.more; few = a.few }
before_about d v _ _ (line u j xs ys few h) = by (is_at_or_below u v) refl (before_about d v xs ys h)
  where
    by : (t : Bool) → is_at_or_below u v ≡ t → IsAbout d (before v xs) (before v ys)
        → IsAbout d (if t then [] else Writes 10 u ∷ before v xs) (if t then [] else Writes 10 u ∷ before v (blanks u j ++ ys))
    by true e a = about_none d
    by false e a = subst (λ z. IsAbout d (Writes 10 u ∷ before v xs) (Writes 10 u ∷ z)) (sym (before_blanks v u j ys e)) (about_line d u j (before v xs) (before v ys) few a)
