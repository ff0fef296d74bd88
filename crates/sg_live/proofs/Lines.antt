-- The lines of a text, cut behind each newline
use Rattle.std.proofs.Common.{◌≡◌, ◌≢◌, ◌≤◌, ◌+◌, ◌-◌, ℕ, suc, List, [], ◌∷◌, ◌++◌, length, take, All, Bool, true, false, cond, eqb, refl, sym, ap, subst, ◌∙◌, arith, ne_eqb, eq-eqb, append-nil, length-append}
use Rattle.std.specs.Io.{StopsAt}
use Rattle.std.specs.Io.BufRead.{take_through, drop_through}
use Rattle.std.specs.List.{slice_split, onto_first}
use Rattle.std.specs.Str.Lines.{lines, lines_of_parts, strip_carriage_return}
use Rattle.std.proofs.lemmas.List.Elements.{All-head, All-tail, All-nil, All-cons, All-drop}
use Rattle.std.proofs.lemmas.Bool.{eqb-true}
use Rattle.std.proofs.Math.Seq.{take-append-add, drop-append_seam}
use Rattle.std.proofs.BufReadLemmas.{take_through-append, drop_through-append}

abbrev parts : List ℕ → List (List ℕ)
parts bytes = slice_split (λ b. eqb b 10) bytes

-- a part with others behind it is a line that ends
more_parts : (x bytes : List ℕ) → lines_of_parts (x ∷ parts bytes) ≡ strip_carriage_return x ∷ lines_of_parts (parts bytes)
more_parts x [] = refl
more_parts x (b ∷ bytes) = go (eqb b 10) (parts bytes)
  where
    go : (t : Bool) (ps : List (List ℕ)) → lines_of_parts (x ∷ cond t ([] ∷ ps) (onto_first b ps)) ≡ strip_carriage_return x ∷ lines_of_parts (cond t ([] ∷ ps) (onto_first b ps))
    go true ps = refl
    go false [] = refl
    go false (p ∷ ps) = refl

-- a text with a front that has no newline, and a newline behind it
ended_parts : (front rest : List ℕ) → All (λ b. b ≢ 10) front → parts (front ++ 10 ∷ rest) ≡ front ∷ parts rest
ended_parts [] rest plain = refl
ended_parts (b ∷ front) rest plain =
    ap (λ t. cond t ([] ∷ parts (front ++ 10 ∷ rest)) (onto_first b (parts (front ++ 10 ∷ rest)))) (ne_eqb b 10 (All-head (λ y. y ≢ 10) b front plain))
    ∙ ap (onto_first b) (ended_parts front rest (All-tail (λ y. y ≢ 10) b front plain))

plain_parts : (front : List ℕ) → All (λ b. b ≢ 10) front → parts front ≡ front ∷ []
plain_parts [] plain = refl
plain_parts (b ∷ front) plain =
    ap (λ t. cond t ([] ∷ parts front) (onto_first b (parts front))) (ne_eqb b 10 (All-head (λ y. y ≢ 10) b front plain))
    ∙ ap (onto_first b) (plain_parts front (All-tail (λ y. y ≢ 10) b front plain))

ended_lines : (front rest : List ℕ) → All (λ b. b ≢ 10) front → lines (front ++ 10 ∷ rest) ≡ strip_carriage_return front ∷ lines rest
ended_lines front rest plain = ap lines_of_parts (ended_parts front rest plain) ∙ more_parts front rest

plain_few : (front : List ℕ) → All (λ b. b ≢ 10) front → length (lines front) ≤ 1
plain_few front plain = rw (plain_parts front plain) (by (eqb (length front) 0))
  where
    by : (t : Bool) → length (cond t [] (front ∷ [])) ≤ 1
    by true = omega arith
    by false = omega arith

-- a text as its first line with its newline, and the rest
pub data Cut (bytes : List ℕ) : Type 0 where
  whole : All (λ b. b ≢ 10) bytes → Cut bytes
  cut : (front rest : List ℕ) → All (λ b. b ≢ 10) front → bytes ≡ front ++ 10 ∷ rest → Cut bytes

longer : (b : ℕ) (bytes : List ℕ) → Cut bytes → (t : Bool) → eqb b 10 ≡ t → Cut (b ∷ bytes)
longer b bytes c true is = cut [] bytes (All-nil (λ y. y ≢ 10)) (ap (λ x. x ∷ bytes) (eqb-true b 10 is))
longer b bytes (whole plain) false is = whole (All-cons (λ y. y ≢ 10) b bytes (other b is) plain)
  where
    other : (x : ℕ) → eqb x 10 ≡ false → x ≢ 10
    other x differs e = let yes : eqb x 10 ≡ true = eq-eqb x 10 e in cc
longer b bytes (cut front rest plain e) false is = cut (b ∷ front) rest (All-cons (λ y. y ≢ 10) b front (other b is) plain) (ap (λ l. b ∷ l) e)
  where
    other : (x : ℕ) → eqb x 10 ≡ false → x ≢ 10
    other x differs e = let yes : eqb x 10 ≡ true = eq-eqb x 10 e in cc

cut_of : (bytes : List ℕ) → Cut bytes
cut_of [] = whole (All-nil (λ y. y ≢ 10))
cut_of (b ∷ bytes) = longer b bytes (cut_of bytes) (eqb b 10) refl

-- the lines of a text are those of its first line with its newline, and those of the rest
pub cut_lines : (bytes : List ℕ) → lines (take_through 10 bytes) ++ lines (drop_through 10 bytes) ≡ lines bytes
cut_lines bytes = by bytes (cut_of bytes)
  where
    by : (bs : List ℕ) → Cut bs → lines (take_through 10 bs) ++ lines (drop_through 10 bs) ≡ lines bs
    by bs (whole plain) =
        let all : take_through 10 bs ≡ bs = ap (take_through 10) (sym (append-nil bs)) ∙ take_through-append 10 bs [] plain ∙ append-nil bs in
        let none : drop_through 10 bs ≡ [] = ap (drop_through 10) (sym (append-nil bs)) ∙ drop_through-append 10 bs [] plain in
        ap (λ l. lines l ++ lines (drop_through 10 bs)) all ∙ ap (λ l. lines bs ++ lines l) none ∙ append-nil (lines bs)
    by bs (cut front rest plain e) =
        let first : take_through 10 bs ≡ front ++ 10 ∷ [] = ap (take_through 10) e ∙ take_through-append 10 front (10 ∷ rest) plain in
        let others : drop_through 10 bs ≡ rest = ap (drop_through 10) e ∙ drop_through-append 10 front (10 ∷ rest) plain in
        ap (λ l. lines l ++ lines (drop_through 10 bs)) first ∙ ap (λ l. lines (front ++ 10 ∷ []) ++ lines l) others
        ∙ ap (λ l. l ++ lines rest) (ended_lines front [] plain) ∙ sym (ended_lines front rest plain) ∙ ap lines (sym e)

-- a text with no newline but at its end has one line or none
pub one_line : (bytes : List ℕ) → StopsAt bytes 10 → length (lines bytes) ≤ 1
one_line bytes stops = by (cut_of bytes)
  where
    last : (front rest : List ℕ) → StopsAt (front ++ 10 ∷ rest) 10 → rest ≡ []
    last front [] h = refl
    last front (y ∷ ys) h =
        let long : length (front ++ 10 ∷ y ∷ ys) ≡ length front + length (10 ∷ y ∷ ys) = length-append front (10 ∷ y ∷ ys) in
        let n : length (front ++ 10 ∷ y ∷ ys) - 1 ≡ length front + suc (length ys) = omega arith in
        let shown : take (length (front ++ 10 ∷ y ∷ ys) - 1) (front ++ 10 ∷ y ∷ ys) ≡ front ++ 10 ∷ take (length ys) (y ∷ ys) =
        ap (λ k. take k (front ++ 10 ∷ y ∷ ys)) n ∙ take-append-add front (10 ∷ y ∷ ys) (suc (length ys)) in
        let all : All (λ b. b ≢ 10) (front ++ 10 ∷ take (length ys) (y ∷ ys)) = subst (All (λ b. b ≢ 10)) shown h in
        let behind : All (λ b. b ≢ 10) (10 ∷ take (length ys) (y ∷ ys)) = subst (All (λ b. b ≢ 10)) (drop-append_seam front (10 ∷ take (length ys) (y ∷ ys))) (All-drop (λ b. b ≢ 10) (length front) (front ++ 10 ∷ take (length ys) (y ∷ ys)) all) in
        absurd (All-head (λ b. b ≢ 10) 10 (take (length ys) (y ∷ ys)) behind refl)

    by : Cut bytes → length (lines bytes) ≤ 1
    by (whole plain) = plain_few bytes plain
    by (cut front rest plain e) =
        let P : List ℕ → Type 0 = λ l. StopsAt l 10 in
        let none : rest ≡ [] = last front rest (subst P e stops) in
        let is : lines bytes ≡ strip_carriage_return front ∷ [] = ap lines e ∙ ended_lines front rest plain ∙ ap (λ l. strip_carriage_return front ∷ lines l) none in
        rw is (omega arith)
