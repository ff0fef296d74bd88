-- Declarations read one after the other, as a loop does, and what their reading says.
use Rattle.std.proofs.Common.{◌≡◌, ℕ, zero, suc, ◌+◌, List, [], ◌∷◌, ◌++◌, length, take, drop, ◌<◌, ◌≤◌, length-take, Option, Some, None, Result, Ok, Err, refl, sym, ap, ◌∙◌, subst, arith, append_assoc, append-nil, ◌⊎◌, inl, inr}
use Rattle.sg_ast.specs.Declarations.{Decl}
use Rattle.sg_ast.specs.Reading.{decl_of}
use Rattle.sg_ast.specs.Spelling.{Mark}
use Rattle.sg_text.specs.declared.tokens.Token.{Token}
use Rattle.sg_text.specs.Cut.{cut, CutsFirst}
use Rattle.sg_ast.specs.Spells.{Spells, EachSpells, marks_from, marked_from}
use Rattle.sg_ast.proofs.Exact.{spelling_reads, reading_spells}
use Rattle.sg_reader.specs.EachRead.{line_of, before, read_from, IsFirstUnread}

-- trees that were found before others
abbrev pub with_front : List Decl → Result (List Decl) (ℕ × ℕ) → Result (List Decl) (ℕ × ℕ)
with_front front (Ok ds) = Ok (front ++ ds)
with_front front (Err e) = Err e

regrouped : (front : List Decl) (d : Decl) (number line : ℕ) (r : Result (List Decl) (ℕ × ℕ)) → with_front front (before (Some d) number line r) ≡ with_front (front ++ d ∷ []) r
regrouped front d number line (Ok ds) = ap (λ (xs : List Decl). Ok xs) (sym (append_assoc front (d ∷ []) ds))
regrouped front d number line (Err l) = refl

-- one more tree
pub goes_on : {total : Result (List Decl) (ℕ × ℕ)} (number : ℕ) (front : List Decl) (first : List Mark) (others : List (List Mark)) (d : Decl)
    → decl_of first ≡ Some d
    → with_front front (read_from number (first ∷ others)) ≡ total → with_front (front ++ d ∷ []) (read_from (suc number) others) ≡ total
goes_on number front first others d read so_far =
    let one : with_front front (read_from number (first ∷ others)) ≡ with_front front (before (Some d) number (line_of first) (read_from (suc number) others)) = rw read refl in
    sym (regrouped front d number (line_of first) (read_from (suc number) others)) ∙ sym one ∙ so_far

-- a declaration without a reading
pub refuses : {total : Result (List Decl) (ℕ × ℕ)} (number : ℕ) (front : List Decl) (first : List Mark) (others : List (List Mark))
    → decl_of first ≡ None
    → with_front front (read_from number (first ∷ others)) ≡ total → total ≡ Err (number, line_of first)
refuses number front first others unread so_far =
    let one : with_front front (read_from number (first ∷ others)) ≡ Err (number, line_of first) = rw unread refl in
    sym so_far ∙ one

-- no declaration is left
pub ends : {total : Result (List Decl) (ℕ × ℕ)} (number : ℕ) (front : List Decl)
    → with_front front (read_from number []) ≡ total → total ≡ Ok front
ends number front so_far = sym so_far ∙ ap (λ (xs : List Decl). Ok xs) (append-nil front)

-- what was read spells the declarations
ok_before : (o : Option Decl) (number line : ℕ) (r : Result (List Decl) (ℕ × ℕ)) (ds : List Decl) → before o number line r ≡ Ok ds
    → (d : Decl) × (es : List Decl) × (o ≡ Some d) × (r ≡ Ok es) × (ds ≡ d ∷ es)
ok_before None number line r ds e = absurd (cc)
ok_before (Some d) number line (Ok es) ds e = (d, es, refl, refl, cc)
ok_before (Some d) number line (Err x) ds e = absurd (cc)

pub all_spelled : (number : ℕ) (mss : List (List Mark)) (ds : List Decl) → read_from number mss ≡ Ok ds → EachSpells mss ds
all_spelled number [] [] e = tt
all_spelled number [] (d ∷ ds) e = absurd (cc)
all_spelled number (ms ∷ mss) ds e =
    let b = ok_before (decl_of ms) number (line_of ms) (read_from (suc number) mss) ds e in
    let P : List Decl → Type 0 = λ ds. EachSpells (ms ∷ mss) ds in
    subst P (sym b.4) (reading_spells ms b.0 b.2, all_spelled (suc number) mss b.1 b.3)

-- trees that spell the declarations are read
pub all_read : (number : ℕ) (mss : List (List Mark)) (ds : List Decl) → EachSpells mss ds → read_from number mss ≡ Ok ds
all_read number [] [] all = refl
all_read number [] (d ∷ ds) all = absurd all
all_read number (ms ∷ mss) [] all = absurd all
all_read number (ms ∷ mss) (d ∷ ds) all = rw (spelling_reads ms d all.0, all_read (suc number) mss ds all.1) refl

-- the fault is the first
err_before : (o : Option Decl) (number line : ℕ) (r : Result (List Decl) (ℕ × ℕ)) (e : ℕ × ℕ) → before o number line r ≡ Err e
    → ((o ≡ None) × (e ≡ (number, line))) ⊎ ((d : Decl) × (o ≡ Some d) × (r ≡ Err e))
err_before None number line r e is = inl (refl, cc)
err_before (Some d) number line (Ok es) e is = absurd (cc)
err_before (Some d) number line (Err x) e is = inr (d, refl, cc)

pub no_tree : (ms : List Mark) → decl_of ms ≡ None → (d : Decl) → Spells ms d → ⊥
no_tree ms unread d is = let both : None ≡ Some d = sym unread ∙ spelling_reads ms d is in absurd (cc)

-- a fault is no earlier than the first declaration
later : (number n : ℕ) (mss : List (List Mark)) (line : ℕ) → read_from number mss ≡ Err (n, line) → number ≤ n
later number n [] line e = absurd (cc)
later number n (ms ∷ mss) line e =
    elim (err_before (decl_of ms) number (line_of ms) (read_from (suc number) mss) (n, line) e) [
      | inl x ↦ let same : n ≡ number = ap (λ (p : ℕ × ℕ). p.0) x.1 in omega arith
      | inr x ↦ let more = later (suc number) n mss line x.2 in omega (arith, more)
    ]

unread_from : (number k n : ℕ) (mss : List (List Mark)) (line : ℕ) → n ≡ number + k → read_from number mss ≡ Err (n, line) → IsFirstUnread mss k line
unread_from number k n [] line is e = absurd (cc)
unread_from number zero n (ms ∷ mss) line is e =
    elim (err_before (decl_of ms) number (line_of ms) (read_from (suc number) mss) (n, line) e) [
      | inl x ↦ (no_tree ms x.0, ap (λ (p : ℕ × ℕ). p.1) x.1)
      | inr x ↦ let more = later (suc number) n mss line x.2 in absurd (omega (arith, more))
    ]
unread_from number (suc k) n (ms ∷ mss) line is e =
    elim (err_before (decl_of ms) number (line_of ms) (read_from (suc number) mss) (n, line) e) [
      | inl x ↦ let same : n ≡ number = ap (λ (p : ℕ × ℕ). p.0) x.1 in absurd (omega (arith, same))
      | inr x ↦ ((x.0, reading_spells ms x.0 x.1), unread_from (suc number) k n mss line (omega arith) x.2)
    ]

pub first_unread : (mss : List (List Mark)) (number line : ℕ) → read_from 0 mss ≡ Err (number, line) → IsFirstUnread mss number line
first_unread mss number line e = unread_from 0 number number mss line (omega arith) e

-- ---- the declarations of tokens

first_marks : (bytes : List ℕ) (number n : ℕ) (rest : List Token) → CutsFirst n rest
    → marked_from bytes number (cut rest) ≡ marks_from bytes number (take n rest) ∷ marked_from bytes (number + n) (cut (drop n rest))
first_marks bytes number n rest cuts =
    let taken : length (take n rest) ≡ n = omega (arith, length-take n rest, cuts.within) in
    ap (marked_from bytes number) cuts.first ∙ ap (λ (k : ℕ). marks_from bytes number (take n rest) ∷ marked_from bytes (number + k) (cut (drop n rest))) taken

line_taken : (bytes : List ℕ) (number n : ℕ) (t : Token) (ts : List Token) → 0 < n → line_of (marks_from bytes number (take n (t ∷ ts))) ≡ t.line
line_taken bytes number zero t ts some = absurd (omega arith)
line_taken bytes number (suc n) t ts some = refl

-- one more tree
pub next_tree : {total : Result (List Decl) (ℕ × ℕ)} (bytes : List ℕ) (number k n : ℕ) (front : List Decl) (rest : List Token) (d : Decl) → CutsFirst n rest
    → decl_of (marks_from bytes number (take n rest)) ≡ Some d → with_front front (read_from k (marked_from bytes number (cut rest))) ≡ total
    → with_front (front ++ d ∷ []) (read_from (suc k) (marked_from bytes (number + n) (cut (drop n rest)))) ≡ total
next_tree bytes number k n front rest d cuts read so_far =
    goes_on k front (marks_from bytes number (take n rest)) (marked_from bytes (number + n) (cut (drop n rest))) d read
    (ap (λ (mss : List (List Mark)). with_front front (read_from k mss)) (sym (first_marks bytes number n rest cuts)) ∙ so_far)

-- a declaration without a reading
pub no_next : {total : Result (List Decl) (ℕ × ℕ)} (bytes : List ℕ) (number k n : ℕ) (front : List Decl) (t : Token) (ts : List Token) → CutsFirst n (t ∷ ts)
    → decl_of (marks_from bytes number (take n (t ∷ ts))) ≡ None → with_front front (read_from k (marked_from bytes number (cut (t ∷ ts)))) ≡ total
    → total ≡ Err (k, t.line)
no_next bytes number k n front t ts cuts unread so_far =
    refuses k front (marks_from bytes number (take n (t ∷ ts))) (marked_from bytes (number + n) (cut (drop n (t ∷ ts)))) unread
    (ap (λ (mss : List (List Mark)). with_front front (read_from k mss)) (sym (first_marks bytes number n (t ∷ ts) cuts)) ∙ so_far)
    ∙ ap (λ (line : ℕ). Err (k, line)) (line_taken bytes number n t ts cuts.some)

pub no_front : (r : Result (List Decl) (ℕ × ℕ)) → with_front [] r ≡ r
no_front (Ok ds) = refl
no_front (Err e) = refl
