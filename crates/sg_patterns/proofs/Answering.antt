-- The longest match over one more terminal.
use Rattle.std.proofs.Common.{◌≡◌, ℕ, zero, suc, ◌+◌, ◌<◌, ◌≤◌, ◌⊎◌, inl, inr, List, [], ◌∷◌, ◌++◌, length, refl, sym, ap, subst, arith, Option, Some, None, append_assoc, map, take, ◌∙◌}
use Rattle.std.specs.Prelude.{slice_get}
use Rattle.std.proofs.lemmas.Option.{slice_get_within, get_or_from_slice_get}
use Rattle.std.proofs.lemmas.List.{take_more, map-append}
use Rattle.sg_kinds.specs.Lexemes.{Lexeme}
use Rattle.sg_patterns.specs.declared.program.Program.{Program}
use Rattle.sg_patterns.specs.Programs.{ArePrograms, AreOrdered}
use Rattle.sg_kinds.specs.Values.{Bytes}
use Rattle.sg_patterns.specs.LongestMatch.{Terminal, Pattern, TerminalFrom, MatchesAt, HasNoMatch, IsLength, IsAnswer, len_of}

module _ (text : Bytes) (at : ℕ) where
  -- a terminal of the list, or the one behind it
  matches-left : (ts : List Terminal) (t : Terminal) (m n : ℕ) → MatchesAt ts text at m n → MatchesAt (ts ++ t ∷ []) text at m n
  matches-left [] t m n h = absurd h
  matches-left (s ∷ ts) t zero n h = h
  matches-left (s ∷ ts) t (suc m) n h = matches-left ts t m n h

  matches-last : (ts : List Terminal) (t : Terminal) (n : ℕ) → TerminalFrom t text at (at + n) → MatchesAt (ts ++ t ∷ []) text at (length ts) n
  matches-last [] t n h = h
  matches-last (s ∷ ts) t n h = matches-last ts t n h

  matches-either : (ts : List Terminal) (t : Terminal) (m n : ℕ) → MatchesAt (ts ++ t ∷ []) text at m n → MatchesAt ts text at m n ⊎ ((m ≡ length ts) × TerminalFrom t text at (at + n))
  matches-either [] t zero n h = inr (refl, h)
  matches-either [] t (suc m) n h = absurd h
  matches-either (s ∷ ts) t zero n h = inl h
  matches-either (s ∷ ts) t (suc m) n h = elim (matches-either ts t m n h) [ inl x ↦ inl x | inr x ↦ inr (ap suc x.0, x.1) ]

  pub matches-there : (ts : List Terminal) (m n : ℕ) → MatchesAt ts text at m n → m < length ts
  matches-there [] m n h = absurd h
  matches-there (s ∷ ts) zero n h = omega arith
  matches-there (s ∷ ts) (suc m) n h = omega (arith, matches-there ts m n h)

  -- a terminal that matches no longer
  pub answer-kept : (ts : List Terminal) (t : Terminal) (best : Option (ℕ × ℕ)) → IsAnswer ts text at best → ((n : ℕ) → TerminalFrom t text at (at + n) → n ≤ len_of best) → IsAnswer (ts ++ t ∷ []) text at best
  answer-kept ts t None a most = λ m k h. elim (matches-either ts t m k h) [ inl x ↦ a m k x | inr x ↦ omega (arith, most k x.1) ]
  answer-kept ts t (Some x) a most = record {
    some = a.some;
    found = matches-left ts t x.0 x.1 a.found;
    longest = λ m k h. elim (matches-either ts t m k h) [ inl y ↦ a.longest m k y | inr y ↦ most k y.1 ];
    first = λ m h. elim (matches-either ts t m x.1 h) [ inl y ↦ a.first m y | inr y ↦ omega (arith, y.0, matches-there ts x.0 x.1 a.found) ];
  }

  -- a terminal that matches longer
  pub answer-better : (ts : List Terminal) (t : Terminal) (n number : ℕ) (best : Option (ℕ × ℕ)) → IsAnswer ts text at best → IsLength t text at n → len_of best < n → number ≡ length ts → IsAnswer (ts ++ t ∷ []) text at (Some (number, n))
  answer-better ts t n number None a l less is = record {
    some = less;
    found = subst (λ m. MatchesAt (ts ++ t ∷ []) text at m n) (sym is) (matches-last ts t n (l.found less));
    longest = λ m k h. elim (matches-either ts t m k h) [ inl y ↦ omega (arith, a m k y) | inr y ↦ l.most k y.1 ];
    first = λ m h. elim (matches-either ts t m n h) [ inl y ↦ absurd (omega (arith, a m n y)) | inr y ↦ omega (arith, y.0) ];
  }
  answer-better ts t n number (Some x) a l less is = record {
    some = omega arith;
    found = subst (λ m. MatchesAt (ts ++ t ∷ []) text at m n) (sym is) (matches-last ts t n (l.found (omega arith)));
    longest = λ m k h. elim (matches-either ts t m k h) [ inl y ↦ omega (arith, a.longest m k y) | inr y ↦ l.most k y.1 ];
    first = λ m h. elim (matches-either ts t m n h) [ inl y ↦ absurd (omega (arith, a.longest m n y)) | inr y ↦ omega (arith, y.0) ];
  }

-- what stands below the length
pub there : {A : Type 0} (xs : List A) (k : ℕ) → k < length xs → (x : A) × (slice_get xs k ≡ Some x)
there [] k less = absurd (omega arith)
there (x ∷ xs) zero less = (x, refl)
there (x ∷ xs) (suc k) less = there xs k (omega arith)

-- programs of patterns are in order
pub programs-ordered : (programs : List Program) (ps : List Lexeme) → ArePrograms programs ps → AreOrdered programs
programs-ordered programs ps are k p is =
    let q = there ps k (omega (arith, are.same, slice_get_within programs k p is)) in
    (are.each k p q.0 is q.1).ordered

-- one more pattern
pub among-more : (text : Bytes) (at : ℕ) (ts : List Terminal) (ps : List Lexeme) (k : ℕ) (q : Lexeme) → slice_get ps k ≡ Some q → ts ++ map Pattern (take (k + 1) ps) ≡ (ts ++ map Pattern (take k ps)) ++ Pattern q ∷ []
among-more text at ts ps k q is =
    let more : take (k + 1) ps ≡ take k ps ++ q ∷ [] = take_more ps k q (slice_get_within ps k q is) ∙ ap (λ x. take k ps ++ x ∷ []) (get_or_from_slice_get ps k q q is) in
    ap (λ qs. ts ++ map Pattern qs) more ∙ ap (λ us. ts ++ us) (map-append Pattern (take k ps) (q ∷ [])) ∙ sym (append_assoc ts (map Pattern (take k ps)) (Pattern q ∷ []))

pub no-terminals : (text : Bytes) (at : ℕ) → HasNoMatch [] text at
no-terminals text at m n h = absurd h
