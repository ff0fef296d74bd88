-- The definitions on worked examples: sums of numbers, typed in from their one entry.
use Rattle.std.proofs.Common.{◌≡◌, ℕ, zero, suc, ◌+◌, ◌<◌, ◌≤◌, List, [], ◌∷◌, ◌++◌, length, map, false, refl, sym, ap, ◌∙◌, subst, arith, Some, None}
use Rattle.std.specs.Prelude.{Option, pos, Contains}
use Rattle.std.proofs.lemmas.List.{length-append}
use Rattle.sg_kinds.specs.Values.{Bytes, Value, Number, Chars, Tree, NoValue, AndValue}
use Rattle.sg_kinds.specs.Matches.{none}
use Rattle.sg_kinds.specs.Outcome.{outcome_of}
use Rattle.sg_kinds.specs.InputPieces.{InputPiece}
use Rattle.sg_prec.specs.WellGrouped.{Derives, derives, nothing, literal, lexeme, under}
use Rattle.sg_kinds.specs.declared.spec.Symbol.{Symbol}
use Rattle.sg_kinds.specs.declared.spec.Symbol.TheVariants.{Quoted, Lexical, Nonterminal}
use Rattle.sg_kinds.specs.declared.spec.Production.{Production}
use Rattle.sg_kinds.proofs.Languages.{sums, production}
use Rattle.sg_patterns.specs.Lexemes.{literals_of, blank_of, is_blank}
use Rattle.sg_patterns.specs.LexemesOf.{AreLexemesOf}
use Rattle.sg_patterns.specs.LongestMatch.{Terminal, Literal, Pattern, MatchesAt, IsLongest, HasNoMatch}
use Rattle.sg_patterns.specs.Scan.{Scanned, start, taken, terminals_of}
use Rattle.sg_patterns.specs.declared.lexemes.Lexemes.{Lexemes}
use Rattle.sg_patterns.specs.declared.scanning.InToken.{InToken}
use Rattle.sg_patterns.proofs.InText.{match-within}
use Rattle.sg_input.specs.declared.parsing.InputFault.TheVariants as input
use Rattle.sg_input.specs.declared.entering.EntryFault.TheVariants as fault
use Rattle.sg_input.specs.Pieces.{pieces_of}
use Rattle.sg_input.specs.Entered.{BadByte, NoToken, Stopped, Typed, entry_at, IsEntered}
use Rattle.sg_input.specs.Parsed.{fault_in}

-- 4+
four_plus : Bytes
four_plus = 52 ∷ 43 ∷ []

token : ℕ → ℕ → ℕ → InToken
token t from to = record { terminal = t; from = from; to = to }

-- the terminals are the end 0, the marker 1, the literals 2 to 4, NUM 5 and WHITESPACE 6
tokens : List InToken
tokens = token 5 0 1 ∷ token 2 1 2 ∷ []

piece : Symbol → Bytes → InputPiece
piece X s = record { terminal = X; text = s }

its_pieces : pieces_of sums four_plus tokens ≡ piece (Lexical 5) (52 ∷ []) ∷ piece (Quoted (43 ∷ [])) (43 ∷ []) ∷ []
unfolding four_plus tokens token piece
its_pieces = refl

-- the second token stands at byte 1, and where the tokens end too early the length is named
its_places : fault_in four_plus tokens (input.At 1) ≡ fault.Parse 1
unfolding four_plus tokens token
its_places = refl

its_end : fault_in four_plus tokens (input.At 2) ≡ fault.Parse 2
unfolding four_plus tokens token
its_end = refl

-- exp has the entry 0, and INT none
has_entry : entry_at sums 4 ≡ Some 0
has_entry = refl

no_entry : entry_at sums 1 ≡ None
no_entry = refl

-- the byte 128 comes before all else
bad : IsEntered sums 0 (52 ∷ 128 ∷ []) (BadByte 1)
bad = refl

-- what a token may be
terminals : List Terminal
terminals = map Literal (literals_of sums.productions) ++ map Pattern sums.lexemes

-- ---- the empty text, which is no sum

some : (Xs : List Symbol) (ps : List InputPiece) (vs : List Value) (bs : List (Option Production)) (n : ℕ) → Derives sums Xs ps vs bs n → 0 < length Xs → 0 < length ps
some _ _ _ _ _ nothing l = l
some _ _ _ _ _ (literal s text Xs ts vs bs n d) l = omega arith
some _ _ _ _ _ (lexeme k text Xs ts vs bs n d) l = omega arith
some _ _ _ _ _ (under r Xs us ts all ws vs below bs m n k has grouped d e whole sum) l =
    let i = some r.right us ws below m d (right-there has) in
    let j = length-append us ts in
    let w = ap length whole in
    omega (arith, i, j, w)
  where
    right-there : Contains sums.productions r → 0 < length r.right
    right-there (zero, l, is) = subst (λ (x : Production). 0 < length x.right) is (omega arith)
    right-there (suc zero, l, is) = subst (λ (x : Production). 0 < length x.right) is (omega arith)
    right-there (suc (suc zero), l, is) = subst (λ (x : Production). 0 < length x.right) is (omega arith)
    right-there (suc (suc (suc zero)), l, is) = subst (λ (x : Production). 0 < length x.right) is (omega arith)
    right-there (suc (suc (suc (suc k))), l, is) = absurd (omega (arith, l))

-- a number is a term, and a term is a sum
of_term : Contains sums.productions (production 0 (Nonterminal 1 ∷ []) 2)
of_term = (1, omega arith, refl)

of_number : Contains sums.productions (production 1 (Lexical 5 ∷ []) 5)
of_number = (2, omega arith, refl)

number : (text : Bytes) → derives sums 0 (piece (Lexical 5) text ∷ []) (outcome_of sums 2 (outcome_of sums 5 (Chars text ∷ []) ∷ []))
unfolding piece
number text =
    let x = piece (Lexical 5) text ∷ [] in
    let v = outcome_of sums 5 (Chars text ∷ []) in
    let one = production 1 (Lexical 5 ∷ []) 5 in
    let sum = production 0 (Nonterminal 1 ∷ []) 2 in
    let term = under one [] x [] x (Chars text ∷ []) [] (None ∷ []) [] 1 0 1 of_number refl (lexeme 5 text [] [] [] [] 0 nothing) nothing refl refl in
    (Some sum ∷ [], 3, under sum [] x [] x (v ∷ []) [] (Some one ∷ []) [] 2 0 2 of_term refl term nothing refl refl)

-- ---- one byte

abbrev first_of : Bytes → ℕ
first_of [] = 0
first_of (b ∷ s) = b

-- 4 is the number 4
digit : IsLongest terminals (52 ∷ []) 0 3 1
unfolding terminals
digit = record {
  some = omega arith;
  found = (1, (refl, refl), none 1);
  longest = λ m n h. at_most m n h n refl;
  first = before;
}
  where
    at_most : (m n : ℕ) → MatchesAt terminals (52 ∷ []) 0 m n → (k : ℕ) → n ≡ k → n ≤ 1
    at_most m n h zero is = omega (arith, is)
    at_most m n h (suc k) is = omega (arith, match-within terminals (52 ∷ []) 0 m n h (omega (arith, is)))

    before : (m : ℕ) → MatchesAt terminals (52 ∷ []) 0 m 1 → 3 ≤ m
    before zero h = absurd (let e : 52 ≡ 43 = ap first_of h.1 in omega (arith, e))
    before (suc zero) h = absurd (let e : 52 ≡ 40 = ap first_of h.1 in omega (arith, e))
    before (suc (suc zero)) h = absurd (let e : 52 ≡ 41 = ap first_of h.1 in omega (arith, e))
    before (suc (suc (suc k))) h = omega arith

-- 126 begins no token
nothing_there : HasNoMatch terminals (126 ∷ []) 0
unfolding terminals
nothing_there zero n h = absurd (let e : 126 ≡ 43 = ap first_of h.1 in omega (arith, e))
nothing_there (suc zero) n h = absurd (let e : 126 ≡ 40 = ap first_of h.1 in omega (arith, e))
nothing_there (suc (suc zero)) n h = absurd (let e : 126 ≡ 41 = ap first_of h.1 in omega (arith, e))
nothing_there (suc (suc (suc zero))) n h = absurd (let e = h.1.1 in cc)
nothing_there (suc (suc (suc (suc zero)))) n h = absurd (let e = h.1.1 in cc)
nothing_there (suc (suc (suc (suc (suc k))))) n h = absurd h

-- ---- texts

module _ (l : Lexemes) (of : AreLexemesOf sums l) where
  same : terminals_of l ≡ terminals
  unfolding terminals
  same = ap (λ ls. map Literal ls ++ map Pattern l.patterns) of.literals ∙ ap (λ ps. map Literal (literals_of sums.productions) ++ map Pattern ps) of.patterns

  -- the empty text ends too early
  no_sum : IsEntered sums 0 [] (Stopped 0)
  no_sum = (
    [],
    (refl, l, of, start),
    0,
    record {
      within = omega arith;
      begins = (piece (Lexical 5) (52 ∷ []) ∷ [], (outcome_of sums 2 (outcome_of sums 5 (Chars (52 ∷ []) ∷ []) ∷ []), number (52 ∷ [])));
      before = λ l. absurd (omega (arith, l));
      at_end = λ e d. absurd (let l = some (Nonterminal 0 ∷ []) [] (d.0 ∷ []) d.1.0 d.1.1 d.1.2 (omega arith) in omega (arith, l));
    },
    refl,
  )

  shown : is_blank l.blank (length l.literals) 3 ≡ false
  shown = ap (λ b. is_blank b (length l.literals) 3) of.blank ∙ ap (λ ls. is_blank (blank_of sums.phyla) (length ls) 3) of.literals

  scanned : Scanned l (52 ∷ []) 1 (token 5 0 1 ∷ [])
  unfolding token
  scanned =
      let is = ap (λ f. token (f + 3) 0 1) of.first in
      subst (λ x. Scanned l (52 ∷ []) 1 (x ∷ [])) is (taken 0 3 1 [] start (subst (λ ts. IsLongest ts (52 ∷ []) 0 3 1) (sym same) digit) shown)

  -- 4 is a constant
  four : IsEntered sums 0 (52 ∷ []) (Typed (Tree 3 (AndValue (Number (pos 4)) NoValue)))
  unfolding outcome_of token piece
  four = ((token 5 0 1 ∷ [], (refl, l, of, scanned), number (52 ∷ [])), λ f. absurd (let e = f.1 in cc))

  -- 126 is no token
  tilde : IsEntered sums 0 (126 ∷ []) (NoToken 0)
  tilde = (refl, l, of, record { tokens = []; scanned = start; within = omega arith; no_match = subst (λ ts. HasNoMatch ts (126 ∷ []) 0) (sym same) nothing_there })
