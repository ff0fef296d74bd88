-- The lexemes among the marks of a text, and in the spellings that they fit, have their forms.
use Rattle.std.proofs.Common.{◌≡◌, ℕ, ◌+◌, List, [], ◌∷◌, length, flat_map, Ok, sym, subst}
use Rattle.std.specs.List.{AllByRecursion}
use Rattle.std.proofs.lemmas.List.Elements.{recursion_from_All}
use Rattle.sg_text.specs.declared.tokens.Token.{Token}
use Rattle.sg_text.specs.Lexemes.{Lexeme}
use Rattle.sg_text.specs.Placed.{IsTokenOf}
use Rattle.sg_text.specs.Tokens.{tokens_of}
use Rattle.sg_text.specs.Cut.{cut}
use Rattle.sg_text.proofs.TokenLaws.{tokens_of-all}
use Rattle.sg_text.proofs.CutLemmas.{cut_from-all}
use Rattle.sg_ast.specs.Spelling.{Mark, Piece, Free, Kept, Takes, none, free, kept}
use Rattle.sg_ast.specs.Spells.{marks_from, marked_from, declarations}
use Rattle.sg_resolve.proofs.ShapeLists.{each_split}
use Rattle.sg_load.proofs.WrittenText.{HasForm, token_formed}

-- marks whose lexemes have their forms
abbrev pub HaveForms : List Mark → Type 0
HaveForms ms = AllByRecursion (λ (m : Mark). HasForm m.0) ms

abbrev pub lexeme_in : Piece → Lexeme
lexeme_in (Free l) = l
lexeme_in (Kept l place) = l

-- pieces whose lexemes have their forms
abbrev pub AreFormed : List Piece → Type 0
AreFormed ps = AllByRecursion (λ (p : Piece). HasForm (lexeme_in p)) ps

-- marks fit only pieces with the same lexemes
pub taken_formed : {ps : List Piece} {ms rest : List Mark} → Takes ps ms rest → HaveForms ms → AreFormed ps
taken_formed none h = tt
taken_formed (free t) h = (h.0, taken_formed t h.1)
taken_formed (kept t) h = (h.0, taken_formed t h.1)

marks_formed : (bytes : List ℕ) (number : ℕ) (ts : List Token) → AllByRecursion (IsTokenOf bytes) ts → HaveForms (marks_from bytes number ts)
marks_formed bytes number [] h = tt
marks_formed bytes number (t ∷ ts) h = (token_formed bytes t h.0, marks_formed bytes (number + 1) ts h.1)

marked_formed : (bytes : List ℕ) (number : ℕ) (ds : List (List Token)) → AllByRecursion (IsTokenOf bytes) (flat_map (λ d. d) ds)
    → AllByRecursion HaveForms (marked_from bytes number ds)
marked_formed bytes number [] h = tt
marked_formed bytes number (d ∷ ds) h =
    let parts = each_split (IsTokenOf bytes) d (flat_map (λ d. d) ds) h in
    (marks_formed bytes number d parts.0, marked_formed bytes (number + length d) ds parts.1)

-- each declaration of a text
pub declarations_formed : (bytes : List ℕ) (tokens : List Token) → tokens_of bytes ≡ Ok tokens → AllByRecursion HaveForms (declarations bytes tokens)
declarations_formed bytes tokens e =
    let each : AllByRecursion (IsTokenOf bytes) tokens = recursion_from_All (IsTokenOf bytes) tokens (tokens_of-all bytes tokens e) in
    marked_formed bytes 0 (cut tokens) (subst (AllByRecursion (IsTokenOf bytes)) (sym (cut_from-all 0 tokens)) each)
