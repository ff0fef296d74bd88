-- Readers of marks, from the front.
use Rattle.std.specs.Prelude.{ℕ, zero, suc, ◌^◌, nat_lt, Bool, true, false, if◌then◌else◌, List, [], ◌∷◌, ◌++◌, length, drop, Option, Some, None}
use denote.Enum.Bare.{sameb}
use Rattle.sg_text.specs.contracts.symbols.Symbol as symbols
use Rattle.sg_text.specs.contracts.words.Keyword as keywords
use Rattle.sg_text.specs.declared.symbols.Symbol.{Symbol}
use Rattle.sg_text.specs.declared.words.Keyword.{Keyword}
use Rattle.sg_text.specs.Lexemes.{Lexeme, Word, Reserved, Numeral, String, Literal, Sign}
use Rattle.sg_kinds.specs.declared.fault.Position.{Position}
use Rattle.sg_ast.specs.declared.name.Name.{Name}
use Rattle.sg_ast.specs.declared.name.Quoted.{Quoted}
use Rattle.sg_ast.specs.Spelling.{Mark}

-- what was read and what is left, or nothing
abbrev pub Outcome : Type 0 → Type 0
Outcome A = Option (A × List Mark)

abbrev pub Reader : Type 0 → Type 0
Reader A = List Mark → Outcome A

abbrev pub and_then : {A B : Type 0} → Outcome A → (A → Reader B) → Outcome B
and_then (Some p) f = f p.0 p.1
and_then None f = None

infixl 10 ◌>>=◌
abbrev pub ◌>>=◌ : {A B : Type 0} → Reader A → (A → Reader B) → Reader B
p >>= f = λ ms. and_then (p ms) f

infixl 10 ◌>>◌
abbrev pub ◌>>◌ : {A B : Type 0} → Reader A → Reader B → Reader B
p >> q = p >>= (λ _. q)

abbrev pub done : {A : Type 0} → A → Reader A
done a = λ ms. Some (a, ms)

infixr 11 ◌<$>◌
abbrev pub ◌<$>◌ : {A B : Type 0} → (A → B) → Reader A → Reader B
f <$> p = p >>= (λ x. done (f x))

-- nothing is read
abbrev pub refuse : {A : Type 0} → Reader A
refuse = λ ms. None

-- the tests of a lexeme
abbrev pub is_sign : Symbol → Lexeme → Bool
is_sign s (Sign t) = sameb symbols.the_type s t
is_sign s _ = false

abbrev pub is_reserved : Keyword → Lexeme → Bool
is_reserved k (Reserved j) = sameb keywords.the_type k j
is_reserved k _ = false

abbrev pub is_name : Lexeme → Bool
is_name (Word w) = true
is_name _ = false

abbrev pub is_numeral : Lexeme → Bool
is_numeral (Numeral n) = true
is_numeral _ = false

abbrev pub is_string : Lexeme → Bool
is_string (String s) = true
is_string _ = false

abbrev pub is_literal : Lexeme → Bool
is_literal (Literal s) = true
is_literal _ = false

-- whether there is a next lexeme and it passes
unfoldable pub sees : (Lexeme → Bool) → List Mark → Bool
sees test [] = false
sees test ((l, place) ∷ ms) = test l

-- whether the next lexeme passes, which is then taken
unfoldable pub eat : (Lexeme → Bool) → Reader Bool
eat test = λ ms. Some (sees test ms, if sees test ms then drop 1 ms else ms)

-- a lexeme that passes, as its place
unfoldable pub expect : (Lexeme → Bool) → Reader Position
expect test [] = None
expect test ((l, place) ∷ ms) = if test l then Some (place, ms) else None

-- a name, which is no reserved word
unfoldable pub name : Reader Name
name [] = None
name ((Word w, place) ∷ ms) = Some (record { text = w; place = place }, ms)
name (m ∷ ms) = None

-- a number, which is below 2^63, and its place
unfoldable pub number : Reader (ℕ × Position)
number [] = None
number ((Numeral n, place) ∷ ms) = if nat_lt n (2 ^ 63) then Some ((n, place), ms) else None
number (m ∷ ms) = None

-- a string, as what it stands for
unfoldable pub string : Reader Quoted
string [] = None
string ((String s, place) ∷ ms) = Some (record { text = s; place = place }, ms)
string (m ∷ ms) = None

-- a literal
unfoldable pub quoted : Reader Quoted
quoted [] = None
quoted ((Literal s, place) ∷ ms) = Some (record { text = s; place = place }, ms)
quoted (m ∷ ms) = None

-- one more after those that were found, as long as the test holds of what is left, but at most so many times
unfoldable pub more : {A : Type 0} → (List Mark → Bool) → Reader A → ℕ → List A → Reader (List A)
more test item zero found = done found
more test item (suc turns) found = λ ms.
    if test ms then (item >>= λ x. more test item turns (found ++ x ∷ [])) ms else Some (found, ms)

-- further ones after those that were found, as long as the test holds of what is left; each takes a lexeme, so the
-- count of lexemes bounds them
abbrev pub many : {A : Type 0} → (List Mark → Bool) → Reader A → List A → Reader (List A)
many test item found = λ ms. more test item (length ms) found ms
