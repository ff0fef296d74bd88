-- The literals and the lexeme phyla of a specification.
use Rattle.std.specs.Prelude.{◌≡◌, ℕ, suc, ◌+◌, ◌<◌, Bool, false, if◌then◌else◌, codes, bytes_eq, nat_eq, List, [], ◌∷◌, ◌++◌, slice_index_or, Option, Some, None}
use Rattle.std.specs.List.{list_any}
use Rattle.sg_kinds.specs.Values.{Bytes}
use Rattle.sg_kinds.specs.declared.marks.Shape.{Shape}
use Rattle.sg_kinds.specs.declared.marks.Shape.TheVariants as shape
use Rattle.sg_kinds.specs.declared.spec.Phylum.{Phylum}
use Rattle.sg_kinds.specs.declared.spec.Production.{Production}
use Rattle.sg_kinds.specs.declared.spec.Symbol.{Symbol}
use Rattle.sg_kinds.specs.declared.spec.Symbol.TheVariants.{Quoted, Lexical, Nonterminal}

-- texts with one more behind them, unless it is there
abbrev pub with_text : List Bytes → Bytes → List Bytes
with_text texts s = if list_any (bytes_eq s) texts then texts else texts ++ s ∷ []

-- the literals of symbols, behind those that were there before
abbrev pub literals_in : List Bytes → List Symbol → List Bytes
literals_in texts [] = texts
literals_in texts (Quoted s ∷ Xs) = literals_in (with_text texts s) Xs
literals_in texts (Lexical p ∷ Xs) = literals_in texts Xs
literals_in texts (Nonterminal n ∷ Xs) = literals_in texts Xs

abbrev pub literals_over : List Bytes → List Production → List Bytes
literals_over texts [] = texts
literals_over texts (r ∷ rs) = literals_over (literals_in texts r.right) rs

-- the literals of productions by their first occurrence
abbrev pub literals_of : List Production → List Bytes
literals_of rs = literals_over [] rs

-- the place of the pattern of the lexeme phylum WHITESPACE, where there is one
abbrev pub lexical_place : Shape → Option ℕ → Option ℕ
lexical_place (shape.Lexemes l) other = Some l
lexical_place s other = other

abbrev pub blank_of : List Phylum → Option ℕ
blank_of [] = None
blank_of (p ∷ ps) = let rest = blank_of ps in if bytes_eq p.name (codes "WHITESPACE") then lexical_place p.shape rest else rest

-- whether a text begins with a byte
abbrev pub begins_with : Bytes → ℕ → Bool
begins_with [] b = false
begins_with (c ∷ s) b = nat_eq c b

-- the places, counted from k, of the texts that begin with a byte
abbrev pub places_of : ℕ → List Bytes → ℕ → List ℕ
places_of k [] b = []
places_of k (s ∷ ss) b = let rest = places_of (suc k) ss b in if begins_with s b then k ∷ rest else rest

-- for each byte the places of the texts that begin with it
abbrev pub IsTable : List Bytes → List (List ℕ) → Type 0
IsTable texts table = (b : ℕ) → b < 256 → slice_index_or table b [] ≡ places_of 0 texts b

-- whether a terminal, counted from the first of so many literals on, is the pattern at this place
abbrev pub is_blank : Option ℕ → ℕ → ℕ → Bool
is_blank None literals number = false
is_blank (Some place) literals number = nat_eq number (literals + place)
