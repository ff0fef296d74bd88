-- The grammar of a specification: its symbols in their order, the productions of its spread grammar and the start
-- productions of its entries.
use Rattle.std.specs.Prelude.{ℕ, suc, ◌+◌, max, List, [], ◌∷◌, length, map, option_map, slice_get, unwrap_or, if◌then◌else◌, nat_lt, bytes_eq}
use Rattle.std.specs.List.{position_or_len}
use Rattle.sg_kinds.specs.declared.marks.Shape.{Shape}
use Rattle.sg_kinds.specs.declared.marks.Shape.TheVariants as shape
use Rattle.sg_kinds.specs.declared.spec.Phylum.{Phylum}
use Rattle.sg_kinds.specs.declared.spec.Symbol.{Symbol}
use Rattle.sg_kinds.specs.declared.spec.Symbol.TheVariants.{Quoted, Lexical, Nonterminal}
use Rattle.sg_kinds.specs.declared.spec.Entry.{Entry}
use Rattle.sg_kinds.specs.declared.spec.Spec.{Spec}
use Rattle.sg_prec.specs.Levels.{named_over, levels_before}
use Rattle.sg_prec.specs.Spread.{spread_of}
use Rattle.sg_prec.specs.declared.productions.LevelSymbol.{LevelSymbol}
use Rattle.sg_prec.specs.declared.productions.From.{From}
use Rattle.sg_prec.specs.declared.productions.Spread.{Spread}
use Rattle.sg_prec.specs.declared.productions.LevelSymbol.TheVariants as level
use Rattle.sg_prec.specs.declared.productions.From.TheVariants.{Written, Chain}
use Rattle.sg_patterns.specs.Lexemes.{literals_of}
use Rattle.sg_grammar.specs.Grammar.{Grammar, Made, Production, grammar}
use Rattle.sg_grammar.specs.declared.grammar.Made.TheVariants.{Outcome, Same}

-- how many nonterminals entries name: one more than the greatest number
abbrev pub named_by : List Entry → ℕ
named_by [] = 0
named_by (e ∷ es) = max (suc e.nonterminal) (named_by es)

-- the order of symbols: the end, the markers of the entries, the literals, the lexemes, the levels of nonterminals
abbrev pub first_literal : Spec → ℕ
first_literal spec = suc (length spec.entries)

abbrev pub first_lexeme : Spec → ℕ
first_lexeme spec = first_literal spec + length (literals_of spec.productions)

abbrev pub first_nonterminal : Spec → ℕ
first_nonterminal spec = first_lexeme spec + length spec.lexemes

-- how many nonterminals productions and entries name
abbrev pub nonterminal_count : Spec → ℕ
nonterminal_count spec = max (named_over spec.productions) (named_by spec.entries)

-- the number of level i, counted from 0, of nonterminal N: the levels of one nonterminal stand before those of the next
unfoldable pub level_number : Spec → ℕ → ℕ → ℕ
level_number spec N i = first_nonterminal spec + (levels_before spec.levels spec.productions N + i)

abbrev pub symbol_count : Spec → ℕ
symbol_count spec = level_number spec (nonterminal_count spec) 0

-- the number of a phylum's lexeme; what is no lexeme of the record has the number of the end
abbrev pub lexeme_number : Spec → Shape → ℕ
lexeme_number spec (shape.Lexemes l) = if nat_lt l (length spec.lexemes) then first_lexeme spec + l else 0
lexeme_number spec s = 0

-- a nonterminal has the number of its first level
abbrev pub symbol_number : Spec → Symbol → ℕ
symbol_number spec (Quoted s) = first_literal spec + position_or_len (bytes_eq s) (literals_of spec.productions)
symbol_number spec (Lexical p) = unwrap_or (option_map (λ (x : Phylum). lexeme_number spec x.shape)
    (slice_get spec.phyla p)) 0
symbol_number spec (Nonterminal n) = level_number spec n 0

-- the number of a symbol of the spread grammar
abbrev pub spread_number : Spec → LevelSymbol → ℕ
spread_number spec (level.Quoted s) = symbol_number spec (Quoted s)
spread_number spec (level.Lexical p) = symbol_number spec (Lexical p)
spread_number spec (level.Level N i) = level_number spec N i

-- the step to the next level hands its result on
abbrev pub made_by : From → Made
made_by (Written e) = Outcome e
made_by (Chain k) = Same

abbrev pub rule_of : Spec → Spread → Production
rule_of spec x = record {
  left = level_number spec x.left x.level;
  right = map (spread_number spec) x.right;
  made = made_by x.from;
}

-- the start production of entry k: its marker, and then its nonterminal
abbrev pub start_of : Spec → ℕ → Entry → Production
start_of spec k e = record { left = 0; right = suc k ∷ level_number spec e.nonterminal 0 ∷ []; made = Same }

-- the start productions from that of entry k on
abbrev pub starts_of : Spec → ℕ → List Entry → List Production
starts_of spec k [] = []
starts_of spec k (e ∷ es) = start_of spec k e ∷ starts_of spec (suc k) es

abbrev pub grammar_of : Spec → Grammar
grammar_of spec = grammar (map (rule_of spec) (spread_of spec.levels spec.productions)) (starts_of spec 0 spec.entries)
    (first_nonterminal spec) (symbol_count spec)
