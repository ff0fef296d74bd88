-- A grammar with numbered symbols, as contracts see it.
use Rattle.std.specs.Prelude.{ℕ, List, [], ◌++◌, Option, slice_get, option_map, unwrap_or}
pub use Rattle.sg_grammar.specs.declared.grammar.Made.{Made}
pub use Rattle.sg_grammar.specs.declared.grammar.Production.{Production}

-- the productions, the start productions of the entries, and how many terminals and symbols there are; the terminals
-- come first
pub record Grammar : Type 0 where
  pub rules : List Production
  pub entries : List Production
  pub terminals : ℕ
  pub symbols : ℕ

abbrev pub grammar : List Production → List Production → ℕ → ℕ → Grammar
grammar rules entries terminals symbols = record {
  rules = rules;
  entries = entries;
  terminals = terminals;
  symbols = symbols;
}

-- the right side of a production; the start productions are counted behind the others
abbrev pub right_of : Grammar → ℕ → List ℕ
right_of g p = unwrap_or (option_map (λ (r : Production). r.right) (slice_get (g.rules ++ g.entries) p)) []

-- the symbol behind the dot
abbrev pub symbol_at : Grammar → ℕ → ℕ → Option ℕ
symbol_at g p d = slice_get (right_of g p) d
