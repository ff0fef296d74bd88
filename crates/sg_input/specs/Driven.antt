-- What the stacks of the parser keep to.
use Rattle.std.specs.Prelude.{◌≡◌, ℕ, ◌<◌, List, [], map, nat_le, count_by, length, take, All}
use Rattle.sg_kinds.specs.Values.{Value}
use Rattle.sg_kinds.specs.declared.spec.Spec.{Spec}
use Rattle.sg_pool.specs.Pools.{value_at}
use Rattle.sg_grammar.specs.Derives.{Token}
use Rattle.sg_grammar.specs.Numbered.{first_lexeme}
use Rattle.sg_lalr.specs.Tables.{View, Decided}
use Rattle.sg_machine.specs.Machine.{pushed, results_in}
use Rattle.sg_machine.specs.Kept.{Kept}
use Rattle.sg_input.specs.Results.{tokens_in, joined, results_of}
use Rattle.sg_input.specs.Ready.{next_of}
use Rattle.sg_input.specs.declared.stacks.Reading.{Reading}

-- how many values a right side binds: one for each lexeme and nonterminal
abbrev pub bound_in : Spec → List ℕ → ℕ
bound_in spec right = count_by (λ X. nat_le (first_lexeme spec) X) right

-- the states and the numbers in the pool are those of the cells of a stack, from its bottom to its top, to which the
-- machine came over the tokens so far
pub record Driven (v : View) (spec : Spec) (entry : ℕ) (us : List Token) (t : ℕ) (states ids : List ℕ)
    (pool : List Value) : Type 0 where
  pub decided : Decided v
  pub cells : List (ℕ × List Value)
  pub kept : Kept (results_of spec) decided entry [] us t (pushed cells [])
  pub states_are : states ≡ map (λ c. c.0) cells
  pub numbers_are : All (λ id. id < length pool) ids
  pub values_are : map (value_at pool) ids ≡ joined (results_in cells)

-- the same over the tokens before one of a reading
abbrev pub DrivenTo : Reading → ℕ → List ℕ → List ℕ → List Value → Type 0
DrivenTo r at states ids pool = Driven r.tables.now r.evaluator.now r.entry
    (take at (tokens_in r.text.now r.tokens.now)) (next_of r at) states ids pool
