-- The reductions of states, each a production with the terminals on which it is reduced by.
use Rattle.std.specs.Prelude.{◌≡◌, ℕ, ◌<◌, ◌≤◌, Bool, List, [], slice_index_or, Contains}
use Rattle.sg_grammar.specs.Grammar.{Grammar}
use Rattle.sg_sets.specs.Members.{Has}
use Rattle.sg_lalr.specs.declared.lookaheads.Node.{Node}
use Rattle.sg_lalr.specs.declared.conflict.Deed.TheVariants.{Reduces}
pub use Rattle.sg_lalr.specs.declared.reductions.Reduction.{Reduction}
use Rattle.sg_lalr.specs.Clashes.{Does}

-- one of the reductions is by the production on the terminal
abbrev pub ReducesBy : List Reduction → ℕ → ℕ → Type 0
ReducesBy rs p t = (r : Reduction) × Contains rs r × (p ≡ r.production) × Has r.on t

-- some node between two places reduces by the production on the terminal
abbrev pub DoesReduce : Grammar → List Node → List (List Bool) → ℕ → ℕ → ℕ → ℕ → Type 0
DoesReduce g nodes rows from to p t = (m : ℕ) × (from ≤ m) × (m < to) × Does g nodes rows t m (Reduces p)

-- the reductions of a state
abbrev pub reductions_at : List (List Reduction) → ℕ → List Reduction
reductions_at rows s = slice_index_or rows s []
