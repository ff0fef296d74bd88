-- What a step of the parser comes to.
use Rattle.std.specs.Prelude.{◌≡◌, ℕ, ◌<◌, ◌≤◌, List, [], ◌∷◌, length, map, All}
use Rattle.sg_kinds.specs.Values.{Value}
use Rattle.sg_prec.specs.WellGrouped.{derives}
use Rattle.sg_pool.specs.Pools.{value_at}
use Rattle.sg_input.specs.declared.stacks.Reading.{Reading}
use Rattle.sg_input.specs.declared.stacks.Step.{Step}
use Rattle.sg_input.specs.declared.stacks.Step.TheVariants.{On, Accepted, Stopped}
use Rattle.sg_input.specs.Pieces.{pieces_of}
use Rattle.sg_input.specs.Failing.{FailsAt}
use Rattle.sg_input.specs.Entered.{nonterminal_of}
use Rattle.sg_input.specs.Driven.{DrivenTo}

-- the one number stands for a value that the entry's nonterminal derives
pub record IsAnswer (r : Reading) (ids : List ℕ) (pool : List Value) : Type 0 where
  pub value : Value
  pub one : map (value_at pool) ids ≡ value ∷ []
  pub numbers : All (λ id. id < length pool) ids
  pub derived : derives r.evaluator.now (nonterminal_of r.evaluator.now r.entry)
      (pieces_of r.evaluator.now r.text.now r.tokens.now) value

abbrev pub ComesTo : Reading → ℕ → List ℕ → List ℕ → List Value → Step → Type 0
ComesTo r at states ids pool (On next) = (next ≤ length r.tokens.now) × DrivenTo r next states ids pool
ComesTo r at states ids pool Accepted = IsAnswer r ids pool
ComesTo r at states ids pool Stopped = FailsAt r.evaluator.now (nonterminal_of r.evaluator.now r.entry)
    (pieces_of r.evaluator.now r.text.now r.tokens.now) at
