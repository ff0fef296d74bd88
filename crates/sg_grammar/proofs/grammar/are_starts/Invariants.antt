use Rattle.std.proofs.Common.{◌≡◌, ℕ, ◌<◌, Some}
use Rattle.std.specs.Prelude.{slice_get}
use Rattle.sg_grammar.specs.Grammar.{Production}
use Rattle.sg_grammar.specs.WellFormed.{IsStart}
use Rattle.sg_grammar.proofs.grammar.are_starts.Given as goal

abbrev pub invariant-loop-place : goal.invariant-loop-place
invariant-loop-place l = (k : ℕ) (r : Production) → k < l.place → slice_get l.entries k ≡ Some r → IsStart l.first l.symbols k r.right
