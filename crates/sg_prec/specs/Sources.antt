-- Productions of the spread grammar by what they come from.
use Rattle.std.specs.Prelude.{ℕ, suc, Bool, true, false, List, [], ◌∷◌, map, Option, Some, None}
use Rattle.sg_kinds.specs.declared.spec.LevelLine.{LevelLine}
use Rattle.sg_kinds.specs.declared.spec.Production.{Production}
use Rattle.sg_kinds.specs.declared.spec.Symbol.{Symbol}
use Rattle.sg_prec.specs.Levels.{height, rank}
use Rattle.sg_prec.specs.Spread.{LevelSymbol, Spread, lowered, first_at, last_at}
use Rattle.sg_prec.specs.declared.productions.LevelSymbol.TheVariants.{Level}
use Rattle.sg_prec.specs.declared.productions.From.TheVariants.{Written, Chain}
use Rattle.sg_prec.specs.declared.productions.RuleLevels.{RuleLevels}
use Rattle.sg_prec.specs.declared.productions.Source.{Source}
use Rattle.sg_prec.specs.declared.productions.Source.TheVariants.{Rule, Step}

-- symbols, the first at one level and the others at another
abbrev pub at_levels : ℕ → ℕ → List Symbol → List LevelSymbol
at_levels i j [] = []
at_levels i j (X ∷ Xs) = lowered i X ∷ map (lowered j) Xs

-- those two levels of a right side
abbrev pub operand_levels : List LevelLine → List Production → ℕ → Option ℕ → Bool → ℕ × ℕ
operand_levels lines ps N (Some k) prefix =
    (first_at lines k (rank lines ps N k), last_at lines k (rank lines ps N k))
operand_levels lines ps N None true = (height lines ps N, height lines ps N)
operand_levels lines ps N None false = (0, 0)

-- a written production at these levels
abbrev pub leveled : Production → RuleLevels → Spread
leveled r l = record { left = r.left; level = l.level; right = at_levels l.first l.rest r.right; from = Written r.expr }

-- from level i of line k to the next one
abbrev pub step_from : ℕ → ℕ → ℕ → Spread
step_from N i k = record { left = N; level = i; right = Level N (suc i) ∷ []; from = Chain k }

abbrev pub spread_from : Source → Spread
spread_from (Rule r l) = leveled r.now l
spread_from (Step N i k) = step_from N i k
