-- The spread grammar: a nonterminal for each level, productions at the level of their line, and chains from each level
-- to the next.
use Rattle.std.specs.Prelude.{ℕ, suc, Bool, true, false, cond, List, [], ◌∷◌, ◌++◌, map, flat_map, slice_index_or, Option, Some, None}
use Rattle.sg_kinds.specs.declared.spec.LevelLine.{LevelLine}
use Rattle.sg_kinds.specs.declared.spec.Production.{Production}
use Rattle.sg_kinds.specs.declared.spec.Symbol.{Symbol}
use Rattle.sg_kinds.specs.Instances.{below}
use Rattle.sg_kinds.specs.declared.spec.Symbol.TheVariants as written
use Rattle.sg_prec.specs.Precedence.{infix_line, groups_left, groups_right, is_before_itself}
use Rattle.sg_prec.specs.Levels.{named_over, lines_of, height, level_of, rank}
pub use Rattle.sg_prec.specs.declared.productions.LevelSymbol.{LevelSymbol}
pub use Rattle.sg_prec.specs.declared.productions.From.{From}
pub use Rattle.sg_prec.specs.declared.productions.Spread.{Spread}
use Rattle.sg_prec.specs.declared.productions.LevelSymbol.TheVariants.{Quoted, Lexical, Level}
use Rattle.sg_prec.specs.declared.productions.From.TheVariants.{Written, Chain}

-- a symbol, a nonterminal at this level
abbrev pub lowered : ℕ → Symbol → LevelSymbol
lowered i (written.Quoted s) = Quoted s
lowered i (written.Lexical p) = Lexical p
lowered i (written.Nonterminal N) = Level N i

-- the levels of the operands of an infix production of line k, which is of level i
abbrev pub first_at : List LevelLine → ℕ → ℕ → ℕ
first_at lines k i = cond (groups_left lines k) i (suc i)

abbrev pub last_at : List LevelLine → ℕ → ℕ → ℕ
last_at lines k i = cond (groups_right lines k) i (suc i)

abbrev pub operands : ℕ → ℕ → List Symbol → List LevelSymbol
operands i j (a ∷ o ∷ b ∷ []) = lowered i a ∷ lowered 0 o ∷ lowered j b ∷ []
operands i j Xs = map (lowered 0) Xs

-- the right side: operands of an infix production by its line, that of a prefix production at the last level, and any
-- other nonterminal at the first
abbrev pub spread_right : List LevelLine → List Production → ℕ → Option ℕ → Bool → List Symbol → List LevelSymbol
spread_right lines ps N (Some k) prefix Xs =
    operands (first_at lines k (rank lines ps N k)) (last_at lines k (rank lines ps N k)) Xs
spread_right lines ps N None true Xs = map (lowered (height lines ps N)) Xs
spread_right lines ps N None false Xs = map (lowered 0) Xs

abbrev pub spread_rule : List LevelLine → List Production → Production → Spread
spread_rule lines ps r = record {
  left = r.left;
  level = level_of lines ps r;
  right = spread_right lines ps r.left (infix_line lines r) (is_before_itself r.left r.right) r.right;
  from = Written r.expr;
}

-- from a level to the next one
abbrev pub chain : List LevelLine → List Production → ℕ → ℕ → Spread
chain lines ps N i = record {
  left = N;
  level = i;
  right = Level N (suc i) ∷ [];
  from = Chain (slice_index_or (lines_of lines ps N) i 0);
}

abbrev pub chains : List LevelLine → List Production → List Spread
chains lines ps = flat_map (λ N. map (chain lines ps N) (below (height lines ps N))) (below (named_over ps))

-- A nonterminal without a line has the one level 0, and its productions stand as they are written.
unfoldable pub spread_of : List LevelLine → List Production → List Spread
spread_of lines ps = map (spread_rule lines ps) ps ++ chains lines ps
