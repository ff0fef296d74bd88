-- The productions of the spread grammar, as they are made.
use Rattle.std.proofs.Common.{◌≡◌, ℕ, suc, Bool, true, false, cond, List, [], ◌∷◌, ◌++◌, map, flat_map, slice_index_or, Option, Some, None, refl, sym, ap, ◌∙◌, ◌+◌, add-one}
use Rattle.std.proofs.lemmas.List.{flat_map_more}
use Rattle.std.specs.Prelude.{nat_eq, ◌&&◌, option_and_then}
use Rattle.sg_kinds.specs.Instances.{below}
use Rattle.sg_kinds.specs.declared.spec.LevelLine.{LevelLine}
use Rattle.sg_kinds.specs.declared.spec.Production.{Production}
use Rattle.sg_kinds.specs.declared.spec.Symbol.{Symbol}
use Rattle.sg_kinds.specs.declared.spec.Symbol.TheVariants.{Quoted, Nonterminal}
use Rattle.sg_prec.specs.Precedence.{line_with, literal_between, infix_line, is_before_itself}
use Rattle.sg_prec.specs.Levels.{named_over, lines_of, height, level_by, levels_of, row_at}
use Rattle.sg_prec.specs.Spread.{LevelSymbol, Spread, lowered, chain, spread_right, spread_rule, spread_of}
use Rattle.sg_prec.specs.Sources.{at_levels, operand_levels, leveled, step_from}
use Rattle.sg_prec.specs.declared.productions.LevelSymbol.TheVariants.{Level}
use Rattle.sg_prec.specs.declared.productions.From.TheVariants.{Written, Chain}
use Rattle.sg_prec.proofs.RisingRows.{row_of_levels}

pub at_one_level : (i : ℕ) (Xs : List Symbol) → at_levels i i Xs ≡ map (lowered i) Xs
at_one_level i [] = refl
at_one_level i (X ∷ Xs) = refl

module _ (lines : List LevelLine) (ps : List Production) (N : ℕ) where
  abbrev two_of : Option ℕ → Bool → List Symbol → List LevelSymbol
  two_of o prefix Xs = at_levels (operand_levels lines ps N o prefix).0 (operand_levels lines ps N o prefix).1 Xs

  -- two levels say the whole of a spread right side, since what stands between operands is a literal
  pub two_levels : (Xs : List Symbol) → two_of (option_and_then (line_with lines) (literal_between N Xs)) (is_before_itself N Xs) Xs
      ≡ spread_right lines ps N (option_and_then (line_with lines) (literal_between N Xs)) (is_before_itself N Xs) Xs
  two_levels (Nonterminal a ∷ Quoted s ∷ Nonterminal b ∷ []) = by (option_and_then (line_with lines) (cond (nat_eq N a && nat_eq N b) (Some s) None))
    where
      by : (o : Option ℕ) → two_of o false (Nonterminal a ∷ Quoted s ∷ Nonterminal b ∷ []) ≡ spread_right lines ps N o false (Nonterminal a ∷ Quoted s ∷ Nonterminal b ∷ [])
      by None = refl
      by (Some k) = refl
  two_levels (Quoted s ∷ Nonterminal a ∷ []) = by (nat_eq N a)
    where
      by : (c : Bool) → two_of None c (Quoted s ∷ Nonterminal a ∷ []) ≡ spread_right lines ps N None c (Quoted s ∷ Nonterminal a ∷ [])
      by true = refl
      by false = refl
  two_levels Xs = at_one_level 0 Xs

pub rule_is : (lines : List LevelLine) (ps : List Production) (r : Production) (line : Option ℕ) (o : ℕ × ℕ) (level : ℕ) → line ≡ infix_line lines r
    → o ≡ operand_levels lines ps r.left line (is_before_itself r.left r.right) → level ≡ level_by lines ps r.left line
    → leveled r (record { level = level; first = o.0; rest = o.1 }) ≡ spread_rule lines ps r
rule_is lines ps r line o level found two at =
    let right = ap (λ (p : ℕ × ℕ). at_levels p.0 p.1 r.right) (two ∙ ap (λ l. operand_levels lines ps r.left l (is_before_itself r.left r.right)) found) ∙ two_levels lines ps r.left r.right in
    let here = at ∙ ap (level_by lines ps r.left) found in
    λ t. record { left = r.left; level = here t; right = right t; from = Written r.expr }

pub step_is : (lines : List LevelLine) (ps : List Production) (rows : List (List ℕ)) (N level here line : ℕ) → rows ≡ levels_of lines ps
    → here ≡ level → line ≡ slice_index_or (row_at rows N) level 0
    → step_from N here line ≡ chain lines ps N level
step_is lines ps rows N level here line known same at =
    let of : line ≡ slice_index_or (lines_of lines ps N) level 0 = at ∙ ap (λ r. slice_index_or (row_at r N) level 0) known ∙ ap (λ xs. slice_index_or xs level 0) (row_of_levels lines ps N) in
    λ t. record { left = N; level = same t; right = Level N (suc (same t)) ∷ []; from = Chain (of t) }

-- the steps of one more nonterminal
pub steps_more : {X : Type 0} (f : ℕ → List X) (n : ℕ) (rules before after : List X) → before ≡ rules ++ flat_map f (below n) → after ≡ before ++ f n → after ≡ rules ++ flat_map f (below (n + 1))
steps_more f n rules before after so_far is =
    is ∙ ap (λ xs. xs ++ f n) so_far ∙ flat_map_more f rules (below n) n ∙ ap (λ k. rules ++ flat_map f (below k)) (sym (add-one n))

-- the written productions, and the steps of each nonterminal
pub spread_is : (lines known : List LevelLine) (ps written : List Production) (n : ℕ) (all : List Spread) → known ≡ lines → written ≡ ps → n ≡ named_over ps
    → all ≡ map (spread_rule known written) ps ++ flat_map (λ N. map (chain known written N) (below (height known written N))) (below n) → all ≡ spread_of lines ps
unfolding spread_of
spread_is lines known ps written n all is same count so_far =
    so_far ∙ (λ t. map (spread_rule (is t) (same t)) ps ++ flat_map (λ N. map (chain (is t) (same t) N) (below (height (is t) (same t) N))) (below (count t)))
