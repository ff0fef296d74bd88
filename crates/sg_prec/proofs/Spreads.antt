-- The productions of the spread grammar, and the written symbols of their right sides.
use Rattle.std.specs.Prelude.{◌≡◌, ℕ, zero, suc, ◌<◌, ◌⊎◌, Bool, true, false, List, [], ◌∷◌, map, Option, Some, None, Contains}
use Rattle.std.proofs.Common.{refl, ap, arith, inl, inr}
use Rattle.std.proofs.lemmas.List.Elements.{Contains-append_left, Contains-append_right, Contains-append_cases}
use Rattle.sg_kinds.specs.Instances.{below}
use Rattle.sg_kinds.specs.declared.spec.LevelLine.{LevelLine}
use Rattle.sg_kinds.specs.declared.spec.Production.{Production}
use Rattle.sg_kinds.specs.declared.spec.Symbol.{Symbol}
use Rattle.sg_kinds.specs.declared.spec.Symbol.TheVariants.{Quoted, Lexical, Nonterminal}
use Rattle.sg_prec.specs.Levels.{named_over, height}
use Rattle.sg_prec.specs.Spread.{LevelSymbol, Spread, lowered, operands, spread_right, spread_rule, chain, chains, spread_of}
use Rattle.sg_prec.specs.declared.productions.LevelSymbol.TheVariants as level
use Rattle.sg_prec.proofs.Counting.{below_has, below_low, map_has, map_back, flat_has, flat_back}

-- a symbol without its level
abbrev pub plain : LevelSymbol → Symbol
plain (level.Quoted s) = Quoted s
plain (level.Lexical l) = Lexical l
plain (level.Level N i) = Nonterminal N

plain_symbol : (i : ℕ) (X : Symbol) → plain (lowered i X) ≡ X
plain_symbol i (Quoted s) = refl
plain_symbol i (Lexical l) = refl
plain_symbol i (Nonterminal N) = refl

plain_all : (i : ℕ) (Xs : List Symbol) → map plain (map (lowered i) Xs) ≡ Xs
plain_all i [] = refl
plain_all i (X ∷ Xs) = λ t. plain_symbol i X t ∷ plain_all i Xs t

plain_operands : (i j : ℕ) (Xs : List Symbol) → map plain (operands i j Xs) ≡ Xs
plain_operands i j (a ∷ o ∷ b ∷ []) = λ t. plain_symbol i a t ∷ plain_symbol 0 o t ∷ plain_symbol j b t ∷ []
plain_operands i j Xs = plain_all 0 Xs

module _ (lines : List LevelLine) (ps : List Production) where
  pub plain_right : (N : ℕ) (o : Option ℕ) (prefix : Bool) (Xs : List Symbol) → map plain (spread_right lines ps N o prefix Xs) ≡ Xs
  plain_right N (Some k) prefix Xs = plain_operands _ _ Xs
  plain_right N None true Xs = plain_all (height lines ps N) Xs
  plain_right N None false Xs = plain_all 0 Xs

  pub left_named : (qs : List Production) (r : Production) → Contains qs r → r.left < named_over qs
  left_named [] r (i, low, at) = absurd (omega (arith, low))
  left_named (q ∷ qs) r (zero, low, at) = let same : q.left ≡ r.left = ap (λ (z : Production). z.left) at in omega (arith, same)
  left_named (q ∷ qs) r (suc i, low, at) = let rest = left_named qs r (i, omega (arith, low), at) in omega (arith, rest)

  pub rule_in : (r : Production) → Contains ps r → Contains (spread_of lines ps) (spread_rule lines ps r)
  unfolding spread_of
  rule_in r there = Contains-append_left (map (spread_rule lines ps) ps) (chains lines ps) (spread_rule lines ps r) (map_has (spread_rule lines ps) ps r there)

  pub chain_in : (N i : ℕ) → N < named_over ps → i < height lines ps N → Contains (spread_of lines ps) (chain lines ps N i)
  unfolding spread_of
  chain_in N i named low =
      Contains-append_right (map (spread_rule lines ps) ps) (chains lines ps) (chain lines ps N i)
      (flat_has (λ M. map (chain lines ps M) (below (height lines ps M))) (below (named_over ps)) N (chain lines ps N i) (below_has (named_over ps) N named)
      (map_has (chain lines ps N) (below (height lines ps N)) i (below_has (height lines ps N) i low)))

  pub spread_cases : (x : Spread) → Contains (spread_of lines ps) x
      → ((r : Production) × Contains ps r × (spread_rule lines ps r ≡ x)) ⊎ ((N : ℕ) × (i : ℕ) × (i < height lines ps N) × (chain lines ps N i ≡ x))
  unfolding spread_of
  spread_cases x has = elim (Contains-append_cases (map (spread_rule lines ps) ps) (chains lines ps) x has) [
    | inl written ↦ inl (map_back (spread_rule lines ps) ps x written)
    | inr later ↦
        let N = flat_back (λ M. map (chain lines ps M) (below (height lines ps M))) (below (named_over ps)) x later in
        let i = map_back (chain lines ps N.0) (below (height lines ps N.0)) x N.2 in
        inr (N.0, i.0, below_low (height lines ps N.0) i.0 i.1, i.2)
  ]
