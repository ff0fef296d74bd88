-- Completing terms are no deeper than the room that they are made in.
use Rattle.std.proofs.Common.{ℕ, zero, suc, ◌≤◌, List, [], ◌∷◌, false, Option, Some, None, slice_get, option_map, option_and_then, arith}
use Rattle.sg_kinds.specs.Terms.{Term, Terms, Leaf, Node, NoTerm, AndTerm, height_of, height_of_all}
use Rattle.sg_kinds.specs.declared.spec.Spec.{Spec}
use Rattle.sg_kinds.specs.declared.spec.Phylum.{Phylum}
use Rattle.sg_kinds.specs.declared.marks.Shape.{Shape}
use Rattle.sg_kinds.specs.Specification.{args_of}
use Rattle.sg_kinds.specs.declared.marks.Shape.TheVariants.{Truths, Numbers, Texts, Lexemes, Ordinary, Optional, Listed, OptionalListed}
use Rattle.sg_kinds.specs.Completing.{all_made, over, one_element, completed, completing_within}
use Rattle.sg_kinds.specs.Placeholder.{placeheld, placeholder_within}

abbrev pub IsLow : ℕ → Option Term → Type 0
IsLow k None = Unit {0}
IsLow k (Some t) = height_of t ≤ k

AreLow : ℕ → Option Terms → Type 0
AreLow k None = Unit {0}
AreLow k (Some ts) = height_of_all ts ≤ k

some_height : (t : Term) → 1 ≤ height_of t
some_height (Leaf p v) = omega arith
some_height (Node op scheme elided ts) = omega arith

joined : (k : ℕ) (t : Term) (o : Option Terms) → height_of t ≤ k → AreLow k o → AreLow k (option_map (AndTerm t) o)
unfolding AreLow
joined k t None h l = tt
joined k t (Some ts) h l = omega arith

module _ (spec : Spec) (made : ℕ → Option Term) (k : ℕ) (low : (q : ℕ) → IsLow k (made q)) where
  all_low : (ps : List ℕ) → AreLow k (all_made made ps)
  unfolding AreLow
  all_low [] = omega arith
  all_low (p ∷ ps) = by (made p) (low p) (all_low ps)
    where
      by : (o : Option Term) → IsLow k o → AreLow k (all_made made ps) → AreLow k (option_and_then (λ t. option_map (AndTerm t) (all_made made ps)) o)
      by None h l = tt
      by (Some t) h l = joined k t (all_made made ps) h l

  over_low : (op : Option ℕ) → IsLow (suc k) (over spec made op)
  unfolding AreLow
  over_low None = tt
  over_low (Some op) = by (all_made made (args_of spec.ops op)) (all_low (args_of spec.ops op))
    where
      by : (o : Option Terms) → AreLow k o → IsLow (suc k) (option_map (Node op 0 false) o)
      by None l = tt
      by (Some ts) l = omega arith

  one_low : (os : List ℕ) → IsLow (suc k) (one_element spec made os)
  one_low [] = tt
  one_low (nil ∷ []) = tt
  one_low (nil ∷ (pair ∷ os)) = by (slice_get (args_of spec.ops pair) 0)
    where
      inner : (o : Option Term) → IsLow k o → IsLow (suc k) (option_map (λ t. Node pair 0 false (AndTerm t (AndTerm (Node nil 0 false NoTerm) NoTerm))) o)
      inner None l = tt
      inner (Some t) l = let h : 1 ≤ height_of t = some_height t in omega (arith, h)

      by : (o : Option ℕ) → IsLow (suc k) (option_map (λ t. Node pair 0 false (AndTerm t (AndTerm (Node nil 0 false NoTerm) NoTerm))) (option_and_then made o))
      by None = tt
      by (Some e) = inner (made e) (low e)

  completed_low : (p : ℕ) (os : List ℕ) (shape : Shape) → IsLow (suc k) (completed spec made p os shape)
  completed_low p os Truths = omega arith
  completed_low p os Numbers = omega arith
  completed_low p os Texts = omega arith
  completed_low p os (Lexemes l) = omega arith
  completed_low p os Ordinary = over_low (slice_get os 0)
  completed_low p os Optional = over_low (slice_get os 0)
  completed_low p os Listed = one_low os
  completed_low p os OptionalListed = over_low (slice_get os 0)

  placeheld_low : (p : ℕ) (os : List ℕ) (shape : Shape) → IsLow (suc k) (placeheld spec made p os shape)
  placeheld_low p os Optional = over_low (slice_get os 1)
  placeheld_low p os OptionalListed = one_low os
  placeheld_low p os Truths = omega arith
  placeheld_low p os Numbers = omega arith
  placeheld_low p os Texts = omega arith
  placeheld_low p os (Lexemes l) = omega arith
  placeheld_low p os Ordinary = over_low (slice_get os 0)
  placeheld_low p os Listed = one_low os

pub completing_low : (spec : Spec) (k p : ℕ) → IsLow k (completing_within spec k p)
completing_low spec zero p = tt
completing_low spec (suc k) p = by (slice_get spec.phyla p) (completing_low spec k)
  where
    by : (o : Option Phylum) → ((q : ℕ) → IsLow k (completing_within spec k q)) → IsLow (suc k) (option_and_then (λ (x : Phylum). completed spec (completing_within spec k) p x.ops x.shape) o)
    by None low = tt
    by (Some x) low = completed_low spec (completing_within spec k) k low p x.ops x.shape

pub placeholder_low : (spec : Spec) (k p : ℕ) → IsLow (suc k) (placeholder_within spec k p)
placeholder_low spec k p = by (slice_get spec.phyla p)
  where
    by : (o : Option Phylum) → IsLow (suc k) (option_and_then (λ (x : Phylum). placeheld spec (completing_within spec k) p x.ops x.shape) o)
    by None = tt
    by (Some x) = placeheld_low spec (completing_within spec k) k (completing_low spec k) p x.ops x.shape
