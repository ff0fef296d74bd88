-- Lemmas on ways from one vertex to another.
use Rattle.std.proofs.Common.{◌≡◌, ℕ, ◌+◌, inl, inr, List, [], ◌∷◌, ◌++◌, length, refl, sym, ap, ◌∙◌, arith, length-append}
use Rattle.sg_sets.specs.Cycles.{NotAfter}
use Rattle.sg_sets.specs.Layers.{IsApart, IsLeastWay}
use Rattle.sg_sets.specs.Ways.{IsWay, IsShortestWay, IsFirstWay}

-- one number more behind both of two sequences that are as long
not_after-more : (xs ys : List ℕ) (b : ℕ) → length xs ≡ length ys → NotAfter xs ys → NotAfter (xs ++ b ∷ []) (ys ++ b ∷ [])
not_after-more [] [] b l h = inr (refl, tt)
not_after-more [] (y ∷ ys) b l h = absurd (omega (arith, l))
not_after-more (x ∷ xs) [] b l h = absurd (omega (arith, l))
not_after-more (x ∷ xs) (y ∷ ys) b l (inl lt) = inl lt
not_after-more (x ∷ xs) (y ∷ ys) b l (inr (same, h)) = inr (same, not_after-more xs ys b (omega (arith, l)) h)

module _ (R : ℕ → ℕ → Type 0) (a b m : ℕ) (via w : List ℕ) (is : w ≡ a ∷ via ++ b ∷ []) where
  between : (d : List ℕ) (other : List ℕ) → d ≡ a ∷ other ++ b ∷ [] → length d ≡ length other + 2
  between d other e = let l = length-append other (b ∷ []) in let f = ap length e in omega (arith, l, f)

  pub way-least : IsLeastWay R b a m via → IsWay R a b w
  way-least least = (via, is, least.leads)

  pub way-shortest : IsApart R b a m → IsLeastWay R b a m via → IsShortestWay R a b w
  way-shortest apart least d (other, e, leads) =
      let s = apart.shortest other leads in
      omega (arith, s, least.long, between w via is, between d other e)

  pub way-first : IsLeastWay R b a m via → IsFirstWay R a b w
  way-first least d (other, e, leads) long =
      let same : length other ≡ length via = omega (arith, long, between w via is, between d other e) in
      let first = least.least other leads (same ∙ least.long) in
      rw (is, e) (inr (refl, not_after-more via other b (sym same) first))
