-- The dependencies are least: what holds the direct ones and is closed under the two rules holds them all.
use Rattle.std.specs.Prelude.{◌≡◌, ℕ, Some}
use Rattle.sg_kinds.specs.Specification.{Rules, Occurrence}
use Rattle.sg_kinds.specs.Dependencies.{phylum_there, IsAttr, occurrence, Direct, InOperator, Chain, InPhylum, direct, induced, one, more, joined}

module _ (rules : Rules) (R : ℕ → Occurrence → Occurrence → Type 0) (S : ℕ → ℕ → ℕ → Type 0)
    (holds : (p : ℕ) (u v : Occurrence) → Direct rules p u v → R p u v)
    (chains : (p : ℕ) (u v w : Occurrence) → R p u v → R p v w → R p u w)
    (spreads : (p k X a b : ℕ) → phylum_there rules.ops p k ≡ Some X → S X a b → R p (occurrence k a) (occurrence k b))
    (joins : (p k X a b : ℕ) → phylum_there rules.ops p k ≡ Some X → IsAttr rules X a → IsAttr rules X b → R p (occurrence k a) (occurrence k b) → S X a b) where
  mutual
    pub least_in_operator : (p : ℕ) (u v : Occurrence) → InOperator rules p u v → R p u v
    least_in_operator _ _ _ (direct p u v d) = holds p u v d
    least_in_operator _ _ _ (induced p k X a b is s) = spreads p k X a b is (least_in_phylum X a b s)

    pub least_chain : (p : ℕ) (u v : Occurrence) → Chain rules p u v → R p u v
    least_chain _ _ _ (one p u v d) = least_in_operator p u v d
    least_chain _ _ _ (more p u v w d c) = chains p u v w (least_in_operator p u v d) (least_chain p v w c)

    pub least_in_phylum : (X a b : ℕ) → InPhylum rules X a b → S X a b
    least_in_phylum _ _ _ (joined p k X a b is m n c) = joins p k X a b is m n (least_chain p (occurrence k a) (occurrence k b) c)
