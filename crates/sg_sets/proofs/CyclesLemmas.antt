-- Lemmas on cycles.
use Rattle.std.proofs.Common.{◌≡◌, ℕ, zero, suc, ◌<◌, ◌≤◌, List, [], ◌∷◌, length, get_or, sym, subst, arith}
use Rattle.std.specs.Prelude.{Contains, slice_index}
use Rattle.sg_sets.specs.Cycles.{IsCycle, HasNoCycle, StartsLeast, IsShortest, IsLeast}
use Rattle.sg_sets.specs.Paths.{Leads, Path}
use Rattle.sg_sets.proofs.PathsLemmas.{Path-append}

module _ (R : ℕ → ℕ → Type 0) where
  -- a way passes each of its vertices
  Path-split : (a b : ℕ) (via : List ℕ) (k d : ℕ) → k < length via → Leads R a via b → Path R a (get_or via k d) × Path R (get_or via k d) b
  Path-split a b [] k d low leads = absurd (omega (arith, low))
  Path-split a b (x ∷ via) zero d low leads = (([], leads.0), (via, leads.1))
  Path-split a b (x ∷ via) (suc k) d low leads =
      let rest = Path-split x b via k d (omega (arith, low)) leads.1 in
      ((x ∷ rest.0.0, (leads.0, rest.0.1)), rest.1)

  -- each vertex of a cycle leads to itself
  pub Path-on_cycle : (c : List ℕ) (v : ℕ) → IsCycle R c → Contains c v → Path R v v
  Path-on_cycle [] v cycle in' = absurd cycle
  Path-on_cycle (a ∷ via) v cycle (zero, low, is) = subst (λ u. Path R u u) is (via, cycle)
  Path-on_cycle (a ∷ via) v cycle (suc k, low, is) =
      let parts = Path-split a a via k v (omega (arith, low)) cycle in
      subst (λ u. Path R u u) is (Path-append R (get_or via k v) a (get_or via k v) parts.1 parts.0)

  pub HasNoCycle-from_paths : ((v : ℕ) → ¬ (Path R v v)) → HasNoCycle R
  HasNoCycle-from_paths none [] cycle = cycle
  HasNoCycle-from_paths none (a ∷ via) cycle = none a (via, cycle)

  pub StartsLeast-from_paths : (c : List ℕ) (start : ℕ) → slice_index c 0 ≡ start → ((v : ℕ) → Path R v v → start ≤ v) → StartsLeast R c
  StartsLeast-from_paths c start is least d v cycle in' = subst (λ s. s ≤ v) (sym is) (least v (Path-on_cycle d v cycle in'))

-- a wider relation has the cycles of the other, and what no cycle of it undercuts no cycle of the other does
module _ (R S : ℕ → ℕ → Type 0) (wider : (a b : ℕ) → R a b → S a b) where
  pub Leads-wider : (a b : ℕ) (via : List ℕ) → Leads R a via b → Leads S a via b
  Leads-wider a b [] leads = wider a b leads
  Leads-wider a b (v ∷ via) leads = (wider a v leads.0, Leads-wider v b via leads.1)

  pub IsCycle-wider : (c : List ℕ) → IsCycle R c → IsCycle S c
  IsCycle-wider [] cycle = cycle
  IsCycle-wider (a ∷ via) cycle = Leads-wider a a via cycle

  pub HasNoCycle-narrower : HasNoCycle S → HasNoCycle R
  HasNoCycle-narrower none d cycle = none d (IsCycle-wider d cycle)

  pub StartsLeast-narrower : (c : List ℕ) → StartsLeast S c → StartsLeast R c
  StartsLeast-narrower c least d v cycle in' = least d v (IsCycle-wider d cycle) in'

  pub IsShortest-narrower : (c : List ℕ) → IsShortest S c → IsShortest R c
  IsShortest-narrower c shortest d from = shortest d (IsCycle-wider d from.0, from.1)

  pub IsLeast-narrower : (c : List ℕ) → IsLeast S c → IsLeast R c
  IsLeast-narrower c least d from long = least d (IsCycle-wider d from.0, from.1) long
