-- The map of a slab.
use Rattle.std.proofs.Common.{◌≡◌, ◌<◌, ◌+◌, ℕ, zero, suc, true, cond, List, [], ◌∷◌, get_or, length, Option, Some, None, refl, sym, ap, subst, ◌∙◌, arith}
use Rattle.std.specs.FinMap as map
use Rattle.std.specs.FinMap.Entries.{find, is_sorted, below_all}
use Rattle.std.specs.Ordering.{nat_cmp, is_eq}
use Rattle.std.specs.Cmp.{nat_cmp_is}
use Rattle.std.specs.declared.cmp.Ordering.TheVariants.{Less, Equal, Greater}
use Rattle.slab.specs.Slab.{Slab, get, entries, entries_from, slab_len}
use Rattle.slab.proofs.SlabLemmas.{length-entries}
use Rattle.sg_forest.specs.declared.node_id.NodeId.{NodeId}
use Rattle.sg_forest.specs.Node.{Node}
use Rattle.sg_forest.specs.Trees.{Trees, node_at, node_in, trees_of}

module _ {X : Type 0} where
  below_all-entries_from : (x k : ℕ) (slots : List (Option X)) → x < k → below_all nat_cmp x (entries_from k slots) ≡ true
  below_all-entries_from x k [] below = refl
  below_all-entries_from x k (None ∷ slots) below = below_all-entries_from x (k + 1) slots (omega arith)
  below_all-entries_from x k (Some y ∷ slots) below = rw (← nat_cmp_is x k Less below) (below_all-entries_from x (k + 1) slots (omega arith))

  is_sorted-entries_from : (k : ℕ) (slots : List (Option X)) → is_sorted nat_cmp (entries_from k slots) ≡ true
  is_sorted-entries_from k [] = refl
  is_sorted-entries_from k (None ∷ slots) = is_sorted-entries_from (k + 1) slots
  is_sorted-entries_from k (Some y ∷ slots) = rw (below_all-entries_from k (k + 1) slots (omega arith)) (is_sorted-entries_from (k + 1) slots)

  find-entries_below : (q k : ℕ) (slots : List (Option X)) → q < k → find nat_cmp q (entries_from k slots) ≡ None
  find-entries_below q k [] below = refl
  find-entries_below q k (None ∷ slots) below = find-entries_below q (k + 1) slots (omega arith)
  find-entries_below q k (Some y ∷ slots) below = rw (← nat_cmp_is q k Less below) (find-entries_below q (k + 1) slots (omega arith))

  find-entries_from : (q k : ℕ) (slots : List (Option X)) → find nat_cmp (q + k) (entries_from k slots) ≡ get_or slots q None
  find-entries_from q k [] = refl
  find-entries_from zero k (None ∷ slots) = find-entries_below (0 + k) (k + 1) slots (omega arith)
  find-entries_from (suc q) k (None ∷ slots) = let e : suc q + k ≡ q + (k + 1) = omega arith in rw e (find-entries_from q (k + 1) slots)
  find-entries_from zero k (Some y ∷ slots) =
      let e : 0 + k ≡ k = omega arith in
      ap (λ i. cond (is_eq (nat_cmp i k)) (Some y) (find nat_cmp i (entries_from (k + 1) slots))) e ∙ ap (λ r. cond (is_eq r) (Some y) (find nat_cmp k (entries_from (k + 1) slots))) (sym (nat_cmp_is k k Equal refl))
  find-entries_from (suc q) k (Some y ∷ slots) =
      let e : suc q + k ≡ q + (k + 1) = omega arith in
      ap (λ r. cond (is_eq r) (Some y) (find nat_cmp (suc q + k) (entries_from (k + 1) slots))) (sym (nat_cmp_is (suc q + k) k Greater (omega arith))) ∙ rw e (find-entries_from q (k + 1) slots)

  -- the map answers what the slab has
  pub get-from_slab : (s : Slab X) (n : ℕ) → map.get (map.from_sorted {R = nat_cmp} (entries s)) n ≡ get s n
  get-from_slab s n =
      let e : n + 0 ≡ n = omega arith in
      map.get-from_sorted nat_cmp (entries s) n (rw (is_sorted-entries_from 0 s.slots) tt) ∙ ap (λ i. find nat_cmp i (entries s)) (sym e) ∙ find-entries_from n 0 s.slots

  -- the same by the slots
  pub read_slots : (slots : List (Option X)) (n : ℕ) → map.get (map.from_sorted {R = nat_cmp} (entries_from 0 slots)) n ≡ get_or slots n None
  read_slots slots n = get-from_slab (record { slots = slots; vacant_key = 0; capacity = 0 }) n

  pub len-from_slab : (s : Slab X) → map.len (map.from_sorted {R = nat_cmp} (entries s)) ≡ slab_len s
  len-from_slab s =
      map.len-entries (map.from_sorted (entries s)) ∙ ap length (map.entries-from_sorted nat_cmp (entries s) (rw (is_sorted-entries_from 0 s.slots) tt)) ∙ length-entries s

module _ {L D : Type 0} where
  -- as functions, the two ways to look a node up are one
  pub node_at-slab : (s : Slab (Node L D)) → node_at (trees_of s) ≡ node_in s
  node_at-slab s = λ i n. get-from_slab s n.key i

  -- what holds of two slabs holds of the forests that they stand for
  pub carried : (P : (NodeId → Option (Node L D)) → (NodeId → Option (Node L D)) → Type 0) (s u : Slab (Node L D)) (t : Trees L D) → trees_of s ≡ t → P (node_in s) (node_in u) → P (node_at t) (node_at (trees_of u))
  carried P s u t is holds =
      let first : P (node_at (trees_of s)) (node_in u) = subst (λ f. P f (node_in u)) (sym (node_at-slab s)) holds in
      let both : P (node_at (trees_of s)) (node_at (trees_of u)) = subst (λ f. P (node_at (trees_of s)) f) (sym (node_at-slab u)) first in
      subst (λ (x : Trees L D). P (node_at x) (node_at (trees_of u))) is both

  -- what holds of a forest holds of the slab behind it
  pub given : (P : (NodeId → Option (Node L D)) → Type 0) (s : Slab (Node L D)) (t : Trees L D) → trees_of s ≡ t → P (node_at t) → P (node_in s)
  given P s t is holds =
      let back : P (node_at (trees_of s)) = subst (λ (x : Trees L D). P (node_at x)) (sym is) holds in
      subst P (node_at-slab s) back
