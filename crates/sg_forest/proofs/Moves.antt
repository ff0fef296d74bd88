-- What every step on a forest shares: lists with one place written, and nodes that stay hung.
use Rattle.std.proofs.Common.{◌≡◌, ◌≢◌, ◌⊎◌, ◌<◌, ℕ, zero, suc, List, [], ◌∷◌, length, set, take, Option, Some, None, refl, ap, inl, inr, arith}
use Rattle.std.specs.List.{slice_get}
use Rattle.sg_forest.specs.declared.node_id.NodeId.{NodeId}
use Rattle.sg_forest.specs.Node.{Node}
use Rattle.sg_forest.specs.Trees.{IsLive, IsRoot, IsChild, Climbs, IsInside, HasRoot}
use Rattle.sg_forest.proofs.Paths.{cases_id, root_is_no_child, one_parent}

pub slice_get-set_same : {X : Type 0} (xs : List X) (i : ℕ) (x : X) → i < length xs → slice_get (set xs i x) i ≡ Some x
slice_get-set_same [] i x within = absurd (omega arith)
slice_get-set_same (y ∷ xs) zero x within = refl
slice_get-set_same (y ∷ xs) (suc i) x within = slice_get-set_same xs i x (omega arith)

pub slice_get-set_other : {X : Type 0} (xs : List X) (i j : ℕ) (x : X) → j ≢ i → slice_get (set xs i x) j ≡ slice_get xs j
slice_get-set_other [] i j x differs = refl
slice_get-set_other (y ∷ xs) zero zero x differs = absurd (differs refl)
slice_get-set_other (y ∷ xs) zero (suc j) x differs = refl
slice_get-set_other (y ∷ xs) (suc i) zero x differs = refl
slice_get-set_other (y ∷ xs) (suc i) (suc j) x differs = slice_get-set_other xs i j x (λ e. differs (ap suc e))

-- to write what stands there changes nothing
pub set-same : {X : Type 0} (xs : List X) (i : ℕ) (x : X) → slice_get xs i ≡ Some x → set xs i x ≡ xs
set-same [] i x e = refl
set-same (y ∷ xs) zero x e = let same : x ≡ y = cc in ap (λ z. z ∷ xs) same
set-same (y ∷ xs) (suc i) x e = ap (λ zs. y ∷ zs) (set-same xs i x e)

pub slice_get-take : {X : Type 0} (xs : List X) (n i : ℕ) → i < n → slice_get (take n xs) i ≡ slice_get xs i
slice_get-take xs zero i below = absurd (omega arith)
slice_get-take [] (suc n) i below = refl
slice_get-take (x ∷ xs) (suc n) zero below = refl
slice_get-take (x ∷ xs) (suc n) (suc i) below = slice_get-take xs n i (omega arith)

pub slice_get-take_below : {X : Type 0} (xs : List X) (n i : ℕ) (x : X) → slice_get (take n xs) i ≡ Some x → i < n
slice_get-take_below xs zero i x e = cc
slice_get-take_below [] (suc n) i x e = cc
slice_get-take_below (y ∷ xs) (suc n) zero x e = omega arith
slice_get-take_below (y ∷ xs) (suc n) (suc i) x e = let below = slice_get-take_below xs n i x e in omega (arith, below)

-- the node is in the list, at some place, or not
pub place_in : (ids : List NodeId) (n : NodeId) → ((k : ℕ) × (slice_get ids k ≡ Some n)) ⊎ ((k : ℕ) → slice_get ids k ≢ Some n)
place_in [] n = inr (λ k e. cc e)
place_in (id ∷ ids) n =
    elim (cases_id id n) [
      | inl e ↦ inl (0, ap Some e)
      | inr differs ↦ elim (place_in ids n) [
        | inl at ↦ inl (suc at.0, at.1)
        | inr not ↦ inr (apart id ids n differs not)
      ]
    ]
  where
    apart : (id : NodeId) (ids : List NodeId) (n : NodeId) → id ≢ n → ((k : ℕ) → slice_get ids k ≢ Some n) → (k : ℕ) → slice_get (id ∷ ids) k ≢ Some n
    apart id ids n differs not zero e = let same : id ≡ n = cc e in differs same
    apart id ids n differs not (suc k) e = not k e

module _ {L D : Type 0} (at : NodeId → Option (Node L D)) where
  pub HasRoot-root : (n : NodeId) → IsRoot at n → HasRoot at n
  HasRoot-root n root = record { root = n; is_root = root; path = []; climbs = refl }

  pub HasRoot-child : (n p : NodeId) (k : ℕ) → IsChild at n p k → HasRoot at p → HasRoot at n
  HasRoot-child n p k child has = record { root = has.root; is_root = has.is_root; path = k ∷ has.path; climbs = (p, child, has.climbs) }

module _ {L D : Type 0} (old new : NodeId → Option (Node L D)) where
  -- a node's place after a step: the top of a tree, the place that it had, or one known to hang
  pub data StaysHung (n : NodeId) : Type 0 where
    as_root : IsRoot new n → StaysHung n
    as_child : (p : NodeId) (k : ℕ) → IsChild old n p k → IsChild new n p k → IsLive new p → StaysHung n
    as_placed : HasRoot new n → StaysHung n

  -- where each node of a tree stays hung, each has a root
  pub HasRoot-stays : (r : NodeId) → IsRoot old r → ((n : NodeId) → IsInside old n r → IsLive new n → StaysHung n) → (path : List ℕ) (n : NodeId) → Climbs old path n r → IsLive new n → HasRoot new n
  HasRoot-stays r root stays [] n same live =
      elim (stays n (record { path = []; climbs = same }) live) [
        | as_root top ↦ HasRoot-root new n top
        | as_child p k was is above ↦ absurd (root_is_no_child old n p k (rw same root) was)
        | as_placed has ↦ has
      ]
  HasRoot-stays r root stays (j ∷ path) n climbs live =
      let further : (p : NodeId) → Climbs old path p r → IsLive new p → HasRoot new p = λ p. HasRoot-stays r root stays path p in
      elim (stays n (record { path = j ∷ path; climbs = climbs }) live) [
        | as_root top ↦ HasRoot-root new n top
        | as_child p k was is above ↦
            let same = (one_parent old n climbs.0 p j k climbs.1 was).0 in
            HasRoot-child new n p k is (further p (rw same at climbs.2) above)
        | as_placed has ↦ has
      ]

  -- a step that keeps the dead dead tells what a node was from what it is
  pub was_of : (M : NodeId → Node L D → Node L D → Type 0) → ((n : NodeId) (x : Node L D) → old n ≡ Some x → (y : Node L D) × (new n ≡ Some y) × M n x y) → ((n : NodeId) → old n ≡ None → new n ≡ None) → (n : NodeId) (y : Node L D) → new n ≡ Some y → (x : Node L D) × (old n ≡ Some x) × M n x y
  was_of M after dead n y found = by_slot (old n) refl
    where
      by_slot : (slot : Option (Node L D)) → old n ≡ slot → (x : Node L D) × (old n ≡ Some x) × M n x y
      by_slot None e = absurd (cc (found, dead n e))
      by_slot (Some x) e =
          let now = after n x e in
          let same : now.0 ≡ y = cc (found, now.1) in
          (x, e, rw same at now.2)
