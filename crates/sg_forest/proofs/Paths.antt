-- Ways up a forest.
use Rattle.std.proofs.Common.{◌≡◌, ◌≢◌, ◌⊎◌, ℕ, Bool, false, eqb, List, [], ◌∷◌, ◌++◌, length, Option, Some, None, refl, sym, ap, ◌∙◌, inl, inr, arith, length-append}
use Rattle.std.proofs.lemmas.Bool.{cases_eq}
use Rattle.std.proofs.lemmas.Bool.Decides.{nat_tests}
use Rattle.sg_forest.specs.declared.node_id.NodeId.{NodeId}
use Rattle.sg_forest.specs.Node.{Node}
use Rattle.sg_forest.specs.Trees.{IsLive, IsRoot, IsChild, Lists, Climbs, IsInside, HasRoot, IsLinked}

pub same_id : (n m : NodeId) → n.key ≡ m.key → n ≡ m
same_id n m e = ap (λ (k : ℕ). let id : NodeId = record { key = k } in id) e

-- two numbers are one, or differ
pub cases_id : (n m : NodeId) → (n ≡ m) ⊎ (n ≢ m)
cases_id n m = elim (cases_eq n.key m.key) [ inl e ↦ inl (same_id n m e) | inr differs ↦ inr (λ e. differs (ap (λ i. i.key) e)) ]

-- a test that failed tells two numbers apart
pub differs_by_test : (n m : NodeId) (test : Bool) → test ≡ eqb n.key m.key → test ≡ false → n ≢ m
differs_by_test n m test is fails e =
    let same : n.key ≡ m.key = ap (λ i. i.key) e in
    grind (arith, nat_tests)

module _ {L D : Type 0} (at : NodeId → Option (Node L D)) where
  pub root_is_no_child : (n p : NodeId) (k : ℕ) → IsRoot at n → IsChild at n p k → ⊥
  root_is_no_child n p k root child =
      let same : root.node ≡ child.node = cc in
      let up = ap (λ x. x.up) same in
      cc

  pub one_parent : (n p q : NodeId) (j k : ℕ) → IsChild at n p j → IsChild at n q k → (p ≡ q) × (j ≡ k)
  one_parent n p q j k one other =
      let same : one.node ≡ other.node = cc in
      let up = ap (λ x. x.up) same in
      let pair : let t : NodeId × ℕ = (p, j) in let u : NodeId × ℕ = (q, k) in t ≡ u = cc in
      (ap (λ t. t.0) pair, ap (λ t. t.1) pair)

  -- a place has one child
  pub one_kid : (p n m : NodeId) (k : ℕ) → Lists at p k n → Lists at p k m → n ≡ m
  one_kid p n m k one other = let same : one.node ≡ other.node = cc in cc

  -- a node is a root or a child
  pub root_or_child : (n : NodeId) → IsLive at n → IsRoot at n ⊎ ((p : NodeId) × (k : ℕ) × IsChild at n p k)
  root_or_child n live = by_up live.node.up refl
    where
      by_up : (up : Option (NodeId × ℕ)) → live.node.up ≡ up → IsRoot at n ⊎ ((p : NodeId) × (k : ℕ) × IsChild at n p k)
      by_up None e = inl (record { node = live.node; found = live.found; top = e })
      by_up (Some (p, k)) e = inr (p, k, record { node = live.node; found = live.found; hangs = e })

  pub child_is_live : (n p : NodeId) (k : ℕ) → IsChild at n p k → IsLive at n
  child_is_live n p k child = record { node = child.node; found = child.found }

  pub root_is_live : (n : NodeId) → IsRoot at n → IsLive at n
  root_is_live n root = record { node = root.node; found = root.found }

  -- one way after another
  pub Climbs-append : (path more : List ℕ) (n m r : NodeId) → Climbs at path n m → Climbs at more m r → Climbs at (path ++ more) n r
  Climbs-append [] more n m r same rest = rw same rest
  Climbs-append (k ∷ path) more n m r climbs rest = (climbs.0, climbs.1, Climbs-append path more climbs.0 m r climbs.2 rest)

  -- the way to a root is the only one
  pub one_path : (path other : List ℕ) (n r s : NodeId) → IsRoot at r → IsRoot at s → Climbs at path n r → Climbs at other n s → (path ≡ other) × (r ≡ s)
  one_path [] [] n r s top bottom one two = (refl, sym one ∙ two)
  one_path [] (k ∷ other) n r s top bottom one two = absurd (root_is_no_child n two.0 k (rw one top) two.1)
  one_path (k ∷ path) [] n r s top bottom one two = absurd (root_is_no_child n one.0 k (rw two bottom) one.1)
  one_path (j ∷ path) (k ∷ other) n r s top bottom one two =
      let both = one_parent n one.0 two.0 j k one.1 two.1 in
      let rest : Climbs at other one.0 s = rw both.0 two.2 in
      let more = one_path path other one.0 r s top bottom one.2 rest in
      (let head : j ≡ k = both.1 in let tail : path ≡ other = more.0 in cc, more.1)

  -- no node stands below itself
  pub no_cycle : (k : ℕ) (path : List ℕ) (n : NodeId) → HasRoot at n → Climbs at (k ∷ path) n n → ⊥
  no_cycle k path n has round =
      let longer = Climbs-append (k ∷ path) has.path n n has.root round has.climbs in
      let same = one_path has.path ((k ∷ path) ++ has.path) n has.root has.root has.is_root has.is_root has.climbs longer in
      omega (arith, ap length same.0, length-append (k ∷ path) has.path)

  pub inside_itself : (n : NodeId) → IsInside at n n
  inside_itself n = record { path = []; climbs = refl }

  pub inside_append : (n m r : NodeId) → IsInside at n m → IsInside at m r → IsInside at n r
  inside_append n m r one two = record { path = one.path ++ two.path; climbs = Climbs-append one.path two.path n m r one.climbs two.climbs }

  -- what hangs on a node of the tree is in the tree
  pub inside_by_parent : (n p m : NodeId) (k : ℕ) → IsChild at n p k → IsInside at p m → IsInside at n m
  inside_by_parent n p m k child inside = record { path = k ∷ inside.path; climbs = (p, child, inside.climbs) }

  -- the parent of a node outside a tree is not its top
  pub top_is_no_parent : (n p m : NodeId) (k : ℕ) → IsChild at n p k → (IsInside at n m → ⊥) → p ≢ m
  top_is_no_parent n p m k child out e = out (inside_by_parent n p m k child (record { path = []; climbs = e }))

  -- a node in a tree is its top, or its parent is in the tree
  pub inside_cases : (n p m : NodeId) (k : ℕ) → IsChild at n p k → IsInside at n m → (n ≡ m) ⊎ IsInside at p m
  inside_cases n p m k child inside = by_path inside.path inside.climbs
    where
      by_path : (path : List ℕ) → Climbs at path n m → (n ≡ m) ⊎ IsInside at p m
      by_path [] same = inl same
      by_path (j ∷ path) climbs =
          let both = one_parent n climbs.0 p j k climbs.1 child in
          inr (record { path = path; climbs = rw both.0 at climbs.2 })

  -- a root is in no tree but its own
  pub root_inside : (n m : NodeId) → IsRoot at n → IsInside at n m → n ≡ m
  root_inside n m root inside = by_path inside.path inside.climbs
    where
      by_path : (path : List ℕ) → Climbs at path n m → n ≡ m
      by_path [] same = same
      by_path (j ∷ path) climbs = absurd (root_is_no_child n climbs.0 j root climbs.1)

  -- a node is in a tree, or not
  pub inside_or_not : (n m : NodeId) → HasRoot at n → IsInside at n m ⊎ (IsInside at n m → ⊥)
  inside_or_not n m has = by_path has.path n has.climbs
    where
      by_path : (path : List ℕ) (x : NodeId) → Climbs at path x has.root → IsInside at x m ⊎ (IsInside at x m → ⊥)
      by_path [] x climbs =
          elim (cases_id x m) [
            | inl e ↦ inl (record { path = []; climbs = e })
            | inr differs ↦ inr (λ inside. differs (root_inside x m (rw climbs has.is_root) inside))
          ]
      by_path (k ∷ path) x climbs =
          elim (cases_id x m) [
            | inl e ↦ inl (record { path = []; climbs = e })
            | inr differs ↦ elim (by_path path climbs.0 climbs.2) [
              | inl inside ↦ inl (inside_by_parent x climbs.0 m k climbs.1 inside)
              | inr out ↦ inr (λ inside. elim (inside_cases x climbs.0 m k climbs.1 inside) [ inl e ↦ differs e | inr above ↦ out above ])
            ]
          ]

  -- a parent is not below its child
  pub parent_outside : (n p : NodeId) (k : ℕ) → HasRoot at n → IsChild at n p k → IsInside at p n → ⊥
  parent_outside n p k has child inside = no_cycle k inside.path n has (p, child, inside.climbs)

  pub parent_differs : (n p : NodeId) (k : ℕ) → HasRoot at n → IsChild at n p k → p ≢ n
  parent_differs n p k has child same = parent_outside n p k has child (record { path = []; climbs = same })

module _ {L D : Type 0} (at : NodeId → Option (Node L D)) (linked : IsLinked at) where
  pub child_has_root : (n p : NodeId) (k : ℕ) → IsChild at n p k → HasRoot at n
  child_has_root n p k child = linked.rooted n (record { node = child.node; found = child.found })

  pub parent_is_live : (n p : NodeId) (k : ℕ) → IsChild at n p k → IsLive at p
  parent_is_live n p k child = let above = linked.upward p k n child in record { node = above.node; found = above.found }

  -- two children of one node have no node below both
  pub siblings_apart : (n x y p : NodeId) (j k : ℕ) → j ≢ k → IsChild at x p j → IsChild at y p k → IsInside at n x → IsInside at n y → ⊥
  siblings_apart n x y p j k differs x_child y_child in_x in_y =
      let has = linked.rooted p (parent_is_live x p j x_child) in
      let one = Climbs-append at in_x.path (j ∷ has.path) n x has.root in_x.climbs (p, x_child, has.climbs) in
      let two = Climbs-append at in_y.path (k ∷ has.path) n y has.root in_y.climbs (p, y_child, has.climbs) in
      let same = (one_path at (in_x.path ++ (j ∷ has.path)) (in_y.path ++ (k ∷ has.path)) n has.root has.root has.is_root has.is_root one two).0 in
      differs (same_middle in_x.path in_y.path has.path j k same)
    where
      same_middle : (a b rest : List ℕ) (j k : ℕ) → a ++ (j ∷ rest) ≡ b ++ (k ∷ rest) → j ≡ k
      same_middle [] [] rest j k e = cc
      same_middle [] (c ∷ b) rest j k e = absurd (omega (arith, ap length e, length-append b (k ∷ rest)))
      same_middle (c ∷ a) [] rest j k e = absurd (omega (arith, ap length e, length-append a (j ∷ rest)))
      same_middle (c ∷ a) (d ∷ b) rest j k e = same_middle a b rest j k (let tails : a ++ (j ∷ rest) ≡ b ++ (k ∷ rest) = cc in tails)
