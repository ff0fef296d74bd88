-- The walk that drops a tree: down by last children, and up where a node has none left.
use Rattle.std.proofs.Common.{◌≡◌, ◌≢◌, ◌-◌, ℕ, suc, List, [], ◌∷◌, length, Option, Some, None, refl, sym, ap, ◌∙◌, inl, inr, arith}
use Rattle.std.proofs.lemmas.Option.{slice_get_within}
use Rattle.std.specs.List.{slice_get}
use Rattle.sg_forest.specs.declared.node_id.NodeId.{NodeId}
use Rattle.sg_forest.specs.Node.{Node}
use Rattle.sg_forest.specs.Trees.{IsLive, IsRoot, IsChild, Lists, Climbs, IsInside, HasRoot, IsLinked}
use Rattle.sg_forest.specs.Steps.{IsDropped}
use Rattle.sg_forest.proofs.Paths.{cases_id, root_is_no_child, one_parent, one_path, root_inside, inside_append, inside_by_parent, inside_itself, parent_differs, parent_outside, child_has_root}
use Rattle.sg_forest.proofs.Unhung.{IsUnhung, kept_up, was_up, kept_root, kept_climbs, IsLinked-unhung}

module _ {L D : Type 0} (at : NodeId → Option (Node L D)) where
  -- the way up from n to r, on which each node is the last child
  abbrev pub ClimbsLast : List ℕ → NodeId → NodeId → Type 0
  ClimbsLast [] n r = n ≡ r
  ClimbsLast (k ∷ path) n r = (p : NodeId) × IsChild at n p k × ((x : Node L D) → at p ≡ Some x → length x.kids ≡ suc k) × ClimbsLast path p r

  pub Climbs-last : (path : List ℕ) (n r : NodeId) → ClimbsLast path n r → Climbs at path n r
  Climbs-last [] n r same = same
  Climbs-last (k ∷ path) n r climbs = (climbs.0, climbs.1, Climbs-last path climbs.0 r climbs.3)

  -- a way ends with a child of its top
  pub child_of_top : (k : ℕ) (path : List ℕ) (n r : NodeId) → Climbs at (k ∷ path) n r → (c : NodeId) × (j : ℕ) × IsChild at c r j
  child_of_top k [] n r climbs = (n, k, rw climbs.2 at climbs.1)
  child_of_top k (j ∷ path) n r climbs = child_of_top j path climbs.0 r climbs.2

module _ {L D : Type 0} (old now : NodeId → Option (Node L D)) (root at : NodeId) where
  -- where the walk stands: what is left are linked trees, and only nodes of the tree are gone
  pub record IsDropping : Type 0 where
    pub linked : IsLinked now
    pub top : IsRoot now root
    pub path : List ℕ
    pub climbs : ClimbsLast now path at root
    pub ups : (n : NodeId) (y : Node L D) → now n ≡ Some y → (x : Node L D) × (old n ≡ Some x) × (y.up ≡ x.up)
    pub outside : (n : NodeId) → (IsInside old n root → ⊥) → now n ≡ old n

module _ {L D : Type 0} (old : NodeId → Option (Node L D)) (root : NodeId) where
  pub IsDropping-start : IsLinked old → IsRoot old root → IsDropping old old root root
  IsDropping-start linked top = record {
    linked = linked;
    top = top;
    path = [];
    climbs = refl;
    ups = λ n y found. (y, found, refl);
    outside = λ n _. refl;
  }

  module _ (now : NodeId → Option (Node L D)) (at : NodeId) (dropping : IsDropping old now root at) where
    pub live_here : IsLive now at
    live_here = by_path dropping.path dropping.climbs
      where
        by_path : (path : List ℕ) → ClimbsLast now path at root → IsLive now at
        by_path [] same = let top = dropping.top in rw same (let w : IsLive now root = record { node = top.node; found = top.found } in w)
        by_path (k ∷ path) climbs = record { node = climbs.1.node; found = climbs.1.found }

    -- a step down, to the last child
    pub IsDropping-down : (x : Node L D) (kid : NodeId) → now at ≡ Some x → slice_get x.kids (length x.kids - 1) ≡ Some kid → IsDropping old now root kid
    IsDropping-down x kid found last = record {
      linked = dropping.linked;
      top = dropping.top;
      path = (length x.kids - 1) ∷ dropping.path;
      climbs = (
        at,
        (let lists : Lists now at (length x.kids - 1) kid = record { node = x; found = found; lists = last } in dropping.linked.down at (length x.kids - 1) kid lists),
        (λ y there.
            let same : y ≡ x = cc (found, there) in
            let within = slice_get_within x.kids (length x.kids - 1) kid last in
            omega (arith, within, ap (λ z. length z.kids) same)),
        dropping.climbs,
      );
      ups = dropping.ups;
      outside = dropping.outside;
    }

    pub was_child : (n p : NodeId) (k : ℕ) → IsChild now n p k → IsChild old n p k
    was_child n p k child = let was = dropping.ups n child.node child.found in record { node = was.0; found = was.1; hangs = sym was.2 ∙ child.hangs }

    pub was_climbs : (path : List ℕ) (n r : NodeId) → Climbs now path n r → Climbs old path n r
    was_climbs [] n r same = same
    was_climbs (k ∷ path) n r climbs = (climbs.0, was_child n climbs.0 k climbs.1, was_climbs path climbs.0 r climbs.2)

    pub was_root : (n : NodeId) → IsRoot now n → IsRoot old n
    was_root n top = let was = dropping.ups n top.node top.found in record { node = was.0; found = was.1; top = sym was.2 ∙ top.top }

    at_inside : IsInside old at root
    at_inside = record { path = dropping.path; climbs = was_climbs dropping.path at root (Climbs-last now dropping.path at root dropping.climbs) }

    -- a step up: the leaf is taken out, and its parent is next
    module _ (new : NodeId → Option (Node L D)) (p : NodeId) (k : ℕ) (leaf : (j : ℕ) (c : NodeId) → Lists now at j c → ⊥) (child : IsChild now at p k)
        (unhung : IsUnhung now new at p) where
      record Rest : Type 0 where
        path : List ℕ
        last : (x : Node L D) → now p ≡ Some x → length x.kids ≡ suc k
        climbs : ClimbsLast now path p root

      rest : Rest
      rest = by_path dropping.path dropping.climbs
        where
          by_path : (path : List ℕ) → ClimbsLast now path at root → Rest
          by_path [] same = absurd (root_is_no_child now at p k (rw same dropping.top) child)
          by_path (j ∷ path) climbs =
              let one = one_parent now at climbs.0 p j k climbs.1 child in
              record { path = path; last = rw (one.0, one.1) at climbs.2; climbs = rw one.0 at climbs.3 }

      pub linked_now : IsLinked new
      linked_now = IsLinked-unhung now new at p k dropping.linked child leaf rest.last unhung

      -- above the parent nothing changes
      climbs_on : (path : List ℕ) (n : NodeId) → n ≢ at → IsInside now p n → ClimbsLast now path n root → ClimbsLast new path n root
      climbs_on [] n differs inside same = same
      climbs_on (j ∷ path) n differs inside climbs =
          let q = climbs.0 in
          let not_at : q ≢ at = λ e. leaf j n (rw e at (dropping.linked.upward q j n climbs.1)) in
          let not_p : q ≢ p = λ e.
          let back : IsInside now q n = rw e inside in
          parent_outside now n q j (child_has_root now dropping.linked n q j climbs.1) climbs.1 back in (
            q,
            (let after = kept_up now new at p k dropping.linked child leaf rest.last unhung n climbs.1.node differs climbs.1.found in
                let w : IsChild new n q j = record { node = after.0; found = after.1; hangs = after.2 ∙ climbs.1.hangs } in w),
            (λ x found. climbs.2 x (sym (unhung.others q not_at not_p) ∙ found)),
            climbs_on path q not_at (inside_append now p n q inside (inside_by_parent now n q q j climbs.1 (inside_itself now q))) climbs.3,
          )

      -- the way up from the parent stays
      pub HasRoot-up : (has : HasRoot now p) → IsRoot new has.root × Climbs new has.path p has.root
      HasRoot-up has =
          let differs = parent_differs now at p k (child_has_root now dropping.linked at p k child) child in (
            kept_root now new at p k dropping.linked child leaf rest.last unhung has.root has.is_root,
            kept_climbs now new at p k dropping.linked child leaf rest.last unhung has.path p has.root differs has.climbs,
          )

      pub IsDropping-up : IsDropping old new root p
      IsDropping-up =
          let differs = parent_differs now at p k (child_has_root now dropping.linked at p k child) child in
          record {
            linked = linked_now;
            top = kept_root now new at p k dropping.linked child leaf rest.last unhung root dropping.top;
            path = rest.path;
            climbs = climbs_on rest.path p differs (inside_itself now p) rest.climbs;
            ups = λ n y found.
                let mid = was_up now new at p k dropping.linked child leaf rest.last unhung n y found in
                let was = dropping.ups n mid.0 mid.1 in
                (was.0, was.1, mid.2 ∙ was.2);
            outside = λ n out.
                let not_at : n ≢ at = λ e. out (rw e at_inside) in
                let not_p : n ≢ p = λ e. out (rw e p_inside) in
                unhung.others n not_at not_p ∙ dropping.outside n out;
          }
        where
          p_inside : IsInside old p root
          p_inside =
              let up = Climbs-last now rest.path p root rest.climbs in
              record { path = rest.path; climbs = was_climbs rest.path p root up }

    -- the last step: the root is taken out
    module _ (new : NodeId → Option (Node L D)) (linked : IsLinked old) (leaf : (j : ℕ) (c : NodeId) → Lists now at j c → ⊥) (alone : IsRoot now at)
        (gone : new at ≡ None) (others : (n : NodeId) → n ≢ at → new n ≡ now n) where
      at_is_root : at ≡ root
      at_is_root = root_inside now at root alone (record { path = dropping.path; climbs = Climbs-last now dropping.path at root dropping.climbs })

      pub IsDropped-last : IsDropped old new root
      IsDropped-last = record {
        gone = λ n inside.
            elim (cases_id n at) [
              | inl e ↦ rw e gone
              | inr differs ↦ others n differs ∙ by_slot n differs inside (now n) refl
            ];
        others = λ n out. others n (λ e. out (rw e at_inside)) ∙ dropping.outside n out;
      }
        where
          no_one : (n : NodeId) → n ≢ at → IsInside old n root → IsLive now n → ⊥
          no_one n differs inside live =
              let has = dropping.linked.rooted n live in
              let climbs = was_climbs has.path n has.root has.climbs in
              let is_root = (one_path old has.path inside.path n has.root root (was_root has.root has.is_root) (was_root root dropping.top) climbs inside.climbs).1 in
              by_path has.path (rw is_root at has.climbs)
            where
              by_path : (path : List ℕ) → Climbs now path n root → ⊥
              by_path [] same = differs (same ∙ sym at_is_root)
              by_path (k ∷ path) climbs =
                  let under = child_of_top now k path n root climbs in
                  leaf under.1 under.0 (dropping.linked.upward at under.1 under.0 (rw at_is_root under.2))

          by_slot : (n : NodeId) → n ≢ at → IsInside old n root → (slot : Option (Node L D)) → now n ≡ slot → now n ≡ None
          by_slot n differs inside None e = e
          by_slot n differs inside (Some y) e = absurd (no_one n differs inside (record { node = y; found = e }))
