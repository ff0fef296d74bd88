-- What the steps do to the trees that stand under nodes.
use Rattle.std.proofs.Common.{◌≡◌, ◌≢◌, ◌↔◌, subst, ℕ, List, [], ◌∷◌, set, Option, Some, None, refl, sym, ap, ◌∙◌, inl, inr}
use Rattle.std.specs.List.{slice_get}
use Rattle.sg_forest.specs.declared.node_id.NodeId.{NodeId}
use Rattle.sg_forest.specs.Node.{Node}
use Rattle.sg_forest.specs.Trees.{IsLive, IsRoot, IsChild, Lists, Climbs, IsInside, IsLinked, IsForest}
use Rattle.sg_forest.specs.Tree.{Tree, Row, node, Shows, Stands, StandAll, changed_kid, with_part, KeepsTrees, KeepsTreesWithout, KeepsTreesNotOver, KeepsTreesOutside, ChangesTrees, ReplacesTrees, GrowsTree, KeepsWays, KeepsWaysWithin, KeepsWaysOutside}
use Rattle.sg_forest.specs.Steps.{IsPartSet, IsSwapped, IsRootMade, IsDropped, SameSort, KeepsParts, KeepsKids}
use Rattle.sg_forest.proofs.Paths.{root_inside, root_or_child, one_parent, parent_outside, child_has_root, inside_by_parent, inside_append, inside_itself}
use Rattle.sg_forest.proofs.Standing.{Stands-kept, StandAll-kept, StandAll-set, Stands-apart, StandAll-below, Stands-changed}
use Rattle.sg_forest.proofs.Swapped as swap
use Rattle.sg_forest.proofs.Grown as grow
use Rattle.sg_forest.proofs.Dropped as drop

module _ {L D : Type 0} (old new : NodeId → Option (Node L D)) where
  pub KeepsTrees-kids : KeepsKids old new → KeepsTrees old new
  KeepsTrees-kids keeps m t stands = Stands-kept old new (λ _. Unit {0}) (λ n x _ found. keeps.kept n x found) (λ _ _ _ _ _. tt) t m tt stands

  pub StandAll-kids : KeepsKids old new → (ts : Row L D) (ids : List NodeId) → StandAll old ids ts → StandAll new ids ts
  StandAll-kids keeps ts ids all = StandAll-kept old new (λ _. Unit {0}) (λ n x _ found. keeps.kept n x found) (λ _ _ _ _ _. tt) ts ids (λ _ _ _. tt) all

module _ {L D : Type 0} (old new : NodeId → Option (Node L D)) (linked : IsLinked old) (a : NodeId) (part : D) (set : IsPartSet old new a part) where
  kept : (n : NodeId) (x : Node L D) → n ≢ a → old n ≡ Some x → (y : Node L D) × (new n ≡ Some y) × (y.label ≡ x.label) × (y.part ≡ x.part) × (y.kids ≡ x.kids)
  kept n x differs found = (x, set.others n differs ∙ found, refl, refl, refl)

  pub KeepsTreesWithout-part_set : KeepsTreesWithout old new a
  KeepsTreesWithout-part_set m t out stands = Stands-apart old new linked a kept m out t stands

  here : (t : Tree L D) → Stands old a t → Stands new a (with_part part t)
  here (node label was ts) stands =
      let shows = stands.1 in
      let now : Shows new a label part stands.0 = record { node = record shows.node { part = part }; found = set.changed shows.node shows.found; has_label = shows.has_label; has_part = refl; has_kids = shows.has_kids } in
      (stands.0, now, StandAll-below old new linked a kept ts label was stands.0 shows stands.2)

  pub ChangesTrees-part_set : ChangesTrees old new a (with_part part)
  ChangesTrees-part_set path m t climbs stands = Stands-changed old new linked a kept path a m (with_part part) (inside_itself old a) climbs here t stands

module _ {L D : Type 0} (old new : NodeId → Option (Node L D)) (a d p : NodeId) (k : ℕ)
    (linked : IsLinked old) (child : IsChild old a p k) (root : IsRoot old d) (apart : IsInside old a d → ⊥)
    (swapped : IsSwapped old new a d p k) where
  kept_but_parent : (n : NodeId) (x : Node L D) → n ≢ p → old n ≡ Some x → (y : Node L D) × (new n ≡ Some y) × (y.label ≡ x.label) × (y.part ≡ x.part) × (y.kids ≡ x.kids)
  kept_but_parent n x differs found =
      let now = swap.after old new a d p k linked child root apart swapped n x found in
      (now.0, now.1, now.2.label, now.2.part, now.2.kids differs)

  pub KeepsTreesNotOver-swapped : KeepsTreesNotOver old new a
  KeepsTreesNotOver-swapped m t out stands =
      Stands-apart old new linked p kept_but_parent m (λ inside. out (record { place = k; path = inside.path; climbs = (p, child, inside.climbs) })) t stands

  detached_stands : (u : Tree L D) → Stands old d u → Stands new d u
  detached_stands u stands =
      Stands-apart old new linked p kept_but_parent d (λ inside. apart (inside_by_parent old a p d k child inside)) u stands

  at_parent : (u : Tree L D) → Stands old d u → (t : Tree L D) → Stands old p t → Stands new p (changed_kid k (λ _. u) t)
  at_parent u under (node label part ts) stands =
      let shows = stands.1 in
      let kids = stands.0 in
      let now : Shows new p label part (set kids k d) = record {
        node = record shows.node { kids = set shows.node.kids k d };
        found = swapped.listed shows.node shows.found;
        has_label = shows.has_label;
        has_part = shows.has_part;
        has_kids = ap (λ ids. set ids k d) shows.has_kids;
      } in
      let row = StandAll-set old new ts kids k d (λ _. u)
      (λ j c lists differs below stands_below.
      let listed : Lists old p j c = record { node = shows.node; found = shows.found; lists = ap (λ ids. slice_get ids j) shows.has_kids ∙ lists } in
      let under_p = linked.down p j c listed in
      Stands-apart old new linked p kept_but_parent c (parent_outside old c p j (child_has_root old linked c p j under_p) under_p) below stands_below)
      (λ c lists below stands_below. detached_stands u under)
      stands.2 in
      (set kids k d, now, row)

  pub ReplacesTrees-swapped : ReplacesTrees old new a d
  ReplacesTrees-swapped j path m t u climbs stands under =
      let one = one_parent old a climbs.0 p j k climbs.1 child in
      let from_p : Climbs old path p m = rw one.0 at climbs.2 in
      rw one.1 (Stands-changed old new linked p kept_but_parent path p m (changed_kid k (λ _. u)) (inside_itself old p) from_p (at_parent u under) t stands)

  pub KeepsWaysWithin-swapped : KeepsWaysWithin old new a
  KeepsWaysWithin-swapped [] n m within same = same
  KeepsWaysWithin-swapped (j ∷ path) n m within climbs =
      let q = climbs.0 in
      let up : IsInside old n q = inside_by_parent old n q q j climbs.1 (inside_itself old q) in
      let not_a : n ≢ a = λ e.
      let top = within (rw e (inside_itself old a)) in
      let as_a = rw e at climbs.1 in
      parent_outside old a q j (child_has_root old linked a q j as_a) as_a
      (inside_append old q m a (record { path = path; climbs = climbs.2 }) top) in (
        q,
        swap.kept_child old new a d p k linked child root apart swapped n q j climbs.1 not_a,
        KeepsWaysWithin-swapped path q m (λ inside. within (inside_append old n q a up inside)) climbs.2,
      )

  -- below the hung root nothing moves
  pub ways_below : (path : List ℕ) (n : NodeId) → Climbs old path n d → Climbs new path n d
  ways_below [] n same = same
  ways_below (j ∷ path) n climbs =
      let not_a : n ≢ a = λ e. apart (rw e at (let w : IsInside old n d = record { path = j ∷ path; climbs = climbs } in w)) in
      (climbs.0, swap.kept_child old new a d p k linked child root apart swapped n climbs.0 j climbs.1 not_a, ways_below path climbs.0 climbs.2)

  -- a way up from the freed node is one from the hung root
  pub ways_over : (j : ℕ) (path : List ℕ) (m : NodeId) → Climbs old (j ∷ path) a m → Climbs new (j ∷ path) d m
  ways_over j path m climbs =
      let one = one_parent old a p climbs.0 k j child climbs.1 in
      let hung : IsChild new d climbs.0 j = rw (one.0, one.1) at (swap.placed_child old new a d p k linked child root apart swapped) in
      let out : IsInside old climbs.0 a → ⊥ = parent_outside old a climbs.0 j (child_has_root old linked a climbs.0 j climbs.1) climbs.1 in
      (climbs.0, hung, KeepsWaysWithin-swapped path climbs.0 m (λ inside. absurd (out inside)) climbs.2)

module _ {L D : Type 0} (old new : NodeId → Option (Node L D)) (label : L) (part : D) (kids : List NodeId) (id : NodeId)
    (linked : IsLinked old) (roots : (k : ℕ) (kid : NodeId) → slice_get kids k ≡ Some kid → IsRoot old kid)
    (grown : IsRootMade old new label part kids id) where
  pub GrowsTree-grown : GrowsTree old new label part kids id
  GrowsTree-grown ts all = (
    kids,
    record { node = record { label = label; part = part; up = None; kids = kids }; found = grown.root; has_label = refl; has_part = refl; has_kids = refl },
    StandAll-kids old new (grow.KeepsKids-grown old new label part kids id linked roots grown) ts kids all,
  )

  pub KeepsWays-grown : KeepsWays old new
  KeepsWays-grown [] n m same = same
  KeepsWays-grown (k ∷ path) n m climbs = (climbs.0, grow.kept_child old new label part kids id linked roots grown n climbs.0 k climbs.1, KeepsWays-grown path climbs.0 m climbs.2)

module _ {L D : Type 0} (old new : NodeId → Option (Node L D)) (root : NodeId)
    (linked : IsLinked old) (top : IsRoot old root) (dropped : IsDropped old new root) where
  pub KeepsTreesOutside-dropped : KeepsTreesOutside old new root
  KeepsTreesOutside-dropped m t out stands =
      Stands-kept old new (λ n. IsInside old n root → ⊥)
      (λ n x outside found. (x, dropped.others n outside ∙ found, refl, refl, refl))
      (λ p k n outside lists. drop.out_down old new root linked top dropped n p k (linked.down p k n lists) outside)
      t m out stands

  pub KeepsWaysOutside-dropped : KeepsWaysOutside old new root
  KeepsWaysOutside-dropped path n m out climbs = drop.kept_climbs old new root linked top dropped path n m out climbs

  pub kept_root : (n : NodeId) → IsRoot old n → n ≢ root → IsRoot new n
  kept_root n is differs = record { node = is.node; found = dropped.others n (λ inside. differs (root_inside old n root is inside)) ∙ is.found; top = is.top }

  pub was_root : (n : NodeId) → IsRoot new n → IsRoot old n × (n ≢ root)
  was_root n is =
      let was = drop.left old new root linked top dropped n is.node is.found in
      (record { node = is.node; found = was.0; top = is.top }, λ e. was.1 (rw e (inside_itself old root)))

  pub same_roots_dropped : (n : NodeId) → IsRoot new n ↔ IsRoot old n × (n ≢ root)
  same_roots_dropped n = (λ is. was_root n is, λ was. kept_root n was.0 was.1)

-- where nothing changed
module _ {L D : Type 0} (at : NodeId → Option (Node L D)) where
  pub KeepsKids-same : KeepsKids at at
  KeepsKids-same = record { kept = λ n x found. (x, found, refl, refl, refl) }

-- a swap, whether its node hangs or is a root
module _ {L D : Type 0} (old new : NodeId → Option (Node L D)) (a d : NodeId)
    (linked : IsLinked old) (live : IsLive old a) (root : IsRoot old d) (apart : IsInside old a d → ⊥)
    (swapped : (p : NodeId) (k : ℕ) → IsChild old a p k → IsSwapped old new a d p k) (unchanged : IsRoot old a → new ≡ old) where
  -- what holds after each swap of a child, and where nothing changed, holds after a swap
  either : (P : (NodeId → Option (Node L D)) → Type 0) → ((p : NodeId) (k : ℕ) → IsChild old a p k → P new) → (IsRoot old a → P old) → P new
  either P moved same =
      elim (root_or_child old a live) [
        | inl top ↦ subst P (sym (unchanged top)) (same top)
        | inr child ↦ moved child.0 child.1 child.2
      ]

  pub KeepsParts-swap : KeepsParts old new
  KeepsParts-swap =
      either (λ f. KeepsParts old f)
      (λ p k child. record { kept = λ n x found. let now = swap.after old new a d p k linked child root apart (swapped p k child) n x found in (now.0, now.1, now.2.label, now.2.part) })
      (λ _. record { kept = λ n x found. (x, found, refl, refl) })

  pub ReplacesTrees-swap : ReplacesTrees old new a d
  ReplacesTrees-swap k path m t u climbs stands under =
      ReplacesTrees-swapped old new a d climbs.0 k linked climbs.1 root apart (swapped climbs.0 k climbs.1) k path m t u climbs stands under

  pub KeepsTreesNotOver-swap : KeepsTreesNotOver old new a
  KeepsTreesNotOver-swap =
      either (λ f. KeepsTreesNotOver old f a)
      (λ p k child. KeepsTreesNotOver-swapped old new a d p k linked child root apart (swapped p k child))
      (λ _ m t _ stands. stands)

  pub freed_root : IsRoot new a
  freed_root =
      either (λ f. IsRoot f a)
      (λ p k child. swap.freed_root old new a d p k linked child root apart (swapped p k child))
      (λ top. top)

  pub placed_child : (p : NodeId) (k : ℕ) → IsChild old a p k → IsChild new d p k
  placed_child p k child = swap.placed_child old new a d p k linked child root apart (swapped p k child)

  pub same_roots : (n : NodeId) → n ≢ a → n ≢ d → IsRoot new n ↔ IsRoot old n
  same_roots n not_a not_d =
      either (λ f. IsRoot f n ↔ IsRoot old n)
      (λ p k child. (λ is. swap.was_root old new a d p k linked child root apart (swapped p k child) n is not_a, λ was. swap.kept_root old new a d p k linked child root apart (swapped p k child) n was not_d))
      (λ _. (λ is. is, λ was. was))

  pub KeepsWaysWithin-swap : KeepsWaysWithin old new a
  KeepsWaysWithin-swap =
      either (λ f. KeepsWaysWithin old f a)
      (λ p k child. KeepsWaysWithin-swapped old new a d p k linked child root apart (swapped p k child))
      (λ _ path n m _ climbs. climbs)

  pub ways_below_detached : (path : List ℕ) (n : NodeId) → Climbs old path n d → Climbs new path n d
  ways_below_detached path n =
      either (λ f. Climbs old path n d → Climbs f path n d)
      (λ p k child. ways_below old new a d p k linked child root apart (swapped p k child) path n)
      (λ _ climbs. climbs)

  pub ways_over_at : (k : ℕ) (path : List ℕ) (m : NodeId) → Climbs old (k ∷ path) a m → Climbs new (k ∷ path) d m
  ways_over_at k path m climbs = ways_over old new a d climbs.0 k linked climbs.1 root apart (swapped climbs.0 k climbs.1) k path m climbs

  pub IsForest-swap : (arity sort : L → ℕ) (kid_sort : L → ℕ → ℕ) → IsForest arity sort kid_sort old → SameSort sort old a d → IsForest arity sort kid_sort new
  IsForest-swap arity sort kid_sort forest sorts =
      either (λ f. IsForest arity sort kid_sort f)
      (λ p k child. swap.IsForest-swapped old new a d p k linked child root apart (swapped p k child) arity sort kid_sort forest sorts)
      (λ _. forest)
