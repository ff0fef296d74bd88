-- A swap keeps a forest.
use Rattle.std.proofs.Common.{◌≡◌, ◌≢◌, ◌⊎◌, ℕ, length, set, Option, Some, None, refl, sym, ap, ◌∙◌, inl, inr}
use Rattle.std.proofs.lemmas.Bool.{cases_eq}
use Rattle.std.proofs.lemmas.List.{length-set}
use Rattle.std.proofs.lemmas.Option.{slice_get_within}
use Rattle.std.specs.List.{slice_get}
use Rattle.sg_forest.specs.declared.node_id.NodeId.{NodeId}
use Rattle.sg_forest.specs.Node.{Node}
use Rattle.sg_forest.specs.Trees.{IsLive, IsRoot, IsChild, Lists, IsInside, HasRoot, IsLinked, IsForest}
use Rattle.sg_forest.specs.Steps.{IsSwapped, SameSort}
use Rattle.sg_forest.proofs.Paths.{cases_id, root_is_no_child, one_parent, one_kid, root_or_child, root_inside, parent_differs, parent_is_live, child_has_root, inside_itself, inside_by_parent}
use Rattle.sg_forest.proofs.Moves.{slice_get-set_same, slice_get-set_other, HasRoot-child, StaysHung, as_root, as_child, as_placed, HasRoot-stays, was_of}

module _ {L D : Type 0} (old new : NodeId → Option (Node L D)) (a d p : NodeId) (k : ℕ)
    (linked : IsLinked old) (child : IsChild old a p k) (root : IsRoot old d) (apart : IsInside old a d → ⊥)
    (swapped : IsSwapped old new a d p k) where
  pub parent : Lists old p k a
  parent = linked.upward p k a child

  pub d_is_not_a : d ≢ a
  d_is_not_a e = root_is_no_child old d p k root (rw (← e) at child)

  pub p_is_not_d : p ≢ d
  p_is_not_d e = apart (inside_by_parent old a p d k child (rw e (inside_itself old d)))

  pub p_is_not_a : p ≢ a
  p_is_not_a = parent_differs old a p k (child_has_root old linked a p k child) child

  -- what a node becomes: its label and part stay, its place and its children mostly
  pub record IsMoved (n : NodeId) (x y : Node L D) : Type 0 where
    pub label : y.label ≡ x.label
    pub part : y.part ≡ x.part
    pub up : n ≢ a → n ≢ d → y.up ≡ x.up
    pub kids : n ≢ p → y.kids ≡ x.kids
    pub count : length y.kids ≡ length x.kids

  pub after : (n : NodeId) (x : Node L D) → old n ≡ Some x → (y : Node L D) × (new n ≡ Some y) × IsMoved n x y
  after n x found =
      elim (cases_id n a) [
        | inl e ↦ (record x { up = None }, ap new e ∙ swapped.freed x (ap old (sym e) ∙ found), record { label = refl; part = refl; up = λ differs _. absurd (differs e); kids = λ _. refl; count = refl })
        | inr not_a ↦ elim (cases_id n d) [
          | inl e ↦ (record x { up = Some (p, k) }, ap new e ∙ swapped.placed x (ap old (sym e) ∙ found), record { label = refl; part = refl; up = λ _ differs. absurd (differs e); kids = λ _. refl; count = refl })
          | inr not_d ↦ elim (cases_id n p) [
            | inl e ↦ (record x { kids = set x.kids k d }, ap new e ∙ swapped.listed x (ap old (sym e) ∙ found), record { label = refl; part = refl; up = λ _ _. refl; kids = λ differs. absurd (differs e); count = length-set x.kids k d })
            | inr not_p ↦ (x, swapped.others n not_a not_d not_p ∙ found, record { label = refl; part = refl; up = λ _ _. refl; kids = λ _. refl; count = refl })
          ]
        ]
      ]

  pub dead : (n : NodeId) → old n ≡ None → new n ≡ None
  dead n none =
      swapped.others n
      (λ e. let there = ap old (sym e) ∙ none in cc (there, child.found))
      (λ e. let there = ap old (sym e) ∙ none in cc (there, root.found))
      (λ e. let there = ap old (sym e) ∙ none in cc (there, parent.found)) ∙ none

  pub before : (n : NodeId) (y : Node L D) → new n ≡ Some y → (x : Node L D) × (old n ≡ Some x) × IsMoved n x y
  before = was_of old new IsMoved after dead

  pub freed_root : IsRoot new a
  freed_root = record { node = record child.node { up = None }; found = swapped.freed child.node child.found; top = refl }

  pub placed_child : IsChild new d p k
  placed_child = record { node = record root.node { up = Some (p, k) }; found = swapped.placed root.node root.found; hangs = refl }

  pub placed_lists : Lists new p k d
  placed_lists = record {
    node = record parent.node { kids = set parent.node.kids k d };
    found = swapped.listed parent.node parent.found;
    lists = slice_get-set_same parent.node.kids k d (slice_get_within parent.node.kids k a parent.lists);
  }

  child_is_not_d : (n q : NodeId) (j : ℕ) → IsChild old n q j → n ≢ d
  child_is_not_d n q j below e = root_is_no_child old d q j root (rw e at below)

  pub kept_child : (n q : NodeId) (j : ℕ) → IsChild old n q j → n ≢ a → IsChild new n q j
  kept_child n q j below not_a =
      let now = after n below.node below.found in
      record { node = now.0; found = now.1; hangs = now.2.up not_a (child_is_not_d n q j below) ∙ below.hangs }

  pub kept_root : (n : NodeId) → IsRoot old n → n ≢ d → IsRoot new n
  kept_root n top not_d =
      let not_a : n ≢ a = λ e. root_is_no_child old a p k (rw e at top) child in
      let now = after n top.node top.found in
      record { node = now.0; found = now.1; top = now.2.up not_a not_d ∙ top.top }

  pub was_root : (n : NodeId) → IsRoot new n → n ≢ a → IsRoot old n
  was_root n top not_a =
      let not_d : n ≢ d = λ e. root_is_no_child new d p k (rw e at top) placed_child in
      let was = before n top.node top.found in
      record { node = was.0; found = was.1; top = sym (was.2.up not_a not_d) ∙ top.top }

  -- a link is the new one, or was there
  pub was_child : (n q : NodeId) (j : ℕ) → IsChild new n q j → ((n ≡ d) × (q ≡ p) × (j ≡ k)) ⊎ ((n ≢ a) × IsChild old n q j)
  was_child n q j below =
      elim (cases_id n a) [
        | inl e ↦ absurd (root_is_no_child new a q j freed_root (rw e at below))
        | inr not_a ↦ elim (cases_id n d) [
          | inl e ↦ let one = one_parent new d q p j k (rw e at below) placed_child in inl (e, one.0, one.1)
          | inr not_d ↦
              let was = before n below.node below.found in
              inr (not_a, record { node = was.0; found = was.1; hangs = sym (was.2.up not_a not_d) ∙ below.hangs })
        ]
      ]

  pub kept_lists : (q : NodeId) (j : ℕ) (n : NodeId) → Lists old q j n → (q ≡ p → j ≡ k → ⊥) → Lists new q j n
  kept_lists q j n above elsewhere =
      elim (cases_id q p) [
        | inl e ↦ record {
          node = record above.node { kids = set above.node.kids k d };
          found = ap new e ∙ swapped.listed above.node (ap old (sym e) ∙ above.found);
          lists = slice_get-set_other above.node.kids k j d (elsewhere e) ∙ above.lists;
        }
        | inr not_p ↦
            let now = after q above.node above.found in
            record { node = now.0; found = now.1; lists = ap (λ ids. slice_get ids j) (now.2.kids not_p) ∙ above.lists }
      ]

  pub was_listed : (q : NodeId) (j : ℕ) (n : NodeId) → Lists new q j n → ((q ≡ p) × (j ≡ k) × (n ≡ d)) ⊎ ((q ≡ p → j ≡ k → ⊥) × Lists old q j n)
  was_listed q j n above =
      elim (cases_id q p) [
        | inl e ↦ elim (cases_eq j k) [
          | inl f ↦
              let here : Lists new p k n = rw (e, f) at above in
              inl (e, f, one_kid new p n d k here placed_lists)
          | inr differs ↦
              let is : above.node ≡ record parent.node { kids = set parent.node.kids k d } =
              let there = ap new (sym e) ∙ above.found in cc (there, swapped.listed parent.node parent.found) in
              let lists = sym (slice_get-set_other parent.node.kids k j d differs) ∙ ap (λ y. slice_get y.kids j) (sym is) ∙ above.lists in
              inr (λ _ f. differs f, record { node = parent.node; found = ap old e ∙ parent.found; lists = lists })
        ]
        | inr not_p ↦
            let was = before q above.node above.found in
            inr (λ f _. not_p f, record { node = was.0; found = was.1; lists = ap (λ ids. slice_get ids j) (sym (was.2.kids not_p)) ∙ above.lists })
      ]

  live_before : (n : NodeId) → IsLive new n → IsLive old n
  live_before n live = let was = before n live.node live.found in record { node = was.0; found = was.1 }

  live_after : (n : NodeId) → IsLive old n → IsLive new n
  live_after n live = let now = after n live.node live.found in record { node = now.0; found = now.1 }

  stays : (n : NodeId) → (n ≡ d → HasRoot new n) → IsLive new n → StaysHung old new n
  stays n placed live =
      elim (cases_id n a) [
        | inl e ↦ as_root (rw e freed_root)
        | inr not_a ↦ elim (cases_id n d) [
          | inl e ↦ as_placed (placed e)
          | inr not_d ↦ elim (root_or_child old n (live_before n live)) [
            | inl top ↦ as_root (kept_root n top not_d)
            | inr below ↦ as_child below.0 below.1 below.2 (kept_child n below.0 below.1 below.2 not_a) (live_after below.0 (parent_is_live old linked n below.0 below.1 below.2))
          ]
        ]
      ]

  outside : (n : NodeId) (has : HasRoot old n) → has.root ≢ d → IsLive new n → HasRoot new n
  outside n has differs live =
      HasRoot-stays old new has.root has.is_root
      (λ m inside. stays m (λ e. absurd (differs (sym (root_inside old d has.root root (rw e at inside))))))
      has.path n has.climbs live

  -- the parent hangs where it hung
  parent_has_root : HasRoot new p
  parent_has_root =
      let has = linked.rooted p (parent_is_live old linked a p k child) in
      outside p has
      (λ e. let inside : IsInside old p d = rw e at (let w : IsInside old p has.root = record { path = has.path; climbs = has.climbs } in w) in apart (inside_by_parent old a p d k child inside))
      (live_after p (parent_is_live old linked a p k child))

  pub IsLinked-swapped : IsLinked new
  IsLinked-swapped = record {
    down = λ q j n lists.
        elim (was_listed q j n lists) [
          | inl is ↦ rw (is.0, is.1, is.2) placed_child
          | inr was ↦
              let below = linked.down q j n was.1 in
              kept_child n q j below (λ e. let one = one_parent old a q p j k (rw e at below) child in was.0 one.0 one.1)
        ];
    upward = λ q j n below.
        elim (was_child n q j below) [
          | inl is ↦ rw (is.0, is.1, is.2) placed_lists
          | inr was ↦
              let above = linked.upward q j n was.1 in
              kept_lists q j n above (λ e f. was.0 (one_kid old p n a k (rw (e, f) at above) parent))
        ];
    rooted = λ n live.
        let has = linked.rooted n (live_before n live) in
        elim (cases_id has.root d) [
          | inr differs ↦ outside n has differs live
          | inl e ↦ HasRoot-stays old new has.root has.is_root
              (λ m inside. stays m (λ is. rw is (HasRoot-child new d p k placed_child parent_has_root)))
              has.path n has.climbs live
        ];
  }

  pub IsForest-swapped : (arity sort : L → ℕ) (kid_sort : L → ℕ → ℕ) → IsForest arity sort kid_sort old → SameSort sort old a d → IsForest arity sort kid_sort new
  IsForest-swapped arity sort kid_sort forest same_sort = record {
    linked = IsLinked-swapped;
    arities = λ n y found.
        let was = before n y found in
        was.2.count ∙ forest.arities n was.0 was.1 ∙ ap arity (sym was.2.label);
    sorts = λ q j n x y found lists below.
        let was = before q x found in
        let was_kid = before n y below in
        elim (was_listed q j n (record { node = x; found = found; lists = lists })) [
          | inl is ↦
              let sorts = forest.sorts p k a parent.node child.node parent.found parent.lists child.found in
              let swap = same_sort child.node root.node child.found root.found in
              let kid_is : was_kid.0 ≡ root.node = let there = ap old (sym is.2) ∙ was_kid.1 in cc (there, root.found) in
              let parent_is : was.0 ≡ parent.node = let there = ap old (sym is.0) ∙ was.1 in cc (there, parent.found) in
              ap sort (was_kid.2.label ∙ ap (λ z. z.label) kid_is) ∙ sym swap ∙ sorts ∙ ap (λ i. kid_sort parent.node.label i) (sym is.1) ∙ ap (λ l. kid_sort l j) (sym (was.2.label ∙ ap (λ z. z.label) parent_is))
          | inr there ↦
              let above = there.1 in
              let same : above.node ≡ was.0 = cc (above.found, was.1) in
              ap sort was_kid.2.label ∙ forest.sorts q j n was.0 was_kid.0 was.1 (ap (λ z. slice_get z.kids j) (sym same) ∙ above.lists) was_kid.1 ∙ ap (λ l. kid_sort l j) (sym was.2.label)
        ];
  }
