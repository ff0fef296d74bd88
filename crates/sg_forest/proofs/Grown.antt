-- A forest stays one under a new root.
use Rattle.std.proofs.Common.{◌≡◌, ◌≢◌, ◌⊎◌, ◌↔◌, ℕ, List, [], ◌∷◌, length, Option, Some, None, refl, sym, ap, ◌∙◌, inl, inr}
use Rattle.std.specs.List.{slice_get}
use Rattle.sg_forest.specs.declared.node_id.NodeId.{NodeId}
use Rattle.sg_forest.specs.Node.{Node}
use Rattle.sg_forest.specs.Trees.{IsLive, IsRoot, IsChild, Lists, Climbs, IsInside, IsLinked, IsForest}
use Rattle.sg_forest.specs.Steps.{IsRootMade, AreRoots, KeepsKids}
use Rattle.sg_forest.proofs.Paths.{cases_id, root_is_no_child, one_parent, root_or_child, root_is_live, parent_is_live}
use Rattle.sg_forest.proofs.Moves.{place_in, HasRoot-root, HasRoot-child, StaysHung, as_root, as_child, as_placed, HasRoot-stays}

module _ {L D : Type 0} (old new : NodeId → Option (Node L D)) (label : L) (part : D) (kids : List NodeId) (id : NodeId)
    (linked : IsLinked old) (roots : (k : ℕ) (kid : NodeId) → slice_get kids k ≡ Some kid → IsRoot old kid)
    (grown : IsRootMade old new label part kids id) where
  abbrev top : Node L D
  top = record { label = label; part = part; up = None; kids = kids }

  -- what a node becomes: all stays but the place of one that hangs under the new root
  pub record IsMoved (n : NodeId) (x y : Node L D) : Type 0 where
    pub same_label : y.label ≡ x.label
    pub same_part : y.part ≡ x.part
    pub same_kids : y.kids ≡ x.kids
    pub same_up : ((k : ℕ) → slice_get kids k ≢ Some n) → y.up ≡ x.up

  pub not_new : (n : NodeId) → IsLive old n → n ≢ id
  not_new n live e = let there = ap old (sym e) ∙ live.found in cc (there, grown.was_free)

  pub after : (n : NodeId) (x : Node L D) → old n ≡ Some x → (y : Node L D) × (new n ≡ Some y) × IsMoved n x y
  after n x found =
      elim (place_in kids n) [
        | inl at ↦ (record x { up = Some (id, at.0) }, grown.hung at.0 n x at.1 found, record { same_label = refl; same_part = refl; same_kids = refl; same_up = λ unlisted. absurd (unlisted at.0 at.1) })
        | inr unlisted ↦ (x, grown.others n (not_new n (record { node = x; found = found })) unlisted ∙ found, record { same_label = refl; same_part = refl; same_kids = refl; same_up = λ _. refl })
      ]

  -- what a node was: none where it is the new root
  pub before : (n : NodeId) (y : Node L D) → new n ≡ Some y → ((n ≡ id) × (y ≡ top)) ⊎ ((x : Node L D) × (old n ≡ Some x) × IsMoved n x y)
  before n y found =
      elim (cases_id n id) [
        | inl e ↦ let there = ap new (sym e) ∙ found in let is : y ≡ top = cc (there, grown.root) in inl (e, is)
        | inr differs ↦ inr (by_slot differs (old n) refl)
      ]
    where
      by_slot : n ≢ id → (slot : Option (Node L D)) → old n ≡ slot → (x : Node L D) × (old n ≡ Some x) × IsMoved n x y
      by_slot differs None e =
          elim (place_in kids n) [
            | inl at ↦ let root = roots at.0 n at.1 in absurd (cc (e, root.found))
            | inr unlisted ↦ let same = grown.others n differs unlisted in absurd (cc (same, e, found))
          ]
      by_slot differs (Some x) e =
          let now = after n x e in
          let same : now.0 ≡ y = cc (found, now.1) in
          (x, e, rw same at now.2)

  pub KeepsKids-grown : KeepsKids old new
  KeepsKids-grown = record { kept = λ n x found. let now = after n x found in (now.0, now.1, now.2.same_label, now.2.same_part, now.2.same_kids) }

  pub new_root : IsRoot new id
  new_root = record { node = top; found = grown.root; top = refl }

  pub new_kid : (k : ℕ) (n : NodeId) → slice_get kids k ≡ Some n → IsChild new n id k
  new_kid k n listed =
      let root = roots k n listed in
      record { node = record root.node { up = Some (id, k) }; found = grown.hung k n root.node listed root.found; hangs = refl }

  unlisted_child : (n q : NodeId) (j : ℕ) → IsChild old n q j → (k : ℕ) → slice_get kids k ≢ Some n
  unlisted_child n q j child k listed = root_is_no_child old n q j (roots k n listed) child

  pub kept_child : (n q : NodeId) (j : ℕ) → IsChild old n q j → IsChild new n q j
  kept_child n q j child =
      let now = after n child.node child.found in
      record { node = now.0; found = now.1; hangs = now.2.same_up (unlisted_child n q j child) ∙ child.hangs }

  pub kept_root : (n : NodeId) → IsRoot old n → ((k : ℕ) → slice_get kids k ≢ Some n) → IsRoot new n
  kept_root n root unlisted =
      let now = after n root.node root.found in
      record { node = now.0; found = now.1; top = now.2.same_up unlisted ∙ root.top }

  -- a root is the new one, or was one that hangs under no other now
  pub was_root : (n : NodeId) → IsRoot new n → (n ≡ id) ⊎ (IsRoot old n × ((k : ℕ) → slice_get kids k ≢ Some n))
  was_root n root =
      elim (before n root.node root.found) [
        | inl is ↦ inl is.0
        | inr was ↦
            let unlisted : (k : ℕ) → slice_get kids k ≢ Some n = λ k listed. root_is_no_child new n id k root (new_kid k n listed) in
            inr (record { node = was.0; found = was.1; top = sym (was.2.same_up unlisted) ∙ root.top }, unlisted)
      ]

  pub same_roots : (n : NodeId) → n ≢ id → IsRoot new n ↔ IsRoot old n × ((k : ℕ) → slice_get kids k ≢ Some n)
  same_roots n differs = (
    λ is. elim (was_root n is) [ inl same ↦ absurd (differs same) | inr was ↦ was ],
    λ was. kept_root n was.0 was.1,
  )

  kept_lists : (q : NodeId) (j : ℕ) (n : NodeId) → Lists old q j n → Lists new q j n
  kept_lists q j n above =
      let now = after q above.node above.found in
      record { node = now.0; found = now.1; lists = ap (λ ids. slice_get ids j) now.2.same_kids ∙ above.lists }

  -- a link leads to the new root, or was there
  was_child : (n q : NodeId) (j : ℕ) → IsChild new n q j → ((q ≡ id) × (slice_get kids j ≡ Some n)) ⊎ IsChild old n q j
  was_child n q j child =
      elim (before n child.node child.found) [
        | inl is ↦ absurd (root_is_no_child new id q j new_root (rw is.0 at child))
        | inr was ↦ elim (place_in kids n) [
          | inl at ↦
              let one = one_parent new n q id j at.0 child (new_kid at.0 n at.1) in
              inl (one.0, ap (slice_get kids) one.1 ∙ at.1)
          | inr unlisted ↦ inr (record { node = was.0; found = was.1; hangs = sym (was.2.same_up unlisted) ∙ child.hangs })
        ]
      ]

  was_listed : (q : NodeId) (j : ℕ) (n : NodeId) → Lists new q j n → ((q ≡ id) × (slice_get kids j ≡ Some n)) ⊎ Lists old q j n
  was_listed q j n above =
      elim (before q above.node above.found) [
        | inl is ↦ inl (is.0, ap (λ y. slice_get y.kids j) (sym is.1) ∙ above.lists)
        | inr was ↦ inr (record { node = was.0; found = was.1; lists = ap (λ ids. slice_get ids j) (sym was.2.same_kids) ∙ above.lists })
      ]

  live_after : (n : NodeId) → IsLive old n → IsLive new n
  live_after n live = let now = after n live.node live.found in record { node = now.0; found = now.1 }

  stays : (n : NodeId) → IsLive old n → StaysHung old new n
  stays n live =
      elim (root_or_child old n live) [
        | inl root ↦ elim (place_in kids n) [
          | inl at ↦ as_placed (HasRoot-child new n id at.0 (new_kid at.0 n at.1) (HasRoot-root new id new_root))
          | inr unlisted ↦ as_root (kept_root n root unlisted)
        ]
        | inr below ↦ as_child below.0 below.1 below.2 (kept_child n below.0 below.1 below.2) (live_after below.0 (parent_is_live old linked n below.0 below.1 below.2))
      ]

  live_inside : (r : NodeId) → IsRoot old r → (n : NodeId) → IsInside old n r → IsLive old n
  live_inside r root n inside = by_path inside.path inside.climbs
    where
      by_path : (path : List ℕ) → Climbs old path n r → IsLive old n
      by_path [] same = rw same (root_is_live old r root)
      by_path (k ∷ path) climbs = record { node = climbs.1.node; found = climbs.1.found }

  pub IsLinked-grown : IsLinked new
  IsLinked-grown = record {
    down = λ q j n lists.
        elim (was_listed q j n lists) [
          | inl is ↦ rw is.0 (new_kid j n is.1)
          | inr was ↦ kept_child n q j (linked.down q j n was)
        ];
    upward = λ q j n child.
        elim (was_child n q j child) [
          | inl is ↦ rw is.0 (record { node = top; found = grown.root; lists = is.1 })
          | inr was ↦ kept_lists q j n (linked.upward q j n was)
        ];
    rooted = λ n live.
        elim (before n live.node live.found) [
          | inl is ↦ HasRoot-root new n (rw is.0 new_root)
          | inr was ↦
              let has = linked.rooted n (record { node = was.0; found = was.1 }) in
              HasRoot-stays old new has.root has.is_root (λ m inside _. stays m (live_inside has.root has.is_root m inside)) has.path n has.climbs live
        ];
  }

  pub IsForest-grown : (arity sort : L → ℕ) (kid_sort : L → ℕ → ℕ) → IsForest arity sort kid_sort old → length kids ≡ arity label → AreRoots sort old (kid_sort label) kids → IsForest arity sort kid_sort new
  IsForest-grown arity sort kid_sort forest count fits = record {
    linked = IsLinked-grown;
    arities = λ n y found.
        elim (before n y found) [
          | inl is ↦ rw is.1 count
          | inr was ↦ ap length was.2.same_kids ∙ forest.arities n was.0 was.1 ∙ ap arity (sym was.2.same_label)
        ];
    sorts = λ q j n x y found lists below.
        elim (before q x found) [
          | inl is ↦
              let listed : slice_get kids j ≡ Some n = ap (λ z. slice_get z.kids j) (sym is.1) ∙ lists in
              let fit = fits j n listed in
              let there = grown.hung j n fit.0.node listed fit.0.found in
              let same : y ≡ record fit.0.node { up = Some (id, j) } = cc (below, there) in
              ap (λ z. sort z.label) same ∙ fit.1 ∙ ap (λ z. kid_sort z.label j) (sym is.1)
          | inr was ↦
              let listed = ap (λ ids. slice_get ids j) (sym was.2.same_kids) ∙ lists in
              let kid = linked.down q j n (record { node = was.0; found = was.1; lists = listed }) in
              let now = after n kid.node kid.found in
              let same : y ≡ now.0 = cc (below, now.1) in
              ap (λ z. sort z.label) same ∙ ap sort now.2.same_label ∙ forest.sorts q j n was.0 kid.node was.1 listed kid.found ∙ ap (λ l. kid_sort l j) (sym was.2.same_label)
        ];
  }
