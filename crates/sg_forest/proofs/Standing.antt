-- The trees that stand under nodes, from one step to the next.
use Rattle.std.proofs.Common.{◌≡◌, ◌≢◌, ◌<◌, ℕ, zero, suc, List, [], ◌∷◌, set, Option, Some, refl, sym, ap, subst, ◌∙◌, arith}
use Rattle.std.specs.List.{slice_get}
use Rattle.sg_forest.specs.declared.node_id.NodeId.{NodeId}
use Rattle.sg_forest.specs.Node.{Node}
use Rattle.sg_forest.specs.Trees.{Trees, node_at, IsLive, IsChild, Lists, Climbs, IsInside, IsLinked, room_below}
use Rattle.sg_forest.specs.Tree.{Tree, Row, node, end, beside, Shows, Stands, StandAll, IsAlike, AreAlike, tree_at, changed_at, changed_kid, changed}
use Rattle.sg_forest.proofs.Paths.{siblings_apart, parent_outside, child_has_root, inside_by_parent, inside_append, inside_itself}
use Rattle.sg_forest.proofs.Moves.{set-same}
use Rattle.sg_forest.proofs.Depth.{room_below-child}

module _ {L D : Type 0} (at : NodeId → Option (Node L D)) where
  -- one tree stands under a node
  mutual
    pub one_tree : (t u : Tree L D) (n : NodeId) → Stands at n t → Stands at n u → t ≡ u
    one_tree (node label part ts) (node other more us) n one two =
        let x = one.1 in
        let y = two.1 in
        let same : x.node ≡ y.node = cc (x.found, y.found) in
        let labels : label ≡ other = sym x.has_label ∙ ap (λ z. z.label) same ∙ y.has_label in
        let parts : part ≡ more = sym x.has_part ∙ ap (λ z. z.part) same ∙ y.has_part in
        let kids : one.0 ≡ two.0 = sym x.has_kids ∙ ap (λ z. z.kids) same ∙ y.has_kids in
        let rows : ts ≡ us = one_row ts us one.0 one.2 (rw (← kids) at two.2) in
        cc

    pub one_row : (ts us : Row L D) (ids : List NodeId) → StandAll at ids ts → StandAll at ids us → ts ≡ us
    one_row end end ids one two = refl
    one_row end (beside u us) ids one two = absurd (cc (one, two.2))
    one_row (beside t ts) end ids one two = absurd (cc (one.2, two))
    one_row (beside t ts) (beside u us) ids one two =
        let lists : one.0 ∷ one.1 ≡ two.0 ∷ two.1 = sym one.2 ∙ two.2 in
        let heads : one.0 ≡ two.0 = cc in
        let tails : one.1 ≡ two.1 = cc in
        let first : t ≡ u = one_tree t u one.0 one.3 (rw (← heads) at two.3) in
        let rest : ts ≡ us = one_row ts us one.1 one.4 (rw (← tails) at two.4) in
        cc

  -- the tree under a child is the one at its place
  pub StandAll-at : (ts : Row L D) (ids : List NodeId) (k : ℕ) (id : NodeId) (t : Tree L D) → StandAll at ids ts → slice_get ids k ≡ Some id → tree_at ts k ≡ Some t → Stands at id t
  StandAll-at end ids k id t all listed there = cc
  StandAll-at (beside u us) ids zero id t all listed there =
      let is = all.2 in
      let same : all.0 ≡ id = cc (ap (λ xs. slice_get xs 0) is, listed) in
      let one : u ≡ t = cc in
      rw (← same, ← one) all.3
  StandAll-at (beside u us) ids (suc k) id t all listed there =
      StandAll-at us all.1 k id t all.4 (ap (λ xs. slice_get xs (suc k)) (sym all.2) ∙ listed) there

  -- the label and the part are those at the tree's root
  pub Stands-label : (n : NodeId) (x : Node L D) (label : L) (part : D) (ts : Row L D) → at n ≡ Some x → Stands at n (node label part ts) → x.label ≡ label
  Stands-label n x label part ts found stands = let same : x ≡ stands.1.node = cc (found, stands.1.found) in ap (λ z. z.label) same ∙ stands.1.has_label

  pub Stands-part : (n : NodeId) (x : Node L D) (label : L) (part : D) (ts : Row L D) → at n ≡ Some x → Stands at n (node label part ts) → x.part ≡ part
  Stands-part n x label part ts found stands = let same : x ≡ stands.1.node = cc (found, stands.1.found) in ap (λ z. z.part) same ∙ stands.1.has_part

  pub Stands-kid : (n : NodeId) (x : Node L D) (label : L) (part : D) (ts : Row L D) (k : ℕ) (id : NodeId) (t : Tree L D) → at n ≡ Some x → slice_get x.kids k ≡ Some id → Stands at n (node label part ts) → tree_at ts k ≡ Some t → Stands at id t
  Stands-kid n x label part ts k id t found listed stands there =
      let shows = stands.1 in
      let same : x ≡ shows.node = cc (found, shows.found) in
      StandAll-at ts stands.0 k id t stands.2 (ap (λ ids. slice_get ids k) (sym (ap (λ z. z.kids) same ∙ shows.has_kids)) ∙ listed) there

  -- a row stands under a list where a tree stands under each
  pub StandAll-each : (ids : List NodeId) → ((k : ℕ) (id : NodeId) → slice_get ids k ≡ Some id → (t : Tree L D) × Stands at id t) → (ts : Row L D) × StandAll at ids ts
  StandAll-each [] each = (end, refl)
  StandAll-each (id ∷ ids) each =
      let first = each 0 id refl in
      let rest = StandAll-each ids (λ k m found. each (suc k) m found) in
      (beside first.0 rest.0, (id, ids, refl, first.1, rest.1))

module _ {L D : Type 0} (t : Trees L D) (linked : IsLinked (node_at t)) where
  tree_within : (fuel : ℕ) (n : NodeId) → room_below t n < fuel → IsLive (node_at t) n → (u : Tree L D) × Stands (node_at t) n u
  tree_within zero n few live = absurd (omega arith)
  tree_within (suc fuel) n few live =
      let x = live.node in
      let kid_of : (k : ℕ) (id : NodeId) → slice_get x.kids k ≡ Some id → IsChild (node_at t) id n k = λ k id lists. linked.down n k id (record { node = x; found = live.found; lists = lists }) in
      let row = StandAll-each (node_at t) x.kids (λ k id lists.
      let child = kid_of k id lists in
      tree_within fuel id (omega (arith, room_below-child t linked id n k child)) (record { node = child.node; found = child.found })) in
      (node x.label x.part row.0, (x.kids, record { node = x; found = live.found; has_label = refl; has_part = refl; has_kids = refl }, row.1))

  -- a tree stands under each node
  pub has_tree : (n : NodeId) → IsLive (node_at t) n → (u : Tree L D) × Stands (node_at t) n u
  has_tree n live = tree_within (suc (room_below t n)) n (omega arith) live

-- the frame: a tree stays where each of its nodes keeps label, part and children
module _ {L D : Type 0} (old new : NodeId → Option (Node L D)) (Calm : NodeId → Type 0)
    (kept : (n : NodeId) (x : Node L D) → Calm n → old n ≡ Some x → (y : Node L D) × (new n ≡ Some y) × (y.label ≡ x.label) × (y.part ≡ x.part) × (y.kids ≡ x.kids))
    (closed : (p : NodeId) (k : ℕ) (n : NodeId) → Calm p → Lists old p k n → Calm n) where
  pub Shows-kept : (n : NodeId) (label : L) (part : D) (kids : List NodeId) → Calm n → Shows old n label part kids → Shows new n label part kids
  Shows-kept n label part kids calm shows =
      let now = kept n shows.node calm shows.found in
      record { node = now.0; found = now.1; has_label = now.2 ∙ shows.has_label; has_part = now.3 ∙ shows.has_part; has_kids = now.4 ∙ shows.has_kids }

  mutual
    pub Stands-kept : (t : Tree L D) (n : NodeId) → Calm n → Stands old n t → Stands new n t
    Stands-kept (node label part ts) n calm stands =
        let shows = stands.1 in
        let each : (k : ℕ) (id : NodeId) → slice_get stands.0 k ≡ Some id → Calm id = λ k id lists.
        closed n k id calm (record { node = shows.node; found = shows.found; lists = ap (λ ids. slice_get ids k) shows.has_kids ∙ lists }) in
        (stands.0, Shows-kept n label part stands.0 calm shows, StandAll-kept ts stands.0 each stands.2)

    pub StandAll-kept : (ts : Row L D) (ids : List NodeId) → ((k : ℕ) (id : NodeId) → slice_get ids k ≡ Some id → Calm id) → StandAll old ids ts → StandAll new ids ts
    StandAll-kept end ids each all = all
    StandAll-kept (beside t ts) ids each all =
        let is = all.2 in (
          all.0,
          all.1,
          is,
          Stands-kept t all.0 (each 0 all.0 (ap (λ xs. slice_get xs 0) is)) all.3,
          StandAll-kept ts all.1 (λ k id lists. each (suc k) id (ap (λ xs. slice_get xs (suc k)) is ∙ lists)) all.4,
        )

-- where labels and children stay and each part fits the one before, each tree stays but for its parts
module _ {L D : Type 0} (old new : NodeId → Option (Node L D)) (Fits : D → D → Type 0)
    (kept : (n : NodeId) (x : Node L D) → old n ≡ Some x → (y : Node L D) × (new n ≡ Some y) × (y.label ≡ x.label) × Fits x.part y.part × (y.kids ≡ x.kids)) where
  mutual
    pub Stands-alike : (t : Tree L D) (n : NodeId) → Stands old n t → (u : Tree L D) × Stands new n u × IsAlike Fits t u
    Stands-alike (node label part ts) n stands =
        let shows = stands.1 in
        let now = kept n shows.node shows.found in
        let row = StandAll-alike ts stands.0 stands.2 in (
          node label now.0.part row.0,
          (stands.0, record { node = now.0; found = now.1; has_label = now.2 ∙ shows.has_label; has_part = refl; has_kids = now.4 ∙ shows.has_kids }, row.1),
          (refl, subst (λ (d : D). Fits d now.0.part) shows.has_part now.3, row.2),
        )

    pub StandAll-alike : (ts : Row L D) (ids : List NodeId) → StandAll old ids ts → (us : Row L D) × StandAll new ids us × AreAlike Fits ts us
    StandAll-alike end ids all = (end, all, tt)
    StandAll-alike (beside t ts) ids all =
        let first = Stands-alike t all.0 all.3 in
        let rest = StandAll-alike ts all.1 all.4 in
        (beside first.0 rest.0, (all.0, all.1, all.2, first.1, rest.1), (first.2, rest.2))

-- a row with one place written
module _ {L D : Type 0} (old new : NodeId → Option (Node L D)) where
  pub StandAll-stays : (ts : Row L D) (ids : List NodeId) → ((j : ℕ) (c : NodeId) → slice_get ids j ≡ Some c → (t : Tree L D) → Stands old c t → Stands new c t) → StandAll old ids ts → StandAll new ids ts
  StandAll-stays end ids stays all = all
  StandAll-stays (beside t ts) ids stays all =
      let is = all.2 in (
        all.0,
        all.1,
        is,
        stays 0 all.0 (ap (λ xs. slice_get xs 0) is) t all.3,
        StandAll-stays ts all.1 (λ j c lists. stays (suc j) c (ap (λ xs. slice_get xs (suc j)) is ∙ lists)) all.4,
      )

  pub StandAll-set : (ts : Row L D) (ids : List NodeId) (i : ℕ) (d : NodeId) (f : Tree L D → Tree L D)
      → ((j : ℕ) (c : NodeId) → slice_get ids j ≡ Some c → j ≢ i → (t : Tree L D) → Stands old c t → Stands new c t)
      → ((c : NodeId) → slice_get ids i ≡ Some c → (t : Tree L D) → Stands old c t → Stands new d (f t))
      → StandAll old ids ts → StandAll new (set ids i d) (changed_at i f ts)
  StandAll-set end ids i d f stays turns all = rw all refl
  StandAll-set (beside t ts) ids zero d f stays turns all =
      let is = all.2 in
      let rest = StandAll-stays ts all.1 (λ j c lists. stays (suc j) c (ap (λ xs. slice_get xs (suc j)) is ∙ lists) (λ e. cc e)) all.4 in
      (d, all.1, ap (λ xs. set xs 0 d) is, turns all.0 (ap (λ xs. slice_get xs 0) is) t all.3, rest)
  StandAll-set (beside t ts) ids (suc i) d f stays turns all =
      let is = all.2 in
      let first = stays 0 all.0 (ap (λ xs. slice_get xs 0) is) (λ e. cc e) t all.3 in
      let rest = StandAll-set ts all.1 i d f
      (λ j c lists differs. stays (suc j) c (ap (λ xs. slice_get xs (suc j)) is ∙ lists) (λ e. differs (let less : j ≡ i = cc in less)))
      (λ c lists. turns c (ap (λ xs. slice_get xs (suc i)) is ∙ lists)) all.4 in
      (all.0, set all.1 i d, ap (λ xs. set xs (suc i) d) is, first, rest)

-- where one node alone loses its label, part or children
module _ {L D : Type 0} (old new : NodeId → Option (Node L D)) (linked : IsLinked old) (p : NodeId)
    (kept : (n : NodeId) (x : Node L D) → n ≢ p → old n ≡ Some x → (y : Node L D) × (new n ≡ Some y) × (y.label ≡ x.label) × (y.part ≡ x.part) × (y.kids ≡ x.kids)) where
  -- a tree without that node stays
  pub Stands-apart : (n : NodeId) → (IsInside old p n → ⊥) → (t : Tree L D) → Stands old n t → Stands new n t
  Stands-apart n apart t stands =
      Stands-kept old new (λ m. IsInside old p m → ⊥)
      (λ m x out. kept m x (λ e. out (rw e (inside_itself old p))))
      (λ q k m out lists inside. out (inside_append old p m q inside (inside_by_parent old m q q k (linked.down q k m lists) (inside_itself old q))))
      t n apart stands

  child_of : (n : NodeId) (label : L) (part : D) (kids : List NodeId) → Shows old n label part kids → (k : ℕ) (c : NodeId) → slice_get kids k ≡ Some c → IsChild old c n k
  child_of n label part kids shows k c lists =
      linked.down n k c (record { node = shows.node; found = shows.found; lists = ap (λ ids. slice_get ids k) shows.has_kids ∙ lists })

  -- the children of that node keep their trees
  pub StandAll-below : (ts : Row L D) (label : L) (part : D) (kids : List NodeId) → Shows old p label part kids → StandAll old kids ts → StandAll new kids ts
  StandAll-below ts label part kids shows all =
      StandAll-stays old new ts kids (λ j c lists.
      let child = child_of p label part kids shows j c lists in
      Stands-apart c (parent_outside old c p j (child_has_root old linked c p j child) child)) all

  -- a step up: the tree over a changed child
  step : (n q : NodeId) (k : ℕ) (f : Tree L D → Tree L D) → IsInside old p n → IsChild old n q k → ((t : Tree L D) → Stands old n t → Stands new n (f t)) → (t : Tree L D) → Stands old q t → Stands new q (changed_kid k f t)
  step n q k f inside child turns (node label part ts) stands =
      let shows = stands.1 in
      let kids = stands.0 in
      let q_is_not_p : q ≢ p = λ e. parent_outside old n q k (child_has_root old linked n q k child) child (rw (← e) at inside) in
      let now = kept q shows.node q_is_not_p shows.found in
      let shows_now : Shows new q label part kids = record { node = now.0; found = now.1; has_label = now.2 ∙ shows.has_label; has_part = now.3 ∙ shows.has_part; has_kids = now.4 ∙ shows.has_kids } in
      let above = linked.upward q k n child in
      let same : above.node ≡ shows.node = cc (above.found, shows.found) in
      let here : slice_get kids k ≡ Some n = ap (λ ids. slice_get ids k) (sym (ap (λ z. z.kids) same ∙ shows.has_kids)) ∙ above.lists in
      let row = StandAll-set old new ts kids k n f
      (λ j c lists differs. Stands-apart c (λ below. siblings_apart old linked p c n q j k differs (child_of q label part kids shows j c lists) child below inside))
      (λ c lists t below. let is : c ≡ n = cc (lists, here) in turns t (rw is at below))
      stands.2 in
      (kids, shows_now, rw (set-same kids k n here) at row)

  -- the tree over a changed node, any way up
  pub Stands-changed : (path : List ℕ) (n m : NodeId) (f : Tree L D → Tree L D) → IsInside old p n → Climbs old path n m → ((t : Tree L D) → Stands old n t → Stands new n (f t)) → (t : Tree L D) → Stands old m t → Stands new m (changed path f t)
  Stands-changed [] n m f inside same turns t stands = let here : Stands old n t = rw same stands in rw (← same) (turns t here)
  Stands-changed (k ∷ path) n m f inside climbs turns t stands =
      let q = climbs.0 in
      let up = inside_append old p n q inside (inside_by_parent old n q q k climbs.1 (inside_itself old q)) in
      Stands-changed path q m (changed_kid k f) up climbs.2 (step n q k f inside climbs.1 turns) t stands
