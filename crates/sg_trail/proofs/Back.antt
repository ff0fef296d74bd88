-- The numbers of the entries stored again, and the two trees exchanged once more.
use Rattle.std.specs.Prelude.{◌≡◌, ◌≢◌, ◌⊎◌, ℕ, zero, suc, Bool, true, false, List, [], ◌∷◌, ◌++◌, length, Option, Some, None, slice_get, slice_set, option_and_then, Contains}
use Rattle.std.proofs.Common.{refl, sym, ap, ◌∙◌, subst, inl, inr, arith}
use Rattle.std.proofs.lemmas.Bool.{false≢true}
use Rattle.std.proofs.lemmas.List.Elements.{Contains-append_left}
use Rattle.std.proofs.lemmas.Option.{none-some, same_Some}
use Rattle.sg_kinds.specs.Typing.{slot_type}
use Rattle.sg_kinds.specs.declared.spec.Spec.{Spec}
use Rattle.sg_forest.specs.declared.node_id.NodeId.{NodeId}
use Rattle.sg_forest.specs.Node as forest
use Rattle.sg_forest.specs.Trees.{IsLive, IsRoot, IsChild, IsInside, Lists, Climbs}
use Rattle.sg_forest.specs.Steps.{SameSort, IsSwapped}
use Rattle.sg_forest.proofs.Paths.{cases_id, no_cycle, one_path, parent_outside, root_inside, root_is_no_child, root_or_child}
use Rattle.sg_forest.proofs.Swapped.{kept_root}
use Rattle.sg_forest.proofs.Laws.{KeepsWaysWithin-swapped}
use Rattle.sg_groves.specs.declared.kind.Kind.{Kind}
use Rattle.sg_groves.specs.declared.part.Part.{Part}
use Rattle.sg_groves.specs.Grove.{Grove, nodes, IsTyped, IsGrove}
use Rattle.sg_groves.specs.Stored.{number_at}
use Rattle.sg_groves.specs.Unchanged.{OnlyStored}
use Rattle.sg_groves.proofs.Frames.{only_itself, only_more, only_twice, only_number}
use Rattle.sg_terms.specs.Found.{op_at}
use Rattle.sg_terms.specs.Storable.{IsStorable, IsSlot}
use Rattle.sg_terms.proofs.Same.{IsTyped-grown}
use Rattle.sg_trail.specs.declared.entry.WasStored.{WasStored}
use Rattle.sg_trail.specs.Trails.{AreStorable, IsAnySlot, IsExchanged, LeadsBack, Way, is_of, was_in}
use Rattle.sg_trail.proofs.Telling.{last_tells, last_tells_not, of_from, of_to}

-- nodes of operators are so still where only values change, and what may be stored may be so still
module _ (old new : Grove) (changed : NodeId → ℕ → Type 0) (only : OnlyStored old new changed) where
  pub op_same : (n : NodeId) → op_at new n ≡ op_at old n
  op_same n = by (nodes old n) refl
    where
      by : (o : Option (forest.Node Kind Part)) → nodes old n ≡ o → op_at new n ≡ option_and_then (λ x. x.label.op) o
      by None found = ap (option_and_then (λ (x : forest.Node Kind Part). x.label.op)) (only.shape.dead n found)
      by (Some x) found = let now = only.shape.kept n x found in ap (option_and_then (λ (y : forest.Node Kind Part). y.label.op)) now.1 ∙ ap (λ (l : Kind). l.op) now.2

  pub storable_still : (n : NodeId) (slot id : ℕ) → IsStorable old n slot id → IsStorable new n slot id
  storable_still n slot id s = record {
    op = s.op;
    is = op_same n ∙ s.is;
    type = s.type;
    has_type = subst (λ (z : Spec). slot_type z s.op 0 slot ≡ Some s.type) (sym only.spec) s.has_type;
    typed = subst (λ (z : Spec). IsTyped z new.pool s.type id) (sym only.spec) (IsTyped-grown old.spec old.pool new.pool only.pool s.type id s.typed);
  }

pub any_twice : (old mid new : Grove) → OnlyStored old mid IsAnySlot → OnlyStored mid new IsAnySlot → OnlyStored old new IsAnySlot
any_twice old mid new one two = only_more old new (λ n slot. IsAnySlot n slot ⊎ IsAnySlot n slot) IsAnySlot (λ n slot either. tt) (only_twice old mid new IsAnySlot IsAnySlot one two)

-- entries from the end on are stored again
pub record IsGoingBack (first now : Grove) (all rest : List WasStored) : Type 0 where
  pub stored : OnlyStored first now IsAnySlot
  pub pool : now.pool ≡ first.pool
  pub storable : AreStorable now rest
  pub numbers : (n : NodeId) (slot : ℕ) → was_in rest n slot (number_at now n slot) ≡ was_in all n slot (number_at first n slot)

pub back_first : (g : Grove) (es : List WasStored) → AreStorable g es → IsGoingBack g g es es
back_first g es storable = record { stored = only_itself g IsAnySlot; pool = refl; storable = storable; numbers = λ n slot. refl }

pub back_next : (first now new : Grove) (all rest some : List WasStored) (e : WasStored) → some ≡ rest ++ e ∷ [] → OnlyStored now new (IsSlot e.node e.slot) → new.pool ≡ now.pool → number_at new e.node e.slot ≡ Some e.number → IsGoingBack first now all some → IsGoingBack first new all rest
back_next first now new all rest some e last only pool stored is =
    let was : IsGoingBack first now all (rest ++ e ∷ []) = subst (IsGoingBack first now all) last is in
    record {
      stored = any_twice first now new is.stored (only_more now new (IsSlot e.node e.slot) IsAnySlot (λ n slot s. tt) only);
      pool = pool ∙ is.pool;
      storable = λ d has. storable_still now new (IsSlot e.node e.slot) only d.node d.slot d.number (was.storable d (Contains-append_left rest (e ∷ []) d has));
      numbers = λ n slot. by n slot (is_of e n slot) refl ∙ was.numbers n slot;
    }
  where
    by : (n : NodeId) (slot : ℕ) (b : Bool) → is_of e n slot ≡ b → was_in rest n slot (number_at new n slot) ≡ was_in (rest ++ e ∷ []) n slot (number_at now n slot)
    by n slot true test =
        let of = of_from e n slot test in
        ap (was_in rest n slot) (ap (λ m. number_at new m slot) (sym of.node_is) ∙ ap (number_at new e.node) (sym of.slot_is) ∙ stored) ∙ sym (last_tells n slot rest e of (number_at now n slot))
    by n slot false test =
        ap (was_in rest n slot) (only_number now new (IsSlot e.node e.slot) only n slot (λ s. false≢true (sym test ∙ of_to e n slot (record { node_is = sym s.node; slot_is = sym s.same }))))
        ∙ sym (last_tells_not n slot rest e test (number_at now n slot))

-- rows of numbers that agree at each place
pub same_row : (xs ys : List ℕ) → length xs ≡ length ys → ((k : ℕ) → slice_get xs k ≡ slice_get ys k) → xs ≡ ys
same_row [] [] long same = refl
same_row [] (y ∷ ys) long same = absurd (omega (arith, long))
same_row (x ∷ xs) [] long same = absurd (omega (arith, long))
same_row (x ∷ xs) (y ∷ ys) long same = λ i. same_Some x y (same 0) i ∷ same_row xs ys (omega (arith, long)) (λ k. same (suc k)) i

-- where only values changed, and each slot has its number, each node is the same
pub same_nodes : (old new : Grove) → OnlyStored old new IsAnySlot → ((n : NodeId) (slot : ℕ) → number_at new n slot ≡ number_at old n slot) → (n : NodeId) → nodes new n ≡ nodes old n
same_nodes old new only same n = by (nodes old n) refl
  where
    by : (o : Option (forest.Node Kind Part)) → nodes old n ≡ o → nodes new n ≡ o
    by None found = only.shape.dead n found
    by (Some x) found =
        let now = only.shape.kept n x found in
        let y = now.0 in
        let parts = only.parts n x y found now.1 in
        let values : y.part.values ≡ x.part.values =
        same_row y.part.values x.part.values parts.count (λ k.
        sym (ap (option_and_then (λ (z : forest.Node Kind Part). slice_get z.part.values k)) now.1) ∙ same n k ∙ ap (option_and_then (λ (z : forest.Node Kind Part). slice_get z.part.values k)) found) in
        now.1 ∙ (λ i. Some (record { label = now.2 i; part = record { scheme = parts.scheme i; elided = parts.elided i; values = values i }; up = now.3 i; kids = now.4 i }))

-- a number that is set twice
set_twice : {X : Type 0} (xs : List X) (k : ℕ) (x y : X) → slice_get xs k ≡ Some y → slice_set (slice_set xs k x) k y ≡ xs
set_twice [] k x y at = absurd (none-some y at)
set_twice (z ∷ xs) zero x y at = ap (λ w. w ∷ xs) (sym (same_Some z y at))
set_twice (z ∷ xs) (suc k) x y at = ap (λ ws. z ∷ ws) (set_twice xs k x y at)

module _ (before mid : Grove) (is : IsGrove before) (a d : NodeId) (ex : IsExchanged before mid a d) where
  abbrev a_node : forest.Node Kind Part
  a_node = ex.live.node

  d_is_not_a : d ≢ a
  d_is_not_a e = ex.apart (record { path = []; climbs = sym e })

  module _ (p : NodeId) (k : ℕ) (hangs : IsChild (nodes before) a p k) where
    sw : IsSwapped (nodes before) (nodes mid) a d p k
    sw = ex.swapped p k hangs

    parent : Lists (nodes before) p k a
    parent = is.forest.linked.upward p k a hangs

    p_is_not_d : p ≢ d
    p_is_not_d e = ex.apart (record { path = k ∷ []; climbs = (p, hangs, e) })

    p_is_not_a : p ≢ a
    p_is_not_a e = no_loop (subst (λ q. IsChild (nodes before) a q k) e hangs)
      where
        no_loop : IsChild (nodes before) a a k → ⊥
        no_loop loop = no_cycle (nodes before) k [] a (is.forest.linked.rooted a (record { node = ex.live.node; found = ex.live.found })) (a, loop, refl)

    pub a_free : IsRoot (nodes mid) a
    a_free = record { node = record a_node { up = None }; found = sw.freed a_node ex.live.found; top = refl }

    pub d_hangs : IsChild (nodes mid) d p k
    d_hangs = record { node = record ex.root.node { up = Some (p, k) }; found = sw.placed ex.root.node ex.root.found; hangs = refl }

    -- exchanged again each node is as before
    module _ (final : Grove) (again : IsSwapped (nodes mid) (nodes final) d a p k) where
      at_a : nodes final a ≡ nodes before a
      at_a =
          again.placed (record a_node { up = None }) (sw.freed a_node ex.live.found)
          ∙ (λ i. Some (record a_node { up = up_is i })) ∙ sym ex.live.found
        where
          up_is : Some (p, k) ≡ ex.live.node.up
          up_is = let same : hangs.node ≡ ex.live.node = cc (hangs.found, ex.live.found) in sym (ap (λ (z : forest.Node Kind Part). z.up) (sym same) ∙ hangs.hangs)

      at_d : nodes final d ≡ nodes before d
      at_d =
          again.freed (record ex.root.node { up = Some (p, k) }) (sw.placed ex.root.node ex.root.found)
          ∙ (λ i. Some (record ex.root.node { up = sym ex.root.top i })) ∙ sym ex.root.found

      at_p : nodes final p ≡ nodes before p
      at_p =
          again.listed (record parent.node { kids = slice_set parent.node.kids k d }) (sw.listed parent.node parent.found)
          ∙ (λ i. Some (record parent.node { kids = twice i })) ∙ sym parent.found
        where
          twice : slice_set (slice_set parent.node.kids k d) k a ≡ parent.node.kids
          twice = set_twice parent.node.kids k d a parent.lists

      pub swapped_twice : (n : NodeId) → nodes final n ≡ nodes before n
      swapped_twice n = elim (cases_id n a) [
        | inl same ↦ ap (nodes final) same ∙ at_a ∙ sym (ap (nodes before) same)
        | inr not_a ↦ elim (cases_id n d) [
          | inl same ↦ ap (nodes final) same ∙ at_d ∙ sym (ap (nodes before) same)
          | inr not_d ↦ elim (cases_id n p) [
            | inl same ↦ ap (nodes final) same ∙ at_p ∙ sym (ap (nodes before) same)
            | inr not_p ↦ again.others n not_d not_a not_p ∙ sw.others n not_a not_d not_p
          ]
        ]
      ]

    -- the new top is not in the old one's tree, and its phylum is the same
    pub apart_again : IsInside (nodes mid) d a → ⊥
    apart_again inside =
        let linked = is.forest.linked in
        let top = linked.rooted p (record { node = parent.node; found = parent.found }) in
        let not_a : top.root ≢ a = λ e. root_is_no_child (nodes before) a p k (subst (IsRoot (nodes before)) e top.is_root) hangs in
        let not_d : top.root ≢ d = λ e. ex.apart (record { path = k ∷ top.path; climbs = (p, hangs, subst (Climbs (nodes before) top.path p) e top.climbs) }) in
        let way = KeepsWaysWithin-swapped (nodes before) (nodes mid) a d p k linked hangs ex.root ex.apart sw top.path p top.root
        (λ in_a. absurd (parent_outside (nodes before) a p k (linked.rooted a (record { node = ex.live.node; found = ex.live.found })) hangs in_a)) top.climbs in
        let root : IsRoot (nodes mid) top.root = kept_root (nodes before) (nodes mid) a d p k linked hangs ex.root ex.apart sw top.root top.is_root not_d in
        not_a (sym (one_path (nodes mid) inside.path (k ∷ top.path) d a top.root a_free root inside.climbs (p, d_hangs, way)).1)

    pub phyla_again : SameSort (λ k. k.phylum) (nodes mid) d a
    phyla_again x y d_found a_found =
        let same_d : x ≡ record ex.root.node { up = Some (p, k) } = same_Some x (record ex.root.node { up = Some (p, k) }) (sym d_found ∙ sw.placed ex.root.node ex.root.found) in
        let same_a : y ≡ record a_node { up = None } = same_Some y (record a_node { up = None }) (sym a_found ∙ sw.freed a_node ex.live.found) in
        ap (λ (z : forest.Node Kind Part). z.label.phylum) same_d ∙ sym (ex.phyla a_node ex.root.node ex.live.found ex.root.found) ∙ sym (ap (λ (z : forest.Node Kind Part). z.label.phylum) same_a)

-- the way back: what the second exchange needs, and what it makes
module _ (before now later : Grove) (way : Way) (leads : LeadsBack before now way) (stored : OnlyStored now later IsAnySlot) (numbers : (n : NodeId) (slot : ℕ) → number_at later n slot ≡ was_in way.entries n slot (number_at now n slot)) where
  abbrev mid : Grove
  mid = leads.between

  abbrev At : Type 0
  At = NodeId → Option (forest.Node Kind Part)

  mid_node : (n : NodeId) → nodes mid n ≡ nodes later n
  mid_node n = sym (same_nodes mid later (any_twice mid now later leads.stored stored) (λ m slot. numbers m slot ∙ leads.numbers m slot ∙ sym (leads.exchanged.numbers m slot)) n)

  mid_is : ◌≡◌ {A = At} (nodes mid) (nodes later)
  mid_is = λ i n. mid_node n i

  cases : IsRoot (nodes before) way.at ⊎ ((p : NodeId) × (k : ℕ) × IsChild (nodes before) way.at p k)
  cases = root_or_child (nodes before) way.at leads.exchanged.live

  -- where the old top was a root nothing moved
  before_is : IsRoot (nodes before) way.at → ◌≡◌ {A = At} (nodes before) (nodes mid)
  before_is top = λ i n. sym (leads.exchanged.unchanged top n) i

  pub again_live : IsLive (nodes later) way.detached
  again_live = let root = leads.exchanged.root in subst (λ (at : At). IsLive at way.detached) mid_is (elim cases [
    | inl top ↦ subst (λ (at : At). IsLive at way.detached) (before_is top) (record { node = root.node; found = root.found })
    | inr up ↦ let h = d_hangs before mid leads.grove way.at way.detached leads.exchanged up.0 up.1 up.2 in record { node = h.node; found = h.found }
  ])

  pub again_root : IsRoot (nodes later) way.at
  again_root = subst (λ (at : At). IsRoot at way.at) mid_is (elim cases [
    | inl top ↦ subst (λ (at : At). IsRoot at way.at) (before_is top) top
    | inr up ↦ a_free before mid leads.grove way.at way.detached leads.exchanged up.0 up.1 up.2
  ])

  pub again_apart : IsInside (nodes later) way.detached way.at → ⊥
  again_apart = subst (λ (at : At). IsInside at way.detached way.at → ⊥) mid_is (elim cases [
    | inl top ↦ subst (λ (at : At). IsInside at way.detached way.at → ⊥) (before_is top) (λ inside. d_is_not_a before mid leads.grove way.at way.detached leads.exchanged (root_inside (nodes before) way.detached way.at leads.exchanged.root inside))
    | inr up ↦ apart_again before mid leads.grove way.at way.detached leads.exchanged up.0 up.1 up.2
  ])

  pub again_phyla : SameSort (λ (k : Kind). k.phylum) (nodes later) way.detached way.at
  again_phyla = subst (λ (at : At). SameSort (λ (k : Kind). k.phylum) at way.detached way.at) mid_is (elim cases [
    | inl top ↦ subst (λ (at : At). SameSort (λ (k : Kind). k.phylum) at way.detached way.at) (before_is top) (λ x y at_d at_a. sym (leads.exchanged.phyla y x at_a at_d))
    | inr up ↦ phyla_again before mid leads.grove way.at way.detached leads.exchanged up.0 up.1 up.2
  ])

  pub is_back : (final : Grove) → ((p : NodeId) (k : ℕ) → IsChild (nodes later) way.detached p k → IsSwapped (nodes later) (nodes final) way.detached way.at p k) → (IsRoot (nodes later) way.detached → final ≡ later) → (n : NodeId) → nodes final n ≡ nodes before n
  is_back final swapped unchanged n = elim cases [
    | inl top ↦
        let root = subst (λ (at : At). IsRoot at way.detached) mid_is (subst (λ (at : At). IsRoot at way.detached) (before_is top) leads.exchanged.root) in
        ap (λ (g : Grove). nodes g n) (unchanged root) ∙ sym (mid_node n) ∙ leads.exchanged.unchanged top n
    | inr up ↦
        let hangs = d_hangs before mid leads.grove way.at way.detached leads.exchanged up.0 up.1 up.2 in
        let again = swapped up.0 up.1 (subst (λ (at : At). IsChild at way.detached up.0 up.1) mid_is hangs) in
        swapped_twice before mid leads.grove way.at way.detached leads.exchanged up.0 up.1 up.2 final (subst (λ (at : At). IsSwapped at (nodes final) way.detached way.at up.0 up.1) (sym mid_is) again) n
  ]
