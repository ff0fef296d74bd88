-- The items of one state more.
use Rattle.std.proofs.Common.{◌≡◌, ℕ, suc, ◌+◌, ◌-◌, ◌<◌, ◌≤◌, ◌⊎◌, inl, inr, List, [], ◌∷◌, ◌++◌, length, map, get_or, take, refl, sym, ap, ◌∙◌, subst, arith}
use Rattle.std.specs.Prelude.{Contains, slice_index}
use Rattle.std.proofs.lemmas.Bool.{cases_lt}
use Rattle.std.proofs.lemmas.List.{get_or_append_left, get_or_push, get_or-append-add, get_or-map, get_or_default, length_push, length-append, length-map, length-take}
use Rattle.std.proofs.lemmas.List.Elements.{Contains-get_or}
use Rattle.sg_lalr.specs.Items.{Item, item}
use Rattle.sg_lalr.specs.declared.lookaheads.Node.{Node}
use Rattle.sg_lalr.specs.Automaton.{row_at}
use Rattle.sg_lalr.specs.Lookaheads.{node, node_at, IsLaid}
use Rattle.sg_lalr.proofs.PartLemmas.{row_at-front, row_at-last}

pub laid-none : IsLaid [] [] (0 ∷ [])
laid-none = record {
  count = refl;
  start = refl;
  end = refl;
  within = λ s l. let e : s ≡ 0 = omega (arith, l) in subst (λ k. slice_index (0 ∷ []) k ≤ 0) (sym e) (omega arith);
  rising = λ s l. absurd (omega (arith, l));
  has = λ s i l. absurd (omega (arith, l));
  known = λ m l. absurd (omega (arith, l));
  contained = λ m l. absurd (omega (arith, l));
  above = λ m l. absurd (omega (arith, l));
  placed = λ m l. absurd (omega (arith, l));
  below = λ m l. absurd (omega (arith, l));
  here = λ s m l. absurd (omega (arith, l));
}

abbrev more-nodes : List (List Item) → List Item → List Node → List Node
more-nodes cores core nodes = nodes ++ map (node (length cores)) core

abbrev more-firsts : List (List Item) → List Item → List Node → List ℕ → List ℕ
more-firsts cores core nodes firsts = firsts ++ length (more-nodes cores core nodes) ∷ []

-- where a node of the longer list stands, and which it is
abbrev Stands : List (List Item) → List Item → List Node → ℕ → Type 0
Stands cores core nodes m = ((m < length nodes) × (node_at (more-nodes cores core nodes) m ≡ node_at nodes m)) ⊎ ((length nodes ≤ m) × ((k : ℕ) × (k < length core) × (node_at (more-nodes cores core nodes) m ≡ node (length cores) (get_or core k (item 0 0))) × (m ≡ length nodes + k)))

module _ (cores : List (List Item)) (core : List Item) (nodes : List Node) (firsts : List ℕ) (laid : IsLaid cores nodes firsts) where
  long : length (more-nodes cores core nodes) ≡ length nodes + length core
  long = length-append nodes (map (node (length cores)) core) ∙ ap (λ n. length nodes + n) (length-map core (node (length cores)))

  old-node : (m : ℕ) → m < length nodes → node_at (more-nodes cores core nodes) m ≡ node_at nodes m
  old-node m l = get_or_append_left nodes (map (node (length cores)) core) (node 0 (item 0 0)) m l

  new-node : (k : ℕ) → k < length core → node_at (more-nodes cores core nodes) (length nodes + k) ≡ node (length cores) (get_or core k (item 0 0))
  new-node k l = get_or-append-add nodes (map (node (length cores)) core) k (node 0 (item 0 0)) ∙ get_or-map (node (length cores)) core k (item 0 0) (node 0 (item 0 0)) l

  stands : (m : ℕ) → m < length (more-nodes cores core nodes) → Stands cores core nodes m
  stands m l = elim (cases_lt m (length nodes)) [
    | inl low ↦ inl (low, old-node m low)
    | inr high ↦
        let k : m - length nodes < length core = omega (arith, l, high, long) in
        let is : length nodes + (m - length nodes) ≡ m = omega (arith, high) in
        inr (high, (m - length nodes, k, ap (node_at (more-nodes cores core nodes)) (sym is) ∙ new-node (m - length nodes) k, sym is))
  ]

  old-first : (t : ℕ) → t ≤ length cores → slice_index (more-firsts cores core nodes firsts) t ≡ slice_index firsts t
  old-first t l = get_or_append_left firsts (length (more-nodes cores core nodes) ∷ []) 0 t (let c = laid.count in omega (arith, c, l))

  new-first : slice_index (more-firsts cores core nodes firsts) (suc (length cores)) ≡ length (more-nodes cores core nodes)
  new-first = get_or_push firsts (length (more-nodes cores core nodes)) 0 (suc (length cores)) laid.count

  pub laid-more : IsLaid (cores ++ core ∷ []) (more-nodes cores core nodes) (more-firsts cores core nodes firsts)
  laid-more = record {
    start = old-first 0 (omega arith) ∙ laid.start;
    count = let c = laid.count in omega (arith, c, length_push firsts (length (more-nodes cores core nodes)), grown);
    end = ap (slice_index (more-firsts cores core nodes firsts)) (let e : length (cores ++ core ∷ []) ≡ suc (length cores) = omega (arith, grown) in e) ∙ new-first;
    within = λ t l. elim (cases_lt t (suc (length cores))) [
      | inl old ↦ (let w = laid.within t (omega (arith, old)) in omega (arith, w, long, old-first t (omega (arith, old))))
      | inr late ↦ (let e : t ≡ suc (length cores) = omega (arith, l, late, grown) in subst (λ u. slice_index (more-firsts cores core nodes firsts) u ≤ length (more-nodes cores core nodes)) (sym e) (omega (arith, new-first)))
    ];
    rising = λ t l. elim (cases_lt t (length cores)) [
      | inl old ↦ (let r = laid.rising t old in omega (arith, r, old-first t (omega (arith, old)), old-first (suc t) (omega (arith, old))))
      | inr late ↦
          let e : t ≡ length cores = omega (arith, l, late, grown) in
          subst (λ u. slice_index (more-firsts cores core nodes firsts) u ≤ slice_index (more-firsts cores core nodes firsts) (suc u)) (sym e)
          (let w = laid.within (length cores) (omega arith) in omega (arith, w, long, new-first, old-first (length cores) (omega arith)))
    ];
    has = λ t i l c. elim (cases_lt t (length cores)) [
      | inl old ↦
          let h = laid.has t i old (subst (λ r. Contains r i) (row_at-front cores core t old) c) in
          (h.0, (let k = h.1 in omega (arith, k, long)), old-node h.0 h.1 ∙ h.2)
      | inr late ↦
          let e : length cores ≡ t = omega (arith, l, late, grown) in
          let k = subst (λ r. Contains r i) (row_at-last cores core t e) c in
          (length nodes + k.0, (let b = k.1 in omega (arith, b, long)), new-node k.0 k.1 ∙ (λ j. node (e j) ((get_or_default core k.0 (item 0 0) i k.1 ∙ k.2) j)))
    ];
    known = λ m l. elim (stands m l) [
      | inl old ↦ (let k = laid.known m old.0 in let e = ap (λ (n : Node). n.state) old.1 in omega (arith, k, e, grown))
      | inr new ↦ (let e = ap (λ (n : Node). n.state) new.1.2 in omega (arith, e, grown))
    ];
    contained = λ m l. elim (stands m l) [
      | inl old ↦ subst (λ (n : Node). Contains (row_at (cores ++ core ∷ []) n.state) n.item) (sym old.1) (subst (λ r. Contains r (node_at nodes m).item) (sym (row_at-front cores core (node_at nodes m).state (laid.known m old.0))) (laid.contained m old.0))
      | inr new ↦ subst (λ (n : Node). Contains (row_at (cores ++ core ∷ []) n.state) n.item) (sym new.1.2) (subst (λ r. Contains r (get_or core new.1.0 (item 0 0))) (sym (row_at-last cores core (length cores) refl)) (Contains-get_or core new.1.0 (item 0 0) new.1.1))
    ];
    placed = λ m l. elim (stands m l) [
      | inl old ↦
          let p = laid.placed m old.0 in
          let k = laid.known m old.0 in
          let here = p.1 in
          subst (λ (n : Node). (j : ℕ) × (m ≡ slice_index (more-firsts cores core nodes firsts) n.state + j) × (j < length (row_at (cores ++ core ∷ []) n.state)) × (get_or (row_at (cores ++ core ∷ []) n.state) j (item 0 0) ≡ n.item)) (sym old.1)
          (p.0, (let e = old-first (node_at nodes m).state (omega (arith, k)) in omega (arith, here, e)), subst (λ r. p.0 < length r) (sym (row_at-front cores core (node_at nodes m).state k)) p.2, ap (λ r. get_or r p.0 (item 0 0)) (row_at-front cores core (node_at nodes m).state k) ∙ p.3)
      | inr new ↦
          let at = new.1.3 in
          subst (λ (n : Node). (j : ℕ) × (m ≡ slice_index (more-firsts cores core nodes firsts) n.state + j) × (j < length (row_at (cores ++ core ∷ []) n.state)) × (get_or (row_at (cores ++ core ∷ []) n.state) j (item 0 0) ≡ n.item)) (sym new.1.2)
          (new.1.0, (let e = laid.end in let f = old-first (length cores) (omega arith) in omega (arith, at, e, f)), subst (λ r. new.1.0 < length r) (sym (row_at-last cores core (length cores) refl)) new.1.1, ap (λ r. get_or r new.1.0 (item 0 0)) (row_at-last cores core (length cores) refl))
    ];
    above = λ m l. elim (stands m l) [
      | inl old ↦ subst (λ (n : Node). slice_index (more-firsts cores core nodes firsts) n.state ≤ m) (sym old.1) (let a = laid.above m old.0 in let k = laid.known m old.0 in omega (arith, a, old-first (node_at nodes m).state (omega (arith, k))))
      | inr new ↦ subst (λ (n : Node). slice_index (more-firsts cores core nodes firsts) n.state ≤ m) (sym new.1.2) (let e = laid.end in let h = new.0 in omega (arith, e, h, old-first (length cores) (omega arith)))
    ];
    below = λ m l. elim (stands m l) [
      | inl old ↦ subst (λ (n : Node). m < slice_index (more-firsts cores core nodes firsts) (suc n.state)) (sym old.1) (let b = laid.below m old.0 in let k = laid.known m old.0 in omega (arith, b, old-first (suc (node_at nodes m).state) (omega (arith, k))))
      | inr new ↦ subst (λ (n : Node). m < slice_index (more-firsts cores core nodes firsts) (suc n.state)) (sym new.1.2) (omega (arith, l, new-first))
    ];
    here = λ t m l low high. elim (cases_lt t (length cores)) [
      | inl old ↦
          let low' : slice_index firsts t ≤ m = omega (arith, low, old-first t (omega (arith, old))) in
          let high' : m < slice_index firsts (suc t) = omega (arith, high, old-first (suc t) (omega (arith, old))) in
          let w = laid.within (suc t) (omega (arith, old)) in
          ap (λ (n : Node). n.state) (old-node m (omega (arith, high', w))) ∙ laid.here t m old low' high'
      | inr late ↦
          let e : t ≡ length cores = omega (arith, l, late, grown) in
          let high' : m < length (more-nodes cores core nodes) = subst (λ n. m < n) new-first (subst (λ u. m < slice_index (more-firsts cores core nodes firsts) (suc u)) e high) in
          let low' : length nodes ≤ m = subst (λ n. n ≤ m) (old-first (length cores) (omega arith) ∙ laid.end) (subst (λ u. slice_index (more-firsts cores core nodes firsts) u ≤ m) e low) in
          elim (stands m high') [ inl old ↦ absurd (let a = old.0 in omega (arith, a, low')) | inr new ↦ ap (λ (n : Node). n.state) new.1.2 ∙ sym e ]
    ];
  }
    where
      grown : length (cores ++ core ∷ []) ≡ length cores + 1
      grown = length_push cores core

pub length-front : {X : Type 0} (xs : List X) (n : ℕ) → n ≤ length xs → length (take n xs) ≡ n
length-front xs n l = omega (arith, length-take n xs, l)
