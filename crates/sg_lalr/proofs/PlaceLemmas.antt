-- Lemmas on the place of an item among nodes in their order.
use Rattle.std.proofs.Common.{◌≡◌, ℕ, zero, suc, ◌+◌, ◌<◌, ◌≤◌, inl, inr, cond, List, [], ◌∷◌, length, get_or, refl, ap, ◌∙◌, subst, arith}
use Rattle.std.specs.Prelude.{slice_index}
use Rattle.std.proofs.lemmas.Bool.{cases_lt, eq-eqb, ne_eqb}
use Rattle.sg_grammar.specs.Grammar.{Grammar}
use Rattle.sg_lalr.specs.declared.states.Move.{Move}
use Rattle.sg_lalr.specs.declared.states.Origin.{Origin}
use Rattle.sg_lalr.specs.declared.lookaheads.Node.{Node}
use Rattle.sg_lalr.specs.Items.{Item, item, Before}
use Rattle.sg_lalr.specs.Automaton.{row_at, move_at, leads_to, IsSorted, IsWhole}
use Rattle.sg_lalr.specs.Lookaheads.{node_at, IsLaid}
use Rattle.sg_lalr.proofs.RisingLemmas.{Before-itself, pairs-tail}
use Rattle.sg_lalr.proofs.LookLemmas.{range-below}

before-then : (i j k : Item) → Before i j → Before j k → Before i k
before-then i j k (inl a) (inl b) = inl (omega (arith, a, b))
before-then i j k (inl a) (inr b) = inl (let e = b.0 in omega (arith, a, e))
before-then i j k (inr a) (inl b) = inl (let e = a.0 in omega (arith, b, e))
before-then i j k (inr a) (inr b) = inr (a.0 ∙ b.0, (let l = a.1 in let m = b.1 in omega (arith, l, m)))

-- the items between two places rise
abbrev pub RisesIn : List Node → ℕ → ℕ → Type 0
RisesIn nodes from to = (m n : ℕ) → from ≤ m → m < n → n < to → Before (node_at nodes m).item (node_at nodes n).item

-- nodes of one state stand in the order of their items
pub nodes-rise : (g : Grammar) (kernels cores : List (List Item)) (moves : List (List Move)) (origins : List Origin) → IsWhole g kernels cores moves origins → (nodes : List Node) (firsts : List ℕ) → IsLaid cores nodes firsts → (s m n : ℕ) → s < length cores → slice_index firsts s ≤ m → m < n → n < slice_index firsts (suc s) → Before (node_at nodes m).item (node_at nodes n).item
nodes-rise g kernels cores moves origins whole nodes firsts laid s m n low l k h =
    let high : m < slice_index firsts (suc s) = omega (arith, k, h) in
    let above : slice_index firsts s ≤ n = omega (arith, l, k) in
    let p = laid.placed m (range-below cores nodes firsts laid s m low high) in
    let q = laid.placed n (range-below cores nodes firsts laid s n low h) in
    let sm = laid.here s m low l high in
    let sn = laid.here s n low above h in
    let at-m : m ≡ slice_index firsts s + p.0 = subst (λ z. m ≡ slice_index firsts z + p.0) sm p.1 in
    let at-n : n ≡ slice_index firsts s + q.0 = subst (λ z. n ≡ slice_index firsts z + q.0) sn q.1 in
    let in-n : q.0 < length (row_at cores s) = subst (λ z. q.0 < length (row_at cores z)) sn q.2 in
    let is-m : get_or (row_at cores s) p.0 (item 0 0) ≡ (node_at nodes m).item = subst (λ z. get_or (row_at cores z) p.0 (item 0 0) ≡ (node_at nodes m).item) sm p.3 in
    let is-n : get_or (row_at cores s) q.0 (item 0 0) ≡ (node_at nodes n).item = subst (λ z. get_or (row_at cores z) q.0 (item 0 0) ≡ (node_at nodes n).item) sn q.3 in
    subst (λ x. Before x (node_at nodes n).item) is-m (subst (Before (get_or (row_at cores s) p.0 (item 0 0))) is-n ((whole.part.closed s low).rising p.0 q.0 (item 0 0) (omega (arith, at-m, at-n, k)) in-n))

-- how far a place is found: those below low are less, and those from high on are not
pub record Halved (Less : ℕ → Type 0) (from to low high : ℕ) : Type 0 where
  pub above : from ≤ low
  pub order : low ≤ high
  pub below : high ≤ to
  pub less : (m : ℕ) → from ≤ m → m < low → Less m
  pub rest : (m : ℕ) → high ≤ m → m < to → Less m → ⊥

module _ (Less : ℕ → Type 0) (from to : ℕ) (falls : (m n : ℕ) → from ≤ m → m < n → n < to → Less n → Less m) where
  pub halved-all : from ≤ to → Halved Less from to from to
  halved-all l = record {
    above = omega arith;
    order = l;
    below = omega arith;
    less = λ m a b. absurd (omega (arith, a, b));
    rest = λ m a b h. absurd (omega (arith, a, b));
  }

  pub halved-up : (low high middle : ℕ) → low ≤ middle → middle < high → Less middle → Halved Less from to low high → Halved Less from to (middle + 1) high
  halved-up low high middle a b is h = record {
    above = let l = h.above in omega (arith, l, a);
    order = omega (arith, b);
    below = h.below;
    less = λ m l k. elim (cases_lt m middle) [
      | inl early ↦ falls m middle l early (let t = h.below in omega (arith, b, t)) is
      | inr late ↦ subst Less (let e : middle ≡ m = omega (arith, k, late) in e) is
    ];
    rest = h.rest;
  }

  pub halved-down : (low high middle : ℕ) → low ≤ middle → middle < high → (Less middle → ⊥) → Halved Less from to low high → Halved Less from to low middle
  halved-down low high middle a b not h = record {
    above = h.above;
    order = a;
    below = let t = h.below in omega (arith, b, t);
    less = h.less;
    rest = λ m l k is. elim (cases_lt middle m) [
      | inl late ↦ not (falls middle m (let f = h.above in omega (arith, f, a)) late k is)
      | inr early ↦ not (subst Less (let e : m ≡ middle = omega (arith, l, early) in e) is)
    ];
  }

-- nodes whose items are before an item
abbrev pub NodeBefore : List Node → Item → ℕ → Type 0
NodeBefore nodes i m = Before (node_at nodes m).item i

pub node-falls : (nodes : List Node) (from to : ℕ) (i : Item) → RisesIn nodes from to → (m n : ℕ) → from ≤ m → m < n → n < to → NodeBefore nodes i n → NodeBefore nodes i m
node-falls nodes from to i rises m n l k h b = before-then (node_at nodes m).item (node_at nodes n).item i (rises m n l k h) b

pub node-only : (nodes : List Node) (from to low high : ℕ) (i : Item) → RisesIn nodes from to → high ≤ low → Halved (NodeBefore nodes i) from to low high → (m : ℕ) → from ≤ m → m < to → (node_at nodes m).item ≡ i → m ≡ low
node-only nodes from to low high i rises end h m l k is = elim (cases_lt m low) [
  | inl early ↦ absurd (Before-itself i (subst (λ j. Before j i) is (h.less m l early)))
  | inr late ↦ elim (cases_lt low m) [
    | inl more ↦ absurd (h.rest low end (omega (arith, more, k)) (subst (Before (node_at nodes low).item) is (rises low m h.above more k)))
    | inr same ↦ omega (arith, late, same)
  ]
]

-- moves on a lesser symbol
abbrev pub MoveBefore : List Move → ℕ → ℕ → Type 0
MoveBefore row X m = (move_at row m).symbol < X

pub move-falls : (row : List Move) (X : ℕ) → IsSorted row → (m n : ℕ) → 0 ≤ m → m < n → n < length row → MoveBefore row X n → MoveBefore row X m
move-falls row X sorted m n l k h b = let s = sorted m n (record { symbol = 0; target = 0 }) k h in omega (arith, s, b)

pub move-only : (row : List Move) (X low high : ℕ) → IsSorted row → high ≤ low → Halved (MoveBefore row X) 0 (length row) low high → (m : ℕ) → m < length row → (move_at row m).symbol ≡ X → m ≡ low
move-only row X low high sorted end h m k is = elim (cases_lt m low) [
  | inl early ↦ absurd (let l = h.less m (omega arith) early in omega (arith, l, is))
  | inr late ↦ elim (cases_lt low m) [
    | inl more ↦ absurd (h.rest low end (omega (arith, more, k)) (let s = sorted low m (record { symbol = 0; target = 0 }) more k in omega (arith, s, is)))
    | inr same ↦ omega (arith, late, same)
  ]
]

-- what a row says of a symbol that one of its moves is on, and of one that none is on
pub target-at : (row : List Move) (X k : ℕ) → IsSorted row → k < length row → (move_at row k).symbol ≡ X → leads_to row X ≡ (move_at row k).target
target-at [] X k sorted l is = absurd (omega (arith, l))
target-at (m ∷ row) X zero sorted l is = ap (λ b. cond b m.target (leads_to row X)) (eq-eqb m.symbol X is)
target-at (m ∷ row) X (suc k) sorted l is =
    let low = sorted 0 (suc k) (record { symbol = 0; target = 0 }) (omega arith) l in
    ap (λ b. cond b m.target (leads_to row X)) (ne_eqb m.symbol X (λ e. omega (arith, low, e, is))) ∙ target-at row X k (pairs-tail (λ (i j : Move). i.symbol < j.symbol) m row sorted) (omega (arith, l)) is

pub target-none : (row : List Move) (X : ℕ) → ((k : ℕ) → k < length row → (move_at row k).symbol ≡ X → ⊥) → leads_to row X ≡ 0
target-none [] X none = refl
target-none (m ∷ row) X none =
    ap (λ b. cond b m.target (leads_to row X)) (ne_eqb m.symbol X (none 0 (omega arith))) ∙ target-none row X (λ k l is. none (suc k) (omega (arith, l)) is)
