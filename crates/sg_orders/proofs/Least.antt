-- How the least layers are found, those with most predecessors first.
use Rattle.std.specs.Prelude.{◌≡◌, ℕ, ◌+◌, ◌*◌, ◌%◌, ◌<◌, ◌≤◌, Bool, false, nat_eq, max, List, length, option_map, unwrap_or}
use Rattle.std.proofs.Common.{sym, ◌∙◌, ap, subst, get_or, set, arith, inl, inr, length-set}
use Rattle.std.specs.Ordering.{ord_max, nat_cmp}
use Rattle.std.proofs.lemmas.Bool.{cases_lt, cases_eq}
use Rattle.std.proofs.lemmas.Grind.{common_steps}
use Rattle.std.proofs.lemmas.Option.{slice_get-get_or}
use Rattle.std.proofs.lemmas.List.{get_or-set_same, get_or-set_other}
use Rattle.sg_sets.specs.Relations.{predecessors}
use Rattle.sg_sets.specs.Members.{IsNext}
use Rattle.sg_sets.specs.Rows.{Holds, row_of}
use Rattle.sg_kinds.specs.declared.spec.Attr.{Attr}
use Rattle.sg_kinds.specs.Specification.{is_way_inherited}
use Rattle.sg_orders.specs.LeastLayers.{is_inherited_in, IsAllowed, IsLeastLayer, AreLeastLayers}
use Rattle.sg_orders.specs.StrictOrders.{IsStrictOrder}
use Rattle.sg_orders.proofs.Rising.{rising, fewer}

pub inherited_read : (attrs : List Attr) (a : ℕ) (d : Attr) → a < length attrs → is_inherited_in attrs a ≡ is_way_inherited (get_or attrs a d).way
inherited_read attrs a d low = ap (λ o. unwrap_or (option_map (λ (y : Attr). is_way_inherited y.way) o) false) (slice_get-get_or attrs a d low)

-- the greatest layer of the successors below n
pub record IsGreatestTo (rows : List (List Bool)) (a : ℕ) (layers : List ℕ) (n g : ℕ) : Type 0 where
  pub above : (b : ℕ) → b < n → Holds rows a b → get_or layers b 0 ≤ g
  pub least : (m : ℕ) → ((b : ℕ) → Holds rows a b → get_or layers b 0 ≤ m) → g ≤ m

pub max_is : (x y : ℕ) → ord_max nat_cmp x y ≡ max x y
max_is x y = grind (arith, common_steps)

pub greatest_none : (rows : List (List Bool)) (a : ℕ) (layers : List ℕ) → IsGreatestTo rows a layers 0 0
greatest_none rows a layers = record { above = λ b low r. absurd (omega (arith, low)); least = λ m all. omega arith }

-- the next successor from n on
pub greatest_next : (rows : List (List Bool)) (a : ℕ) (layers : List ℕ) (n k g h : ℕ) → IsGreatestTo rows a layers n g → IsNext (row_of rows a) n k → h ≡ ord_max nat_cmp g (get_or layers k 0) → IsGreatestTo rows a layers (k + 1) h
greatest_next rows a layers n k g h to next made = let is : h ≡ max g (get_or layers k 0) = made ∙ max_is g (get_or layers k 0) in record {
  above = λ b low r. elim (cases_lt b n) [
    | inl under ↦ let old = to.above b under r in omega (arith, old, is)
    | inr past ↦ let first = next.least b past r in let here : b ≡ k = omega (arith, low, first) in rw here (omega (arith, is))
  ];
  least = λ m all. let old = to.least m all in let one = all k next.member in omega (arith, old, one, is);
}

-- no successor is left
pub greatest_above : (rows : List (List Bool)) (a : ℕ) (layers : List ℕ) (n g : ℕ) → IsGreatestTo rows a layers n g → ((b : ℕ) → n ≤ b → ¬ (Holds rows a b)) → (b : ℕ) → Holds rows a b → get_or layers b 0 ≤ g
greatest_above rows a layers n g to none b r = elim (cases_lt b n) [ inl under ↦ to.above b under r | inr past ↦ absurd (none b past r) ]

module _ (attrs : List Attr) (rows : List (List Bool)) where
  pub record IsDone (layers : List ℕ) (a : ℕ) : Type 0 where
    pub least : IsLeastLayer attrs rows (λ b. get_or layers b 0) a
    pub low : get_or layers a 0 + 2 * predecessors rows a ≤ 2 * length attrs

  same_allowed : (layers other : List ℕ) (a m : ℕ) → ((b : ℕ) → Holds rows a b → get_or other b 0 ≡ get_or layers b 0) → IsAllowed attrs rows (λ b. get_or layers b 0) a m → IsAllowed attrs rows (λ b. get_or other b 0) a m
  same_allowed layers other a m same is = record {
    positive = is.positive;
    kind = is.kind;
    after = λ b h. let old = is.after b h in let e = same b h in omega (arith, old, e);
  }

  -- it stays so where its layer and those of its successors stay
  stays : (layers other : List ℕ) (a : ℕ) → get_or other a 0 ≡ get_or layers a 0 → ((b : ℕ) → Holds rows a b → get_or other b 0 ≡ get_or layers b 0) → IsDone layers a → IsDone other a
  stays layers other a here same is = record {
    least = record {
      allowed = subst (IsAllowed attrs rows (λ b. get_or other b 0) a) (sym here) (same_allowed layers other a (get_or layers a 0) same is.least.allowed);
      least = λ m may. let old = is.least.least m (same_allowed other layers a m (λ b h. sym (same b h)) may) in omega (arith, old, here);
    };
    low = let old = is.low in omega (arith, old, here);
  }

  -- the layer that an attribute gets
  pub record IsChosen (layers : List ℕ) (a low v : ℕ) : Type 0 where
    pub above : (b : ℕ) → Holds rows a b → get_or layers b 0 ≤ low
    pub least : (m : ℕ) → ((b : ℕ) → Holds rows a b → get_or layers b 0 ≤ m) → low ≤ m
    pub positive : 1 ≤ v
    pub kind : is_inherited_in attrs a ≡ nat_eq (v % 2) 0
    pub no_lower : low ≤ v
    pub first : (m : ℕ) → 1 ≤ m → is_inherited_in attrs a ≡ nat_eq (m % 2) 0 → low ≤ m → v ≤ m
    pub near : v ≤ low + 2

  -- those with at least rank predecessors have their layers, and of those with one fewer the ones before a
  pub record AreDoneTo (layers : List ℕ) (passed a : ℕ) : Type 0 where
    pub count : length layers ≡ length attrs
    pub done : (c : ℕ) → c < length attrs → length attrs ≤ predecessors rows c + passed → IsDone layers c
    pub now : (c : ℕ) → c < a → c < length attrs → length attrs ≤ predecessors rows c + (passed + 1) → IsDone layers c

module _ (attrs : List Attr) (rows : List (List Bool)) (size : length rows ≡ length attrs) (order : IsStrictOrder rows) where
  chosen_done : (layers : List ℕ) (passed a low v : ℕ) → AreDoneTo attrs rows layers passed a → a < length attrs → predecessors rows a + passed + 1 ≡ length attrs → IsChosen attrs rows layers a low v → IsDone attrs rows (set layers a v) a
  chosen_done layers passed a low v to here rank is =
      let there : a < length layers = let c = to.count in omega (arith, here, c) in
      let got : get_or (set layers a v) a 0 ≡ v = get_or-set_same layers a v 0 there in
      let same : (b : ℕ) → Holds rows a b → get_or (set layers a v) b 0 ≡ get_or layers b 0 = λ b h. get_or-set_other layers a b v 0 (λ e. order.irreflexive a (subst (Holds rows a) e h)) in
      record {
        least = record {
          allowed = subst (IsAllowed attrs rows (λ b. get_or (set layers a v) b 0) a) (sym got) (record {
            positive = is.positive;
            kind = is.kind;
            after = λ b h. let e = same b h in let l = is.above b h in let n = is.no_lower in omega (arith, e, l, n);
          });
          least = λ m may.
              let most = is.least m (λ b h. let e = same b h in let l = may.after b h in omega (arith, e, l)) in
              let f = is.first m may.positive may.kind most in
              omega (arith, f, got);
        };
        low =
            let most = is.least (2 * passed) (λ b h.
            let d = to.done b (let w = order.within a b h in omega (arith, w, size)) (let r = rising rows order a b h in omega (arith, r, rank)) in
            let r = rising rows order a b h in
            let l = d.low in
            omega (arith, l, r, rank)) in
            let n = is.near in
            omega (arith, got, most, n, rank);
      }

  -- the layers of an attribute's successors are low
  pub successors_low : (layers : List ℕ) (passed a : ℕ) → AreDoneTo attrs rows layers passed a → predecessors rows a + passed + 1 ≡ length attrs → (b : ℕ) → Holds rows a b → get_or layers b 0 ≤ 2 * length attrs
  successors_low layers passed a to rank b h =
      let r = rising rows order a b h in
      let d = to.done b (let w = order.within a b h in omega (arith, w, size)) (omega (arith, r, rank)) in
      let l = d.low in
      omega (arith, l)

  other_stays : (layers : List ℕ) (passed a low v c : ℕ) → predecessors rows a + passed + 1 ≡ length attrs → (c ≡ a → ⊥) → length attrs ≤ predecessors rows c + (passed + 1) → IsDone attrs rows layers c → IsDone attrs rows (set layers a v) c
  other_stays layers passed a low v c rank other high is =
      stays attrs rows layers (set layers a v) c (get_or-set_other layers a c v 0 other)
      (λ b h. get_or-set_other layers a b v 0 (λ e. let r = rising rows order c b h in let same = ap (predecessors rows) e in omega (arith, r, same, rank, high))) is

  pub done_more : (layers : List ℕ) (passed a low v : ℕ) → AreDoneTo attrs rows layers passed a → a < length attrs → predecessors rows a + passed + 1 ≡ length attrs → IsChosen attrs rows layers a low v → AreDoneTo attrs rows (set layers a v) passed (a + 1)
  done_more layers passed a low v to here rank is = record {
    count = length-set layers a v ∙ to.count;
    done = λ c under high. other_stays layers passed a low v c rank (λ e. let same = ap (predecessors rows) e in omega (arith, same, rank, high)) (omega (arith, high)) (to.done c under high);
    now = λ c under low' high. elim (cases_eq c a) [
      | inl e ↦ subst (IsDone attrs rows (set layers a v)) (sym e) (chosen_done layers passed a low v to here rank is)
      | inr other ↦ other_stays layers passed a low v c rank other high (to.now c (omega (arith, under, other)) low' high)
    ];
  }

  pub done_over : (layers : List ℕ) (passed a : ℕ) → AreDoneTo attrs rows layers passed a → (predecessors rows a + passed + 1 ≡ length attrs → ⊥) → AreDoneTo attrs rows layers passed (a + 1)
  done_over layers passed a to other = record {
    count = to.count;
    done = to.done;
    now = λ c under low high. elim (cases_lt c a) [
      | inl before ↦ to.now c before low high
      | inr past ↦ to.done c low (let e : c ≡ a = omega (arith, under, past) in let same = ap (predecessors rows) e in omega (arith, same, high, other))
    ];
  }

  pub done_next : (layers : List ℕ) (passed a : ℕ) → AreDoneTo attrs rows layers passed a → length attrs ≤ a → AreDoneTo attrs rows layers (passed + 1) 0
  done_next layers passed a to end = record {
    count = to.count;
    done = λ c low high. to.now c (omega (arith, low, end)) low high;
    now = λ c under low high. absurd (omega (arith, under));
  }

  pub done_none : (layers : List ℕ) → length layers ≡ length attrs → AreDoneTo attrs rows layers 0 0
  done_none layers long = record {
    count = long;
    done = λ c low high. absurd (let f = fewer rows order c (omega (arith, low, size)) in omega (arith, f, high, size));
    now = λ c under low high. absurd (omega (arith, under));
  }

  pub done_all : (layers : List ℕ) (passed : ℕ) → AreDoneTo attrs rows layers passed 0 → length attrs ≤ passed → AreLeastLayers attrs rows layers
  done_all layers passed to end = record {
    count = to.count;
    each = λ a low. (to.done a low (omega (arith, end))).least;
    low = λ a low. let d = (to.done a low (omega (arith, end))).low in omega (arith, d);
  }
