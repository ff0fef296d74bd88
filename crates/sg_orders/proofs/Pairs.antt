-- The greatest of a list, and the visits that layers make.
use Rattle.std.specs.Prelude.{◌≡◌, ℕ, zero, suc, ◌+◌, ◌<◌, ◌≤◌, max, List, [], ◌∷◌, ◌++◌, length, take, map, slice_index}
use Rattle.std.specs.Ordering.{ord_max, nat_cmp}
use Rattle.std.proofs.Common.{sym, ap, ◌∙◌, get_or, arith, inl, inr}
use Rattle.std.proofs.lemmas.Bool.{cases_lt}
use Rattle.std.proofs.lemmas.List.{take_more, length-map, get_or-map, map_push, same_lists}
use Rattle.sg_kinds.specs.Instances.{below}
use Rattle.sg_kinds.specs.ValidPlans.{pair_of}
use Rattle.sg_kinds.specs.Visits.{greatest}
use Rattle.sg_dependencies.proofs.Below.{get_or-map-below, length-map-below}
use Rattle.sg_orders.specs.VisitRows.{pair_count}
use Rattle.sg_orders.proofs.Least.{max_is}

pub greatest_push : (ns : List ℕ) (n : ℕ) → greatest (ns ++ n ∷ []) ≡ max (greatest ns) n
greatest_push [] n = omega arith
greatest_push (m ∷ ns) n = let e = greatest_push ns n in omega (arith, e)

pub greatest_high : (ns : List ℕ) (i d : ℕ) → i < length ns → get_or ns i d ≤ greatest ns
greatest_high [] i d low = absurd (omega (arith, low))
greatest_high (m ∷ ns) zero d low = omega arith
greatest_high (m ∷ ns) (suc i) d low = let e = greatest_high ns i d (omega (arith, low)) in omega (arith, e)

-- the greatest is one of them
pub record IsOne (ns : List ℕ) : Type 0 where
  pub place : ℕ
  pub low : place < length ns
  pub is : get_or ns place 0 ≡ greatest ns

pub greatest_one : (n : ℕ) (ns : List ℕ) → IsOne (n ∷ ns)
greatest_one n [] = record { place = 0; low = omega arith; is = omega arith }
greatest_one n (m ∷ ns) =
    let rest = greatest_one m ns in
    let l = rest.low in
    let e = rest.is in
    elim (cases_lt n (greatest (m ∷ ns))) [
      | inl less ↦ record { place = suc rest.place; low = omega (arith, l); is = omega (arith, e, less) }
      | inr more ↦ record { place = 0; low = omega arith; is = omega (arith, more) }
    ]

pub greatest_least : (ns : List ℕ) (m : ℕ) → ((i : ℕ) → i < length ns → get_or ns i 0 ≤ m) → greatest ns ≤ m
greatest_least [] m all = omega arith
greatest_least (n ∷ ns) m all =
    let rest = greatest_least ns m (λ i low. all (suc i) (omega (arith, low))) in
    let here = all zero (omega arith) in
    omega (arith, rest, here)

pub pairs_more : (layers : List ℕ) (i layer c d : ℕ) → i < length layers → layer ≡ get_or layers i 0 → c ≡ pair_count (take i layers) → d ≡ ord_max nat_cmp c (pair_of layer) → d ≡ pair_count (take (i + 1) layers)
pairs_more layers i layer c d low at is made =
    let push : pair_count (take (i + 1) layers) ≡ max 1 (max (greatest (map pair_of (take i layers))) (pair_of layer)) =
    ap pair_count (take_more layers i 0 low) ∙ ap (λ ns. max 1 (greatest ns)) (map_push pair_of (take i layers) (get_or layers i 0))
    ∙ ap (max 1) (greatest_push (map pair_of (take i layers)) (pair_of (get_or layers i 0))) ∙ ap (λ l. max 1 (max (greatest (map pair_of (take i layers))) (pair_of l))) (sym at) in
    omega (arith, push, is, made ∙ max_is c (pair_of layer))

pub pair_high : (layers : List ℕ) (i : ℕ) → i < length layers → pair_of (get_or layers i 0) ≤ pair_count layers
pair_high layers i low =
    let h = greatest_high (map pair_of layers) i 0 (omega (arith, length-map layers pair_of, low)) in
    omega (arith, h, get_or-map pair_of layers i 0 0 low)

-- a list by its places
pub map_by_places : {B : Type 0} (f : ℕ → B) (xs : List ℕ) → map (λ a. f (slice_index xs a)) (below (length xs)) ≡ map f xs
map_by_places f xs = same_lists (map (λ a. f (slice_index xs a)) (below (length xs))) (map f xs) (length-map-below (λ a. f (slice_index xs a)) (length xs) ∙ sym (length-map xs f))
    (λ k d low. let under : k < length xs = omega (arith, low, length-map-below (λ a. f (slice_index xs a)) (length xs)) in
    get_or-map-below (λ a. f (slice_index xs a)) (length xs) k d under ∙ sym (get_or-map f xs k 0 d under))
