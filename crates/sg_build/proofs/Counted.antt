-- How many nodes a term has, and how deep it is, with another subterm in a place.
use Rattle.std.specs.Prelude.{◌≡◌, refl, ℕ, zero, suc, ◌+◌, ◌<◌, ◌≤◌, max, List, [], ◌∷◌, length, Option, Some, None, slice_get, option_and_then}
use Rattle.std.proofs.Common.{ap, arith, get_or}
use Rattle.std.proofs.lemmas.Option.{none-some, same_Some}
use Rattle.sg_kinds.specs.Evaluation.{untyped}
use Rattle.sg_kinds.specs.Terms.{Term, Terms, Leaf, Node, NoTerm, AndTerm, terms_of, kids_of, nodes_of, nodes_of_all, height_of, height_of_all}
use Rattle.sg_kinds.specs.Places.{Place, child, sub, put, with_child, with_kid}
use Rattle.sg_build.specs.Rest.{rest_height}

-- nodes
nodes-with_kid : (ts : Terms) (k : ℕ) (x s : Term) → slice_get (terms_of ts) k ≡ Some x → nodes_of_all (with_kid ts k s) + nodes_of x ≡ nodes_of_all ts + nodes_of s
nodes-with_kid NoTerm k x s at = absurd (none-some x at)
nodes-with_kid (AndTerm t ts) zero x s at = let same : nodes_of t ≡ nodes_of x = ap nodes_of (same_Some t x at) in omega (arith, same)
nodes-with_kid (AndTerm t ts) (suc k) x s at = let rest = nodes-with_kid ts k x s at in omega (arith, rest)

nodes-with_child : (n : Term) (k : ℕ) (x s : Term) → child k n ≡ Some x → nodes_of (with_child n k s) + nodes_of x ≡ nodes_of n + nodes_of s
nodes-with_child (Leaf p v) k x s at = absurd (none-some x at)
nodes-with_child (Node op scheme elided ts) k x s at = let rest = nodes-with_kid ts k x s at in omega (arith, rest)

pub nodes_put : (t : Term) (u : Place) (x s : Term) → sub t u ≡ Some x → nodes_of (put t u s) + nodes_of x ≡ nodes_of t + nodes_of s
nodes_put t [] x s at = let same : nodes_of t ≡ nodes_of x = ap nodes_of (same_Some t x at) in omega (arith, same)
nodes_put t (k ∷ u) x s at = by (sub t u) refl at (nodes_put t u)
  where
    by : (o : Option Term) → sub t u ≡ o → option_and_then (child k) o ≡ Some x → ((x s : Term) → sub t u ≡ Some x → nodes_of (put t u s) + nodes_of x ≡ nodes_of t + nodes_of s)
        → nodes_of (elim o as (λ _. Term) [ None ↦ t | Some n ↦ put t u (with_child n k s) ]) + nodes_of x ≡ nodes_of t + nodes_of s
    by None is got again = absurd (none-some x got)
    by (Some n) is got again = let above = again n (with_child n k s) is in let here = nodes-with_child n k x s got in omega (arith, above, here)

-- depth
some_height : (t : Term) → 1 ≤ height_of t
some_height (Leaf p v) = omega arith
some_height (Node op scheme elided ts) = omega arith

height-with_kid : (ts : Terms) (k : ℕ) (x s l : Term) → slice_get (terms_of ts) k ≡ Some x → height_of l ≤ height_of s → height_of_all (with_kid ts k s) ≡ max (height_of_all (with_kid ts k l)) (height_of s)
height-with_kid NoTerm k x s l at low = absurd (none-some x at)
height-with_kid (AndTerm t ts) zero x s l at low = omega (arith, low)
height-with_kid (AndTerm t ts) (suc k) x s l at low = let rest = height-with_kid ts k x s l at low in omega (arith, rest)

height-with_child : (n : Term) (k : ℕ) (x s l : Term) → child k n ≡ Some x → height_of l ≤ height_of s → height_of (with_child n k s) ≡ max (height_of (with_child n k l)) (suc (height_of s))
height-with_child (Leaf p v) k x s l at low = absurd (none-some x at)
height-with_child (Node op scheme elided ts) k x s l at low = let rest = height-with_kid ts k x s l at low in omega (arith, rest)

pub height_put : (t : Term) (u : Place) (x s : Term) → sub t u ≡ Some x → height_of (put t u s) ≡ max (rest_height t u) (length u + height_of s)
height_put t [] x s at = let low = some_height s in omega (arith, low)
height_put t (k ∷ u) x s at = by (sub t u) refl at (height_put t u)
  where
    by : (o : Option Term) → sub t u ≡ o → option_and_then (child k) o ≡ Some x → ((x s : Term) → sub t u ≡ Some x → height_of (put t u s) ≡ max (rest_height t u) (length u + height_of s))
        → height_of (elim o as (λ _. Term) [ None ↦ t | Some n ↦ put t u (with_child n k s) ])
        ≡ max (height_of (elim o as (λ _. Term) [ None ↦ t | Some n ↦ put t u (with_child n k (Leaf 0 untyped)) ])) (suc (length u) + height_of s)
    by None is got again = absurd (none-some x got)
    by (Some n) is got again =
        let one = again n (with_child n k s) is in
        let two = again n (with_child n k (Leaf 0 untyped)) is in
        let here = height-with_child n k x s (Leaf 0 untyped) got (some_height s) in
        omega (arith, one, two, here)

-- a child is no deeper than the deepest
pub height_at : (ts : List Term) (i : ℕ) (d : Term) → i < length ts → height_of (get_or ts i d) ≤ height_of_all (kids_of ts)
height_at [] i d low = absurd (omega (arith, low))
height_at (t ∷ ts) zero d low = omega arith
height_at (t ∷ ts) (suc i) d low = let rest = height_at ts i d (omega (arith, low)) in omega (arith, rest)
