-- What `remove` makes is no larger.
use Rattle.std.specs.Prelude.{◌≡◌, refl, ℕ, zero, suc, ◌≤◌, Bool, true, false, ◌&&◌, cond, Option, Some, None}
use Rattle.std.specs.Option.{option_map_or}
use Rattle.std.proofs.Common.{sym, ap, ◌∙◌, subst, arith}
use Rattle.sg_kinds.proofs.TermLaws.{put_sub}
use Rattle.sg_kinds.specs.Places.{Place, put, sub}
use Rattle.sg_kinds.specs.Sound.{IsSmall}
use Rattle.sg_kinds.specs.Terms.{Term, Leaf, Node, NoTerm, AndTerm, nodes_of, height_of}
use Rattle.sg_kinds.specs.declared.spec.Spec.{Spec}
use Rattle.sg_build.proofs.Counted.{nodes_put, height_put}
use Rattle.sg_script.specs.declared.message.Message.TheVariants as message
use Rattle.sg_select.specs.Paths.{spine_from}
use Rattle.sg_edits.specs.Choice.{Picked, Put, Refused, one}
use Rattle.sg_edits.specs.Edits.{at_term, is_only, is_never_empty, left_at, removed, rest_behind, rest_of, without}

rest_nodes : (x : Term) → nodes_of (rest_of x) ≤ nodes_of x
rest_nodes (Leaf p v) = omega arith
rest_nodes (Node op n elided NoTerm) = omega arith
rest_nodes (Node op n elided (AndTerm a NoTerm)) = omega arith
rest_nodes (Node op n elided (AndTerm a (AndTerm b ts))) = omega arith

rest_low : (x : Term) → height_of (rest_of x) ≤ height_of x
rest_low (Leaf p v) = omega arith
rest_low (Node op n elided NoTerm) = omega arith
rest_low (Node op n elided (AndTerm a NoTerm)) = omega arith
rest_low (Node op n elided (AndTerm a (AndTerm b ts))) = omega arith

behind_nodes : (n : ℕ) (x : Term) → nodes_of (rest_behind n x) ≤ nodes_of x
behind_nodes zero x = omega arith
behind_nodes (suc n) x = let again = behind_nodes n x in let here = rest_nodes (rest_behind n x) in omega (arith, again, here)

behind_low : (n : ℕ) (x : Term) → height_of (rest_behind n x) ≤ height_of x
behind_low zero x = omega arith
behind_low (suc n) x = let again = behind_low n x in let here = rest_low (rest_behind n x) in omega (arith, again, here)

small_rest : (t x : Term) (p : Place) (n : ℕ) → sub t p ≡ Some x → IsSmall t → IsSmall (put t p (rest_behind n x))
small_rest t x p n at small =
    let nodes = nodes_put t p x (rest_behind n x) at in
    let fewer = behind_nodes n x in
    let height = height_put t p x (rest_behind n x) at in
    let was = sym (ap height_of (put_sub t p x at)) ∙ height_put t p x x at in
    let lower = behind_low n x in
    (omega (arith, nodes, fewer, small.0), omega (arith, height, was, lower, small.1))

module _ (spec : Spec) (t s : Term) (at : Place) (select : Picked) (small : IsSmall t) (n : ℕ) where
  by_test : (x : Term) (p : Place) (b : Bool) → sub t p ≡ Some x → cond b (Refused message.LastElement) (Put p (rest_behind n x) (one (left_at spec t p (rest_behind n x)))) ≡ Put at s select → IsSmall (put t at s)
  by_test x p true there e = absurd cc
  by_test x p false there e =
      let place : p ≡ at = cc in
      let term : rest_behind n x ≡ s = cc in
      subst (λ v. IsSmall (put t v s)) place (subst (λ y. IsSmall (put t p y)) term (small_rest t x p n there small))

  by_term : (p : Place) (o : Option Term) → sub t p ≡ o → option_map_or (without spec t false n p) o (Refused message.NoPlace) ≡ Put at s select → IsSmall (put t at s)
  by_term p None there e = absurd cc
  by_term p (Some x) there e = by_test x p (is_only spec t p (rest_behind n x) && is_never_empty spec x) there e

  by_spine : (o : Option Place) → option_map_or (λ p. at_term t p (without spec t false n p)) o (Refused message.NotInList) ≡ Put at s select → IsSmall (put t at s)
  by_spine None e = absurd cc
  by_spine (Some p) e = by_term p (sub t p) refl e

pub removed_small : (spec : Spec) (t s : Term) (u at : Place) (n : ℕ) (select : Picked) → removed spec t u n ≡ Put at s select → IsSmall t → IsSmall (put t at s)
removed_small spec t s u at n select e small = by_spine spec t s at select small n (spine_from spec t u) e
