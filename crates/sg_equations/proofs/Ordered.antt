-- Repeats among keys are repeats among what has them.
use Rattle.std.proofs.Common.{◌≡◌, ℕ, suc, Bool, true, false, cond, ◌&&◌, ◌||◌, List, [], ◌∷◌, ◌++◌, map, Some, nat_eq, nat_lt, refl, sym, ap, ◌∙◌, arith}
use Rattle.std.specs.List.{list_any}
use Rattle.std.specs.BTreeMap.{is_at}
use Rattle.std.specs.Ordering.{nat_cmp, is_eq, ordering_then}
use Rattle.std.specs.declared.cmp.Ordering.{Ordering}
use Rattle.std.specs.declared.cmp.Ordering.TheVariants.{Less, Equal, Greater}
use Rattle.std.proofs.lemmas.Bool.Decides.{nat_tests}
use Rattle.std.proofs.lemmas.List.{map_push}
use Rattle.sg_ast.specs.FirstFault.{repeat_from, first_repeat}
use Rattle.sg_equations.specs.declared.targets.Defined.{Defined}
use Rattle.sg_equations.specs.contracts.completeness.KeyOrd as order
use Rattle.sg_kinds.specs.declared.spec.Occurrence.{Occurrence}
use Rattle.sg_equations.specs.Complete.{is_same_target, is_defined}
use Rattle.sg_equations.specs.Keys.{key_at, key_of}

module _ {K X : Type 0} (same : K → K → Bool) (equal : X → X → Bool) (view : X → K) (agree : (a b : X) → same (view a) (view b) ≡ equal a b) where
  any_seen : (x : X) (xs : List X) → list_any (λ y. same y (view x)) (map view xs) ≡ list_any (λ y. equal y x) xs
  any_seen x [] = refl
  any_seen x (y ∷ xs) = ap (λ b. b || list_any (λ z. same z (view x)) (map view xs)) (agree y x) ∙ ap (λ b. equal y x || b) (any_seen x xs)

  repeat_seen : (before : List X) (place : ℕ) (xs : List X) → repeat_from same (map view before) place (map view xs) ≡ repeat_from equal before place xs
  repeat_seen before place [] = refl
  repeat_seen before place (x ∷ xs) =
      ap (λ b. cond b (Some place) (repeat_from same (map view before ++ view x ∷ []) (suc place) (map view xs))) (any_seen x before)
      ∙ ap (cond (list_any (λ y. equal y x) before) (Some place)) (ap (λ l. repeat_from same l (suc place) (map view xs)) (sym (map_push view before x)) ∙ repeat_seen (before ++ x ∷ []) (suc place) xs)

both_equal : (o p : Ordering) → is_eq (ordering_then o p) ≡ (is_eq o && is_eq p)
both_equal Less p = refl
both_equal Equal p = refl
both_equal Greater p = refl

same_number : (m n : ℕ) → is_eq (nat_cmp m n) ≡ nat_eq m n
same_number m n = by (nat_lt m n) (nat_eq m n) refl refl
  where
    by : (l e : Bool) → nat_lt m n ≡ l → nat_eq m n ≡ e → is_eq (cond l Less (cond e Equal Greater)) ≡ e
    by true true h k = grind (arith, nat_tests)
    by true false h k = refl
    by false true h k = refl
    by false false h k = refl

agree : (a b : Defined) → is_at (order.TheImpl.ghosts.cmp (key_of a)) (key_of b) ≡ is_same_target a b
agree a b =
    let by_parts : order.TheImpl.ghosts.cmp (key_of a) (key_of b) ≡ ordering_then (nat_cmp a.op b.op) (ordering_then (nat_cmp a.target.at b.target.at) (nat_cmp a.target.slot b.target.slot)) = refl in
    ap is_eq by_parts
    ∙ both_equal (nat_cmp a.op b.op) (ordering_then (nat_cmp a.target.at b.target.at) (nat_cmp a.target.slot b.target.slot))
    ∙ ap (λ t. t && is_eq (ordering_then (nat_cmp a.target.at b.target.at) (nat_cmp a.target.slot b.target.slot))) (same_number a.op b.op)
    ∙ ap (λ t. nat_eq a.op b.op && t) (both_equal (nat_cmp a.target.at b.target.at) (nat_cmp a.target.slot b.target.slot)
    ∙ ap (λ t. t && is_eq (nat_cmp a.target.slot b.target.slot)) (same_number a.target.at b.target.at)
    ∙ ap (λ t. nat_eq a.target.at b.target.at && t) (same_number a.target.slot b.target.slot))

pub first_repeat_of : (defs : List Defined) → first_repeat (λ a b. is_at (order.TheImpl.ghosts.cmp a) b) (map key_of defs) ≡ first_repeat is_same_target defs
first_repeat_of defs = repeat_seen (λ a b. is_at (order.TheImpl.ghosts.cmp a) b) is_same_target key_of agree [] 0 defs

pub defined_seen : (op : ℕ) (o : Occurrence) (defs : List Defined) → list_any (λ d. is_at (order.TheImpl.ghosts.cmp (key_of d)) (key_at op o)) defs ≡ is_defined defs op o
defined_seen op o [] = refl
defined_seen op o (d ∷ defs) =
    ap (λ b. b || list_any (λ e. is_at (order.TheImpl.ghosts.cmp (key_of e)) (key_at op o)) defs) (agree d (record { op = op; target = o; place = d.place }))
    ∙ ap (λ b. (nat_eq d.op op && (nat_eq d.target.at o.at && nat_eq d.target.slot o.slot)) || b) (defined_seen op o defs)
