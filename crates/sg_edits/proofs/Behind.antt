-- What follows the first elements of a list, and those elements as a list of them alone.
use Rattle.std.specs.Prelude.{◌≡◌, refl, ℕ, zero, suc, ◌+◌, ◌<◌, ◌≤◌, Bool, true, false, cond, ◌∷◌, ◌&&◌, ◌||◌, not, Some, nat_eq, nat_lt}
use Rattle.std.specs.Option.{option_map_or}
use Rattle.std.proofs.Common.{sym, ap, ◌∙◌, subst, arith, inl, inr}
use Rattle.std.proofs.lemmas.Bool.{false≢true, ltb-false}
use Rattle.sg_kinds.proofs.Elementary.{eq_is, lt_is}
use Rattle.sg_kinds.specs.Fits.{Fits}
use Rattle.sg_kinds.specs.Places.{Place, sub}
use Rattle.sg_kinds.specs.Sound.{HasShapes, is_pair}
use Rattle.sg_kinds.specs.Terms.{Term, Leaf, Node, NoTerm, AndTerm}
use Rattle.sg_kinds.specs.declared.spec.Spec.{Spec}
use Rattle.sg_forest.specs.declared.node_id.NodeId.{NodeId}
use Rattle.sg_forest.specs.Trees.{IsLive}
use Rattle.sg_groves.specs.Grove.{Grove, nodes, IsGrove}
use Rattle.sg_groves.specs.Holds.{Holds, IsPlaced}
use Rattle.sg_groves.proofs.Held.{held_fits}
use Rattle.sg_select.proofs.Leading.{leads_some, sub_there}
use Rattle.sg_select.specs.Leads.{LeadsTo}
use Rattle.sg_select.specs.Paths.{elements, is_list_node, spine_from}
use Rattle.sg_edits.specs.Chosen.{IsRun}
use Rattle.sg_edits.specs.Edits.{behind_at, element_in, empty_of, front, rest_behind, rest_of, IsRunAt}
use Rattle.sg_edits.proofs.Placed.{fits_phylum, spine_is_list}
use Rattle.sg_edits.proofs.Shaped.{element_fits, empty_fits, list_term, paired_fits, rest_fits}

module _ (spec : Spec) where
  -- an element is there, and the list behind it is shorter by one
  pub elements_step : (x : Term) (m : ℕ) → elements spec x ≡ suc m → (is_list_node spec x ≡ true) × (elements spec (rest_of x) ≡ m)
  elements_step (Leaf p v) m e = absurd (omega (arith, e))
  elements_step (Node op n elided NoTerm) m e = absurd (omega (arith, e))
  elements_step (Node op n elided (AndTerm a NoTerm)) m e = absurd (omega (arith, e))
  elements_step (Node op n elided (AndTerm a (AndTerm y ts))) m e = by (is_pair spec op) refl e
    where
      by : (b : Bool) → is_pair spec op ≡ b → cond b (suc (elements spec y)) 0 ≡ suc m → (is_pair spec op ≡ true) × (elements spec y ≡ m)
      by true is h = (is, omega (arith, h))
      by false is h = absurd (omega (arith, h))

  pub some_element : (x : Term) → 1 ≤ elements spec x → is_list_node spec x ≡ true
  some_element x some = by (elements spec x) refl some
    where
      by : (k : ℕ) → elements spec x ≡ k → 1 ≤ k → is_list_node spec x ≡ true
      by zero e h = absurd (omega (arith, h))
      by (suc m) e h = (elements_step x m e).0

  pub behind_long : (n : ℕ) (x : Term) → n ≤ elements spec x → elements spec x ≡ n + elements spec (rest_behind n x)
  behind_long zero x long = omega arith
  behind_long (suc n) x long = by (elements spec (rest_behind n x)) refl (behind_long n x (omega (arith, long)))
    where
      by : (k : ℕ) → elements spec (rest_behind n x) ≡ k → elements spec x ≡ n + elements spec (rest_behind n x) → elements spec x ≡ suc n + elements spec (rest_of (rest_behind n x))
      by zero e again = absurd (omega (arith, again, e, long))
      by (suc m) e again = let step = (elements_step (rest_behind n x) m e).1 in omega (arith, again, e, step)

  pub behind_is_list : (n : ℕ) (x : Term) → n < elements spec x → is_list_node spec (rest_behind n x) ≡ true
  behind_is_list n x long = let again = behind_long n x (omega (arith, long)) in some_element (rest_behind n x) (omega (arith, again, long))

  pub rest_long : (n : ℕ) (x : Term) → suc n ≤ elements spec x → n ≤ elements spec (rest_of x)
  rest_long n x long = let one = behind_long 1 x (omega (arith, long)) in omega (arith, one, long)

  module _ (shapes : HasShapes spec) where
    pub behind_fits : (n : ℕ) (x : Term) (p : ℕ) → n ≤ elements spec x → Fits spec x p → Fits spec (rest_behind n x) p
    behind_fits zero x p long fits = fits
    behind_fits (suc n) x p long fits = rest_fits spec shapes (rest_behind n x) p (behind_fits n x p (omega (arith, long)) fits) (behind_is_list n x (omega (arith, long)))

    front_made : (n : ℕ) (x : Term) (p : ℕ) → n ≤ elements spec x → Fits spec x p → Fits spec (empty_of spec p) p → Fits spec (front spec n x) p
    front_made zero x p long fits end = subst (λ q. Fits spec (empty_of spec q) p) (sym (fits_phylum spec x p fits)) end
    front_made (suc n) x p long fits end =
        let is = some_element x (omega (arith, long)) in
        paired_fits spec shapes x (element_in x) (front spec n (rest_of x)) p fits is (element_fits spec shapes x p fits is)
        (front_made n (rest_of x) p (rest_long n x long) (rest_fits spec shapes x p fits is) end)

    pub front_fits : (n : ℕ) (x : Term) (p : ℕ) → n ≤ elements spec x → Fits spec x p → is_list_node spec x ≡ true → Fits spec (front spec n x) p
    front_fits n x p long fits is = front_made n x p long fits (empty_fits spec shapes x p fits is)

    pub some_long : (x : Term) (p : ℕ) → Fits spec x p → is_list_node spec x ≡ true → 1 ≤ elements spec x
    some_long x p fits is =
        let l = list_term spec shapes x p fits is in
        let e : elements spec x ≡ suc (elements spec l.rest) = ap (elements spec) l.is ∙ ap (λ b. cond b (suc (elements spec l.rest)) 0) l.pair in
        omega (arith, e)

-- a run, by the tests of its count
pub run_tested : (spec : Spec) (t : Term) (u : Place) (n : ℕ)
    → (nat_eq n 1 || (nat_lt 1 n && not (nat_lt (option_map_or (λ p. option_map_or (elements spec) (sub t p) 0) (spine_from spec t u) 0) n))) ≡ true → IsRunAt spec t u n
run_tested spec t u n is = by (nat_eq n 1) refl is
  where
    more : (a b : Bool) → nat_lt 1 n ≡ a → nat_lt (option_map_or (λ p. option_map_or (elements spec) (sub t p) 0) (spine_from spec t u) 0) n ≡ b → (a && not b) ≡ true → IsRunAt spec t u n
    more true false one few h = inr (lt_is 1 n one, ltb-false _ _ few)
    more true true one few h = absurd (false≢true h)
    more false b one few h = absurd (false≢true h)

    by : (b : Bool) → nat_eq n 1 ≡ b → (b || (nat_lt 1 n && not (nat_lt (option_map_or (λ p. option_map_or (elements spec) (sub t p) 0) (spine_from spec t u) 0) n))) ≡ true → IsRunAt spec t u n
    by true alone h = inl (eq_is n 1 alone)
    by false alone h = more (nat_lt 1 n) _ refl refl h

-- a run's length, by the list's node of its first element
run_long : (spec : Spec) (t x : Term) (u p : Place) (n : ℕ) → IsRunAt spec t u n → spine_from spec t u ≡ Some p → sub t p ≡ Some x → 1 ≤ elements spec x → n ≤ elements spec x
run_long spec t x u p n (inl alone) at there some = omega (arith, alone, some)
run_long spec t x u p n (inr more) at there some =
    let e : option_map_or (λ v. option_map_or (elements spec) (sub t v) 0) (spine_from spec t u) 0 ≡ elements spec x =
    ap (λ o. option_map_or (λ v. option_map_or (elements spec) (sub t v) 0) o 0) at ∙ ap (λ o. option_map_or (elements spec) o 0) there in
    omega (arith, more.1, e)

pub spine_long : (g : Grove) → IsGrove g → (n m : NodeId) → IsLive (nodes g) n → (count : ℕ) → IsRun g n count
    → ((root : NodeId) (t : Term) (u : Place) → IsPlaced g root t u n → LeadsTo g root (spine_from g.spec t u) (Some m)) → IsLive (nodes g) m → (x : Term) → Holds g m x → count ≤ elements g.spec x
spine_long g is n m live count at leads below x holds =
    let lead = leads_some g at.root m (spine_from g.spec at.term at.place) (leads at.root at.term at.place at.placed) in
    let placed : IsPlaced g at.root at.term lead.0 m = record { top = at.placed.top; holds = at.placed.holds; way = lead.2 } in
    let there = sub_there g is at.root at.term x lead.0 m placed holds in
    let fits = held_fits g is m below.node x below.found holds in
    run_long g.spec at.term x at.place lead.0 count at.run lead.1 there
    (some_long g.spec is.sound.shapes x below.node.label.phylum fits (spine_is_list g is n m live leads x holds))

-- one step further
pub behind_more : (n : ℕ) (u : Place) → behind_at (n + 1) u ≡ 1 ∷ behind_at n u
behind_more n u = let e : n + 1 ≡ suc n = omega arith in ap (λ k. behind_at k u) e

pub rest_more : (n : ℕ) (x : Term) → rest_behind (n + 1) x ≡ rest_of (rest_behind n x)
rest_more n x = let e : n + 1 ≡ suc n = omega arith in ap (λ k. rest_behind k x) e
