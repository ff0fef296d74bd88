-- The equations, functions and productions of the worked examples are well typed; ill-typed ones are not.
use Rattle.std.specs.Prelude.{◌≡◌, refl, ℕ, Bool, true, false, ◌&&◌, List, [], ◌∷◌, Some, None, map, not, ◌||◌, nat_eq, count_by, flat_map, length, take}
use Rattle.sg_kinds.specs.Specification.{Spec, Rule, Function, Transform, Production}
use Rattle.sg_kinds.specs.Expressions.{Named, Binary}
use Rattle.sg_kinds.specs.Typing.{type_of, bound_types, is_typed}
use Rattle.std.proofs.Common.{arith}
use Rattle.sg_kinds.specs.Sound.{is_rule_typed, is_owed, symbol_types, IsFinite}
use Rattle.sg_kinds.specs.Instances.{defines, below}
use Rattle.sg_kinds.specs.declared.marks.Sign.TheVariants.{Add, Equal, Join}
use Rattle.sg_kinds.proofs.Languages.{sums, lets, uses, meeting}

all_true : List Bool → Bool
all_true [] = true
all_true (b ∷ bs) = b && all_true bs

sums_typed : all_true (map (is_rule_typed sums) sums.rules) ≡ true
unfolding all_true
sums_typed = refl

lets_typed : all_true (map (is_rule_typed lets) lets.rules) ≡ true
unfolding all_true
lets_typed = refl

uses_typed : all_true (map (is_rule_typed uses) uses.rules) ≡ true
unfolding all_true
uses_typed = refl

meeting_typed : all_true (map (is_rule_typed meeting) meeting.rules) ≡ true
unfolding all_true
meeting_typed = refl

lets_owed : all_true (map (λ (r : Rule). is_owed lets r.op r.target.at r.target.slot) lets.rules) ≡ true
unfolding all_true
lets_owed = refl

look_typed : all_true (map (λ (f : Function). is_typed lets f.params f.body f.result) lets.functions) ≡ true
unfolding all_true
look_typed = refl

plus_typed : map (λ (x : Transform). bound_types sums x.pattern x.phylum) sums.transforms ≡ Some (4 ∷ []) ∷ []
plus_typed = refl

plus_result : is_typed sums (4 ∷ []) 3 4 ≡ true
plus_result = refl

productions_typed : map (λ (r : Production). symbol_types sums r.right) sums.productions ≡ Some (4 ∷ 4 ∷ []) ∷ Some (4 ∷ []) ∷ Some (5 ∷ []) ∷ Some (4 ∷ []) ∷ []
productions_typed = refl

number_typed : is_typed sums (5 ∷ []) 5 4 ≡ true
number_typed = refl

-- a text is no number, and a truth value and a number do not agree
ill_typed : type_of lets (7 ∷ 1 ∷ []) (Binary Add (Named 0) (Named 1)) ≡ None
ill_typed = refl

never_equal : type_of lets (7 ∷ 1 ∷ []) (Binary Equal (Named 0) (Named 1)) ≡ None
never_equal = refl

joined_texts : type_of lets (7 ∷ 1 ∷ []) (Binary Join (Named 0) (Named 0)) ≡ Some 2
joined_texts = refl

-- whether each operator's equations define each occurrence that they owe exactly once
once_at : Spec → ℕ → ℕ → ℕ → Bool
once_at spec op k slot = not (is_owed spec op k slot) || nat_eq (count_by (defines op (record { at = k; slot = slot })) spec.rules) 1

each_once : Spec → Bool
unfolding once_at all_true
each_once spec = all_true (flat_map (λ op. flat_map (λ k. map (λ slot. once_at spec op k slot) (below 5)) (below 4)) (below (length spec.ops)))

sums_once : each_once sums ≡ true
unfolding each_once
sums_once = refl

lets_once : each_once lets ≡ true
unfolding each_once
lets_once = refl

uses_once : each_once uses ≡ true
unfolding each_once
uses_once = refl

meeting_once : each_once meeting ≡ true
unfolding each_once
meeting_once = refl

-- without its last equation it owes one
short_once : each_once (record lets { rules = take 11 lets.rules }) ≡ false
unfolding each_once
short_once = refl

lets_finite : IsFinite lets 3 × IsFinite lets 4 × IsFinite lets 5 × IsFinite lets 6 × IsFinite lets 7
lets_finite = (((omega arith, omega arith), (omega arith, omega arith)), ((omega arith, omega arith), (omega arith, omega arith)), ((omega arith, omega arith), (omega arith, omega arith)), ((omega arith, omega arith), (omega arith, omega arith)), ((omega arith, omega arith), (omega arith, omega arith)))
