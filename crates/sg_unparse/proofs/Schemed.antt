-- The scheme of a term, by what is told of its root.
use Rattle.std.specs.Prelude.{◌≡◌, ◌<◌, ◌%◌, refl, ℕ, Some, None}
use Rattle.std.proofs.Common.{sym, ap}
use Rattle.std.proofs.Math.Nat.{mod-eq_of_lt}
use Rattle.std.proofs.lemmas.Option.{none-some, same_Some}
use Rattle.sg_kinds.specs.Terms.{Term, Leaf, Node}
use Rattle.sg_kinds.specs.declared.spec.Spec.{Spec}
use Rattle.sg_terms.specs.Labels as labels
use Rattle.sg_unparse.specs.Printing.{count_of, current_scheme, scheme_count, scheme_of}

pub current_in : (spec : Spec) (t : Term) (op : ℕ) → labels.op_of t ≡ Some op → scheme_of spec op (labels.scheme_of t) ≡ current_scheme spec t
current_in spec (Leaf p v) op is = absurd (none-some op is)
current_in spec (Node o n elided ts) op is = ap (λ x. scheme_of spec x n) (sym (same_Some o op is))

pub current_none : (spec : Spec) (t : Term) → labels.op_of t ≡ None → current_scheme spec t ≡ None
current_none spec (Leaf p v) is = refl
current_none spec (Node o n elided ts) is = absurd (none-some o (sym is))

pub count_in : (spec : Spec) (t : Term) (op : ℕ) → labels.op_of t ≡ Some op → count_of spec op ≡ scheme_count spec t
count_in spec (Leaf p v) op is = absurd (none-some op is)
count_in spec (Node o n elided ts) op is = ap (count_of spec) (sym (same_Some o op is))

pub count_none : (spec : Spec) (t : Term) → labels.op_of t ≡ None → 0 ≡ scheme_count spec t
count_none spec (Leaf p v) is = refl
count_none spec (Node o n elided ts) is = absurd (none-some o (sym is))

-- a number below a count is itself when it is counted round
pub below_stays : (n count : ℕ) → n < count → n % count ≡ n
below_stays n count h = mod-eq_of_lt h
