use Rattle.std.proofs.Common.{◌≡◌, ◌<◌, ◌-◌, length, Some, refl, sym, ap, ◌∙◌, subst}
use Rattle.std.specs.Prelude.{slice_get, option_and_then, MatchOption, ◌&&◌}
use Rattle.sg_kinds.specs.Values.{Tree, NoValue, AndValue, same_value}
use Rattle.sg_kinds.specs.Specification.{args_of}
use Rattle.sg_kinds.specs.Completing.{over, completing_within}
use Rattle.sg_kinds.specs.declared.spec.Spec.{Spec}
use Rattle.sg_kinds.proofs.Completed.{completed_at}
use Rattle.sg_matching.specs.Under.{value_under, values_under}
use Rattle.sg_matching.specs.MadeUnder.{has_value}
use Rattle.sg_matching.proofs.NodeValues.{node_of, none_there}
use Rattle.sg_matching.proofs.MadeValues.{left_next, completed_over, completed_listed, element_told}
use Rattle.sg_matching.proofs.made.+completing.Goals as goal

pub are_completing-loop-k-preserved : goal.are_completing-loop-k-preserved
are_completing-loop-k-preserved t c =
    let g = c.args.terms.now in
    left_next (completing_within g.spec c.args.room) c.args.phyla.now (values_under g c.args.n 0) c.loop-k.k (values_under g c.args.n c.loop-k.k) c.index-phyla-k.result (value_under g c.in-Some.kid) _
    c.loop-k.invariant c.loop-k-test.true c.index-phyla-k.is c.in-Some.ensures.values (sym c.is_completing.ensures ∙ c.if-not-is_completing.false)

pub is_completing-returns-in_default-shape : goal.is_completing-returns-in_default-shape
is_completing-returns-in_default-shape t c =
    let g = c.args.terms.now in
    let x = c.in-Some.phylum.now in
    let v = value_under g c.args.n in
    let made = completing_within g.spec (c.args.room - 1) in
    let at : slice_get g.spec.phyla c.args.p ≡ Some x = ap (λ (s : Spec). slice_get s.phyla c.args.p) (sym c.spec.ensures) ∙ ap (slice_get c.spec.result.now.phyla) (sym c.p.view_is) ∙ c.in-Some.ensures in
    let n = c.in_default-shape in
    let whole = completed_at g.spec c.args.room c.args.p x c.if-room-eq0.false at ∙ completed_over g.spec made c.args.p x.ops x.shape n.not-Truths n.not-Numbers n.not-Texts n.not-Lexemes n.not-Listed in
    c.is_over.ensures ∙ ap (λ o. has_value (over g.spec made o) v) c.op_there.ensures ∙ sym (ap (λ o. has_value o v) whole)

pub is_completing-returns-in-Listed : goal.is_completing-returns-in-Listed
is_completing-returns-in-Listed t c =
    let g = c.args.terms.now in
    let x = c.in-Some.phylum.now in
    let made = completing_within g.spec (c.args.room - 1) in
    let at : slice_get g.spec.phyla c.args.p ≡ Some x = ap (λ (s : Spec). slice_get s.phyla c.args.p) (sym c.spec.ensures) ∙ ap (slice_get c.spec.result.now.phyla) (sym c.p.view_is) ∙ c.in-Some.ensures in
    let whole = completed_at g.spec c.args.room c.args.p x c.if-room-eq0.false at ∙ completed_listed g.spec made c.args.p x.ops x.shape c.in-Listed.is in
    c.is_one_element.ensures ∙ sym (ap (λ o. has_value o (value_under g c.args.n)) whole)

pub is_over-args-requires : goal.is_over-args-requires
is_over-args-requires t c =
    let o = node_of c.args.terms.now c.facts.ensures c.args.n c.in-Some.op (c.if-not-is_of.ensures.op.0 refl) in
    subst (λ (s : Spec). c.in-Some.op < length s.ops) (sym c.spec.ensures) o.within

pub is_one_element-first_arg-requires : goal.is_one_element-first_arg-requires
is_one_element-first_arg-requires t c =
    let o = node_of c.args.terms.now c.facts.ensures c.args.n c.in-Some-Some.pair.now (c.if-not-is_of.ensures.op.0 refl) in
    subst (λ (s : Spec). c.in-Some-Some.pair.now < length s.ops) (sym c.spec.ensures) o.within

pub is_one_element-returns-then-is_completing : goal.is_one_element-returns-then-is_completing
is_one_element-returns-then-is_completing t c =
    let g = c.args.terms.now in
    let n = c.args.n in
    let made = completing_within g.spec c.args.room in
    let nil = c.in-Some-Some.nil.now in
    let pair = c.in-Some-Some.pair.now in
    let v = value_under g n in
    let x = value_under g c.in-Some.first in
    let y = value_under g c.in-Some-kid_at.rest in
    let is_nil : slice_get c.args.ops.now 0 ≡ Some nil = c.in-Some-Some.ensures in
    let is_pair : slice_get c.args.ops.now 1 ≡ Some pair = c.in-Some-Some.ensures' in
    let tree : v ≡ Tree pair (values_under g n 0) = c.if-not-is_of.ensures.value in
    let one : values_under g n 0 ≡ AndValue x (values_under g n 1) = c.in-Some.ensures.values in
    let two : values_under g n 1 ≡ AndValue y (values_under g n 2) = c.in-Some-kid_at.ensures.values in
    let third : MatchOption c.kid_at-3.result (values_under g n 2 ≡ NoValue) (λ kid. values_under g n 2 ≡ AndValue (value_under g kid) (values_under g n 3)) = c.kid_at-3.ensures.values in
    let none : values_under g n 2 ≡ NoValue = subst (λ o. MatchOption o (values_under g n 2 ≡ NoValue) (λ kid. values_under g n 2 ≡ AndValue (value_under g kid) (values_under g n 3)))
    (none_there c.kid_at-3.result (sym c.is_some.ensures ∙ c.if-is_some.false)) third in
    let told = element_told g.spec made c.args.ops.now nil pair v is_nil is_pair (values_under g n 0) (values_under g n 1) (values_under g n 2) x y tree one two none in
    let element = ap (λ (s : Spec). slice_get (args_of s.ops pair) 0) (sym c.spec.ensures) ∙ sym c.in-Some-first_arg.ensures in
    c.is_nullary.ensures
    ∙ sym (told ∙ ap (λ o. has_value (option_and_then made o) x && same_value (Tree nil NoValue) y) element ∙ ap (λ b. b && same_value (Tree nil NoValue) y) (sym c.if-is_completing.ensures))
