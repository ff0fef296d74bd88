use Rattle.std.proofs.Common.{◌<◌, ◌≤◌, length, sym, ap, ◌∙◌, subst, arith}
use Rattle.sg_kinds.specs.Specification.{args_of}
use Rattle.sg_kinds.specs.declared.spec.Spec.{Spec}
use Rattle.sg_matching.proofs.NodeValues.{node_of, kid_there, past_kids, leaf_kids, kid_values}
use Rattle.sg_matching.proofs.nodes.kid_at.Goals as goal

pub returns-in_default-clause-values : goal.returns-in_default-clause-values
returns-in_default-clause-values c = leaf_kids c.args.terms.now c.facts.ensures c.args.n c.args.k c.requires (sym c.op.ensures.op ∙ c.in_default.is)

pub args-requires : goal.args-requires
args-requires c =
    let o = node_of c.args.terms.now c.facts.ensures c.args.n c.in-Some.op (sym c.op.ensures.op ∙ c.in-Some.is) in
    subst (λ (s : Spec). c.in-Some.op < length s.ops) (sym c.spec.ensures) o.within

pub kid-requires-clause-place : goal.kid-requires-clause-place
kid-requires-clause-place c =
    let args_are = c.args-2.ensures ∙ ap (λ (s : Spec). args_of s.ops c.in-Some.op) c.spec.ensures in
    let low = subst (λ l. c.args.k < length l) args_are c.if-k-args.true in
    λ x found. kid_there c.args.terms.now c.facts.ensures c.args.n c.in-Some.op c.args.k x (sym c.op.ensures.op ∙ c.in-Some.is) low found

pub returns-then-k-args-clause-values : goal.returns-then-k-args-clause-values
returns-then-k-args-clause-values c = kid_values c.args.terms.now c.facts.ensures c.args.n c.kid.result c.args.k c.kid.ensures.child

pub returns-then-k-args-clause-few : goal.returns-then-k-args-clause-few
returns-then-k-args-clause-few c =
    let args_are = c.args-2.ensures ∙ ap (λ (s : Spec). args_of s.ops c.in-Some.op) c.spec.ensures in
    let low = subst (λ l. c.args.k < length l) args_are c.if-k-args.true in
    let few = (node_of c.args.terms.now c.facts.ensures c.args.n c.in-Some.op (sym c.op.ensures.op ∙ c.in-Some.is)).few in
    omega (arith, low, few)

pub returns-else-k-args-clause-values : goal.returns-else-k-args-clause-values
returns-else-k-args-clause-values c =
    let args_are = c.args-2.ensures ∙ ap (λ (s : Spec). args_of s.ops c.in-Some.op) c.spec.ensures in
    let past = subst (λ l. length l ≤ c.args.k) args_are c.if-k-args.false in
    past_kids c.args.terms.now c.facts.ensures c.args.n c.in-Some.op c.args.k (sym c.op.ensures.op ∙ c.in-Some.is) past
