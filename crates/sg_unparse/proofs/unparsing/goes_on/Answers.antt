use Rattle.std.proofs.Common.{sym, ap, ◌∙◌, length, arith}
use Rattle.std.specs.Prelude.{nat_lt}
use Rattle.sg_kinds.specs.Specification.{args_of}
use Rattle.sg_kinds.specs.Terms.{Node}
use Rattle.sg_kinds.specs.declared.spec.Spec.{Spec}
use Rattle.sg_forest.specs.Trees.{IsLive}
use Rattle.sg_groves.specs.Grove.{nodes}
use Rattle.sg_unparse.proofs.Placed.{arity_is, kids_counted, few_stop, second, kids_tell, leaf_tells}
use Rattle.sg_unparse.proofs.unparsing.goes_on.Goals as goal

pub returns-then-arity-lt2 : goal.returns-then-arity-lt2
returns-then-arity-lt2 c = λ k elided ts h.
    let count = c.arity.ensures ∙ ap (λ (s : Spec). length (args_of s.ops c.args.op)) c.spec.ensures in
    few_stop c.args.terms.now c.facts.ensures c.args.n c.requires.live c.args.op k elided ts h (omega (arith, count, c.if-arity-lt2.true))

pub kid-requires-clause-place : goal.kid-requires-clause-place
kid-requires-clause-place c = λ x found.
    let count = c.arity.ensures ∙ ap (λ (s : Spec). length (args_of s.ops c.args.op)) c.spec.ensures in
    let arity = arity_is c.args.terms.now c.facts.ensures c.args.n c.args.op c.requires.op x found in
    omega (arith, count, arity, c.if-arity-lt2.false)

pub returns-in-Some : goal.returns-in-Some
returns-in-Some c = λ k elided ts h.
    let g = c.args.terms.now in
    let count = c.arity.ensures ∙ ap (λ (s : Spec). length (args_of s.ops c.args.op)) c.spec.ensures in
    let kids = kids_counted g c.facts.ensures c.args.n c.requires.live c.args.op k elided ts h in
    let s = second g ts (omega (arith, kids, count, c.if-arity-lt2.false)) in
    let holds = c.kid.ensures.term (Node c.args.op k elided ts) s.0 h s.1 in
    let live : IsLive (nodes g) c.kid.result = record { node = c.kid.ensures.child.node; found = c.kid.ensures.child.found } in
    let args = c.arity-in-Some.ensures ∙ ap (λ (s : Spec). length (args_of s.ops c.in-Some.second)) c.spec-in-Some.ensures in
    kids_tell g s.0 c.kid.result c.facts.ensures live holds c.in-Some.second (sym (c.op.ensures.term s.0 holds) ∙ c.in-Some.is) (nat_lt 0 c.arity-in-Some.result) (ap (nat_lt 0) args) ∙ sym s.2

pub returns-in-None : goal.returns-in-None
returns-in-None c = λ k elided ts h.
    let g = c.args.terms.now in
    let count = c.arity.ensures ∙ ap (λ (s : Spec). length (args_of s.ops c.args.op)) c.spec.ensures in
    let kids = kids_counted g c.facts.ensures c.args.n c.requires.live c.args.op k elided ts h in
    let s = second g ts (omega (arith, kids, count, c.if-arity-lt2.false)) in
    let holds = c.kid.ensures.term (Node c.args.op k elided ts) s.0 h s.1 in
    leaf_tells g s.0 (sym (c.op.ensures.term s.0 holds) ∙ c.in-None.is) ∙ sym s.2
