use Rattle.std.proofs.Common.{◌∙◌, length, sym, ap, arith}
use Rattle.sg_kinds.specs.Specification.{args_of}
use Rattle.sg_kinds.specs.declared.spec.Spec.{Spec}
use Rattle.sg_trail.proofs.Saving.{op_there, kid_low, kids_next, all_kids, leaf_covered}
use Rattle.sg_trail.proofs.saved.+save_tree.Goals as goal

pub returns-in_default-clause-covered : goal.returns-in_default-clause-covered
returns-in_default-clause-covered t c = leaf_covered c.args.terms.now c.facts.ensures c.args.entries.now.items c.args.n (sym c.op.ensures.op ∙ c.in_default.is)

pub arg_count-count-requires : goal.arg_count-count-requires
arg_count-count-requires t c = rw c.spec.ensures (op_there c.args.terms.now c.facts.ensures c.args.n c.in-Some.op (sym c.op.ensures.op ∙ c.in-Some.is))

pub kid-requires-clause-place : goal.kid-requires-clause-place
kid-requires-clause-place t c = λ x found.
    let count = c.arg_count-count.ensures in
    let test = c.loop-k-test.true in
    let long = ap (λ (s : Spec). length (args_of s.ops c.in-Some.op)) c.spec.ensures in
    kid_low c.args.terms.now c.facts.ensures c.args.n c.in-Some.op c.loop-k.k (sym c.op.ensures.op ∙ c.in-Some.is) (omega (arith, count, test, long)) x found

pub returns-in_err-save_tree-clause-saved : goal.returns-in_err-save_tree-clause-saved
returns-in_err-save_tree-clause-saved t c = λ saved. c.save_tree.ensures.saved (c.loop-k.invariant.saved saved)

pub loop-k-preserved : goal.loop-k-preserved
loop-k-preserved t c =
    kids_next c.args.terms.now c.facts.ensures c.args.entries.now.items c.loop-k.entries.items c.save_tree.new.entries.items c.args.n c.kid.result c.loop-k.k c.kid.ensures.child c.in_ok-save_tree.ensures.saved c.in_ok-save_tree.ensures.stay c.in_ok-save_tree.ensures.covered
    c.loop-k.invariant

pub returns-clause-covered : goal.returns-clause-covered
returns-clause-covered t c =
    let count = c.arg_count-count.ensures in
    let test = c.loop-k-test.false in
    let end = c.loop-k.auto.k-end in
    let long = ap (λ (s : Spec). length (args_of s.ops c.in-Some.op)) c.spec.ensures in
    all_kids c.args.terms.now c.facts.ensures c.args.entries.now.items c.loop-k.entries.items c.args.n c.in-Some.op c.loop-k.k (sym c.op.ensures.op ∙ c.in-Some.is) (omega (arith, count, test, end, long)) c.loop-k.invariant
