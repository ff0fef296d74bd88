use Rattle.std.proofs.Common.{ap, refl, sym, ◌∙◌}
use Rattle.sg_buffer.specs.Attributed.{Attributed}
use Rattle.sg_buffer.proofs.Begun.{begun_closes}
use Rattle.sg_buffer.proofs.buffers.Buffer.new.Goals as goal

pub invariant_of-result : goal.invariant_of-result
invariant_of-result c =
    let e = c.in-Ok-begin.ensures in
    let f = c.in-Ok-begin.fresh in
    let shared = ap (λ (a : Attributed). a.spec) c.in_ok-attribution.ensures.cases in
    let same = e.spec ∙ c.spec.ensures ∙ c.evaluator-evaluator.ensures ∙ ap (λ (a : Attributed). a.spec) c.deref-3.ensures ∙ shared in
    ((begun_closes f.terms c.args.attribution.now.value.spec f.root c.args.height c.args.t.now c.in-Ok.nodes f.history c.at_root.result c.at_root.ensures same e.grove e.view e.whole c.requires.fits (c.in-Ok.ensures.small.0 refl) c.in-Ok.ensures.nodes c.requires.low e.roots e.history).0, shared ∙ sym same)

pub returns-in-Ok-begin-clause-state : goal.returns-in-Ok-begin-clause-state
returns-in-Ok-begin-clause-state c =
    let e = c.in-Ok-begin.ensures in
    let f = c.in-Ok-begin.fresh in
    let shared = ap (λ (a : Attributed). a.spec) c.in_ok-attribution.ensures.cases in
    let same = e.spec ∙ c.spec.ensures ∙ c.evaluator-evaluator.ensures ∙ ap (λ (a : Attributed). a.spec) c.deref-3.ensures ∙ shared in
    (begun_closes f.terms c.args.attribution.now.value.spec f.root c.args.height c.args.t.now c.in-Ok.nodes f.history c.at_root.result c.at_root.ensures same e.grove e.view e.whole c.requires.fits (c.in-Ok.ensures.small.0 refl) c.in-Ok.ensures.nodes c.requires.low e.roots e.history).1
