use Rattle.std.proofs.Common.{ℕ, Vec, Global, subst}
use Rattle.std.proofs.lemmas.Result.{IfOk-weaker}
use Rattle.sg_grammar.specs.Grammar.{Grammar}
use Rattle.sg_samples.specs.Samples.{IsSample}
use Rattle.sg_samples.specs.Table.{AreKnown, IsExpanded, IsMost}
use Rattle.sg_samples.proofs.Steps.{sampled}
use Rattle.sg_samples.proofs.samples.sample.Goals as goal

pub returns : goal.returns
returns c =
    let T = c.in_ok-samples.samples.items in
    let Xs = c.args.string.now in
    let n = c.most_for-most.result in
    IfOk-weaker c.expanded.result (λ (v : Vec ℕ Global). (g : Grammar) → AreKnown g c.deref-2.result.now → (left : ℕ) × IsExpanded g c.deref-2.result.now n Xs v.items left) (λ (v : Vec ℕ Global). IsSample c.args.g.now Xs v.items)
    (λ v h. sampled c.args.g.now T Xs n v.items c.in_ok-samples.ensures
    (subst (λ t. IsMost t Xs n) c.deref.ensures.value c.most_for-most.ensures.most)
    (subst (λ t. (g : Grammar) → AreKnown g t → (left : ℕ) × IsExpanded g t n Xs v.items left) c.deref-2.ensures.value h)) c.expanded.ensures
