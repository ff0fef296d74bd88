use Rattle.std.proofs.lemmas.Result.{IfOk-weaker}
use Rattle.sg_ast.specs.View.{trees_of}
use Rattle.sg_samples.specs.Samples.{IsSample}
use Rattle.sg_witnesses.specs.Samples.{IsSampled}
use Rattle.sg_witnesses.proofs.Sampled.{is_sampled}
use Rattle.sg_witnesses.proofs.samples.sampled.Goals as goal

pub returns : goal.returns
returns c =
    let ds = trees_of c.args.decls.now in
    IfOk-weaker c.sample.result (λ v. IsSample c.in_ok-grammar.grammar c.as_slice.result.now v.items) (λ v. IsSampled ds c.args.spec.now c.args.fault.now v.items)
    (λ v is. is_sampled ds c.args.spec.now c.args.fault.now c.in_ok-grammar.grammar c.in_ok-prefix.prefix c.as_slice.result.now v.items c.in_ok-grammar.ensures c.as_slice.ensures c.in_ok-prefix.ensures is) c.sample.ensures
