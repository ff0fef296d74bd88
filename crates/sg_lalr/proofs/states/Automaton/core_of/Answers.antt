use Rattle.std.proofs.Common.{◌∙◌, sym, ap, subst, arith}
use Rattle.std.specs.Prelude.{option_copied}
use Rattle.std.proofs.lemmas.List.{length-map}
use Rattle.sg_lalr.specs.Closure.{IsKernel, IsClosure}
use Rattle.sg_lalr.proofs.KernelLemmas.{kernel-at}
use Rattle.sg_lalr.proofs.states.Automaton.core_of.Goals as goal

pub closure-requires-clause-kernel : goal.closure-requires-clause-kernel
closure-requires-clause-kernel c =
    let keys = c.args.self.now.kernels.keys in
    let is = kernel-at (λ k. k.items) keys c.args.state c.unwrap-kernel.result.now (sym c.get_index.ensures.key ∙ ap option_copied c.unwrap-kernel.ensures) in
    subst (IsKernel c.args.g.now) (is ∙ sym c.as_slice.ensures.value) (c.requires.part.kernel c.args.state (let l = length-map keys (λ k. k.items) in omega (arith, l)))

pub returns : goal.returns
returns c =
    let keys = c.args.self.now.kernels.keys in
    let is = kernel-at (λ k. k.items) keys c.args.state c.unwrap-kernel.result.now (sym c.get_index.ensures.key ∙ ap option_copied c.unwrap-kernel.ensures) in
    subst (λ k. IsClosure c.args.g.now k c.in_ok-core.core.items) (sym (is ∙ sym c.as_slice.ensures.value)) c.in_ok-core.ensures
