use Rattle.sg_lalr.proofs.KernelLemmas.{item-decides, found-within, found-some, found-none}
use Rattle.sg_lalr.proofs.states.find.Goals as goal

pub returns : goal.returns
returns c = record {
  within = found-within _ item-decides c.args.kernel.now (λ k. k.items) c.args.kernels.now.keys c.get_index_of.result c.get_index_of.ensures.index;
  some = found-some _ item-decides c.args.kernel.now (λ k. k.items) c.args.kernels.now.keys c.get_index_of.result c.get_index_of.ensures.index;
  none = found-none _ item-decides c.args.kernel.now (λ k. k.items) c.args.kernels.now.keys c.get_index_of.result c.get_index_of.ensures.index;
}
