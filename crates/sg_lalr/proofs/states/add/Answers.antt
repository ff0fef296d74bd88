use Rattle.std.proofs.Common.{◌∙◌, ap, map, refl}
use Rattle.sg_lalr.proofs.KernelLemmas.{item-decides, added-last}
use Rattle.sg_lalr.proofs.states.add.Goals as goal

pub returns : goal.returns
returns c =
    ap (map (λ k. k.items)) c.in_ok-insert.ensures.keys ∙ added-last _ item-decides c.args.kernel.items (λ k. k.items) c.args.kernels.now.keys c.args.kernel refl c.requires
