use Rattle.std.proofs.Common.{sym, ◌∙◌, ap, length}
use Rattle.sg_pool.proofs.Pooled.{length-values_of}
use Rattle.sg_pool.proofs.pool.Pool.len.Goals as goal

pub returns : goal.returns
returns c = c.len.ensures.len ∙ sym (length-values_of c.self.inside.entries.keys) ∙ ap length c.self.view_is
