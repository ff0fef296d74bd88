use Rattle.std.proofs.Common.{bytes_eq}
use Rattle.sg_names.specs.Meaning.{meaning}
use Rattle.sg_kinds.specs.declared.spec.Operator.{Operator}
use Rattle.sg_names.specs.declared.table.Callable.TheVariants as callable
use Rattle.sg_names.proofs.Firsts.{indexed_none}
use Rattle.sg_names.proofs.callables.by_operator.Goals as goal

pub loop-place-init : goal.loop-place-init
loop-place-init c = λ n. indexed_none (λ (o : Operator). bytes_eq n o.name) (λ k. callable.Operator k) (meaning c.new-index.result n) c.args.ops.now (c.new-index.ensures n)
