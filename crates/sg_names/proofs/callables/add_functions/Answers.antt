use Rattle.std.proofs.Common.{bytes_eq}
use Rattle.sg_names.specs.Meaning.{meaning}
use Rattle.sg_names.specs.declared.table.Signature.{Signature}
use Rattle.sg_names.specs.declared.table.Callable.TheVariants as callable
use Rattle.sg_names.proofs.Firsts.{indexed_first}
use Rattle.sg_names.proofs.callables.add_functions.Goals as goal

pub loop-place-init : goal.loop-place-init
loop-place-init c = λ n. indexed_first (λ (f : Signature). bytes_eq n f.name) (λ k. callable.Function k) (meaning c.args.index.now n) c.args.functions.now
