use Rattle.std.specs.Prelude.{◌≡◌, IfErr}
use Rattle.std.proofs.lemmas.Result.{IfErr-weaker}
use Rattle.sg_dependencies.specs.Ordered.{IsOrdered}
use Rattle.sg_dependencies.specs.Faults.{IsFault}
use Rattle.sg_dependencies.specs.declared.fault.OrderFault.TheVariants as fault
use Rattle.std.proofs.Common.{rules}
use Rattle.sg_dependencies.proofs.Ranges.{vertices_small}
use Rattle.sg_orders.specs.Layerings.{layer_in}
use Rattle.sg_orders.proofs.Refused.{refused}
use Rattle.sg_orders.proofs.ordering.order.Goals as goal

pub frames-requires : goal.frames-requires
frames-requires c = vertices_small c.args.rules.now c.requires.range

pub returns-clause-ordered : goal.returns-clause-ordered
returns-clause-ordered c = record { layer = layer_in c.in_ok-extension.extension.layers.items; layers = c.in_ok-extension.ensures.exact.layers.each; acyclic = c.in_ok-extension.ensures.acyclic }

pub returns-in_err-extension-clause-refused : goal.returns-in_err-extension-clause-refused
returns-in_err-extension-clause-refused c =
    let is : IfErr c.from_residual-in_err-extension.result (IsFault c.args.rules.now) = search rules in
    IfErr-weaker c.from_residual-in_err-extension.result (IsFault c.args.rules.now) (λ e. (e ≡ fault.NoMemory → ⊥) → IsOrdered c.args.rules.now → ⊥) (refused c.args.rules.now c.requires.range) is
