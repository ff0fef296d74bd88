use Rattle.std.proofs.Common.{ap, ◌∙◌}
use Rattle.std.specs.BTreeMap.{is_at}
use Rattle.sg_ast.specs.FirstFault.{first_repeat}
use Rattle.sg_equations.specs.contracts.completeness.KeyOrd as order
use Rattle.sg_equations.specs.Complete.{twice_at}
use Rattle.sg_equations.proofs.Ordered.{first_repeat_of}
use Rattle.sg_equations.proofs.completeness.twice.Goals as goal

pub returns : goal.returns
returns c =
    c.twice_at.ensures
    ∙ ap (twice_at c.args.defined.now)
    (c.in_ok-place.ensures ∙ ap (first_repeat (λ a b. is_at (order.TheImpl.ghosts.cmp a) b)) (c.deref.ensures.value ∙ c.in_ok-keys.ensures) ∙ first_repeat_of c.args.defined.now)
