use Rattle.std.proofs.Common.{◌++◌, ap, ◌∙◌}
use Rattle.sg_matching.proofs.bindings.bindings.Goals as goal

pub returns : goal.returns
returns c = λ values e. c.in_ok-bind.ensures values e ∙ ap (λ l. l ++ values) c.new-bound.ensures.items
