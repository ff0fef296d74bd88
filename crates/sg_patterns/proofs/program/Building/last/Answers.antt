use Rattle.std.proofs.Common.{refl, ap, ◌∙◌, ◌++◌}
use Rattle.std.specs.Option.{option_to_list}
use Rattle.sg_patterns.proofs.Holding.{last-program}
use Rattle.sg_patterns.proofs.program.Building.last.Goals as goal

pub returns : goal.returns
returns c ps h =
    let self = c.args.self in
    last-program self.nodes.items self.above.items self.empties.items self.roots.items c.pop.new.self.items c.unwrap-root.result ps _ h (c.pop.ensures.items ∙ ap (λ o. c.pop.new.self.items ++ option_to_list o) c.unwrap-root.ensures) refl refl refl refl c.new.ensures.items (c.none.ensures _)
