use Rattle.std.proofs.Common.{sym, subst}
use Rattle.sg_dependencies.specs.Proper.{AreProper}
use Rattle.sg_dependencies.specs.Vertices.{AreInRange}
use Rattle.sg_dependencies.proofs.SoundRules.{sound_range, sound_proper}
use Rattle.sg_witnesses.proofs.cycles.with_cycle.Goals as goal

pub order-found-requires-clause-range : goal.order-found-requires-clause-range
order-found-requires-clause-range c = subst AreInRange (sym c.split-rules.ensures.rules) (sound_range c.args.spec c.requires.counted c.requires.shapes c.requires.rules)

pub order-found-requires-clause-proper : goal.order-found-requires-clause-proper
order-found-requires-clause-proper c = subst AreProper (sym c.split-rules.ensures.rules) (sound_proper c.args.spec c.requires.counted c.requires.shapes c.requires.rules)

pub path-requires : goal.path-requires
path-requires c = subst AreInRange (sym c.split-rules.ensures.rules) (sound_range c.args.spec c.requires.counted c.requires.shapes c.requires.rules)
