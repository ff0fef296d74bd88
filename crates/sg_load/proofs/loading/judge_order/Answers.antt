use Rattle.std.proofs.Common.{sym, subst}
use Rattle.sg_dependencies.specs.Ordered.{IsOrdered}
use Rattle.sg_ast.specs.View.{trees_of}
use Rattle.sg_dependencies.specs.Vertices.{AreInRange}
use Rattle.sg_dependencies.specs.Proper.{AreProper}
use Rattle.sg_dependencies.proofs.SoundRules.{sound_range, sound_proper}
use Rattle.sg_load.proofs.Phases.{no_order_fault, found_order_fault, joined_back}
use Rattle.sg_load.proofs.loading.judge_order.Goals as goal

pub order-found-requires-clause-range : goal.order-found-requires-clause-range
order-found-requires-clause-range c = subst AreInRange (sym c.split-rules.ensures.rules) (sound_range c.args.spec c.requires.sound.counted c.requires.sound.shapes c.requires.sound.rules)

pub order-found-requires-clause-proper : goal.order-found-requires-clause-proper
order-found-requires-clause-proper c = subst AreProper (sym c.split-rules.ensures.rules) (sound_proper c.args.spec c.requires.sound.counted c.requires.sound.shapes c.requires.sound.rules)

pub returns-in-Ok-clause-none : goal.returns-in-Ok-clause-none
returns-in-Ok-clause-none c = no_order_fault (trees_of c.args.decls.now) c.args.spec c.requires.the (sound_range c.args.spec c.requires.sound.counted c.requires.sound.shapes c.requires.sound.rules)
    (subst IsOrdered c.split-rules.ensures.rules c.in-Ok.ensures.ordered)

pub returns-in-Err-clause-fault : goal.returns-in-Err-clause-fault
returns-in-Err-clause-fault c = found_order_fault (trees_of c.args.decls.now) c.args.spec c.join-spec.result c.split-rules.result.0 c.in-Err.fault c.order_fault.result c.requires.the
    (sound_range c.args.spec c.requires.sound.counted c.requires.sound.shapes c.requires.sound.rules)
    (joined_back c.args.spec c.join-spec.result c.split-rules.result.0 c.split-rules.result.1 c.split-rules.ensures.rules c.split-rules.ensures.rest c.join-spec.ensures)
    c.split-rules.ensures.rules c.in-Err.ensures.fault c.order_fault.ensures
