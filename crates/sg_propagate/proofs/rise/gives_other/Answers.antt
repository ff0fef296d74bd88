use Rattle.std.proofs.Common.{◌<◌, length, sym, subst, arith}
use Rattle.sg_kinds.specs.Specification.{rules_of}
use Rattle.sg_dependencies.proofs.SoundRules.{sound_range}
use Rattle.sg_propagate.proofs.Noted.{row_long}
use Rattle.sg_propagate.proofs.Tops.{phylum_low}
use Rattle.sg_propagate.proofs.rise.gives_other.Goals as goal

pub attr_count-slot-end-requires-clause-phylum : goal.attr_count-slot-end-requires-clause-phylum
attr_count-slot-end-requires-clause-phylum c =
    let here = c.requires.live in
    rw c.spec.ensures (subst (λ X. X < length c.args.terms.now.spec.phyla) (sym (c.phylum-phylum.ensures.phylum here.node here.found)) (phylum_low c.args.terms.now c.facts.ensures c.args.n here.node here.found))

pub attr_count-slot-end-requires-clause-range : goal.attr_count-slot-end-requires-clause-range
attr_count-slot-end-requires-clause-range c =
    let is = c.facts.ensures in
    rw c.spec.ensures (sound_range c.args.terms.now.spec is.sound.counted is.sound.shapes is.sound.rules)

pub visit_of-requires : goal.visit_of-requires
visit_of-requires c =
    let here = c.requires.live in
    let low = subst (λ X. X < length c.args.terms.now.spec.phyla) (sym (c.phylum-phylum.ensures.phylum here.node here.found)) (phylum_low c.args.terms.now c.facts.ensures c.args.n here.node here.found) in
    let long = row_long (rules_of c.args.terms.now.spec) c.args.plans.now c.requires.valid c.phylum-phylum.result low in
    let test = c.loop-slot-test.true in
    let count = rw c.spec.ensures at c.attr_count-slot-end.ensures.count in
    omega (arith, long, test, count)
