use Rattle.std.proofs.Common.{◌<◌, ◌+◌, ◌∙◌, true, false, length, sym, subst, ap}
use Rattle.std.specs.Prelude.{is_some}
use Rattle.sg_dependencies.proofs.SoundRules.{sound_range}
use Rattle.sg_groves.specs.Grove.{Grove}
use Rattle.sg_propagate.proofs.Tops.{IsTakingOver, phylum_low, taking_next, taking_number, taking_skip, taking_storable, tested}
use Rattle.sg_propagate.proofs.start.take_over.Goals.{then-is_handed, else-is_handed}
use Rattle.sg_propagate.proofs.start.take_over.Goals as goal

pub attr_count-count-requires-clause-phylum : goal.attr_count-count-requires-clause-phylum
attr_count-count-requires-clause-phylum c =
    let top = c.requires.tops.top_live in
    rw c.spec.ensures (subst (λ X. X < length c.args.terms.now.spec.phyla) (sym (c.phylum-phylum.ensures.phylum top.node top.found)) (phylum_low c.args.terms.now c.facts.ensures c.args.top top.node top.found))

pub attr_count-count-requires-clause-range : goal.attr_count-count-requires-clause-range
attr_count-count-requires-clause-range c =
    let is = c.facts.ensures in
    rw c.spec.ensures (sound_range c.args.terms.now.spec is.sound.counted is.sound.shapes is.sound.rules)

pub stored-number-requires : goal.stored-number-requires
stored-number-requires c =
    let first = c.args.terms.now in
    let top = c.requires.tops.top_live in
    let inv = c.loop-slot.invariant in
    let inherited = tested first.spec c.spec-in-loop-slot.result.now top.node.label.phylum c.phylum-phylum.result c.loop-slot.slot c.is_handed.result true (c.spec-in-loop-slot.ensures ∙ inv.stored.spec) (c.phylum-phylum.ensures.phylum top.node top.found) c.is_handed.ensures c.if-is_handed.true in
    ap is_some (taking_number first c.loop-slot.terms c.args.top c.args.left c.loop-slot.slot top.node top.found inv c.facts.ensures c.requires.tops inherited).1

pub store-requires : goal.store-requires
store-requires c =
    let first = c.args.terms.now in
    let top = c.requires.tops.top_live in
    let inv = c.loop-slot.invariant in
    let inherited = tested first.spec c.spec-in-loop-slot.result.now top.node.label.phylum c.phylum-phylum.result c.loop-slot.slot c.is_handed.result true (c.spec-in-loop-slot.ensures ∙ inv.stored.spec) (c.phylum-phylum.ensures.phylum top.node top.found) c.is_handed.ensures c.if-is_handed.true in
    taking_storable first c.loop-slot.terms c.args.top c.args.left c.loop-slot.slot top.node top.found inv c.facts.ensures c.requires.tops inherited c.stored-number.result c.stored-number.ensures.number

pub loop-slot-preserved : goal.loop-slot-preserved
loop-slot-preserved c =
    let first = c.args.terms.now in
    let top = c.requires.tops.top_live in
    let inv = c.loop-slot.invariant in
    let now = c.loop-slot.terms in
    elim c.if-is_handed.branch [
      | then-is_handed w ↦
          subst (λ (g : Grove). IsTakingOver first g c.args.top c.args.left (c.loop-slot.slot + 1)) (sym w.terms-is)
          (taking_next first now c.args.top c.args.left c.loop-slot.slot top.node top.found inv w.store.new.self w.stored-number.result w.stored-number.ensures.number w.store.ensures.kept w.store.ensures.stored)
      | else-is_handed w ↦
          let none = tested first.spec c.spec-in-loop-slot.result.now top.node.label.phylum c.phylum-phylum.result c.loop-slot.slot c.is_handed.result false (c.spec-in-loop-slot.ensures ∙ inv.stored.spec) (c.phylum-phylum.ensures.phylum top.node top.found) c.is_handed.ensures w.if-is_handed.false in
          subst (λ (g : Grove). IsTakingOver first g c.args.top c.args.left (c.loop-slot.slot + 1)) (sym w.terms-is)
          (taking_skip first now c.args.top c.args.left c.loop-slot.slot top.node top.found inv none)
    ]
