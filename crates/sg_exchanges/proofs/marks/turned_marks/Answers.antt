use Rattle.std.proofs.Common.{sym, ◌∙◌}
use Rattle.sg_groves.specs.Grove.{spec_shown}
use Rattle.sg_exchanges.proofs.Turnable.{few_schemes, low_scheme, marks_told, nothing_told, turn_told}
use Rattle.sg_exchanges.proofs.marks.turned_marks.Goals as goal

pub returns-in_default-clause-turned : goal.returns-in_default-clause-turned
returns-in_default-clause-turned c = λ t holds. nothing_told (spec_shown c.args.terms.now) c.args.mark t (c.in_default.ensures.term t holds)

pub turned-requires-clause-scheme : goal.turned-requires-clause-scheme
turned-requires-clause-scheme c = low_scheme c.args.terms.now c.facts.ensures c.args.n c.requires c.in-Some.field-0 c.scheme.result c.in-Some.ensures.op c.scheme.ensures.scheme

pub turned-requires-clause-count : goal.turned-requires-clause-count
turned-requires-clause-count c = few_schemes c.args.terms.now c.facts.ensures c.args.n c.requires c.scheme_count.result c.scheme_count.ensures

pub returns-in-Some-turned-clause-turned : goal.returns-in-Some-turned-clause-turned
returns-in-Some-turned-clause-turned c = λ t holds. (
  marks_told t c.in-Some.field-0 c.scheme.result c.elided.result (c.in-Some.ensures.term t holds) (c.scheme.ensures.term t holds) (c.elided.ensures.term t holds),
  turn_told (spec_shown c.args.terms.now) c.args.mark t c.in-Some.field-0 c.scheme.result c.scheme_count.result c.elided.result (c.in-Some.ensures.term t holds) (c.scheme.ensures.term t holds) (c.elided.ensures.term t holds) (c.scheme_count.ensures t holds)
      ∙ sym c.in-Some-turned.ensures.marks,
)

pub returns-in-Some-turned-clause-scheme : goal.returns-in-Some-turned-clause-scheme
returns-in-Some-turned-clause-scheme c = (
  low_scheme c.args.terms.now c.facts.ensures c.args.n c.requires c.in-Some.field-0 c.scheme.result c.in-Some.ensures.op c.scheme.ensures.scheme,
  c.in-Some-turned.ensures.scheme,
)

pub returns-in-None-clause-turned : goal.returns-in-None-clause-turned
returns-in-None-clause-turned c = λ t holds.
    turn_told (spec_shown c.args.terms.now) c.args.mark t c.in-Some.field-0 c.scheme.result c.scheme_count.result c.elided.result (c.in-Some.ensures.term t holds) (c.scheme.ensures.term t holds) (c.elided.ensures.term t holds) (c.scheme_count.ensures t holds)
    ∙ sym c.in-None.ensures.marks
