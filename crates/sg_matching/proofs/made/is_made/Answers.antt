use Rattle.std.proofs.Common.{◌≡◌, sym, ap, ◌∙◌}
use Rattle.sg_kinds.specs.Values.{same_value}
use Rattle.sg_kinds.specs.Evaluation.{made_value}
use Rattle.sg_kinds.specs.Completing.{completing_within}
use Rattle.sg_kinds.specs.Placeholder.{placeholder_within}
use Rattle.sg_matching.specs.Under.{value_under}
use Rattle.sg_matching.specs.MadeUnder.{has_value}
use Rattle.sg_matching.proofs.MadeValues.{completing_told, placeholder_told}
use Rattle.sg_matching.proofs.made.is_made.Goals as goal

pub returns-in-Completing : goal.returns-in-Completing
returns-in-Completing c =
    let g = c.args.terms.now in
    let v = value_under g c.args.n in
    let walked : c.is_completing.result ≡ has_value (completing_within g.spec 1024 c.args.p) v = c.is_completing.ensures in
    walked ∙ sym (completing_told g.spec c.facts.ensures.sound c.args.p c.requires.phylum v) ∙ sym (ap (λ m. same_value (made_value g.spec m c.args.p) v) c.in-Completing.is)

pub returns-in-Placeholder : goal.returns-in-Placeholder
returns-in-Placeholder c =
    let g = c.args.terms.now in
    let v = value_under g c.args.n in
    let walked : c.is_placeholder.result ≡ has_value (placeholder_within g.spec 1023 c.args.p) v = c.is_placeholder.ensures in
    walked ∙ sym (placeholder_told g.spec c.facts.ensures.sound c.args.p c.requires.phylum v) ∙ sym (ap (λ m. same_value (made_value g.spec m c.args.p) v) c.in-Placeholder.is)
