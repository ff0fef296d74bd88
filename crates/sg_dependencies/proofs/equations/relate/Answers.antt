use Rattle.std.proofs.Common.{◌∙◌, ap, get_or}
use Rattle.std.proofs.lemmas.List.{get_or_default}
use Rattle.sg_dependencies.specs.Frames.{number_in}
use Rattle.sg_dependencies.proofs.Related.{named_more}
use Rattle.sg_dependencies.proofs.equations.relate.Goals as goal

pub loop-arg-preserved : goal.loop-arg-preserved
loop-arg-preserved c =
    let rule = c.args.rule.now in
    let frame = c.args.frame.now in
    let at = get_or_default c.as_slice-arg-items.result.now c.loop-arg.arg-index (record { at = 0; slot = 0 }) rule.target c.loop-arg-test.true in
    let from = c.number.ensures ∙ ap (number_in frame) (at ∙ ap (λ xs. get_or xs c.loop-arg.arg-index rule.target) c.as_slice-arg-items.ensures) in
    record {
      size = c.add.ensures.size ∙ c.loop-arg.invariant.size;
      relates = named_more c.args.relation.now c.loop-arg.relation c.add.new.self frame rule c.loop-arg.arg-index c.number.result c.number-target.result c.loop-arg.invariant.relates c.add.ensures.gains from c.number-target.ensures;
    }
