use Rattle.std.proofs.Common.{◌++◌, ℕ, Option, ap, ◌∙◌}
use Rattle.sg_mismatches.specs.Mistypes.{place_text}
use Rattle.sg_mismatches.proofs.Lines.{both}
use Rattle.sg_mismatches.proofs.mistypes.write_mistyped.Goals as goal

pub returns-clause-text : goal.returns-clause-text
returns-clause-text c =
    both _ _ _ _ _ (c.in_ok-here.ensures.text ∙ ap (λ (at : Option ℕ). c.args.out.now.items ++ place_text c.args.bytes.now c.args.mistyped.now.place at) c.begin_within-at.ensures.value) c.in_ok-write_types.ensures
