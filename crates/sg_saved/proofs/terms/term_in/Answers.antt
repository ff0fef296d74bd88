use Rattle.std.proofs.Common.{◌∙◌}
use Rattle.sg_saved.proofs.Planting.{whole-ahead, whole-deep}
use Rattle.sg_saved.proofs.terms.term_in.Goals as goal

pub term_at-requires : goal.term_at-requires
term_at-requires c =
    let file = c.requires.file in
    record {
      ready = c.in_ok-matcher.ensures ∙ c.as_slice.ensures;
      names = c.requires.names;
      ahead = (_, _, _, whole-ahead c.args.source.now.bytes.now c.args.source.now.outline.now file, whole-deep c.args.source.now.bytes.now c.args.source.now.outline.now file);
    }

pub returns : goal.returns
returns c = λ o. c.term_at.ensures.read _ _ _ (whole-ahead c.args.source.now.bytes.now c.args.source.now.outline.now o)
