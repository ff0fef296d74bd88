use Rattle.std.proofs.Common.{sym, ap, ◌∙◌}
use Rattle.std.specs.Prelude.{◌&&◌}
use Rattle.sg_kinds.specs.Specification.{has_shape}
use Rattle.sg_edits.specs.Edits.{is_listed, is_never_empty}
use Rattle.sg_edits.proofs.Placed.{fits_phylum}
use Rattle.sg_edits.proofs.lists.is_last.Goals as goal

pub returns-then-not-is_only : goal.returns-then-not-is_only
returns-then-not-is_only c = λ root t x y u placed holds below.
    let spec = c.args.terms.now.spec in
    let only = sym (c.is_only.ensures root t y u placed below) ∙ c.if-not-is_only.true in
    sym (ap (λ b. b && is_never_empty spec x) only)

pub returns : goal.returns
returns c = λ root t x y u placed holds below.
    let spec = c.args.terms.now.spec in
    let only = sym (c.is_only.ensures root t y u placed below) ∙ c.if-not-is_only.false in
    c.is_listed.ensures ∙ ap (λ s. has_shape s.phyla is_listed c.phylum.result) c.spec.ensures
    ∙ ap (has_shape spec.phyla is_listed) (sym (fits_phylum spec x c.phylum.result (c.phylum.ensures.term x holds)))
    ∙ sym (ap (λ b. b && is_never_empty spec x) only)
