use Rattle.std.proofs.Common.{ap, sym, subst, ◌∙◌, ◌<◌, length, nat_eq}
use Rattle.sg_kinds.specs.Values.{same_value}
use Rattle.sg_pool.specs.Pools.{value_at}
use Rattle.sg_eval.specs.Lives.{value_in, IsKnown}
use Rattle.sg_eval.proofs.Forms.{same_kept}
use Rattle.sg_eval.proofs.patterns.has_number.Goals as goal

pub returns-in-Kept : goal.returns-in-Kept
returns-in-Kept c =
    let pool = c.args.pool.now in
    let known : c.in-Kept.number < length pool = subst (IsKnown (length pool)) c.in-Kept.is c.requires.known in
    ap (λ n. nat_eq n c.in-Kept.number) c.id.view_is
    ∙ same_kept pool c.args.id c.in-Kept.number (c.sound.ensures.one_number c.args.id c.in-Kept.number c.requires.number known)
    ∙ ap (λ x. same_value (value_at pool c.args.id) (value_in pool x)) (sym c.in-Kept.is)
