use Rattle.std.specs.Prelude.{slice_get}
use Rattle.std.proofs.Common.{◌∙◌, ap, rules}
use Rattle.sg_pool.proofs.Inserted.{pooled_pushed, with_inserted, stands_kept}
use Rattle.sg_pool.proofs.Grown.{grown_put}
use Rattle.sg_pool.proofs.pool.Pool.enter.Goals as goal
use Rattle.sg_pool.proofs.pool.Pool.enter.Goals.{then-added, else-added}

pub invariant_of-self-then-added : goal.invariant_of-self-then-added
invariant_of-self-then-added c =
    pooled_pushed _ _ _ _ _ c.self.invariant c.self.view_is c.requires.kids c.in_ok-number.ensures.keys _ c.args.measure _ c.requires.measure c.in_ok-number.ensures.added c.if-added.true (search rules)

pub returns-clause-stands : goal.returns-clause-stands
returns-clause-stands c =
    let stands = stands_kept _ _ _ _ _ c.self.invariant c.self.view_is c.requires.kids c.in_ok-number.ensures.keys _ c.in_ok-number.ensures.stored in
    elim c.if-added.branch [
      | then-added w ↦ ap (λ l. slice_get l c.in_ok-number.number) w.self-is ∙ stands
      | else-added w ↦ ap (λ l. slice_get l c.in_ok-number.number) w.self-is ∙ stands
    ]

pub returns-clause-pool : goal.returns-clause-pool
returns-clause-pool c =
    let inserted = with_inserted _ _ _ _ _ c.self.invariant c.self.view_is c.requires.kids c.in_ok-number.ensures.keys in
    elim c.if-added.branch [ then-added w ↦ w.self-is ∙ inserted | else-added w ↦ w.self-is ∙ inserted ]

pub returns-clause-grown : goal.returns-clause-grown
returns-clause-grown c = grown_put _ _ _ (returns-clause-pool c)
