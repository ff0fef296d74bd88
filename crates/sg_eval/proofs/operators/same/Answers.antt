use Rattle.std.proofs.Common.{◌<◌, length, subst}
use Rattle.sg_eval.specs.Lives.{IsUsable}
use Rattle.sg_eval.proofs.Bindings.{kept_known}
use Rattle.sg_eval.proofs.Forms.{same_kept}
use Rattle.sg_eval.proofs.operators.same.Goals as goal

pub returns-in-Kept-Kept : goal.returns-in-Kept-Kept
returns-in-Kept-Kept c =
    let pool = c.args.pool.now in
    let a = c.in-Kept-Kept.x in
    let b = c.in-Kept-Kept.y in
    let ka : a < length pool = kept_known pool a (subst (IsUsable pool) c.in-Kept-Kept.is-0 c.requires.x) in
    let kb : b < length pool = kept_known pool b (subst (IsUsable pool) c.in-Kept-Kept.is-1 c.requires.y) in
    rw (c.in-Kept-Kept.is-0, c.in-Kept-Kept.is-1) (same_kept pool a b (c.sound.ensures.one_number a b ka kb))
