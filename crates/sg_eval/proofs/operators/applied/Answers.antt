use Rattle.std.proofs.Common.{ap, subst}
use Rattle.sg_kinds.specs.Evaluation.{Gives, limited}
use Rattle.sg_pool.proofs.Grown.{grown_itself}
use Rattle.sg_eval.specs.Lives.{IsUsable}
use Rattle.sg_eval.proofs.Bindings.{kept_known, value_stays, usable_later}
use Rattle.sg_eval.proofs.Forms.{negative_untyped, not_untyped, digits_untyped}
use Rattle.sg_eval.proofs.operators.applied.Goals as goal

pub returns-in_default : goal.returns-in_default
returns-in_default c = record {
  value = λ last left g. ap (λ v. limited (Gives v left)) (negative_untyped last c.args.f c.args.x c.in-Negative.is (usable_later c.args.pool.now last c.args.x g c.requires) c.in_default.not-Number);
  grown = grown_itself c.args.pool.now;
}

pub returns-in_default-x : goal.returns-in_default-x
returns-in_default-x c = record {
  value = λ last left g. ap (λ v. limited (Gives v left)) (not_untyped last c.args.f c.args.x c.in-Not.is (usable_later c.args.pool.now last c.args.x g c.requires) c.in_default-x.not-False c.in_default-x.not-True);
  grown = grown_itself c.args.pool.now;
}

pub returns-in_default-x-3 : goal.returns-in_default-x-3
returns-in_default-x-3 c = record {
  value = λ last left g. ap (λ v. limited (Gives v left)) (digits_untyped last c.args.f c.args.x c.in-NumberToText.is (usable_later c.args.pool.now last c.args.x g c.requires) c.in_default-x-3.not-Number);
  grown = grown_itself c.args.pool.now;
}

pub returns-in-Kept-clause-value : goal.returns-in-Kept-clause-value
returns-in-Kept-clause-value c = λ last left g.
    let known = kept_known c.args.pool.now c.in-Kept.number (subst (IsUsable c.args.pool.now) c.in-Kept.is c.requires) in
    rw (c.in-Kept.is, c.in-TextToNumber.is, value_stays c.args.pool.now last c.in-Kept.number g known) (c.number.ensures last left)

pub returns-in-Kept-x-clause-value : goal.returns-in-Kept-x-clause-value
returns-in-Kept-x-clause-value c = λ last left g.
    let known = kept_known c.args.pool.now c.in-Kept-x.number (subst (IsUsable c.args.pool.now) c.in-Kept-x.is c.requires) in
    rw (c.in-Kept-x.is, c.in-TextLength.is, value_stays c.args.pool.now last c.in-Kept-x.number g known) (c.length.ensures last left)
