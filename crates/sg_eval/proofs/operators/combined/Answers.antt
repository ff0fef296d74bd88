use Rattle.std.proofs.Common.{ap, subst, sym, w64, FitsSigned, rules}
use Rattle.std.proofs.lemmas.Int.{to_z-of_z}
use Rattle.sg_kinds.specs.Evaluation.{Gives, limited}
use Rattle.sg_pool.proofs.Grown.{grown_itself}
use Rattle.sg_eval.specs.Lives.{IsReached}
use Rattle.sg_eval.proofs.Bindings.{usable_later}
use Rattle.sg_eval.proofs.Forms.{left_not_number, right_not_number, both_numbers}
use Rattle.sg_eval.proofs.operators.combined.Goals as goal

pub returns-in-Number-Number : goal.returns-in-Number-Number
returns-in-Number-Number c = record {
  value = λ last left g.
      let x = c.in-Number-Number.x in
      let y = c.in-Number-Number.y in
      let fx : FitsSigned w64 x = search rules in
      let fy : FitsSigned w64 y = search rules in
      rw (c.in-Number-Number.is-0, c.in-Number-Number.is-1)
      (subst (λ v. IsReached last c.arithmetic.result left (limited (Gives v left))) (sym (both_numbers c.args.sign x y (record { equal = c.in_default.not-Equal; unequal = c.in_default.not-Unequal; join = c.in_default.not-Join })))
      (rw (to_z-of_z w64 x fx, to_z-of_z w64 y fy) at (c.arithmetic.ensures last left)));
  grown = grown_itself c.args.pool.now;
}

pub returns-in_default-3 : goal.returns-in_default-3
returns-in_default-3 c = record {
  value = λ last left g. ap (λ v. limited (Gives v left))
      (right_not_number last c.args.sign c.args.x c.args.y (record { equal = c.in_default.not-Equal; unequal = c.in_default.not-Unequal; join = c.in_default.not-Join }) (usable_later c.args.pool.now last c.args.y g c.requires.y) c.in_default-3.not-Number-1);
  grown = grown_itself c.args.pool.now;
}

pub returns-in_default-3-2 : goal.returns-in_default-3-2
returns-in_default-3-2 c = record {
  value = λ last left g. ap (λ v. limited (Gives v left))
      (left_not_number last c.args.sign c.args.x c.args.y (record { equal = c.in_default.not-Equal; unequal = c.in_default.not-Unequal; join = c.in_default.not-Join }) (usable_later c.args.pool.now last c.args.x g c.requires.x) c.in_default-3.not-Number-0);
  grown = grown_itself c.args.pool.now;
}
