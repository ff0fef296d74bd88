use Rattle.std.proofs.Common.{◌<◌, subst, get_or}
use Rattle.sg_reasons.proofs.checking.is_later.Goals as goal

pub returns-in-Some : goal.returns-in-Some
returns-in-Some c = λ yes. record {
  row = c.in-Some.row.now;
  stands = c.in-Some.ensures;
  earlier = subst (λ xs. get_or xs c.args.b 0 < get_or xs c.args.a 0) c.as_slice.ensures (c.is_earlier.ensures yes);
}
