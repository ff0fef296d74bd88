use Rattle.std.proofs.Common.{◌≡◌, take}
use Rattle.sg_build.proofs.Told.{the_term}
use Rattle.sg_select.specs.Around.{kids}
use Rattle.sg_search.proofs.replaced.first_kids.Given as goal

abbrev pub invariant-loop-k : goal.invariant-loop-k
invariant-loop-k l = l.all.items ≡ take l.k (kids (the_term l.terms l.n))
