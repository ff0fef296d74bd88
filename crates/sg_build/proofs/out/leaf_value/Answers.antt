use Rattle.std.proofs.Common.{IfOk, List, subst}
use Rattle.sg_kinds.specs.Values.{Value}
use Rattle.sg_pool.specs.Pools.{StandsFor}
use Rattle.sg_build.proofs.Told.{pool_value, number_there}
use Rattle.sg_build.proofs.out.leaf_value.Goals as goal

pub stored-requires : goal.stored-requires
stored-requires c = number_there c.args.terms.now c.facts.ensures c.args.n c.requires.live c.requires.leaf

pub returns : goal.returns
returns c =
    pool_value c.args.terms.now c.args.n c.stored.result c.value.result
    (let P : List Value → Type 0 = λ pool. IfOk c.value.result (λ v. StandsFor pool c.stored.result v) in subst P c.pool.ensures c.value.ensures) c.stored.ensures.leaf
