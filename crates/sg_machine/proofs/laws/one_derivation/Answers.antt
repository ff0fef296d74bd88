use Rattle.std.specs.Prelude.{[]}
use Rattle.sg_machine.proofs.Ends.{one-derivation}
use Rattle.sg_machine.proofs.laws.one_derivation.Goals as goal

pub returns-clause-result : goal.returns-clause-result
returns-clause-result c = λ v tables m k N entry alg ts b b' i j d e. (one-derivation v tables m alg k N entry [] ts b b' i j d e).0

pub returns-clause-nodes : goal.returns-clause-nodes
returns-clause-nodes c = λ v tables m k N entry alg ts b b' i j d e. (one-derivation v tables m alg k N entry [] ts b b' i j d e).1
