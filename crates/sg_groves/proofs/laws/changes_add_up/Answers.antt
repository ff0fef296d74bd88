use Rattle.std.specs.Prelude.{IsTrue}
use Rattle.sg_groves.proofs.Frames.{only_more, only_twice}
use Rattle.sg_groves.proofs.laws.changes_add_up.Goals as goal

pub returns-clause-more : goal.returns-clause-more
returns-clause-more c = λ old new few many within only. only_more old new (λ n slot. IsTrue (few n slot)) (λ n slot. IsTrue (many n slot)) within only

pub returns-clause-both : goal.returns-clause-both
returns-clause-both c = λ old mid new one two first second. only_twice old mid new (λ n slot. IsTrue (one n slot)) (λ n slot. IsTrue (two n slot)) first second
