use Rattle.std.proofs.Common.{◌≡◌, drop}
use Rattle.sg_remote.specs.Reach.{put_all}
use Rattle.sg_remote.proofs.reach.put_all.Given as goal

abbrev pub invariant-loop-k : goal.invariant-loop-k
invariant-loop-k l = put_all l.flags (drop l.k-index l.starts) ≡ put_all l.initial.flags l.starts
