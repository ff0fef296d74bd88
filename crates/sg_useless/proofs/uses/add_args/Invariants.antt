use Rattle.std.proofs.Common.{◌≡◌, ◌++◌, drop}
use Rattle.std.specs.Prelude.{flat_map}
use Rattle.sg_useless.specs.Uses.{other}
use Rattle.sg_useless.proofs.uses.add_args.Given as goal

abbrev pub invariant-loop-p : goal.invariant-loop-p
invariant-loop-p l = l.uses.items ++ flat_map (other l.own) (drop l.p-index l.args) ≡ l.initial.uses.items ++ flat_map (other l.own) l.args
