use Rattle.std.proofs.Common.{◌≡◌, ◌++◌, take}
use Rattle.std.specs.Prelude.{flat_map}
use Rattle.sg_known.specs.Signatures.{arg_text}
use Rattle.sg_known.proofs.signatures.write_args.Given as goal

abbrev pub invariant-loop-of : goal.invariant-loop-of
invariant-loop-of l = l.out.items ≡ l.initial.out.items ++ flat_map arg_text (take l.of-index l.args)
