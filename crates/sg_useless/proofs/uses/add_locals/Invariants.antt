use Rattle.std.proofs.Common.{◌≡◌, ◌++◌, drop}
use Rattle.std.specs.Prelude.{flat_map}
use Rattle.sg_useless.specs.Uses.{other}
use Rattle.sg_useless.proofs.uses.add_locals.Given as goal

abbrev pub invariant-loop-local : goal.invariant-loop-local
invariant-loop-local l = l.uses.items ++ flat_map (λ x. other l.own x.of) (drop l.local-index l.locals) ≡ l.initial.uses.items ++ flat_map (λ x. other l.own x.of) l.locals
