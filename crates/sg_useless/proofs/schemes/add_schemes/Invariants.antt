use Rattle.std.proofs.Common.{◌≡◌, ◌++◌, drop}
use Rattle.std.specs.Prelude.{flat_map}
use Rattle.sg_useless.specs.Uses.{item_uses}
use Rattle.sg_useless.proofs.schemes.add_schemes.Given as goal

abbrev pub invariant-loop-scheme : goal.invariant-loop-scheme
invariant-loop-scheme l = l.uses.items ++ flat_map (λ s. item_uses l.spec l.op l.operator l.seen 0 s.items) (drop l.scheme-index l.schemes) ≡ l.initial.uses.items ++ flat_map (λ s. item_uses l.spec l.op l.operator l.seen 0 s.items) l.schemes
