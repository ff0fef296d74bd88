use Rattle.std.proofs.Common.{map, take}
use Rattle.sg_lalr.proofs.OpeningLemmas.{GathersAll}
use Rattle.sg_lalr.proofs.closure.of_symbols.Given as goal

abbrev pub invariant-loop-y : goal.invariant-loop-y
invariant-loop-y l = GathersAll (map (λ k. k.items) l.lefts) (take l.y-index l.symbols) l.productions.items
