use Rattle.std.proofs.Common.{◌≡◌, length, map}
use Rattle.sg_lalr.proofs.BegunLemmas.{LeftsTo}
use Rattle.sg_lalr.proofs.lefts.lefts.Given as goal

abbrev pub invariant-loop-q : goal.invariant-loop-q
invariant-loop-q l = record {
  count : length l.rows.items ≡ l.g.symbols;
  each : LeftsTo l.g.rules (map (λ k. k.items) l.rows.items) l.q;
}
