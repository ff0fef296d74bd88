use Rattle.std.proofs.Common.{◌≡◌, length, map, take}
use Rattle.sg_lalr.specs.Lefts.{AreHeads}
use Rattle.sg_lalr.proofs.lefts.heads.Given as goal

abbrev pub invariant-loop-rule : goal.invariant-loop-rule
invariant-loop-rule l = record {
  count : length l.rows.items ≡ l.g.symbols;
  each : AreHeads (take l.rule-index l.rules) (map (λ k. k.items) l.rows.items);
}
