use Rattle.std.proofs.Common.{◌≡◌, ◌≤◌, ◌^◌, drop}
use Rattle.std.specs.Prelude.{max}
use Rattle.sg_grammar.specs.Numbered.{named_by}
use Rattle.sg_grammar.proofs.named.named_by.Given as goal

abbrev pub invariant-loop-entry : goal.invariant-loop-entry
invariant-loop-entry l = (max l.most (named_by (drop l.entry-index l.entries)) ≡ named_by l.entries) × (l.most ≤ 2 ^ 32)
