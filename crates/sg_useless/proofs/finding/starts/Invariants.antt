use Rattle.std.proofs.Common.{◌≡◌, ◌++◌, drop, map}
use Rattle.sg_kinds.specs.declared.spec.Entry.{Entry}
use Rattle.sg_useless.proofs.finding.starts.Given as goal

abbrev pub invariant-loop-entry : goal.invariant-loop-entry
invariant-loop-entry l = l.starts.items ++ map (λ (e : Entry). e.nonterminal) (drop l.entry-index l.entries) ≡ map (λ (e : Entry). e.nonterminal) l.entries
