use Rattle.std.proofs.Common.{◌≡◌, ◌++◌, drop}
use Rattle.sg_grammar.specs.Numbered.{starts_of}
use Rattle.sg_grammar.proofs.numbering.Numbering.starts.Given as goal

abbrev pub invariant-loop-place : goal.invariant-loop-place
invariant-loop-place l =
    starts_of l.self.spec.now 0 l.self.spec.now.entries ≡ l.starts.items ++ starts_of l.self.spec.now l.place (drop l.place l.self.spec.now.entries)
