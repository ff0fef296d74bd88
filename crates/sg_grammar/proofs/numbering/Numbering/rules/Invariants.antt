use Rattle.std.proofs.Common.{◌≡◌, map, take}
use Rattle.sg_prec.specs.Sources.{spread_from}
use Rattle.sg_grammar.specs.Numbered.{rule_of}
use Rattle.sg_grammar.proofs.numbering.Numbering.rules.Given as goal

abbrev pub invariant-loop-source : goal.invariant-loop-source
invariant-loop-source l = l.rules.items ≡ map (rule_of l.self.spec.now) (map spread_from (take l.source-index l.source-items))
