use Rattle.std.proofs.Common.{◌≡◌, map}
use Rattle.sg_kinds.specs.Instances.{below}
use Rattle.sg_prec.specs.Levels.{levels_before}
use Rattle.sg_grammar.proofs.numbering.levels_before.Given as goal

abbrev pub invariant-loop-n : goal.invariant-loop-n
invariant-loop-n l =
    let before = levels_before l.fn.spec.levels l.fn.spec.productions in
    record {
      row : l.before.items ≡ map before (below l.n);
      total : l.total ≡ before l.n;
    }
