use Rattle.std.proofs.Common.{◌≡◌, ◌≤◌, ◌++◌, length, drop}
use Rattle.sg_prec.specs.Levels.{row_at}
use Rattle.sg_reports.specs.Symbols.{nonterminal_symbols}
use Rattle.sg_reports.proofs.symbols.push_nonterminals.Given as goal

abbrev pub invariant-loop-production : goal.invariant-loop-production
invariant-loop-production l =
    let symbols = nonterminal_symbols l.told (λ n. length (row_at l.levels n)) in
    record {
      names : l.symbols.items ++ symbols l.next (drop l.production-index l.productions) ≡ l.initial.symbols.items ++ symbols 0 l.productions;
      few : l.next ≤ l.production-index;
    }
