use Rattle.sg_reports.proofs.SymbolLaws.{grammar_answer}
use Rattle.sg_reports.proofs.symbols.push_grammar.Goals as goal

pub returns : goal.returns
returns c =
    let s = c.args.spec.now in
    grammar_answer c.push_nonterminals.result c.args.told s.levels c.as_slice.result.now s.productions c.as_slice-productions.result.now c.in_ok-levels.levels c.args.symbols.now.items c.push_nonterminals.new.symbols.items
    c.as_slice.ensures c.as_slice-productions.ensures c.in_ok-levels.ensures c.push_nonterminals.ensures
