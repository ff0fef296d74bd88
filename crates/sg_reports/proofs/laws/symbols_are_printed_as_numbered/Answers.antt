use Rattle.sg_reports.proofs.SymbolLaws.{end_symbol, marker_symbol, literal_symbol, lexeme_symbol, nonterminal_symbol, written_symbol}
use Rattle.sg_reports.proofs.laws.symbols_are_printed_as_numbered.Goals as goal

pub returns-clause-end : goal.returns-clause-end
returns-clause-end c = end_symbol

pub returns-clause-marker : goal.returns-clause-marker
returns-clause-marker c = marker_symbol

pub returns-clause-literal : goal.returns-clause-literal
returns-clause-literal c = literal_symbol

pub returns-clause-lexeme : goal.returns-clause-lexeme
returns-clause-lexeme c = lexeme_symbol

pub returns-clause-nonterminal : goal.returns-clause-nonterminal
returns-clause-nonterminal c = nonterminal_symbol

pub returns-clause-written : goal.returns-clause-written
returns-clause-written c = written_symbol
