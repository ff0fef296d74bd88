use Rattle.sg_load.proofs.FirstPattern.{patterns_ordered, pattern_form_first, empty_lexeme_first}
use Rattle.sg_load.proofs.laws.patterns_follow_the_text.Goals as goal

pub returns-clause-patterns : goal.returns-clause-patterns
returns-clause-patterns c = patterns_ordered

pub returns-clause-pattern_form : goal.returns-clause-pattern_form
returns-clause-pattern_form c = pattern_form_first

pub returns-clause-empty_lexeme : goal.returns-clause-empty_lexeme
returns-clause-empty_lexeme c = empty_lexeme_first
