use Rattle.sg_schemes.proofs.FirstInText.{no_scheme_first, scheme_kids_first, scheme_text_first}
use Rattle.sg_schemes.proofs.laws.first_is_first_in_the_text.Goals as goal

pub returns-clause-no_scheme : goal.returns-clause-no_scheme
returns-clause-no_scheme c = no_scheme_first

pub returns-clause-scheme_kids : goal.returns-clause-scheme_kids
returns-clause-scheme_kids c = scheme_kids_first

pub returns-clause-scheme_text : goal.returns-clause-scheme_text
returns-clause-scheme_text c = scheme_text_first
