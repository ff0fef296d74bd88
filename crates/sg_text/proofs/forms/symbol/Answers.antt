use Rattle.std.proofs.Common.{sym, ◌∙◌}
use Rattle.sg_text.proofs.SymbolLemmas.{symbol-found}
use Rattle.sg_text.proofs.forms.symbol.Goals as goal

pub returns-in-Some : goal.returns-in-Some
returns-in-Some c =
    let r = c.requires in
    sym (symbol-found c.args.at c.args.rest.now (c.in-Some.symbol, c.in-Some.len) r.some r.sign r.no_blank r.no_comment (sym c.longest_symbol.ensures ∙ c.in-Some.is))
