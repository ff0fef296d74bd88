use Rattle.std.proofs.Common.{sym, ◌∙◌}
use Rattle.sg_grammar.proofs.LevelNumbers.{last_at, count_answer}
use Rattle.sg_grammar.proofs.numbering.Numbering.symbols.Goals as goal

pub returns-in-Some : goal.returns-in-Some
returns-in-Some c =
    let s = c.args.self.now in
    let x = c.in-Some.levels.now in
    let is = last_at s.spec.now c.deref.result.now x (c.deref.ensures.value ∙ s.levels) (sym c.in-Some.ensures.value) in
    count_answer s.spec.now c.number.result c.first_nonterminal.result x c.first_nonterminal.ensures.number is c.number.ensures
