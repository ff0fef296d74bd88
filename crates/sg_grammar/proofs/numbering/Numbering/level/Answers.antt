use Rattle.std.proofs.Common.{length, refl, sym, ap, ◌∙◌}
use Rattle.std.specs.Prelude.{suc, slice_get}
use Rattle.std.proofs.lemmas.Option.{slice_get_read}
use Rattle.sg_prec.specs.Levels.{levels_before}
use Rattle.sg_grammar.specs.Numbered.{nonterminal_count}
use Rattle.sg_grammar.proofs.LevelNumbers.{row_at_place, level_answer}
use Rattle.sg_grammar.proofs.numbering.Numbering.level.Goals as goal

pub returns-in-Some : goal.returns-in-Some
returns-in-Some c =
    let s = c.args.self.now in
    let x = c.in-Some.before.now in
    let l = c.in-Some.ensures.lookup in
    let at = slice_get_read c.deref.result.now (length c.deref.result.now) c.args.n x refl l.3.0 (l.3.1 x) in
    let row = c.deref.ensures.value ∙ s.levels in
    let is = row_at_place (levels_before s.spec.now.levels s.spec.now.productions) (suc (nonterminal_count s.spec.now)) c.args.n x (ap (λ xs. slice_get xs c.args.n) (sym row) ∙ at) in
    level_answer s.spec.now c.number.result c.args.n c.args.i c.first_nonterminal.result x c.first_nonterminal.ensures.number is c.number.ensures
