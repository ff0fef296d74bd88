use Rattle.std.proofs.Common.{◌≡◌, suc, [], ◌∷◌, ◌++◌, sym, ap, ◌∙◌, add-one}
use Rattle.sg_grammar.specs.declared.grammar.Made.TheVariants.{Same}
use Rattle.sg_grammar.specs.Numbered.{level_number}
use Rattle.sg_grammar.proofs.LevelNumbers.{level_next}
use Rattle.sg_grammar.proofs.numbering.Numbering.step.Goals as goal

pub returns : goal.returns
returns c line =
    let spec = c.args.self.now.spec.now in
    let n = c.args.n in
    let next : c.in_ok-number.field-0 ≡ level_number spec n (suc c.args.level) = c.in_ok-number.ensures ∙ add-one c.in_ok-left.left ∙ ap suc c.in_ok-left.ensures ∙ sym (level_next spec n c.args.level) in
    let right : c.new.result ≡ level_number spec n (suc c.args.level) ∷ [] = c.new.ensures ∙ c.in_ok-push.ensures.items ∙ (λ t. c.in_ok-right.ensures.items t ++ next t ∷ []) in
    let left : c.in_ok-left.left ≡ level_number spec n c.args.level = c.in_ok-left.ensures in
    λ t. record { left = left t; right = right t; made = Same }
