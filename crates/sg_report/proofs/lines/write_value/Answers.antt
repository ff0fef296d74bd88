use Rattle.std.specs.Prelude.{ℕ, Option, option_map}
use Rattle.std.proofs.Common.{◌++◌, sym, ap, ◌∙◌, Vec, Global}
use Rattle.std.proofs.lemmas.Option.{none-some, same_Some}
use Rattle.sg_printing.proofs.Texts.{has_text}
use Rattle.sg_report.proofs.lines.write_value.Goals as goal

pub text_at-requires : goal.text_at-requires
text_at-requires c = c.requires

pub returns-in_default : goal.returns-in_default
returns-in_default c = λ root t u x at p fits low.
    absurd (none-some _ (sym (ap (λ (o : Option (Vec ℕ Global)). option_map (λ (s : Vec ℕ Global). s.items) o) c.in_default.is)
    ∙ c.in_ok-text.ensures root t u x at ∙ has_text c.args.terms.now c.facts.ensures root c.args.n t u x at p fits c.args.slot low))

pub returns : goal.returns
returns c = λ root t u x at p fits low.
    let text = sym (ap (λ (o : Option (Vec ℕ Global)). option_map (λ (s : Vec ℕ Global). s.items) o) c.in-Some.is)
    ∙ c.in_ok-text.ensures root t u x at ∙ has_text c.args.terms.now c.facts.ensures root c.args.n t u x at p fits c.args.slot low in
    c.in_ok-extend_from_slice.ensures.items ∙ ap (λ s. c.args.out.now.items ++ s) (c.as_slice.ensures.value ∙ same_Some _ _ text)
