use Rattle.std.proofs.Common.{◌∙◌, ◌++◌, sym, ap, take, get_or, append_assoc}
use Rattle.std.proofs.lemmas.List.{take_more}
use Rattle.sg_saved_form.specs.Files.{escaped, escaped_byte}
use Rattle.sg_saved_form.proofs.Codes.{escaped-more}
use Rattle.sg_saved.proofs.parts.put_text.Goals as goal

pub loop-b-preserved : goal.loop-b-preserved
loop-b-preserved c =
    let at = c.loop-b.b-index in
    let text = c.args.text.now in
    c.in_ok-put_byte.ensures ∙ ap (λ x. x ++ escaped_byte (get_or text at 0)) c.loop-b.invariant ∙ append_assoc c.push.new.self.items (escaped (take at text)) (escaped_byte (get_or text at 0))
    ∙ ap (λ x. c.push.new.self.items ++ x) (sym (ap escaped (take_more text at 0 c.loop-b-test.true) ∙ escaped-more (take at text) (get_or text at 0)))
