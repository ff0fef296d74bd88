use Rattle.std.proofs.Common.{◌∙◌, ap, map}
use Rattle.sg_patterns.specs.Lexemes.{with_text}
use Rattle.sg_grammar.proofs.Places.{map-with_text, with_text-there}
use Rattle.sg_grammar.proofs.numbering.add.Goals as goal

pub returns-in_ok-insert : goal.returns-in_ok-insert
returns-in_ok-insert c =
    let keys = c.args.literals.now.keys in
    ap (map (λ v. v.items)) c.in_ok-insert.ensures.keys ∙ map-with_text (λ v. v.items) keys c.in_ok-from_slice.field-0 ∙ ap (with_text (map (λ v. v.items) keys)) c.in_ok-from_slice.ensures.items

pub returns-else-not-contains : goal.returns-else-not-contains
returns-else-not-contains c = with_text-there (λ v. v.items) c.args.literals.now.keys c.args.text.now c.contains.result c.contains.ensures c.if-not-contains.false
