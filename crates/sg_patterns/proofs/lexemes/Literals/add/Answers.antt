use Rattle.std.proofs.Common.{◌≡◌, ◌∙◌, sym, ap, ◌++◌, ◌∷◌, []}
use Rattle.sg_patterns.specs.Lexemes.{with_text}
use Rattle.sg_patterns.proofs.LiteralTexts.{text-added, text-known}
use Rattle.sg_patterns.proofs.lexemes.Literals.add.Goals as goal

pub returns-in_ok-push-clause-added : goal.returns-in_ok-push-clause-added
returns-in_ok-push-clause-added c =
    let texts = c.args.self.now.texts.items in
    let bytes : c.in_ok-bytes.bytes.items ≡ c.args.text.now = c.in_ok-bytes.ensures.items ∙ c.as_slice.ensures in
    let added = text-added (λ v. v.items) c.args.self.now.known.keys texts c.in_ok-bytes.bytes.items c.requires c.in_ok-insert.field-0 c.in_ok-insert.ensures.added c.if-branch.true in
    c.in_ok-push.ensures.items ∙ ap (λ t. texts ++ t ∷ []) (c.in_ok-copy.ensures ∙ sym bytes) ∙ sym added ∙ ap (with_text texts) bytes

pub returns-else-branch-clause-added : goal.returns-else-branch-clause-added
returns-else-branch-clause-added c =
    let texts = c.args.self.now.texts.items in
    let bytes : c.in_ok-bytes.bytes.items ≡ c.args.text.now = c.in_ok-bytes.ensures.items ∙ c.as_slice.ensures in
    sym (ap (with_text texts) (sym bytes) ∙ text-known (λ v. v.items) c.args.self.now.known.keys texts c.in_ok-bytes.bytes.items c.requires c.in_ok-insert.field-0 c.in_ok-insert.ensures.added c.if-branch.false)
