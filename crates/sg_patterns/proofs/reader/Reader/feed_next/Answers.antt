use Rattle.std.proofs.Common.{sym, ap, subst, ◌∙◌, ◌≡◌, ◌∷◌}
use Rattle.sg_kinds.specs.Lexemes.{Class}
use Rattle.sg_patterns.specs.Readers.{Fed}
use Rattle.sg_patterns.proofs.Defaults.{next-default}
use Rattle.sg_patterns.proofs.reader.Reader.feed_next.Goals as goal

pub returns-in-RightBracket : goal.returns-in-RightBracket
returns-in-RightBracket c m outer f negated rs h =
    let ranges : c.replace-ranges.result.items ≡ rs = ap (λ v. v.items) c.replace-ranges.ensures.value ∙ h.so_far in
    rw c.in-RightBracket.is (c.hold.ensures m outer f (Class negated rs) (record { at_mode = h.reads.at_mode; outside = h.reads.outside; inside = h.reads.inside; made = h.reads.made }) (λ ps. (λ i. Class (h.way i) ((c.new-in-RightBracket.ensures ∙ ranges) i) ∷ ps)))

pub returns-in_default : goal.returns-in_default
returns-in_default c m outer f negated rs h =
    subst (λ o. Fed o c.feed_start.result c.feed_start.new.self) (sym (next-default outer f negated rs c.args.byte c.args.kind c.in_default.not-RightBracket)) (c.feed_start.ensures m outer f negated rs h)
