use Rattle.std.proofs.Common.{sym, subst, ◌∙◌, ◌≡◌}
use Rattle.std.specs.Prelude.{IfOk}
use Rattle.sg_patterns.specs.Machine as machine
use Rattle.sg_patterns.specs.declared.reader.Mode.TheVariants as mode
use Rattle.sg_patterns.specs.Readers.{Fed}
use Rattle.sg_patterns.proofs.reader.Reader.feed.Goals as goal

pub returns-in-Ready : goal.returns-in-Ready
returns-in-Ready c (machine.Ready outer f) h = subst (λ k. IfOk c.feed_ready.result (λ more. Fed (machine.feed_kind (machine.Ready outer f) c.args.byte k) more c.feed_ready.new.self)) c.kind_of-kind.ensures (c.feed_ready.ensures mode.Ready outer f h)
returns-in-Ready c (machine.Held outer f p) h = absurd (let both : mode.Ready ≡ mode.Held = sym c.in-Ready.is ∙ h.at_mode in cc)
returns-in-Ready c (machine.Escape outer f) h = absurd (let both : mode.Ready ≡ mode.Escape = sym c.in-Ready.is ∙ h.at_mode in cc)
returns-in-Ready c (machine.Bracket outer f negated rs m) h = absurd (let both : mode.Ready ≡ mode.Bracket m = sym c.in-Ready.is ∙ h.reads.at_mode in cc)

pub returns-in-Held : goal.returns-in-Held
returns-in-Held c (machine.Ready outer f) h = absurd (let both : mode.Held ≡ mode.Ready = sym c.in-Held.is ∙ h.at_mode in cc)
returns-in-Held c (machine.Held outer f p) h = subst (λ k. IfOk c.feed_held.result (λ more. Fed (machine.feed_kind (machine.Held outer f p) c.args.byte k) more c.feed_held.new.self)) c.kind_of-kind.ensures (c.feed_held.ensures mode.Held outer f p h)
returns-in-Held c (machine.Escape outer f) h = absurd (let both : mode.Held ≡ mode.Escape = sym c.in-Held.is ∙ h.at_mode in cc)
returns-in-Held c (machine.Bracket outer f negated rs m) h = absurd (let both : mode.Held ≡ mode.Bracket m = sym c.in-Held.is ∙ h.reads.at_mode in cc)

pub returns-in-Escape : goal.returns-in-Escape
returns-in-Escape c (machine.Ready outer f) h = absurd (let both : mode.Escape ≡ mode.Ready = sym c.in-Escape.is ∙ h.at_mode in cc)
returns-in-Escape c (machine.Held outer f p) h = absurd (let both : mode.Escape ≡ mode.Held = sym c.in-Escape.is ∙ h.at_mode in cc)
returns-in-Escape c (machine.Escape outer f) h = subst (λ k. IfOk c.feed_quoted.result (λ more. Fed (machine.feed_kind (machine.Escape outer f) c.args.byte k) more c.feed_quoted.new.self)) c.kind_of-kind.ensures (c.feed_quoted.ensures mode.Escape outer f h)
returns-in-Escape c (machine.Bracket outer f negated rs m) h = absurd (let both : mode.Escape ≡ mode.Bracket m = sym c.in-Escape.is ∙ h.reads.at_mode in cc)

pub returns-in-Bracket : goal.returns-in-Bracket
returns-in-Bracket c (machine.Ready outer f) h = absurd (let both : mode.Bracket c.in-Bracket.inside ≡ mode.Ready = sym c.in-Bracket.is ∙ h.at_mode in cc)
returns-in-Bracket c (machine.Held outer f p) h = absurd (let both : mode.Bracket c.in-Bracket.inside ≡ mode.Held = sym c.in-Bracket.is ∙ h.at_mode in cc)
returns-in-Bracket c (machine.Escape outer f) h = absurd (let both : mode.Bracket c.in-Bracket.inside ≡ mode.Escape = sym c.in-Bracket.is ∙ h.at_mode in cc)
returns-in-Bracket c (machine.Bracket outer f negated rs m) h = subst (λ k. IfOk c.feed_inside.result (λ more. Fed (machine.feed_kind (machine.Bracket outer f negated rs m) c.args.byte k) more c.feed_inside.new.self)) c.kind_of-kind.ensures
    (let both : mode.Bracket c.in-Bracket.inside ≡ mode.Bracket m = sym c.in-Bracket.is ∙ h.reads.at_mode in
    let same : c.in-Bracket.inside ≡ m = cc in
    subst (λ x. IfOk c.feed_inside.result (λ more. Fed (machine.feed_inside outer f negated rs x c.args.byte c.kind_of-kind.result) more c.feed_inside.new.self)) same (c.feed_inside.ensures (mode.Bracket m) outer f negated rs h))
