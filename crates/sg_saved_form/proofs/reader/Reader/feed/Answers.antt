use Rattle.std.proofs.Common.{◌∙◌, sym, ap, subst, length, IfOk}
use Rattle.sg_saved_form.specs.Machine as machine
use Rattle.sg_saved_form.specs.Readers.{Fed}
use Rattle.sg_saved_form.specs.declared.reader.Mode.TheVariants as mode
use Rattle.sg_saved_form.proofs.Noting.{in-frame, in-before, in-digits, in-after}
use Rattle.sg_saved_form.proofs.reader.Reader.feed.Goals as goal

pub returns-in-Frame : goal.returns-in-Frame
returns-in-Frame c σ h at =
    let f = in-frame c.args.self.now σ c.in-Frame.place h c.in-Frame.is in
    subst (λ τ. Fed (machine.feed τ c.args.byte) c.feed_frame.result c.feed_frame.new.self) (sym f.0) (c.feed_frame.ensures (mode.Frame c.in-Frame.place) f.1)

pub returns-in-Before : goal.returns-in-Before
returns-in-Before c σ h at =
    let b = in-before c.args.self.now σ h c.in-Before.is in
    subst (λ τ. IfOk c.feed_before.result (λ more. Fed (machine.feed τ c.args.byte) more c.feed_before.new.self)) (sym b.1)
    (subst (λ k. IfOk c.feed_before.result (λ more. Fed (machine.feed_before b.0 c.args.byte k) more c.feed_before.new.self)) c.kind_of-kind.ensures (c.feed_before.ensures mode.Before b.0 b.2 (at ∙ ap (λ τ. length (machine.text_of τ)) b.1)))

pub returns-in-Digits : goal.returns-in-Digits
returns-in-Digits c σ h at =
    let d = in-digits c.args.self.now σ h c.in-Digits.is in
    subst (λ τ. IfOk c.feed_digits.result (λ more. Fed (machine.feed τ c.args.byte) more c.feed_digits.new.self)) (sym d.2)
    (subst (λ k. IfOk c.feed_digits.result (λ more. Fed (machine.feed_digits d.0 d.1 c.args.byte k) more c.feed_digits.new.self)) c.kind_of-kind.ensures (c.feed_digits.ensures d.0 d.1 d.3))

pub returns-in-After : goal.returns-in-After
returns-in-After c σ h at =
    let a = in-after c.args.self.now σ h c.in-After.is in
    subst (λ τ. IfOk c.feed_after.result (λ more. Fed (machine.feed τ c.args.byte) more c.feed_after.new.self)) (sym a.2)
    (subst (λ k. IfOk c.feed_after.result (λ more. Fed (machine.feed_after a.0 a.1 k) more c.feed_after.new.self)) c.kind_of-kind.ensures (c.feed_after.ensures mode.After a.0 a.1 a.3))
