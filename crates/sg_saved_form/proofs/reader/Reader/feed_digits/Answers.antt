use Rattle.std.proofs.Common.{refl, sym, subst, IfOk}
use Rattle.sg_saved_form.specs.Files.{Whole}
use Rattle.sg_saved_form.specs.Machine as machine
use Rattle.sg_saved_form.specs.Readers.{Fed}
use Rattle.sg_saved_form.specs.declared.reader.Mode.TheVariants as mode
use Rattle.sg_saved_form.proofs.Noting.{digits-default, number-note}
use Rattle.sg_saved_form.proofs.reader.Reader.feed_digits.Goals as goal

pub returns-in_ok-take_leaf-in_default : goal.returns-in_ok-take_leaf-in_default
returns-in_ok-take_leaf-in_default c os z is =
    let z' = c.args.self.now.value in
    let left = c.in_ok-take_leaf-in_default.ensures mode.Digits os (Whole z') is.0 (number-note c.args.self.now.from z' c.number-what.result c.number-what.ensures) refl in
    subst (λ y. IfOk c.feed_after.result (λ more. Fed (machine.feed_digits os y c.args.byte c.args.kind) more c.feed_after.new.self)) is.1
    (subst (λ o. IfOk c.feed_after.result (λ more. Fed o more c.feed_after.new.self)) (sym (digits-default os z' c.args.byte c.args.kind c.in_default.not-Zero c.in_default.not-Digit))
    (c.feed_after.ensures mode.After os (Whole z') left.1))
