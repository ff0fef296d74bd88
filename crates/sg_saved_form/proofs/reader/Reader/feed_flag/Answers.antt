use Rattle.std.proofs.Common.{◌≡◌, ◌∙◌, refl, sym, ap, subst, IfOk, Some}
use Rattle.sg_text.specs.Words.{keyword_of}
use Rattle.sg_saved_form.specs.Files.{Flag}
use Rattle.sg_saved_form.specs.Machine as machine
use Rattle.sg_saved_form.specs.Readers.{Fed}
use Rattle.sg_saved_form.specs.declared.reader.Mode.TheVariants as mode
use Rattle.sg_saved_form.proofs.reader.Reader.feed_flag.Goals as goal

pub returns : goal.returns
returns c os bs is =
    let word : c.keyword_of.result ≡ keyword_of bs = c.keyword_of.ensures ∙ ap keyword_of (c.as_slice.ensures.value ∙ is.1) in
    let flag : Some c.in-Some.flag ≡ machine.flag_of (keyword_of bs) = sym c.in-Some.is ∙ c.flag_of.ensures ∙ ap machine.flag_of word in
    subst (λ f. IfOk c.feed_after.result (λ more. Fed (machine.feed_flag os f c.args.kind) more c.feed_after.new.self)) flag
    (c.feed_after.ensures mode.After os (Flag c.in-Some.flag) (c.in_ok-take_leaf.ensures mode.Name os (Flag c.in-Some.flag) is.0 refl refl).1)
