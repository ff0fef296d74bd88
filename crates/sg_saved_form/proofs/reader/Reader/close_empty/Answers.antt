use Rattle.std.proofs.Common.{◌∙◌, ◌-◌, take, ap, sym, refl, subst, false}
use Rattle.sg_saved_form.specs.Readers.{Fed}
use Rattle.sg_saved_form.specs.declared.reader.Mode.TheVariants as mode
use Rattle.sg_saved_form.proofs.Noting.{not-empty, empty-closed, read-there}
use Rattle.sg_saved_form.proofs.reader.Reader.close_empty.Goals as goal

pub returns-then-note-gt0 : goal.returns-then-note-gt0
returns-then-note-gt0 c m os is =
    let there = read-there c.deref.result.now c.args.self.now.notes.items c.in-Some.place c.in-Some-get.field-0.now c.in-Some-get.field-0.now c.deref.ensures.value c.in-Some-get.ensures.lookup.0 c.in-Some-get.ensures.lookup.1 refl in
    subst (λ x. Fed x false c.args.self.now) (sym (not-empty c.args.self.now m os c.in-Some.place c.in-Some-get.field-0.now is (sym c.innermost.ensures ∙ c.in-Some.is) there c.if-note-gt0.true)) refl

pub returns : goal.returns
returns c m os is =
    let there = read-there c.deref.result.now c.args.self.now.notes.items c.in-Some.place c.in-Some-get.field-0.now c.in-Some-get.field-0.now c.deref.ensures.value c.in-Some-get.ensures.lookup.0 c.in-Some-get.ensures.lookup.1 refl in
    empty-closed c.args.self.now (record { notes = c.args.self.now.notes; path = c.pop.new.self; depth = c.args.self.now.depth; from = c.args.self.now.from; name = c.args.self.now.name; value = c.args.self.now.value; mode = mode.After })
    m os c.in-Some.place c.in-Some-get.field-0.now is (sym c.innermost.ensures ∙ c.in-Some.is) there c.if-note-gt0.false refl (c.pop.ensures.rest ∙ ap (λ n. take (n - 1) c.args.self.now.path.items) c.args.self.now.path.ok.0) refl refl
