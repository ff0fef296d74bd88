use Rattle.std.specs.Prelude.{length, IfOk, OnErr}
use Rattle.std.proofs.Common.{refl, sym, ap, ◌∙◌, subst}
use Rattle.std.proofs.lemmas.Option.{MatchOption-from_none}
use Rattle.sg_kinds.specs.Sound.{IsSound}
use Rattle.sg_kinds.specs.declared.spec.Spec.{Spec}
use Rattle.sg_patterns.specs.LexemesOf.{AreLexemesOf}
use Rattle.sg_grammar.specs.Numbered.{grammar_of}
use Rattle.sg_changes.specs.Captured.{Captured}
use Rattle.sg_eval.specs.Journal.{now_of}
use Rattle.sg_script.specs.declared.message.Message.{Message}
use Rattle.sg_script.specs.declared.message.Message.TheVariants as message
use Rattle.sg_commands.specs.Did.{Did, GaveUp}
use Rattle.sg_commands.specs.Replaced.{StopsWithin}
use Rattle.sg_commands.specs.Turn.{Turn}
use Rattle.sg_commands.proofs.Putting.{refused_did}
use Rattle.sg_commands.proofs.Reading.{fits_there, low_there, reads_there}
use Rattle.sg_commands.proofs.Typed.{no_entry, not_editable, text_read}
use Rattle.sg_commands.proofs.entering.text.Goals as goal

pub enter-read-requires-clause-grammar : goal.enter-read-requires-clause-grammar
enter-read-requires-clause-grammar c = c.requires.input.grammar ∙ ap grammar_of (sym (c.evaluator.ensures ∙ c.attribution.ensures))

pub enter-read-requires-clause-sound : goal.enter-read-requires-clause-sound
enter-read-requires-clause-sound c = subst IsSound (sym (c.evaluator.ensures ∙ c.attribution.ensures)) c.sound.ensures

pub enter-read-requires-clause-entry : goal.enter-read-requires-clause-entry
enter-read-requires-clause-entry c = low_there c.args.buffer.now c.evaluator.result.now (c.evaluator.ensures ∙ c.attribution.ensures) c.in-Some.entry (sym c.entry_here.ensures ∙ c.in-Some.is)

pub enter-read-requires-clause-lexemes : goal.enter-read-requires-clause-lexemes
enter-read-requires-clause-lexemes c = subst (λ (s : Spec). AreLexemesOf s c.args.input.now.lexemes.now) (sym (c.evaluator.ensures ∙ c.attribution.ensures)) c.requires.input.lexemes

pub put_read-requires-clause-fits : goal.put_read-requires-clause-fits
put_read-requires-clause-fits c = fits_there c.args.buffer.now c.evaluator.result.now (c.evaluator.ensures ∙ c.attribution.ensures) c.in-Some.entry (sym c.entry_here.ensures ∙ c.in-Some.is) c.enter-read.result c.enter-read.ensures.fits

pub put_read-requires-clause-within : goal.put_read-requires-clause-within
put_read-requires-clause-within c = MatchOption-from_none c.args.buffer.now.capture (λ (x : Captured). StopsWithin (length x.text) c.enter-read.result) c.requires.none

pub returns-then-not-is_editable_here-clause-did : goal.returns-then-not-is_editable_here-clause-did
returns-then-not-is_editable_here-clause-did c = λ clip reads are.
    let b = c.args.buffer.now in
    let was = now_of c.args.journal.now in
    subst (λ (t : Turn). Did t message.NotEditable b clip was was) (sym (not_editable b clip reads c.args.bytes.now (sym c.is_editable_here.ensures ∙ c.if-not-is_editable_here.true))) (refused_did b b clip was was message.NotEditable refl refl)

pub returns-in_default-clause-did : goal.returns-in_default-clause-did
returns-in_default-clause-did c = λ clip reads are.
    let b = c.args.buffer.now in
    let was = now_of c.args.journal.now in
    subst (λ (t : Turn). Did t message.NoEntry b clip was was) (sym (no_entry b clip reads c.args.bytes.now (sym c.is_editable_here.ensures ∙ c.if-not-is_editable_here.false) (sym c.entry_here.ensures ∙ c.in_default.is))) (refused_did b b clip was was message.NoEntry refl refl)

pub returns-clause-did : goal.returns-clause-did
returns-clause-did c = λ clip reads are.
    let b = c.args.buffer.now in
    subst (λ (t : Turn). IfOk c.put_read.result (λ (m : Message). Did t m c.put_read.new.buffer clip (now_of c.args.journal.now) (now_of c.put_read.new.journal))) (sym (text_read b clip reads c.args.bytes.now c.in-Some.entry c.requires.none (sym c.is_editable_here.ensures ∙ c.if-not-is_editable_here.false) (sym c.entry_here.ensures ∙ c.in-Some.is)))
    (c.put_read.ensures.did clip (reads c.in-Some.entry c.args.bytes.now) (reads_there c.args.buffer.now c.evaluator.result.now (c.evaluator.ensures ∙ c.attribution.ensures) c.in-Some.entry (sym c.entry_here.ensures ∙ c.in-Some.is) c.args.bytes.now c.enter-read.result c.enter-read.ensures.only reads are))

pub returns-clause-gave_up : goal.returns-clause-gave_up
returns-clause-gave_up c = λ clip reads are.
    let b = c.args.buffer.now in
    subst (λ (t : Turn). OnErr c.put_read.result (GaveUp b.grove.spec t b c.put_read.new.buffer clip clip (now_of c.args.journal.now) (now_of c.put_read.new.journal))) (sym (text_read b clip reads c.args.bytes.now c.in-Some.entry c.requires.none (sym c.is_editable_here.ensures ∙ c.if-not-is_editable_here.false) (sym c.entry_here.ensures ∙ c.in-Some.is)))
    (c.put_read.ensures.gave_up clip (reads c.in-Some.entry c.args.bytes.now) (reads_there c.args.buffer.now c.evaluator.result.now (c.evaluator.ensures ∙ c.attribution.ensures) c.in-Some.entry (sym c.entry_here.ensures ∙ c.in-Some.is) c.args.bytes.now c.enter-read.result c.enter-read.ensures.only reads are))
