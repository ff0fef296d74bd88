use Rattle.std.proofs.Common.{◌≡◌, ◌<◌, length, Some, None, Err, sym, ap, ◌∙◌, subst}
use Rattle.sg_kinds.specs.Fits.{Fits}
use Rattle.sg_kinds.specs.Plain.{plain}
use Rattle.sg_kinds.specs.Sound.{IsSound}
use Rattle.sg_kinds.specs.declared.spec.Spec.{Spec}
use Rattle.sg_patterns.specs.LexemesOf.{AreLexemesOf}
use Rattle.sg_grammar.specs.Numbered.{grammar_of}
use Rattle.sg_input.specs.Entered.{IsEntered, entry_at, phylum_at}
use Rattle.sg_input.specs.Parsed.{entered_of}
use Rattle.sg_load.specs.Loaded.{Contents}
use Rattle.sg_commands.proofs.Reading.{entry_low, entry_phylum}
use Rattle.sg_report.specs.Found.{from_text}
use Rattle.sg_report.proofs.Reading.{no_entry, by_entry, read_told, told_as}
use Rattle.sg_report.proofs.found.text_value.Goals as goal

pub returns-in_default-clause-told : goal.returns-in_default-clause-told
returns-in_default-clause-told c = λ reads opens are.
    no_entry c.args.loaded.now.spec reads opens c.args.file.now
    (subst (λ (l : Contents). entry_at l.spec l.spec.root ≡ None) c.loaded.view_is (sym c.entry_of.ensures ∙ c.in_default.is))

pub enter-requires : goal.enter-requires
enter-requires c =
    let spec = c.args.loaded.now.spec in
    let found = subst (λ (l : Contents). entry_at l.spec l.spec.root ≡ Some c.in-Some.entry) c.loaded.view_is (sym c.entry_of.ensures ∙ c.in-Some.is) in
    let same = sym c.requires in
    record {
      grammar = ap (λ (l : Contents). l.tables.grammar) c.loaded.view_is ∙ c.facts.ensures.tables ∙ ap grammar_of same;
      sound = subst IsSound same c.facts.ensures.sound;
      entry = subst (λ (s : Spec). c.in-Some.entry < length s.entries) same (entry_low spec spec.root c.in-Some.entry found);
      lexemes = subst (λ (l : Contents). AreLexemesOf c.args.ev.now l.lexemes) (sym c.loaded.view_is) (subst (λ (s : Spec). AreLexemesOf s c.args.loaded.now.lexemes) same c.facts.ensures.lexemes);
    }

pub returns-in-Ok : goal.returns-in-Ok
returns-in-Ok c =
    let spec = c.args.loaded.now.spec in
    let entry = c.in-Some.entry in
    let found = subst (λ (l : Contents). entry_at l.spec l.spec.root ≡ Some entry) c.loaded.view_is (sym c.entry_of.ensures ∙ c.in-Some.is) in
    let phylum = entry_phylum spec spec.root entry found in
    record {
      told = λ reads opens are.
          let read = c.in-Ok.ensures.only (reads entry c.args.file.now) (subst (λ s. IsEntered s entry c.args.file.now (reads entry c.args.file.now)) (sym c.requires) (are entry c.args.file.now (entry_low spec spec.root entry found))) in
          ap from_text read ∙ by_entry spec reads opens c.args.file.now entry found;
      fits = subst (λ q. Fits spec (plain spec c.in-Ok.v q) q) phylum (subst (λ (s : Spec). Fits s (plain s c.in-Ok.v (phylum_at s entry)) (phylum_at s entry)) c.requires c.in-Ok.ensures.fits);
    }

pub returns-in-Err-clause-told : goal.returns-in-Err-clause-told
returns-in-Err-clause-told c = λ reads opens are.
    let spec = c.args.loaded.now.spec in
    let entry = c.in-Some.entry in
    let found = subst (λ (l : Contents). entry_at l.spec l.spec.root ≡ Some entry) c.loaded.view_is (sym c.entry_of.ensures ∙ c.in-Some.is) in
    let read = c.in-Err.ensures.only (reads entry c.args.file.now) (subst (λ s. IsEntered s entry c.args.file.now (reads entry c.args.file.now)) (sym c.requires) (are entry c.args.file.now (entry_low spec spec.root entry found))) in
    told_as _ _ _ (read_told (entered_of (Err c.in-Err.fault)) from_text (reads entry c.args.file.now) c.of_entry.result read c.of_entry.ensures) (by_entry spec reads opens c.args.file.now entry found)
