-- The laws of sessions.
use Rattle.std.specs.Prelude.{◌≡◌, refl, ℕ, ◌<◌, ◌≤◌, false, length, All, slice_get, Option, None, Some, unwrap_or, MatchOption, IsTrue}
use Rattle.std.proofs.lemmas.Bool.{false≢true}
use Rattle.std.proofs.lemmas.Option.{slice_get_within}
use Rattle.sg_kinds.specs.Completing.{completing, completing_within}
use Rattle.sg_kinds.specs.Fits.{Fits}
use Rattle.sg_kinds.specs.Terms.{Term, Leaf}
use Rattle.sg_kinds.specs.Values.{Truth}
use Rattle.sg_kinds.specs.declared.marks.Way.TheVariants.{Synthesized}
use Rattle.sg_kinds.specs.declared.spec.Attr.{Attr}
use Rattle.sg_kinds.specs.declared.spec.Phylum.{Phylum}
use Rattle.sg_kinds.proofs.MadeFits.{completing_fits}
use Rattle.sg_kinds.specs.Sound.{IsSmall, IsSound}
use Rattle.sg_kinds.specs.declared.spec.Spec.{Spec}
use Rattle.sg_patterns.specs.LexemesOf.{AreLexemesOf}
use Rattle.sg_patterns.specs.declared.lexemes.Lexemes.{Lexemes}
use Rattle.sg_grammar.specs.Numbered.{grammar_of}
use Rattle.sg_lalr.specs.Tables.{View, IsTables, Decided}
use Rattle.sg_input.proofs.Texts.{each-text}
use Rattle.sg_saved.proofs.Opening.{each-opened}
use Rattle.sg_kinds.specs.declared.text.Text.{Text}
use Rattle.sg_script.specs.declared.command.Command.{Command}
use Rattle.sg_script.specs.declared.command.FileName.{FileName}
use Rattle.sg_script.specs.declared.command.Command.TheVariants as command
use Rattle.sg_commands.proofs.Readers.{reads_there}
use Rattle.sg_editor.specs.Ask.{AreReaders, Readers, Tells, ask, asks_nothing, tells}
use Rattle.sg_editor.specs.Session.{Session}

pub others_tell : (spec : Spec) (height : ℕ) (r : Readers) (s : Session) (c : Command) → IsTrue (asks_nothing c) → ask spec height r s c ≡ Tells (tells spec height r s c)
unfolding ask
others_tell spec height r s (command.Load name file) others = absurd (false≢true others)
others_tell spec height r s (command.Save file) others = absurd (false≢true others)
others_tell spec height r s (command.SaveText file) others = absurd (false≢true others)
others_tell spec height r s c others = refl

pub other : (c : Command) → ((name : Text) → (file : FileName) → c ≡ command.Load name file → ⊥) → ((file : FileName) → c ≡ command.Save file → ⊥)
    → ((file : FileName) → c ≡ command.SaveText file → ⊥) → IsTrue (asks_nothing c)
other (command.Load name file) no_load no_save no_text = absurd (no_load name file refl)
other (command.Save file) no_load no_save no_text = absurd (no_save file refl)
other (command.SaveText file) no_load no_save no_text = absurd (no_text file refl)
other c no_load no_save no_text = refl

pub readers_there : (spec : Spec) → IsSound spec → (l : Lexemes) → AreLexemesOf spec l → (v : View) → v.grammar ≡ grammar_of spec → IsTables v → Decided v → (r : Readers) × AreReaders spec r
readers_there spec sound l of v same tables m =
    let text = reads_there spec (λ entry within bytes. each-text spec sound l of v same tables m entry within bytes) in
    (record { text = text.0; file = λ bytes. (each-opened spec bytes).0 }, (text.1, λ bytes. (each-opened spec bytes).1))

-- the root's completing term
module _ (spec : Spec) (sound : IsSound spec) where
  root_low : spec.root < length spec.phyla
  root_low = by (slice_get spec.phyla spec.root) refl sound.shapes.root
    where
      by : (o : Option Phylum) → slice_get spec.phyla spec.root ≡ o → MatchOption o ⊥ (λ (x : Phylum). (1 ≤ length x.ops) × All (λ (a : Attr). a.way ≡ Synthesized) x.attrs)
          → spec.root < length spec.phyla
      by None here root = elim root [ ]
      by (Some x) here root = slice_get_within spec.phyla spec.root x here

  pub root_fits : Fits spec (completing spec spec.root) spec.root
  root_fits = completing_fits spec sound.shapes spec.root root_low

  pub root_small : IsSmall (completing spec spec.root)
  unfolding completing
  root_small = by (completing_within spec 1024 spec.root) (sound.shapes.finite spec.root root_low).0
    where
      by : (o : Option Term) → MatchOption o ⊥ IsSmall → IsSmall (unwrap_or o (Leaf spec.root (Truth false)))
      by None small = elim small [ ]
      by (Some t) small = small
