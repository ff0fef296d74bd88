use Rattle.std.specs.Prelude.{◌≡◌, [], MatchResult, Ok, Err}
use Rattle.std.proofs.Common.{refl, sym, ap, ◌∙◌, subst}
use Rattle.sg_kinds.specs.Values.{Bytes}
use Rattle.sg_editor.specs.Ask.{keeps, saved_text}
use Rattle.sg_editor.specs.Editing.{session_in, spec_in}
use Rattle.sg_editor.proofs.Stepping.{early_cut, kept_cuts, kept_steps, unkept_step}
use Rattle.sg_editor.proofs.Taken.{on_err}
use Rattle.sg_editor.proofs.editor.Editor.save_text.Goals as goal

pub returns-in-Ok-clause-ok : goal.returns-in-Ok-clause-ok
returns-in-Ok-clause-ok g c =
    let e = c.args.self.now in
    let file = c.args.file.now in
    let before = c.args.replies.now.items in
    let old = g.S.Shelf.state c.args.shelf.now in
    let after = c.keep.new.replies.items in
    let new = g.S.Shelf.state c.keep.new.shelf in
    let ok : saved_text (spec_in e) (session_in e.kept) ≡ Ok c.as_slice.result.now = subst (λ r. MatchResult r (λ bytes. saved_text (spec_in e) (session_in e.kept) ≡ Ok bytes.items) (λ m. saved_text (spec_in e) (session_in e.kept) ≡ Err m)) c.in-Ok.is c.in_ok-bytes.ensures.text ∙ ap (λ (x : Bytes). Ok x) (sym c.as_slice.ensures.value) in
    kept_steps e file before after old new c.as_slice.result.now (saved_text (spec_in e) (session_in e.kept)) c.keep.result ok c.keep.ensures.ok

pub returns-in-Ok-clause-err : goal.returns-in-Ok-clause-err
returns-in-Ok-clause-err g c =
    let e = c.args.self.now in
    let file = c.args.file.now in
    let before = c.args.replies.now.items in
    let old = g.S.Shelf.state c.args.shelf.now in
    let after = c.keep.new.replies.items in
    let new = g.S.Shelf.state c.keep.new.shelf in
    let ok : saved_text (spec_in e) (session_in e.kept) ≡ Ok c.as_slice.result.now = subst (λ r. MatchResult r (λ bytes. saved_text (spec_in e) (session_in e.kept) ≡ Ok bytes.items) (λ m. saved_text (spec_in e) (session_in e.kept) ≡ Err m)) c.in-Ok.is c.in_ok-bytes.ensures.text ∙ ap (λ (x : Bytes). Ok x) (sym c.as_slice.ensures.value) in
    kept_cuts e file before after old new (spec_in e) c.as_slice.result.now (saved_text (spec_in e) (session_in e.kept)) c.keep.result ok c.keep.ensures.replies c.keep.ensures.err

pub returns-in-Err-clause-ok : goal.returns-in-Err-clause-ok
returns-in-Err-clause-ok g c =
    let e = c.args.self.now in
    let file = c.args.file.now in
    let before = c.args.replies.now.items in
    let old = g.S.Shelf.state c.args.shelf.now in
    let err : saved_text (spec_in e) (session_in e.kept) ≡ Err c.in-Err.why = subst (λ r. MatchResult r (λ bytes. saved_text (spec_in e) (session_in e.kept) ≡ Ok bytes.items) (λ m. saved_text (spec_in e) (session_in e.kept) ≡ Err m)) c.in-Err.is c.in_ok-bytes.ensures.text in
    unkept_step e file before before old old (saved_text (spec_in e) (session_in e.kept)) c.in-Err.why [] err refl refl refl

pub returns-in_err-bytes-clause-err : goal.returns-in_err-bytes-clause-err
returns-in_err-bytes-clause-err g c =
    let e = c.args.self.now in
    let shelf = g.S.Shelf.state c.args.shelf.now in
    on_err c.from_residual.result _ (early_cut (spec_in e) (keeps c.args.file.now (session_in e.kept) (saved_text (spec_in e) (session_in e.kept))) [] c.args.replies.now.items shelf refl)
