use Rattle.std.specs.Prelude.{◌≡◌, [], IfOk, MatchResult, OnErr, Ok, Err}
use Rattle.std.proofs.Common.{refl, sym, ap, ◌∙◌, subst}
use Rattle.sg_kinds.specs.Values.{Bytes}
use Rattle.sg_editor.specs.Ask.{keeps, saved_form}
use Rattle.sg_editor.specs.Editing.{Editing, session_in, spec_in}
use Rattle.sg_editor.specs.Steps.{Interrupted, Stepped}
use Rattle.sg_editor.proofs.Stepping.{kept_cuts, kept_steps, unkept_step}
use Rattle.sg_editor.proofs.editor.Editor.save.Goals as goal

pub returns-in-Ok-clause-ok : goal.returns-in-Ok-clause-ok
returns-in-Ok-clause-ok g c =
    let e : Editing = record { setting = c.self.inside.base; kept = c.self.inside.desk } in
    let file = c.args.file.now in
    let before = c.args.replies.now.items in
    let old = g.S.Shelf.state c.args.shelf.now in
    let after = c.keep.new.replies.items in
    let new = g.S.Shelf.state c.keep.new.shelf in
    let ok : saved_form (spec_in e) (session_in e.kept) ≡ Ok c.as_slice.result.now = subst (λ r. MatchResult r (λ bytes. saved_form (spec_in e) (session_in e.kept) ≡ Ok bytes.items) (λ m. saved_form (spec_in e) (session_in e.kept) ≡ Err m)) c.in-Ok.is c.in_ok-bytes.ensures ∙ ap (λ (x : Bytes). Ok x) (sym c.as_slice.ensures.value) in
    subst (λ (x : Editing). IfOk c.keep.result (λ m. Stepped (keeps file (session_in x.kept) (saved_form (spec_in x) (session_in x.kept))) x m [] before after old new)) c.self.view_is
    (kept_steps e file before after old new c.as_slice.result.now (saved_form (spec_in e) (session_in e.kept)) c.keep.result ok c.keep.ensures.ok)

pub returns-in-Ok-clause-err : goal.returns-in-Ok-clause-err
returns-in-Ok-clause-err g c =
    let e : Editing = record { setting = c.self.inside.base; kept = c.self.inside.desk } in
    let file = c.args.file.now in
    let before = c.args.replies.now.items in
    let old = g.S.Shelf.state c.args.shelf.now in
    let after = c.keep.new.replies.items in
    let new = g.S.Shelf.state c.keep.new.shelf in
    let ok : saved_form (spec_in e) (session_in e.kept) ≡ Ok c.as_slice.result.now = subst (λ r. MatchResult r (λ bytes. saved_form (spec_in e) (session_in e.kept) ≡ Ok bytes.items) (λ m. saved_form (spec_in e) (session_in e.kept) ≡ Err m)) c.in-Ok.is c.in_ok-bytes.ensures ∙ ap (λ (x : Bytes). Ok x) (sym c.as_slice.ensures.value) in
    subst (λ (x : Editing). OnErr c.keep.result (Interrupted (spec_in x) (keeps file (session_in x.kept) (saved_form (spec_in x) (session_in x.kept))) [] before after old new)) c.self.view_is
    (kept_cuts e file before after old new (spec_in e) c.as_slice.result.now (saved_form (spec_in e) (session_in e.kept)) c.keep.result ok c.keep.ensures.replies c.keep.ensures.err)

pub returns-in-Err-clause-ok : goal.returns-in-Err-clause-ok
returns-in-Err-clause-ok g c =
    let e : Editing = record { setting = c.self.inside.base; kept = c.self.inside.desk } in
    let file = c.args.file.now in
    let before = c.args.replies.now.items in
    let old = g.S.Shelf.state c.args.shelf.now in
    let err : saved_form (spec_in e) (session_in e.kept) ≡ Err c.in-Err.why = subst (λ r. MatchResult r (λ bytes. saved_form (spec_in e) (session_in e.kept) ≡ Ok bytes.items) (λ m. saved_form (spec_in e) (session_in e.kept) ≡ Err m)) c.in-Err.is c.in_ok-bytes.ensures in
    subst (λ (x : Editing). Stepped (keeps file (session_in x.kept) (saved_form (spec_in x) (session_in x.kept))) x c.in-Err.why [] before before old old) c.self.view_is
    (unkept_step e file before before old old (saved_form (spec_in e) (session_in e.kept)) c.in-Err.why [] err refl refl refl)
