use Rattle.std.specs.Prelude.{◌≡◌, ◌++◌, ◌∷◌, [], List, IfOk, OnErr, Option, None, Some}
use Rattle.std.proofs.Common.{refl, sym, ap, ◌∙◌, subst}
use Rattle.sg_kinds.specs.Values.{Bytes}
use Rattle.sg_eval.specs.Journal.{now_of}
use Rattle.sg_replies.specs.Requests.{Fetch}
use Rattle.sg_replies.specs.declared.reply.Reply.{Reply}
use Rattle.sg_script.specs.declared.message.Message.{Message}
use Rattle.sg_editor.specs.Ask.{AreReaders, barred, fetched, loads, says}
use Rattle.sg_editor.specs.Editing.{Editing, height_in, session_in, spec_in}
use Rattle.sg_editor.specs.Session.{with_load}
use Rattle.sg_editor.specs.Steps.{AreSome, Interrupted, Stepped, Took}
use Rattle.sg_editor.proofs.Stepping.{asked_cut, asked_steps, replied_cuts, told_step}
use Rattle.sg_editor.proofs.Taken.{on_err, said}
use Rattle.sg_editor.proofs.editor.Editor.load.Goals as goal

pub returns-in-Some-clause-ok : goal.returns-in-Some-clause-ok
returns-in-Some-clause-ok g c = λ r given.
    let e : Editing = record { setting = c.self.inside.base; kept = c.self.inside.desk } in
    let s = session_in e.kept in
    let name = c.args.name.now in
    let file = c.args.file.now in
    let before = c.args.replies.now.items in
    let old = g.S.Shelf.state c.args.shelf.now in
    let now = now_of c.args.journal.now in
    let why = c.in-Some.why in
    let barred_why : barred name s ≡ Some why = sym (c.barred.ensures ∙ ap (λ (n : Bytes). barred n s) c.as_slice.ensures) ∙ c.in-Some.is in
    subst (λ (x : Editing). Stepped (loads (spec_in x) (height_in x) r name file (session_in x.kept) (barred name (session_in x.kept))) x why now before before old old) c.self.view_is
    (subst (λ (o : Option Message). Stepped (loads (spec_in e) (height_in e) r name file s o) e why now before before old old) (sym barred_why)
    (told_step e (says s why) why now (said e.kept s why now refl c.requires.begun) before old))

pub returns-in_err-reply-clause-err : goal.returns-in_err-reply-clause-err
returns-in_err-reply-clause-err g c = λ r given.
    let e : Editing = record { setting = c.self.inside.base; kept = c.self.inside.desk } in
    let s = session_in e.kept in
    let name = c.args.name.now in
    let file = c.args.file.now in
    let before = c.args.replies.now.items in
    let old = g.S.Shelf.state c.args.shelf.now in
    let free : barred name s ≡ None = sym (c.barred.ensures ∙ ap (λ (n : Bytes). barred n s) c.as_slice.ensures) ∙ c.in_default.is in
    let new = g.S.Shelf.state c.fetch.new.shelf in
    let next = fetched (spec_in e) (height_in e) r name (with_load s) in
    let now = now_of c.args.journal.now in
    let after = c.fetch.new.replies.items in
    on_err c.from_residual.result _
    (subst (λ (x : Editing). Interrupted (spec_in x) (loads (spec_in x) (height_in x) r name file (session_in x.kept) (barred name (session_in x.kept))) now before after old new) c.self.view_is
    (subst (λ (o : Option Message). Interrupted (spec_in e) (loads (spec_in e) (height_in e) r name file s o) now before after old new) (sym free)
    (asked_cut (spec_in e) (Fetch file 4194305) next now before after old new c.requires.begun c.fetch.ensures.replies c.in_err-reply.ensures.err)))

pub returns-clause-ok : goal.returns-clause-ok
returns-clause-ok g c = λ r given.
    let e : Editing = record { setting = c.self.inside.base; kept = c.self.inside.desk } in
    let s = session_in e.kept in
    let name = c.args.name.now in
    let file = c.args.file.now in
    let before = c.args.replies.now.items in
    let old = g.S.Shelf.state c.args.shelf.now in
    let free : barred name s ≡ None = sym (c.barred.ensures ∙ ap (λ (n : Bytes). barred n s) c.as_slice.ensures) ∙ c.in_default.is in
    let new = g.S.Shelf.state c.fetch.new.shelf in
    let next = fetched (spec_in e) (height_in e) r name (with_load s) in
    let now = now_of c.take_in-result.new.journal in
    let after = c.add.new.replies.items in
    let reply = c.in_ok-reply.reply in
    let replies : after ≡ before ++ reply ∷ [] = c.add.ensures ∙ ap (λ (rs : List Reply). rs ++ reply ∷ []) c.in_ok-reply.ensures.replies in
    let right : AreReaders (spec_in e) r = subst (λ (x : Editing). AreReaders (spec_in x) r) (sym c.self.view_is) given in
    let f : Editing = record { setting = c.self.inside.base; kept = c.take_in-result.new.self } in
    let taken = subst (λ (n : Bytes). IfOk c.take_in-result.result (λ m. Took (fetched (spec_in e) (height_in e) r n (with_load s) reply) f.kept m now)) c.as_slice-2.ensures (c.take_in-result.ensures.took r right) in
    subst (λ (x : Editing). IfOk c.take_in-result.result (λ m. Stepped (loads (spec_in x) (height_in x) r name file (session_in x.kept) (barred name (session_in x.kept))) f m now before after old new)) c.self.view_is
    (subst (λ (o : Option Message). IfOk c.take_in-result.result (λ m. Stepped (loads (spec_in e) (height_in e) r name file s o) f m now before after old new)) (sym free)
    (asked_steps (spec_in e) f (Fetch file 4194305) next reply now before after old new c.take_in-result.result replies c.in_ok-reply.ensures.ok taken))

pub returns-clause-err : goal.returns-clause-err
returns-clause-err g c = λ r given.
    let e : Editing = record { setting = c.self.inside.base; kept = c.self.inside.desk } in
    let s = session_in e.kept in
    let name = c.args.name.now in
    let file = c.args.file.now in
    let before = c.args.replies.now.items in
    let old = g.S.Shelf.state c.args.shelf.now in
    let free : barred name s ≡ None = sym (c.barred.ensures ∙ ap (λ (n : Bytes). barred n s) c.as_slice.ensures) ∙ c.in_default.is in
    let new = g.S.Shelf.state c.fetch.new.shelf in
    let next = fetched (spec_in e) (height_in e) r name (with_load s) in
    let now = now_of c.take_in-result.new.journal in
    let after = c.add.new.replies.items in
    let reply = c.in_ok-reply.reply in
    let replies : after ≡ before ++ reply ∷ [] = c.add.ensures ∙ ap (λ (rs : List Reply). rs ++ reply ∷ []) c.in_ok-reply.ensures.replies in
    let right : AreReaders (spec_in e) r = subst (λ (x : Editing). AreReaders (spec_in x) r) (sym c.self.view_is) given in
    let some = subst (λ (n : Bytes). OnErr c.take_in-result.result (AreSome (spec_in e) (fetched (spec_in e) (height_in e) r n (with_load s) reply) now)) c.as_slice-2.ensures (c.take_in-result.ensures.some r right) in
    subst (λ (x : Editing). OnErr c.take_in-result.result (Interrupted (spec_in x) (loads (spec_in x) (height_in x) r name file (session_in x.kept) (barred name (session_in x.kept))) now before after old new)) c.self.view_is
    (subst (λ (o : Option Message). OnErr c.take_in-result.result (Interrupted (spec_in e) (loads (spec_in e) (height_in e) r name file s o) now before after old new)) (sym free)
    (replied_cuts (spec_in e) e (Fetch file 4194305) next reply now before after old new c.take_in-result.result replies c.in_ok-reply.ensures.ok some))
