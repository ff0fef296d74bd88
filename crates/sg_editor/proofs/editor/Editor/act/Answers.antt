use Rattle.std.specs.Prelude.{◌≡◌, List, IfOk, OnErr, true}
use Rattle.std.proofs.Common.{sym, subst}
use Rattle.std.proofs.lemmas.Bool.{false≢true}
use Rattle.sg_eval.specs.Journal.{now_of}
use Rattle.sg_eval.specs.declared.journal.Instance.{Instance}
use Rattle.sg_script.specs.declared.command.Command.{Command}
use Rattle.sg_editor.specs.Ask.{AreReaders, Ask, ask, keeps, saved_form, saved_text, tells}
use Rattle.sg_editor.specs.Editing.{Editing, height_in, session_in, spec_in}
use Rattle.sg_editor.specs.Steps.{Interrupted, NotedHere, Stepped, is_turn}
use Rattle.sg_editor.proofs.Stepping.{told_cuts, told_steps}
use Rattle.sg_editor.proofs.Telling.{other, others_tell}
use Rattle.sg_editor.proofs.editor.Editor.act.Goals as goal

pub returns-in-Load-clause-ok : goal.returns-in-Load-clause-ok
unfolding ask
returns-in-Load-clause-ok g c = λ r given.
    let e = c.args.self.now in
    subst (λ (x : Command). IfOk c.load.result (λ m. Stepped (ask (spec_in e) (height_in e) r (session_in e.kept) x) c.load.new.self m (now_of c.load.new.journal) c.args.replies.now.items c.load.new.replies.items (g.S.Shelf.state c.args.shelf.now) (g.S.Shelf.state c.load.new.shelf))) (sym c.in-Load.is)
    (c.load.ensures.ok r given)

pub returns-in-Load-clause-err : goal.returns-in-Load-clause-err
unfolding ask
returns-in-Load-clause-err g c = λ r given.
    let e = c.args.self.now in
    subst (λ (x : Command). OnErr c.load.result (Interrupted (spec_in e) (ask (spec_in e) (height_in e) r (session_in e.kept) x) (now_of c.load.new.journal) c.args.replies.now.items c.load.new.replies.items (g.S.Shelf.state c.args.shelf.now) (g.S.Shelf.state c.load.new.shelf))) (sym c.in-Load.is)
    (c.load.ensures.err r given)

pub returns-in-Save-clause-ok : goal.returns-in-Save-clause-ok
unfolding ask
returns-in-Save-clause-ok g c = λ r given.
    let e = c.args.self.now in
    subst (λ (x : Command). IfOk c.save.result (λ m. Stepped (ask (spec_in e) (height_in e) r (session_in e.kept) x) e m (now_of c.args.journal.now) c.args.replies.now.items c.save.new.replies.items (g.S.Shelf.state c.args.shelf.now) (g.S.Shelf.state c.save.new.shelf))) (sym c.in-Save.is)
    (subst (λ (es : List Instance). IfOk c.save.result (λ m. Stepped (keeps c.in-Save.file (session_in e.kept) (saved_form (spec_in e) (session_in e.kept))) e m es c.args.replies.now.items c.save.new.replies.items (g.S.Shelf.state c.args.shelf.now) (g.S.Shelf.state c.save.new.shelf))) (sym c.requires.begun) c.save.ensures.ok)

pub returns-in-Save-clause-err : goal.returns-in-Save-clause-err
unfolding ask
returns-in-Save-clause-err g c = λ r given.
    let e = c.args.self.now in
    subst (λ (x : Command). OnErr c.save.result (Interrupted (spec_in e) (ask (spec_in e) (height_in e) r (session_in e.kept) x) (now_of c.args.journal.now) c.args.replies.now.items c.save.new.replies.items (g.S.Shelf.state c.args.shelf.now) (g.S.Shelf.state c.save.new.shelf))) (sym c.in-Save.is)
    (subst (λ (es : List Instance). OnErr c.save.result (Interrupted (spec_in e) (keeps c.in-Save.file (session_in e.kept) (saved_form (spec_in e) (session_in e.kept))) es c.args.replies.now.items c.save.new.replies.items (g.S.Shelf.state c.args.shelf.now) (g.S.Shelf.state c.save.new.shelf))) (sym c.requires.begun) c.save.ensures.err)

pub returns-in-SaveText-clause-ok : goal.returns-in-SaveText-clause-ok
unfolding ask
returns-in-SaveText-clause-ok g c = λ r given.
    let e = c.args.self.now in
    subst (λ (z : Editing). IfOk c.save_text.result (λ m. Stepped (ask (spec_in e) (height_in e) r (session_in e.kept) c.args.command.now) z m (now_of c.args.journal.now) c.args.replies.now.items c.save_text.new.replies.items (g.S.Shelf.state c.args.shelf.now) (g.S.Shelf.state c.save_text.new.shelf))) (sym c.save_text.ensures.same)
    (subst (λ (x : Command). IfOk c.save_text.result (λ m. Stepped (ask (spec_in e) (height_in e) r (session_in e.kept) x) e m (now_of c.args.journal.now) c.args.replies.now.items c.save_text.new.replies.items (g.S.Shelf.state c.args.shelf.now) (g.S.Shelf.state c.save_text.new.shelf))) (sym c.in-SaveText.is)
    (subst (λ (es : List Instance). IfOk c.save_text.result (λ m. Stepped (keeps c.in-SaveText.file (session_in e.kept) (saved_text (spec_in e) (session_in e.kept))) e m es c.args.replies.now.items c.save_text.new.replies.items (g.S.Shelf.state c.args.shelf.now) (g.S.Shelf.state c.save_text.new.shelf))) (sym c.requires.begun) c.save_text.ensures.ok))

pub returns-in-SaveText-clause-err : goal.returns-in-SaveText-clause-err
unfolding ask
returns-in-SaveText-clause-err g c = λ r given.
    let e = c.args.self.now in
    subst (λ (x : Command). OnErr c.save_text.result (Interrupted (spec_in e) (ask (spec_in e) (height_in e) r (session_in e.kept) x) (now_of c.args.journal.now) c.args.replies.now.items c.save_text.new.replies.items (g.S.Shelf.state c.args.shelf.now) (g.S.Shelf.state c.save_text.new.shelf))) (sym c.in-SaveText.is)
    (subst (λ (es : List Instance). OnErr c.save_text.result (Interrupted (spec_in e) (keeps c.in-SaveText.file (session_in e.kept) (saved_text (spec_in e) (session_in e.kept))) es c.args.replies.now.items c.save_text.new.replies.items (g.S.Shelf.state c.args.shelf.now) (g.S.Shelf.state c.save_text.new.shelf))) (sym c.requires.begun) c.save_text.ensures.err)

pub returns-in_default-clause-ok : goal.returns-in_default-clause-ok
returns-in_default-clause-ok g c = λ r given.
    let e : Editing = record { setting = c.self.inside.base; kept = c.self.inside.desk } in
    let f : Editing = record { setting = c.self.inside.base; kept = c.tell.new.self } in
    let said = c.args.command.now in
    let now = now_of c.tell.new.journal in
    let replies = c.args.replies.now.items in
    let shelf = g.S.Shelf.state c.args.shelf.now in
    let right : AreReaders (spec_in e) r = subst (λ (x : Editing). AreReaders (spec_in x) r) (sym c.self.view_is) given in
    let asked = others_tell (spec_in e) (height_in e) r (session_in e.kept) said (other said c.in_default.not-Load c.in_default.not-Save c.in_default.not-SaveText) in
    subst (λ (x : Editing). IfOk c.tell.result (λ m. Stepped (ask (spec_in x) (height_in x) r (session_in x.kept) said) f m now replies replies shelf shelf)) c.self.view_is
    (subst (λ (a : Ask). IfOk c.tell.result (λ m. Stepped a f m now replies replies shelf shelf)) (sym asked)
    (told_steps f (tells (spec_in e) (height_in e) r (session_in e.kept) said) now replies shelf c.tell.result (c.tell.ensures.took r right)))

pub returns-in_default-clause-err : goal.returns-in_default-clause-err
returns-in_default-clause-err g c = λ r given.
    let e : Editing = record { setting = c.self.inside.base; kept = c.self.inside.desk } in
    let said = c.args.command.now in
    let now = now_of c.tell.new.journal in
    let replies = c.args.replies.now.items in
    let shelf = g.S.Shelf.state c.args.shelf.now in
    let right : AreReaders (spec_in e) r = subst (λ (x : Editing). AreReaders (spec_in x) r) (sym c.self.view_is) given in
    let asked = others_tell (spec_in e) (height_in e) r (session_in e.kept) said (other said c.in_default.not-Load c.in_default.not-Save c.in_default.not-SaveText) in
    subst (λ (x : Editing). OnErr c.tell.result (Interrupted (spec_in x) (ask (spec_in x) (height_in x) r (session_in x.kept) said) now replies replies shelf shelf)) c.self.view_is
    (subst (λ (a : Ask). OnErr c.tell.result (Interrupted (spec_in e) a now replies replies shelf shelf)) (sym asked)
    (told_cuts (spec_in e) (tells (spec_in e) (height_in e) r (session_in e.kept) said) now replies shelf c.tell.result (c.tell.ensures.some r right)))

pub returns-in-Load-clause-nodes : goal.returns-in-Load-clause-nodes
returns-in-Load-clause-nodes g c = λ r given here. absurd (false≢true (subst (λ (x : Command). is_turn x ≡ true) c.in-Load.is here))

pub returns-in-Save-clause-nodes : goal.returns-in-Save-clause-nodes
returns-in-Save-clause-nodes g c = λ r given here. absurd (false≢true (subst (λ (x : Command). is_turn x ≡ true) c.in-Save.is here))

pub returns-in-SaveText-clause-nodes : goal.returns-in-SaveText-clause-nodes
returns-in-SaveText-clause-nodes g c = λ r given here. absurd (false≢true (subst (λ (x : Command). is_turn x ≡ true) c.in-SaveText.is here))

pub returns-in_default-clause-nodes : goal.returns-in_default-clause-nodes
returns-in_default-clause-nodes g c = λ r given here.
    let right : AreReaders c.self.inside.base.contents.spec r = subst (λ (x : Editing). AreReaders (spec_in x) r) (sym c.self.view_is) given in
    subst (λ (x : Editing). OnErr c.tell.result (NotedHere r x.kept c.args.command.now (now_of c.tell.new.journal))) c.self.view_is (c.tell.ensures.nodes r right here)
