use Rattle.std.proofs.Common.{subst}
use Rattle.sg_eval.specs.Journal.{now_of}
use Rattle.sg_editor.specs.Ask.{AreReaders, ask}
use Rattle.sg_editor.specs.Editing.{Setting, height_in, session_in, session_of, spec_in}
use Rattle.sg_editor.proofs.Bound.{steps_few}
use Rattle.sg_editor.proofs.editor.Editor.step.Goals as goal

pub returns-clause-ok : goal.returns-clause-ok
unfolding session_of
returns-clause-ok g c = c.act-message.ensures.ok

pub returns-clause-err : goal.returns-clause-err
unfolding session_of
returns-clause-err g c = c.act-message.ensures.err

pub returns-clause-same : goal.returns-clause-same
unfolding session_of
returns-clause-same g c = c.act-message.ensures.same

pub returns-clause-most : goal.returns-clause-most
returns-clause-most g c =
    let f = c.act-message.new.self in
    let r = c.facts.ensures.readers.0 in
    let right : AreReaders (spec_in c.args.self.now) r =
    subst (λ (s : Setting). AreReaders s.contents.spec r) c.act-message.ensures.setting c.facts.ensures.readers.1 in
    let old = g.S.Shelf.state c.args.shelf.now in
    let new = g.S.Shelf.state c.act-message.new.shelf in
    steps_few f c.facts.ensures.sound c.facts.ensures.kept c.facts.ensures.small
    (ask (spec_in c.args.self.now) (height_in c.args.self.now) r (session_in c.args.self.now.kept) c.args.command.now)
    (now_of c.act-message.new.journal) c.args.replies.now.items c.act-message.new.replies.items old new c.act-message.result
    (c.act-message.ensures.ok r right)

pub returns-clause-nodes : goal.returns-clause-nodes
returns-clause-nodes g c = c.act-message.ensures.nodes
