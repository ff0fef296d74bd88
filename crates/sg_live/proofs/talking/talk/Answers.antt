use Rattle.std.proofs.Common.{◌∙◌, refl}
use Rattle.sg_eval.specs.Journal.{counted}
use Rattle.sg_editor.specs.Editing.{session_of}
use Rattle.sg_live.specs.DeskView.{desk_in}
use Rattle.sg_live.specs.Outside.{outside}
use Rattle.sg_live.proofs.LineByLine.{went_on_none, went_on_more, talked, talked_worn, turned_at, over_at, readers_at}
use Rattle.sg_live.proofs.talking.talk.Goals as goal

pub loop-init : goal.loop-init
loop-init g c = record {
  setting = refl;
  capacity = refl;
  went_on = λ r right. went_on_none (desk_in c.args.editor.now r) (session_of c.args.editor.now) (outside (g.S.Shelf.state c.args.shelf.now) (g.C.Console.state c.args.console.now) (counted c.args.journal.now));
}

pub loop-preserved : goal.loop-preserved
loop-preserved g c =
    let inv = c.loop.invariant in
    let old = outside (g.S.Shelf.state c.args.shelf.now) (g.C.Console.state c.args.console.now) (counted c.args.journal.now) in
    let mid = outside (g.S.Shelf.state c.loop.shelf) (g.C.Console.state c.loop.console) (counted c.loop.journal) in
    let new = outside (g.S.Shelf.state c.turn.new.shelf) (g.C.Console.state c.turn.new.console) (counted c.turn.new.journal) in
    record {
      setting = c.turn.ensures.setting ∙ inv.setting;
      capacity = c.turn.ensures.capacity ∙ inv.capacity;
      went_on = λ r right. went_on_more (desk_in c.args.editor.now r) (session_of c.args.editor.now) old c.loop.counter (session_of c.loop.editor) (session_of c.turn.new.editor) mid new (inv.went_on r right)
          (turned_at c.args.editor.now c.loop.editor r (session_of c.loop.editor) (session_of c.turn.new.editor) mid new inv.setting
          (c.in_default.ensures.turned r (readers_at c.args.editor.now c.loop.editor r inv.setting right)));
    }

pub returns-in-Err : goal.returns-in-Err
returns-in-Err g c = λ r right.
    let inv = c.loop.invariant in
    let old = outside (g.S.Shelf.state c.args.shelf.now) (g.C.Console.state c.args.console.now) (counted c.args.journal.now) in
    let mid = outside (g.S.Shelf.state c.loop.shelf) (g.C.Console.state c.loop.console) (counted c.loop.journal) in
    let new = outside (g.S.Shelf.state c.turn.new.shelf) (g.C.Console.state c.turn.new.console) (counted c.turn.new.journal) in
    talked (desk_in c.args.editor.now r) (session_of c.args.editor.now) old c.loop.counter (session_of c.loop.editor) mid new c.in-Err.status (inv.went_on r right)
    (over_at c.args.editor.now c.loop.editor r (session_of c.loop.editor) c.loop.counter c.in-Err.status mid new inv.setting
    (c.in-Err.ensures.over r (readers_at c.args.editor.now c.loop.editor r inv.setting right) c.loop.counter))

pub returns : goal.returns
returns g c = λ r right.
    let old = outside (g.S.Shelf.state c.args.shelf.now) (g.C.Console.state c.args.console.now) (counted c.args.journal.now) in
    let new = outside (g.S.Shelf.state c.loop.shelf) (g.C.Console.state c.loop.console) (counted c.loop.journal) in
    talked_worn (desk_in c.args.editor.now r) (session_of c.args.editor.now) old c.loop.counter (session_of c.loop.editor) new (c.loop.invariant.went_on r right) c.loop-test.false
