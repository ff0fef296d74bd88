use Rattle.std.proofs.Common.{◌∷◌, [], refl}
use Rattle.sg_eval.specs.Journal.{counted}
use Rattle.sg_editor.specs.Editing.{session_of}
use Rattle.sg_console.specs.Console.Event.{Took, Passed, Put}
use Rattle.sg_live.specs.Answers.{events_of}
use Rattle.sg_live.specs.DeskView.{desk_in}
use Rattle.sg_live.specs.Texts.{long_line_text}
use Rattle.sg_live.proofs.OneLine.{on_ok_to, if_err_to, turned, over_unput, over_ended, over_lost, took_read, took_heard, passed_read, passed_heard, ended_read, ended_heard, answered_long, read_said, read_put}
use Rattle.sg_live.proofs.talking.turn.Goals as goal

pub returns-in-Ok-Line-clause-turned : goal.returns-in-Ok-Line-clause-turned
returns-in-Ok-Line-clause-turned g c = λ r right.
    let old = g.C.Console.state c.args.console.now in
    let mid = g.C.Console.state c.take_line.new.self in
    let line = c.take_line.new.line.items in
    let read = took_read old mid line c.in-Ok-Line.field-0 c.in-Ok-Line.ensures.taken c.in-Ok-Line.ensures.ok c.deref.result.now c.in-Ok-Line.field-0-is c.deref.ensures.value in
    let heard = took_heard old mid line c.in-Ok-Line.field-0 c.in-Ok-Line.ensures.taken c.in-Ok-Line.ensures.ok c.deref.result.now c.in-Ok-Line.field-0-is c.deref.ensures.value in
    on_ok_to c.put.result
    (turned (desk_in c.args.editor.now r) (session_of c.args.editor.now) (session_of c.answer.new.editor) (g.S.Shelf.state c.args.shelf.now) (g.S.Shelf.state c.answer.new.shelf) (Took c.deref.result.now)
    (events_of c.answer.result) (counted c.args.journal.now) (counted c.answer.new.journal) old mid (g.C.Console.state c.put.new.console) (c.answer.ensures.answered r right) read (read_said c.answer.result mid.left) heard
    c.put.ensures.left c.take_line.ensures.later c.put.ensures.later) c.put.ensures.ok

pub returns-in-Ok-Line-clause-over : goal.returns-in-Ok-Line-clause-over
returns-in-Ok-Line-clause-over g c = λ r right lines.
    let old = g.C.Console.state c.args.console.now in
    let mid = g.C.Console.state c.take_line.new.self in
    let line = c.take_line.new.line.items in
    let read = took_read old mid line c.in-Ok-Line.field-0 c.in-Ok-Line.ensures.taken c.in-Ok-Line.ensures.ok c.deref.result.now c.in-Ok-Line.field-0-is c.deref.ensures.value in
    let heard = took_heard old mid line c.in-Ok-Line.field-0 c.in-Ok-Line.ensures.taken c.in-Ok-Line.ensures.ok c.deref.result.now c.in-Ok-Line.field-0-is c.deref.ensures.value in
    if_err_to c.put.result
    (over_unput (desk_in c.args.editor.now r) (session_of c.args.editor.now) (session_of c.answer.new.editor) (g.S.Shelf.state c.args.shelf.now) (g.S.Shelf.state c.answer.new.shelf) (Took c.deref.result.now)
    (events_of c.answer.result) (counted c.args.journal.now) (counted c.answer.new.journal) old mid (g.C.Console.state c.put.new.console) (c.answer.ensures.answered r right) read heard c.take_line.ensures.later lines)
    c.put.ensures.status c.put.ensures.err c.put.ensures.some c.put.ensures.cause

pub returns-in-Ok-Long-clause-turned : goal.returns-in-Ok-Long-clause-turned
returns-in-Ok-Long-clause-turned g c = λ r right.
    let old = g.C.Console.state c.args.console.now in
    let mid = g.C.Console.state c.take_line.new.self in
    let line = c.take_line.new.line.items in
    let read = passed_read old mid line c.in-Ok-Long.field-0 c.in-Ok-Long.ensures.taken c.in-Ok-Long.ensures.ok c.in-Ok-Long.field-0-is in
    let heard = passed_heard old mid line c.in-Ok-Long.field-0 c.in-Ok-Long.ensures.taken c.in-Ok-Long.ensures.ok c.in-Ok-Long.field-0-is in
    on_ok_to c.put-in-Ok-Long.result
    (turned (desk_in c.args.editor.now r) (session_of c.args.editor.now) (session_of c.args.editor.now) (g.S.Shelf.state c.args.shelf.now) (g.S.Shelf.state c.args.shelf.now) Passed (Put long_line_text ∷ [])
    (counted c.args.journal.now) (counted c.args.journal.now) old mid (g.C.Console.state c.put-in-Ok-Long.new.console)
    (answered_long (desk_in c.args.editor.now r) (session_of c.args.editor.now) (g.S.Shelf.state c.args.shelf.now) (counted c.args.journal.now)) read (read_put long_line_text mid.left) heard
    c.put-in-Ok-Long.ensures.left c.take_line.ensures.later c.put-in-Ok-Long.ensures.later) c.put-in-Ok-Long.ensures.ok

pub returns-in-Ok-Long-clause-over : goal.returns-in-Ok-Long-clause-over
returns-in-Ok-Long-clause-over g c = λ r right lines.
    let old = g.C.Console.state c.args.console.now in
    let mid = g.C.Console.state c.take_line.new.self in
    let line = c.take_line.new.line.items in
    let read = passed_read old mid line c.in-Ok-Long.field-0 c.in-Ok-Long.ensures.taken c.in-Ok-Long.ensures.ok c.in-Ok-Long.field-0-is in
    let heard = passed_heard old mid line c.in-Ok-Long.field-0 c.in-Ok-Long.ensures.taken c.in-Ok-Long.ensures.ok c.in-Ok-Long.field-0-is in
    if_err_to c.put-in-Ok-Long.result
    (over_unput (desk_in c.args.editor.now r) (session_of c.args.editor.now) (session_of c.args.editor.now) (g.S.Shelf.state c.args.shelf.now) (g.S.Shelf.state c.args.shelf.now) Passed (Put long_line_text ∷ [])
    (counted c.args.journal.now) (counted c.args.journal.now) old mid (g.C.Console.state c.put-in-Ok-Long.new.console)
    (answered_long (desk_in c.args.editor.now r) (session_of c.args.editor.now) (g.S.Shelf.state c.args.shelf.now) (counted c.args.journal.now)) read heard c.take_line.ensures.later lines)
    c.put-in-Ok-Long.ensures.status c.put-in-Ok-Long.ensures.err c.put-in-Ok-Long.ensures.some c.put-in-Ok-Long.ensures.cause

pub returns-in-Ok-End-clause-over : goal.returns-in-Ok-End-clause-over
returns-in-Ok-End-clause-over g c = λ r right lines.
    let old = g.C.Console.state c.args.console.now in
    let mid = g.C.Console.state c.take_line.new.self in
    let line = c.take_line.new.line.items in
    over_ended (desk_in c.args.editor.now r) (session_of c.args.editor.now) (g.S.Shelf.state c.args.shelf.now) (counted c.args.journal.now) old mid
    (ended_heard old mid line c.in-Ok-End.field-0 c.in-Ok-End.ensures.taken c.in-Ok-End.ensures.ok c.in-Ok-End.field-0-is)
    (ended_read old mid line c.in-Ok-End.field-0 c.in-Ok-End.ensures.taken c.in-Ok-End.ensures.ok c.in-Ok-End.field-0-is) lines

pub returns-in-Err-clause-over : goal.returns-in-Err-clause-over
returns-in-Err-clause-over g c = λ r right lines.
    over_lost (desk_in c.args.editor.now r) (session_of c.args.editor.now) (g.S.Shelf.state c.args.shelf.now) (counted c.args.journal.now) (g.C.Console.state c.args.console.now)
    (g.C.Console.state c.take_line.new.self) (g.C.Console.state c.finish.new.console) _ c.finish.result c.in-Err.ensures.err c.in-Err.ensures.cause refl c.finish.ensures lines
