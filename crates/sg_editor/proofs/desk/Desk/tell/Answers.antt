use Rattle.std.specs.Prelude.{◌≡◌, IfOk, OnErr, true}
use Rattle.std.proofs.Common.{sym, subst}
use Rattle.std.proofs.lemmas.Bool.{false≢true}
use Rattle.sg_kinds.specs.Values.{Bytes}
use Rattle.sg_eval.specs.Journal.{now_of}
use Rattle.sg_script.specs.declared.command.Command.{Command}
use Rattle.sg_editor.specs.Ask.{news, tells}
use Rattle.sg_editor.specs.Editing.{session_in}
use Rattle.sg_editor.specs.Steps.{AreSome, Took, is_turn}
use Rattle.sg_editor.proofs.desk.Desk.tell.Goals as goal

pub returns-in-New-clause-took : goal.returns-in-New-clause-took
returns-in-New-clause-took c = λ r right.
    let spec = c.args.base.now.contents.spec in
    let s = session_in c.args.self.now in
    let k = c.begin.new.self in
    let now = now_of c.begin.new.journal in
    subst (λ (x : Command). IfOk c.begin.result (λ m. Took (tells spec c.args.base.now.height r s x) k m now)) (sym c.in-New.is)
    (subst (λ (n : Bytes). IfOk c.begin.result (λ m. Took (news spec n s) k m now)) c.as_slice.ensures c.begin.ensures.took)

pub returns-in-New-clause-some : goal.returns-in-New-clause-some
returns-in-New-clause-some c = λ r right.
    let spec = c.args.base.now.contents.spec in
    let s = session_in c.args.self.now in
    let now = now_of c.begin.new.journal in
    subst (λ (x : Command). OnErr c.begin.result (AreSome spec (tells spec c.args.base.now.height r s x) now)) (sym c.in-New.is)
    (subst (λ (n : Bytes). OnErr c.begin.result (AreSome spec (news spec n s) now)) c.as_slice.ensures c.begin.ensures.some)

pub returns-in-Switch-clause-kept : goal.returns-in-Switch-clause-kept
returns-in-Switch-clause-kept c = c.switch.ensures.kept c.args.base.now.contents.spec c.args.base.now.height c.requires.kept

pub returns-in-New-clause-nodes : goal.returns-in-New-clause-nodes
returns-in-New-clause-nodes c = λ r right here. absurd (false≢true (subst (λ (x : Command). is_turn x ≡ true) c.in-New.is here))
