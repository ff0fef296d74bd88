use Rattle.std.specs.Prelude.{◌≡◌, ℕ, ◌+◌, suc}
use Rattle.std.proofs.Common.{sym, subst, arith}
use Rattle.sg_eval.specs.Journal.{now_of}
use Rattle.sg_editor.specs.Ask.{Step, fetched}
use Rattle.sg_editor.specs.Editing.{Kept, session_in}
use Rattle.sg_editor.specs.Steps.{AreSome, Took}
use Rattle.sg_editor.proofs.Loading.{counted_step, fetched_counted, some_counted, took_counted}
use Rattle.sg_editor.proofs.Taken.{on_err}
use Rattle.sg_editor.proofs.desk.Desk.take_in.Goals as goal

pub returns-in_err-message-clause-some : goal.returns-in_err-message-clause-some
returns-in_err-message-clause-some c = λ r right.
    let spec = c.args.base.now.contents.spec in
    let height = c.args.base.now.height in
    let s = session_in c.args.self.now in
    let now = now_of c.taken_in.new.journal in
    on_err c.from_residual.result _
    (subst (λ (x : Step). AreSome spec x now) (sym (fetched_counted spec c.args.name.now s height r c.args.reply.now))
    (some_counted spec (fetched spec height r c.args.name.now s c.args.reply.now) now (c.in_err-message.ensures.some r right)))

pub returns-clause-took : goal.returns-clause-took
returns-clause-took c = λ r right.
    let spec = c.args.base.now.contents.spec in
    let height = c.args.base.now.height in
    let s = session_in c.args.self.now in
    let k : Kept = record { buffers = c.self.inside.named.items; current = c.self.inside.current; clip = c.self.inside.clip; loads = c.self.inside.loads } in
    let now = now_of c.taken_in.new.journal in
    let m = c.in_ok-message.message in
    let step = fetched spec height r c.args.name.now s c.args.reply.now in
    let took : Took step k m now = subst (λ (x : Kept). Took step x m now) (sym c.self.view_is) (c.in_ok-message.ensures.took r right) in
    let one : suc k.loads ≡ k.loads + 1 = omega arith in
    subst (λ (x : Step). Took x (record k { loads = k.loads + 1 }) m now) (sym (fetched_counted spec c.args.name.now s height r c.args.reply.now))
    (subst (λ (n : ℕ). Took (counted_step step) (record k { loads = n }) m now) one (took_counted step k m now took))
