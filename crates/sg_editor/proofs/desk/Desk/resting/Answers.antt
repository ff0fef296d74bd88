use Rattle.std.proofs.Common.{arith}
use Rattle.sg_editor.proofs.Resting.{captured_some, typed_rests}
use Rattle.sg_editor.proofs.desk.Desk.resting.Goals as goal

pub returns-then-is_some-clause-err : goal.returns-then-is_some-clause-err
returns-then-is_some-clause-err c = λ make.
    typed_rests c.args.self.now make c.in-Some.named.now c.in-Some.ensures
    (captured_some c.captured.result c.in-Some.named.now.buffer.capture (λ s. s.now) c.captured.ensures (grind arith))
