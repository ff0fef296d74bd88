use Rattle.std.proofs.Common.{refl, inl, inr}
use Rattle.sg_kinds.specs.Lexemes.{Byte, Dot}
use Rattle.sg_patterns.proofs.reader.Reader.feed_ready.Goals as goal

pub returns-in-Bar : goal.returns-in-Bar
returns-in-Bar c m outer f h = rw c.in-Bar.is (c.bar.ensures m outer f h)

pub returns-in-LeftParenthesis : goal.returns-in-LeftParenthesis
returns-in-LeftParenthesis c m outer f h = rw c.in-LeftParenthesis.is (c.open.ensures m outer f h)

pub returns-in-RightParenthesis : goal.returns-in-RightParenthesis
returns-in-RightParenthesis c m outer f h = rw c.in-RightParenthesis.is (c.close_parenthesis.ensures m outer f h)

pub returns-in-Stop : goal.returns-in-Stop
returns-in-Stop c m outer f h = rw c.in-Stop.is (c.hold.ensures m outer f Dot h (λ ps. refl))

pub returns-in-Plain : goal.returns-in-Plain
returns-in-Plain c m outer f h =
    let held = c.hold-in-Plain.ensures m outer f (Byte c.args.byte) h (λ ps. refl) in
    elim c.in-Plain.is [ inl e ↦ rw e held | inr e ↦ elim e [ inl x ↦ rw x held | inr x ↦ rw x held ] ]
