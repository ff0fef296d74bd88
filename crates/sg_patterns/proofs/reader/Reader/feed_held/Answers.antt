use Rattle.std.proofs.Common.{refl, sym, subst}
use Rattle.std.specs.Prelude.{IfOk}
use Rattle.sg_kinds.specs.Lexemes.{Many, Several, Maybe}
use Rattle.sg_patterns.specs.Machine as machine
use Rattle.sg_patterns.specs.Readers.{outer_parts, Fed}
use Rattle.sg_patterns.proofs.Emitting.{piece-reads}
use Rattle.sg_patterns.proofs.Defaults.{held-default}
use Rattle.sg_patterns.proofs.reader.Reader.feed_held.Goals as goal

pub returns-in-Star : goal.returns-in-Star
returns-in-Star c m outer f p h = rw c.in-Star.is (c.sign.ensures m outer f p (Many p) h (λ ps. refl))

pub returns-in-Plus : goal.returns-in-Plus
returns-in-Plus c m outer f p h = rw c.in-Plus.is (c.sign-in-Plus.ensures m outer f p (Several p) h (λ ps. refl))

pub returns-in-Query : goal.returns-in-Query
returns-in-Query c m outer f p h = rw c.in-Query.is (c.sign-in-Query.ensures m outer f p (Maybe p) h (λ ps. refl))

pub returns-in_ok-join_piece-in_default : goal.returns-in_ok-join_piece-in_default
returns-in_ok-join_piece-in_default c m outer f p h =
    let j = c.in_ok-join_piece-in_default.ensures in
    subst (λ o. IfOk c.feed_ready.result (λ more. Fed o more c.feed_ready.new.self)) (sym (held-default outer f p c.args.byte c.args.kind c.in_default.not-Star c.in_default.not-Plus c.in_default.not-Query))
    (c.feed_ready.ensures m outer (machine.with_piece f p) (piece-reads c.args.self.now c.join_piece.new.self m outer f p h j.rest (j.made f p (outer_parts outer) h.inside h.made)))
