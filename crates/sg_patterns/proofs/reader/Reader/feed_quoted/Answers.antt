use Rattle.std.proofs.Common.{refl, sym, subst, ◌∙◌}
use Rattle.std.specs.Prelude.{IfOk}
use Rattle.sg_kinds.specs.Lexemes.{Byte}
use Rattle.sg_patterns.specs.Kinds.{is_special}
use Rattle.sg_patterns.specs.Machine as machine
use Rattle.sg_patterns.specs.Readers.{Fed}
use Rattle.sg_patterns.proofs.Defaults.{fed-if}
use Rattle.sg_patterns.proofs.reader.Reader.feed_quoted.Goals as goal

pub returns : goal.returns
returns c m outer f h =
    subst (λ o. IfOk c.hold.result (λ more. Fed o more c.hold.new.self)) (sym (fed-if (is_special c.args.kind) (machine.Held outer f (Byte c.args.byte)) (sym c.is_special.ensures ∙ c.if-not-is_special.false))) (c.hold.ensures m outer f (Byte c.args.byte) h (λ ps. refl))
