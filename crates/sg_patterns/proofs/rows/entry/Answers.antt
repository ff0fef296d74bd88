use Rattle.std.proofs.Common.{◌≡◌, ◌%◌, ◌<◌, length, arith, ap, sym, ◌∙◌, subst}
use Rattle.std.specs.Prelude.{nat_lt}
use Rattle.std.proofs.lemmas.Bool.{ltb-true}
use Rattle.sg_patterns.specs.Flags.{flag_at}
use Rattle.sg_patterns.proofs.Matching.{and-both}
use Rattle.sg_patterns.proofs.Leading.{byte-is, led-entry, next-again}
use Rattle.sg_patterns.proofs.rows.entry.Goals as goal

pub returns-then-byte-flag-clause-next : goal.returns-then-byte-flag-clause-next
returns-then-byte-flag-clause-next c s b is less =
    let done = c.args.done.now in
    let byte : length done % 256 ≡ b = byte-is (length done) s b is less in
    let both = and-both (nat_lt 0 (length done % 256)) c.flag.result c.if-byte-flag.true in
    let some : 0 < b = subst (λ k. 0 < k) byte (ltb-true 0 (length done % 256) both.0) in
    next-again c.args.program.now c.args.states.now.items done c.args.alike.now c.requires.runs c.requires.next (omega (arith, c.requires.within)) s b is less some (ap (flag_at c.args.alike.now) (sym byte) ∙ sym c.flag.ensures ∙ both.1)

pub returns-clause-next : goal.returns-clause-next
returns-clause-next c = led-entry c.args.program.now c.led.new.states.items (length c.args.done.now) c.in_ok-led.led c.in_ok-led.ensures.next
