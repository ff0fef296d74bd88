use Rattle.std.proofs.Common.{length, sym, ◌∙◌, subst}
use Rattle.sg_patterns.specs.Scan.{Scanned}
use Rattle.sg_input.proofs.Answering.{none-bad, stop-entered}
use Rattle.sg_input.proofs.entering.entered.Goals as goal

pub with_tokens-requires-clause-tokens : goal.with_tokens-requires-clause-tokens
with_tokens-requires-clause-tokens c =
    let text = c.args.text.now in (
      none-bad text (sym c.in-None.is ∙ c.bad_byte.ensures),
      c.args.lexemes.now,
      c.requires.lexemes,
      subst (λ ts. Scanned c.args.lexemes.now text (length text) ts) (sym c.as_slice.ensures.value) c.in-Ok.ensures.tokens,
    )

pub returns-in-Err : goal.returns-in-Err
returns-in-Err c =
    let text = c.args.text.now in
    stop-entered c.args.ev.now c.requires.sound c.args.entry c.requires.entry text c.args.lexemes.now c.requires.lexemes (none-bad text (sym c.in-None.is ∙ c.bad_byte.ensures)) c.in-Err.fault c.in-Err.ensures.stops
