use Rattle.std.proofs.Common.{length, refl}
use Rattle.std.proofs.lemmas.Option.{slice_get_read}
use Rattle.sg_input.proofs.Steps.{look-some}
use Rattle.sg_input.proofs.stacks.Reading.terminal.Goals as goal

pub returns-in-Some : goal.returns-in-Some
returns-in-Some c =
    let r = c.args.self.now in
    let x = c.in-Some.token.now in
    let l = c.in-Some.ensures.lookup in
    look-some r.text.now r.tokens.now c.args.at x (slice_get_read r.tokens.now (length r.tokens.now) c.args.at x refl l.3.0 (l.3.1 x))
