use Rattle.std.proofs.Common.{length}
use Rattle.sg_input.proofs.Typing.{scanned-tokens}
use Rattle.sg_input.proofs.entering.with_tokens.Goals as goal

pub parse-requires-clause-tokens : goal.parse-requires-clause-tokens
parse-requires-clause-tokens c =
    let a = c.requires.tokens in
    scanned-tokens c.args.ev.now c.requires.sound c.args.text.now a.1 a.2 (length c.args.text.now) c.args.tokens.now a.3
