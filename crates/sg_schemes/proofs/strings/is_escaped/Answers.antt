use Rattle.std.proofs.Common.{sym}
use Rattle.sg_schemes.proofs.Escaped.{is_escaped}
use Rattle.sg_schemes.proofs.strings.is_escaped.Goals as goal

pub loop-byte-init : goal.loop-byte-init
loop-byte-init c = sym (is_escaped c.args.text.now)
