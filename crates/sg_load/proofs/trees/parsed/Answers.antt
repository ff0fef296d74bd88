use Rattle.std.proofs.Common.{length, ◌<◌, ◌≤◌, arith, subst, List, sym}
use Rattle.std.proofs.lemmas.Bool.Decides.{nat_tests}
use Rattle.sg_text.specs.declared.tokens.Token.{Token}
use Rattle.sg_load.proofs.Tokens.{token_count}
use Rattle.sg_load.proofs.trees.parsed.Goals as goal

pub read-requires : goal.read-requires
read-requires c =
    let few : length c.in-Ok.tokens.items ≤ length c.args.bytes.now = token_count c.args.bytes.now c.in-Ok.tokens.items c.in-Ok.ensures.each c.in-Ok.ensures.in_order in
    let P : List Token → Type 0 = λ ts. length ts < 4294967296 in
    record { short = subst P (sym c.deref.ensures.value) (grind (arith, nat_tests, few, c.if-bytes-gt-TEXT_BYTES.false)) }
