use Rattle.std.proofs.Common.{arith}
use Rattle.std.proofs.lemmas.Bool.Decides.{nat_tests}
use Rattle.sg_text.proofs.FormLemmas.{literal-found_at, literal-bad_at}
use Rattle.sg_text.proofs.forms.literal.Goals as goal

pub returns-then-len-good : goal.returns-then-len-good
returns-then-len-good c =
    literal-found_at c.args.at c.args.body.now c.literal_len-len.result c.quoted_len-good.result c.literal_len-len.ensures.value c.quoted_len-good.ensures.value (grind (arith, nat_tests)) (omega arith) (omega arith)

pub returns-else-len-good : goal.returns-else-len-good
returns-else-len-good c =
    literal-bad_at c.args.at c.args.body.now c.literal_len-len.result c.quoted_len-good.result c.literal_len-len.ensures.value c.quoted_len-good.ensures.value (grind (arith, nat_tests)) (omega arith) (omega arith)
