use Rattle.std.proofs.Common.{arith}
use Rattle.std.proofs.lemmas.Bool.Decides.{nat_tests}
use Rattle.sg_text.proofs.FormLemmas.{string-found_at, string-bad_at}
use Rattle.sg_text.proofs.forms.string.Goals as goal

pub returns-then-good-len : goal.returns-then-good-len
returns-then-good-len c =
    string-found_at c.args.at c.args.body.now c.string_len-len.result c.text_len-good.result c.string_len-len.ensures.value c.text_len-good.ensures.value (grind (arith, nat_tests)) (omega arith)

pub returns-else-good-len : goal.returns-else-good-len
returns-else-good-len c =
    string-bad_at c.args.at c.args.body.now c.string_len-len.result c.text_len-good.result c.string_len-len.ensures.value c.text_len-good.ensures.value (grind (arith, nat_tests)) (λ all. absurd (omega arith))
