use Rattle.std.proofs.Common.{string_bytes}
use Rattle.std.specs.Prelude.{codes}
use Rattle.sg_explain.proofs.Words.{two_words}
use Rattle.sg_explain.proofs.running.named.Goals as goal

pub returns-in-len2-clause-some : goal.returns-in-len2-clause-some
returns-in-len2-clause-some c =
    two_words string_bytes c.args.words.now c.file-item-then-words-lt3.result c.word-item.result c.as_str-in-len2.result.now c.as_str-then-words-lt3.result.now (codes "plan") c.eq.result
    c.in-len2.len_at_least c.in-len2.len_below c.file-item-then-words-lt3.is c.word-item.is c.as_str-in-len2.ensures.value c.as_str-then-words-lt3.ensures.value c.eq.ensures c.if-eq.true
