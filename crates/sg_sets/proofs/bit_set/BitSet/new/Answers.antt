use Rattle.std.proofs.Common.{◌∙◌, ap}
use Rattle.sg_sets.specs.Words.{bits_of}
use Rattle.sg_sets.proofs.WordsLemmas.{bits_of-zeros}
use Rattle.sg_sets.proofs.bit_set.BitSet.new.Goals as goal

pub returns : goal.returns
returns c =
    let zeros = c.in_ok-words.ensures.items_if_clones_equal (λ y same. same) in
    ap (bits_of c.args.width) zeros ∙ bits_of-zeros c.args.width c.div_ceil.result
