use Rattle.std.proofs.Common.{◌≡◌, ◌∙◌, ap, sym, length, replicate, false, arith}
use Rattle.std.proofs.lemmas.List.{with_items_is}
use Rattle.sg_sets.specs.Words.{bits_of}
use Rattle.sg_sets.proofs.WordsLemmas.{bits_of-zeros, length-bits_of}
use Rattle.sg_sets.proofs.bit_set.BitSet.clear.Goals as goal

pub returns : goal.returns
returns c =
    let long : length c.clear.new.words ≡ c.self.inside.words.len = omega arith in
    let zeros = with_items_is c.self.inside.words c.clear.new.words long ∙ c.clear.ensures in
    let width = sym (length-bits_of c.self.inside.width c.self.inside.words.items) ∙ ap length c.self.view_is in
    ap (bits_of c.self.inside.width) zeros ∙ bits_of-zeros c.self.inside.width (length c.deref_mut.result.now) ∙ ap (λ n. replicate n false) width
