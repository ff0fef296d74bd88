use Rattle.std.proofs.Common.{sym}
use Rattle.sg_sets.proofs.WordsLemmas.{length-bits_of}
use Rattle.sg_sets.proofs.bit_set.BitSet.width.Goals as goal

pub returns : goal.returns
returns c = rw (← c.self.view_is) (sym (length-bits_of c.self.inside.width c.self.inside.words.items))
