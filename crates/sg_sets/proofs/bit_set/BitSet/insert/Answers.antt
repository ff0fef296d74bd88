use Rattle.std.proofs.Common.{◌≡◌, ◌/◌, ◌<◌, ◌∙◌, length, get_or, arith}
use Rattle.std.proofs.lemmas.List.{get_or_default}
use Rattle.sg_sets.proofs.WordsLemmas.{length-bits_of, bits_of-with_bit, packed-with_bit}
use Rattle.sg_sets.proofs.bit_set.BitSet.insert.Goals as goal

pub index_mut-requires : goal.index_mut-requires
index_mut-requires c =
    let low = rw (← c.self.view_is, length-bits_of) at c.requires in
    omega (arith, low, c.self.invariant.room)

pub invariant_of-self : goal.invariant_of-self
invariant_of-self c =
    let low = rw (← c.self.view_is, length-bits_of) at c.requires in
    let within : c.args.a / 64 < length c.self.inside.words.items = omega (arith, low, c.self.invariant.room) in
    let word : c.index_mut.result.now ≡ get_or c.self.inside.words.items (c.args.a / 64) 0 =
    c.index_mut.ensures.value ∙ get_or_default c.self.inside.words.items (c.args.a / 64) c.index_mut.result.now 0 within in
    rw word (packed-with_bit c.self.inside.width c.self.inside.words.items c.args.a low within c.self.invariant)

pub returns-clause-gains : goal.returns-clause-gains
returns-clause-gains c =
    let low = rw (← c.self.view_is, length-bits_of) at c.requires in
    let within : c.args.a / 64 < length c.self.inside.words.items = omega (arith, low, c.self.invariant.room) in
    let word : c.index_mut.result.now ≡ get_or c.self.inside.words.items (c.args.a / 64) 0 =
    c.index_mut.ensures.value ∙ get_or_default c.self.inside.words.items (c.args.a / 64) c.index_mut.result.now 0 within in
    rw (word, ← c.self.view_is) (bits_of-with_bit c.self.inside.width c.self.inside.words.items c.args.a low within)
