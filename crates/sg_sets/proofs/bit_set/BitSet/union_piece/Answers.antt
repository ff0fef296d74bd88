use Rattle.std.proofs.Common.{◌≡◌, ◌≤◌, ◌+◌, ◌∙◌, ap, length, arith}
use Rattle.std.proofs.lemmas.List.{with_items_is}
use Rattle.sg_sets.proofs.OptionLemmas.{OnTrue-weaker}
use Rattle.sg_sets.proofs.WordsLemmas.{length-bits_of}
use Rattle.sg_sets.proofs.PiecesLemmas.{packed-moved, has-moved, missing_of-moved}
use Rattle.sg_sets.proofs.bit_set.BitSet.union_piece.Goals as goal

pub join_piece-requires-clause-to : goal.join_piece-requires-clause-to
join_piece-requires-clause-to c =
    let room : c.args.to + c.args.count ≤ c.self.inside.width = rw (← c.self.view_is, length-bits_of) at c.requires.to in
    let l = ap length c.deref_mut.ensures.value in
    omega (arith, l, room, c.requires.some, c.self.invariant.room)

pub join_piece-requires-clause-from : goal.join_piece-requires-clause-from
join_piece-requires-clause-from c =
    let room : c.args.from + c.args.count ≤ c.other.inside.width = rw (← c.other.view_is, length-bits_of) at c.requires.from in
    let l = ap length c.deref.ensures.value in
    omega (arith, l, room, c.requires.some, c.other.invariant.room)

pub invariant_of-self : goal.invariant_of-self
invariant_of-self c =
    let room : c.args.to + c.args.count ≤ c.self.inside.width = rw (← c.self.view_is, length-bits_of) at c.requires.to in
    let joins = rw (c.deref_mut.ensures.value, c.deref.ensures.value) at c.join_piece.ensures.joins in
    let long : length c.join_piece.new.words ≡ length c.self.inside.words.items = c.join_piece.auto.words ∙ ap length c.deref_mut.ensures.value in
    let whole : length c.join_piece.new.words ≡ c.self.inside.words.len = c.join_piece.auto.words ∙ c.deref_mut.ensures.len in
    rw (with_items_is c.self.inside.words c.join_piece.new.words whole)
    (packed-moved c.self.inside.width c.self.inside.words.items c.other.inside.words.items c.join_piece.new.words c.args.to c.args.from c.args.count joins c.self.invariant long room)

pub returns-clause-joins : goal.returns-clause-joins
returns-clause-joins c =
    let room : c.args.to + c.args.count ≤ c.self.inside.width = rw (← c.self.view_is, length-bits_of) at c.requires.to in
    let joins = rw (c.deref_mut.ensures.value, c.deref.ensures.value) at c.join_piece.ensures.joins in
    let long : length c.join_piece.new.words ≡ length c.self.inside.words.items = c.join_piece.auto.words ∙ ap length c.deref_mut.ensures.value in
    let whole : length c.join_piece.new.words ≡ c.self.inside.words.len = c.join_piece.auto.words ∙ c.deref_mut.ensures.len in
    let packed = packed-moved c.self.inside.width c.self.inside.words.items c.other.inside.words.items c.join_piece.new.words c.args.to c.args.from c.args.count joins c.self.invariant long room in
    rw (← c.self.view_is, ← c.other.view_is, with_items_is c.self.inside.words c.join_piece.new.words whole)
    (has-moved c.self.inside.width c.self.inside.words.items c.other.inside.words.items c.join_piece.new.words c.args.to c.args.from c.args.count joins c.other.inside.width c.self.invariant c.other.invariant packed)

pub returns-clause-grows : goal.returns-clause-grows
returns-clause-grows c =
    let room : c.args.to + c.args.count ≤ c.self.inside.width = rw (← c.self.view_is, length-bits_of) at c.requires.to in
    let joins = rw (c.deref_mut.ensures.value, c.deref.ensures.value) at c.join_piece.ensures.joins in
    let long : length c.join_piece.new.words ≡ length c.self.inside.words.items = c.join_piece.auto.words ∙ ap length c.deref_mut.ensures.value in
    let whole : length c.join_piece.new.words ≡ c.self.inside.words.len = c.join_piece.auto.words ∙ c.deref_mut.ensures.len in
    let packed = packed-moved c.self.inside.width c.self.inside.words.items c.other.inside.words.items c.join_piece.new.words c.args.to c.args.from c.args.count joins c.self.invariant long room in
    let gained = rw c.deref_mut.ensures.value at c.join_piece.ensures.gained in
    rw (← c.self.view_is, with_items_is c.self.inside.words c.join_piece.new.words whole)
    (OnTrue-weaker c.join_piece.result _ _ (missing_of-moved c.self.inside.width c.self.inside.words.items c.other.inside.words.items c.join_piece.new.words c.args.to c.args.from c.args.count joins c.self.invariant packed) gained)
