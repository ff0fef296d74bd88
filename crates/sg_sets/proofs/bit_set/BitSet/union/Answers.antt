use Rattle.std.proofs.Common.{◌≡◌, ◌∙◌, sym, ap, subst, length}
use Rattle.std.proofs.lemmas.List.{with_items_is}
use Rattle.sg_sets.proofs.OptionLemmas.{OnTrue-weaker}
use Rattle.sg_sets.specs.Words.{IsPacked}
use Rattle.sg_sets.proofs.WordsLemmas.{length-bits_of, length-packed, packed-joined, has-joined, missing_of-joined}
use Rattle.sg_sets.proofs.bit_set.BitSet.union.Goals as goal

pub join-requires : goal.join-requires
join-requires c =
    let widths = rw (← c.self.view_is, ← c.other.view_is, length-bits_of, length-bits_of) at c.requires in
    ap length c.deref_mut.ensures.value
    ∙ length-packed c.self.inside.width c.self.inside.words.items c.other.inside.words.items c.self.invariant (subst (λ w. IsPacked w c.other.inside.words.items) (sym widths) c.other.invariant)
    ∙ sym (ap length c.deref.ensures.value)

pub invariant_of-self : goal.invariant_of-self
invariant_of-self c =
    let widths = rw (← c.self.view_is, ← c.other.view_is, length-bits_of, length-bits_of) at c.requires in
    let joins = rw (c.deref_mut.ensures.value, c.deref.ensures.value) at c.join.ensures.joins in
    let long : length c.join.new.words ≡ length c.self.inside.words.items = c.join.auto.words ∙ ap length c.deref_mut.ensures.value in
    let whole : length c.join.new.words ≡ c.self.inside.words.len = c.join.auto.words ∙ c.deref_mut.ensures.len in
    rw (with_items_is c.self.inside.words c.join.new.words whole)
    (packed-joined c.self.inside.width c.self.inside.words.items c.other.inside.words.items c.join.new.words c.self.invariant (subst (λ w. IsPacked w c.other.inside.words.items) (sym widths) c.other.invariant) long joins)

pub returns-clause-joins : goal.returns-clause-joins
returns-clause-joins c =
    let widths = rw (← c.self.view_is, ← c.other.view_is, length-bits_of, length-bits_of) at c.requires in
    let joins = rw (c.deref_mut.ensures.value, c.deref.ensures.value) at c.join.ensures.joins in
    let long : length c.join.new.words ≡ length c.self.inside.words.items = c.join.auto.words ∙ ap length c.deref_mut.ensures.value in
    let whole : length c.join.new.words ≡ c.self.inside.words.len = c.join.auto.words ∙ c.deref_mut.ensures.len in
    let other = subst (λ w. IsPacked w c.other.inside.words.items) (sym widths) c.other.invariant in
    let packed = packed-joined c.self.inside.width c.self.inside.words.items c.other.inside.words.items c.join.new.words c.self.invariant other long joins in
    rw (← c.self.view_is, ← c.other.view_is, ← widths, with_items_is c.self.inside.words c.join.new.words whole)
    (has-joined c.self.inside.width c.self.inside.words.items c.other.inside.words.items c.join.new.words c.self.invariant other packed joins)

pub returns-clause-grows : goal.returns-clause-grows
returns-clause-grows c =
    let widths = rw (← c.self.view_is, ← c.other.view_is, length-bits_of, length-bits_of) at c.requires in
    let joins = rw (c.deref_mut.ensures.value, c.deref.ensures.value) at c.join.ensures.joins in
    let long : length c.join.new.words ≡ length c.self.inside.words.items = c.join.auto.words ∙ ap length c.deref_mut.ensures.value in
    let whole : length c.join.new.words ≡ c.self.inside.words.len = c.join.auto.words ∙ c.deref_mut.ensures.len in
    let other = subst (λ w. IsPacked w c.other.inside.words.items) (sym widths) c.other.invariant in
    let packed = packed-joined c.self.inside.width c.self.inside.words.items c.other.inside.words.items c.join.new.words c.self.invariant other long joins in
    let gained = rw (c.deref_mut.ensures.value, c.deref.ensures.value) at c.join.ensures.gained in
    rw (← c.self.view_is, with_items_is c.self.inside.words c.join.new.words whole)
    (OnTrue-weaker c.join.result _ _ (missing_of-joined c.self.inside.width c.self.inside.words.items c.other.inside.words.items c.join.new.words c.self.invariant other packed joins) gained)
