use Rattle.std.proofs.Common.{◌∙◌, sym, ap, subst, length, arith}
use Rattle.sg_sets.specs.Words.{IsPacked}
use Rattle.sg_sets.proofs.OptionLemmas.{IfNone-weaker, IfSome-weaker}
use Rattle.sg_sets.proofs.WordsLemmas.{length-bits_of, length-packed, Shared-bits_of, SharedBit-bits_of}
use Rattle.sg_sets.proofs.bit_set.BitSet.first_shared.Goals as goal

pub first_shared-requires-clause-same : goal.first_shared-requires-clause-same
first_shared-requires-clause-same c =
    let widths = rw (← c.self.view_is, ← c.other.view_is, length-bits_of, length-bits_of) at c.requires in
    ap length c.deref.ensures.value
    ∙ length-packed c.self.inside.width c.self.inside.words.items c.other.inside.words.items c.self.invariant (subst (λ w. IsPacked w c.other.inside.words.items) (sym widths) c.other.invariant)
    ∙ sym (ap length c.deref-2.ensures.value)

pub first_shared-requires-clause-fits : goal.first_shared-requires-clause-fits
first_shared-requires-clause-fits c =
    let l = ap length c.deref.ensures.value in let t = c.self.invariant.tight in let s = c.self.invariant.small in omega (arith, l, t, s)

pub returns-clause-none : goal.returns-clause-none
returns-clause-none c =
    let widths = rw (← c.self.view_is, ← c.other.view_is, length-bits_of, length-bits_of) at c.requires in
    let none = rw (c.deref.ensures.value, c.deref-2.ensures.value) at c.first_shared.ensures.none in
    rw (← c.self.view_is, ← c.other.view_is, ← widths)
    (IfNone-weaker c.first_shared.result _ _ (λ h a s. h a (SharedBit-bits_of c.self.inside.width c.self.inside.words.items c.other.inside.words.items a c.self.invariant (subst (λ w. IsPacked w c.other.inside.words.items) (sym widths) c.other.invariant) s)) none)

pub returns-clause-shared : goal.returns-clause-shared
returns-clause-shared c =
    let widths = rw (← c.self.view_is, ← c.other.view_is, length-bits_of, length-bits_of) at c.requires in
    let shared = rw (c.deref.ensures.value, c.deref-2.ensures.value) at c.first_shared.ensures.shared in
    rw (← c.self.view_is, ← c.other.view_is, ← widths)
    (IfSome-weaker c.first_shared.result _ _ (λ a s. Shared-bits_of c.self.inside.width c.self.inside.words.items c.other.inside.words.items a c.self.invariant (subst (λ w. IsPacked w c.other.inside.words.items) (sym widths) c.other.invariant) s) shared)

pub returns-clause-least : goal.returns-clause-least
returns-clause-least c =
    let widths = rw (← c.self.view_is, ← c.other.view_is, length-bits_of, length-bits_of) at c.requires in
    let least = rw (c.deref.ensures.value, c.deref-2.ensures.value) at c.first_shared.ensures.least in
    rw (← c.self.view_is, ← c.other.view_is, ← widths)
    (IfSome-weaker c.first_shared.result _ _ (λ m h a s. h a (SharedBit-bits_of c.self.inside.width c.self.inside.words.items c.other.inside.words.items a c.self.invariant (subst (λ w. IsPacked w c.other.inside.words.items) (sym widths) c.other.invariant) s)) least)
