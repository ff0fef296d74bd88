use Rattle.std.proofs.Common.{◌∙◌, sym, ap, subst, length, arith}
use Rattle.sg_sets.specs.Words.{IsPacked}
use Rattle.sg_sets.proofs.OptionLemmas.{IfNone-weaker, IfSome-weaker}
use Rattle.sg_sets.proofs.OutsideLemmas.{Outside-bits_of, OutsideBit-bits_of}
use Rattle.sg_sets.proofs.WordsLemmas.{length-bits_of, length-packed}
use Rattle.sg_sets.proofs.bit_set.BitSet.first_outside.Goals as goal

pub first_outside-requires-clause-same : goal.first_outside-requires-clause-same
first_outside-requires-clause-same c =
    let widths = rw (← c.self.view_is, ← c.other.view_is, length-bits_of, length-bits_of) at c.requires in
    ap length c.deref.ensures.value
    ∙ length-packed c.self.inside.width c.self.inside.words.items c.other.inside.words.items c.self.invariant (subst (λ w. IsPacked w c.other.inside.words.items) (sym widths) c.other.invariant)
    ∙ sym (ap length c.deref-2.ensures.value)

pub first_outside-requires-clause-fits : goal.first_outside-requires-clause-fits
first_outside-requires-clause-fits c =
    let l = ap length c.deref.ensures.value in let t = c.self.invariant.tight in let s = c.self.invariant.small in omega (arith, l, t, s)

pub returns-clause-none : goal.returns-clause-none
returns-clause-none c =
    let widths = rw (← c.self.view_is, ← c.other.view_is, length-bits_of, length-bits_of) at c.requires in
    let none = rw (c.deref.ensures.value, c.deref-2.ensures.value) at c.first_outside.ensures.none in
    rw (← c.self.view_is, ← c.other.view_is, ← widths)
    (IfNone-weaker c.first_outside.result _ _ (λ h a s. h a (OutsideBit-bits_of c.self.inside.width c.self.inside.words.items c.other.inside.words.items a c.self.invariant (subst (λ w. IsPacked w c.other.inside.words.items) (sym widths) c.other.invariant) s)) none)

pub returns-clause-outside : goal.returns-clause-outside
returns-clause-outside c =
    let widths = rw (← c.self.view_is, ← c.other.view_is, length-bits_of, length-bits_of) at c.requires in
    let outside = rw (c.deref.ensures.value, c.deref-2.ensures.value) at c.first_outside.ensures.outside in
    rw (← c.self.view_is, ← c.other.view_is, ← widths)
    (IfSome-weaker c.first_outside.result _ _ (λ a s. Outside-bits_of c.self.inside.width c.self.inside.words.items c.other.inside.words.items a c.self.invariant (subst (λ w. IsPacked w c.other.inside.words.items) (sym widths) c.other.invariant) s) outside)

pub returns-clause-least : goal.returns-clause-least
returns-clause-least c =
    let widths = rw (← c.self.view_is, ← c.other.view_is, length-bits_of, length-bits_of) at c.requires in
    let least = rw (c.deref.ensures.value, c.deref-2.ensures.value) at c.first_outside.ensures.least in
    rw (← c.self.view_is, ← c.other.view_is, ← widths)
    (IfSome-weaker c.first_outside.result _ _ (λ m h a s. h a (OutsideBit-bits_of c.self.inside.width c.self.inside.words.items c.other.inside.words.items a c.self.invariant (subst (λ w. IsPacked w c.other.inside.words.items) (sym widths) c.other.invariant) s)) least)
