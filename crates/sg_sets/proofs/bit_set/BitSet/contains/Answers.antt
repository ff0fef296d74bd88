use Rattle.std.proofs.Common.{◌≡◌, ◌≤◌, ◌<◌, ◌/◌, ◌∙◌, sym, length, arith, rules}
use Rattle.std.proofs.lemmas.Bool.{false≢true}
use Rattle.std.specs.Prelude.{nat_lt, false}
use Rattle.sg_sets.proofs.WordsLemmas.{has-packed, length-bits_of, bit-test}
use Rattle.sg_sets.proofs.MembersLemmas.{has-past}
use Rattle.sg_sets.proofs.bit_set.BitSet.contains.Goals as goal

pub returns-then-a-self : goal.returns-then-a-self
returns-then-a-self c =
    let within : c.args.a / 64 < length c.self.inside.words.items = omega (arith, c.self.invariant.room) in
    let test = bit-test c.self.inside.words.items c.args.a c.index.result.now within c.index.ensures in
    let flag = has-packed c.self.inside.width c.self.inside.words.items c.args.a c.self.invariant in
    rw (← c.self.view_is) (λ t. flag ∙ sym test ∙ t, λ h. test ∙ sym flag ∙ h)

pub returns-else-a-self : goal.returns-else-a-self
returns-else-a-self c =
    let past : length c.args.self.now ≤ c.args.a = rw (← c.self.view_is, length-bits_of) (omega arith) in
    let out = has-past c.args.self.now c.args.a past in
    let under : nat_lt c.args.a c.self.inside.width ≡ false = search rules in
    (λ t. absurd (false≢true (sym under ∙ t)), λ h. absurd (false≢true (sym out ∙ h)))
