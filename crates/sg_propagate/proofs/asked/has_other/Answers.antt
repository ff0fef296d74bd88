use Rattle.std.proofs.Common.{◌≡◌, ◌<◌, ℕ, List, length, get_or, sym, ap, ◌∙◌, subst, arith}
use Rattle.std.specs.Prelude.{Some, slice_get, Contains}
use Rattle.std.proofs.lemmas.Bool.{false≢true}
use Rattle.std.proofs.lemmas.List.{get_or_default}
use Rattle.std.proofs.lemmas.List.Elements.{Contains-get_or}
use Rattle.std.proofs.lemmas.Option.{same_Some, slice_get_within}
use Rattle.sg_kinds.specs.declared.spec.Occurrence.{Occurrence}
use Rattle.sg_kinds.specs.declared.spec.Rule.{Rule}
use Rattle.sg_kinds.specs.declared.spec.Spec.{Spec}
use Rattle.sg_attrib.proofs.Evaluated.{argument_vertex}
use Rattle.sg_propagate.proofs.Asking.{shows_none_all, shows_none_more, shows_none_yet}
use Rattle.sg_propagate.proofs.asked.has_other.Goals as goal

-- the equation that was read is that of the number
read_is : (spec s : Spec) (rs : List Rule) (i rule : ℕ) (r : Rule) → s ≡ spec → rs ≡ s.rules → i ≡ rule → slice_get rs i ≡ Some r → slice_get spec.rules rule ≡ Some r
read_is spec s rs i rule r same rows number found = ap (slice_get spec.rules) (sym number) ∙ ap (λ (xs : List Rule). slice_get xs i) (ap (λ (z : Spec). z.rules) (sym same) ∙ sym rows) ∙ found

-- and the number is that of a row
is_row : (spec s : Spec) (rs : List Rule) (i rule : ℕ) (r : Rule) → s ≡ spec → rs ≡ s.rules → i ≡ rule → slice_get spec.rules rule ≡ Some r → i < length rs
is_row spec s rs i rule r same rows number found =
    let low = slice_get_within spec.rules rule r found in
    let long = ap length (rows ∙ ap (λ (z : Spec). z.rules) same) in
    omega (arith, low, long, number)

abbrev nothing : Occurrence
nothing = record { at = 0; slot = 0 }

pub item-requires : goal.item-requires
item-requires c =
    let o = c.requires.operator in
    is_row c.args.terms.now.spec c.spec.result.now c.as_slice.result.now c.rule.inside.number c.args.rule o.0 c.spec.ensures c.as_slice.ensures c.rule.view_is o.1

pub shows_other-requires-clause-vertex : goal.shows_other-requires-clause-vertex
shows_other-requires-clause-vertex c =
    let here = c.args.terms.now in
    let r = c.item.result.now in
    let o = c.requires.operator in
    let read = read_is here.spec c.spec.result.now c.as_slice.result.now c.rule.inside.number c.args.rule r c.spec.ensures c.as_slice.ensures c.rule.view_is c.item.ensures in
    let same = same_Some o.0 r (sym o.1 ∙ read) in
    let arg = get_or c.as_slice-o-items.result.now c.loop-o.o-index nothing in
    let names = subst (λ (os : List Occurrence). Contains os arg) c.as_slice-o-items.ensures (Contains-get_or c.as_slice-o-items.result.now c.loop-o.o-index nothing c.loop-o-test.true) in
    (r.op, o.2 ∙ ap (λ (q : Rule). Some q.op) same, argument_vertex here c.facts.ensures c.args.rule r read arg names)

pub loop-o-init : goal.loop-o-init
loop-o-init c = λ r at. shows_none_yet c.args.terms.now c.args.top c.args.left c.args.n c.args.work.now r.args

pub loop-o-preserved : goal.loop-o-preserved
loop-o-preserved c = λ r at.
    let here = c.args.terms.now in
    let q = c.item.result.now in
    let read = read_is here.spec c.spec.result.now c.as_slice.result.now c.rule.inside.number c.args.rule q c.spec.ensures c.as_slice.ensures c.rule.view_is c.item.ensures in
    let os = c.as_slice-o-items.result.now in
    let is : c.as_slice-o-items.result.now ≡ r.args = c.as_slice-o-items.ensures ∙ ap (λ (z : Rule). z.args) (same_Some q r (sym read ∙ at)) in
    let i = c.loop-o.o-index in
    let o = get_or os i nothing in
    shows_none_more here c.args.top c.args.left c.args.n c.args.work.now r.args i o (subst (λ (xs : List Occurrence). i < length xs) is c.loop-o-test.true) (get_or_default os i nothing o c.loop-o-test.true ∙ ap (λ (xs : List Occurrence). get_or xs i o) is) (c.loop-o.invariant r at)
    (λ shows. false≢true (sym c.if-shows_other.false ∙ c.shows_other.ensures.1 shows))

pub returns : goal.returns
returns c = λ r at.
    let here = c.args.terms.now in
    let q = c.item.result.now in
    let read = read_is here.spec c.spec.result.now c.as_slice.result.now c.rule.inside.number c.args.rule q c.spec.ensures c.as_slice.ensures c.rule.view_is c.item.ensures in
    let is : c.as_slice-o-items.result.now ≡ r.args = c.as_slice-o-items.ensures ∙ ap (λ (z : Rule). z.args) (same_Some q r (sym read ∙ at)) in
    let long = ap length is in
    let past = c.loop-o-test.false in (
      λ yes. absurd (false≢true yes),
      λ has. absurd (shows_none_all here c.args.top c.args.left c.args.n c.args.work.now r.args c.loop-o.o-index (omega (arith, long, past)) (c.loop-o.invariant r at) has.0 has.1 has.2),
    )
