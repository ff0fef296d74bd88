use Rattle.std.proofs.Common.{◌≡◌, ◌<◌, ◌≤◌, ℕ, List, true, false, Some, length, get_or, sym, ap, subst, ◌∙◌}
use Rattle.std.specs.Prelude.{slice_get, is_some, nat_eq}
use Rattle.sg_kinds.specs.Evaluation.{bound_by}
use Rattle.sg_kinds.specs.ValueOf.{value_of}
use Rattle.sg_kinds.specs.Values.{Bytes}
use Rattle.sg_kinds.specs.declared.spec.Spec.{Spec}
use Rattle.sg_kinds.specs.declared.spec.Transform.{Transform}
use Rattle.sg_matching.proofs.FirstFound.{item_there}
use Rattle.sg_matching.proofs.NodeValues.{one_phylum}
use Rattle.sg_live.specs.Offers.{applies_to, names_for, names_of, with_name}
use Rattle.sg_live.proofs.OfferLemmas.{misses, misses_first, hits, names_stay, names_grow, names_whole}
use Rattle.sg_live.proofs.offers.names_at.Goals as goal

pub loop-k-preserved-then-not-stands_on : goal.loop-k-preserved-then-not-stands_on
loop-k-preserved-then-not-stands_on c = λ t holds.
    let spec = c.args.terms.now.spec in
    let x = c.x-item.result in
    let items = c.as_slice-x-items.ensures ∙ ap (λ (s : Spec). s.transforms) c.spec.ensures in
    let low = subst (λ (l : List Transform). c.loop-k.k < length l) items c.loop-k-test.true in
    let is = subst (λ (l : List Transform). x ≡ get_or l c.loop-k.k x) items c.x-item.is in
    names_stay (applies_to spec c.phylum-p.result (value_of t)) spec.transforms c.loop-k.k x (names_of c.loop-k.names.items) low is
    (misses_first (nat_eq x.phylum c.phylum-p.result) (is_some (bound_by spec x.pattern (value_of t))) (sym c.stands_on.ensures ∙ c.if-not-stands_on.true)) (c.loop-k.invariant t holds)

pub loop-k-preserved-then-not-matches : goal.loop-k-preserved-then-not-matches
loop-k-preserved-then-not-matches c = λ t holds.
    let spec = c.args.terms.now.spec in
    let x = c.x-item.result in
    let items = c.as_slice-x-items.ensures ∙ ap (λ (s : Spec). s.transforms) c.spec.ensures in
    let low = subst (λ (l : List Transform). c.loop-k.k < length l) items c.loop-k-test.true in
    let is = subst (λ (l : List Transform). x ≡ get_or l c.loop-k.k x) items c.x-item.is in
    let at : slice_get spec.transforms c.loop-k.k ≡ Some x = ap (λ (l : List Transform). slice_get l c.loop-k.k) (sym items) ∙ item_there c.as_slice-x-items.result.now c.loop-k.k x c.loop-k-test.true c.x-item.is in
    let other : is_some (bound_by spec x.pattern (value_of t)) ≡ false = sym (c.matches.ensures x t at holds) ∙ c.if-not-matches.true in
    names_stay (applies_to spec c.phylum-p.result (value_of t)) spec.transforms c.loop-k.k x (names_of c.loop-k.names.items) low is
    (misses (nat_eq x.phylum c.phylum-p.result) (is_some (bound_by spec x.pattern (value_of t))) other) (c.loop-k.invariant t holds)

pub loop-k-preserved : goal.loop-k-preserved
loop-k-preserved c = λ t holds.
    let spec = c.args.terms.now.spec in
    let x = c.x-item.result in
    let items = c.as_slice-x-items.ensures ∙ ap (λ (s : Spec). s.transforms) c.spec.ensures in
    let low = subst (λ (l : List Transform). c.loop-k.k < length l) items c.loop-k-test.true in
    let is = subst (λ (l : List Transform). x ≡ get_or l c.loop-k.k x) items c.x-item.is in
    let at : slice_get spec.transforms c.loop-k.k ≡ Some x = ap (λ (l : List Transform). slice_get l c.loop-k.k) (sym items) ∙ item_there c.as_slice-x-items.result.now c.loop-k.k x c.loop-k-test.true c.x-item.is in
    let matched : is_some (bound_by spec x.pattern (value_of t)) ≡ true = sym (c.matches.ensures x t at holds) ∙ c.if-not-matches.false in
    let stands : nat_eq x.phylum c.phylum-p.result ≡ true = sym c.stands_on.ensures ∙ c.if-not-stands_on.false in
    names_grow (applies_to spec c.phylum-p.result (value_of t)) spec.transforms c.loop-k.k x (names_of c.loop-k.names.items) (names_of c.add_name.new.names.items) low is
    (hits (nat_eq x.phylum c.phylum-p.result) (is_some (bound_by spec x.pattern (value_of t))) stands matched) (c.loop-k.invariant t holds)
    (c.in_ok-add_name.ensures ∙ ap (λ (n : Bytes). with_name (names_of c.loop-k.names.items) n) c.as_slice.ensures)

pub returns : goal.returns
returns c = λ p t holds fits.
    let spec = c.args.terms.now.spec in
    let items = c.as_slice-x-items.ensures ∙ ap (λ (s : Spec). s.transforms) c.spec.ensures in
    let past = subst (λ (l : List Transform). length l ≤ c.loop-k.k) items c.loop-k-test.false in
    names_whole spec c.phylum-p.result (value_of t) c.loop-k.k (names_of c.loop-k.names.items) past (c.loop-k.invariant t holds)
    ∙ ap (λ (q : ℕ). names_for spec q (value_of t)) (one_phylum spec t c.phylum-p.result p (c.phylum-p.ensures.term t holds) fits)
