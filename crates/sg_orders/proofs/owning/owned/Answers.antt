use Rattle.std.specs.Prelude.{◌+◌, [], ◌∷◌, ◌++◌, length}
use Rattle.std.proofs.Common.{sym, ap, ◌∙◌, subst, get_or, set, arith, length-set}
use Rattle.std.proofs.lemmas.List.{with_items_is}
use Rattle.sg_dependencies.proofs.Directs.{at_rule}
use Rattle.sg_orders.proofs.Owns.{OwnedTo, owned_more}
use Rattle.sg_orders.proofs.owning.owned.Goals as goal

pub push_at-requires : goal.push_at-requires
push_at-requires c =
    let r = at_rule c.args.rules.now c.as_slice-rule-items.result.now c.loop-place.place c.rule-item.result c.requires c.as_slice-rule-items.ensures c.loop-place-test.true c.rule-item.is in
    omega (arith, r.there, c.operator.ensures, c.loop-place.invariant.count, ap length c.as_mut_slice.ensures.value)

pub loop-place-preserved : goal.loop-place-preserved
loop-place-preserved c =
    let rules = c.args.rules.now in
    let owned = c.loop-place.owned.items in
    let i = c.loop-place.place in
    let r = at_rule rules c.as_slice-rule-items.result.now i c.rule-item.result c.requires c.as_slice-rule-items.ensures c.loop-place-test.true c.rule-item.is in
    let op = c.operator.result in
    let rows = c.in_ok-push_at.ensures ∙ ap (λ xs. set xs op (get_or xs op [] ++ c.rule_id.result ∷ [])) c.as_mut_slice.ensures.value ∙ ap (λ n. set owned op (get_or owned op [] ++ n ∷ [])) c.rule_id.ensures in
    let same = with_items_is c.loop-place.owned c.push_at.new.rows (ap length rows ∙ length-set owned op (get_or owned op [] ++ i ∷ []) ∙ sym (ap length c.as_mut_slice.ensures.value) ∙ c.as_mut_slice.ensures.len) in
    subst (λ xs. OwnedTo rules xs (i + 1)) (sym (same ∙ rows)) (owned_more rules owned i op c.rule-item.result c.loop-place.invariant r.low r.at c.operator.ensures (omega (arith, r.there, c.operator.ensures)))
