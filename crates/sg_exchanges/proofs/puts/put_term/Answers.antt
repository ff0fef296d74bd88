use Rattle.std.specs.Prelude.{IfSome}
use Rattle.std.proofs.Common.{sym, ◌∙◌, subst}
use Rattle.sg_kinds.specs.declared.spec.Spec.{Spec}
use Rattle.sg_eval.specs.Journal.{now_of}
use Rattle.sg_kinds.specs.Places.{place_of}
use Rattle.sg_forest.specs.Trees.{Climbs}
use Rattle.sg_groves.specs.Grove.{nodes}
use Rattle.sg_groves.specs.TermAt.{term_at}
use Rattle.sg_groves.proofs.Ways.{one_way}
use Rattle.sg_propagate.specs.Exchanged.{Reaches}
use Rattle.sg_select.proofs.Fronts.{climber_live}
use Rattle.sg_exchanges.specs.Known.{WillTell}
use Rattle.sg_exchanges.proofs.Placing.{as_was, built_root, may_turn, put_notes, put_notes_some, put_now}
use Rattle.sg_exchanges.proofs.Turning.{noted_already}
use Rattle.sg_exchanges.proofs.puts.put_term.Goals as goal

pub exchanged-requires-clause-may : goal.exchanged-requires-clause-may
exchanged-requires-clause-may c =
    let m = c.requires.may in
    let e = c.in-Ok.ensures in
    (m.0, m.1, may_turn c.args.terms.now c.build.new.terms c.facts.ensures c.facts-2.ensures c.args.root c.args.at c.in-Ok.built e.grew m.0 m.1 c.args.t.now m.2 e.terms e.held)

pub drop_tree-requires : goal.drop_tree-requires
drop_tree-requires c = built_root c.args.terms.now c.build.new.terms c.exchanged.new.terms c.exchanged.new.terms c.facts.ensures c.in-Ok.built c.in-Ok.ensures.grew c.in-Err.ensures.as_before

pub returns-in-Err-clause-some : goal.returns-in-Err-clause-some
returns-in-Err-clause-some c = λ whole u may.
    let e = c.in-Ok.ensures in
    let turns = may_turn c.args.terms.now c.build.new.terms c.facts.ensures c.facts-2.ensures c.args.root c.args.at c.in-Ok.built e.grew whole u c.args.t.now may e.terms e.held in
    put_notes_some c.args.terms.now c.build.new.terms c.facts.ensures c.facts-2.ensures c.args.root c.args.at c.in-Ok.built e.grew whole u c.args.t.now may e.terms e.held
    (now_of c.args.journal.now) (now_of c.exchanged.new.journal) (c.in-Err.ensures.some whole u turns)

pub returns-in-Err-clause-as_before : goal.returns-in-Err-clause-as_before
returns-in-Err-clause-as_before c = as_was c.args.terms.now c.build.new.terms c.exchanged.new.terms c.drop_tree.new.self c.facts.ensures c.in-Ok.built c.in-Ok.ensures.grew c.in-Err.ensures.as_before c.drop_tree.ensures.dropped

pub look_after-requires-clause-root : goal.look_after-requires-clause-root
look_after-requires-clause-root c =
    let m = c.requires.may in
    let e = c.in-Ok.ensures in
    (c.in-Ok-exchanged.ensures.turned m.0 m.1 (may_turn c.args.terms.now c.build.new.terms c.facts.ensures c.facts-2.ensures c.args.root c.args.at c.in-Ok.built e.grew m.0 m.1 c.args.t.now m.2 e.terms e.held)).whole.top

pub returns-in-Ok-look_after-clause-put : goal.returns-in-Ok-look_after-clause-put
returns-in-Ok-look_after-clause-put c = λ whole u may.
    let e = c.in-Ok.ensures in
    let turns = may_turn c.args.terms.now c.build.new.terms c.facts.ensures c.facts-2.ensures c.args.root c.args.at c.in-Ok.built e.grew whole u c.args.t.now may e.terms e.held in
    put_now c.args.terms.now c.build.new.terms c.facts.ensures c.facts-2.ensures c.args.root c.args.at c.in-Ok.built e.grew whole u c.args.t.now may e.terms e.held
    c.exchanged.new.terms c.in-Ok-exchanged.ensures.spec c.in-Ok-exchanged.ensures.view c.args.height c.args.select.now c.args.top (record { root = c.in-Ok-exchanged.done.root; look = c.in-Ok-look_after.look }) (c.in-Ok-exchanged.ensures.turned whole u turns) c.in-Ok-look_after.ensures

pub returns-in-Ok-look_after-clause-noted : goal.returns-in-Ok-look_after-clause-noted
returns-in-Ok-look_after-clause-noted c = λ whole u may.
    let e = c.in-Ok.ensures in
    let turns = may_turn c.args.terms.now c.build.new.terms c.facts.ensures c.facts-2.ensures c.args.root c.args.at c.in-Ok.built e.grew whole u c.args.t.now may e.terms e.held in
    put_notes c.args.terms.now c.build.new.terms c.facts.ensures c.facts-2.ensures c.args.root c.args.at c.in-Ok.built e.grew whole u c.args.t.now may e.terms e.held
    c.exchanged.new.terms c.in-Ok-exchanged.done.root (now_of c.args.journal.now) (now_of c.exchanged.new.journal) (c.in-Ok-exchanged.ensures.noted whole u turns)

pub drop_tree-requires-in-Err-look_after : goal.drop_tree-requires-in-Err-look_after
drop_tree-requires-in-Err-look_after c =
    built_root c.args.terms.now c.build.new.terms c.back.new.terms c.back.new.terms c.facts.ensures c.in-Ok.built c.in-Ok.ensures.grew (c.back.ensures.nodes c.build.new.terms c.in-Ok-exchanged.ensures.leads_back)

pub returns-in-Err-look_after-clause-some : goal.returns-in-Err-look_after-clause-some
returns-in-Err-look_after-clause-some c = λ whole u may.
    let e = c.in-Ok.ensures in
    let turns = may_turn c.args.terms.now c.build.new.terms c.facts.ensures c.facts-2.ensures c.args.root c.args.at c.in-Ok.built e.grew whole u c.args.t.now may e.terms e.held in
    put_notes_some c.args.terms.now c.build.new.terms c.facts.ensures c.facts-2.ensures c.args.root c.args.at c.in-Ok.built e.grew whole u c.args.t.now may e.terms e.held
    (now_of c.args.journal.now) (now_of c.exchanged.new.journal)
    (noted_already c.build.new.terms c.exchanged.new.terms c.facts-3.ensures c.args.root c.in-Ok-exchanged.done.root whole u c.in-Ok.built (now_of c.args.journal.now) (now_of c.exchanged.new.journal) c.in-Ok-exchanged.ensures.spec
    (c.in-Ok-exchanged.ensures.turned whole u turns).whole.holds (c.in-Ok-exchanged.ensures.tree whole u turns) (c.in-Ok-exchanged.ensures.noted whole u turns))

pub returns-in-Err-look_after-clause-as_before : goal.returns-in-Err-look_after-clause-as_before
returns-in-Err-look_after-clause-as_before c =
    as_was c.args.terms.now c.build.new.terms c.back.new.terms c.drop_tree-in-Err-look_after.new.self c.facts.ensures c.in-Ok.built c.in-Ok.ensures.grew (c.back.ensures.nodes c.build.new.terms c.in-Ok-exchanged.ensures.leads_back) c.drop_tree-in-Err-look_after.ensures.dropped

pub forecast_before-requires-clause-live : goal.forecast_before-requires-clause-live
forecast_before-requires-clause-live c = let m = c.requires.may in climber_live c.args.terms.now m.1 c.args.at c.args.root m.2.whole.top m.2.way

pub forecast_after-before-requires : goal.forecast_after-before-requires
forecast_after-before-requires c =
    let m = c.requires.may in
    let e = c.in-Ok.ensures in
    let turns = may_turn c.args.terms.now c.build.new.terms c.facts.ensures c.facts-2.ensures c.args.root c.args.at c.in-Ok.built e.grew m.0 m.1 c.args.t.now m.2 e.terms e.held in
    climber_live c.exchanged.new.terms m.1 c.in-Ok.built c.in-Ok-exchanged.done.root (c.in-Ok-exchanged.ensures.turned m.0 m.1 turns).whole.top (c.in-Ok-exchanged.ensures.reach m.0 m.1 turns).way

pub look_after-requires-clause-near : goal.look_after-requires-clause-near
look_after-requires-clause-near c =
    let m = c.requires.may in
    let e = c.in-Ok.ensures in
    let new = c.exchanged.new.terms in
    let root = c.in-Ok-exchanged.done.root in
    let top = m.2.whole.top in
    let turns = may_turn c.args.terms.now c.build.new.terms c.facts.ensures c.facts-2.ensures c.args.root c.args.at c.in-Ok.built e.grew m.0 m.1 c.args.t.now m.2 e.terms e.held in
    let same = (one_way c.args.terms.now c.facts.ensures (place_of c.args.way.now) m.1 c.args.at c.args.root c.args.root top top c.requires.way m.2.way).0 in
    subst (λ p. Climbs (nodes new) (place_of p) c.in-Ok.built root) (sym c.as_slice-place.ensures)
    (subst (λ u. Climbs (nodes new) u c.in-Ok.built root) (sym same) (c.in-Ok-exchanged.ensures.reach m.0 m.1 turns).way)

pub look_after-requires-clause-before : goal.look_after-requires-clause-before
look_after-requires-clause-before c =
    let m = c.requires.may in
    let e = c.in-Ok.ensures in
    let mid = c.build.new.terms in
    let new = c.exchanged.new.terms in
    let x = c.in-Ok-exchanged.ensures in
    let turns = may_turn c.args.terms.now mid c.facts.ensures c.facts-2.ensures c.args.root c.args.at c.in-Ok.built e.grew m.0 m.1 c.args.t.now m.2 e.terms e.held in
    let reach = x.reach m.0 m.1 turns in
    let tells = c.in_ok-before.ensures m.0 m.1 m.2.whole m.2.way in
    c.forecast_after-before.ensures m.0 (term_at mid c.in-Ok.built) m.1 (x.turned m.0 m.1 turns).whole reach.way
    (subst (λ (z : Spec). Reaches z new c.in-Ok-exchanged.done.root m.0 m.1 (term_at mid c.in-Ok.built) c.in-Ok-exchanged.done.reach) (sym x.spec) reach.reaches)
    (subst (λ v. IfSome c.in_ok-before.before (WillTell new.spec v m.0 m.1)) (sym (x.view ∙ e.grew.view))
    (subst (λ (z : Spec). IfSome c.in_ok-before.before (WillTell z c.args.terms.now.view m.0 m.1)) (sym (x.spec ∙ e.grew.spec)) tells))
