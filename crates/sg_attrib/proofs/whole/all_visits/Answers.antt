use Rattle.std.proofs.Common.{◌≡◌, ◌+◌, ◌≤◌, ◌∙◌, ℕ, false, List, refl, ap, sym, subst, arith}
use Rattle.std.proofs.lemmas.Result.{err_from_is_err_and}
use Rattle.std.specs.Prelude.{Ok, Err, Result}
use Rattle.sg_kinds.specs.Specification.{is_inherited, rules_of}
use Rattle.sg_kinds.specs.ValidPlans.{AreValid}
use Rattle.sg_kinds.specs.declared.spec.Spec.{Spec}
use Rattle.sg_kinds.specs.Visits.{visit_count}
use Rattle.sg_kinds.specs.declared.plans.Plans.{Plans}
use Rattle.sg_eval.specs.declared.journal.Instance.{Instance}
use Rattle.sg_eval.specs.Journal.{now_of}
use Rattle.sg_forest.specs.declared.node_id.NodeId.{NodeId}
use Rattle.sg_forest.specs.Trees.{IsRoot}
use Rattle.sg_groves.specs.declared.kind.Kind.{Kind}
use Rattle.sg_groves.specs.Grove.{Grove, nodes, IsGrove}
use Rattle.sg_dependencies.proofs.SoundRules.{sound_range}
use Rattle.sg_attrib.specs.Visited.{Gives, HasEquation, IsGiven, IsGivenUpTo, IsKnown, IsNothing}
use Rattle.sg_attrib.proofs.Attributed.{no_visits, next_visit, all_visits, some_visits, leaf_visits}
use Rattle.sg_attrib.proofs.Calls.{op_there, count_is}
use Rattle.sg_attrib.proofs.Composed.{gives_ok, gives_err}
use Rattle.sg_attrib.proofs.whole.all_visits.Goals as goal

pub visit_count-last-requires-clause-range : goal.visit_count-last-requires-clause-range
visit_count-last-requires-clause-range c =
    let is = c.facts.ensures in
    rw c.spec.ensures (sound_range c.args.terms.now.spec is.sound.counted is.sound.shapes is.sound.rules)

pub visit_count-last-requires-clause-valid : goal.visit_count-last-requires-clause-valid
visit_count-last-requires-clause-valid c = rw c.spec.ensures c.requires.valid

pub visit_count-last-requires-clause-there : goal.visit_count-last-requires-clause-there
visit_count-last-requires-clause-there c = rw c.spec.ensures (op_there c.args.terms.now c.facts.ensures c.args.root c.in-Some.op (sym c.in-Some.ensures.op))

pub returns-in_default-clause-gives : goal.returns-in_default-clause-gives
returns-in_default-clause-gives c =
    let old = c.args.terms.now in
    let was = now_of c.args.journal.now in
    leaf_visits old old c.facts.ensures c.args.plans.now c.requires.valid was was c.args.root c.requires.root tt (sym c.op.ensures.op ∙ c.in_default.is)
    (no_visits old old c.facts.ensures c.args.plans.now c.requires.valid was was c.args.root tt)

pub loop-k-init : goal.loop-k-init
loop-k-init c = record {
  gives = no_visits c.args.terms.now c.args.terms.now c.facts.ensures c.args.plans.now c.requires.valid (now_of c.args.journal.now) (now_of c.args.journal.now) c.args.root tt;
  total = refl;
}

pub visit-requires-clause-valid : goal.visit-requires-clause-valid
visit-requires-clause-valid c = subst (λ (sp : Spec). AreValid (rules_of sp) c.args.plans.now) (sym c.loop-k.invariant.gives.frame.spec) c.requires.valid

pub visit-requires-clause-same : goal.visit-requires-clause-same
visit-requires-clause-same c = c.requires.same ∙ sym c.loop-k.invariant.gives.frame.spec

pub visit-requires-clause-live : goal.visit-requires-clause-live
visit-requires-clause-live c =
    let top = c.requires.root in
    let now = c.loop-k.invariant.gives.frame.shape.kept c.args.root top.node top.found in
    record { node = now.0; found = now.1 }

pub visit-requires-clause-high : goal.visit-requires-clause-high
visit-requires-clause-high c = λ x found.
    let old = c.args.terms.now in
    let top = c.requires.root in
    let at = sym c.op.ensures.op ∙ c.in-Some.is in
    let count = count_is old c.facts.ensures c.args.plans.now c.args.root c.in-Some.op c.visit_count-last.result at (rw c.spec.ensures at c.visit_count-last.ensures) top.node top.found in
    let now = c.loop-k.invariant.gives.frame.shape.kept c.args.root top.node top.found in
    let same : x ≡ now.0 = cc (found, now.1) in
    let phylum : x.label.phylum ≡ top.node.label.phylum = ap (λ z. z.label.phylum) same ∙ ap (λ (l : Kind). l.phylum) now.2 in
    let low = c.loop-k-test.true in
    let long = count.1 in
    subst (λ X. c.loop-k.k + 1 ≤ visit_count c.args.plans.now X) (sym phylum) (omega (arith, low, long))

-- after one visit more
visited_more : {A E : Type 0} (old mid new : Grove) → IsGrove old → IsGrove mid → (plans : Plans) → AreValid (rules_of old.spec) plans → (was between now : List Instance) (root : NodeId) (top : IsRoot (nodes old) root)
    → ((slot : ℕ) → is_inherited old.spec.phyla top.node.label.phylum slot ≡ false) → (k : ℕ) → Gives {A = Unit {0}} {E = Unit {0}} IsNothing (IsGivenUpTo (rules_of old.spec) plans k) old mid was between root (Ok tt) → (r : Result A E)
    → Gives (IsKnown (rules_of mid.spec) plans k) (IsGiven (rules_of mid.spec) plans k) mid new between now root r → Gives IsNothing (IsGivenUpTo (rules_of old.spec) plans (k + 1)) old new was now root r
visited_more old mid new is_old is_mid plans valid was between now root top none k first r second = next_visit old mid new is_old is_mid plans valid was between now root top none k tt r first second

pub returns-in_err-visit-clause-gives : goal.returns-in_err-visit-clause-gives
returns-in_err-visit-clause-gives c =
    let old = c.args.terms.now in
    let new = c.visit.new.terms in
    let plans = c.args.plans.now in
    let top = c.requires.root in
    let e = c.in_err-visit.ensures in
    let p = err_from_is_err_and c.from_residual.result c.from_residual.ensures.1 in
    rw p.1
    (gives_err IsNothing (HasEquation (rules_of old.spec)) old new (now_of c.args.journal.now) (now_of c.visit.new.journal) c.args.root (tt {0}) p.0
    (some_visits old new c.facts.ensures plans c.requires.valid (now_of c.args.journal.now) (now_of c.visit.new.journal) c.args.root {A = Unit {0}} {E = Unit {0}} (c.loop-k.k + 1 + 1) (tt {0})
    (visited_more {A = Unit {0}} {E = Unit {0}} old c.loop-k.terms new c.facts.ensures c.facts-in-loop-k.ensures plans c.requires.valid (now_of c.args.journal.now) (now_of c.loop-k.journal) (now_of c.visit.new.journal) c.args.root top (c.requires.inherits top.node top.found) (c.loop-k.k + 1)
    c.loop-k.invariant.gives (Err (tt {0})) (record { values = e.values; frame = e.frame; noted = e.noted }))))

pub loop-k-preserved : goal.loop-k-preserved
loop-k-preserved c =
    let old = c.args.terms.now in
    let new = c.visit.new.terms in
    let plans = c.args.plans.now in
    let top = c.requires.root in
    let e = c.in_ok-visit.ensures in
    record {
      gives = visited_more {A = Unit {0}} {E = Unit {0}} old c.loop-k.terms new c.facts.ensures c.facts-in-loop-k.ensures plans c.requires.valid (now_of c.args.journal.now) (now_of c.loop-k.journal) (now_of c.visit.new.journal) c.args.root top (c.requires.inherits top.node top.found) (c.loop-k.k + 1)
          c.loop-k.invariant.gives (Ok (tt {0})) (record { values = e.values; frame = e.frame; noted = e.noted });
      total = e.total ∙ c.loop-k.invariant.total;
    }

pub returns-clause-gives : goal.returns-clause-gives
returns-clause-gives c =
    let old = c.args.terms.now in
    let new = c.loop-k.terms in
    let plans = c.args.plans.now in
    let top = c.requires.root in
    let at = sym c.op.ensures.op ∙ c.in-Some.is in
    let last = c.visit_count-last.result in
    let count = count_is old c.facts.ensures plans c.args.root c.in-Some.op last at (rw c.spec.ensures at c.visit_count-last.ensures) top.node top.found in
    let past = c.loop-k-test.false in
    let end = c.loop-k.auto.k-end in
    let same : c.loop-k.k ≡ last = omega (arith, past, end) in
    all_visits old new c.facts.ensures plans c.requires.valid (now_of c.args.journal.now) (now_of c.loop-k.journal) c.args.root top c.in-Some.op last top.node.label.phylum tt at count.0 count.1
    (subst (λ k. Gives IsNothing (IsGivenUpTo (rules_of old.spec) plans (k + 1)) old new (now_of c.args.journal.now) (now_of c.loop-k.journal) c.args.root (Ok tt)) same
    (gives_ok IsNothing (IsGivenUpTo (rules_of old.spec) plans (c.loop-k.k + 1)) old new (now_of c.args.journal.now) (now_of c.loop-k.journal) c.args.root tt tt c.loop-k.invariant.gives))
