use Rattle.std.proofs.lemmas.Result.{err_from_is_err_and}
use Rattle.std.specs.Prelude.{Err}
use Rattle.sg_kinds.specs.Specification.{rules_of}
use Rattle.sg_eval.specs.Journal.{now_of}
use Rattle.sg_groves.proofs.Frames.{only_holds}
use Rattle.sg_attrib.specs.Visited.{HasEquation, IsNothing, IsSlotOf}
use Rattle.sg_attrib.proofs.Composed.{gives_err}
use Rattle.sg_attrib.proofs.Attributed.{is_right, is_solved, noted_all, only_inside}
use Rattle.sg_attrib.proofs.whole.attribute.Goals as goal

pub returns : goal.returns
returns c =
    let old = c.args.terms.now in
    let new = c.all_visits.new.terms in
    let was = now_of c.args.journal.now in
    let now = now_of c.all_visits.new.journal in
    let root = c.args.root in
    let top = c.requires.root in
    let gives = c.in_ok-all_visits.ensures.gives in
    record {
      term = λ t holds. only_holds old new (IsSlotOf (HasEquation (rules_of old.spec)) old root) gives.frame c.facts.ensures root t holds;
      right = is_right old new c.facts.ensures was now root top _ gives;
      solved = is_solved old new c.facts.ensures was now root top _ gives c.facts-2.ensures c.args.plans.now c.requires.valid (c.requires.inherits top.node top.found);
      noted = noted_all old new c.facts.ensures was now root top _ gives;
      frame = only_inside old new c.facts.ensures was now root top _ gives;
      total = c.in_ok-all_visits.ensures.total;
    }

pub returns-in_err-all_visits : goal.returns-in_err-all_visits
returns-in_err-all_visits c =
    let old = c.args.terms.now in
    let new = c.all_visits.new.terms in
    let was = now_of c.args.journal.now in
    let now = now_of c.all_visits.new.journal in
    let root = c.args.root in
    let top = c.requires.root in
    let p = err_from_is_err_and c.from_residual.result c.from_residual.ensures.1 in
    let gives = gives_err {A = Unit {0}} IsNothing (HasEquation (rules_of old.spec)) old new was now root c.in_err-all_visits.field-0.0 p.0 c.in_err-all_visits.ensures.gives in
    rw p.1
    (record {
      term = λ t holds. only_holds old new (IsSlotOf (HasEquation (rules_of old.spec)) old root) gives.frame c.facts.ensures root t holds;
      right = tt;
      solved = tt;
      noted = noted_all old new c.facts.ensures was now root top (Err p.0) gives;
      frame = only_inside old new c.facts.ensures was now root top (Err p.0) gives;
      total = c.in_err-all_visits.ensures.total;
    })
