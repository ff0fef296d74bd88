use Rattle.std.specs.Prelude.{◌≡◌, ◌≤◌, IfSome}
use Rattle.std.proofs.Common.{subst}
use Rattle.sg_states.specs.Beginnings.{Begins, BeginsAlone, foretold}
use Rattle.sg_states.specs.Paged.{IsForetold}
use Rattle.sg_select.proofs.Fronts.{climber_live}
use Rattle.sg_states.proofs.Foretold.{begun_after, if_some}
use Rattle.sg_states.proofs.forecast.begins_after.Goals as goal

pub begins_alone-requires : goal.begins_alone-requires
begins_alone-requires c = let told = subst (λ o. IfSome o (IsForetold c.args.terms.now c.args.root)) c.in-Some.is c.requires in climber_live c.args.terms.now told.place c.in-Some.before.above c.args.root told.whole.top told.way

pub returns-in-Some-2-clause-begins : goal.returns-in-Some-2-clause-begins
returns-in-Some-2-clause-begins c = λ t u whole to.
    let b = c.in-Some.before in
    let told = subst (λ o. IfSome o (IsForetold c.args.terms.now c.args.root)) c.in-Some.is c.requires in
    if_some (λ r. (r ≡ foretold b c.in-Some-2.to) × (r.cells ≤ 1048576) × (r.newlines ≤ 1048576)) (Begins c.args.terms.now.spec c.args.terms.now.view t u) c.foretold.result
    (λ r h. begun_after c.args.terms.now c.facts.ensures c.args.root t whole b u c.args.n c.in-Some-2.to r told to
    (λ x p way at. subst (λ o. IfSome o (BeginsAlone c.args.terms.now.spec c.args.terms.now.view t p x u)) c.in-Some-2.is (c.in_ok-to.ensures c.args.root t x p u whole way to at)) h.0) c.foretold.ensures
