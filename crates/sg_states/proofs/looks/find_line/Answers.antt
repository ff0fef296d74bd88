use Rattle.std.specs.Prelude.{IfSome}
use Rattle.std.proofs.Common.{◌+◌, ◌≤◌, refl, ◌∙◌, subst}
use Rattle.sg_unparse.specs.declared.page.Beginning.{Beginning}
use Rattle.sg_states.specs.Beginnings.{Begins}
use Rattle.sg_states.proofs.Foretold.{line_is}
use Rattle.sg_states.proofs.Looking.{line_seen}
use Rattle.sg_states.proofs.looks.find_line.Goals as goal

pub returns-in-Some : goal.returns-in-Some
returns-in-Some c = λ t u whole way.
    let begins = subst (λ o. IfSome o (Begins c.args.terms.now.spec c.args.terms.now.view t u)) c.in-Some.is (c.in_ok-begins.ensures.begins t u whole way) in
    let few = subst (λ o. IfSome o (λ (b : Beginning). (b.cells ≤ 1048576) × (b.newlines ≤ 1048576))) c.in-Some.is c.in_ok-begins.ensures.few in
    record {
      line = line_is c.args.terms.now.spec c.args.terms.now.view t u c.in-Some.begins (c.in-Some.begins.newlines + 1) begins few.0 refl;
      page = tt;
      begins = begins;
    }

pub returns : goal.returns
returns c = λ t u whole way.
    let page = c.in_ok-page.ensures t whole in
    record {
      line = c.line_on-line.ensures ∙ line_seen c.args.terms.now c.facts.ensures c.args.root t whole u c.args.n c.in_ok-page.page way page;
      page = page;
      begins = c.begins_here-begins.ensures c.args.root t u whole way page;
    }
