use Rattle.std.proofs.Common.{◌∙◌, sym, arith, below_more, subst, [], ◌∷◌}
use Rattle.sg_lalr.specs.Least.{Grown}
use Rattle.std.proofs.lemmas.Bool.{false≢true}
use Rattle.sg_lalr.proofs.ProductiveLemmas.{productive-grown, grown-productive}
use Rattle.sg_lalr.proofs.productive.first_unproductive.Goals as goal

pub returns-then-not-contains-clause-some : goal.returns-then-not-contains-clause-some
returns-then-not-contains-clause-some c = record {
  within = omega arith;
  derives_none = λ h. false≢true (sym c.if-not-contains.true ∙ c.contains.ensures.1 ((c.in_ok-productive.ensures.exact c.loop-x.x).1 (subst (λ n. Grown c.args.g.now.rules n (c.loop-x.x ∷ [])) (sym c.terminals.ensures) (grown-productive c.args.g.now c.loop-x.x h))));
  first = c.loop-x.invariant;
}

pub loop-x-preserved : goal.loop-x-preserved
loop-x-preserved c = below_more _ _ c.loop-x.invariant (productive-grown c.args.g.now c.loop-x.x (subst (λ n. Grown c.args.g.now.rules n (c.loop-x.x ∷ [])) c.terminals.ensures ((c.in_ok-productive.ensures.exact c.loop-x.x).0 (c.contains.ensures.0 c.if-not-contains.false))))
