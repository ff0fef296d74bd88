use Rattle.std.proofs.Common.{ℕ, ◌⊎◌, ◌∙◌, subst, arith}
use Rattle.std.specs.Prelude.{◌↔◌}
use Rattle.std.proofs.lemmas.Bool.{both_ways}
use Rattle.sg_sets.specs.Members.{Has}
use Rattle.sg_lalr.proofs.FirstLemmas.{begun-more, begun-same, begun-all}
use Rattle.sg_lalr.proofs.firsts.first_of.Goals as goal
use Rattle.sg_lalr.proofs.firsts.first_of.Goals.{then-has_front, else-has_front}

pub loop-d-preserved : goal.loop-d-preserved
loop-d-preserved c = elim c.if-has_front.branch [
  | then-has_front w ↦ rw w.set-is (
    w.union.ensures.width ∙ c.loop-d.invariant.0,
    begun-more c.args.nullable.now c.args.symbols.now c.args.rows.now.rows c.loop-d.d c.loop-d.set w.union.new.self c.loop-d-test.true (c.has_front.ensures.0 w.if-has_front.true)
        (subst (λ row. (u : ℕ) → Has w.union.new.self u ↔ (Has c.loop-d.set u ⊎ Has row u)) w.row.ensures.row w.union.ensures.joins) c.loop-d.invariant.1,
  )
  | else-has_front w ↦ rw w.set-is (c.loop-d.invariant.0, begun-same c.args.nullable.now c.args.symbols.now c.args.rows.now.rows c.loop-d.d c.loop-d.set (λ all. both_ways c.has_front.result w.if-has_front.false (c.has_front.ensures.1 all)) c.loop-d.invariant.1)
]

pub returns-clause-exact : goal.returns-clause-exact
returns-clause-exact c = begun-all c.args.nullable.now c.args.symbols.now c.args.rows.now.rows c.loop-d.d c.loop-d.set (omega arith) c.loop-d.invariant.1
