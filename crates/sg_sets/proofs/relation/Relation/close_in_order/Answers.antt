use Rattle.std.proofs.Common.{◌≡◌, inl, inr, sym, subst, arith}
use Rattle.std.proofs.lemmas.Bool.{cases_lt}
use Rattle.sg_sets.specs.Members.{Has}
use Rattle.sg_sets.proofs.ClosingLemmas.{closing-none, closing-then, closed-all}
use Rattle.sg_sets.proofs.relation.Relation.close_in_order.Goals as goal

pub loop-a-init : goal.loop-a-init
loop-a-init c = rw (c.in_ok-done.ensures, c.in_ok-passed.ensures) (closing-none c.args.self.now c.size.result c.size-2.result c.size.ensures c.size-2.ensures)

pub loop-a-preserved : goal.loop-a-preserved
loop-a-preserved c =
    let e = c.reach.ensures in
    closing-then c.args.self.now c.loop-a.self c.reach.new.self c.loop-a.done c.reach.new.done c.loop-a.passed c.reach.new.passed c.loop-a.invariant
    (record { size = e.size; contains = e.contains; least = e.least }) e.closed e.flags e.width

pub loop-a-2-preserved : goal.loop-a-2-preserved
loop-a-2-preserved c =
    let e = c.reach-in-loop-a-2.ensures in
    let l = c.loop-a-2 in
    let new = c.reach-in-loop-a-2.new in
    record {
      closing = closing-then c.args.self.now l.self new.self l.done new.done l.passed new.passed l.invariant.closing
          (record { size = e.size; contains = e.contains; least = e.least }) e.closed e.flags e.width;
      all = λ x below. elim (cases_lt x l.a) [
        | inl low ↦ e.keeps x (l.invariant.all x low)
        | inr high ↦ let at : x ≡ l.a = omega (arith, below, high) in subst (Has new.done) (sym at) e.done
      ];
    }

pub returns-clause-transitive : goal.returns-clause-transitive
returns-clause-transitive c =
    let l = c.loop-a-2 in
    let size = l.invariant.closing.extends.size in
    let before = c.loop-a.invariant.extends.size in
    closed-all l.done l.self l.invariant.closing.closed (λ a low. l.invariant.all a (omega (arith, low, size, before, c.size-a-end.ensures, c.loop-a-2-test.false)))
