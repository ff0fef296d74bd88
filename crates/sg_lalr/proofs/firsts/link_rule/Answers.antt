use Rattle.std.proofs.Common.{◌≡◌, ◌+◌, sym, ap, subst, arith, length, take}
use Rattle.std.proofs.lemmas.Bool.{both_ways}
use Rattle.std.specs.Prelude.{All}
use Rattle.sg_sets.specs.Members.{Has}
use Rattle.sg_lalr.specs.Firsts.{StandsBelow}
use Rattle.sg_lalr.proofs.FirstLemmas.{Linking, linking-more, linking-same, linking-all}
use Rattle.sg_lalr.proofs.firsts.link_rule.Goals as goal
use Rattle.sg_lalr.proofs.firsts.link_rule.Goals.{then-has_front+in_ok-push, else-has_front}

pub loop-d-preserved : goal.loop-d-preserved
loop-d-preserved c =
    let set = c.args.nullable.now in
    let r = c.args.rule.now in
    let n = c.loop-d.d in
    let right : c.as_slice-right.result.now ≡ r.right = c.as_slice-right.ensures in
    let test = c.has_front.ensures in
    elim c.if-has_front.branch [
      | then-has_front+in_ok-push w ↦ rw w.links-is (
          let items = w.in_ok-push.ensures.items in
          subst (λ ls. Linking c.args.links.now.items ls r.left (StandsBelow set r.right (n + 1))) (sym (rw right at items))
          (linking-more set r.right n r.left c.args.links.now.items c.loop-d.links.items (omega (arith, ap length right)) (rw right at (test.0 w.if-has_front.true)) c.loop-d.invariant)
          )
      | else-has_front w ↦ rw w.links-is (linking-same set r.right n r.left c.args.links.now.items c.loop-d.links.items (λ all. both_ways c.has_front.result w.if-has_front.false (test.1 (subst (λ l. All (Has set) (take n l)) (sym right) all))) c.loop-d.invariant)
    ]

pub returns : goal.returns
returns c =
    let r = c.args.rule.now in
    let right : c.as_slice-right.result.now ≡ r.right = c.as_slice-right.ensures in
    linking-all c.args.nullable.now r.right c.loop-d.d r.left c.args.links.now.items c.loop-d.links.items (omega (arith, ap length right)) c.loop-d.invariant
