use Rattle.std.proofs.Common.{arith, ◌∙◌}
use Rattle.std.proofs.lemmas.Option.{slice_get_within}
use Rattle.sg_forest.proofs.Linked.{next_live, IsHung-more}
use Rattle.sg_forest.proofs.Slots.{contains_key, others_by_id}
use Rattle.sg_forest.proofs.nodes.link_kids.Goals as goal

pub set_up-requires-clause-live : goal.set_up-requires-clause-live
set_up-requires-clause-live g c =
    contains_key c.loop-k.nodes _ (next_live _ _ c.args.parent c.args.kids.now c.loop-k.k c.requires.distinct c.loop-k-test.true c.loop-k.invariant.hung c.requires.live)

pub loop-k-preserved : goal.loop-k-preserved
loop-k-preserved g c = record {
  hung = IsHung-more _ _ c.args.parent c.args.kids.now c.loop-k.k c.requires.distinct c.loop-k-test.true c.loop-k.invariant.hung _ c.set_up.ensures.written (others_by_id c.loop-k.nodes c.set_up.new.nodes _ c.set_up.ensures.others);
  vacant_key = c.set_up.ensures.vacant_key ∙ c.loop-k.invariant.vacant_key;
  capacity = c.set_up.ensures.capacity ∙ c.loop-k.invariant.capacity;
  len = c.set_up.ensures.len ∙ c.loop-k.invariant.len;
}

pub returns-clause-hung : goal.returns-clause-hung
returns-clause-hung g c = λ k kid x listed there.
    let within = slice_get_within c.args.kids.now k kid listed in
    c.loop-k.invariant.hung.hung k kid x (omega (arith, c.loop-k-test.false)) listed there
