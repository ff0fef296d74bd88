use Rattle.std.proofs.Common.{sym, ◌∙◌, arith}
use Rattle.std.specs.BTreeMap.{is_at}
use Rattle.std.proofs.lemmas.Cmp.{eq_by_cmp_equiv}
use Rattle.sg_counts.proofs.Clashing.{found_here, goes_on, forms_more, settled_on}
use Rattle.sg_counts.proofs.duplicates.first_clash.Goals as goal

pub returns-then-is_clash : goal.returns-then-is_clash
returns-then-is_clash g c =
    let d = c.index-definitions-place.result in
    found_here (λ (a b : g.row.K.Denot). is_at (g.K.Ord.cmp a) b) c.args.definitions.now c.loop-place.place d c.in_ok-before.before (omega arith) c.index-definitions-place.is
    c.loop-place.invariant.settled (sym (c.in_ok-before.ensures.old ∙ c.loop-place.invariant.forms d.key)) c.loop-place.invariant.so_far (sym c.is_clash.ensures ∙ c.if-is_clash.true)

pub loop-place-preserved : goal.loop-place-preserved
loop-place-preserved g c =
    let d = c.index-definitions-place.result in
    let ds = c.args.definitions.now in
    let i = c.loop-place.place in
    record {
      forms = λ q. forms_more (λ (a b : g.row.K.Denot). is_at (g.K.Ord.cmp a) b) ds i d q _ _ (omega arith) c.index-definitions-place.is (c.loop-place.invariant.forms q) (c.in_ok-before.ensures.updates.0 q);
      settled = settled_on (λ (a b : g.row.K.Denot). is_at (g.K.Ord.cmp a) b) (eq_by_cmp_equiv g.met.K.Ord.total) ds i d c.in_ok-before.before (omega arith) c.index-definitions-place.is c.loop-place.invariant.settled (sym (c.in_ok-before.ensures.old ∙ c.loop-place.invariant.forms d.key)) (sym c.is_clash.ensures ∙ c.if-is_clash.false);
      so_far = goes_on (λ (a b : g.row.K.Denot). is_at (g.K.Ord.cmp a) b) ds i d c.in_ok-before.before (omega arith) c.index-definitions-place.is c.loop-place.invariant.settled (sym (c.in_ok-before.ensures.old ∙ c.loop-place.invariant.forms d.key)) c.loop-place.invariant.so_far (sym c.is_clash.ensures ∙ c.if-is_clash.false);
    }
