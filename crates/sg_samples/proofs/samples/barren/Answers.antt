use Rattle.std.proofs.Common.{◌≡◌, ◌+◌, [], ◌∷◌, ◌++◌, sym, subst, arith, rules}
use Rattle.std.proofs.lemmas.Bool.{OnTrue_at, OnFalse_at}
use Rattle.sg_samples.specs.Table.{sample_at, Has}
use Rattle.sg_samples.specs.declared.table.Sample.TheVariants.{Unknown}
use Rattle.sg_samples.proofs.Listing.{IsListed, listed_same, listed_more, listed_barren}
use Rattle.sg_samples.proofs.samples.barren.Goals as goal
use Rattle.sg_samples.proofs.samples.barren.Goals.{then-not-has_sample+in_ok-push, else-not-has_sample}

pub loop-x-preserved : goal.loop-x-preserved
loop-x-preserved c = elim c.if-not-has_sample.branch [
  | then-not-has_sample+in_ok-push w ↦
      let e : c.if-not-has_sample.barren.items ≡ c.loop-x.barren.items ++ c.loop-x.x ∷ [] = search rules in
      subst (IsListed c.in_ok-samples.samples.items (c.loop-x.x + 1)) (sym e) (listed_more c.in_ok-samples.samples.items c.loop-x.x c.loop-x.barren.items c.loop-x.invariant (subst (λ t. sample_at t c.loop-x.x ≡ Unknown) c.deref.ensures.value (OnFalse_at w.if-not-has_sample.true c.has_sample.ensures.none)))
  | else-not-has_sample w ↦ rw w.barren-is (listed_same c.in_ok-samples.samples.items c.loop-x.x c.loop-x.barren.items c.loop-x.invariant (subst (λ t. Has t c.loop-x.x) c.deref.ensures.value (OnTrue_at w.if-not-has_sample.false c.has_sample.ensures.has)))
]

pub returns : goal.returns
returns c = listed_barren c.args.g.now c.in_ok-samples.samples.items c.in_ok-samples.ensures c.loop-x.barren.items
    (subst (λ n. IsListed c.in_ok-samples.samples.items n c.loop-x.barren.items) (omega arith) c.loop-x.invariant)
