use Rattle.std.proofs.Common.{take, take_all, [], sym, subst, arith, get_or}
use Rattle.std.proofs.lemmas.List.{take_more}
use Rattle.sg_samples.specs.Table.{IsExpanded}
use Rattle.sg_samples.proofs.Steps.{no_step, step, left_few}
use Rattle.sg_samples.proofs.table.expanded.Goals as goal

pub loop-x-init : goal.loop-x-init
loop-x-init c = (
  omega arith,
  λ g known. subst (λ v. IsExpanded g c.args.samples.now c.args.most [] v c.args.most) (sym c.in_ok-out.ensures.items) (no_step g c.args.samples.now c.args.most),
)

pub loop-x-preserved : goal.loop-x-preserved
loop-x-preserved c =
    let T = c.args.samples.now in
    let x = get_or c.args.string.now c.loop-x.x-index 0 in (
      left_few T x c.loop-x.out.items c.loop-x.spare c.put.new.out.items c.in_ok-spare.spare c.in_ok-spare.ensures c.loop-x.invariant.0,
      λ g known. subst (λ Ys. IsExpanded g T c.args.most Ys c.put.new.out.items c.in_ok-spare.spare)
          (sym (take_more c.args.string.now c.loop-x.x-index 0 c.loop-x-test.true))
          (step g T known c.args.most c.requires (take c.loop-x.x-index c.args.string.now) x c.loop-x.out.items c.loop-x.spare (c.loop-x.invariant.1 g known) c.put.new.out.items c.in_ok-spare.spare c.loop-x.invariant.0 c.in_ok-spare.ensures),
    )

pub returns : goal.returns
returns c = λ g known. (
  c.loop-x.spare,
  subst (λ Ys. IsExpanded g c.args.samples.now c.args.most Ys c.loop-x.out.items c.loop-x.spare)
      (take_all c.loop-x.x-index c.args.string.now c.loop-x-test.false) (c.loop-x.invariant.1 g known),
)
