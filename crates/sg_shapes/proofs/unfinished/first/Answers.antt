use Rattle.std.proofs.Common.{◌≡◌, ◌<◌, List, length, not, get_or, sym, ap, subst, ◌∙◌}
use Rattle.sg_kinds.specs.declared.spec.Operator.{Operator}
use Rattle.sg_kinds.specs.declared.spec.Phylum.{Phylum}
use Rattle.sg_names.specs.Drafted.{drafted}
use Rattle.sg_shapes.specs.Counts.{both_fit}
use Rattle.sg_shapes.specs.Unfinished.{is_finished}
use Rattle.sg_shapes.proofs.Finished.{tested, at_place}
use Rattle.sg_shapes.proofs.Finds.{find_here, find_not}
use Rattle.sg_shapes.proofs.unfinished.first.Goals as goal

pub returns-then-not-both_fit : goal.returns-then-not-both_fit
returns-then-not-both_fit c =
    let t = c.args.table.now in
    let x = c.index-phyla-place.result in
    let i = c.loop-place.place in
    let low : i < length t.phyla = subst (λ (l : List Phylum). i < length l) c.as_slice-phyla.ensures c.loop-place-test.true in
    let here : x ≡ get_or t.phyla i x = c.index-phyla-place.is ∙ ap (λ (l : List Phylum). get_or l i x) c.as_slice-phyla.ensures in
    let fit : both_fit t.ops c.args.counts.now x ≡ c.both_fit.result = ap (λ (o : List Operator). both_fit o c.args.counts.now x) (sym c.as_slice-ops.ensures) ∙ sym c.both_fit.ensures in
    find_here (λ p. not (is_finished (drafted t) p)) (length t.phyla) i low c.loop-place.invariant
    (tested t c.args.counts.now i x c.both_fit.result c.requires (at_place t.phyla i x low here) fit ∙ ap not c.if-not-both_fit.true)

pub loop-place-preserved : goal.loop-place-preserved
loop-place-preserved c =
    let t = c.args.table.now in
    let x = c.index-phyla-place.result in
    let i = c.loop-place.place in
    let low : i < length t.phyla = subst (λ (l : List Phylum). i < length l) c.as_slice-phyla.ensures c.loop-place-test.true in
    let here : x ≡ get_or t.phyla i x = c.index-phyla-place.is ∙ ap (λ (l : List Phylum). get_or l i x) c.as_slice-phyla.ensures in
    let fit : both_fit t.ops c.args.counts.now x ≡ c.both_fit.result = ap (λ (o : List Operator). both_fit o c.args.counts.now x) (sym c.as_slice-ops.ensures) ∙ sym c.both_fit.ensures in
    find_not (λ p. not (is_finished (drafted t) p)) i c.loop-place.invariant
    (tested t c.args.counts.now i x c.both_fit.result c.requires (at_place t.phyla i x low here) fit ∙ ap not c.if-not-both_fit.false)
