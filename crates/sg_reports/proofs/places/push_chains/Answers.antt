use Rattle.std.proofs.Common.{◌≡◌, ◌++◌, map, flat_map, sym, ap, ◌∙◌, append_assoc}
use Rattle.sg_kinds.specs.Instances.{below}
use Rattle.sg_prec.specs.Levels.{lines_of, levels_of, row_at}
use Rattle.sg_reports.specs.Places.{place_in}
use Rattle.sg_reports.proofs.StepPlaces.{steps_more}
use Rattle.sg_reports.proofs.places.push_chains.Goals as goal

pub loop-n-preserved : goal.loop-n-preserved
loop-n-preserved c =
    let s = c.args.spec.now in
    let n = c.loop-n.n in
    let rows = c.in_ok-levels.levels in
    let told : rows ≡ levels_of s.levels s.productions = c.in_ok-levels.ensures ∙ (λ t. levels_of (c.as_slice.ensures t) (c.as_slice-productions.ensures t)) in
    let place = place_in c.args.lines.now in
    let before = c.args.places.now.items in
    let so_far = map place (flat_map (lines_of s.levels s.productions) (below n)) in
    let steps = map place (row_at rows n) in
    c.in_ok-push_steps.ensures ∙ ap (λ xs. xs ++ steps) c.loop-n.invariant ∙ append_assoc before so_far steps ∙ ap (λ xs. before ++ xs) (sym (steps_more c.args.lines.now s.levels s.productions n rows told))
