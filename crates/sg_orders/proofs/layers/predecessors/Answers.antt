use Rattle.std.specs.Prelude.{◌≡◌, ℕ, ◌<◌, length, slice_index}
use Rattle.std.proofs.Common.{sym, ap, ◌∙◌, arith}
use Rattle.std.proofs.lemmas.List.{ext_get_or, take_all}
use Rattle.sg_sets.specs.Relations.{predecessors}
use Rattle.sg_orders.specs.StrictOrders.{all_predecessors}
use Rattle.sg_orders.proofs.Rising.{all_at, all_count}
use Rattle.sg_orders.proofs.layers.predecessors.Goals as goal

pub returns : goal.returns
returns c =
    let rows = c.args.relation.now in
    let counts = c.loop-a.counts.items in
    let size : length counts ≡ length rows = c.loop-a.invariant.size in
    let each : (b : ℕ) → b < length counts → slice_index counts b ≡ slice_index (all_predecessors rows) b = λ b low.
    c.loop-a.invariant.each b (omega (arith, low, size))
    ∙ ap (λ r. predecessors r b) (take_all c.loop-a.a rows (omega (arith, c.loop-a-test.false, c.size-a-end.ensures)))
    ∙ sym (all_at rows b (omega (arith, low, size))) in
    ext_get_or 0 counts (all_predecessors rows) (size ∙ sym (all_count rows)) each
