use Rattle.std.specs.Prelude.{◌≡◌, ◌≤◌, count_by, length}
use Rattle.std.proofs.Common.{refl, arith, ap, ◌∙◌}
use Rattle.std.proofs.lemmas.List.Filters.{length-filter_both}
use Rattle.std.proofs.lemmas.List.Sums.{length-filter}
use Rattle.sg_kinds.specs.Far.{is_far, is_written}
use Rattle.sg_kinds.specs.declared.spec.Operator.{Operator}
use Rattle.sg_kinds.specs.declared.spec.Phylum.{Phylum}
use Rattle.sg_kinds.proofs.Elementary.{slice_get-All}
use Rattle.sg_terms.proofs.rows.slot_count.Goals as goal

pub overflow_add-result : goal.overflow_add-result
overflow_add-result c =
    let attrs = c.item-phylum.result.now.attrs in
    let few = slice_get-All (λ (x : Phylum). (count_by is_written x.attrs ≤ 32) × (count_by is_far x.attrs ≤ 1048576)) c.as_slice-2.result.now _ c.item-phylum.result.now (rw c.as_slice-2.ensures c.requires.counted.attrs) c.item-phylum.ensures in
    let locals = slice_get-All (λ (o : Operator). length o.locals ≤ 32) c.as_slice.result.now _ c.item-operator.result.now (rw c.as_slice.ensures c.requires.counted.locals) c.item-operator.ensures in
    let written : count_by is_written attrs ≤ 32 = few.0 in
    let far : count_by is_far attrs ≤ 1048576 = few.1 in
    let own : length c.item-operator.result.now.locals ≤ 32 = locals in
    let count : c.len.result ≡ length attrs = c.len.ensures in
    let more : c.len-2.result ≡ length c.item-operator.result.now.locals = c.len-2.ensures ∙ ap (λ (o : Operator). length o.locals) c.operator.view_is in
    omega (arith, written, far, own, length-filter_both is_written is_far (λ a. refl) attrs, length-filter is_written attrs, length-filter is_far attrs, count, more)
