use Rattle.std.proofs.Common.{◌≡◌, ◌≢◌, ◌<◌, List, length, arith, ap, ◌∙◌}
use Rattle.sg_kinds.specs.declared.spec.Attr.{Attr}
use Rattle.sg_names.specs.More.{and_attrs, behind}
use Rattle.sg_names.specs.Rows.{row_at}
use Rattle.sg_names.proofs.Written.{written}
use Rattle.sg_names.proofs.names.and_more.Goals as goal

pub loop-place-preserved : goal.loop-place-preserved
loop-place-preserved c =
    let low : c.loop-place.place < length c.args.phyla.items = omega (arith, c.loop-place-test.true, c.len-place-end.ensures) in
    let row : c.take.result ≡ row_at c.args.more c.loop-place.place = c.take.ensures.row ∙ c.loop-place.invariant.rest c.loop-place.place (omega arith) in
    record {
      made = written (and_attrs (row_at c.args.more)) c.loop-place.place c.args.phyla.items c.loop-place.phyla.items c.index_mut.result.now c.put_behind.new.phylum low c.loop-place.invariant.made c.index_mut.ensures.value
          (c.in_ok-put_behind.ensures ∙ ap (λ (r : List Attr). behind r c.index_mut.result.now) row);
      rest = λ k h.
          let other : k ≢ c.loop-place.place = omega arith in
          c.take.ensures.others k other ∙ c.loop-place.invariant.rest k (omega arith);
    }
