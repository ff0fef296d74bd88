use Rattle.std.proofs.Common.{◌≡◌, ◌≢◌, ◌<◌, List, length, arith, ap, ◌∙◌}
use Rattle.sg_kinds.specs.declared.spec.Operator.{Operator}
use Rattle.sg_kinds.specs.declared.spec.Local.{Local}
use Rattle.sg_names.specs.Names.{with_local}
use Rattle.sg_names.specs.Rows.{row_at}
use Rattle.sg_names.proofs.Written.{written}
use Rattle.sg_tables.proofs.tables.with_locals.Goals as goal

pub loop-place-preserved : goal.loop-place-preserved
loop-place-preserved c =
    let low : c.loop-place.place < length c.args.ops.items = omega (arith, c.loop-place-test.true, c.len-place-end.ensures) in
    let row : c.take.result ≡ row_at c.args.locals c.loop-place.place = c.take.ensures.row ∙ c.loop-place.invariant.locals c.loop-place.place (omega arith) in
    let o : Operator = c.index_mut.result.now in
    record {
      made = written (with_local (row_at c.args.locals)) c.loop-place.place c.args.ops.items c.loop-place.ops.items c.index_mut.result.now (record { name = o.name; phylum = o.phylum; args = o.args; locals = c.take.result; schemes = o.schemes }) low c.loop-place.invariant.made c.index_mut.ensures.value
          (ap (λ (r : List Local). record { name = o.name; phylum = o.phylum; args = o.args; locals = r; schemes = o.schemes }) row);
      locals = λ k h.
          let other : k ≢ c.loop-place.place = omega arith in
          c.take.ensures.others k other ∙ c.loop-place.invariant.locals k (omega arith);
    }
