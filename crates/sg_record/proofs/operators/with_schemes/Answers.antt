use Rattle.std.proofs.Common.{◌≡◌, ◌≢◌, ◌<◌, List, length, arith, ap, ◌∙◌}
use Rattle.sg_kinds.specs.declared.spec.Operator.{Operator}
use Rattle.sg_kinds.specs.declared.spec.Scheme.{Scheme}
use Rattle.sg_names.specs.Rows.{row_at}
use Rattle.sg_names.proofs.Written.{written}
use Rattle.sg_record.specs.Record.{with_scheme}
use Rattle.sg_record.proofs.operators.with_schemes.Goals as goal

pub loop-place-preserved : goal.loop-place-preserved
loop-place-preserved c =
    let low : c.loop-place.place < length c.args.ops.items = omega (arith, c.loop-place-test.true, c.len-place-end.ensures) in
    let row : c.take.result ≡ row_at c.args.schemes c.loop-place.place = c.take.ensures.row ∙ c.loop-place.invariant.schemes c.loop-place.place (omega arith) in
    let o : Operator = c.index_mut.result.now in
    record {
      made = written (with_scheme (row_at c.args.schemes)) c.loop-place.place c.args.ops.items c.loop-place.ops.items c.index_mut.result.now (record { name = o.name; phylum = o.phylum; args = o.args; locals = o.locals; schemes = c.take.result }) low c.loop-place.invariant.made c.index_mut.ensures.value
          (ap (λ (r : List Scheme). record { name = o.name; phylum = o.phylum; args = o.args; locals = o.locals; schemes = r }) row);
      schemes = λ k h.
          let other : k ≢ c.loop-place.place = omega arith in
          c.take.ensures.others k other ∙ c.loop-place.invariant.schemes k (omega arith);
    }
