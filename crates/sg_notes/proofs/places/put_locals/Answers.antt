use Rattle.std.proofs.Common.{map, arith}
use Rattle.sg_ast.specs.FirstFault.{or_else}
use Rattle.sg_names.specs.Meaning.{meaning}
use Rattle.sg_notes.specs.Declared as spec
use Rattle.sg_notes.proofs.Found.{mapped_more}
use Rattle.sg_notes.proofs.places.put_locals.Goals as goal

pub loop-local-preserved : goal.loop-local-preserved
loop-local-preserved c =
    let f = (spec.declared_local c.args.owner.now) in
    mapped_more f c.args.locals.now c.loop-local.local-index c.local-item.result (meaning c.loop-local.places) (meaning c.put_local.new.places)
    (λ n. or_else (meaning c.args.places.now n) (spec.place_in (map f c.args.locals.now) n)) (omega arith) c.local-item.is c.in_ok-put_local.ensures c.loop-local.invariant
