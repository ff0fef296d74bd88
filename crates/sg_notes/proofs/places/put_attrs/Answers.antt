use Rattle.std.proofs.Common.{map, arith}
use Rattle.sg_ast.specs.FirstFault.{or_else}
use Rattle.sg_names.specs.Meaning.{meaning}
use Rattle.sg_notes.specs.Declared as spec
use Rattle.sg_notes.proofs.Found.{mapped_more}
use Rattle.sg_notes.proofs.places.put_attrs.Goals as goal

pub loop-attr-preserved : goal.loop-attr-preserved
loop-attr-preserved c =
    let f = (spec.declared_attr c.args.owner.now) in
    mapped_more f c.args.attrs.now c.loop-attr.attr-index c.attr-item.result (meaning c.loop-attr.places) (meaning c.put_attr.new.places)
    (λ n. or_else (meaning c.args.places.now n) (spec.place_in (map f c.args.attrs.now) n)) (omega arith) c.attr-item.is c.in_ok-put_attr.ensures c.loop-attr.invariant
