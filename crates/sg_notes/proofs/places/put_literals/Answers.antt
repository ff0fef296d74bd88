use Rattle.std.proofs.Common.{map, arith}
use Rattle.sg_ast.specs.FirstFault.{or_else}
use Rattle.sg_names.specs.Meaning.{meaning}
use Rattle.sg_notes.specs.Declared as spec
use Rattle.sg_notes.proofs.Found.{mapped_more}
use Rattle.sg_notes.proofs.places.put_literals.Goals as goal

pub loop-literal-preserved : goal.loop-literal-preserved
loop-literal-preserved c =
    let f = spec.declared_literal in
    mapped_more f c.args.literals.now c.loop-literal.literal-index c.literal-item.result (meaning c.loop-literal.places) (meaning c.put_literal.new.places)
    (λ n. or_else (meaning c.args.places.now n) (spec.place_in (map f c.args.literals.now) n)) (omega arith) c.literal-item.is c.in_ok-put_literal.ensures c.loop-literal.invariant
