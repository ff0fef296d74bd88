use Rattle.std.proofs.Common.{arith}
use Rattle.sg_ast.specs.View.{trees_of}
use Rattle.sg_names.specs.Meaning.{meaning}
use Rattle.sg_notes.specs.Declared.{declared_at}
use Rattle.sg_notes.proofs.Found.{each_more}
use Rattle.sg_notes.proofs.places.places.Goals as goal

pub loop-decl-preserved : goal.loop-decl-preserved
loop-decl-preserved c =
    each_more c.args.decls.now c.loop-decl.decl-index c.decl-item.result (meaning c.loop-decl.places) (meaning c.put_declared.new.places)
    (declared_at (trees_of c.args.decls.now)) (omega arith) c.decl-item.is c.in_ok-put_declared.ensures c.loop-decl.invariant
