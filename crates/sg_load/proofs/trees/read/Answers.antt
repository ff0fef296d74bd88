use Rattle.std.proofs.Common.{◌≡◌, Ok}
use Rattle.std.proofs.lemmas.Result.{IfOk-weaker}
use Rattle.sg_ast.specs.View.{trees_of}
use Rattle.sg_ast.specs.Written.{HaveWritten}
use Rattle.sg_load.specs.Trees.{trees_in}
use Rattle.sg_load.proofs.WrittenLaws.{read_written}
use Rattle.sg_load.proofs.trees.read.Goals as goal

pub returns-clause-written : goal.returns-clause-written
returns-clause-written c =
    IfOk-weaker c.parsed.result (λ ds. trees_in c.args.bytes.now ≡ Ok (trees_of ds.items)) (λ ds. HaveWritten (trees_of ds.items)) (λ ds is. read_written c.args.bytes.now (trees_of ds.items) is) c.parsed.ensures.trees
