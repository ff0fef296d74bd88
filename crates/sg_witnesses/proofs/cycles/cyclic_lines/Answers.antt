use Rattle.std.proofs.Common.{◌≡◌}
use Rattle.std.proofs.lemmas.Result.{IfOk-weaker}
use Rattle.sg_ast.specs.View.{trees_of}
use Rattle.sg_reports.specs.Places.{operator_places}
use Rattle.sg_witnesses.specs.Cycles.{TellsCycleOf, path_text}
use Rattle.sg_witnesses.proofs.Told.{cycle_told}
use Rattle.sg_witnesses.proofs.cycles.cyclic_lines.Goals as goal

pub returns : goal.returns
returns c =
    let found = c.args.found in
    let ds = trees_of c.args.decls.now in
    IfOk-weaker c.path_lines.result (λ v. v.items ≡ path_text found.spec (operator_places ds) found.path) (λ v. TellsCycleOf ds found.spec c.args.fault.now v.items)
    (λ v is. cycle_told ds found.spec c.args.fault.now found.fault found.path v.items c.requires.path c.requires.of c.in_ok-expect_printed.ensures is) c.path_lines.ensures
