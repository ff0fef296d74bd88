use Rattle.sg_ast.specs.View.{trees_of}
use Rattle.sg_witnesses.proofs.Sampled.{is_prefix}
use Rattle.sg_witnesses.proofs.samples.prefix.Goals as goal

pub returns : goal.returns
returns c =
    let found = c.in_ok-found.found in
    is_prefix (trees_of c.args.decls.now) c.args.spec.now c.args.fault.now c.in_ok-kept.kept c.args.grammar.now found.prefix found.terminal found.first found.second c.in_ok-kept.ensures
    c.in_ok-found.ensures c.requires c.in_ok-expect_printed.ensures
