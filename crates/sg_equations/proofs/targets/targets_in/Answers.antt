use Rattle.std.proofs.Common.{flat_map, ap, sym, ◌∙◌}
use Rattle.std.proofs.lemmas.List.{take_all}
use Rattle.std.proofs.lemmas.List.Folds.{flat_map-map}
use Rattle.sg_ast.specs.View.{tree_of}
use Rattle.sg_equations.specs.Targets.{defined_at}
use Rattle.sg_equations.proofs.targets.targets_in.Goals as goal

pub returns : goal.returns
returns c =
    c.loop-decl.invariant
    ∙ ap (flat_map (λ d. defined_at c.args.names.now (tree_of d))) (take_all c.loop-decl.decl-index c.args.decls.now c.loop-decl-test.false)
    ∙ sym (flat_map-map (defined_at c.args.names.now) tree_of c.args.decls.now)
