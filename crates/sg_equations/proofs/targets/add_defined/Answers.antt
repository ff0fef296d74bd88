use Rattle.std.proofs.Common.{◌++◌, flat_map, ap, sym, ◌∙◌}
use Rattle.std.proofs.lemmas.List.{take_all}
use Rattle.std.proofs.lemmas.List.Folds.{flat_map-map}
use Rattle.sg_ast.specs.View.{equation_of}
use Rattle.sg_equations.specs.Targets.{defined_by}
use Rattle.sg_equations.proofs.targets.add_defined.Goals as goal

pub returns : goal.returns
returns c =
    c.loop-equation.invariant
    ∙ ap (λ l. c.args.defined.now.items ++ l)
    (ap (flat_map (λ e. defined_by c.args.names.now c.args.op (equation_of e))) (take_all c.loop-equation.equation-index c.args.equations.now c.loop-equation-test.false)
    ∙ sym (flat_map-map (defined_by c.args.names.now c.args.op) equation_of c.args.equations.now))
