use Rattle.std.proofs.Common.{◌≡◌, ◌∙◌, [], ◌∷◌, ◌++◌, map}
use Rattle.std.proofs.lemmas.List.{map_push}
use Rattle.sg_ast.specs.View.{expr_of}
use Rattle.sg_expressions.proofs.Depths.{grown}
use Rattle.sg_expressions.proofs.nodes.Nodes.with.Goals as goal

pub invariant_of-result : goal.invariant_of-result
invariant_of-result c =
    let whole : map expr_of c.push.new.self.items ≡ map expr_of c.args.self.exprs.items ++ expr_of c.args.node.expr ∷ [] = rw c.in_ok-push.ensures.items (map_push expr_of c.args.self.exprs.items c.args.node.expr) in
    record { exact = c.deeper-depth.ensures ∙ grown (map expr_of c.args.self.exprs.items) (map expr_of c.push.new.self.items) (expr_of c.args.node.expr) c.args.self.depth c.args.node.depth whole c.args.self.exact c.args.node.exact }
