use Rattle.std.proofs.Common.{◌≡◌, ◌∙◌, [], ◌∷◌, ◌++◌, map}
use Rattle.std.proofs.lemmas.List.{map_push}
use Rattle.sg_ast.specs.View.{case_of}
use Rattle.sg_expressions.proofs.Depths.{case_grown}
use Rattle.sg_expressions.proofs.nodes.CaseNodes.with.Goals as goal

pub invariant_of-result : goal.invariant_of-result
invariant_of-result c =
    let whole : map case_of c.push.new.self.items ≡ map case_of c.args.self.cases.items ++ case_of (c.args.case.0, c.args.case.1.expr) ∷ [] = rw c.in_ok-push.ensures.items (map_push case_of c.args.self.cases.items (c.args.case.0, c.args.case.1.expr)) in
    record { exact = c.deeper-depth.ensures ∙ case_grown (map case_of c.args.self.cases.items) (map case_of c.push.new.self.items) (case_of (c.args.case.0, c.args.case.1.expr)) c.args.self.depth c.args.case.1.depth whole c.args.self.exact c.args.case.1.exact }
