use Rattle.std.proofs.Common.{ℕ, List, ap, ◌∙◌, bytes_eq, if◌then◌else◌, Some, None}
use Rattle.sg_ast.specs.FirstFault.{or_else}
use Rattle.sg_names.specs.Meaning.{meaning}
use Rattle.sg_tables.proofs.HeadLaws.{counted_push}
use Rattle.sg_tables.proofs.heads.Heads.with.Goals as goal

pub invariant_of-result : goal.invariant_of-result
invariant_of-result c = counted_push c.self.inside.list.items c.push.new.self.items c.args.head c.self.inside.count c.in-Some.next c.self.inside.index c.put.new.self c.self.invariant c.in_ok-push.ensures.items c.in-Some.ensures.1
    (λ n. c.in_ok-put.ensures n ∙ ap (λ (m : List ℕ). or_else (meaning c.self.inside.index n) (if bytes_eq n m then Some c.self.inside.count else None)) c.as_slice-2.ensures)
