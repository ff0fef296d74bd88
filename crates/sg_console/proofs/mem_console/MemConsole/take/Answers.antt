use Rattle.std.proofs.Common.{◌≡◌, ap, sym, ◌∙◌, drop}
use Rattle.sg_console.specs.MemConsole.{NumberedConsole}
use Rattle.sg_console.proofs.LineLemmas.{taken_fits, taken_in}
use Rattle.sg_console.proofs.mem_console.MemConsole.take.Goals as goal

pub overflow_sub-at : goal.overflow_sub-at
overflow_sub-at c =
    taken_fits c.args.most c.self.inside.at c.len.result c.self.inside.input.items c.deref.result.now c.take_from.new.reader.now c.take_from.new.line.items c.in_ok-taken.taken c.in_ok-taken.ensures.taken
    c.deref.ensures.value c.self.invariant (c.len.ensures ∙ c.self.inside.input.ok.0)

pub returns-clause-taken : goal.returns-clause-taken
returns-clause-taken c =
    let old : c.args.self.now.left ≡ drop c.self.inside.at c.self.inside.input.items = sym (ap (λ (s : NumberedConsole). s.left) (c.self.view_is ∙ c.is_due.ensures.counted)) in
    taken_in c.args.most c.self.inside.at c.len.result c.self.inside.input.items c.deref.result.now c.args.self.now.left c.take_from.new.reader.now c.take_from.new.line.items c.in_ok-taken.taken
    c.in_ok-taken.ensures.taken c.deref.ensures.value c.self.invariant (c.len.ensures ∙ c.self.inside.input.ok.0) old
