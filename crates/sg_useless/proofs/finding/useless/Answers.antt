use Rattle.std.proofs.Common.{List, ◌++◌, ap, ◌∙◌}
use Rattle.sg_useless.specs.Parts.{Part}
use Rattle.sg_useless.specs.Uses.{numbered, uses_of}
use Rattle.sg_useless.specs.Useless.{entry_parts, line_parts, parts_of, unentered, unseen, unused_parts}
use Rattle.sg_useless.proofs.Whole.{five_behind}
use Rattle.sg_useless.proofs.finding.useless.Goals as goal

pub returns : goal.returns
returns c =
    let spec = c.args.spec.now in
    five_behind (unused_parts (uses_of spec) (parts_of spec)) (unentered spec) (unseen spec) (numbered (entry_parts spec (uses_of spec)) 0 spec.phyla) (numbered (line_parts spec.productions) 0 spec.levels)
    c.add_all_unentered.new.parts.items c.add_all_unseen.new.parts.items c.append.new.self.items c.add_lines.new.parts.items
    (c.in_ok-add_all_unentered.ensures ∙ ap (λ (l : List Part). l ++ unentered spec) c.in_ok-parts.ensures.unused)
    c.in_ok-add_all_unseen.ensures
    (c.in_ok-append.ensures.items ∙ ap (λ (l : List Part). c.add_all_unseen.new.parts.items ++ l) c.in_ok-parts.ensures.missed)
    c.in_ok-add_lines.ensures
