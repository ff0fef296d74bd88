use Rattle.std.proofs.Common.{◌≡◌, ◌-◌, ◌++◌, take, drop, flat_map}
use Rattle.sg_unparse.specs.Page.{lines_of}
use Rattle.sg_screen.specs.Block.{shown_line}
use Rattle.sg_screen.proofs.blocks.write_lines.Given as goal

-- what is left decides
abbrev pub invariant-loop-k : goal.invariant-loop-k
invariant-loop-k l =
    let lines = lines_of l.page.cells in
    l.out.items ++ flat_map (shown_line l.width) (take (l.end - l.k) (drop l.k lines))
    ≡ l.initial.out.items ++ flat_map (shown_line l.width) (take (l.end - l.first) (drop l.first lines))
