use Rattle.std.proofs.Common.{◌++◌}
use Rattle.std.specs.Prelude.{codes}
use Rattle.sg_known.proofs.Lines.{both}
use Rattle.sg_known.proofs.known.write_given.Goals as goal

pub returns : goal.returns
returns c =
    let first = c.extend_from_slice.new.self.items in
    let second = c.extend_from_slice-2.new.self.items in
    let last = c.extend_from_slice-3.new.self.items in
    let words = codes " is there before each text\n" in
    both c.args.out.now.items first last (codes "  ") (c.args.name.now ++ words) c.in_ok-extend_from_slice.ensures.items
    (both first second last c.args.name.now words c.in_ok-extend_from_slice-2.ensures.items c.in_ok-extend_from_slice-3.ensures.items)
