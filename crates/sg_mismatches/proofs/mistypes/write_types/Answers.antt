use Rattle.std.specs.Prelude.{◌++◌, codes}
use Rattle.sg_mismatches.specs.Mistypes.{found_words, wanted_words}
use Rattle.sg_mismatches.proofs.Lines.{both}
use Rattle.sg_mismatches.proofs.mistypes.write_types.Goals as goal

pub returns : goal.returns
returns c =
    let phyla = c.args.names.now.phyla in
    let wanted = wanted_words phyla c.args.mistyped.now.wanted in
    let found = found_words phyla c.args.mistyped.now.found in
    let first = c.extend_from_slice.new.self.items in
    let second = c.write_wanted.new.out.items in
    let third = c.extend_from_slice-2.new.self.items in
    let fourth = c.write_found.new.out.items in
    let last = c.extend_from_slice-3.new.self.items in
    let there = codes " is there\n" in
    let behind = codes " is wanted, " ++ (found ++ there) in
    both c.args.out.now.items first last (codes ": ") (wanted ++ behind) c.in_ok-extend_from_slice.ensures.items
    (both first second last wanted behind c.in_ok-write_wanted.ensures
    (both second third last (codes " is wanted, ") (found ++ there) c.in_ok-extend_from_slice-2.ensures.items
    (both third fourth last found there c.in_ok-write_found.ensures c.in_ok-extend_from_slice-3.ensures.items)))
