use Rattle.std.proofs.Common.{◌≡◌, Some, sym, ap, ◌∙◌, arith}
use Rattle.std.specs.Prelude.{slice_get}
use Rattle.std.proofs.lemmas.Option.{slice_get-get_or}
use Rattle.sg_patterns.proofs.Answering.{programs-ordered}
use Rattle.sg_patterns.proofs.matcher.matches_at.Goals as goal

pub matches_whole-requires-clause-ordered : goal.matches_whole-requires-clause-ordered
matches_whole-requires-clause-ordered c =
    let programs = c.args.programs.now in
    let here : slice_get programs c.args.k ≡ Some c.index-programs-k.result = slice_get-get_or programs c.args.k c.index-programs-k.result c.requires.within ∙ ap Some (sym c.index-programs-k.is) in
    programs-ordered programs c.requires.ordered.0 c.requires.ordered.1 c.args.k c.index-programs-k.result here

pub matches_whole-requires-clause-begins_room : goal.matches_whole-requires-clause-begins_room
matches_whole-requires-clause-begins_room c =
    let programs = c.args.programs.now in
    let here : slice_get programs c.args.k ≡ Some c.index-programs-k.result = slice_get-get_or programs c.args.k c.index-programs-k.result c.requires.within ∙ ap Some (sym c.index-programs-k.is) in
    let room = c.requires.begins_room c.args.k c.index-programs-k.result here in
    let long = c.index-programs-k.result.nodes.ok.0 in
    omega (arith, room, long)

pub matches_whole-requires-clause-finals_room : goal.matches_whole-requires-clause-finals_room
matches_whole-requires-clause-finals_room c =
    let programs = c.args.programs.now in
    let here : slice_get programs c.args.k ≡ Some c.index-programs-k.result = slice_get-get_or programs c.args.k c.index-programs-k.result c.requires.within ∙ ap Some (sym c.index-programs-k.is) in
    let room = c.requires.finals_room c.args.k c.index-programs-k.result here in
    let long = c.index-programs-k.result.nodes.ok.0 in
    omega (arith, room, long)

pub returns : goal.returns
returns c ps p are is =
    let programs = c.args.programs.now in
    let here : slice_get programs c.args.k ≡ Some c.index-programs-k.result = slice_get-get_or programs c.args.k c.index-programs-k.result c.requires.within ∙ ap Some (sym c.index-programs-k.is) in
    c.matches_whole.ensures p (are.each c.args.k c.index-programs-k.result p here is)
