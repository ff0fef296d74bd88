use Rattle.std.proofs.Common.{◌++◌, ap, ◌∙◌, ◌-◌, subst, take, drop, length, arith}
use Rattle.std.proofs.lemmas.List.{length-drop, take_all}
use Rattle.sg_kinds.specs.Places.{place_of}
use Rattle.sg_groves.specs.Holds.{IsPlaced}
use Rattle.sg_select.specs.Paths.{GoesTo}
use Rattle.sg_select.proofs.Fronts.{climber_live, low_long, parted, whole_path}
use Rattle.sg_select.proofs.paths.deepest.Goals as goal

pub ancestor-above-requires : goal.ancestor-above-requires
ancestor-above-requires c = climber_live c.args.terms.now (place_of c.args.way.now) c.args.near c.args.root c.requires.root c.requires.near

pub returns-clause-goes : goal.returns-clause-goes
returns-clause-goes c = λ t h.
    let g = c.args.terms.now in
    let root = c.args.root in
    let path = c.args.path.now in
    let way = c.args.way.now in
    let front = c.shared-front.result in
    let known : IsPlaced g root t (place_of way) c.args.near = record { top = c.requires.root; holds = h; way = c.requires.near } in
    let split = subst (λ u. IsPlaced g root t u c.args.near) (parted way front) known in
    let above = c.ancestor-above.ensures.placed root t (place_of (drop front way)) (place_of (take front way)) split (low_long way front) in
    let rest = take_all (length path - front) (drop front path) (omega (arith, length-drop front path)) in
    let went = c.deepest_below.ensures.goes root t (place_of (take front way)) above in
    subst (λ u. GoesTo g root t u c.deepest_below.result.0 c.deepest_below.result.1) (ap (λ l. place_of l ++ place_of (take front way)) rest ∙ whole_path path way front c.shared-front.ensures.same) went
