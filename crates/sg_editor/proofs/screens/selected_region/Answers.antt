use Rattle.std.specs.Prelude.{Option, unwrap_or}
use Rattle.std.proofs.Common.{◌≡◌, sym, ap, ◌∙◌, subst}
use Rattle.sg_groves.specs.Grove.{Grove}
use Rattle.sg_unparse.specs.Page.{Region as RegionOf, region_of}
use Rattle.sg_unparse.specs.Sheet.{as_region}
use Rattle.sg_states.specs.States.{selected_place}
use Rattle.sg_buffer.specs.Held.{state_of}
use Rattle.sg_commands.proofs.Choosing.{live_here}
use Rattle.sg_editor.specs.Screen.{TellsRegions, last_region, page_begin, run_from, shown_in}
use Rattle.sg_editor.proofs.Printed.{alone_there, one_region, regions_shown, spine_there, told_or}
use Rattle.sg_editor.proofs.screens.selected_region.Goals as goal

pub returns-then-count-eq1 : goal.returns-then-count-eq1
returns-then-count-eq1 c =
    let b = c.args.buffer.now in
    let st = state_of b in
    let u = selected_place st in
    let marks = shown_in b.grove.spec st in
    let tells = regions_shown b c.facts.ensures c.args.page.now c.requires.page in
    ap as_region c.unwrap_or-first.ensures ∙ told_or c.region.result
    ∙ ap (λ (o : Option RegionOf). unwrap_or o page_begin) (c.region.ensures ∙ tells u c.selected-n.result c.selected-n.ensures.place)
    ∙ sym (one_region marks u st.spot.selection.count (sym c.count-count.ensures ∙ c.if-count-eq1.true))

pub spine_of-requires : goal.spine_of-requires
spine_of-requires c = live_here c.args.buffer.now c.facts.ensures c.terms-terms.result.now c.terms-terms.ensures c.selected-n.result c.selected-n.ensures.place

pub last_region-requires-clause-long : goal.last_region-requires-clause-long
last_region-requires-clause-long c = λ x holds.
    let b = c.args.buffer.now in
    let spine = spine_there b c.facts.ensures c.terms-terms.result.now c.terms-terms.ensures c.selected-n.result c.selected-n.ensures.place c.in-Some.spine c.in-Some.ensures.live c.in-Some.ensures.leads in
    rw c.count-count.ensures (spine.long x holds)

pub returns-in-Some : goal.returns-in-Some
returns-in-Some c =
    let b = c.args.buffer.now in
    let st = state_of b in
    let u = selected_place st in
    let marks = shown_in b.grove.spec st in
    let tells = regions_shown b c.facts.ensures c.args.page.now c.requires.page in
    let same = c.terms-terms.ensures in
    let spine = spine_there b c.facts.ensures c.terms-terms.result.now same c.selected-n.result c.selected-n.ensures.place c.in-Some.spine c.in-Some.ensures.live c.in-Some.ensures.leads in
    let first : as_region c.unwrap_or-first.result ≡ unwrap_or (region_of marks u) page_begin =
    ap as_region c.unwrap_or-first.ensures ∙ told_or c.region.result
    ∙ ap (λ (o : Option RegionOf). unwrap_or o page_begin) (c.region.ensures ∙ tells u c.selected-n.result c.selected-n.ensures.place) in
    let among = c.last_region.ensures b.root marks spine.place (subst (λ (g : Grove). TellsRegions g b.root c.args.page.now marks) (sym same) tells) spine.way in
    let last : as_region c.unwrap_or-last.result ≡ unwrap_or (last_region marks (run_from st.spot.selection.count u)) page_begin =
    ap as_region c.unwrap_or-last.ensures ∙ told_or c.last_region.result
    ∙ ap (λ (o : Option RegionOf). unwrap_or o page_begin) (among ∙ (λ i. last_region marks (run_from (c.count-count.ensures i) (sym spine.is i)))) in
    λ i. record { first = (first i).first; last = (last i).last }

pub returns-in-None : goal.returns-in-None
returns-in-None c =
    let b = c.args.buffer.now in
    let st = state_of b in
    let u = selected_place st in
    let marks = shown_in b.grove.spec st in
    let tells = regions_shown b c.facts.ensures c.args.page.now c.requires.page in
    ap as_region c.unwrap_or-first.ensures ∙ told_or c.region.result
    ∙ ap (λ (o : Option RegionOf). unwrap_or o page_begin) (c.region.ensures ∙ tells u c.selected-n.result c.selected-n.ensures.place)
    ∙ sym (one_region marks u st.spot.selection.count (alone_there b c.facts.ensures c.terms-terms.result.now c.terms-terms.ensures c.selected-n.result c.selected-n.ensures.place c.in-None.ensures.leads))
