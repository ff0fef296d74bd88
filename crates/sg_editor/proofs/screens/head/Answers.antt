use Rattle.std.specs.Prelude.{◌≡◌, ◌<◌, ℕ, List, [], length, Option, unwrap_or, option_map}
use Rattle.std.proofs.Common.{sym, ap, ◌∙◌, subst}
use Rattle.sg_kinds.specs.Fits.{Fits}
use Rattle.sg_kinds.specs.Specification.{phylum_name}
use Rattle.sg_kinds.specs.Terms.{Term}
use Rattle.sg_kinds.specs.declared.spec.Phylum.{Phylum}
use Rattle.sg_kinds.specs.declared.spec.Spec.{Spec}
use Rattle.sg_groves.specs.Grove.{Grove}
use Rattle.sg_groves.specs.Holds.{Holds}
use Rattle.sg_groves.proofs.Held.{part_held}
use Rattle.sg_edits.specs.Edits.{phylum_in}
use Rattle.sg_edits.proofs.Placed.{fits_phylum}
use Rattle.sg_edits.proofs.Shaped.{phylum_low}
use Rattle.sg_states.specs.States.{selected_place}
use Rattle.sg_buffer.specs.Held.{state_of}
use Rattle.sg_commands.specs.Turns.{selected_term}
use Rattle.sg_commands.proofs.Choosing.{live_here}
use Rattle.sg_unparse.specs.Sheet.{as_region}
use Rattle.sg_editor.specs.Screen.{region_of_run, shown_in, view_shown}
use Rattle.sg_editor.proofs.Printed.{named_view}
use Rattle.sg_editor.proofs.screens.head.Goals as goal

pub phylum-phylum-requires : goal.phylum-phylum-requires
phylum-phylum-requires c = live_here c.args.named.now.buffer c.facts.ensures c.terms-terms.result.now c.terms-terms.ensures c.selected.result c.selected.ensures.place

pub item-requires : goal.item-requires
item-requires c =
    let b = c.args.named.now.buffer in
    let st = state_of b in
    let spec = c.args.base.now.contents.spec in
    let s = part_held b.grove c.facts.ensures.grove (selected_place st) c.selected.result b.root st.term c.selected.ensures.place c.facts.ensures.whole.holds in
    let fits : Fits b.grove.spec s.0 c.phylum-phylum.result =
    subst (λ (g : Grove). Fits g.spec s.0 c.phylum-phylum.result) c.terms-terms.ensures
    (c.phylum-phylum.ensures.term s.0 (subst (λ (g : Grove). Holds g c.selected.result s.0) (sym c.terms-terms.ensures) s.1)) in
    let low = phylum_low spec c.spec-spec.ensures.sound.shapes s.0 c.phylum-phylum.result (subst (λ (sp : Spec). Fits sp s.0 c.phylum-phylum.result) c.requires.over.spec_is fits) in
    subst (λ (xs : List Phylum). c.phylum.inside.number < length xs) (sym (c.as_slice-2.ensures ∙ ap (λ (sp : Spec). sp.phyla) c.spec-spec.ensures.spec))
    (subst (λ (p : ℕ). p < length spec.phyla) (sym c.phylum.view_is) low)

pub returns : goal.returns
returns c =
    let b = c.args.named.now.buffer in
    let st = state_of b in
    let u = selected_place st in
    let spec = c.args.base.now.contents.spec in
    let s = part_held b.grove c.facts.ensures.grove u c.selected.result b.root st.term c.selected.ensures.place c.facts.ensures.whole.holds in
    let fits : Fits b.grove.spec s.0 c.phylum-phylum.result =
    subst (λ (g : Grove). Fits g.spec s.0 c.phylum-phylum.result) c.terms-terms.ensures
    (c.phylum-phylum.ensures.term s.0 (subst (λ (g : Grove). Holds g c.selected.result s.0) (sym c.terms-terms.ensures) s.1)) in
    let number : c.phylum.inside.number ≡ phylum_in spec (selected_term st) =
    c.phylum.view_is ∙ sym (fits_phylum spec s.0 c.phylum-phylum.result (subst (λ (sp : Spec). Fits sp s.0 c.phylum-phylum.result) c.requires.over.spec_is fits))
    ∙ ap (phylum_in spec) (sym (ap (λ (o : Option Term). unwrap_or o st.term) s.2)) in
    let phyla : c.as_slice-2.result.now ≡ spec.phyla = c.as_slice-2.ensures ∙ ap (λ (sp : Spec). sp.phyla) c.spec-spec.ensures.spec in
    let name : c.as_slice-3.result.now ≡ phylum_name spec.phyla (phylum_in spec (selected_term st)) =
    c.as_slice-3.ensures ∙ sym (ap (λ (o : Option Phylum). unwrap_or (option_map (λ (x : Phylum). x.name) o) []) c.item.ensures)
    ∙ (λ i. phylum_name (phyla i) (number i)) in
    let region : as_region c.selected_region.result ≡ region_of_run (shown_in spec st) u st.spot.selection.count =
    c.selected_region.ensures ∙ ap (λ (sp : Spec). region_of_run (shown_in sp st) u st.spot.selection.count) c.requires.over.spec_is in
    let views : c.view.result ≡ st.spot.view = c.view.ensures ∙ ap (λ (g : Grove). g.view) c.terms-terms.ensures ∙ c.facts.ensures.view in
    λ i. record { name = c.as_slice.ensures i; view = named_view c.view_shown.result (λ x. x.now) _ _ c.view_shown.ensures (λ j. view_shown (c.spec-spec.ensures.spec j) (views j)) i; region = region i; phylum = name i; count = c.count.ensures i; top = c.top.ensures i; ev = c.args.ev; message = c.args.message }
