use Rattle.std.proofs.Common.{◌≡◌, sym, ap, ◌∙◌, subst, ℕ, List, Option, option_map, Some, IfOk, Vec, Global}
use Rattle.sg_kinds.specs.Places.{place_of}
use Rattle.sg_groves.specs.Grove.{Grove}
use Rattle.sg_buffer.specs.Held.{state_of}
use Rattle.sg_printing.specs.At.{IsAt}
use Rattle.sg_printing.specs.Shown.{text_at}
use Rattle.sg_printing.specs.declared.printed.Form.TheVariants.{Page}
use Rattle.sg_printing.proofs.Along.{leads_in, at_node, shown_there}
use Rattle.sg_printing.proofs.reading.shown.Goals as goal

pub text_at-requires : goal.text_at-requires
text_at-requires c =
    let b = c.args.buffer.now in
    let t = (state_of b).term in
    let u = place_of c.args.path.now in
    let n = c.in-Some.n in
    let got = at_node b c.facts.ensures u n (leads_in b c.facts.ensures u c.terms.result.now c.root.result (Some n) c.terms.ensures c.root.ensures c.in-Some.ensures.leads) in
    (b.root, t, u, got.0, subst (λ (g : Grove). IsAt g b.root n t u got.0) (sym c.terms-in-Some.ensures) got.1)

pub returns-in-Some : goal.returns-in-Some
returns-in-Some c =
    let b = c.args.buffer.now in
    let t = (state_of b).term in
    let u = place_of c.args.path.now in
    let n = c.in-Some.n in
    let got = at_node b c.facts.ensures u n (leads_in b c.facts.ensures u c.terms.result.now c.root.result (Some n) c.terms.ensures c.root.ensures c.in-Some.ensures.leads) in
    let told = c.text_at.ensures b.root t u got.0 (subst (λ (g : Grove). IsAt g b.root n t u got.0) (sym c.terms-in-Some.ensures) got.1) in
    subst (λ (z : Option (List ℕ)). IfOk c.text_at.result (λ o. option_map (λ (s : Vec ℕ Global). s.items) o ≡ z))
    (ap (λ (g : Grove). text_at g.spec Page t u c.args.slot got.0) c.terms-in-Some.ensures ∙ shown_there b.grove.spec t u c.args.slot got.0 got.1.part) told
