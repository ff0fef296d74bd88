use Rattle.std.specs.Prelude.{◌≡◌, ℕ, List, length, refl, Option, option_map, IfOk, slice_get}
use Rattle.std.proofs.Common.{sym, ap, ◌∙◌, subst, Vec, Global}
use Rattle.std.proofs.lemmas.Option.{slice_get_read}
use Rattle.sg_kinds.specs.Specification.{attrs_of}
use Rattle.sg_pool.specs.Pools.{value_at}
use Rattle.sg_printing.specs.Printed.{printed}
use Rattle.sg_printing.proofs.Along.{at_holds, at_live}
use Rattle.sg_printing.proofs.Texts.{past, text_none, has_number, text_some}
use Rattle.sg_printing.proofs.reading.text_at.Goals as goal

pub phylum_number-p-requires : goal.phylum_number-p-requires
phylum_number-p-requires c = let r = c.requires in at_live c.args.terms.now c.facts.ensures r.0 c.args.n r.1 r.2 r.3 r.4

pub returns-in_default : goal.returns-in_default
returns-in_default c = λ root t u x at.
    let g = c.args.terms.now in
    let p = c.phylum_number-p.result in
    let fits = c.phylum_number-p.ensures x (at_holds g c.facts.ensures root c.args.n t u x at) in
    let of = c.attrs_of-attrs.ensures ∙ ap (λ s. attrs_of s.phyla p) c.spec.ensures in
    let none = past c.attrs_of-attrs.result.now c.args.slot c.get.result c.get.ensures.lookup c.in_default.is in
    text_none g c.facts.ensures root c.args.n t u x at p fits c.args.slot c.args.form (ap (λ xs. slice_get xs c.args.slot) (sym of) ∙ none)

pub stored-id-requires : goal.stored-id-requires
stored-id-requires c =
    let r = c.requires in
    let g = c.args.terms.now in
    let p = c.phylum_number-p.result in
    let fits = c.phylum_number-p.ensures r.3 (at_holds g c.facts.ensures r.0 c.args.n r.1 r.2 r.3 r.4) in
    let of = c.attrs_of-attrs.ensures ∙ ap (λ s. attrs_of s.phyla p) c.spec.ensures in
    let xs = c.attrs_of-attrs.result.now in
    let a = c.in-Some.attr.now in
    let l = c.in-Some.ensures.lookup in
    let there = slice_get_read xs (length xs) c.args.slot a refl l.3.0 (l.3.1 a) in
    has_number g c.facts.ensures r.0 c.args.n r.1 r.2 r.3 r.4 p fits c.args.slot a (ap (λ ys. slice_get ys c.args.slot) (sym of) ∙ there)

pub returns : goal.returns
returns c = λ root t u x at.
    let g = c.args.terms.now in
    let p = c.phylum_number-p.result in
    let fits = c.phylum_number-p.ensures x (at_holds g c.facts.ensures root c.args.n t u x at) in
    let of = c.attrs_of-attrs.ensures ∙ ap (λ s. attrs_of s.phyla p) c.spec.ensures in
    let xs = c.attrs_of-attrs.result.now in
    let a = c.in-Some.attr.now in
    let l = c.in-Some.ensures.lookup in
    let there = slice_get_read xs (length xs) c.args.slot a refl l.3.0 (l.3.1 a) in
    let id = c.stored-id.result in
    let told = ap (λ s. printed c.args.form s a.of (value_at c.pool.result.now id)) c.spec-2.ensures
    ∙ ap (λ q. printed c.args.form g.spec a.of (value_at q id)) c.pool.ensures
    ∙ text_some g c.facts.ensures root c.args.n t u x at p fits c.args.slot a (ap (λ ys. slice_get ys c.args.slot) (sym of) ∙ there) c.args.form id c.stored-id.ensures.number
    (printed c.args.form g.spec a.of (value_at g.pool id)) refl in
    subst (λ (z : Option (List ℕ)). IfOk c.printed.result (λ o. option_map (λ (s : Vec ℕ Global). s.items) o ≡ z)) told c.printed.ensures
