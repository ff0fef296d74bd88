use Rattle.std.specs.Prelude.{◌≡◌, ℕ, ◌<◌, ◌≤◌, count_by, length, Option, Some, None, slice_get, option_map, unwrap_or, []}
use Rattle.std.proofs.Common.{refl, sym, arith, bytes_eq}
use Rattle.std.proofs.lemmas.List.Quantifiers.{position-Some}
use Rattle.std.proofs.lemmas.List.Filters.{length-filter_both}
use Rattle.std.proofs.lemmas.List.Sums.{length-filter}
use Rattle.sg_kinds.specs.Far.{is_far, is_written}
use Rattle.sg_kinds.specs.Sound.{AreCounted}
use Rattle.sg_kinds.specs.Specification.{attrs_of}
use Rattle.sg_kinds.specs.declared.marks.Way.TheVariants.{Synthesized}
use Rattle.sg_kinds.specs.declared.spec.Attr.{Attr}
use Rattle.sg_kinds.specs.declared.spec.Phylum.{Phylum}
use Rattle.sg_kinds.specs.declared.spec.Spec.{Spec}
use Rattle.sg_kinds.proofs.Elementary.{slice_get-All}
use Rattle.sg_report.proofs.attrs.named_in.Goals as goal

few_attrs : (spec : Spec) → AreCounted spec → (p : ℕ) → length (attrs_of spec.phyla p) ≤ 1048608
few_attrs spec counted p = by (slice_get spec.phyla p) refl
  where
    by : (o : Option Phylum) → slice_get spec.phyla p ≡ o → length (unwrap_or (option_map (λ (x : Phylum). x.attrs) o) []) ≤ 1048608
    by None here = omega arith
    by (Some x) here =
        let few = slice_get-All (λ (y : Phylum). (count_by is_written y.attrs ≤ 32) × (count_by is_far y.attrs ≤ 1048576)) spec.phyla p x counted.attrs here in
        omega (arith, few.0, few.1, length-filter_both is_written is_far (λ a. refl) x.attrs, length-filter is_written x.attrs, length-filter is_far x.attrs)

pub overflow_cast-result : goal.overflow_cast-result
overflow_cast-result c =
    let found = position-Some (λ (a : Attr). bytes_eq c.args.name.now a.name) c.attrs_of.result.now c.in-Some.slot (record { name = []; way = Synthesized; of = 0; far = [] }) (sym c.in-Some.ensures) in
    let low : c.in-Some.slot < length c.attrs_of.result.now = found.0 in
    let few : length c.attrs_of.result.now ≤ 1048608 = rw c.attrs_of.ensures (few_attrs c.args.spec.now c.requires.counted c.args.p) in
    omega (arith, low, few)
