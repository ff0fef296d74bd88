-- A node whose operator has no locals has no value but its attributes'.
use Rattle.std.specs.Prelude.{◌≡◌, refl, ℕ, zero, suc, ◌≤◌, false, cond, [], length, Option, None, Some, slice_get, option_map, unwrap_or}
use Rattle.std.proofs.Common.{sym, ap, ◌∙◌, subst, arith}
use Rattle.std.proofs.lemmas.List.Elements.{All-contains}
use Rattle.std.proofs.lemmas.Option.{slice_get_within}
use Rattle.sg_kinds.specs.Values.{Fault}
use Rattle.sg_kinds.specs.Terms.{Term}
use Rattle.sg_kinds.specs.Places.{Place, sub}
use Rattle.sg_kinds.specs.Nets.{Reference, Operation, label_of, net_of, phylum_at}
use Rattle.sg_kinds.specs.Instances.{Site, attr_count, instances, is_inherited_at, site_above, site_at, site_of}
use Rattle.sg_kinds.specs.Dependencies.{occurrence}
use Rattle.sg_kinds.specs.FromScratch.{leaf_or, scratch, site_value, value_in}
use Rattle.sg_orders.specs.Keys.{operation}
use Rattle.sg_kinds.specs.Sound.{IsSound}
use Rattle.sg_kinds.specs.Specification.{attrs_of, is_inherited, is_way_inherited, locals_of, phylum_of, rules_of}
use Rattle.sg_kinds.specs.declared.marks.FaultKind.TheVariants.{Fuel}
use Rattle.sg_kinds.specs.declared.spec.Attr.{Attr}
use Rattle.sg_kinds.specs.declared.spec.Occurrence.{Occurrence}
use Rattle.sg_kinds.specs.declared.spec.Rule.{Rule}
use Rattle.sg_kinds.specs.declared.spec.Rules.{Rules}
use Rattle.sg_kinds.specs.declared.spec.Spec.{Spec}
use Rattle.sg_dependencies.specs.Vertices.{IsVertex}
use Rattle.sg_dependencies.proofs.SoundRules.{sound_range}
use Rattle.sg_orders.proofs.KeysFall.{site_found}

module _ (spec : Spec) (sound : IsSound spec) (op : ℕ) (none : locals_of spec.ops op ≡ []) (slot : ℕ) (high : attr_count (rules_of spec) (phylum_of spec.ops op) ≤ slot) where
  abbrev rules : Rules
  rules = rules_of spec

  not_inherited : (o : Option ℕ) → attr_count rules o ≤ slot → unwrap_or (option_map (λ X. is_inherited spec.phyla X slot) o) false ≡ false
  not_inherited None h = refl
  not_inherited (Some X) h = by (slice_get (attrs_of spec.phyla X) slot) refl
    where
      by : (o : Option Attr) → slice_get (attrs_of spec.phyla X) slot ≡ o → unwrap_or (option_map (λ (a : Attr). is_way_inherited a.way) (slice_get (attrs_of spec.phyla X) slot)) false ≡ false
      by None e = ap (λ o. unwrap_or (option_map (λ (a : Attr). is_way_inherited a.way) o) false) e
      by (Some a) e = let low = slice_get_within (attrs_of spec.phyla X) slot a e in absurd (omega (arith, low, h))

  module _ (t : Term) (p : Place) (is : label_of (sub t p) ≡ Operation op) where
    abbrev here : Reference Place
    here = record { node = p; slot = slot }

    no_equation : site_at rules.rules (net_of t) p (occurrence 0 slot) ≡ None
    no_equation = by (site_at rules.rules (net_of t) p (occurrence 0 slot)) refl
      where
        by : (o : Option (Site Place)) → site_at rules.rules (net_of t) p (occurrence 0 slot) ≡ o → site_at rules.rules (net_of t) p (occurrence 0 slot) ≡ None
        by None e = e
        by (Some i) e =
            let f = site_found rules t p (occurrence 0 slot) i e in
            let of_op : i.rule.op ≡ op = ap operation (ap (λ n. Operation n) f.rule.op_is ∙ sym f.label ∙ is) in
            let there = All-contains (λ (r : Rule). IsVertex rules r.op r.target) rules.rules i.rule (sound_range spec sound.counted sound.shapes sound.rules).equations.targets f.rule.stands in
            let vertex : IsVertex rules op (occurrence 0 slot) = subst (λ n. IsVertex rules n (occurrence 0 slot)) of_op (subst (λ (o : Occurrence). IsVertex rules i.rule.op o) f.rule.target there) in
            let few : length (locals_of spec.ops op) ≡ 0 = ap length none in
            absurd (omega (arith, vertex, few, high))

    no_site : site_of rules (net_of t) here ≡ None
    no_site =
        let own : is_inherited_at rules (net_of t) here ≡ false = ap (λ l. unwrap_or (option_map (λ X. is_inherited spec.phyla X slot) (phylum_at spec.ops l)) false) is ∙ not_inherited (phylum_of spec.ops op) high in
        ap (λ b. cond b (site_above rules.rules (net_of t) slot ((net_of t).up p)) (site_at rules.rules (net_of t) p (occurrence 0 slot))) own ∙ no_equation

    no_scratch : (n : ℕ) → scratch spec (net_of t) n here ≡ leaf_or (label_of (sub t p)) (Fault Fuel)
    no_scratch zero = refl
    no_scratch (suc n) = ap (λ o. leaf_or (label_of (sub t p)) (site_value spec (net_of t) (scratch spec (net_of t) n) o)) no_site

    pub no_value : value_in spec t here ≡ leaf_or (Operation op) (Fault Fuel)
    no_value = no_scratch (length (instances rules t)) ∙ ap (λ l. leaf_or l (Fault Fuel)) is
