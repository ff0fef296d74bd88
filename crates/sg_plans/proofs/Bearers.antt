-- Equations of a term and what they define find each other.
use Rattle.std.specs.Prelude.{◌≡◌, ℕ, zero, suc, Bool, true, false, not, cond, [], ◌∷◌, Option, None, Some, slice_get, unwrap_or, option_map}
use Rattle.std.proofs.Common.{refl, sym, ap, ◌∙◌, subst, inl, inr}
use Rattle.std.proofs.lemmas.Bool.{false≢true}
use Rattle.std.proofs.lemmas.List.Elements.{All-contains}
use Rattle.std.proofs.lemmas.Option.{none-some}
use Rattle.sg_kinds.specs.declared.spec.Spec.{Spec}
use Rattle.sg_kinds.specs.declared.spec.Rules.{Rules}
use Rattle.sg_kinds.specs.declared.spec.Rule.{Rule}
use Rattle.sg_kinds.specs.declared.spec.Occurrence.{Occurrence}
use Rattle.sg_kinds.specs.Values.{Value}
use Rattle.sg_kinds.specs.Terms.{Term}
use Rattle.sg_kinds.specs.Fits.{Fits}
use Rattle.sg_kinds.specs.Sound.{IsSound}
use Rattle.sg_kinds.specs.Specification.{args_of, is_inherited, rules_of}
use Rattle.sg_kinds.specs.Places.{Place, sub}
use Rattle.sg_kinds.specs.Nets.{Net, Reference, Operation, Holding, phylum_at, referred, label_of, net_of}
use Rattle.sg_kinds.specs.Instances.{Site, rule_for, rule_under, site_at, site_above, is_inherited_at, site_of}
use Rattle.sg_kinds.specs.Dependencies.{is_inherited_there, occurrence}
use Rattle.sg_orders.specs.Keys.{operation, operator_in}
use Rattle.sg_dependencies.specs.Proper.{is_owed, IsOwed, AreProper}
use Rattle.sg_dependencies.specs.Vertices.{IsVertex, AreInRange}
use Rattle.sg_dependencies.proofs.SoundRules.{sound_range, sound_proper}
use Rattle.sg_orders.specs.LiveSites.{IsLive}
use Rattle.sg_orders.proofs.KeysFall.{IsSiteAt, site_found}
use Rattle.sg_plans.specs.Segments.{bearer}
use Rattle.sg_plans.proofs.Equations.{rule_is, owed_rule, leaf_inherits_nothing}
use Rattle.sg_plans.proofs.Nodes.{IsNodeAt, node_label, not_held, leaf_fits, leaf_or_node, fitting_phylum, node_at}

-- an equation that is found bears what it is found for
pub record IsFound (rules : Rules) (t : Term) (a : Reference Place) (i : Site Place) : Type 0 where
  pub live : IsLive rules t i
  pub bears : bearer t i ≡ a

found_there : (rules : Rules) (t : Term) (u : Place) (o : Occurrence) (i : Site Place) → IsSiteAt rules t u o i → IsFound rules t (referred (net_of t) u o) i
found_there rules t u o i is = record {
  live = record { label = ap (λ v. label_of (sub t v)) is.node ∙ is.label ∙ ap (λ n. Operation n) (sym is.rule.op_is); stands = is.rule.stands };
  bears = ap (λ n. referred (net_of t) n i.rule.target) is.node ∙ ap (referred (net_of t) u) is.rule.target;
}

pub found : (rules : Rules) (t : Term) (a : Reference Place) (i : Site Place) → site_of rules (net_of t) a ≡ Some i → IsFound rules t a i
found rules t a i is = by a.node a.slot (is_inherited_at rules (net_of t) a) refl is
  where
    by : (u : Place) (slot : ℕ) (b : Bool) → is_inherited_at rules (net_of t) (record { node = u; slot = slot }) ≡ b
        → cond b (site_above rules.rules (net_of t) slot ((net_of t).up u)) (site_at rules.rules (net_of t) u (occurrence 0 slot)) ≡ Some i → IsFound rules t (record { node = u; slot = slot }) i
    by u slot false way got = found_there rules t u (occurrence 0 slot) i (site_found rules t u (occurrence 0 slot) i got)
    by [] slot true way got = absurd (none-some i got)
    by (k ∷ w) slot true way got = found_there rules t w (occurrence (suc k) slot) i (site_found rules t w (occurrence (suc k) slot) i got)

pub found_live : (rules : Rules) (t : Term) (a : Reference Place) (i : Site Place) → site_of rules (net_of t) a ≡ Some i → IsLive rules t i
found_live rules t a i is = (found rules t a i is).live

pub found_bears : (rules : Rules) (t : Term) (a : Reference Place) (i : Site Place) → site_of rules (net_of t) a ≡ Some i → bearer t i ≡ a
found_bears rules t a i is = (found rules t a i is).bears

-- an inherited attribute of an argument
pub record IsInheritedBy (rules : Rules) (op k slot : ℕ) : Type 0 where
  pub phylum : ℕ
  pub arg : slice_get (args_of rules.ops op) k ≡ Some phylum
  pub inherited : is_inherited rules.phyla phylum slot ≡ true

pub inherited_by_argument : (rules : Rules) (op k slot : ℕ) → is_inherited_there rules op (suc k) slot ≡ true → IsInheritedBy rules op k slot
inherited_by_argument rules op k slot is = by (slice_get (args_of rules.ops op) k) refl is
  where
    by : (o : Option ℕ) → slice_get (args_of rules.ops op) k ≡ o → unwrap_or (option_map (λ X. is_inherited rules.phyla X slot) o) false ≡ true → IsInheritedBy rules op k slot
    by None at h = absurd (false≢true h)
    by (Some X) at h = record { phylum = X; arg = at; inherited = h }

pub inherited_at : (rules : Rules) (t : Term) (u : Place) (X slot : ℕ) → phylum_at rules.ops (label_of (sub t u)) ≡ Some X → is_inherited_at rules (net_of t) (record { node = u; slot = slot }) ≡ is_inherited rules.phyla X slot
inherited_at rules t u X slot is = ap (λ o. unwrap_or (option_map (λ p. is_inherited rules.phyla p slot) o) false) is

module _ (spec : Spec) (t : Term) (root : ℕ) (sound : IsSound spec) (fits : Fits spec t root) where
  abbrev rules : Rules
  rules = rules_of spec

  abbrev net : Net Place
  net = net_of t

  pub ranges : AreInRange (rules_of spec)
  ranges = sound_range spec sound.counted sound.shapes sound.rules

  pub proper : AreProper (rules_of spec)
  proper = sound_proper spec sound.counted sound.shapes sound.rules

  site_here : (u : Place) (o : Occurrence) (r : Rule) → IsNodeAt t u → rule_for rules.rules (operator_in t u) o ≡ Some r → site_at rules.rules net u o ≡ Some (record { node = u; rule = r })
  site_here u o r is there =
      ap (λ l. option_map (λ (x : Rule). record { node = u; rule = x }) (rule_under rules.rules l o)) is ∙ ap (option_map (λ (x : Rule). record { node = u; rule = x })) there

  -- what a node's own equation defines finds it
  pub site_for : (u : Place) (o : Occurrence) (r : Rule) → IsNodeAt t u → is_owed rules (operator_in t u) o.at o.slot ≡ true → rule_for rules.rules (operator_in t u) o ≡ Some r → site_of rules net (referred net u o) ≡ Some (record { node = u; rule = r })
  site_for u o r is owed there = by o.at o.slot owed (site_here u o r is there)
    where
      by : (k slot : ℕ) → is_owed rules (operator_in t u) k slot ≡ true → site_at rules.rules net u (occurrence k slot) ≡ Some (record { node = u; rule = r }) → site_of rules net (referred net u (occurrence k slot)) ≡ Some (record { node = u; rule = r })
      by zero slot own at =
          let no : is_inherited_at rules net (record { node = u; slot = slot }) ≡ false =
          ap (λ l. unwrap_or (option_map (λ p. is_inherited rules.phyla p slot) (phylum_at rules.ops l)) false) is ∙ not_true (is_inherited_there rules (operator_in t u) 0 slot) own in
          ap (λ b. cond b (site_above rules.rules net slot (net.up u)) (site_at rules.rules net u (occurrence 0 slot))) no ∙ at
        where
          not_true : (b : Bool) → not b ≡ true → b ≡ false
          not_true true h = absurd (false≢true h)
          not_true false h = refl
      by (suc k) slot own at =
          let inherits = inherited_by_argument rules (operator_in t u) k slot own in
          let kid = (node_at spec t root fits u is).kid k inherits.phylum inherits.arg in
          let phylum : phylum_at rules.ops (label_of (sub t (k ∷ u))) ≡ Some inherits.phylum = ap (λ x. phylum_at rules.ops (label_of x)) kid.1 ∙ fitting_phylum spec kid.0 inherits.phylum kid.2 in
          ap (λ b. cond b (site_above rules.rules net slot (net.up (k ∷ u))) (site_at rules.rules net (k ∷ u) (occurrence 0 slot))) (inherited_at rules t (k ∷ u) inherits.phylum slot phylum ∙ inherits.inherited) ∙ at

  -- what is owed at a node has an equation there
  pub record IsOwnSite (u : Place) (o : Occurrence) : Type 0 where
    pub rule : Rule
    pub target : rule.target ≡ o
    pub live : IsLive rules t (record { node = u; rule = rule })
    pub found : site_of rules net (referred net u o) ≡ Some (record { node = u; rule = rule })

  pub owed_site : (u : Place) (o : Occurrence) → IsNodeAt t u → IsVertex rules (operator_in t u) o → is_owed rules (operator_in t u) o.at o.slot ≡ true → IsOwnSite u o
  owed_site u o is there owed =
      let r = owed_rule spec sound.rules (operator_in t u) o there owed in
      let at = site_for u o r.0 is owed r.1 in
      let known = site_found rules t u o (record { node = u; rule = r.0 }) (site_here u o r.0 is r.1) in
      record { rule = r.0; target = known.rule.target; live = (found_there rules t u o (record { node = u; rule = r.0 }) known).live; found = at }

  module _ (i : Site Place) (live : IsLive rules t i) where
    pub live_node : IsNodeAt t i.node
    live_node = node_label t i.node i.rule.op live.label

    pub live_op : operator_in t i.node ≡ i.rule.op
    live_op = ap operation live.label

    pub target_vertex : IsVertex rules i.rule.op i.rule.target
    target_vertex = All-contains (λ (r : Rule). IsVertex rules r.op r.target) rules.rules i.rule ranges.equations.targets live.stands

    pub target_owed : is_owed rules i.rule.op i.rule.target.at i.rule.target.slot ≡ true
    target_owed = All-contains (IsOwed rules) rules.rules i.rule proper.owed live.stands

    -- an equation is what is found for its bearer
    pub bearer_found : site_of rules net (bearer t i) ≡ Some i
    bearer_found =
        site_for i.node i.rule.target i.rule live_node (subst (λ n. is_owed rules n i.rule.target.at i.rule.target.slot ≡ true) (sym live_op) target_owed)
        (ap (λ n. rule_for rules.rules n i.rule.target) live_op ∙ rule_is rules proper i.rule live.stands)

    -- it bears no leaf's slot
    pub bearer_no_leaf : (p : ℕ) (v : Value) → label_of (sub t (bearer t i).node) ≡ Holding p v → ⊥
    bearer_no_leaf p v label = by i.rule.target.at i.rule.target.slot target_owed label
      where
        by : (k slot : ℕ) → is_owed rules i.rule.op k slot ≡ true → label_of (sub t (referred net i.node (occurrence k slot)).node) ≡ Holding p v → ⊥
        by zero slot owed held = not_held i.rule.op p v (sym held ∙ live.label)
        by (suc k) slot owed held =
            let inherits = inherited_by_argument rules i.rule.op k slot owed in
            let kid = (node_at spec t root fits i.node live_node).kid k inherits.phylum (ap (λ n. slice_get (args_of rules.ops n) k) live_op ∙ inherits.arg) in
            elim (leaf_or_node t (k ∷ i.node) kid.0 kid.1) [
              | inl leaf ↦ false≢true (sym (leaf_inherits_nothing spec sound.shapes inherits.phylum slot (leaf_fits spec leaf.0 leaf.1 inherits.phylum (subst (λ s. Fits spec s inherits.phylum) leaf.2 kid.2))) ∙ inherits.inherited)
              | inr node ↦ not_held (operator_in t (k ∷ i.node)) p v (sym held ∙ node)
            ]
