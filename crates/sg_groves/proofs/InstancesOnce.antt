-- The instances of a term are the references that have an equation, each once.
use Rattle.std.specs.Prelude.{◌≡◌, ◌≢◌, refl, ℕ, ◌+◌, ◌<◌, Bool, true, false, cond, ◌&&◌, nat_eq, List, [], ◌∷◌, map, flat_map, find, length, Contains, Option, Some, None, slice_get, option_map, option_and_then, unwrap_or, is_some, IsTrue}
use Rattle.std.proofs.Common.{sym, ap, ◌∙◌, subst, arith, length-append}
use Rattle.std.proofs.lemmas.List.{length-map}
use Rattle.std.proofs.lemmas.List.Elements.{All-contains}
use Rattle.std.proofs.lemmas.List.Kept.{AllPairs-filter}
use Rattle.std.proofs.lemmas.Bool.{false≢true, and_parts}
use Rattle.std.proofs.lemmas.Option.{none-some, same_Some, slice_get_within}
use Rattle.sg_kinds.proofs.Elementary.{some_there, option_map_some, eq_is}
use Rattle.sg_kinds.specs.Terms.{Term}
use Rattle.sg_kinds.specs.Specification.{attrs_of, locals_of, phylum_of, is_inherited, is_way_inherited, rules_of}
use Rattle.sg_kinds.specs.Typing.{attr_types, slots_there, slot_type, types_at, is_typed}
use Rattle.sg_kinds.specs.Sound.{IsSound, is_rule_typed}
use Rattle.sg_kinds.specs.Places.{Place, sub, places_in}
use Rattle.sg_kinds.specs.Nets.{Net, Reference, NodeLabel, Operation, Holding, Missing, phylum_at, label_of, net_of}
use Rattle.sg_kinds.specs.Instances.{Site, defines, rule_for, rule_under, site_at, site_above, is_inherited_at, site_of, below, attr_count, slots_of, references_at, instances}
use Rattle.sg_kinds.specs.declared.spec.Spec.{Spec}
use Rattle.sg_kinds.specs.declared.spec.Rule.{Rule}
use Rattle.sg_kinds.specs.declared.spec.Attr.{Attr}
use Rattle.sg_kinds.specs.declared.spec.Local.{Local}
use Rattle.sg_groves.proofs.Lists.{contains_first, contains_later, AreApart, filter_to, filter_from, flat_to, flat_apart, map_to, map_from, map_apart, below_has, below_apart}
use Rattle.sg_groves.proofs.PlacesOnce.{place_there, places_apart}

-- what was found passes
found_passes : {X : Type 0} (p : X → Bool) (xs : List X) (x : X) → find p xs ≡ Some x → Contains xs x × (p x ≡ true)
found_passes p [] x at = absurd (none-some x at)
found_passes p (y ∷ xs) x at = by (p y) refl at (found_passes p xs x)
  where
    by : (b : Bool) → p y ≡ b → cond b (Some y) (find p xs) ≡ Some x → (find p xs ≡ Some x → Contains xs x × (p x ≡ true)) → Contains (y ∷ xs) x × (p x ≡ true)
    by true test got again = let same = same_Some y x got in (subst (Contains (y ∷ xs)) same (contains_first y xs), ap p (sym same) ∙ test)
    by false test got again = let found = again got in (contains_later y xs x found.0, found.1)

module _ (spec : Spec) (sound : IsSound spec) where
  -- what an equation defines is a slot of its operator
  target_typed : (r : Rule) → IsTrue (is_rule_typed spec r) → (p : ℕ) × (slot_type spec r.op r.target.at r.target.slot ≡ Some p)
  target_typed r = by (slot_type spec r.op r.target.at r.target.slot)
    where
      by : (o : Option ℕ) → IsTrue (unwrap_or (option_and_then (λ p. option_map (λ G. is_typed spec G r.expr p) (types_at spec r.op r.args)) o) false) → (p : ℕ) × (o ≡ Some p)
      by None test = absurd (false≢true test)
      by (Some p) test = (p, refl)

  attr_types-length : (o : Option ℕ) → length (attr_types spec o) ≡ attr_count (rules_of spec) o
  attr_types-length None = refl
  attr_types-length (Some p) = length-map (attrs_of spec.phyla p) (λ (a : Attr). a.of)

  own_slots : (op : ℕ) → length (slots_there spec op 0) ≡ slots_of (rules_of spec) (Operation op)
  own_slots op =
      length-append (attr_types spec (phylum_of spec.ops op)) (map (λ (l : Local). l.of) (locals_of spec.ops op))
      ∙ (λ i. attr_types-length (phylum_of spec.ops op) i + length-map (locals_of spec.ops op) (λ (l : Local). l.of) i)

  own_slot : (op slot : ℕ) (r : Rule) → rule_for spec.rules op (record { at = 0; slot = slot }) ≡ Some r → slot < slots_of (rules_of spec) (Operation op)
  own_slot op slot r at =
      let found = found_passes (defines op (record { at = 0; slot = slot })) spec.rules r at in
      let tests = and_parts (nat_eq r.op op) (nat_eq r.target.at 0 && nat_eq r.target.slot slot) found.1 in
      let targets = and_parts (nat_eq r.target.at 0) (nat_eq r.target.slot slot) tests.1 in
      let typed = target_typed r (All-contains (λ r. IsTrue (is_rule_typed spec r)) spec.rules r sound.rules.typed found.0) in
      let here : slot_type spec op 0 slot ≡ Some typed.0 = sym (λ i. slot_type spec (eq_is r.op op tests.0 i) (eq_is r.target.at 0 targets.0 i) (eq_is r.target.slot slot targets.1 i)) ∙ typed.1 in
      let low = slice_get_within (slots_there spec op 0) slot typed.0 here in
      omega (arith, low, own_slots op)

  inherited_slot : (l : NodeLabel) (slot : ℕ) → unwrap_or (option_map (λ p. is_inherited spec.phyla p slot) (phylum_at spec.ops l)) false ≡ true → slot < slots_of (rules_of spec) l
  inherited_slot l slot test = by l (phylum_at spec.ops l) refl test
    where
      attr : (p : ℕ) → is_inherited spec.phyla p slot ≡ true → slot < length (attrs_of spec.phyla p)
      attr p is = among (slice_get (attrs_of spec.phyla p) slot) refl is
        where
          among : (o : Option Attr) → slice_get (attrs_of spec.phyla p) slot ≡ o → unwrap_or (option_map (λ (a : Attr). is_way_inherited a.way) o) false ≡ true → slot < length (attrs_of spec.phyla p)
          among None at h = absurd (false≢true h)
          among (Some a) at h = slice_get_within (attrs_of spec.phyla p) slot a at

      by : (l : NodeLabel) (o : Option ℕ) → phylum_at spec.ops l ≡ o → unwrap_or (option_map (λ p. is_inherited spec.phyla p slot) o) false ≡ true → slot < slots_of (rules_of spec) l
      by l None at h = absurd (false≢true h)
      by Missing (Some p) at h = absurd (none-some p at)
      by (Holding q v) (Some p) at h = let low = attr p h in let count : attr_count (rules_of spec) (Some q) ≡ attr_count (rules_of spec) (Some p) = ap (attr_count (rules_of spec)) at in omega (arith, low, count)
      by (Operation op) (Some p) at h = let low = attr p h in let count : attr_count (rules_of spec) (phylum_of spec.ops op) ≡ attr_count (rules_of spec) (Some p) = ap (attr_count (rules_of spec)) at in omega (arith, low, count)

  some_slot : (l : NodeLabel) (slot : ℕ) → slot < slots_of (rules_of spec) l → l ≢ Missing
  some_slot l slot low same = let none : slots_of (rules_of spec) l ≡ 0 = ap (slots_of (rules_of spec)) same in omega (arith, low, none)

  module _ (t : Term) where
    abbrev net : Net Place
    net = net_of t

    -- a reference with an equation is a slot of its node
    site_slot : (a : Reference Place) (i : Site Place) → site_of (rules_of spec) net a ≡ Some i → a.slot < slots_of (rules_of spec) (net.label a.node)
    site_slot a i at = by (is_inherited_at (rules_of spec) net a) refl at
      where
        own : (l : NodeLabel) → option_map (λ r. record { node = a.node; rule = r }) (rule_under spec.rules l (record { at = 0; slot = a.slot })) ≡ Some i → a.slot < slots_of (rules_of spec) l
        own (Operation op) got = let found = option_map_some (λ r. record { node = a.node; rule = r }) (rule_for spec.rules op (record { at = 0; slot = a.slot })) i got in own_slot op a.slot found.0 found.1
        own (Holding p v) got = absurd (none-some i got)
        own Missing got = absurd (none-some i got)

        by : (b : Bool) → is_inherited_at (rules_of spec) net a ≡ b → cond b (site_above spec.rules net a.slot (net.up a.node)) (site_at spec.rules net a.node (record { at = 0; slot = a.slot })) ≡ Some i → a.slot < slots_of (rules_of spec) (net.label a.node)
        by true way got = inherited_slot (net.label a.node) a.slot way
        by false way got = own (net.label a.node) got

    label_there : (u : Place) → label_of (sub t u) ≢ Missing → Contains (places_in t) u
    label_there u some = by (sub t u) refl
      where
        by : (o : Option Term) → sub t u ≡ o → Contains (places_in t) u
        by None at = absurd (some (ap label_of at))
        by (Some s) at = place_there t u s at

    pub instance_has : (a : Reference Place) (i : Site Place) → site_of (rules_of spec) net a ≡ Some i → Contains (instances (rules_of spec) t) a
    instance_has a i at =
        let low = site_slot a i at in
        let place = label_there a.node (some_slot (net.label a.node) a.slot low) in
        let slots = slots_of (rules_of spec) (net.label a.node) in
        let here = map_to (λ slot. record { node = a.node; slot = slot }) (below slots) a.slot (below_has slots a.slot low) in
        filter_to (λ b. is_some (site_of (rules_of spec) net b)) (flat_map (references_at (rules_of spec) t) (places_in t)) a (flat_to (references_at (rules_of spec) t) (places_in t) a.node a place here) (ap is_some at)

module _ (spec : Spec) (t : Term) where
  pub instance_site : (a : Reference Place) → Contains (instances (rules_of spec) t) a → (i : Site Place) × (site_of (rules_of spec) (net_of t) a ≡ Some i)
  instance_site a has =
      let passes = filter_from (λ b. is_some (site_of (rules_of spec) (net_of t) b)) (flat_map (references_at (rules_of spec) t) (places_in t)) a has in
      some_there (site_of (rules_of spec) (net_of t) a) passes.1

  node_of : (u : Place) (a : Reference Place) → Contains (references_at (rules_of spec) t u) a → u ≡ a.node
  node_of u a has = let found = map_from (λ slot. record { node = u; slot = slot }) (below (slots_of (rules_of spec) ((net_of t).label u))) a has in ap (λ (b : Reference Place). b.node) found.2

  pub instances_apart : AreApart (instances (rules_of spec) t)
  instances_apart =
      AllPairs-filter (λ x y. x ≢ y) (λ b. is_some (site_of (rules_of spec) (net_of t) b)) (flat_map (references_at (rules_of spec) t) (places_in t))
      (flat_apart (references_at (rules_of spec) t)
      (λ u. map_apart (λ slot. record { node = u; slot = slot }) (λ x y same. ap (λ (b : Reference Place). b.slot) same) (below (slots_of (rules_of spec) ((net_of t).label u))) (below_apart (slots_of (rules_of spec) ((net_of t).label u))))
      (λ u v a one two. node_of u a one ∙ sym (node_of v a two))
      (places_in t) (places_apart t))
