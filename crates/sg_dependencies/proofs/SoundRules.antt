-- The equations of a sound specification are in range, and define what is theirs, and nothing twice.
use Rattle.std.specs.Prelude.{◌≡◌, ℕ, zero, suc, ◌+◌, ◌<◌, ◌≤◌, ◌&&◌, Bool, true, false, not, nat_eq, bytes_eq, cond, List, [], ◌∷◌, length, map, count_by, Option, None, Some, slice_get, option_map, option_and_then, unwrap_or, is_some, All, AllPairs, IsTrue}
use Rattle.std.proofs.Common.{refl, ap, ◌∙◌, get_or, arith, length-append}
use Rattle.std.proofs.lemmas.Bool.{false≢true, and_parts, and_from, eq-eqb}
use Rattle.std.proofs.lemmas.List.{length-map}
use Rattle.std.proofs.lemmas.List.Filters.{length-filter_both}
use Rattle.std.proofs.lemmas.List.Sums.{sum_by-cons, get_or-le-sum_by, length-filter}
use Rattle.std.proofs.lemmas.Option.{slice_get_within}
use Rattle.sg_kinds.specs.declared.spec.Spec.{Spec}
use Rattle.sg_kinds.specs.declared.spec.Rule.{Rule}
use Rattle.sg_kinds.specs.declared.spec.Phylum.{Phylum}
use Rattle.sg_kinds.specs.declared.spec.Local.{Local}
use Rattle.sg_kinds.specs.declared.spec.Attr.{Attr}
use Rattle.sg_kinds.specs.declared.spec.Occurrence.{Occurrence}
use Rattle.sg_kinds.specs.Specification.{attrs_of, args_of, locals_of, phylum_of, is_inherited, is_way_inherited, is_lexical_shape, rules_of}
use Rattle.sg_kinds.specs.Instances.{attr_count, defines}
use Rattle.sg_kinds.specs.Far.{is_far, is_written}
use Rattle.sg_kinds.specs.Dependencies.{is_inherited_there, phylum_there, occurrence}
use Rattle.sg_kinds.specs.Sound as sound
use Rattle.sg_kinds.specs.Sound.{AreCounted, HasShapes, HasRules, is_rule_typed}
use Rattle.sg_kinds.specs.Typing.{whitespace, is_usable, slot_type, slots_there, attr_types, types_at, is_typed}
use Rattle.sg_dependencies.specs.Proper.{is_owed, AreApart, AreProper}
use Rattle.sg_dependencies.specs.Vertices.{IsVertex, locals_there, AreInRange}
use Rattle.sg_dependencies.proofs.Directs.{op_there}

usable_low : (spec : Spec) (p : ℕ) → IsTrue (is_usable spec p) → p < length spec.phyla
usable_low spec p is = by (slice_get spec.phyla p) refl is
  where
    by : (o : Option Phylum) → slice_get spec.phyla p ≡ o → unwrap_or (option_map (λ (x : Phylum). not (is_lexical_shape x.shape && bytes_eq x.name whitespace)) o) false ≡ true → p < length spec.phyla
    by None at h = absurd (false≢true h)
    by (Some x) at h = slice_get_within spec.phyla p x at

types_long : (spec : Spec) (o : Option ℕ) → length (attr_types spec o) ≡ attr_count (rules_of spec) o
types_long spec None = refl
types_long spec (Some X) = length-map (attrs_of spec.phyla X) (λ (a : Attr). a.of)

-- a slot with a type is there
slots_long : (spec : Spec) (p k : ℕ) → length (slots_there spec p k) ≡ attr_count (rules_of spec) (phylum_there spec.ops p k) + locals_there (rules_of spec) p k
slots_long spec p zero =
    length-append (attr_types spec (phylum_of spec.ops p)) (map (λ (l : Local). l.of) (locals_of spec.ops p))
    ∙ omega (arith, types_long spec (phylum_of spec.ops p), length-map (locals_of spec.ops p) (λ (l : Local). l.of))
slots_long spec p (suc k) = omega (arith, types_long spec (slice_get (args_of spec.ops p) k))

typed_there : (spec : Spec) (p k slot : ℕ) → is_some (slot_type spec p k slot) ≡ true → IsVertex (rules_of spec) p (occurrence k slot)
typed_there spec p k slot is = by (slot_type spec p k slot) refl is
  where
    by : (o : Option ℕ) → slot_type spec p k slot ≡ o → is_some o ≡ true → IsVertex (rules_of spec) p (occurrence k slot)
    by None at h = absurd (false≢true h)
    by (Some x) at h = let low = slice_get_within (slots_there spec p k) slot x at in omega (arith, low, slots_long spec p k)

-- an inherited attribute is there
inherited_low : (spec : Spec) (o : Option ℕ) (slot : ℕ) → unwrap_or (option_map (λ X. is_inherited spec.phyla X slot) o) false ≡ true → slot < attr_count (rules_of spec) o
inherited_low spec None slot is = absurd (false≢true is)
inherited_low spec (Some X) slot is = by (slice_get (attrs_of spec.phyla X) slot) refl is
  where
    by : (o : Option Attr) → slice_get (attrs_of spec.phyla X) slot ≡ o → unwrap_or (option_map (λ (a : Attr). is_way_inherited a.way) o) false ≡ true → slot < length (attrs_of spec.phyla X)
    by None at h = absurd (false≢true h)
    by (Some x) at h = slice_get_within (attrs_of spec.phyla X) slot x at

-- what is owed is there, and to be defined
owed_vertex : (spec : Spec) (p k slot : ℕ) → sound.is_owed spec p k slot ≡ true → IsVertex (rules_of spec) p (occurrence k slot) × (is_owed (rules_of spec) p k slot ≡ true)
owed_vertex spec p zero slot is =
    let parts = and_parts (is_some (slot_type spec p 0 slot)) (not (is_inherited_there (rules_of spec) p 0 slot)) is in
    (typed_there spec p 0 slot parts.0, parts.1)
owed_vertex spec p (suc k) slot is =
    let low = inherited_low spec (phylum_there spec.ops p (suc k)) slot is in
    (omega (arith, low), is)

-- what an equation names has types, so it is there
named_there : (spec : Spec) (p : ℕ) (os : List Occurrence) → is_some (types_at spec p os) ≡ true → All (IsVertex (rules_of spec) p) os
named_there spec p [] is = λ k d low. absurd (omega (arith, low))
named_there spec p (o ∷ os) is = by (slot_type spec p o.at o.slot) refl (types_at spec p os) refl is (λ rest. named_there spec p os rest)
  where
    by : (t : Option ℕ) → slot_type spec p o.at o.slot ≡ t → (ts : Option (List ℕ)) → types_at spec p os ≡ ts → is_some (option_and_then (λ q. option_map (λ qs. q ∷ qs) ts) t) ≡ true
        → (is_some (types_at spec p os) ≡ true → All (IsVertex (rules_of spec) p) os) → All (IsVertex (rules_of spec) p) (o ∷ os)
    by None at ts are h rest = absurd (false≢true h)
    by (Some t) at None are h rest = absurd (false≢true h)
    by (Some t) at (Some ts) are h rest = among (typed_there spec p o.at o.slot (ap is_some at)) (rest (ap is_some are))
      where
        among : IsVertex (rules_of spec) p (occurrence o.at o.slot) → All (IsVertex (rules_of spec) p) os → (k : ℕ) (d : Occurrence) → k < length (o ∷ os) → IsVertex (rules_of spec) p (get_or (o ∷ os) k d)
        among first others zero d low = first
        among first others (suc k) d low = others k d (omega (arith, low))

rule_names : (spec : Spec) (r : Rule) → is_rule_typed spec r ≡ true → is_some (types_at spec r.op r.args) ≡ true
rule_names spec r is = by (slot_type spec r.op r.target.at r.target.slot) (types_at spec r.op r.args) is
  where
    by : (t : Option ℕ) (ts : Option (List ℕ)) → unwrap_or (option_and_then (λ p. option_map (λ G. is_typed spec G r.expr p) ts) t) false ≡ true → is_some ts ≡ true
    by None ts h = absurd (false≢true h)
    by (Some t) None h = absurd (false≢true h)
    by (Some t) (Some ts) h = refl

abbrev number_of : Bool → ℕ
number_of b = cond b 1 0

-- two elements that pass count
count_two : {X : Type 0} (p : X → Bool) (xs : List X) (i j : ℕ) (d : X) → i < j → j < length xs → p (get_or xs i d) ≡ true → p (get_or xs j d) ≡ true → 2 ≤ count_by p xs
count_two p [] i j d less low first second = absurd (omega (arith, low))
count_two p (x ∷ xs) i zero d less low first second = absurd (omega (arith, less))
count_two p (x ∷ xs) zero (suc j) d less low first second =
    let rest = get_or-le-sum_by (λ y. cond (p y) 1 0) xs j d (omega (arith, low)) in
    let here : number_of (p x) ≡ number_of true = ap number_of first in
    let there : number_of (p (get_or xs j d)) ≡ number_of true = ap number_of second in
    omega (arith, sum_by-cons (λ y. cond (p y) 1 0) x xs, here, there, rest)
count_two p (x ∷ xs) (suc i) (suc j) d less low first second =
    let rest = count_two p xs i j d (omega (arith, less)) (omega (arith, low)) first second in
    omega (arith, sum_by-cons (λ y. cond (p y) 1 0) x xs, rest)

module _ (spec : Spec) (counted : AreCounted spec) (shapes : HasShapes spec) (rules : HasRules spec) where
  targets : All (λ (r : Rule). IsVertex (rules_of spec) r.op r.target) spec.rules
  targets k d low = (owed_vertex spec (get_or spec.rules k d).op (get_or spec.rules k d).target.at (get_or spec.rules k d).target.slot (rules.no_other k d low)).0

  defines_itself : (r s : Rule) → r.op ≡ s.op → r.target ≡ s.target → defines s.op s.target r ≡ true
  defines_itself r s op target =
      and_from (nat_eq r.op s.op) (nat_eq r.target.at s.target.at && nat_eq r.target.slot s.target.slot) (eq-eqb r.op s.op op)
      (and_from (nat_eq r.target.at s.target.at) (nat_eq r.target.slot s.target.slot) (eq-eqb r.target.at s.target.at (ap (λ (o : Occurrence). o.at) target)) (eq-eqb r.target.slot s.target.slot (ap (λ (o : Occurrence). o.slot) target)))

  apart : AllPairs AreApart spec.rules
  apart i j d less low op target =
      let s = get_or spec.rules j d in
      let owed = rules.no_other j d low in
      let there = op_there (rules_of spec) s.op s.target (targets j d low) in
      let one = rules.one_each s.op s.target.at s.target.slot there owed in
      let two = count_two (defines s.op (record { at = s.target.at; slot = s.target.slot })) spec.rules i j d less low (defines_itself (get_or spec.rules i d) s op target) (defines_itself s s refl refl) in
      omega (arith, one, two)

  pub sound_proper : AreProper (rules_of spec)
  sound_proper = record {
    owed = λ k d low. (owed_vertex spec (get_or spec.rules k d).op (get_or spec.rules k d).target.at (get_or spec.rules k d).target.slot (rules.no_other k d low)).1;
    once = apart;
  }

  pub sound_range : AreInRange (rules_of spec)
  sound_range = record {
    few = record {
      ops = let f = counted.ops in omega (arith, f);
      attrs = λ k d low.
          let f = counted.attrs k d low in
          let all = (get_or spec.phyla k d).attrs in
          omega (arith, f.0, f.1, length-filter_both is_written is_far (λ a. refl) all, length-filter is_written all, length-filter is_far all);
      args = λ k d low. let f = counted.args k d low in omega (arith, f);
      locals = λ k d low. let f = counted.locals k d low in omega (arith, f);
      equations = counted.rules;
    };
    phyla = record {
      left = shapes.ops;
      args = λ k d low i e under. usable_low spec (get_or (get_or spec.ops k d).args i e) (shapes.args k d low i e under);
    };
    equations = record {
      targets = targets;
      args = λ k d low. named_there spec (get_or spec.rules k d).op (get_or spec.rules k d).args (rule_names spec (get_or spec.rules k d) (rules.typed k d low));
    };
  }
