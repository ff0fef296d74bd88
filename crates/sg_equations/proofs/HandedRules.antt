-- The rules that hand far attributes down are those of attributes that equations do not owe, and are well typed.
use Rattle.std.proofs.Common.{◌≡◌, refl, sym, ap, ◌∙◌, ℕ, suc, Bool, true, false, List, [], ◌∷◌, Option, Some, None, slice_get}
use Rattle.std.specs.Prelude.{◌&&◌, ◌||◌, not, nat_eq, is_some, option_map, option_and_then, unwrap_or}
use Rattle.std.specs.List.{AllByRecursion as Each}
use Rattle.std.proofs.lemmas.Bool.{and_parts}
use Rattle.std.proofs.lemmas.Option.{slice_get-map, same_Some}
use Rattle.sg_kinds.specs.Dependencies.{occurrence, phylum_there}
use Rattle.sg_kinds.specs.Expressions.{Expr, Named}
use Rattle.sg_kinds.specs.Far.{is_far}
use Rattle.sg_kinds.specs.Instances.{defines}
use Rattle.sg_kinds.specs.Sound.{is_owed, is_rule_typed}
use Rattle.sg_kinds.specs.Specification.{texts, attrs_of, args_of, has_shape, is_lexical_shape, is_inherited, is_way_inherited}
use Rattle.sg_kinds.specs.Typing.{attr_types, is_found, is_typed, slot_type, type_of, types_at}
use Rattle.sg_kinds.specs.declared.spec.Attr.{Attr}
use Rattle.sg_kinds.specs.declared.spec.Occurrence.{Occurrence}
use Rattle.sg_kinds.specs.declared.spec.Rule.{Rule}
use Rattle.sg_kinds.specs.declared.spec.Spec.{Spec}
use Rattle.sg_kinds.proofs.Elementary.{eq_is, eq_itself}
use Rattle.sg_names.specs.Drafted.{HasTable, drafted}
use Rattle.sg_names.specs.declared.table.Table.{Table}
use Rattle.sg_names.proofs.DraftedLaws.{slot_kept}
use Rattle.sg_remote.specs.Handing.{source, rule, handing}
use Rattle.sg_equations.specs.Handed.{AreHandedDown}
use Rattle.sg_equations.specs.Owed.{is_far_slot, is_far_there, owes}
use Rattle.sg_equations.proofs.HandedOnce.{NoneOf, each_weaker, each_handing, source_far}

-- rules of one occurrence are far or not together
same_far_there : (t : Table) (op : ℕ) (o : Occurrence) (r : Rule) → defines op o r ≡ true → is_far_there t r.op r.target ≡ is_far_there t op o
same_far_there t op o r h =
    let p = and_parts (nat_eq r.op op) (nat_eq r.target.at o.at && nat_eq r.target.slot o.slot) h in
    let q = and_parts (nat_eq r.target.at o.at) (nat_eq r.target.slot o.slot) p.1 in
    λ i. is_far_there t (eq_is r.op op p.0 i) (record { at = eq_is r.target.at o.at q.0 i; slot = eq_is r.target.slot o.slot q.1 i })

other_kind : (t : Table) (op : ℕ) (o : Occurrence) (b : Bool) → is_far_there t op o ≡ b → (r : Rule) → is_far_there t r.op r.target ≡ not b → defines op o r ≡ false
other_kind t op o b is r other = by (defines op o r) refl
  where
    unequal : (c : Bool) → c ≡ not c → ⊥
    unequal true e = cc
    unequal false e = cc

    by : (c : Bool) → defines op o r ≡ c → c ≡ false
    by true e = absurd (unequal b (sym is ∙ sym (same_far_there t op o r e) ∙ other))
    by false e = refl

not_far : (a b : Bool) → (a && not b) ≡ true → b ≡ false
not_far true true h = cc
not_far true false h = refl
not_far false b h = cc

-- rules of what is owed define no far attribute
pub none_owed : (t : Table) (op : ℕ) (o : Occurrence) (rs : List Rule) → is_far_there t op o ≡ true → Each (λ (r : Rule). owes t r.op r.target ≡ true) rs → NoneOf (defines op o) rs
none_owed t op o rs far all =
    each_weaker (λ (r : Rule). owes t r.op r.target ≡ true) (λ (r : Rule). defines op o r ≡ false) rs
    (λ r h. other_kind t op o true far r (not_far (is_owed (drafted t) r.op r.target.at r.target.slot) (is_far_there t r.op r.target) h)) all

-- an argument's attribute that is far, and each occurrence that is
pub arg_far : (t : Table) (op k q s : ℕ) (a : Attr) → slice_get (args_of t.ops op) k ≡ Some q → slice_get (attrs_of t.phyla q) s ≡ Some a → is_far a ≡ true → is_far_there t op (occurrence (suc k) s) ≡ true
arg_far t op k q s a arg at far =
    ap (λ o. unwrap_or (option_map (λ p. is_far_slot t p s) o) false) arg ∙ ap (λ o. unwrap_or (option_map is_far o) false) at ∙ far

pub record IsFarAt (t : Table) (op at slot : ℕ) : Type 0 where
  pub phylum : ℕ
  pub attr : Attr
  pub there : phylum_there t.ops op at ≡ Some phylum
  pub found : slice_get (attrs_of t.phyla phylum) slot ≡ Some attr
  pub far : is_far attr ≡ true

pub far_there : (t : Table) (op at slot : ℕ) → is_far_there t op (occurrence at slot) ≡ true → IsFarAt t op at slot
far_there t op at slot h = by (phylum_there t.ops op at) refl h
  where
    of : (p : ℕ) → phylum_there t.ops op at ≡ Some p → (a : Option Attr) → slice_get (attrs_of t.phyla p) slot ≡ a → unwrap_or (option_map is_far a) false ≡ true → IsFarAt t op at slot
    of p there None e f = cc
    of p there (Some a) e f = record { phylum = p; attr = a; there = there; found = e; far = f }

    by : (o : Option ℕ) → phylum_there t.ops op at ≡ o → unwrap_or (option_map (λ p. is_far_slot t p slot) o) false ≡ true → IsFarAt t op at slot
    by None e f = cc
    by (Some p) e f = of p e (slice_get (attrs_of t.phyla p) slot) refl f

-- so handing rules define no occurrence that is not far
pub none_handed : (t : Table) (e op : ℕ) (o : Occurrence) → is_far_there t op o ≡ false → NoneOf (defines op o) (handing t e)
none_handed t e op o near =
    each_handing t e (λ (r : Rule). defines op o r ≡ false)
    (λ m k q s z a arg at is. other_kind t op o false near (rule e m (occurrence (suc k) s) z) (arg_far t m k q s a arg at (source_far t m a z is)))

module _ (t : Table) (handed : AreHandedDown t) where
  inherited_there : (p s : ℕ) (a : Attr) → slice_get (attrs_of t.phyla p) s ≡ Some a → is_far a ≡ true → is_inherited t.phyla p s ≡ true
  inherited_there p s a at far =
      ap (λ (o : Option Attr). unwrap_or (option_map (λ (x : Attr). is_way_inherited x.way) o) false) at ∙ ap is_way_inherited (handed.inherited p s a at far)

  -- a left side owes no far attribute, and the others are owed
  pub left_not_owed : (op slot : ℕ) → is_far_there t op (occurrence 0 slot) ≡ true → is_owed (drafted t) op 0 slot ≡ false
  left_not_owed op slot h =
      let x = far_there t op 0 slot h in
      let inherits : unwrap_or (option_map (λ X. is_inherited t.phyla X slot) (phylum_there t.ops op 0)) false ≡ true =
      ap (λ o. unwrap_or (option_map (λ X. is_inherited t.phyla X slot) o) false) x.there ∙ inherited_there x.phylum slot x.attr x.found x.far in
      ap (λ b. is_some (slot_type (drafted t) op 0 slot) && not b) inherits ∙ none (is_some (slot_type (drafted t) op 0 slot))
    where
      none : (b : Bool) → (b && false) ≡ false
      none true = refl
      none false = refl

  arg_owed : (op k q s : ℕ) (a : Attr) → slice_get (args_of t.ops op) k ≡ Some q → slice_get (attrs_of t.phyla q) s ≡ Some a → is_far a ≡ true → is_owed (drafted t) op (suc k) s ≡ true
  arg_owed op k q s a arg at far = ap (λ o. unwrap_or (option_map (λ X. is_inherited t.phyla X s) o) false) arg ∙ inherited_there q s a at far

  pub handed_owed : (e : ℕ) → Each (λ (r : Rule). is_owed (drafted t) r.op r.target.at r.target.slot ≡ true) (handing t e)
  handed_owed e = each_handing t e (λ (r : Rule). is_owed (drafted t) r.op r.target.at r.target.slot ≡ true) (λ op k q s z a arg at is. arg_owed op k q s a arg at (source_far t op a z is))

  -- the type of an argument's attribute is that of its source
  module _ (spec : Spec) (table : HasTable t spec) (e : ℕ) (stands : slice_get spec.exprs e ≡ Some (Named 0)) where
    arg_type : (op k q s : ℕ) (a : Attr) → slice_get (args_of t.ops op) k ≡ Some q → slice_get (attrs_of t.phyla q) s ≡ Some a → slot_type spec op (suc k) s ≡ Some a.of
    arg_type op k q s a arg at =
        slot_kept t spec table op (suc k) s ∙ ap (λ o. slice_get (attr_types (drafted t) o) s) arg ∙ slice_get-map (λ (x : Attr). x.of) (attrs_of t.phyla q) s ∙ ap (option_map (λ (x : Attr). x.of)) at

    source_type : (op k q s z : ℕ) (a : Attr) → slice_get (args_of t.ops op) k ≡ Some q → slice_get (attrs_of t.phyla q) s ≡ Some a → source t op a ≡ Some z → slot_type spec op 0 z ≡ Some a.of
    source_type op k q s z a arg at is =
        let x = handed.sources op k q s a arg at (source_far t op a z is) in
        let same : x.slot ≡ z = same_Some x.slot z (sym x.is ∙ is) in
        slot_kept t spec table op 0 z ∙ ap (slot_type (drafted t) op 0) (sym same) ∙ x.type

    one_typed : (op k q s z : ℕ) (a : Attr) → slice_get (args_of t.ops op) k ≡ Some q → slice_get (attrs_of t.phyla q) s ≡ Some a → source t op a ≡ Some z → is_rule_typed spec (rule e op (occurrence (suc k) s) z) ≡ true
    one_typed op k q s z a arg at is =
        let types : types_at spec op (occurrence 0 z ∷ []) ≡ Some (a.of ∷ []) = ap (option_and_then (λ p. Some (p ∷ []))) (source_type op k q s z a arg at is) in
        let typed : is_typed spec (a.of ∷ []) e a.of ≡ true =
        ap (λ (x : Option Expr). is_found spec a.of (option_and_then (type_of spec (a.of ∷ [])) x)) stands ∙ ap (λ b. b || (has_shape spec.phyla is_lexical_shape a.of && nat_eq a.of texts)) (eq_itself a.of) in
        ap (λ (x : Option ℕ). unwrap_or (option_and_then (λ p. option_map (λ (l : List ℕ). is_typed spec l e p) (types_at spec op (occurrence 0 z ∷ []))) x) false) (arg_type op k q s a arg at)
        ∙ ap (λ (x : Option (List ℕ)). unwrap_or (option_map (λ (l : List ℕ). is_typed spec l e a.of) x) false) types
        ∙ typed

    pub handed_typed : Each (λ (r : Rule). is_rule_typed spec r ≡ true) (handing t e)
    handed_typed = each_handing t e (λ (r : Rule). is_rule_typed spec r ≡ true) one_typed
