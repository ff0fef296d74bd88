-- Lists of references to enclosing nodes whose names mean something, and whose attributes have one type.
use Rattle.std.proofs.Common.{◌≡◌, ◌≢◌, ℕ, Bool, true, false, bytes_eq, nat_eq, if◌then◌else◌, List, [], ◌∷◌, ◌++◌, length, map, Option, Some, None, is_some, option_map, unwrap_or, slice_get, refl, sym, ap, subst, ◌∙◌}
use Rattle.std.specs.Prelude.{option_and_then}
use Rattle.std.specs.List.{AllByRecursion as Each, list_all}
use Rattle.std.proofs.lemmas.Bool.{and_parts}
use Rattle.sg_kinds.specs.Far.{far_text, far_name, rest_text}
use Rattle.sg_kinds.specs.Specification.{attrs_of, has_shape, is_leaf_shape, phylum_name}
use Rattle.sg_kinds.specs.Values.{Bytes}
use Rattle.sg_kinds.specs.declared.spec.Attr.{Attr}
use Rattle.sg_kinds.specs.declared.spec.Far.{Far}
use Rattle.sg_kinds.specs.declared.spec.Phylum.{Phylum}
use Rattle.sg_kinds.proofs.Elementary.{some_there, eq_is, slice_get-before}
use Rattle.sg_ast.specs.declared.name.Name.{Name}
use Rattle.sg_ast.specs.declared.name.Pair.{Pair}
use Rattle.sg_ast.specs.declared.name.Remote.{Remote}
use Rattle.sg_names.specs.Lookups.{phylum_named, attribute, attr_type, far_at, far_of, far_list, pair_type, lists_type, first_type, are_alike}
use Rattle.sg_names.specs.More.{and_attrs, with_more}
use Rattle.sg_names.specs.UnknownName.{unless_known, has_operators, is_attribute, unknown_enclosing}
use Rattle.sg_names.specs.Uses.{InOperator}
use Rattle.sg_names.specs.declared.table.Table.{Table}
use Rattle.sg_names.proofs.MoreLaws.{phylum_more}
use Rattle.sg_typing.proofs.TableFacts.{position_there}
use Rattle.sg_remote.specs.Longer.{far_type}
use Rattle.sg_load.proofs.LongerLists.{found_at}
use Rattle.sg_load.proofs.LongerNames.{if_there, phylum_is, attrs_are, slot_more, type_more, known_is}

-- a pair that names an attribute of a phylum with operators
pub record IsPair (t : Table) (q : Pair) : Type 0 where
  pub phylum : ℕ
  pub named : phylum_named t q.phylum.text ≡ Some phylum
  pub inner : has_shape t.phyla is_leaf_shape phylum ≡ false
  pub slot : ℕ
  pub found : attribute t phylum q.attr.text ≡ Some slot
  pub attr : Attr
  pub there : slice_get (attrs_of t.phyla phylum) slot ≡ Some attr

-- one of a list of this type
pub record IsOfType (t : Table) (of : ℕ) (f : Far) : Type 0 where
  pub attr : Attr
  pub there : slice_get (attrs_of t.phyla f.phylum) f.slot ≡ Some attr
  pub type : attr.of ≡ of
  pub inner : has_shape t.phyla is_leaf_shape f.phylum ≡ false

pub record IsLegal (t : Table) (fs : List Far) : Type 0 where
  pub some : fs ≢ []
  pub each : Each (IsOfType t (far_type t.phyla fs)) fs

-- a pair that is known is one
inner_there : (t : Table) (o : Option ℕ) → is_some (option_and_then (λ p. if has_shape t.phyla is_leaf_shape p then None else Some p) o) ≡ true → (p : ℕ) × (o ≡ Some p) × (has_shape t.phyla is_leaf_shape p ≡ false)
inner_there t None h = absurd (cc h)
inner_there t (Some p) h = by (has_shape t.phyla is_leaf_shape p) refl h
  where
    by : (b : Bool) → has_shape t.phyla is_leaf_shape p ≡ b → is_some (if b then None else Some p) ≡ true → (q : ℕ) × (Some p ≡ Some q) × (has_shape t.phyla is_leaf_shape q ≡ false)
    by true is h = absurd (cc h)
    by false is h = (p, refl, is)

attribute_there : (t : Table) (n a : Bytes) (p : ℕ) → phylum_named t n ≡ Some p → is_attribute t n a ≡ true → (s : ℕ) × (attribute t p a ≡ Some s)
attribute_there t n a p named h = some_there (attribute t p a) (sym (ap (λ o. is_some (option_and_then (λ k. attribute t k a) o)) named) ∙ h)

test_is : (b : Bool) (known : Bool) (a n : Name) → (if b then unless_known known a else unless_known false n) ≡ None → (b ≡ true) × (known ≡ true)
test_is true known a n h = (refl, known_is known a h)
test_is false known a n h = absurd (cc (known_is false n h))

pub pair_known : (t : Table) (op : ℕ) (q : Pair) → unknown_enclosing t (InOperator op) q ≡ None → IsPair t q
pair_known t op q h =
    let both = test_is (has_operators t q.phylum.text) (is_attribute t q.phylum.text q.attr.text) q.attr q.phylum h in
    let p = inner_there t (phylum_named t q.phylum.text) both.0 in
    let s = attribute_there t q.phylum.text q.attr.text p.0 p.1 both.1 in
    let x = position_there (λ (a : Attr). bytes_eq q.attr.text a.name) (attrs_of t.phyla p.0) s.0 s.1 in
    record { phylum = p.0; named = p.1; inner = p.2; slot = s.0; found = s.1; attr = x.0; there = x.1 }

-- what it lists
abbrev far_pair : ℕ → ℕ → Far
far_pair p s = record { phylum = p; slot = s }

pub pair_far : (t : Table) (q : Pair) (x : IsPair t q) → far_of t q ≡ record { phylum = x.phylum; slot = x.slot }
pair_far t q x =
    ap (λ o. far_at t (unwrap_or o (length t.phyla)) q.attr.text) x.named
    ∙ ap (λ o. far_pair x.phylum (unwrap_or o 0)) x.found

pair_typed : (t : Table) (q : Pair) (x : IsPair t q) → attr_type (attrs_of t.phyla x.phylum) q.attr.text ≡ Some x.attr.of
pair_typed t q x =
    ap (option_map (λ (a : Attr). a.of)) (found_at (λ (a : Attr). bytes_eq q.attr.text a.name) x.slot (attrs_of t.phyla x.phylum) x.found ∙ x.there)

module _ (t : Table) (more : ℕ → List Attr) where
  -- the same in the longer table
  pub pair_more : (q : Pair) → IsPair t q → far_of (with_more t more) q ≡ far_of t q
  pair_more q x =
      ap (λ o. far_at (with_more t more) (unwrap_or o (length (with_more t more).phyla)) q.attr.text) (phylum_more t more q.phylum.text ∙ x.named)
      ∙ ap (λ o. far_pair x.phylum (unwrap_or o 0)) (slot_more t more x.phylum x.slot q.attr.text x.found)
      ∙ sym (pair_far t q x)

  pub list_more : (qs : List Pair) → Each (IsPair t) qs → map (far_of (with_more t more)) qs ≡ map (far_of t) qs
  list_more [] all = refl
  list_more (q ∷ qs) all = λ i. pair_more q all.0 i ∷ list_more qs all.1 i

  type_there : (q : Pair) (x : IsPair t q) → pair_type (with_more t more) q ≡ Some x.attr.of
  type_there q x =
      ap (option_and_then (λ p. attr_type (attrs_of (with_more t more).phyla p) q.attr.text)) (phylum_more t more q.phylum.text ∙ x.named)
      ∙ type_more t more x.phylum x.attr.of q.attr.text (pair_typed t q x)

  one_type : (of : ℕ) (q : Pair) (x : IsPair t q) → lists_type (with_more t more) of q ≡ true → x.attr.of ≡ of
  one_type of q x h = sym (eq_is of x.attr.of (sym (ap (λ o. unwrap_or (option_map (nat_eq of) o) false) (type_there q x)) ∙ h))

  all_typed : (of : ℕ) (qs : List Pair) → Each (IsPair t) qs → list_all (lists_type (with_more t more) of) qs ≡ true → Each (IsOfType t of) (map (far_of t) qs)
  all_typed of [] all h = tt
  all_typed of (q ∷ qs) all h =
      let both = and_parts (lists_type (with_more t more) of q) (list_all (lists_type (with_more t more) of) qs) h in
      (subst (IsOfType t of) (sym (pair_far t q all.0)) (record { attr = all.0.attr; there = all.0.there; type = one_type of q all.0 both.0; inner = all.0.inner }), all_typed of qs all.1 both.1)

  -- a list of one type
  pub legal : (r : Remote) → Each (IsPair t) r.pairs → are_alike (with_more t more) r ≡ true → IsLegal t (far_list t r)
  legal r all h = by r.pairs all h
    where
      by : (qs : List Pair) → Each (IsPair t) qs → unwrap_or (option_map (λ p. list_all (lists_type (with_more t more) p) qs) (first_type (with_more t more) qs)) false ≡ true → IsLegal t (map (far_of t) qs)
      by [] all h = absurd (cc h)
      by (q ∷ qs) all h =
          let x = all.0 in
          let alike : list_all (lists_type (with_more t more) x.attr.of) (q ∷ qs) ≡ true =
          sym (ap (λ o. unwrap_or (option_map (λ p. list_all (lists_type (with_more t more) p) (q ∷ qs)) o) false) (type_there q x)) ∙ h in
          let first : far_type t.phyla (map (far_of t) (q ∷ qs)) ≡ x.attr.of =
          ap (λ (f : Far). unwrap_or (option_map (λ (a : Attr). a.of) (slice_get (attrs_of t.phyla f.phylum) f.slot)) 0) (pair_far t q x)
          ∙ ap (λ o. unwrap_or (option_map (λ (a : Attr). a.of) o) 0) x.there in
          record {
            some = λ none. cc none;
            each = subst (λ of. Each (IsOfType t of) (map (far_of t) (q ∷ qs))) (sym first) (all_typed x.attr.of (q ∷ qs) all alike);
          }

  -- its text by the longer table
  name_same : (p : ℕ) → phylum_name (with_more t more).phyla p ≡ phylum_name t.phyla p
  name_same p = ap (λ o. unwrap_or (option_map (λ (x : Phylum). x.name) o) []) (phylum_is t more p) ∙ by (slice_get t.phyla p)
    where
      by : (o : Option Phylum) → unwrap_or (option_map (λ (x : Phylum). x.name) (option_map (and_attrs more p) o)) [] ≡ unwrap_or (option_map (λ (x : Phylum). x.name) o) []
      by None = refl
      by (Some x) = refl

  pub attr_more : (p s : ℕ) (a : Attr) → slice_get (attrs_of t.phyla p) s ≡ Some a → slice_get (attrs_of (with_more t more).phyla p) s ≡ Some a
  attr_more p s a e = ap (λ (l : List Attr). slice_get l s) (attrs_are t more p) ∙ slice_get-before (attrs_of t.phyla p) (if_there (slice_get t.phyla p) (more p)) s a e

  far_same : (of : ℕ) (f : Far) → IsOfType t of f → far_name (with_more t more).phyla f ≡ far_name t.phyla f
  far_same of f x =
      (λ i. name_same f.phylum i ++ 46 ∷ unwrap_or (option_map (λ (a : Attr). a.name) (attr_more f.phylum f.slot x.attr x.there i)) [])
      ∙ ap (λ o. phylum_name t.phyla f.phylum ++ 46 ∷ unwrap_or (option_map (λ (a : Attr). a.name) o) []) (sym x.there)

  rest_same : (of : ℕ) (fs : List Far) → Each (IsOfType t of) fs → rest_text (with_more t more).phyla fs ≡ rest_text t.phyla fs
  rest_same of [] all = refl
  rest_same of (f ∷ fs) all = λ i. 44 ∷ far_same of f all.0 i ++ rest_same of fs all.1 i

  pub text_same : (of : ℕ) (fs : List Far) → Each (IsOfType t of) fs → far_text (with_more t more).phyla fs ≡ far_text t.phyla fs
  text_same of [] all = refl
  text_same of (f ∷ fs) all = λ i. 123 ∷ far_same of f all.0 i ++ rest_same of fs all.1 i
