-- Far attributes: those that hand down an attribute of an enclosing node. The written ones are all others.
use Rattle.std.specs.Prelude.{◌≡◌, ℕ, suc, ◌<◌, Bool, true, false, not, ◌&&◌, List, [], ◌∷◌, ◌++◌, length, nat_eq, find, position, All, Option, Some, None, slice_get, option_map, unwrap_or}
use Rattle.sg_kinds.specs.Specification.{Bytes, Spec, Phylum, Attr, Far, Rule, attrs_of, args_of, phylum_of, phylum_name, has_shape, is_leaf_shape}
use Rattle.sg_kinds.specs.Expressions.{Named}
use Rattle.sg_kinds.specs.Dependencies.{occurrence}
use Rattle.sg_kinds.specs.Instances.{rule_for}
use Rattle.sg_kinds.specs.declared.marks.Way.TheVariants.{Inherited}

abbrev pub is_far : Attr → Bool
is_far a = not (nat_eq (length a.far) 0)

abbrev pub is_written : Attr → Bool
is_written a = nat_eq (length a.far) 0

-- whether two lists name the same attributes in the same order
abbrev pub same_far : List Far → List Far → Bool
same_far [] [] = true
same_far [] (g ∷ gs) = false
same_far (f ∷ fs) [] = false
same_far (f ∷ fs) (g ∷ gs) = (nat_eq f.phylum g.phylum && nat_eq f.slot g.slot) && same_far fs gs

-- the attribute of a phylum that a list names
abbrev pub listed_slot : List Far → ℕ → Option ℕ
listed_slot fs p = option_map (λ (f : Far). f.slot) (find (λ (f : Far). nat_eq f.phylum p) fs)

-- the far attribute of a list
abbrev pub slot_of_far : List Attr → List Far → Option ℕ
slot_of_far attrs fs = position (λ (a : Attr). same_far a.far fs) attrs

-- what a node of phylum p hands to its children: its listed attribute, or else its own far one
abbrev pub source_slot : List Phylum → ℕ → List Far → Option ℕ
source_slot phyla p fs = elim (listed_slot fs p) [ Some s ↦ Some s | None ↦ slot_of_far (attrs_of phyla p) fs ]

-- a far attribute's name is its list as it is written, without blanks: `{p.a,q.b}`
abbrev pub far_name : List Phylum → Far → Bytes
far_name phyla f = phylum_name phyla f.phylum ++ 46 ∷ unwrap_or (option_map (λ (a : Attr). a.name)
    (slice_get (attrs_of phyla f.phylum) f.slot)) []

abbrev pub rest_text : List Phylum → List Far → Bytes
rest_text phyla [] = 125 ∷ []
rest_text phyla (f ∷ fs) = 44 ∷ far_name phyla f ++ rest_text phyla fs

abbrev pub far_text : List Phylum → List Far → Bytes
far_text phyla [] = 123 ∷ 125 ∷ []
far_text phyla (f ∷ fs) = 123 ∷ far_name phyla f ++ rest_text phyla fs

-- a list names a written attribute of a phylum with operators, of the far attribute's type
pub record IsListed (spec : Spec) (a : Attr) (f : Far) : Type 0 where
  pub attr : Attr
  pub found : slice_get (attrs_of spec.phyla f.phylum) f.slot ≡ Some attr
  pub written : is_written attr ≡ true
  pub type : attr.of ≡ a.of
  pub inner : has_shape spec.phyla is_leaf_shape f.phylum ≡ false

-- the equation of an operator of phylum p that hands a far attribute down to an argument
pub record IsHanded (spec : Spec) (op k p slot : ℕ) (a : Attr) : Type 0 where
  pub source : ℕ
  pub is_source : source_slot spec.phyla p a.far ≡ Some source
  pub rule : Rule
  pub found : rule_for spec.rules op (occurrence (suc k) slot) ≡ Some rule
  pub args : rule.args ≡ occurrence 0 source ∷ []
  pub expr : slice_get spec.exprs rule.expr ≡ Some (Named 0)

-- far attributes are inherited, are named by their lists, stand behind the written ones, and are handed down by
-- equations of their own
pub record HasFar (spec : Spec) : Type 0 where
  pub inherited : (p s : ℕ) (a : Attr) → slice_get (attrs_of spec.phyla p) s ≡ Some a → is_far a ≡ true
      → a.way ≡ Inherited
  pub named : (p s : ℕ) (a : Attr) → slice_get (attrs_of spec.phyla p) s ≡ Some a → is_far a ≡ true
      → a.name ≡ far_text spec.phyla a.far
  pub listed : (p s : ℕ) (a : Attr) → slice_get (attrs_of spec.phyla p) s ≡ Some a → is_far a ≡ true
      → All (IsListed spec a) a.far
  pub last : (p i j : ℕ) (a b : Attr) → i < j → slice_get (attrs_of spec.phyla p) i ≡ Some a
      → slice_get (attrs_of spec.phyla p) j ≡ Some b → is_far a ≡ true → is_far b ≡ true
  pub handed : (op k p q s : ℕ) (a : Attr) → phylum_of spec.ops op ≡ Some p
      → slice_get (args_of spec.ops op) k ≡ Some q → slice_get (attrs_of spec.phyla q) s ≡ Some a → is_far a ≡ true
      → IsHanded spec op k p s a
