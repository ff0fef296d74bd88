-- What a sound specification's equations are: each that is owed is there, once, and leaves have none.
use Rattle.std.specs.Prelude.{◌≡◌, ℕ, zero, suc, ◌+◌, ◌<◌, ◌≤◌, ◌&&◌, Bool, true, false, not, nat_eq, cond, List, [], ◌∷◌, length, map, find, count_by, Option, None, Some, slice_get, option_map, unwrap_or, is_some, Contains}
use Rattle.std.proofs.Common.{refl, sym, ap, ◌∙◌, subst, get_or, arith, inl, inr, length-append}
use Rattle.std.proofs.lemmas.Bool.{cases_order, false≢true, and_from, and_parts, eq-eqb, eqb-true, false_from_ne_true}
use Rattle.std.proofs.lemmas.List.{length-map, get_or_default}
use Rattle.std.proofs.lemmas.List.Sums.{sum_by-cons}
use Rattle.std.proofs.lemmas.Option.{slice_get-get_or}
use Rattle.sg_kinds.specs.declared.marks.Shape.TheVariants.{Truths, Numbers, Texts, Lexemes, Ordinary, Optional, Listed, OptionalListed}
use Rattle.sg_kinds.specs.declared.spec.Rules.{Rules}
use Rattle.sg_kinds.specs.declared.spec.Rule.{Rule}
use Rattle.sg_kinds.specs.declared.spec.Spec.{Spec}
use Rattle.sg_kinds.specs.declared.spec.Attr.{Attr}
use Rattle.sg_kinds.specs.declared.spec.Local.{Local}
use Rattle.sg_kinds.specs.declared.spec.Phylum.{Phylum}
use Rattle.sg_kinds.specs.declared.spec.Occurrence.{Occurrence}
use Rattle.sg_kinds.specs.declared.marks.Shape.{Shape}
use Rattle.sg_kinds.specs.Specification.{attrs_of, args_of, locals_of, phylum_of, has_shape, is_leaf_shape, is_inherited, is_way_inherited, rules_of}
use Rattle.sg_kinds.specs.Instances.{below, attr_count, defines, rule_for}
use Rattle.sg_kinds.specs.Dependencies.{is_inherited_there, phylum_there, occurrence}
use Rattle.sg_kinds.specs.Sound as sound
use Rattle.sg_kinds.specs.Sound.{HasShapes, HasRules, IsValue, IsShaped, is_operator_of, operators_of}
use Rattle.sg_kinds.specs.Typing.{attr_types, slots_there}
use Rattle.sg_dependencies.specs.Proper.{is_owed, AreApart, AreProper}
use Rattle.sg_dependencies.specs.Vertices.{IsVertex, locals_there}
use Rattle.sg_dependencies.proofs.Below.{length-below, get_or-below}
use Rattle.sg_dependencies.proofs.Directs.{op_there}
use Rattle.sg_orders.proofs.Seating.{filter_has}

-- what a search finds, where something passes
first_found : {X : Type 0} (p : X → Bool) (xs : List X) (i : ℕ) (d : X) → i < length xs → p (get_or xs i d) ≡ true → (x : X) × (find p xs ≡ Some x) × Contains xs x × (p x ≡ true)
first_found p [] i d low pass = absurd (omega (arith, low))
first_found {X} p (x ∷ xs) i d low pass = by (p x) refl i low pass (first_found p xs)
  where
    by : (b : Bool) → p x ≡ b → (i : ℕ) → i < length (x ∷ xs) → p (get_or (x ∷ xs) i d) ≡ true
        → ((k : ℕ) (e : X) → k < length xs → p (get_or xs k e) ≡ true → (y : X) × (find p xs ≡ Some y) × Contains xs y × (p y ≡ true))
        → (y : X) × (find p (x ∷ xs) ≡ Some y) × Contains (x ∷ xs) y × (p y ≡ true)
    by true is i low pass later = (x, ap (λ b. cond b (Some x) (find p xs)) is, (0, omega arith, refl), is)
    by false is zero low pass later = absurd (false≢true (sym is ∙ pass))
    by false is (suc i) low pass later =
        let rest = later i d (omega (arith, low)) pass in
        let has = rest.2 in
        let l = has.1 in
        (rest.0, ap (λ b. cond b (Some x) (find p xs)) is ∙ rest.1, (suc has.0, omega (arith, l), has.2), rest.3)

abbrev number_of : Bool → ℕ
number_of b = cond b 1 0

counted_found : {X : Type 0} (p : X → Bool) (xs : List X) → 1 ≤ count_by p xs → (x : X) × (find p xs ≡ Some x)
counted_found p [] some = absurd (omega (arith, some))
counted_found {X} p (x ∷ xs) some = by (p x) refl (counted_found p xs)
  where
    by : (b : Bool) → p x ≡ b → (1 ≤ count_by p xs → (y : X) × (find p xs ≡ Some y)) → (y : X) × (find p (x ∷ xs) ≡ Some y)
    by true is later = (x, ap (λ b. cond b (Some x) (find p xs)) is)
    by false is later =
        let none : number_of (p x) ≡ number_of false = ap number_of is in
        let rest = later (omega (arith, some, sum_by-cons (λ y. cond (p y) 1 0) x xs, none)) in
        (rest.0, ap (λ b. cond b (Some x) (find p xs)) is ∙ rest.1)

-- each equation is the one that is found for what it defines
defines_itself : (r : Rule) → defines r.op r.target r ≡ true
defines_itself r =
    and_from (nat_eq r.op r.op) (nat_eq r.target.at r.target.at && nat_eq r.target.slot r.target.slot) (eq-eqb r.op r.op refl)
    (and_from (nat_eq r.target.at r.target.at) (nat_eq r.target.slot r.target.slot) (eq-eqb r.target.at r.target.at refl) (eq-eqb r.target.slot r.target.slot refl))

record IsDefining (op : ℕ) (o : Occurrence) (r : Rule) : Type 0 where
  op_is : r.op ≡ op
  target : r.target ≡ o

defining : (op : ℕ) (o : Occurrence) (r : Rule) → defines op o r ≡ true → IsDefining op o r
defining op o r is =
    let parts = and_parts (nat_eq r.op op) (nat_eq r.target.at o.at && nat_eq r.target.slot o.slot) is in
    let slots = and_parts (nat_eq r.target.at o.at) (nat_eq r.target.slot o.slot) parts.1 in
    record {
      op_is = eqb-true r.op op parts.0;
      target = ap (λ k. occurrence k r.target.slot) (eqb-true r.target.at o.at slots.0) ∙ ap (occurrence o.at) (eqb-true r.target.slot o.slot slots.1);
    }

-- two equations of an operator that define the same are one
pub same_rule : (rules : Rules) → AreProper rules → (r s : Rule) → Contains rules.rules r → Contains rules.rules s → r.op ≡ s.op → r.target ≡ s.target → r ≡ s
same_rule rules proper r s (i, low, at) (j, under, to) op target = elim (cases_order i j) [
  | inl same ↦ sym at ∙ ap (λ n. get_or rules.rules n r) same ∙ get_or_default rules.rules j r s under ∙ to
  | inr (inl less) ↦ absurd (apart i j r s less under at to op target)
  | inr (inr more) ↦ absurd (apart j i s r more low to at (sym op) (sym target))
]
  where
    apart : (i j : ℕ) (x y : Rule) → i < j → j < length rules.rules → get_or rules.rules i x ≡ x → get_or rules.rules j y ≡ y → x.op ≡ y.op → x.target ≡ y.target → ⊥
    apart i j x y less low at to same_op same_target =
        let first = get_or_default rules.rules i y x (omega (arith, less, low)) ∙ at in
        subst (λ (v : Rule). AreApart v y) first (subst (λ (w : Rule). AreApart (get_or rules.rules i y) w) to (proper.once i j y less low)) same_op same_target

pub rule_is : (rules : Rules) → AreProper rules → (r : Rule) → Contains rules.rules r → rule_for rules.rules r.op r.target ≡ Some r
rule_is rules proper r (i, low, at) =
    let first = first_found (defines r.op r.target) rules.rules i r low (subst (λ x. defines r.op r.target x ≡ true) (sym at) (defines_itself r)) in
    let is = defining r.op r.target first.0 first.3 in
    first.1 ∙ ap (λ x. Some x) (same_rule rules proper first.0 r first.2 (i, low, at) is.op_is is.target)

-- what is owed has an equation
types_long : (spec : Spec) (o : Option ℕ) → length (attr_types spec o) ≡ attr_count (rules_of spec) o
types_long spec None = refl
types_long spec (Some X) = length-map (attrs_of spec.phyla X) (λ (a : Attr). a.of)

slots_long : (spec : Spec) (p k : ℕ) → length (slots_there spec p k) ≡ attr_count (rules_of spec) (phylum_there spec.ops p k) + locals_there (rules_of spec) p k
slots_long spec p zero =
    length-append (attr_types spec (phylum_of spec.ops p)) (map (λ (l : Local). l.of) (locals_of spec.ops p))
    ∙ omega (arith, types_long spec (phylum_of spec.ops p), length-map (locals_of spec.ops p) (λ (l : Local). l.of))
slots_long spec p (suc k) = omega (arith, types_long spec (slice_get (args_of spec.ops p) k))

-- what an operator owes by its rules alone is what soundness speaks of, where there is such a slot
pub owed_alike : (spec : Spec) (op k slot : ℕ) → IsVertex (rules_of spec) op (occurrence k slot) → is_owed (rules_of spec) op k slot ≡ sound.is_owed spec op k slot
owed_alike spec op (suc k) slot is = refl
owed_alike spec op zero slot is =
    sym (ap (λ b. b && not (is_inherited_there (rules_of spec) op 0 slot)) (ap is_some (slice_get-get_or (slots_there spec op 0) slot 0 (omega (arith, is, slots_long spec op 0)))))

pub owed_rule : (spec : Spec) → HasRules spec → (op : ℕ) (o : Occurrence) → IsVertex (rules_of spec) op o → is_owed (rules_of spec) op o.at o.slot ≡ true → (r : Rule) × (rule_for spec.rules op o ≡ Some r)
owed_rule spec rules op o is owed =
    let one = rules.one_each op o.at o.slot (op_there (rules_of spec) op o is) (sym (owed_alike spec op o.at o.slot is) ∙ owed) in
    counted_found (defines op o) spec.rules (omega (arith, one))

-- a leaf's phylum has no operator and no inherited attribute
leaf_shaped : (spec : Spec) (X : ℕ) (x : Phylum) (s : Shape) → is_leaf_shape s ≡ true → IsShaped spec X x s → (x.ops ≡ []) × IsValue X x.attrs
leaf_shaped spec X x Truths is shaped = shaped
leaf_shaped spec X x Numbers is shaped = shaped
leaf_shaped spec X x Texts is shaped = shaped
leaf_shaped spec X x (Lexemes l) is shaped = shaped
leaf_shaped spec X x Ordinary is shaped = absurd (false≢true is)
leaf_shaped spec X x Optional is shaped = absurd (false≢true is)
leaf_shaped spec X x Listed is shaped = absurd (false≢true is)
leaf_shaped spec X x OptionalListed is shaped = absurd (false≢true is)

record IsLeafPhylum (spec : Spec) (X : ℕ) : Type 0 where
  phylum : Phylum
  at : slice_get spec.phyla X ≡ Some phylum
  no_ops : operators_of spec X ≡ []
  attrs : IsValue X phylum.attrs

leaf_phylum : (spec : Spec) → HasShapes spec → (X : ℕ) → has_shape spec.phyla is_leaf_shape X ≡ true → IsLeafPhylum spec X
leaf_phylum spec shapes X is = by (slice_get spec.phyla X) refl is
  where
    by : (o : Option Phylum) → slice_get spec.phyla X ≡ o → unwrap_or (option_map (λ (x : Phylum). is_leaf_shape x.shape) o) false ≡ true → IsLeafPhylum spec X
    by None at h = absurd (false≢true h)
    by (Some x) at h =
        let known = shapes.phyla X x at in
        let shaped = leaf_shaped spec X x x.shape h known.shape in
        record { phylum = x; at = at; no_ops = sym known.ops ∙ shaped.0; attrs = shaped.1 }

pub no_leaf_operator : (spec : Spec) → HasShapes spec → (op X : ℕ) → phylum_of spec.ops op ≡ Some X → op < length spec.ops → has_shape spec.phyla is_leaf_shape X ≡ false
no_leaf_operator spec shapes op X left low = false_from_ne_true (has_shape spec.phyla is_leaf_shape X) (λ is.
    let leaf = leaf_phylum spec shapes X is in
    let all = below (length spec.ops) in
    let passes : is_operator_of spec X op ≡ true = ap (λ o. unwrap_or (option_map (nat_eq X) o) false) left ∙ eq-eqb X X refl in
    let at : get_or all op 0 ≡ op = get_or-below (length spec.ops) op 0 low in
    let has = filter_has (is_operator_of spec X) all op 0 (omega (arith, low, length-below (length spec.ops))) (ap (is_operator_of spec X) at ∙ passes) in
    let some = has.1 in
    omega (arith, some, ap length leaf.no_ops))

value_only : (X : ℕ) (attrs : List Attr) (slot : ℕ) → IsValue X attrs → unwrap_or (option_map (λ (a : Attr). is_way_inherited a.way) (slice_get attrs slot)) false ≡ false
value_only X [] slot is = absurd is
value_only X (a ∷ []) zero is = ap (λ (b : Attr). is_way_inherited b.way) is
value_only X (a ∷ []) (suc slot) is = refl
value_only X (a ∷ b ∷ rest) slot is = absurd is

pub leaf_inherits_nothing : (spec : Spec) → HasShapes spec → (X slot : ℕ) → has_shape spec.phyla is_leaf_shape X ≡ true → is_inherited spec.phyla X slot ≡ false
leaf_inherits_nothing spec shapes X slot is =
    let leaf = leaf_phylum spec shapes X is in
    ap (λ o. unwrap_or (option_map (λ (a : Attr). is_way_inherited a.way) (slice_get (unwrap_or (option_map (λ (x : Phylum). x.attrs) o) []) slot)) false) leaf.at ∙ value_only X leaf.phylum.attrs slot leaf.attrs
