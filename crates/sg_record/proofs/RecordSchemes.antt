-- The schemes of the record.
use Rattle.std.proofs.Common.{◌≡◌, ℕ, zero, suc, ◌+◌, ◌-◌, ◌<◌, ◌≤◌, inl, inr, Bool, true, false, cond, ◌&&◌, ◌||◌, if◌then◌else◌, List, [], ◌∷◌, ◌++◌, map, flat_map, length, Option, Some, None, slice_get, nat_eq, refl, sym, ap, subst, ◌∙◌, arith}
use Rattle.std.specs.Prelude.{option_map, option_and_then, unwrap_or, count_by, IsTrue, MatchOption}
use Rattle.std.specs.List.{AllByRecursion as Each, All, Contains, list_any}
use Rattle.std.proofs.lemmas.Bool.{and_parts, cases_lt}
use Rattle.std.proofs.lemmas.List.{length-append}
use Rattle.std.proofs.lemmas.List.Sums.{sum_by-cons}
use Rattle.std.proofs.lemmas.List.Elements.{All-from_recursion}
use Rattle.std.proofs.lemmas.Option.{slice_get-map, slice_get_within}
use Rattle.sg_kinds.specs.Instances.{below}
use Rattle.sg_kinds.specs.InView.{schemes_in_view}
use Rattle.sg_kinds.specs.Sound.{HasSchemes, IsScheme, IsItem, IsShown, is_place, separators_fit, is_pair, root, argument}
use Rattle.sg_kinds.specs.Specification.{args_of, phylum_of, has_shape, is_list_shape, is_leaf_shape}
use Rattle.sg_kinds.specs.Typing.{slot_type}
use Rattle.sg_kinds.specs.declared.fault.Position.{Position}
use Rattle.sg_kinds.specs.declared.fault.SpecFault.TheVariants.{NoScheme, SchemeKids}
use Rattle.sg_kinds.specs.declared.spec.Occurrence.{Occurrence}
use Rattle.sg_kinds.specs.declared.spec.Operator.{Operator}
use Rattle.sg_kinds.specs.declared.spec.Scheme.{Scheme}
use Rattle.sg_kinds.specs.declared.spec.Spec.{Spec}
use Rattle.sg_kinds.specs.declared.views.Views.{Views}
use Rattle.sg_kinds.specs.Values.{Bytes}
use Rattle.sg_kinds.proofs.Elementary.{eq_is, eq_itself, slice_get-front, slice_get-behind}
use Rattle.sg_ast.specs.declared.decl.Item.{Item as Written}
use Rattle.sg_ast.specs.declared.decl.Item.TheVariants.{Writes, Child, Shows, Separates}
use Rattle.sg_ast.specs.declared.decl.SchemeDecl.{SchemeDecl}
use Rattle.sg_ast.specs.declared.decl.Target.{Target}
use Rattle.sg_ast.specs.declared.decl.Target.TheVariants as target
use Rattle.sg_ast.specs.declared.name.Name.{Name}
use Rattle.sg_ast.specs.Declarations.{Decl, Schemes}
use Rattle.sg_ast.specs.FirstFault.{first}
use Rattle.sg_ast.proofs.FirstLaws.{first-none}
use Rattle.sg_ast.specs.Written.{IsWritten}
use Rattle.sg_ast.specs.Parts.{target_place}
use Rattle.sg_counts.specs.Definitions.{is_same_view, view_name}
use Rattle.sg_names.specs.declared.table.Table.{Table}
use Rattle.sg_names.specs.Drafted.{drafted, HasTable}
use Rattle.sg_names.specs.Lookups.{phylum_named, operator_named, reference, operator_at}
use Rattle.sg_names.specs.Names.{map_from, owned, op_named, if_of}
use Rattle.sg_names.proofs.DraftedLaws.{args_kept, phylum_kept, slot_kept}
use Rattle.sg_names.proofs.OpPlaces.{places_count}
use Rattle.sg_names.proofs.Owned.{owned_append}
use Rattle.sg_remote.specs.Longer.{names_of}
use Rattle.sg_schemes.specs.Places as places
use Rattle.sg_schemes.specs.Places.{places_fault, operator_faults, phylum_faults, kids_fault, scheme_kids}
use Rattle.sg_schemes.specs.NoScheme.{gives, LacksScheme, IsNoScheme, all_have, first_lacks}
use Rattle.sg_schemes.specs.ShownFlags.{fault_at}
use Rattle.sg_types.specs.Bindings.{local_slot}
use Rattle.sg_typing.specs.Bodies.{reference_type, target_type}
use Rattle.sg_typing.specs.Bodies as body
use Rattle.sg_typing.specs.ShownTypes.{hidden, hidden_item, hidden_scheme, hidden_at, first_hidden}
use Rattle.sg_typing.proofs.RecordTyped.{unless_is}
use Rattle.sg_views.specs.Schemes.{first_slot, shown, item_of, scheme_of, schemes_under, schemes_at, schemes_of}
use Rattle.sg_views.specs.Views.{view_names, row_of, views_of}
use Rattle.sg_record.specs.Record.{with_scheme, with_schemes}
use Rattle.sg_record.proofs.Lists.{each_append, each_both, each_flat, each_map, slice_get-map_from}

-- what stands at a place of a list whose elements are made with their places
made_there : {A B : Type 0} (f : ℕ → A → B) (xs : List A) (k : ℕ) (y : B) → slice_get (map_from f 0 xs) k ≡ Some y → (x : A) × (slice_get xs k ≡ Some x) × (f k x ≡ y)
made_there {A} {B} f xs k y h = by (slice_get xs k) refl (sym (slice_get-map_from f 0 xs k) ∙ h)
  where
    by : (o : Option A) → slice_get xs k ≡ o → option_map (f (0 + k)) o ≡ Some y → (x : A) × (slice_get xs k ≡ Some x) × (f k x ≡ y)
    by None e g = absurd (cc g)
    by (Some x) e g = let z : 0 + k ≡ k = omega arith in (x, e, ap (λ j. f j x) (sym z) ∙ (let s : f (0 + k) x ≡ y = cc g in s))

-- the operator of a phylum by name
operator_there : (t : Table) (p op : ℕ) (n : List ℕ) → operator_named t p n ≡ Some op → phylum_of t.ops op ≡ Some p
operator_there t p op n h = by (op_named t.ops n) h
  where
    test : (j : ℕ) (o : Option ℕ) → phylum_of t.ops j ≡ o → (if unwrap_or (option_map (nat_eq p) o) false then Some j else None) ≡ Some op → phylum_of t.ops op ≡ Some p
    test j None e f = absurd (cc f)
    test j (Some q) e f = is (nat_eq p q) refl f
      where
        is : (b : Bool) → nat_eq p q ≡ b → (if b then Some j else None) ≡ Some op → phylum_of t.ops op ≡ Some p
        is true g k = let same : j ≡ op = cc k in ap (phylum_of t.ops) (sym same) ∙ e ∙ ap Some (sym (eq_is p q g))
        is false g k = absurd (cc k)

    by : (o : Option ℕ) → option_and_then (if_of t.ops p) o ≡ Some op → phylum_of t.ops op ≡ Some p
    by None f = absurd (cc f)
    by (Some j) f = test j (phylum_of t.ops j) refl f

at_there : (t : Table) (p op : Name) (k : ℕ) → operator_at t p op ≡ Some k → (P : ℕ) × (phylum_named t p.text ≡ Some P) × (operator_named t P op.text ≡ Some k)
at_there t p op k h = by (phylum_named t p.text) refl h
  where
    by : (o : Option ℕ) → phylum_named t p.text ≡ o → option_and_then (λ P. operator_named t P op.text) o ≡ Some k → (P : ℕ) × (phylum_named t p.text ≡ Some P) × (operator_named t P op.text ≡ Some k)
    by None e f = absurd (cc f)
    by (Some P) e f = (P, e, f)

-- places and separators are those that were written
same_places : (t : Table) (op : ℕ) (items : List Written) → count_by is_place (map (item_of t op) items) ≡ count_by places.is_child items
same_places t op [] = refl
same_places t op (x ∷ items) = more (is_place (item_of t op x)) (places.is_child x) (same_place x) (same_places t op items)
  where
    same_place : (y : Written) → is_place (item_of t op y) ≡ places.is_child y
    same_place (Writes s) = refl
    same_place (Child how) = refl
    same_place (Shows s) = refl
    same_place (Separates ss) = refl

    more : (a b : Bool) → a ≡ b → count_by is_place (map (item_of t op) items) ≡ count_by places.is_child items → count_by is_place (map (item_of t op) (x ∷ items)) ≡ count_by places.is_child (x ∷ items)
    more a b e h =
        sum_by-cons (λ y. cond (is_place y) 1 0) (item_of t op x) (map (item_of t op) items)
        ∙ (λ i. cond (same_place x i) 1 0 + h i)
        ∙ sym (sum_by-cons (λ y. cond (places.is_child y) 1 0) x items)

same_separators : (t : Table) (op : ℕ) (may : Bool) (n : ℕ) (items : List Written) → separators_fit may n (map (item_of t op) items) ≡ places.separators_stand may n items
same_separators t op may n [] = refl
same_separators t op may n (Writes s ∷ items) = same_separators t op may n items
same_separators t op may n (Child how ∷ items) = same_separators t op may (suc n) items
same_separators t op may n (Shows x ∷ items) = same_separators t op may n items
same_separators t op may n (Separates ss ∷ items) = ap (λ b. may && (nat_eq n 1 && b)) (same_separators t op false n items)

fitting_is : (pair : Bool) (arity : ℕ) (op : Name) (s : SchemeDecl) → places_fault pair arity op s ≡ None → places.is_fitting pair arity s ≡ true
fitting_is pair arity op s h = by (places.is_fitting pair arity s) h
  where
    by : (b : Bool) → (if b then None else Some (SchemeKids s.place op.text)) ≡ None → b ≡ true
    by true e = refl
    by false e = absurd (cc e)

-- what stands at a place of the numbers below one
below_length : (n : ℕ) → length (below n) ≡ n
below_length zero = refl
below_length (suc n) = let e = length-append (below n) (n ∷ []) in omega (arith, e, below_length n)

below_at : (n k m : ℕ) → slice_get (below n) k ≡ Some m → m ≡ k
below_at zero k m e = absurd (cc e)
below_at (suc n) k m e = elim (cases_lt k n) [
  | inl less ↦ below_at n k m (sym (slice_get-front (below n) (n ∷ []) k (omega (arith, less, below_length n))) ∙ e)
  | inr more ↦
      let there : slice_get (below n ++ n ∷ []) (length (below n) + (k - n)) ≡ Some m = ap (slice_get (below n ++ n ∷ [])) (let s : length (below n) + (k - n) ≡ k = omega (arith, more, below_length n) in s) ∙ e in
      last (k - n) (sym (slice_get-behind (below n) (n ∷ []) (k - n)) ∙ there) (omega (arith, more))
]
  where
    last : (j : ℕ) → slice_get (n ∷ []) j ≡ Some m → k ≡ n + j → m ≡ k
    last zero f g = let same : n ≡ m = cc f in omega (arith, same, g)
    last (suc j) f g = absurd (cc f)

module _ (t : Table) (spec : Spec) (kept : HasTable t spec) where
  same_pair : (p op : ℕ) → phylum_of t.ops op ≡ Some p → is_pair spec op ≡ places.is_list_pair t p op
  same_pair p op own =
      ap (λ o. unwrap_or (option_map (λ q. has_shape spec.phyla is_list_shape q && nat_eq (length (args_of spec.ops op)) 2) o) false) (phylum_kept t spec kept op ∙ own)
      ∙ (λ i. has_shape (kept.phyla i) is_list_shape p && nat_eq (length (args_kept t spec kept op i)) 2)

  -- what is shown
  type_shown : (op : ℕ) (x : Target) (p : ℕ) → target_type t op x ≡ Some p → slot_type spec op (shown t op x).at (shown t op x).slot ≡ Some p
  type_shown op (target.Attribute r) p h = by (reference t op r) h
    where
      by : (o : Option Occurrence) → reference_type t op o ≡ Some p → slot_type spec op (unwrap_or o first_slot).at (unwrap_or o first_slot).slot ≡ Some p
      by None e = absurd (cc e)
      by (Some o) e = slot_kept t spec kept op o.at o.slot ∙ e
  type_shown op (target.Local n) p h = by (local_slot t op n.text) h
    where
      by : (o : Option ℕ) → option_and_then (slot_type (drafted t) op 0) o ≡ Some p
          → slot_type spec op (unwrap_or (option_map (λ s. record { at = 0; slot = s }) o) first_slot).at (unwrap_or (option_map (λ s. record { at = 0; slot = s }) o) first_slot).slot ≡ Some p
      by None e = absurd (cc e)
      by (Some s) e = slot_kept t spec kept op 0 s ∙ e

  leaf_shown : (op : ℕ) (x : Target) (place : Position) (o : Option ℕ) → target_type t op x ≡ o → hidden t place o ≡ None → IsItem spec op (item_of t op (Shows x))
  leaf_shown op x place None e h = absurd (cc h)
  leaf_shown op x place (Some p) e h =
      let leaf : has_shape spec.phyla is_leaf_shape p ≡ true = ap (λ l. has_shape l is_leaf_shape p) kept.phyla ∙ unless_is (has_shape t.phyla is_leaf_shape p) place h in
      subst (λ (o : Option ℕ). MatchOption o ⊥ (λ q. IsTrue (has_shape spec.phyla is_leaf_shape q))) (sym (type_shown op x p e)) leaf

  item_fine : (op : ℕ) (i : Written) → hidden_item t op i ≡ None → IsItem spec op (item_of t op i)
  item_fine op (Writes s) h = tt
  item_fine op (Child how) h = tt
  item_fine op (Separates ss) h = tt
  item_fine op (Shows x) h = leaf_shown op x (target_place x) (target_type t op x) refl h

  scheme_fine : (p op : ℕ) (n : Name) (s : SchemeDecl) → phylum_of t.ops op ≡ Some p → (places_fault (places.is_list_pair t p op) (length (args_of t.ops op)) n s ≡ None) × (hidden_scheme t op s ≡ None) → IsScheme spec op (scheme_of t op s)
  scheme_fine p op n s own h =
      let fits = and_parts (nat_eq (count_by places.is_child s.items) (length (args_of t.ops op))) (places.separators_stand (places.is_list_pair t p op) 0 s.items) (fitting_is (places.is_list_pair t p op) (length (args_of t.ops op)) n s h.0) in
      record {
        places = same_places t op s.items ∙ eq_is (count_by places.is_child s.items) (length (args_of t.ops op)) fits.0 ∙ ap length (sym (args_kept t spec kept op));
        separators = same_separators t op (is_pair spec op) 0 s.items ∙ ap (λ b. places.separators_stand b 0 s.items) (same_pair p op own) ∙ fits.1;
        shown = All-from_recursion (IsItem spec op) (map (item_of t op) s.items) (each_map (IsItem spec op) (λ i. hidden_item t op i ≡ None) (item_of t op) s.items (item_fine op) (first-none (hidden_item t op) s.items h.1));
      }

  -- the schemes of a declaration, each of its operator
  abbrev IsOfOperator : ℕ × Scheme → Type 0
  IsOfOperator x = IsScheme spec x.0 x.1

  schemes_fine : (p op : Name) (v : Option Name) (ss : List SchemeDecl) (o : Option ℕ) → operator_at t p op ≡ o → kids_fault t (Schemes p op v ss) ≡ None → first (hidden_scheme t (body.operator t p op)) ss ≡ None → Each IsOfOperator (schemes_under t ss o)
  schemes_fine p op v ss None e kids hid = tt
  schemes_fine p op v ss (Some k) e kids hid =
      let there = at_there t p op k e in
      let own = operator_there t there.0 k op.text there.2 in
      let none : operator_faults t there.0 k op ss ≡ None =
      ap (option_and_then (λ j. operator_faults t there.0 j op ss)) (sym there.2) ∙ ap (option_and_then (λ P. phylum_faults t P op ss)) (sym there.1) ∙ kids in
      let number : body.operator t p op ≡ k = ap (λ o. unwrap_or o 0) e in
      let shows : first (hidden_scheme t k) ss ≡ None = ap (λ j. first (hidden_scheme t j) ss) (sym number) ∙ hid in
      each_map IsOfOperator (λ s. (places_fault (places.is_list_pair t there.0 k) (length (args_of t.ops k)) op s ≡ None) × (hidden_scheme t k s ≡ None)) (λ s. (k, scheme_of t k s)) ss
      (λ s h. scheme_fine there.0 k op s own h)
      (each_both (λ s. places_fault (places.is_list_pair t there.0 k) (length (args_of t.ops k)) op s ≡ None) (λ s. hidden_scheme t k s ≡ None) ss
      (first-none (places_fault (places.is_list_pair t there.0 k) (length (args_of t.ops k)) op) ss none) (first-none (hidden_scheme t k) ss shows))

  decl_fine : (view : Option Bytes) (d : Decl) → (kids_fault t d ≡ None) × (hidden_at t d ≡ None) → Each IsOfOperator (schemes_at t view d)
  decl_fine view (Schemes p op v ss) h = by (is_same_view (view_name v) view)
    where
      by : (b : Bool) → Each IsOfOperator (if b then schemes_under t ss (operator_at t p op) else [])
      by true = schemes_fine p op v ss (operator_at t p op) refl h.0 h.1
      by false = tt
  decl_fine view d h = tt

  owned_fine : (pairs : List (ℕ × Scheme)) (k : ℕ) → Each IsOfOperator pairs → Each (IsScheme spec k) (owned pairs k)
  owned_fine [] k h = tt
  owned_fine (x ∷ pairs) k h = each_append (IsScheme spec k) _ (owned pairs k) (one (nat_eq x.0 k) refl) (owned_fine pairs k h.1)
    where
      one : (b : Bool) → nat_eq x.0 k ≡ b → Each (IsScheme spec k) (if b then x.1 ∷ [] else [])
      one true e = (subst (λ j. IsScheme spec j x.1) (eq_is x.0 k e) h.0, tt)
      one false e = tt

  all_fine : (view : Option Bytes) (ds : List Decl) (k : ℕ) → scheme_kids t ds ≡ None → first_hidden t ds ≡ None → Each (IsScheme spec k) (schemes_of t view ds k)
  all_fine view ds k kids hid =
      owned_fine (flat_map (schemes_at t view) ds) k
      (each_flat IsOfOperator (λ d. (kids_fault t d ≡ None) × (hidden_at t d ≡ None)) (schemes_at t view) ds (decl_fine view)
      (each_both (λ d. kids_fault t d ≡ None) (λ d. hidden_at t d ≡ None) ds (first-none (kids_fault t) ds kids) (first-none (hidden_at t) ds hid)))

  -- so do the schemes of each view
  row_fine : (ds : List Decl) → scheme_kids t ds ≡ None → first_hidden t ds ≡ None → (n op : ℕ) (view : Bytes) → Each (IsScheme spec op) (unwrap_or (slice_get (map (schemes_of t (Some view) ds) (below n)) op) [])
  row_fine ds kids hid n op view = subst (λ (o : Option (List Scheme)). Each (IsScheme spec op) (unwrap_or o [])) (sym (slice_get-map (schemes_of t (Some view) ds) (below n) op)) (by (slice_get (below n) op) refl)
    where
      by : (o : Option ℕ) → slice_get (below n) op ≡ o → Each (IsScheme spec op) (unwrap_or (option_map (schemes_of t (Some view) ds) o) [])
      by None e = tt
      by (Some k) e = subst (λ j. Each (IsScheme spec op) (schemes_of t (Some view) ds j)) (sym (below_at n op k e)) (all_fine (Some view) ds op kids hid)

  viewed_fine : (ds : List Decl) → scheme_kids t ds ≡ None → first_hidden t ds ≡ None → (v op : ℕ) → Each (IsScheme spec op) (schemes_in_view (views_of t ds) v op)
  unfolding views_of
  viewed_fine ds kids hid zero op = tt
  viewed_fine ds kids hid (suc v) op =
      subst (λ (o : Option (List (List Scheme))). Each (IsScheme spec op) (unwrap_or (slice_get (unwrap_or o []) op) [])) (sym (slice_get-map (row_of t ds) (view_names ds) v)) (by (slice_get (view_names ds) v))
    where
      by : (o : Option Bytes) → Each (IsScheme spec op) (unwrap_or (slice_get (unwrap_or (option_map (row_of t ds) o) []) op) [])
      by None = tt
      by (Some view) = row_fine ds kids hid (length t.ops) op view

-- an operator to which declarations give schemes has some
some_owned : (t : Table) (k : ℕ) (ss : List SchemeDecl) → (ss ≡ [] → ⊥) → 1 ≤ length (owned (map (λ s. (k, scheme_of t k s)) ss) k)
some_owned t k [] some = absurd (some refl)
some_owned t k (s ∷ ss) some =
    let e : owned (map (λ x. (k, scheme_of t k x)) (s ∷ ss)) k ≡ scheme_of t k s ∷ owned (map (λ x. (k, scheme_of t k x)) ss) k =
    ap (λ b. (if b then scheme_of t k s ∷ [] else []) ++ owned (map (λ x. (k, scheme_of t k x)) ss) k) (eq_itself k) in
    let n : length (owned (map (λ x. (k, scheme_of t k x)) (s ∷ ss)) k) ≡ suc (length (owned (map (λ x. (k, scheme_of t k x)) ss) k)) = ap length e in
    omega (arith, n)

gives_some : (t : Table) (k : ℕ) (d : Decl) → IsWritten d → gives t k d ≡ true → 1 ≤ length (owned (schemes_at t None d) k)
gives_some t k (Schemes p op None ss) written h = by (operator_at t p op) h
  where
    by : (o : Option ℕ) → unwrap_or (option_map (nat_eq k) o) false ≡ true → 1 ≤ length (owned (schemes_under t ss o) k)
    by None e = absurd (cc e)
    by (Some j) e = subst (λ m. 1 ≤ length (owned (schemes_under t ss (Some m)) k)) (eq_is k j e) (some_owned t k ss written)
gives_some t k d written h = absurd (cc h)

given_has : (t : Table) (k : ℕ) (ds : List Decl) → Each IsWritten ds → list_any (gives t k) ds ≡ true → 1 ≤ length (schemes_of t None ds k)
given_has t k [] written h = absurd (cc h)
given_has t k (d ∷ ds) written h = by (gives t k d) refl (given_has t k ds written.1) h
  where
    parts : length (schemes_of t None (d ∷ ds) k) ≡ length (owned (schemes_at t None d) k) + length (schemes_of t None ds k)
    parts = ap length (owned_append (schemes_at t None d) (flat_map (schemes_at t None) ds) k) ∙ length-append (owned (schemes_at t None d) k) (schemes_of t None ds k)

    by : (b : Bool) → gives t k d ≡ b → (list_any (gives t k) ds ≡ true → 1 ≤ length (schemes_of t None ds k)) → (b || list_any (gives t k) ds) ≡ true → 1 ≤ length (schemes_of t None (d ∷ ds) k)
    by true is rest some = let e = parts in let n : 1 ≤ length (owned (schemes_at t None d) k) = gives_some t k d written.0 is in omega (arith, e, n)
    by false is rest some = let e = parts in let n : 1 ≤ length (schemes_of t None ds k) = rest some in omega (arith, e, n)

-- where none is missing, no operator lacks a scheme
place_there : (xs : List Position) (k : ℕ) → k < length xs → (p : Position) × (slice_get xs k ≡ Some p)
place_there [] k h = absurd (omega (arith, h))
place_there (x ∷ xs) zero h = (x, refl)
place_there (x ∷ xs) (suc k) h = place_there xs k (omega (arith, h))

found_at : (t : Table) (k : ℕ) (o : Operator) → k < length t.op_places → fault_at t k o ≡ None → ⊥
found_at t k o low h = let p = place_there t.op_places k low in cc (ap (option_map (λ place. NoScheme place o.name)) p.1, h)

none_lacks : (t : Table) (ds : List Decl) → length t.op_places ≡ length t.ops → IsNoScheme t ds None → (k : ℕ) (o : Operator) → LacksScheme t ds k o → ⊥
none_lacks t ds all (all_have none e) k o lacks = none k o lacks
none_lacks t ds all (first_lacks j x first before e) k o lacks =
    let low : j < length t.ops = slice_get_within t.ops j x first.there in
    found_at t j x (omega (arith, all, low)) (sym e)

-- shown phyla are those of the draft
module _ (t : Table) (spec : Spec) (kept : HasTable t spec) where
  shown_kept : {p : ℕ} → IsShown spec p → IsShown (drafted t) p
  shown_kept root = subst (IsShown (drafted t)) (sym kept.root) root
  shown_kept (argument op p q own is there) =
      argument op p q (sym (phylum_kept t spec kept op) ∙ own) (shown_kept is) (subst (λ (l : List ℕ). Contains l q) (args_kept t spec kept op) there)

-- the schemes of the record fit their operators, and the operators of shown phyla have some
pub record_schemes : (ds : List Decl) (spec : Spec) → HasTable (names_of ds) spec → spec.ops ≡ with_schemes (schemes_of (names_of ds) None ds) (names_of ds).ops → Each IsWritten ds
    → IsNoScheme (names_of ds) ds None → scheme_kids (names_of ds) ds ≡ None → first_hidden (names_of ds) ds ≡ None
    → spec.views ≡ views_of (names_of ds) ds → HasSchemes spec
unfolding names_of
record_schemes ds spec kept made written none kids hid viewed = record { shown = shown_have; schemes = schemes_fit; views = in_views }
  where
    in_views : (v op : ℕ) → op < length spec.ops → All (IsScheme spec op) (schemes_in_view spec.views v op)
    in_views v op low =
        subst (λ (x : Views). All (IsScheme spec op) (schemes_in_view x v op)) (sym viewed)
        (All-from_recursion (IsScheme spec op) (schemes_in_view (views_of (names_of ds) ds) v op) (viewed_fine (names_of ds) spec kept ds kids hid v op))

    schemes_fit : (op : ℕ) (o : Operator) → slice_get spec.ops op ≡ Some o → All (IsScheme spec op) o.schemes
    schemes_fit op o at =
        let there = made_there (with_scheme (schemes_of (names_of ds) None ds)) (names_of ds).ops op o (ap (λ l. slice_get l op) (sym made) ∙ at) in
        All-from_recursion (IsScheme spec op) o.schemes
        (subst (Each (IsScheme spec op)) (ap (λ (x : Operator). x.schemes) there.2) (all_fine (names_of ds) spec kept None ds op kids hid))

    shown_have : (op : ℕ) (o : Operator) → slice_get spec.ops op ≡ Some o → IsShown spec o.phylum → 1 ≤ length o.schemes
    shown_have op o at is = by (list_any (gives (names_of ds) op) ds) refl
      where
        there : (x : Operator) × (slice_get (names_of ds).ops op ≡ Some x) × (with_scheme (schemes_of (names_of ds) None ds) op x ≡ o)
        there = made_there (with_scheme (schemes_of (names_of ds) None ds)) (names_of ds).ops op o (ap (λ l. slice_get l op) (sym made) ∙ at)

        is_shown : IsShown (drafted (names_of ds)) there.0.phylum
        is_shown = subst (IsShown (drafted (names_of ds))) (ap (λ (x : Operator). x.phylum) (sym there.2)) (shown_kept (names_of ds) spec kept is)

        by : (b : Bool) → list_any (gives (names_of ds) op) ds ≡ b → 1 ≤ length o.schemes
        by true some = subst (λ (x : Operator). 1 ≤ length x.schemes) there.2 (given_has (names_of ds) op ds written some)
        by false lacks =
            absurd (none_lacks (names_of ds) ds (places_count ds) none op there.0
            (record { there = there.1; shown = is_shown; none = lacks }))
