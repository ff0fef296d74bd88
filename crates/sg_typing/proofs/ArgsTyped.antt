-- The occurrences that an equation's expression names have types.
use Rattle.std.proofs.Common.{◌≡◌, refl, ap, subst, ◌∙◌, ℕ, ◌+◌, zero, suc, Bool, true, false, cond, List, [], ◌∷◌, ◌++◌, map, Option, Some, None, slice_get}
use Rattle.std.specs.Prelude.{is_some, option_map, option_and_then, bytes_eq}
use Rattle.std.specs.List.{position}
use Rattle.std.proofs.lemmas.Option.{slice_get-map}
use Rattle.sg_kinds.specs.Values.{Bytes}
use Rattle.sg_kinds.specs.Specification.{attrs_of, locals_of, phylum_of}
use Rattle.sg_kinds.specs.Dependencies.{phylum_there}
use Rattle.sg_kinds.specs.Far.{same_far, slot_of_far}
use Rattle.sg_kinds.specs.Typing.{attr_types, slot_type, types_at}
use Rattle.sg_kinds.specs.declared.spec.Attr.{Attr}
use Rattle.sg_kinds.specs.declared.spec.Local.{Local}
use Rattle.sg_kinds.specs.declared.spec.Occurrence.{Occurrence}
use Rattle.sg_kinds.proofs.Elementary.{slice_get-before, slice_get-behind}
use Rattle.sg_ast.specs.Expressions.{Expr, Exprs, Cases, Amount, Chars, Truth, Variable, Attribute, Remote, MadeOf, Paren, Single, Binary, Choice, Call, Let, With, NoExpr, AndExpr, NoCase, Default, Case}
use Rattle.sg_ast.specs.declared.name.Reference.{Reference}
use Rattle.sg_ast.specs.declared.name.Remote as enclosing
use Rattle.sg_names.specs.Drafted.{drafted}
use Rattle.sg_names.specs.Lookups.{attribute, attribute_at, far_list, far_slot, local, occurrence, reference}
use Rattle.sg_names.specs.declared.table.Table.{Table}
use Rattle.sg_types.specs.Bindings.{is_at, own_slots}
use Rattle.sg_typing.specs.Arguments.{added, local_of, remote_of, args_from, args_from_all, args_from_cases, args_in}
use Rattle.sg_typing.proofs.TableFacts.{position_there}

-- a slot that has a type
abbrev HasType : Table → ℕ → Occurrence → Type 0
HasType t op o = (p : ℕ) × (slot_type (drafted t) op o.at o.slot ≡ Some p)

abbrev HaveTypes : Table → ℕ → List Occurrence → Type 0
HaveTypes t op os = (ps : List ℕ) × (types_at (drafted t) op os ≡ Some ps)

-- the slot of an attribute
slot_there : (t : Table) (op at p s : ℕ) (x : Attr) → phylum_there t.ops op at ≡ Some p → slice_get (attrs_of t.phyla p) s ≡ Some x → HasType t op (record { at = at; slot = s })
slot_there t op at p s x there is = by at there
  where
    slot : slice_get (map (λ (y : Attr). y.of) (attrs_of t.phyla p)) s ≡ Some x.of
    slot = slice_get-map (λ (y : Attr). y.of) (attrs_of t.phyla p) s ∙ ap (option_map (λ (y : Attr). y.of)) is

    by : (at : ℕ) → phylum_there t.ops op at ≡ Some p → HasType t op (record { at = at; slot = s })
    by zero h = (x.of, ap (λ o. slice_get (attr_types (drafted t) o ++ map (λ (l : Local). l.of) (locals_of t.ops op)) s) h ∙ slice_get-before (map (λ (y : Attr). y.of) (attrs_of t.phyla p)) (map (λ (l : Local). l.of) (locals_of t.ops op)) s x.of slot)
    by (suc k) h = (x.of, ap (λ o. slice_get (attr_types (drafted t) o) s) h ∙ slot)

attr_there : (t : Table) (op at p s : ℕ) (a : Bytes) → phylum_there t.ops op at ≡ Some p → attribute t p a ≡ Some s → HasType t op (record { at = at; slot = s })
attr_there t op at p s a there named = let x = position_there (λ (y : Attr). bytes_eq a y.name) (attrs_of t.phyla p) s named in slot_there t op at p s x.0 there x.1

-- the slot of a far attribute of the left side
pub far_typed : (t : Table) (op : ℕ) (r : enclosing.Remote) (s : ℕ) → far_slot t op r ≡ Some s → HasType t op (record { at = 0; slot = s })
far_typed t op r s h = by (phylum_of t.ops op) refl h
  where
    by : (p : Option ℕ) → phylum_of t.ops op ≡ p → option_and_then (λ p. slot_of_far (attrs_of t.phyla p) (far_list t r)) p ≡ Some s → HasType t op (record { at = 0; slot = s })
    by None e f = cc
    by (Some p) e f = let x = position_there (λ (y : Attr). same_far y.far (far_list t r)) (attrs_of t.phyla p) s f in slot_there t op 0 p s x.0 e x.1

pub reference_typed : (t : Table) (op : ℕ) (r : Reference) (o : Occurrence) → reference t op r ≡ Some o → HasType t op o
reference_typed t op r o h = by (occurrence t op r.of) h
  where
    slotted : (at p : ℕ) → phylum_there t.ops op at ≡ Some p → (s : Option ℕ) → attribute t p r.attr.text ≡ s → option_map (λ s. record { at = at; slot = s }) s ≡ Some o → HasType t op o
    slotted at p there None named f = cc
    slotted at p there (Some s) named f = let same : record { at = at; slot = s } ≡ o = cc in subst (HasType t op) same (attr_there t op at p s r.attr.text there named)

    placed : (at : ℕ) (p : Option ℕ) → phylum_there t.ops op at ≡ p → option_and_then (λ p. option_map (λ s. record { at = at; slot = s }) (attribute t p r.attr.text)) p ≡ Some o → HasType t op o
    placed at None there f = cc
    placed at (Some p) there f = slotted at p there (attribute t p r.attr.text) refl f

    by : (at : Option ℕ) → option_and_then (λ at. attribute_at t op at r.attr.text) at ≡ Some o → HasType t op o
    by None f = cc
    by (Some at) f = placed at (phylum_there t.ops op at) refl f

-- the slot of a local
pub local_typed : (t : Table) (op k : ℕ) (n : Bytes) → local t op n ≡ Some k → HasType t op (record { at = 0; slot = own_slots t op + k })
local_typed t op k n h =
    let x = position_there (λ (l : Local). bytes_eq n l.name) (locals_of t.ops op) k h in
    (x.0.of, slice_get-behind (attr_types (drafted t) (phylum_of t.ops op)) (map (λ (l : Local). l.of) (locals_of t.ops op)) k ∙ slice_get-map (λ (l : Local). l.of) (locals_of t.ops op) k ∙ ap (option_map (λ (l : Local). l.of)) x.1)

name_typed : (t : Table) (op : ℕ) (n : Bytes) (o : Occurrence) → local_of t op n ≡ Some o → HasType t op o
name_typed t op n o h = by (local t op n) refl h
  where
    by : (k : Option ℕ) → local t op n ≡ k → option_map (λ s. record { at = 0; slot = s }) (option_map (λ k. own_slots t op + k) k) ≡ Some o → HasType t op o
    by None e f = cc
    by (Some k) e f = let same : record { at = 0; slot = own_slots t op + k } ≡ o = cc in subst (HasType t op) same (local_typed t op k n e)

remote_typed : (t : Table) (op : ℕ) (r : enclosing.Remote) (o : Occurrence) → remote_of t op r ≡ Some o → HasType t op o
remote_typed t op r o h = by (far_slot t op r) refl h
  where
    by : (s : Option ℕ) → far_slot t op r ≡ s → option_map (λ s. record { at = 0; slot = s }) s ≡ Some o → HasType t op o
    by None e f = cc
    by (Some s) e f = let same : record { at = 0; slot = s } ≡ o = cc in subst (HasType t op) same (far_typed t op r s e)

-- one occurrence more
types_push : (t : Table) (op : ℕ) (os : List Occurrence) (o : Occurrence) (ps : List ℕ) (p : ℕ) → types_at (drafted t) op os ≡ Some ps → slot_type (drafted t) op o.at o.slot ≡ Some p → types_at (drafted t) op (os ++ o ∷ []) ≡ Some (ps ++ p ∷ [])
types_push t op [] o ps p h k =
    let none : [] ≡ ps = cc in
    ap (λ x. option_and_then (λ q. option_map (λ qs. q ∷ qs) (Some [])) x) k ∙ ap (λ l. Some (l ++ p ∷ [])) none
types_push t op (x ∷ os) o ps p h k = by (λ qs f. types_push t op os o qs p f k) (slot_type (drafted t) op x.at x.slot) (types_at (drafted t) op os) refl refl h
  where
    by : ((qs : List ℕ) → types_at (drafted t) op os ≡ Some qs → types_at (drafted t) op (os ++ o ∷ []) ≡ Some (qs ++ p ∷ [])) → (a : Option ℕ) (b : Option (List ℕ)) → slot_type (drafted t) op x.at x.slot ≡ a → types_at (drafted t) op os ≡ b → option_and_then (λ q. option_map (λ qs. q ∷ qs) b) a ≡ Some ps
        → option_and_then (λ q. option_map (λ qs. q ∷ qs) (types_at (drafted t) op (os ++ o ∷ []))) (slot_type (drafted t) op x.at x.slot) ≡ Some (ps ++ p ∷ [])
    by rest None b e f g = cc
    by rest (Some q) None e f g = cc
    by rest (Some q) (Some qs) e f g =
        let same : q ∷ qs ≡ ps = cc in
        rw (e, rest qs f) (ap (λ l. Some (l ++ p ∷ [])) same)

added_typed : (t : Table) (op : ℕ) (before : List Occurrence) (o : Option Occurrence) → HaveTypes t op before → ((x : Occurrence) → o ≡ Some x → HasType t op x) → HaveTypes t op (added before o)
added_typed t op before None h k = h
added_typed t op before (Some o) h k = by (is_some (position (is_at o.at o.slot) before))
  where
    by : (b : Bool) → HaveTypes t op (cond b before (before ++ o ∷ []))
    by true = h
    by false = let p = k o refl in (h.0 ++ p.0 ∷ [], types_push t op before o h.0 p.0 h.1 p.1)

module _ (t : Table) (op : ℕ) where
  mutual
    from_typed : (before : List Occurrence) (e : Expr) → HaveTypes t op before → HaveTypes t op (args_from t op before e)
    from_typed before (Amount n place) h = h
    from_typed before (Chars s) h = h
    from_typed before (Truth b place) h = h
    from_typed before (Variable n) h = added_typed t op before (local_of t op n.text) h (name_typed t op n.text)
    from_typed before (Attribute r) h = added_typed t op before (reference t op r) h (reference_typed t op r)
    from_typed before (Remote r) h = added_typed t op before (remote_of t op r) h (remote_typed t op r)
    from_typed before (MadeOf made n place) h = h
    from_typed before (Paren a place) h = from_typed before a h
    from_typed before (Single f a place) h = from_typed before a h
    from_typed before (Binary s a b) h = from_typed (args_from t op before a) b (from_typed before a h)
    from_typed before (Choice c a b) h = from_typed (args_from t op (args_from t op before c) a) b (from_typed (args_from t op before c) a (from_typed before c h))
    from_typed before (Call n es) h = all_typed before es h
    from_typed before (Let n a b place) h = from_typed (args_from t op before a) b (from_typed before a h)
    from_typed before (With a q b cs place) h = cases_typed (args_from t op (args_from t op before a) b) cs (from_typed (args_from t op before a) b (from_typed before a h))

    all_typed : (before : List Occurrence) (es : Exprs) → HaveTypes t op before → HaveTypes t op (args_from_all t op before es)
    all_typed before NoExpr h = h
    all_typed before (AndExpr e es) h = all_typed (args_from t op before e) es (from_typed before e h)

    cases_typed : (before : List Occurrence) (cs : Cases) → HaveTypes t op before → HaveTypes t op (args_from_cases t op before cs)
    cases_typed before NoCase h = h
    cases_typed before (Default e) h = from_typed before e h
    cases_typed before (Case q e cs) h = cases_typed (args_from t op before e) cs (from_typed before e h)

pub args_typed : (t : Table) (op : ℕ) (e : Expr) → (types : List ℕ) × (types_at (drafted t) op (args_in t op e) ≡ Some types)
args_typed t op e = from_typed t op [] e ([], refl)
