-- What holds of every table of names, and of the arguments of equations.
use Rattle.std.proofs.Common.{◌≡◌, refl, sym, ap, subst, ◌∙◌, ℕ, zero, suc, Bool, true, false, nat_eq, List, [], ◌∷◌, length, Option, Some, None, slice_get, get_or}
use Rattle.std.specs.Prelude.{◌&&◌, not, if◌then◌else◌, option_map, option_and_then, unwrap_or, bytes_eq, codes}
use Rattle.std.specs.List.{position}
use Rattle.std.proofs.lemmas.Bool.{and_parts}
use Rattle.std.proofs.lemmas.List.Quantifiers.{position-Some}
use Rattle.std.proofs.lemmas.Option.{slice_get-get_or}
use Rattle.sg_kinds.specs.Values.{Bytes}
use Rattle.sg_kinds.specs.Specification.{has_shape, is_lexical_shape}
use Rattle.sg_kinds.specs.Typing.{is_usable, slot_type, types_at}
use Rattle.sg_kinds.specs.declared.marks.Unary.{Unary}
use Rattle.sg_kinds.specs.declared.marks.Unary.TheVariants.{TextToNumber, NumberToText, TextLength}
use Rattle.sg_kinds.specs.declared.spec.Phylum.{Phylum}
use Rattle.sg_kinds.specs.declared.spec.Operator.{Operator}
use Rattle.sg_kinds.specs.declared.spec.Occurrence.{Occurrence}
use Rattle.sg_kinds.proofs.Elementary.{eq_is, bytes_is}
use Rattle.sg_ast.specs.FirstFault.{or_else}
use Rattle.sg_ast.specs.declared.name.Reference.{Reference}
use Rattle.sg_names.specs.declared.table.Signature.{Signature}
use Rattle.sg_names.specs.declared.table.Table.{Table}
use Rattle.sg_names.specs.declared.table.Callable.{Callable}
use Rattle.sg_names.specs.declared.table.Callable.TheVariants as callable
use Rattle.sg_names.specs.Names.{op_named}
use Rattle.sg_names.specs.Lookups.{far_slot, phylum_named, is_whitespace, function_named, builtin_named, reference}
use Rattle.sg_names.specs.Drafted.{drafted}
use Rattle.sg_types.specs.Bindings.{OfEquation, is_at, argument, local_slot}
use Rattle.sg_typing.specs.Written.{IsUsable, IsCallable, AreCallable, AreOutside, is_builtin}

-- what stands at the first place that passes
pub position_there : {A : Type 0} (test : A → Bool) (xs : List A) (k : ℕ) → position test xs ≡ Some k → (x : A) × (slice_get xs k ≡ Some x) × (test x ≡ true)
position_there test [] k h = cc
position_there test (x ∷ xs) k h =
    let b = position-Some test (x ∷ xs) k x h in
    (get_or (x ∷ xs) k x, slice_get-get_or (x ∷ xs) k x b.0, b.1)

-- what a name before parentheses means has a result
one_of_three : (a b c : Bool) (f : Unary) → (if a then Some TextToNumber else if b then Some NumberToText else if c then Some TextLength else None) ≡ Some f → is_builtin f ≡ true
one_of_three true b c f h = let same : TextToNumber ≡ f = cc in subst (λ g. is_builtin g ≡ true) same refl
one_of_three false true c f h = let same : NumberToText ≡ f = cc in subst (λ g. is_builtin g ≡ true) same refl
one_of_three false false true f h = let same : TextLength ≡ f = cc in subst (λ g. is_builtin g ≡ true) same refl
one_of_three false false false f h = cc

operator_there : (t : Table) (n : Bytes) (op : ℕ) → op_named t.ops n ≡ Some op → IsCallable t (callable.Operator op)
operator_there t n op h =
    let x = position_there (λ (o : Operator). bytes_eq n o.name) t.ops op h in
    (x.0.phylum, ap (option_map (λ (o : Operator). o.phylum)) x.1)

function_there : (t : Table) (n : Bytes) (f : ℕ) → function_named t.functions n ≡ Some f → IsCallable t (callable.Function f)
function_there t n f h =
    let x = position_there (λ (g : Signature). bytes_eq n g.name) t.functions f h in
    (x.0, x.1)

callable_is : (t : Table) (n : Bytes) (c : Callable) (o f : Option ℕ) (b : Option Unary) → op_named t.ops n ≡ o → function_named t.functions n ≡ f → builtin_named n ≡ b
    → or_else (or_else (option_map callable.Operator o) (option_map callable.Function f)) (option_map callable.Builtin b) ≡ Some c → IsCallable t c
callable_is t n c (Some op) f b eo ef eb h = let same : callable.Operator op ≡ c = cc in subst (IsCallable t) same (operator_there t n op eo)
callable_is t n c None (Some f) b eo ef eb h = let same : callable.Function f ≡ c = cc in subst (IsCallable t) same (function_there t n f ef)
callable_is t n c None None (Some f) eo ef eb h =
    let same : callable.Builtin f ≡ c = cc in
    subst (IsCallable t) same (one_of_three (bytes_eq n (codes "STRtoINT")) (bytes_eq n (codes "INTtoSTR")) (bytes_eq n (codes "STRlen")) f eb)
callable_is t n c None None None eo ef eb h = cc

pub callables_known : (t : Table) → AreCallable t
callables_known t n c h = callable_is t n c (op_named t.ops n) (function_named t.functions n) (builtin_named n) refl refl refl h

-- a phylum whose name may be used may be used
flipped : (a b : Bool) → a && b ≡ false → not (b && a) ≡ true
flipped true true h = cc
flipped true false h = refl
flipped false true h = refl
flipped false false h = refl

usable_there : (t : Table) (q : ℕ) (x : Phylum) → slice_get t.phyla q ≡ Some x → is_whitespace t q x.name ≡ false → is_usable (drafted t) q ≡ true
usable_there t q x e h =
    let shape : has_shape t.phyla is_lexical_shape q ≡ is_lexical_shape x.shape = ap (λ o. unwrap_or (option_map (λ (y : Phylum). is_lexical_shape y.shape) o) false) e in
    let f : bytes_eq x.name (codes "WHITESPACE") && is_lexical_shape x.shape ≡ false = rw shape at h in
    rw e (flipped (bytes_eq x.name (codes "WHITESPACE")) (is_lexical_shape x.shape) f)

pub usable_is : (t : Table) → IsUsable t
usable_is t n p h = by (phylum_named t n) refl h
  where
    white : (q : ℕ) → phylum_named t n ≡ Some q → (b : Bool) → is_whitespace t q n ≡ b → (if b then None else Some q) ≡ Some p → is_usable (drafted t) p ≡ true
    white q e true w f = cc
    white q e false w f =
        let same : q ≡ p = cc in
        let x = position_there (λ (y : Phylum). bytes_eq n y.name) t.phyla q e in
        let name : n ≡ x.0.name = bytes_is n x.0.name x.2 in
        subst (λ k. is_usable (drafted t) k ≡ true) same (usable_there t q x.0 x.1 (subst (λ m. is_whitespace t q m ≡ false) name w))

    by : (o : Option ℕ) → phylum_named t n ≡ o → option_and_then (λ q. if is_whitespace t q n then None else Some q) o ≡ Some p → is_usable (drafted t) p ≡ true
    by None e f = cc
    by (Some q) e f = white q e (is_whitespace t q n) refl f

-- the arguments of an equation have the types of their slots
types_cons : (t : Table) (op : ℕ) (o : Occurrence) (os : List Occurrence) (A : List ℕ) → types_at (drafted t) op (o ∷ os) ≡ Some A → (p : ℕ) × (ps : List ℕ) × (slot_type (drafted t) op o.at o.slot ≡ Some p) × (types_at (drafted t) op os ≡ Some ps) × (A ≡ p ∷ ps)
types_cons t op o os A h = by (slot_type (drafted t) op o.at o.slot) (types_at (drafted t) op os) refl refl h
  where
    by : (x : Option ℕ) (r : Option (List ℕ)) → slot_type (drafted t) op o.at o.slot ≡ x → types_at (drafted t) op os ≡ r → option_and_then (λ p. option_map (λ ps. p ∷ ps) r) x ≡ Some A
        → (p : ℕ) × (ps : List ℕ) × (slot_type (drafted t) op o.at o.slot ≡ Some p) × (types_at (drafted t) op os ≡ Some ps) × (A ≡ p ∷ ps)
    by None r e f k = cc
    by (Some p) None e f k = cc
    by (Some p) (Some ps) e f k = (p, ps, e, f, cc)

types_count : (t : Table) (op : ℕ) (args : List Occurrence) (A : List ℕ) → types_at (drafted t) op args ≡ Some A → length A ≡ length args
types_count t op [] A h = let same : [] ≡ A = cc in ap length (sym same)
types_count t op (o ∷ os) A h =
    let c = types_cons t op o os A h in
    ap length c.4 ∙ ap suc (types_count t op os c.1 c.3)

types_there : (t : Table) (op : ℕ) (args : List Occurrence) (A : List ℕ) (k : ℕ) (o : Occurrence) → types_at (drafted t) op args ≡ Some A → slice_get args k ≡ Some o → slice_get A k ≡ slot_type (drafted t) op o.at o.slot
types_there t op [] A k o h g = cc
types_there t op (x ∷ xs) A zero o h g =
    let c = types_cons t op x xs A h in
    let same : x ≡ o = cc in
    rw c.4 (sym c.2 ∙ ap (λ (y : Occurrence). slot_type (drafted t) op y.at y.slot) same)
types_there t op (x ∷ xs) A (suc k) o h g =
    let c = types_cons t op x xs A h in
    rw c.4 (types_there t op xs c.1 k o c.3 g)

argument_typed : (t : Table) (op : ℕ) (args : List Occurrence) (A : List ℕ) (at slot : ℕ) (x : ℕ × Option ℕ) → types_at (drafted t) op args ≡ Some A → argument t op args at slot ≡ Some x → slice_get A x.0 ≡ x.1
argument_typed t op args A at slot x h g = by (position (is_at at slot) args) refl g
  where
    by : (o : Option ℕ) → position (is_at at slot) args ≡ o → option_map (λ k. (k, slot_type (drafted t) op at slot)) o ≡ Some x → slice_get A x.0 ≡ x.1
    by None e f = cc
    by (Some k) e f =
        let y = position_there (is_at at slot) args k e in
        let b = and_parts (nat_eq at y.0.at) (nat_eq slot y.0.slot) y.2 in
        let a : at ≡ y.0.at = eq_is at y.0.at b.0 in
        let s : slot ≡ y.0.slot = eq_is slot y.0.slot b.1 in
        let z : slice_get A k ≡ slot_type (drafted t) op at slot = types_there t op args A k y.0 h y.1 ∙ ap (λ m. slot_type (drafted t) op m y.0.slot) (sym a) ∙ ap (slot_type (drafted t) op at) (sym s) in
        let same : (k, slot_type (drafted t) op at slot) ≡ x = cc in
        subst (λ (v : ℕ × Option ℕ). slice_get A v.0 ≡ v.1) same z

pub equation_outside : (t : Table) (op : ℕ) (args : List Occurrence) (A : List ℕ) → types_at (drafted t) op args ≡ Some A → AreOutside t (OfEquation op args) A
equation_outside t op args A h = record {
  count = types_count t op args A h;
  references = λ r x g. references r x (reference t op r) g;
  remotes = λ r x g. own x (far_slot t op r) g;
  locals = λ n x g. own x (local_slot t op n) g;
}
  where
    references : (r : Reference) (x : ℕ × Option ℕ) (o : Option Occurrence) → option_and_then (λ (o : Occurrence). argument t op args o.at o.slot) o ≡ Some x → slice_get A x.0 ≡ x.1
    references r x None g = cc
    references r x (Some o) g = argument_typed t op args A o.at o.slot x h g

    own : (x : ℕ × Option ℕ) (s : Option ℕ) → option_and_then (argument t op args 0) s ≡ Some x → slice_get A x.0 ≡ x.1
    own x None g = cc
    own x (Some s) g = argument_typed t op args A 0 s x h g
