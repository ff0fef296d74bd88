-- Expressions of the record have the types that were found, where nothing mismatches.
use Rattle.std.proofs.Common.{◌≡◌, refl, sym, ap, subst, ◌∙◌, ℕ, zero, suc, Bool, true, false, List, [], ◌∷◌, ◌++◌, map, Option, Some, None, slice_get, append_assoc}
use Rattle.std.specs.Prelude.{◌^◌, if◌then◌else◌, length, option_map, option_and_then, unwrap_or, is_some}
use Rattle.std.proofs.lemmas.Bool.{and_parts}
use Rattle.sg_kinds.proofs.Elementary.{eq_itself, lt_true, slice_get-before, slice_get-behind}
use Rattle.sg_kinds.specs.Values.{Bytes}
use Rattle.sg_kinds.specs.Specification.{truths, numbers, texts, has_shape, is_list_shape}
use Rattle.sg_kinds.specs.Typing as typing
use Rattle.sg_kinds.specs.Typing.{type_of, all_fit, rest_fits, bound_types, unary_type, is_found}
use Rattle.sg_kinds.specs.Expressions as kept
use Rattle.sg_kinds.specs.declared.fault.Position.{Position}
use Rattle.sg_kinds.specs.declared.marks.Unary.{Unary}
use Rattle.sg_kinds.specs.declared.marks.Unary.TheVariants as unary
use Rattle.sg_kinds.specs.declared.marks.Made.{Made}
use Rattle.sg_kinds.specs.declared.marks.Made.TheVariants.{Completing}
use Rattle.sg_ast.specs.FirstFault.{or_else}
use Rattle.sg_ast.specs.Patterns as plain
use Rattle.sg_ast.specs.Expressions.{Expr, Exprs, Cases, Amount, Chars, Truth, Variable, Attribute, Remote, MadeOf, Paren, Single, Binary, Choice, Call, Let, With, NoExpr, AndExpr, NoCase, Default, Case}
use Rattle.sg_ast.specs.Chains.{expr_place, occurrence_place}
use Rattle.sg_ast.specs.declared.name.Reference.{Reference}
use Rattle.sg_ast.specs.declared.name.Remote as enclosing
use Rattle.sg_ast.specs.declared.expr.Infix.{Infix}
use Rattle.sg_ast.specs.declared.expr.Infix.TheVariants.{Or, And, Equal, Unequal, Below, AtMost, Above, AtLeast, Cons, Join, Add, Sub, Mul, Div, Rem}
use Rattle.sg_ast.specs.declared.expr.Prefix.{Prefix}
use Rattle.sg_ast.specs.declared.expr.Prefix.TheVariants.{Minus, Not}
use Rattle.sg_ast.specs.Written.{AreWritten, AreWrittenAll, AreWrittenCases}
use Rattle.sg_ast.proofs.FirstLaws.{neither}
use Rattle.sg_names.specs.declared.table.Table.{Table}
use Rattle.sg_names.specs.declared.table.Callable.{Callable}
use Rattle.sg_names.specs.declared.table.Callable.TheVariants as callable
use Rattle.sg_names.specs.Names.{op_named}
use Rattle.sg_names.specs.Lookups as look
use Rattle.sg_names.specs.Drafted.{drafted, without_body}
use Rattle.sg_types.specs.declared.scope.Variable as scope
use Rattle.sg_types.specs.Types.{unless, fits_where, do_agree, list_of, list_at}
use Rattle.sg_types.specs.Scopes.{found, place_of}
use Rattle.sg_types.specs.Bindings.{Owner, outside, behind, reference_at, remote_at, local_at, variable_at, type_there, place_there}
use Rattle.sg_types.specs.Patterns.{variables_of, variables_of_all}
use Rattle.sg_types.specs.Patterns as pattern
use Rattle.sg_types.specs.Expressions.{one_type, type_in, mismatch_in, mismatch_in_all, mismatch_in_cases, recorded, recorded_all, recorded_cases, where_wanted, at_infix, given, infix_in, prefix_type, prefix_of, params_in, at_cons, pair_in, called_in, called_type}
use Rattle.sg_typing.specs.Written.{IsUsable, HasLists, AreOutside, IsCallable, AreCallable, is_builtin, known}
use Rattle.sg_typing.proofs.RecordTyped.{unless_is, untyped_is, known-append, pattern_typed}

-- a variable that is known
pub known_cons : (v : scope.Variable) (vs : List scope.Variable) (S : List ℕ) → known (v ∷ vs) ≡ Some S → (p : ℕ) × (ps : List ℕ) × (v.of ≡ Some p) × (known vs ≡ Some ps) × (S ≡ p ∷ ps)
known_cons v vs S h = by v.of (known vs) refl refl h
  where
    by : (o : Option ℕ) (r : Option (List ℕ)) → v.of ≡ o → known vs ≡ r → option_and_then (λ p. option_map (λ ps. p ∷ ps) r) o ≡ Some S → (p : ℕ) × (ps : List ℕ) × (v.of ≡ Some p) × (known vs ≡ Some ps) × (S ≡ p ∷ ps)
    by None r e f k = cc
    by (Some p) None e f k = cc
    by (Some p) (Some ps) e f k = (p, ps, e, f, cc)

known_at : (vs : List scope.Variable) (S : List ℕ) (k : ℕ) (v : scope.Variable) → known vs ≡ Some S → slice_get vs k ≡ Some v → slice_get S k ≡ v.of
known_at [] S k v h g = cc
known_at (x ∷ vs) S zero v h g =
    let c = known_cons x vs S h in
    let same : x ≡ v = cc in
    rw c.4 (sym c.2 ∙ ap (λ (y : scope.Variable). y.of) same)
known_at (x ∷ vs) S (suc k) v h g =
    let c = known_cons x vs S h in
    rw c.4 (known_at vs c.1 k v c.3 g)

found_known : (vs : List scope.Variable) (S : List ℕ) (n : Bytes) (y : ℕ × Option ℕ) → known vs ≡ Some S → found vs n ≡ Some y → slice_get S y.0 ≡ y.1
found_known vs S n y h g = by (place_of vs n) g
  where
    there : (k : ℕ) (o : Option scope.Variable) → slice_get vs k ≡ o → option_map (λ (v : scope.Variable). (k, v.of)) o ≡ Some y → slice_get S y.0 ≡ y.1
    there k None e f = cc
    there k (Some v) e f =
        let same : (k, v.of) ≡ y = cc in
        subst (λ (z : ℕ × Option ℕ). slice_get S z.0 ≡ z.1) same (known_at vs S k v h e)

    by : (o : Option ℕ) → option_and_then (λ k. option_map (λ (v : scope.Variable). (k, v.of)) (slice_get vs k)) o ≡ Some y → slice_get S y.0 ≡ y.1
    by None f = cc
    by (Some k) f = there k (slice_get vs k) refl f

-- what an expression where a type is wanted gives
wanted_is : (t : Table) (wanted : ℕ) (o : Option ℕ) (place : Position) (inside : Option Position) → where_wanted t (Some wanted) o place inside ≡ None → (is_found (drafted t) wanted o ≡ true) × (inside ≡ None)
wanted_is t wanted o place inside h =
    let b = neither (unless (fits_where t (Some wanted) o) place) inside h in
    (unless_is (is_found (drafted t) wanted o) place b.0, b.1)

single_typed : (t : Table) (f : Prefix) (q : ℕ) (o : Option ℕ) → o ≡ Some q → typing.is_accepted (drafted t) q (prefix_type f) ≡ true → unary_type (drafted t) (prefix_of f) o ≡ Some (prefix_type f)
single_typed t Minus q o is a = rw is (rw a refl)
single_typed t Not q o is a = rw is (rw a refl)

found_as : (t : Table) (wanted q : ℕ) (o : Option ℕ) → o ≡ Some q → is_found (drafted t) wanted o ≡ true → is_found (drafted t) wanted (Some q) ≡ true
found_as t wanted q o e h = rw e at h

wanted_as : (t : Table) (q : ℕ) (o found : Option ℕ) (place : Position) (inside : Option Position) → o ≡ Some q → where_wanted t o found place inside ≡ None → where_wanted t (Some q) found place inside ≡ None
wanted_as t q o found place inside e h = rw e at h

fits_there : (t : Table) (wanted p : ℕ) (o : Option ℕ) → is_found (drafted t) wanted o ≡ true → typing.where_fits (drafted t) wanted p o ≡ Some p
fits_there t wanted p None h = cc
fits_there t wanted p (Some q) h = rw h refl

-- operators between operands
plain_parts : (t : Table) (wanted : ℕ) (q r : Option ℕ) (x y : Position) (m n : Option Position) → or_else (where_wanted t (Some wanted) q x m) (where_wanted t (Some wanted) r y n) ≡ None
    → (is_found (drafted t) wanted q ≡ true) × (m ≡ None) × (is_found (drafted t) wanted r ≡ true) × (n ≡ None)
plain_parts t wanted q r x y m n h =
    let b = neither (where_wanted t (Some wanted) q x m) (where_wanted t (Some wanted) r y n) h in
    let c = wanted_is t wanted q x m b.0 in
    let d = wanted_is t wanted r y n b.1 in
    (c.0, c.1, d.0, d.1)

equal_parts : (b : Bool) (y : Position) (m n : Option Position) → or_else m (or_else (unless b y) n) ≡ None → (m ≡ None) × (n ≡ None) × (b ≡ true)
equal_parts b y m n h =
    let c = neither m (or_else (unless b y) n) h in
    let d = neither (unless b y) n c.1 in
    (c.0, d.1, unless_is b y d.0)

list_shape : (t : Table) (l : ℕ) (x : ℕ × ℕ) → list_at t l ≡ Some x → has_shape t.phyla is_list_shape l ≡ true
list_shape t l x h = by (has_shape t.phyla is_list_shape l) refl
  where
    by : (b : Bool) → has_shape t.phyla is_list_shape l ≡ b → has_shape t.phyla is_list_shape l ≡ true
    by true e = e
    by false e = let n : None ≡ Some x = rw e at h in cc

cons_parts : (t : Table) (o : Option (ℕ × ℕ)) (q : Option ℕ) (x y : Position) (m n : Option Position) → at_cons t o q x y m n ≡ None
    → (z : ℕ × ℕ) × (o ≡ Some z) × (is_found (drafted t) z.1 q ≡ true) × (m ≡ None) × (n ≡ None)
cons_parts t None q x y m n h = let b = neither m (Some y) h in cc
cons_parts t (Some z) q x y m n h =
    let b = neither (where_wanted t (Some z.1) q x m) n h in
    let c = wanted_is t z.1 q x m b.0 in
    (z, refl, c.0, c.1, b.1)

infix_parts : (t : Table) (s : Infix) (q r : Option ℕ) (x y : Position) (m n : Option Position) → at_infix t s q r x y m n ≡ None → (m ≡ None) × (n ≡ None)
infix_parts t Equal q r x y m n h = let c = equal_parts (do_agree t q r) y m n h in (c.0, c.1)
infix_parts t Unequal q r x y m n h = let c = equal_parts (do_agree t q r) y m n h in (c.0, c.1)
infix_parts t Cons q r x y m n h = let c = cons_parts t (list_of t r) q x y m n h in (c.3, c.4)
infix_parts t Or q r x y m n h = let c = plain_parts t truths q r x y m n h in (c.1, c.3)
infix_parts t And q r x y m n h = let c = plain_parts t truths q r x y m n h in (c.1, c.3)
infix_parts t Join q r x y m n h = let c = plain_parts t texts q r x y m n h in (c.1, c.3)
infix_parts t Below q r x y m n h = let c = plain_parts t numbers q r x y m n h in (c.1, c.3)
infix_parts t AtMost q r x y m n h = let c = plain_parts t numbers q r x y m n h in (c.1, c.3)
infix_parts t Above q r x y m n h = let c = plain_parts t numbers q r x y m n h in (c.1, c.3)
infix_parts t AtLeast q r x y m n h = let c = plain_parts t numbers q r x y m n h in (c.1, c.3)
infix_parts t Add q r x y m n h = let c = plain_parts t numbers q r x y m n h in (c.1, c.3)
infix_parts t Sub q r x y m n h = let c = plain_parts t numbers q r x y m n h in (c.1, c.3)
infix_parts t Mul q r x y m n h = let c = plain_parts t numbers q r x y m n h in (c.1, c.3)
infix_parts t Div q r x y m n h = let c = plain_parts t numbers q r x y m n h in (c.1, c.3)
infix_parts t Rem q r x y m n h = let c = plain_parts t numbers q r x y m n h in (c.1, c.3)

-- a type that is found, and that the record has
abbrev Gives : Table → List ℕ → Option ℕ → kept.Expr → Type 0
Gives t G o e = (p : ℕ) × (o ≡ Some p) × (type_of (drafted t) G e ≡ Some p)

module _ (t : Table) (lists : HasLists t) (G : List ℕ) (a b : kept.Expr) (q r : ℕ) (ka : type_of (drafted t) G a ≡ Some q) (kb : type_of (drafted t) G b ≡ Some r) where
  cons_typed : (x : ℕ × ℕ) (o : Option (ℕ × ℕ)) → o ≡ Some x → list_at t r ≡ Some x → is_found (drafted t) x.1 (Some q) ≡ true → type_of (drafted t) G (kept.Cons (pair_in o) a b) ≡ Some r
  cons_typed x o is e f =
      let l = lists r x e in
      rw is (rw (ka, kb, l.0, l.1, list_shape t r x e, eq_itself r, f) refl)

  infix_typed : (s : Infix) (x y : Position) (m n : Option Position) → at_infix t s (Some q) (Some r) x y m n ≡ None → Gives t G (given s (Some r)) (infix_in t s (Some r) a b)
  infix_typed Equal x y m n h = let c = equal_parts (do_agree t (Some q) (Some r)) y m n h in (truths, refl, rw (ka, kb, c.2) refl)
  infix_typed Unequal x y m n h = let c = equal_parts (do_agree t (Some q) (Some r)) y m n h in (truths, refl, rw (ka, kb, c.2) refl)
  infix_typed Cons x y m n h = let c = cons_parts t (list_of t (Some r)) (Some q) x y m n h in (r, refl, cons_typed c.0 (list_of t (Some r)) c.1 c.1 c.2)
  infix_typed Or x y m n h = let c = plain_parts t truths (Some q) (Some r) x y m n h in (truths, refl, rw (ka, kb, c.0, c.2) refl)
  infix_typed And x y m n h = let c = plain_parts t truths (Some q) (Some r) x y m n h in (truths, refl, rw (ka, kb, c.0, c.2) refl)
  infix_typed Join x y m n h = let c = plain_parts t texts (Some q) (Some r) x y m n h in (texts, refl, rw (ka, kb, c.0, c.2) refl)
  infix_typed Below x y m n h = let c = plain_parts t numbers (Some q) (Some r) x y m n h in (truths, refl, rw (ka, kb, c.0, c.2) refl)
  infix_typed AtMost x y m n h = let c = plain_parts t numbers (Some q) (Some r) x y m n h in (truths, refl, rw (ka, kb, c.0, c.2) refl)
  infix_typed Above x y m n h = let c = plain_parts t numbers (Some q) (Some r) x y m n h in (truths, refl, rw (ka, kb, c.0, c.2) refl)
  infix_typed AtLeast x y m n h = let c = plain_parts t numbers (Some q) (Some r) x y m n h in (truths, refl, rw (ka, kb, c.0, c.2) refl)
  infix_typed Add x y m n h = let c = plain_parts t numbers (Some q) (Some r) x y m n h in (numbers, refl, rw (ka, kb, c.0, c.2) refl)
  infix_typed Sub x y m n h = let c = plain_parts t numbers (Some q) (Some r) x y m n h in (numbers, refl, rw (ka, kb, c.0, c.2) refl)
  infix_typed Mul x y m n h = let c = plain_parts t numbers (Some q) (Some r) x y m n h in (numbers, refl, rw (ka, kb, c.0, c.2) refl)
  infix_typed Div x y m n h = let c = plain_parts t numbers (Some q) (Some r) x y m n h in (numbers, refl, rw (ka, kb, c.0, c.2) refl)
  infix_typed Rem x y m n h = let c = plain_parts t numbers (Some q) (Some r) x y m n h in (numbers, refl, rw (ka, kb, c.0, c.2) refl)

-- calls
get_map : {A B : Type 0} (f : A → B) (xs : List A) (k : ℕ) (x : A) → slice_get xs k ≡ Some x → slice_get (map f xs) k ≡ Some (f x)
get_map f [] k x h = cc
get_map f (y ∷ xs) zero x h = let same : y ≡ x = cc in ap (λ z. Some (f z)) same
get_map f (y ∷ xs) (suc k) x h = get_map f xs k x h

builtin_typed : (t : Table) (G : List ℕ) (f : Unary) (e : kept.Expr) → is_builtin f ≡ true → is_found (drafted t) (look.builtin_param f) (type_of (drafted t) G e) ≡ true → type_of (drafted t) G (kept.Single f e) ≡ Some (look.builtin_result f)
builtin_typed t G unary.TextToNumber e b h = fits_there t texts numbers (type_of (drafted t) G e) h
builtin_typed t G unary.NumberToText e b h = fits_there t numbers texts (type_of (drafted t) G e) h
builtin_typed t G unary.TextLength e b h = fits_there t texts numbers (type_of (drafted t) G e) h
builtin_typed t G unary.Paren e b h = cc
builtin_typed t G unary.Negative e b h = cc
builtin_typed t G unary.Not e b h = cc

called_typed : (t : Table) (G : List ℕ) (c : Callable) (es : kept.Exprs) → IsCallable t c → all_fit (drafted t) G es (look.params_of t c) ≡ true → Gives t G (look.result_of t c) (called_in (Some c) es)
called_typed t G (callable.Operator op) es k h = (k.0, k.1, rw h k.1)
called_typed t G (callable.Function f) es k h =
    let fit : all_fit (drafted t) G es k.0.params ≡ true = rw k.1 at h in
    (k.0.result, rw k.1 refl, rw (get_map without_body t.functions f k.0 k.1) (rw fit refl))
called_typed t G (callable.Builtin f) kept.NoExpr k h = cc
called_typed t G (callable.Builtin f) (kept.AndExpr e es) k h =
    let b = and_parts (is_found (drafted t) (look.builtin_param f) (type_of (drafted t) G e)) (all_fit (drafted t) G es []) h in
    (look.builtin_result f, refl, builtin_typed t G f e k b.0)

-- the variables of a pattern are known
pub known_two : (xs ys : List scope.Variable) (ps qs : List ℕ) → known xs ≡ Some ps → known ys ≡ Some qs → known (xs ++ ys) ≡ Some (ps ++ qs)
known_two xs ys ps qs h g = known-append xs ys ∙ rw (h, g) refl

mutual
  vars_known : (t : Table) (q : plain.Pattern) (p : ℕ) → (bs : List ℕ) × (known (variables_of t q (Some p)) ≡ Some bs)
  vars_known t (plain.Amount negative n place) p = ([], refl)
  vars_known t (plain.Chars s) p = ([], refl)
  vars_known t (plain.Truth b place) p = ([], refl)
  vars_known t (plain.Anything place) p = ([], refl)
  vars_known t (plain.Variable n) p = (p ∷ [], refl)
  vars_known t (plain.MadeAs made n place) p = ([], refl)
  vars_known t (plain.Applied n xs) p = all_known t xs (pattern.parts_of t (op_named t.ops n.text))

  all_known : (t : Table) (xs : plain.Patterns) (ps : List ℕ) → (bs : List ℕ) × (known (variables_of_all t xs ps) ≡ Some bs)
  all_known t plain.NoPattern [] = ([], refl)
  all_known t plain.NoPattern (p ∷ ps) = ([], refl)
  all_known t (plain.AndPattern x xs) [] = ([], refl)
  all_known t (plain.AndPattern x xs) (p ∷ ps) =
      let a = vars_known t x p in
      let b = all_known t xs ps in
      (a.0 ++ b.0, known_two (variables_of t x (Some p)) (variables_of_all t xs ps) a.0 b.0 a.1 b.1)

pub one_known : (v : scope.Variable) (p : ℕ) → v.of ≡ Some p → known (v ∷ []) ≡ Some (p ∷ [])
one_known v p e = rw e refl

has_some : (o : Option ℕ) (p : ℕ) → o ≡ Some p → is_some o ≡ true
has_some o p e = rw e refl

-- forms of the record, from their parts
made_typed : (t : Table) (G : List ℕ) (made : Made) (q : ℕ) (o : Option ℕ) → o ≡ Some q → typing.is_usable (drafted t) q ≡ true → type_of (drafted t) G (kept.MadeOf made (unwrap_or o 0)) ≡ Some q
made_typed t G made q o is u = rw is (rw u refl)

choice_typed : (t : Table) (G : List ℕ) (c a b : kept.Expr) (s p q : ℕ) → type_of (drafted t) G c ≡ Some s → is_found (drafted t) truths (Some s) ≡ true → type_of (drafted t) G a ≡ Some p → type_of (drafted t) G b ≡ Some q → is_found (drafted t) p (Some q) ≡ true → type_of (drafted t) G (kept.Choice c a b) ≡ Some p
choice_typed t G c a b s p q kc fc ka kb f = rw (kc, ka, kb) (rw (fc, f) refl)

let_typed : (t : Table) (outer S : List ℕ) (a b : kept.Expr) (p q : ℕ) → type_of (drafted t) (outer ++ S) a ≡ Some p → type_of (drafted t) (outer ++ (S ++ p ∷ [])) b ≡ Some q → type_of (drafted t) (outer ++ S) (kept.Let a b) ≡ Some q
let_typed t outer S a b p q ka kb = rw (ka, append_assoc outer S (p ∷ [])) kb

with_typed : (t : Table) (outer S bs : List ℕ) (a b : kept.Expr) (x : kept.Pattern) (cs : kept.Cases) (p q : ℕ) → type_of (drafted t) (outer ++ S) a ≡ Some p → bound_types (drafted t) x p ≡ Some bs → type_of (drafted t) (outer ++ (S ++ bs)) b ≡ Some q → rest_fits (drafted t) (outer ++ S) p q cs ≡ true → type_of (drafted t) (outer ++ S) (kept.With a (kept.Case x b cs)) ≡ Some q
with_typed t outer S bs a b x cs p q ka kx kb r = rw (ka, kx, append_assoc outer S bs) (rw (kb, r) refl)

case_fits : (t : Table) (outer S bs : List ℕ) (e : kept.Expr) (x : kept.Pattern) (cs : kept.Cases) (p q r : ℕ) → bound_types (drafted t) x p ≡ Some bs → type_of (drafted t) (outer ++ (S ++ bs)) e ≡ Some r → is_found (drafted t) q (Some r) ≡ true → rest_fits (drafted t) (outer ++ S) p q cs ≡ true → rest_fits (drafted t) (outer ++ S) p q (kept.Case x e cs) ≡ true
case_fits t outer S bs e x cs p q r kx ke f rest = rw (kx, append_assoc outer S bs) (rw (ke, f) rest)

arg_fits : (t : Table) (G : List ℕ) (e : kept.Expr) (es : kept.Exprs) (ps : List ℕ) (p r : ℕ) → type_of (drafted t) G e ≡ Some r → is_found (drafted t) p (Some r) ≡ true → all_fit (drafted t) G es ps ≡ true → all_fit (drafted t) G (kept.AndExpr e es) (p ∷ ps) ≡ true
arg_fits t G e es ps p r ke f rest = rw (ke, f) rest

call_typed : (t : Table) (G : List ℕ) (place : Position) (es : kept.Exprs) (o : Option Callable) → ((c : Callable) → o ≡ Some c → IsCallable t c) → unless (is_some o) place ≡ None → all_fit (drafted t) G es (params_in t o) ≡ true → Gives t G (called_type t o) (called_in o es)
call_typed t G place es None k u fit = cc
call_typed t G place es (Some c) k u fit = called_typed t G c es (k c refl) fit

module _ (t : Table) (usable : IsUsable t) (lists : HasLists t) (calls : AreCallable t) (w : Owner) (outer : List ℕ) (out : AreOutside t w outer) where
  outer_typed : (S : List ℕ) (x : ℕ × Option ℕ) (p : ℕ) → slice_get outer x.0 ≡ x.1 → x.1 ≡ Some p → slice_get (outer ++ S) x.0 ≡ Some p
  outer_typed S x p at is = slice_get-before outer S x.0 p (at ∙ is)

  pub reference_typed : (S : List ℕ) (r : Reference) (p : ℕ) (o : Option (ℕ × Option ℕ)) → reference_at t w r ≡ o → type_there o ≡ Some p → slice_get (outer ++ S) (place_there o) ≡ Some p
  reference_typed S r p None e h = cc
  reference_typed S r p (Some x) e h = outer_typed S x p (out.references r x e) h

  pub remote_typed : (S : List ℕ) (r : enclosing.Remote) (p : ℕ) (o : Option (ℕ × Option ℕ)) → remote_at t w r ≡ o → type_there o ≡ Some p → slice_get (outer ++ S) (place_there o) ≡ Some p
  remote_typed S r p None e h = cc
  remote_typed S r p (Some x) e h = outer_typed S x p (out.remotes r x e) h

  alike_typed : (S : List ℕ) (r : enclosing.Remote) (p : ℕ) (b : Bool) → (if b then type_there (remote_at t w r) else None) ≡ Some p
      → ((if b then type_there (remote_at t w r) else look.first_type t r.pairs) ≡ Some p)
      × (type_of (drafted t) (outer ++ S) (if b then kept.Named (place_there (remote_at t w r)) else kept.MadeOf Completing (length t.phyla)) ≡ Some p)
  alike_typed S r p true h = (h, remote_typed S r p (remote_at t w r) refl h)
  alike_typed S r p false h = cc

  pub variable_typed : (vs : List scope.Variable) (S : List ℕ) (n : Bytes) (p : ℕ) → known vs ≡ Some S → (a b : Option (ℕ × Option ℕ)) → local_at t w n ≡ a → found vs n ≡ b
      → type_there (or_else a (option_map (behind (outside w)) b)) ≡ Some p → slice_get (outer ++ S) (place_there (or_else a (option_map (behind (outside w)) b))) ≡ Some p
  variable_typed vs S n p k (Some x) b e f h = outer_typed S x p (out.locals n x e) h
  variable_typed vs S n p k None None e f h = cc
  variable_typed vs S n p k None (Some y) e f h = rw (← out.count) (slice_get-behind outer S y.0 ∙ found_known vs S n y k f ∙ h)

  mutual
    pub expr_typed : (vs : List scope.Variable) (S : List ℕ) (e : Expr) → known vs ≡ Some S → AreWritten e → mismatch_in t w vs e ≡ None → Gives t (outer ++ S) (type_in t w vs e) (recorded t w vs e)
    expr_typed vs S (Amount n place) k v h = (numbers, refl, rw (lt_true n (2 ^ 63) v) refl)
    expr_typed vs S (Chars s) k v h = (texts, refl, rw v refl)
    expr_typed vs S (Truth b place) k v h = (truths, refl, refl)
    expr_typed vs S (Variable n) k v h =
        let p = untyped_is (type_there (variable_at t w vs n.text)) n.place h in
        (p.0, p.1, variable_typed vs S n.text p.0 k (local_at t w n.text) (found vs n.text) refl refl p.1)
    expr_typed vs S (Attribute r) k v h =
        let p = untyped_is (type_there (reference_at t w r)) (occurrence_place r.of) h in
        (p.0, p.1, reference_typed S r p.0 (reference_at t w r) refl p.1)
    expr_typed vs S (Remote r) k v h =
        let p = untyped_is (one_type t w r) r.place h in
        let x = alike_typed S r p.0 (look.are_alike t r) p.1 in
        (p.0, x.0, x.1)
    expr_typed vs S (MadeOf made n place) k v h =
        let p = untyped_is (look.usable_named t n.text) place h in
        (p.0, p.1, made_typed t (outer ++ S) made p.0 (look.usable_named t n.text) p.1 (usable n.text p.0 p.1))
    expr_typed vs S (Paren a place) k v h = expr_typed vs S a k v h
    expr_typed vs S (Single f a place) k v h =
        let c = wanted_is t (prefix_type f) (type_in t w vs a) (expr_place a) (mismatch_in t w vs a) h in
        let x = expr_typed vs S a k v c.1 in
        (prefix_type f, refl, single_typed t f x.0 (type_of (drafted t) (outer ++ S) (recorded t w vs a)) x.2 (found_as t (prefix_type f) x.0 (type_in t w vs a) x.1 c.0))
    expr_typed vs S (Binary s a b) k v h =
        let m = infix_parts t s (type_in t w vs a) (type_in t w vs b) (expr_place a) (expr_place b) (mismatch_in t w vs a) (mismatch_in t w vs b) h in
        let x = expr_typed vs S a k v.0 m.0 in
        let y = expr_typed vs S b k v.1 m.1 in
        let first : at_infix t s (Some x.0) (type_in t w vs b) (expr_place a) (expr_place b) (mismatch_in t w vs a) (mismatch_in t w vs b) ≡ None =
        subst (λ z. at_infix t s z (type_in t w vs b) (expr_place a) (expr_place b) (mismatch_in t w vs a) (mismatch_in t w vs b) ≡ None) x.1 h in
        let both : at_infix t s (Some x.0) (Some y.0) (expr_place a) (expr_place b) (mismatch_in t w vs a) (mismatch_in t w vs b) ≡ None =
        subst (λ z. at_infix t s (Some x.0) z (expr_place a) (expr_place b) (mismatch_in t w vs a) (mismatch_in t w vs b) ≡ None) y.1 first in
        let z = infix_typed t lists (outer ++ S) (recorded t w vs a) (recorded t w vs b) x.0 y.0 x.2 y.2 s (expr_place a) (expr_place b) (mismatch_in t w vs a) (mismatch_in t w vs b) both in
        subst (λ o. Gives t (outer ++ S) (given s o) (infix_in t s o (recorded t w vs a) (recorded t w vs b))) (sym y.1) z
    expr_typed vs S (Choice c a b) k v h =
        let d = neither (where_wanted t (Some truths) (type_in t w vs c) (expr_place c) (mismatch_in t w vs c)) (or_else (mismatch_in t w vs a) (where_wanted t (type_in t w vs a) (type_in t w vs b) (expr_place b) (mismatch_in t w vs b))) h in
        let e = wanted_is t truths (type_in t w vs c) (expr_place c) (mismatch_in t w vs c) d.0 in
        let f = neither (mismatch_in t w vs a) (where_wanted t (type_in t w vs a) (type_in t w vs b) (expr_place b) (mismatch_in t w vs b)) d.1 in
        let x = expr_typed vs S c k v.0 e.1 in
        let y = expr_typed vs S a k v.1 f.0 in
        let g = wanted_is t y.0 (type_in t w vs b) (expr_place b) (mismatch_in t w vs b) (wanted_as t y.0 (type_in t w vs a) (type_in t w vs b) (expr_place b) (mismatch_in t w vs b) y.1 f.1) in
        let z = expr_typed vs S b k v.2 g.1 in
        (y.0, y.1, choice_typed t (outer ++ S) (recorded t w vs c) (recorded t w vs a) (recorded t w vs b) x.0 y.0 z.0 x.2 (found_as t truths x.0 (type_in t w vs c) x.1 e.0) y.2 z.2 (found_as t y.0 z.0 (type_in t w vs b) z.1 g.0))
    expr_typed vs S (Call n es) k v h =
        let d = neither (unless (is_some (look.callable t n.text)) n.place) (mismatch_in_all t w vs n.place es (params_in t (look.callable t n.text))) h in
        let fit = all_typed vs S n.place es (params_in t (look.callable t n.text)) k v d.1 in
        call_typed t (outer ++ S) n.place (recorded_all t w vs es (params_in t (look.callable t n.text))) (look.callable t n.text) (calls n.text) d.0 fit
    expr_typed vs S (Let n a b place) k v h =
        let u : scope.Variable = record { name = n.text; of = type_in t w vs a } in
        let d = neither (mismatch_in t w vs a) (mismatch_in t w (vs ++ u ∷ []) b) h in
        let x = expr_typed vs S a k v.0 d.0 in
        let one : known (u ∷ []) ≡ Some (x.0 ∷ []) = one_known u x.0 x.1 in
        let y = expr_typed (vs ++ u ∷ []) (S ++ x.0 ∷ []) b (known_two vs (u ∷ []) S (x.0 ∷ []) k one) v.1 d.1 in
        (y.0, y.1, let_typed t outer S (recorded t w vs a) (recorded t w (vs ++ u ∷ []) b) x.0 y.0 x.2 y.2)
    expr_typed vs S (With a q b cs place) k v h =
        let o = type_in t w vs a in
        let us = variables_of t q o in
        let d = neither (mismatch_in t w vs a) (or_else (pattern.mismatch_in t q o) (or_else (mismatch_in t w (vs ++ us) b) (mismatch_in_cases t w vs o (type_in t w (vs ++ us) b) cs))) h in
        let x = expr_typed vs S a k v.0 d.0 in
        let e = neither (pattern.mismatch_in t q o) (or_else (mismatch_in t w (vs ++ us) b) (mismatch_in_cases t w vs o (type_in t w (vs ++ us) b) cs)) d.1 in
        let f = neither (mismatch_in t w (vs ++ us) b) (mismatch_in_cases t w vs o (type_in t w (vs ++ us) b) cs) e.1 in
        let bs = vars_known t q x.0 in
        let fits : pattern.mismatch_in t q (Some x.0) ≡ None = subst (λ z. pattern.mismatch_in t q z ≡ None) x.1 e.0 in
        let bound = pattern_typed t usable q x.0 v.1 fits in
        let some : known us ≡ Some bs.0 = subst (λ z. known (variables_of t q z) ≡ Some bs.0) (sym x.1) bs.1 in
        let y = expr_typed (vs ++ us) (S ++ bs.0) b (known_two vs us S bs.0 k some) v.2 f.0 in
        let later : mismatch_in_cases t w vs (Some x.0) (Some y.0) cs ≡ None = subst (λ z. mismatch_in_cases t w vs z (Some y.0) cs ≡ None) x.1 (subst (λ z. mismatch_in_cases t w vs o z cs ≡ None) y.1 f.1) in
        let rest = cases_typed vs S x.0 y.0 cs k v.3 later in (
          y.0,
          y.1,
          with_typed t outer S bs.0 (recorded t w vs a) (recorded t w (vs ++ us) b) (pattern.recorded t q) (recorded_cases t w vs o cs) x.0 y.0 x.2 (bound ∙ bs.1) y.2
              (subst (λ z. rest_fits (drafted t) (outer ++ S) x.0 y.0 (recorded_cases t w vs z cs) ≡ true) (sym x.1) rest),
        )

    all_typed : (vs : List scope.Variable) (S : List ℕ) (place : Position) (es : Exprs) (ps : List ℕ) → known vs ≡ Some S → AreWrittenAll es → mismatch_in_all t w vs place es ps ≡ None → all_fit (drafted t) (outer ++ S) (recorded_all t w vs es ps) ps ≡ true
    all_typed vs S place NoExpr [] k v h = refl
    all_typed vs S place NoExpr (p ∷ ps) k v h = cc
    all_typed vs S place (AndExpr e es) [] k v h = cc
    all_typed vs S place (AndExpr e es) (p ∷ ps) k v h =
        let c = neither (where_wanted t (Some p) (type_in t w vs e) (expr_place e) (mismatch_in t w vs e)) (mismatch_in_all t w vs place es ps) h in
        let d = wanted_is t p (type_in t w vs e) (expr_place e) (mismatch_in t w vs e) c.0 in
        let x = expr_typed vs S e k v.0 d.1 in
        arg_fits t (outer ++ S) (recorded t w vs e) (recorded_all t w vs es ps) ps p x.0 x.2 (found_as t p x.0 (type_in t w vs e) x.1 d.0) (all_typed vs S place es ps k v.1 c.1)

    cases_typed : (vs : List scope.Variable) (S : List ℕ) (p q : ℕ) (cs : Cases) → known vs ≡ Some S → AreWrittenCases cs → mismatch_in_cases t w vs (Some p) (Some q) cs ≡ None → rest_fits (drafted t) (outer ++ S) p q (recorded_cases t w vs (Some p) cs) ≡ true
    cases_typed vs S p q NoCase k v h = refl
    cases_typed vs S p q (Default e) k v h =
        let d = wanted_is t q (type_in t w vs e) (expr_place e) (mismatch_in t w vs e) h in
        let x = expr_typed vs S e k v d.1 in
        rw x.2 (found_as t q x.0 (type_in t w vs e) x.1 d.0)
    cases_typed vs S p q (Case m e cs) k v h =
        let us = variables_of t m (Some p) in
        let c = neither (pattern.mismatch_in t m (Some p)) (or_else (where_wanted t (Some q) (type_in t w (vs ++ us) e) (expr_place e) (mismatch_in t w (vs ++ us) e)) (mismatch_in_cases t w vs (Some p) (Some q) cs)) h in
        let f = neither (where_wanted t (Some q) (type_in t w (vs ++ us) e) (expr_place e) (mismatch_in t w (vs ++ us) e)) (mismatch_in_cases t w vs (Some p) (Some q) cs) c.1 in
        let d = wanted_is t q (type_in t w (vs ++ us) e) (expr_place e) (mismatch_in t w (vs ++ us) e) f.0 in
        let bs = vars_known t m p in
        let bound = pattern_typed t usable m p v.0 c.0 in
        let x = expr_typed (vs ++ us) (S ++ bs.0) e (known_two vs us S bs.0 k bs.1) v.1 d.1 in
        case_fits t outer S bs.0 (recorded t w (vs ++ us) e) (pattern.recorded t m) (recorded_cases t w vs (Some p) cs) p q x.0 (bound ∙ bs.1) x.2 (found_as t q x.0 (type_in t w (vs ++ us) e) x.1 d.0) (cases_typed vs S p q cs k v.2 f.1)

  pub expr_type_kept : (vs : List scope.Variable) (S : List ℕ) (e : Expr) → known vs ≡ Some S → AreWritten e → mismatch_in t w vs e ≡ None → type_of (drafted t) (outer ++ S) (recorded t w vs e) ≡ type_in t w vs e
  expr_type_kept vs S e k v h = let x = expr_typed vs S e k v h in x.2 ∙ sym x.1

  pub expr_has_type : (vs : List scope.Variable) (S : List ℕ) (e : Expr) → known vs ≡ Some S → AreWritten e → mismatch_in t w vs e ≡ None → is_some (type_in t w vs e) ≡ true
  expr_has_type vs S e k v h = let x = expr_typed vs S e k v h in has_some (type_in t w vs e) x.0 x.1
