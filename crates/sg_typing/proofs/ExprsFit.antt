-- An expression that has a type in the record has no mismatch, where its names mean something.
use Rattle.std.proofs.Common.{◌≡◌, refl, sym, ap, subst, ◌∙◌, ℕ, Bool, true, false, cond, inl, inr, List, [], ◌∷◌, ◌++◌, length, Option, Some, None, slice_get, append_assoc, arith}
use Rattle.std.specs.Prelude.{if◌then◌else◌, is_some, nat_eq, not, bytes_eq, option_map, option_and_then, unwrap_or, ⊤, ◌&&◌, ◌⊎◌, pos}
use Rattle.std.specs.List.{AllByRecursion}
use Rattle.std.proofs.lemmas.Bool.{and_parts}
use Rattle.std.proofs.lemmas.Option.{slice_get-map, slice_get_past}
use Rattle.sg_kinds.proofs.Elementary.{some_there, and_true, or_one, eq_is}
use Rattle.sg_kinds.specs.Values.{is_text, is_number}
use Rattle.sg_kinds.specs.Specification.{truths, numbers, texts, args_of, phylum_of, has_shape, is_list_shape, is_lexical_shape}
use Rattle.sg_kinds.specs.Typing.{whitespace, type_of, all_fit, case_type, rest_fits, bound_types, is_found, is_accepted, is_usable, only_if, where_fits, agree, unary_type, binary_type, cons_type}
use Rattle.sg_kinds.specs.Expressions as kept
use Rattle.sg_kinds.specs.declared.spec.Function.{Function}
use Rattle.sg_kinds.specs.declared.spec.Phylum.{Phylum}
use Rattle.sg_kinds.specs.declared.fault.Position.{Position}
use Rattle.sg_kinds.specs.declared.marks.Made.TheVariants.{Completing}
use Rattle.sg_kinds.specs.declared.marks.Unary.{Unary}
use Rattle.sg_kinds.specs.declared.marks.Unary.TheVariants as unary
use Rattle.sg_ast.specs.FirstFault.{or_else}
use Rattle.sg_ast.specs.Expressions.{Expr, Exprs, Cases, Amount, Chars, Truth, Variable, Attribute, Remote, MadeOf, Paren, Single, Binary, Choice, Call, Let, With, NoExpr, AndExpr, NoCase, Default, Case}
use Rattle.sg_ast.specs.Chains.{expr_place, occurrence_place}
use Rattle.sg_ast.specs.Remotes.{remotes_of, remotes_of_all, remotes_of_cases}
use Rattle.sg_ast.specs.declared.name.Remote as enclosing
use Rattle.sg_ast.specs.declared.expr.Infix.{Infix}
use Rattle.sg_ast.specs.declared.expr.Infix.TheVariants.{Or, And, Equal, Unequal, Below, AtMost, Above, AtLeast, Cons, Join, Add, Sub, Mul, Div, Rem}
use Rattle.sg_ast.specs.declared.expr.Prefix.{Prefix}
use Rattle.sg_ast.specs.declared.expr.Prefix.TheVariants.{Minus, Not}
use Rattle.sg_names.specs.declared.table.Signature.{Signature}
use Rattle.sg_names.specs.declared.table.Table.{Table}
use Rattle.sg_names.specs.declared.table.Callable.{Callable}
use Rattle.sg_names.specs.declared.table.Callable.TheVariants as callable
use Rattle.sg_names.specs.Lookups as look
use Rattle.sg_names.specs.Drafted.{drafted, without_body}
use Rattle.sg_names.specs.Uses.{exprs_count}
use Rattle.sg_types.specs.declared.scope.Variable as scope
use Rattle.sg_types.specs.Types.{unless, untyped, do_agree, list_of, list_at}
use Rattle.sg_types.specs.Scopes.{found}
use Rattle.sg_types.specs.Bindings.{Owner, reference_at, remote_at, local_at, variable_at, type_there, place_there}
use Rattle.sg_types.specs.Patterns.{variables_of}
use Rattle.sg_types.specs.Patterns as pattern
use Rattle.sg_types.specs.Expressions.{one_type, type_in, mismatch_in, mismatch_in_all, mismatch_in_cases, recorded, recorded_all, recorded_cases, where_wanted, at_infix, at_cons, sign_of, given, infix_at, infix_in, prefix_type, prefix_of, params_in, pair_in, called_in, called_type}
use Rattle.sg_typing.specs.Known.{HasFar}
use Rattle.sg_typing.specs.Written.{IsUsable, AreOutside, IsCallable, AreCallable, is_builtin, known}
use Rattle.sg_typing.proofs.PatternsFit.{Means, is_unless, then_parts, if_parts, both_none, pattern_fits}
use Rattle.sg_typing.proofs.NamesTyped.{variable_there, named_there, far_there}
use Rattle.sg_typing.proofs.ListsThere.{ListsTold}
use Rattle.sg_typing.proofs.ExprTyped.{variable_typed, reference_typed, remote_typed, known_two, one_known}

-- each name of an expression means something, an attribute of an enclosing node where it is there, and each call has as
-- many arguments as declared
abbrev mutual
  pub HasMeaning : Table → Owner → List scope.Variable → Expr → Type 0
  HasMeaning t w vs (Amount n place) = ⊤
  HasMeaning t w vs (Chars s) = ⊤
  HasMeaning t w vs (Truth b place) = ⊤
  HasMeaning t w vs (Variable n) = is_some (variable_at t w vs n.text) ≡ true
  HasMeaning t w vs (Attribute r) = is_some (reference_at t w r) ≡ true
  HasMeaning t w vs (Remote r) = HasFar t w r → look.are_alike t r ≡ true → is_some (remote_at t w r) ≡ true
  HasMeaning t w vs (MadeOf made n place) = is_some (look.usable_named t n.text) ≡ true
  HasMeaning t w vs (Paren a place) = HasMeaning t w vs a
  HasMeaning t w vs (Single f a place) = HasMeaning t w vs a
  HasMeaning t w vs (Binary s a b) = HasMeaning t w vs a × HasMeaning t w vs b
  HasMeaning t w vs (Choice c a b) = HasMeaning t w vs c × HasMeaning t w vs a × HasMeaning t w vs b
  HasMeaning t w vs (Call n es) = (c : Callable) × (look.callable t n.text ≡ Some c) × (length (look.params_of t c) ≡ exprs_count es) × HaveMeaning t w vs es
  HasMeaning t w vs (Let n a b place) = HasMeaning t w vs a × HasMeaning t w (vs ++ record { name = n.text; of = type_in t w vs a } ∷ []) b
  HasMeaning t w vs (With a q b cs place) = HasMeaning t w vs a × Means t q × HasMeaning t w (vs ++ variables_of t q (type_in t w vs a)) b × CasesMean t w vs (type_in t w vs a) cs

  pub HaveMeaning : Table → Owner → List scope.Variable → Exprs → Type 0
  HaveMeaning t w vs NoExpr = ⊤
  HaveMeaning t w vs (AndExpr e es) = HasMeaning t w vs e × HaveMeaning t w vs es

  pub CasesMean : Table → Owner → List scope.Variable → Option ℕ → Cases → Type 0
  CasesMean t w vs subject NoCase = ⊤
  CasesMean t w vs subject (Default e) = HasMeaning t w vs e
  CasesMean t w vs subject (Case q e cs) = Means t q × HasMeaning t w (vs ++ variables_of t q subject) e × CasesMean t w vs subject cs

-- the parts of a test that holds
cond_parts : {A : Type 0} (b : Bool) (o : Option A) (y : A) → cond b o None ≡ Some y → (b ≡ true) × (o ≡ Some y)
cond_parts true o y e = (refl, e)
cond_parts false o y e = cc

pub found_parts : (t : Table) (wanted : ℕ) (o : Option ℕ) → is_found (drafted t) wanted o ≡ true → (r : ℕ) × (o ≡ Some r) × (is_accepted (drafted t) r wanted ≡ true)
found_parts t wanted None h = cc
found_parts t wanted (Some r) h = (r, refl, h)

where_parts : (t : Table) (wanted p : ℕ) (o : Option ℕ) (q : ℕ) → where_fits (drafted t) wanted p o ≡ Some q → (r : ℕ) × (o ≡ Some r) × (is_accepted (drafted t) r wanted ≡ true) × (p ≡ q)
where_parts t wanted p None q h = cc
where_parts t wanted p (Some r) q h = let c = if_parts (is_accepted (drafted t) r wanted) p q h in (r, refl, c.0, c.1)

found_is : (t : Table) (wanted r : ℕ) (o : Option ℕ) → o ≡ Some r → is_accepted (drafted t) r wanted ≡ true → is_found (drafted t) wanted o ≡ true
found_is t wanted r o e a = ap (is_found (drafted t) wanted) e ∙ a

-- what is accepted where it stands has no mismatch there
pub wanted_none : (t : Table) (wanted r : ℕ) (o : Option ℕ) (place : Position) (inside : Option Position) → o ≡ Some r → is_accepted (drafted t) r wanted ≡ true → inside ≡ None → where_wanted t (Some wanted) o place inside ≡ None
wanted_none t wanted r o place inside e a i =
    both_none (unless (is_found (drafted t) wanted o) place) inside (is_unless (is_found (drafted t) wanted o) place (found_is t wanted r o e a)) i

-- attributes of enclosing nodes
abbrev AreThere : Table → Owner → List enclosing.Remote → Type 0
AreThere t w rs = AllByRecursion (HasFar t w) rs

there_parts : (t : Table) (w : Owner) (rs ss : List enclosing.Remote) → AreThere t w (rs ++ ss) → AreThere t w rs × AreThere t w ss
there_parts t w [] ss h = (tt, h)
there_parts t w (r ∷ rs) ss h = let c = there_parts t w rs ss h.1 in ((h.0, c.0), c.1)

-- the number past the last is of no phylum
none_usable : (t : Table) → is_usable (drafted t) (length t.phyla) ≡ true → ⊥
none_usable t h =
    let past : false ≡ true = ap (λ o. unwrap_or (option_map (λ (x : Phylum). not (is_lexical_shape x.shape && bytes_eq x.name whitespace)) o) false) (sym (slice_get_past t.phyla (length t.phyla) (omega arith))) ∙ h in
    cc

named : (o : Option ℕ) (place : Position) (q : ℕ) → o ≡ Some q → (o ≡ Some q) × (untyped o place ≡ None)
named o place q e = (e, rw e refl)

single_parts : (t : Table) (f : Prefix) (o : Option ℕ) (q : ℕ) → unary_type (drafted t) (prefix_of f) o ≡ Some q → (r : ℕ) × (o ≡ Some r) × (is_accepted (drafted t) r (prefix_type f) ≡ true) × (prefix_type f ≡ q)
single_parts t Minus o q h = where_parts t numbers numbers o q h
single_parts t Not o q h = where_parts t truths truths o q h

-- operators between operands
module _ (t : Table) (told : ListsTold t) (G : List ℕ) (a b : kept.Expr) where
  abbrev Operands : Type 0
  Operands = (x : ℕ) × (y : ℕ) × (type_of (drafted t) G a ≡ Some x) × (type_of (drafted t) G b ≡ Some y)

  two_parts : (f : ℕ → ℕ → Option ℕ) (q : ℕ) → option_and_then (λ x. option_and_then (f x) (type_of (drafted t) G b)) (type_of (drafted t) G a) ≡ Some q → Operands
  two_parts f q h =
      let c = then_parts (λ x. option_and_then (f x) (type_of (drafted t) G b)) (type_of (drafted t) G a) q h in
      let d = then_parts (f c.0) (type_of (drafted t) G b) q c.2 in
      (c.0, d.0, c.1, d.1)

  logical_parts : (q : ℕ) → only_if (is_found (drafted t) truths (type_of (drafted t) G a) && is_found (drafted t) truths (type_of (drafted t) G b)) truths ≡ Some q → Operands
  logical_parts q h =
      let c = if_parts (is_found (drafted t) truths (type_of (drafted t) G a) && is_found (drafted t) truths (type_of (drafted t) G b)) truths q h in
      let d = and_parts (is_found (drafted t) truths (type_of (drafted t) G a)) (is_found (drafted t) truths (type_of (drafted t) G b)) c.0 in
      let x = found_parts t truths (type_of (drafted t) G a) d.0 in
      let y = found_parts t truths (type_of (drafted t) G b) d.1 in
      (x.0, y.0, x.1, y.1)

  operands : (s : Infix) (list : Option (ℕ × ℕ)) (q : ℕ) → type_of (drafted t) G (infix_at s list a b) ≡ Some q → Operands
  operands Or list q h = logical_parts q h
  operands And list q h = logical_parts q h
  operands Cons list q h = two_parts (λ x y. cons_type (drafted t) x y (phylum_of t.ops (pair_in list)) (args_of t.ops (pair_in list))) q h
  operands Equal list q h = two_parts (binary_type (drafted t) (sign_of Equal)) q h
  operands Unequal list q h = two_parts (binary_type (drafted t) (sign_of Unequal)) q h
  operands Below list q h = two_parts (binary_type (drafted t) (sign_of Below)) q h
  operands AtMost list q h = two_parts (binary_type (drafted t) (sign_of AtMost)) q h
  operands Above list q h = two_parts (binary_type (drafted t) (sign_of Above)) q h
  operands AtLeast list q h = two_parts (binary_type (drafted t) (sign_of AtLeast)) q h
  operands Join list q h = two_parts (binary_type (drafted t) (sign_of Join)) q h
  operands Add list q h = two_parts (binary_type (drafted t) (sign_of Add)) q h
  operands Sub list q h = two_parts (binary_type (drafted t) (sign_of Sub)) q h
  operands Mul list q h = two_parts (binary_type (drafted t) (sign_of Mul)) q h
  operands Div list q h = two_parts (binary_type (drafted t) (sign_of Div)) q h
  operands Rem list q h = two_parts (binary_type (drafted t) (sign_of Rem)) q h

  module _ (x y : ℕ) (ka : type_of (drafted t) G a ≡ Some x) (kb : type_of (drafted t) G b ≡ Some y) where
    -- the types of both, once they are known
    at_types : (f : ℕ → ℕ → Option ℕ) (q : ℕ) → option_and_then (λ x. option_and_then (f x) (type_of (drafted t) G b)) (type_of (drafted t) G a) ≡ Some q → f x y ≡ Some q
    at_types f q h =
        subst (λ o. option_and_then (f x) o ≡ Some q) kb (subst (λ o. option_and_then (λ x. option_and_then (f x) (type_of (drafted t) G b)) o ≡ Some q) ka h)

    plain_none : (wanted given q : ℕ) (px py : Position) → only_if (is_accepted (drafted t) x wanted && is_accepted (drafted t) y wanted) given ≡ Some q
        → (Some given ≡ Some q) × (or_else (where_wanted t (Some wanted) (Some x) px None) (where_wanted t (Some wanted) (Some y) py None) ≡ None)
    plain_none wanted given q px py h =
        let c = if_parts (is_accepted (drafted t) x wanted && is_accepted (drafted t) y wanted) given q h in
        let d = and_parts (is_accepted (drafted t) x wanted) (is_accepted (drafted t) y wanted) c.0 in
        (ap Some c.1, both_none (where_wanted t (Some wanted) (Some x) px None) (where_wanted t (Some wanted) (Some y) py None) (wanted_none t wanted x (Some x) px None refl d.0 refl) (wanted_none t wanted y (Some y) py None refl d.1 refl))

    logical_none : (q : ℕ) (px py : Position) → only_if (is_found (drafted t) truths (type_of (drafted t) G a) && is_found (drafted t) truths (type_of (drafted t) G b)) truths ≡ Some q
        → (Some truths ≡ Some q) × (or_else (where_wanted t (Some truths) (Some x) px None) (where_wanted t (Some truths) (Some y) py None) ≡ None)
    logical_none q px py h =
        plain_none truths truths q px py (subst (λ o. only_if (is_accepted (drafted t) x truths && is_found (drafted t) truths o) truths ≡ Some q) kb (subst (λ o. only_if (is_found (drafted t) truths o && is_found (drafted t) truths (type_of (drafted t) G b)) truths ≡ Some q) ka h))

    equal_none : (q : ℕ) (py : Position) → only_if (agree (drafted t) x y) truths ≡ Some q
        → (Some truths ≡ Some q) × (or_else None (or_else (unless (do_agree t (Some x) (Some y)) py) None) ≡ None)
    equal_none q py h =
        let c = if_parts (agree (drafted t) x y) truths q h in
        (ap Some c.1, both_none (unless (agree (drafted t) x y) py) None (is_unless (agree (drafted t) x y) py c.0) refl)

    cons_parts : (o : Option ℕ) (args : List ℕ) (q : ℕ) → cons_type (drafted t) x y o args ≡ Some q
        → (e : ℕ) × (args ≡ e ∷ q ∷ []) × (has_shape t.phyla is_list_shape q ≡ true) × (is_accepted (drafted t) x e ≡ true) × (is_accepted (drafted t) y q ≡ true)
    cons_parts None args q h = cc
    cons_parts (Some l) [] q h = cc
    cons_parts (Some l) (e ∷ []) q h = cc
    cons_parts (Some l) (e ∷ m ∷ n ∷ args) q h = cc
    cons_parts (Some l) (e ∷ m ∷ []) q h =
        let c = if_parts (has_shape t.phyla is_list_shape l && (nat_eq l m && (is_accepted (drafted t) x e && is_accepted (drafted t) y l))) l q h in
        let d = and_parts (has_shape t.phyla is_list_shape l) (nat_eq l m && (is_accepted (drafted t) x e && is_accepted (drafted t) y l)) c.0 in
        let f = and_parts (nat_eq l m) (is_accepted (drafted t) x e && is_accepted (drafted t) y l) d.1 in
        let g = and_parts (is_accepted (drafted t) x e) (is_accepted (drafted t) y l) f.1 in
        let same : m ≡ q = sym (eq_is l m f.0) ∙ c.1 in
        (e, ap (λ k. e ∷ k ∷ []) same, subst (λ k. has_shape t.phyla is_list_shape k ≡ true) c.1 d.0, g.0, subst (λ k. is_accepted (drafted t) y k ≡ true) c.1 g.1)

    -- only a list type itself is accepted where it is wanted
    list_itself : (q : ℕ) → has_shape t.phyla is_list_shape q ≡ true → is_accepted (drafted t) y q ≡ true → y ≡ q
    list_itself q shape h = by (or_one (nat_eq y q) (has_shape t.phyla is_lexical_shape y && nat_eq q texts) h)
      where
        by : (nat_eq y q ≡ true) ⊎ ((has_shape t.phyla is_lexical_shape y && nat_eq q texts) ≡ true) → y ≡ q
        by (inl e) = eq_is y q e
        by (inr e) =
            let c = and_parts (has_shape t.phyla is_lexical_shape y) (nat_eq q texts) e in
            let text : has_shape t.phyla is_list_shape texts ≡ true = subst (λ k. has_shape t.phyla is_list_shape k ≡ true) (eq_is q texts c.1) shape in
            let none : false ≡ true = sym told.texts ∙ text in
            cc

    cons_none : (q : ℕ) (px py : Position) → cons_type (drafted t) x y (phylum_of t.ops (pair_in (list_at t y))) (args_of t.ops (pair_in (list_at t y))) ≡ Some q
        → (Some y ≡ Some q) × (at_cons t (list_at t y) (Some x) px py None None ≡ None)
    cons_none q px py h =
        let c = cons_parts (phylum_of t.ops (pair_in (list_at t y))) (args_of t.ops (pair_in (list_at t y))) q h in
        let same = list_itself q c.2 c.4 in
        let z = told.pairs y (subst (λ k. has_shape t.phyla is_list_shape k ≡ true) (sym same) c.2) in
        let l = told.lists y z.0 z.1 in
        let args : c.0 ∷ q ∷ [] ≡ z.0.1 ∷ y ∷ [] = sym c.1 ∙ ap (λ o. args_of t.ops (pair_in o)) z.1 ∙ l.1 in
        let element : c.0 ≡ z.0.1 = cc in
        let fits : is_accepted (drafted t) x z.0.1 ≡ true = subst (λ k. is_accepted (drafted t) x k ≡ true) element c.3 in
        (ap Some same, ap (λ o. at_cons t o (Some x) px py None None) z.1 ∙ both_none (where_wanted t (Some z.0.1) (Some x) px None) None (wanted_none t z.0.1 x (Some x) px None refl fits refl) refl)

    infix_none : (s : Infix) (q : ℕ) (px py : Position) → type_of (drafted t) G (infix_in t s (Some y) a b) ≡ Some q
        → (given s (Some y) ≡ Some q) × (at_infix t s (Some x) (Some y) px py None None ≡ None)
    infix_none Or q px py h = logical_none q px py h
    infix_none And q px py h = logical_none q px py h
    infix_none Cons q px py h = cons_none q px py (at_types (λ m n. cons_type (drafted t) m n (phylum_of t.ops (pair_in (list_at t y))) (args_of t.ops (pair_in (list_at t y)))) q h)
    infix_none Equal q px py h = equal_none q py (at_types (binary_type (drafted t) (sign_of Equal)) q h)
    infix_none Unequal q px py h = equal_none q py (at_types (binary_type (drafted t) (sign_of Unequal)) q h)
    infix_none Below q px py h = plain_none numbers truths q px py (at_types (binary_type (drafted t) (sign_of Below)) q h)
    infix_none AtMost q px py h = plain_none numbers truths q px py (at_types (binary_type (drafted t) (sign_of AtMost)) q h)
    infix_none Above q px py h = plain_none numbers truths q px py (at_types (binary_type (drafted t) (sign_of Above)) q h)
    infix_none AtLeast q px py h = plain_none numbers truths q px py (at_types (binary_type (drafted t) (sign_of AtLeast)) q h)
    infix_none Join q px py h = plain_none texts texts q px py (at_types (binary_type (drafted t) (sign_of Join)) q h)
    infix_none Add q px py h = plain_none numbers numbers q px py (at_types (binary_type (drafted t) (sign_of Add)) q h)
    infix_none Sub q px py h = plain_none numbers numbers q px py (at_types (binary_type (drafted t) (sign_of Sub)) q h)
    infix_none Mul q px py h = plain_none numbers numbers q px py (at_types (binary_type (drafted t) (sign_of Mul)) q h)
    infix_none Div q px py h = plain_none numbers numbers q px py (at_types (binary_type (drafted t) (sign_of Div)) q h)
    infix_none Rem q px py h = plain_none numbers numbers q px py (at_types (binary_type (drafted t) (sign_of Rem)) q h)

-- calls
builtin_parts : (t : Table) (f : Unary) (o : Option ℕ) (q : ℕ) → is_builtin f ≡ true → unary_type (drafted t) f o ≡ Some q → (is_found (drafted t) (look.builtin_param f) o ≡ true) × (Some (look.builtin_result f) ≡ Some q)
builtin_parts t unary.TextToNumber o q b h = let c = where_parts t texts numbers o q h in (found_is t texts c.0 o c.1 c.2, ap Some c.3)
builtin_parts t unary.NumberToText o q b h = let c = where_parts t numbers texts o q h in (found_is t numbers c.0 o c.1 c.2, ap Some c.3)
builtin_parts t unary.TextLength o q b h = let c = where_parts t texts numbers o q h in (found_is t texts c.0 o c.1 c.2, ap Some c.3)
builtin_parts t unary.Paren o q b h = cc
builtin_parts t unary.Negative o q b h = cc
builtin_parts t unary.Not o q b h = cc

module _ (t : Table) (w : Owner) (G : List ℕ) (vs : List scope.Variable) where
  -- a call that has a type: its result's, and its arguments fit
  abbrev Called : Exprs → Callable → ℕ → Type 0
  Called es c q = (look.result_of t c ≡ Some q) × (all_fit (drafted t) G (recorded_all t w vs es (look.params_of t c)) (look.params_of t c) ≡ true)

  builtin_called : (f : Unary) (es : Exprs) (q : ℕ) → is_builtin f ≡ true → length (look.params_of t (callable.Builtin f)) ≡ exprs_count es
      → type_of (drafted t) G (called_in (Some (callable.Builtin f)) (recorded_all t w vs es (look.params_of t (callable.Builtin f)))) ≡ Some q → Called es (callable.Builtin f) q
  builtin_called f NoExpr q b n h = cc
  builtin_called f (AndExpr e NoExpr) q b n h =
      let c = builtin_parts t f (type_of (drafted t) G (recorded t w vs e)) q b h in
      (c.1, and_true (is_found (drafted t) (look.builtin_param f) (type_of (drafted t) G (recorded t w vs e))) true c.0 refl)
  builtin_called f (AndExpr e (AndExpr d es)) q b n h = cc

  function_called : (f : ℕ) (es : Exprs) (q : ℕ) → IsCallable t (callable.Function f)
      → type_of (drafted t) G (kept.Call f (recorded_all t w vs es (look.params_of t (callable.Function f)))) ≡ Some q → Called es (callable.Function f) q
  function_called f es q k h =
      let there : slice_get (drafted t).functions f ≡ Some (without_body k.0) = slice_get-map without_body t.functions f ∙ ap (option_map without_body) k.1 in
      let fit : List ℕ → Bool = λ ps. all_fit (drafted t) G (recorded_all t w vs es (look.params_of t (callable.Function f))) ps in
      let c = if_parts (fit k.0.params) k.0.result q (subst (λ o. option_and_then (λ (g : Function). only_if (fit g.params) g.result) o ≡ Some q) there h) in
      (ap (option_map (λ (g : Signature). g.result)) k.1 ∙ ap Some c.1, ap fit (ap (λ o. unwrap_or (option_map (λ (g : Signature). g.params) o) []) k.1) ∙ c.0)

  called_parts : (c : Callable) (es : Exprs) (q : ℕ) → IsCallable t c → length (look.params_of t c) ≡ exprs_count es
      → type_of (drafted t) G (called_in (Some c) (recorded_all t w vs es (look.params_of t c))) ≡ Some q → Called es c q
  called_parts (callable.Operator op) es q k n h =
      let c = cond_parts (all_fit (drafted t) G (recorded_all t w vs es (args_of t.ops op)) (args_of t.ops op)) (phylum_of t.ops op) q h in
      (c.1, c.0)
  called_parts (callable.Function f) es q k n h = function_called f es q k h
  called_parts (callable.Builtin f) es q k n h = builtin_called f es q k n h

-- an expression's type, and no mismatch in it
abbrev Fits : Table → Owner → List scope.Variable → Expr → ℕ → Type 0
Fits t w vs e q = (type_in t w vs e ≡ Some q) × (mismatch_in t w vs e ≡ None)

module _ (t : Table) (usable : IsUsable t) (told : ListsTold t) (calls : AreCallable t) (w : Owner) (outer : List ℕ) (out : AreOutside t w outer) where
  -- a call, whose arguments have no mismatch where they fit
  call_fits : (vs : List scope.Variable) (S : List ℕ) (place : Position) (es : Exprs) (q : ℕ) (c : Callable) (o : Option Callable) → o ≡ Some c → IsCallable t c → length (look.params_of t c) ≡ exprs_count es
      → ((ps : List ℕ) → length ps ≡ exprs_count es → all_fit (drafted t) (outer ++ S) (recorded_all t w vs es ps) ps ≡ true → mismatch_in_all t w vs place es ps ≡ None)
      → type_of (drafted t) (outer ++ S) (called_in o (recorded_all t w vs es (params_in t o))) ≡ Some q
      → (called_type t o ≡ Some q) × (or_else (unless (is_some o) place) (mismatch_in_all t w vs place es (params_in t o)) ≡ None)
  call_fits vs S place es q c None is i n inside h = cc
  call_fits vs S place es q c (Some d) is i n inside h =
      let same : c ≡ d = cc in
      let many : length (look.params_of t d) ≡ exprs_count es = subst (λ z. length (look.params_of t z) ≡ exprs_count es) same n in
      let x = called_parts t w (outer ++ S) vs d es q (subst (IsCallable t) same i) many h in
      (x.0, inside (look.params_of t d) many x.1)

  -- attributes of enclosing nodes that have a type in the record
  remote_fits : (S : List ℕ) (r : enclosing.Remote) (q : ℕ) (b : Bool) → (b ≡ true → is_some (remote_at t w r) ≡ true)
      → type_of (drafted t) (outer ++ S) (if b then kept.Named (place_there (remote_at t w r)) else kept.MadeOf Completing (length t.phyla)) ≡ Some q
      → ((if b then type_there (remote_at t w r) else None) ≡ Some q) × ((if b then type_there (remote_at t w r) else look.first_type t r.pairs) ≡ Some q)
  remote_fits S r q true m h =
      let x = far_there t w r (remote_at t w r) refl (m refl) in
      let there = remote_typed t usable told.lists calls w outer out S r x.0 (remote_at t w r) refl x.1 in
      let is = x.1 ∙ sym there ∙ h in
      (is, is)
  remote_fits S r q false m h = absurd (none_usable t (if_parts (is_usable (drafted t) (length t.phyla)) (length t.phyla) q h).0)

  mutual
    pub expr_fits : (vs : List scope.Variable) (S : List ℕ) (e : Expr) (q : ℕ) → known vs ≡ Some S → HasMeaning t w vs e → AreThere t w (remotes_of e) → type_of (drafted t) (outer ++ S) (recorded t w vs e) ≡ Some q → Fits t w vs e q
    expr_fits vs S (Amount n place) q k m fars h = let c = if_parts (is_number (pos n)) numbers q h in (ap Some c.1, refl)
    expr_fits vs S (Chars s) q k m fars h = let c = if_parts (is_text s.text) texts q h in (ap Some c.1, refl)
    expr_fits vs S (Truth b place) q k m fars h = (h, refl)
    expr_fits vs S (Variable n) q k m fars h =
        let x = variable_there t w vs S n.text k (local_at t w n.text) (found vs n.text) refl refl m in
        let there = variable_typed t usable told.lists calls w outer out vs S n.text x.0 k (local_at t w n.text) (found vs n.text) refl refl x.1 in
        named (type_there (variable_at t w vs n.text)) n.place q (x.1 ∙ sym there ∙ h)
    expr_fits vs S (Attribute r) q k m fars h =
        let x = named_there t w r (reference_at t w r) refl m in
        let there = reference_typed t usable told.lists calls w outer out S r x.0 (reference_at t w r) refl x.1 in
        named (type_there (reference_at t w r)) (occurrence_place r.of) q (x.1 ∙ sym there ∙ h)
    expr_fits vs S (Remote r) q k m fars h =
        let x = remote_fits S r q (look.are_alike t r) (m fars.0) h in
        (x.1, (named (one_type t w r) r.place q x.0).1)
    expr_fits vs S (MadeOf made n place) q k m fars h =
        let x = some_there (look.usable_named t n.text) m in
        let c = if_parts (is_usable (drafted t) (unwrap_or (look.usable_named t n.text) 0)) (unwrap_or (look.usable_named t n.text) 0) q h in
        named (look.usable_named t n.text) place q (x.1 ∙ ap Some (sym (ap (λ o. unwrap_or o 0) x.1) ∙ c.1))
    expr_fits vs S (Paren a place) q k m fars h = expr_fits vs S a q k m fars h
    expr_fits vs S (Single f a place) q k m fars h =
        let c = single_parts t f (type_of (drafted t) (outer ++ S) (recorded t w vs a)) q h in
        let x = expr_fits vs S a c.0 k m fars c.1 in
        (ap Some c.3, wanted_none t (prefix_type f) c.0 (type_in t w vs a) (expr_place a) (mismatch_in t w vs a) x.0 c.2 x.1)
    expr_fits vs S (Binary s a b) q k m fars h =
        let in_parts = there_parts t w (remotes_of a) (remotes_of b) fars in
        let o = operands t told (outer ++ S) (recorded t w vs a) (recorded t w vs b) s (list_of t (type_in t w vs b)) q h in
        let x = expr_fits vs S a o.0 k m.0 in_parts.0 o.2 in
        let y = expr_fits vs S b o.1 k m.1 in_parts.1 o.3 in
        let z = infix_none t told (outer ++ S) (recorded t w vs a) (recorded t w vs b) o.0 o.1 o.2 o.3 s q (expr_place a) (expr_place b) (subst (λ r. type_of (drafted t) (outer ++ S) (infix_in t s r (recorded t w vs a) (recorded t w vs b)) ≡ Some q) y.0 h) in
        (ap (given s) y.0 ∙ z.0, (λ i. at_infix t s (x.0 i) (y.0 i) (expr_place a) (expr_place b) (x.1 i) (y.1 i)) ∙ z.1)
    expr_fits vs S (Choice c a b) q k m fars h =
        let in_parts = there_parts t w (remotes_of c ++ remotes_of a) (remotes_of b) fars in
        let in_first = there_parts t w (remotes_of c) (remotes_of a) in_parts.0 in
        let g : ℕ → Option ℕ = λ p. where_fits (drafted t) p p (type_of (drafted t) (outer ++ S) (recorded t w vs b)) in
        let d = cond_parts (is_found (drafted t) truths (type_of (drafted t) (outer ++ S) (recorded t w vs c))) (option_and_then g (type_of (drafted t) (outer ++ S) (recorded t w vs a))) q h in
        let u = found_parts t truths (type_of (drafted t) (outer ++ S) (recorded t w vs c)) d.0 in
        let p = then_parts g (type_of (drafted t) (outer ++ S) (recorded t w vs a)) q d.1 in
        let r = where_parts t p.0 p.0 (type_of (drafted t) (outer ++ S) (recorded t w vs b)) q p.2 in
        let x = expr_fits vs S c u.0 k m.0 in_first.0 u.1 in
        let y = expr_fits vs S a p.0 k m.1 in_first.1 p.1 in
        let z = expr_fits vs S b r.0 k m.2 in_parts.1 r.1 in
        let second : where_wanted t (type_in t w vs a) (type_in t w vs b) (expr_place b) (mismatch_in t w vs b) ≡ None = ap (λ o. where_wanted t o (type_in t w vs b) (expr_place b) (mismatch_in t w vs b)) y.0 ∙ wanted_none t p.0 r.0 (type_in t w vs b) (expr_place b) (mismatch_in t w vs b) z.0 r.2 z.1 in
        let branches = both_none (mismatch_in t w vs a) (where_wanted t (type_in t w vs a) (type_in t w vs b) (expr_place b) (mismatch_in t w vs b)) y.1 second in (
          y.0 ∙ ap Some r.3,
          both_none (where_wanted t (Some truths) (type_in t w vs c) (expr_place c) (mismatch_in t w vs c)) (or_else (mismatch_in t w vs a) (where_wanted t (type_in t w vs a) (type_in t w vs b) (expr_place b) (mismatch_in t w vs b)))
              (wanted_none t truths u.0 (type_in t w vs c) (expr_place c) (mismatch_in t w vs c) x.0 u.2 x.1) branches,
        )
    expr_fits vs S (Call n es) q k m fars h = call_fits vs S n.place es q m.0 (look.callable t n.text) m.1 (calls n.text m.0 m.1) m.2 (λ ps many fit. all_fits vs S n.place es ps k many m.3 fars fit) h
    expr_fits vs S (Let n a b place) q k m fars h =
        let in_parts = there_parts t w (remotes_of a) (remotes_of b) fars in
        let u : scope.Variable = record { name = n.text; of = type_in t w vs a } in
        let c = then_parts (λ p. type_of (drafted t) ((outer ++ S) ++ p ∷ []) (recorded t w (vs ++ u ∷ []) b)) (type_of (drafted t) (outer ++ S) (recorded t w vs a)) q h in
        let x = expr_fits vs S a c.0 k m.0 in_parts.0 c.1 in
        let one : known (u ∷ []) ≡ Some (c.0 ∷ []) = one_known u c.0 x.0 in
        let y = expr_fits (vs ++ u ∷ []) (S ++ c.0 ∷ []) b q (known_two vs (u ∷ []) S (c.0 ∷ []) k one) m.1 in_parts.1 (subst (λ G. type_of (drafted t) G (recorded t w (vs ++ u ∷ []) b) ≡ Some q) (append_assoc outer S (c.0 ∷ [])) c.2) in
        (y.0, both_none (mismatch_in t w vs a) (mismatch_in t w (vs ++ u ∷ []) b) x.1 y.1)
    expr_fits vs S (With a x b cs place) q k m fars h =
        let in_parts = there_parts t w (remotes_of a ++ remotes_of b) (remotes_of_cases cs) fars in
        let in_first = there_parts t w (remotes_of a) (remotes_of b) in_parts.0 in
        let o = type_in t w vs a in
        let us = variables_of t x o in
        let D = drafted t in
        let G = outer ++ S in
        let rest = recorded_cases t w vs o cs in
        let c = then_parts (λ p. case_type D G p (kept.Case (pattern.recorded t x) (recorded t w (vs ++ us) b) rest)) (type_of D G (recorded t w vs a)) q h in
        let d = then_parts (λ r. only_if (rest_fits D G c.0 r rest) r) (option_and_then (λ bs. type_of D (G ++ bs) (recorded t w (vs ++ us) b)) (bound_types D (pattern.recorded t x) c.0)) q c.2 in
        let e = if_parts (rest_fits D G c.0 d.0 rest) d.0 q d.2 in
        let f = then_parts (λ bs. type_of D (G ++ bs) (recorded t w (vs ++ us) b)) (bound_types D (pattern.recorded t x) c.0) d.0 d.1 in
        let y = expr_fits vs S a c.0 k m.0 in_first.0 c.1 in
        let p = pattern_fits t x c.0 f.0 m.1 f.1 in
        let bound : known us ≡ Some f.0 = ap (λ z. known (variables_of t x z)) y.0 ∙ p.1 in
        let z = expr_fits (vs ++ us) (S ++ f.0) b d.0 (known_two vs us S f.0 k bound) m.2 in_first.1 (subst (λ G. type_of D G (recorded t w (vs ++ us) b) ≡ Some d.0) (append_assoc outer S f.0) f.2) in
        let later = cases_fit vs S c.0 d.0 cs k (subst (λ z. CasesMean t w vs z cs) y.0 m.3) in_parts.1 (subst (λ z. rest_fits D G c.0 d.0 (recorded_cases t w vs z cs) ≡ true) y.0 e.0) in
        let all : mismatch_in_cases t w vs o (type_in t w (vs ++ us) b) cs ≡ None = (λ i. mismatch_in_cases t w vs (y.0 i) (z.0 i) cs) ∙ later in
        let body = both_none (mismatch_in t w (vs ++ us) b) (mismatch_in_cases t w vs o (type_in t w (vs ++ us) b) cs) z.1 all in
        let first = both_none (pattern.mismatch_in t x o) (or_else (mismatch_in t w (vs ++ us) b) (mismatch_in_cases t w vs o (type_in t w (vs ++ us) b) cs)) (ap (pattern.mismatch_in t x) y.0 ∙ p.0) body in
        (z.0 ∙ ap Some e.1, both_none (mismatch_in t w vs a) (or_else (pattern.mismatch_in t x o) (or_else (mismatch_in t w (vs ++ us) b) (mismatch_in_cases t w vs o (type_in t w (vs ++ us) b) cs))) y.1 first)

    all_fits : (vs : List scope.Variable) (S : List ℕ) (place : Position) (es : Exprs) (ps : List ℕ) → known vs ≡ Some S → length ps ≡ exprs_count es → HaveMeaning t w vs es → AreThere t w (remotes_of_all es) → all_fit (drafted t) (outer ++ S) (recorded_all t w vs es ps) ps ≡ true → mismatch_in_all t w vs place es ps ≡ None
    all_fits vs S place NoExpr [] k n m fars h = refl
    all_fits vs S place NoExpr (p ∷ ps) k n m fars h = cc
    all_fits vs S place (AndExpr e es) [] k n m fars h = cc
    all_fits vs S place (AndExpr e es) (p ∷ ps) k n m fars h =
        let in_parts = there_parts t w (remotes_of e) (remotes_of_all es) fars in
        let c = and_parts (is_found (drafted t) p (type_of (drafted t) (outer ++ S) (recorded t w vs e))) (all_fit (drafted t) (outer ++ S) (recorded_all t w vs es ps) ps) h in
        let d = found_parts t p (type_of (drafted t) (outer ++ S) (recorded t w vs e)) c.0 in
        let x = expr_fits vs S e d.0 k m.0 in_parts.0 d.1 in
        let fewer : length ps ≡ exprs_count es = cc in
        both_none (where_wanted t (Some p) (type_in t w vs e) (expr_place e) (mismatch_in t w vs e)) (mismatch_in_all t w vs place es ps) (wanted_none t p d.0 (type_in t w vs e) (expr_place e) (mismatch_in t w vs e) x.0 d.2 x.1) (all_fits vs S place es ps k fewer m.1 in_parts.1 c.1)

    cases_fit : (vs : List scope.Variable) (S : List ℕ) (p r : ℕ) (cs : Cases) → known vs ≡ Some S → CasesMean t w vs (Some p) cs → AreThere t w (remotes_of_cases cs) → rest_fits (drafted t) (outer ++ S) p r (recorded_cases t w vs (Some p) cs) ≡ true → mismatch_in_cases t w vs (Some p) (Some r) cs ≡ None
    cases_fit vs S p r NoCase k m fars h = refl
    cases_fit vs S p r (Default e) k m fars h =
        let d = found_parts t r (type_of (drafted t) (outer ++ S) (recorded t w vs e)) h in
        let x = expr_fits vs S e d.0 k m fars d.1 in
        wanted_none t r d.0 (type_in t w vs e) (expr_place e) (mismatch_in t w vs e) x.0 d.2 x.1
    cases_fit vs S p r (Case q e cs) k m fars h =
        let in_parts = there_parts t w (remotes_of e) (remotes_of_cases cs) fars in
        let us = variables_of t q (Some p) in
        let D = drafted t in
        let G = outer ++ S in
        let given = option_and_then (λ bs. type_of D (G ++ bs) (recorded t w (vs ++ us) e)) (bound_types D (pattern.recorded t q) p) in
        let c = and_parts (is_found D r given) (rest_fits D G p r (recorded_cases t w vs (Some p) cs)) h in
        let d = found_parts t r given c.0 in
        let f = then_parts (λ bs. type_of D (G ++ bs) (recorded t w (vs ++ us) e)) (bound_types D (pattern.recorded t q) p) d.0 d.1 in
        let y = pattern_fits t q p f.0 m.0 f.1 in
        let x = expr_fits (vs ++ us) (S ++ f.0) e d.0 (known_two vs us S f.0 k y.1) m.1 in_parts.0 (subst (λ G. type_of D G (recorded t w (vs ++ us) e) ≡ Some d.0) (append_assoc outer S f.0) f.2) in
        both_none (pattern.mismatch_in t q (Some p)) (or_else (where_wanted t (Some r) (type_in t w (vs ++ us) e) (expr_place e) (mismatch_in t w (vs ++ us) e)) (mismatch_in_cases t w vs (Some p) (Some r) cs)) y.0
        (both_none (where_wanted t (Some r) (type_in t w (vs ++ us) e) (expr_place e) (mismatch_in t w (vs ++ us) e)) (mismatch_in_cases t w vs (Some p) (Some r) cs) (wanted_none t r d.0 (type_in t w (vs ++ us) e) (expr_place e) (mismatch_in t w (vs ++ us) e) x.0 d.2 x.1) (cases_fit vs S p r cs k m.2 in_parts.1 c.1))
