-- Where no use is of an unknown name or over another number of parts, each name of an expression means something.
use Rattle.std.proofs.Common.{◌≡◌, refl, sym, ap, subst, ◌∙◌, ℕ, ◌+◌, Bool, true, false, inl, inr, List, [], ◌∷◌, ◌++◌, map, length, Option, Some, None, slice_get, append_assoc}
use Rattle.std.specs.Prelude.{◌⊎◌, ◌||◌, if◌then◌else◌, is_some, nat_eq, bytes_eq, option_map, option_and_then, ⊤}
use Rattle.std.specs.List.{list_any, position}
use Rattle.std.proofs.lemmas.List.{append-nil, map-append}
use Rattle.std.proofs.lemmas.List.Folds.{list_any-append}
use Rattle.sg_kinds.proofs.Elementary.{some_there, or_one, or_right, eq_is, eq_itself}
use Rattle.sg_kinds.specs.Values.{Bytes}
use Rattle.sg_kinds.specs.Specification.{args_of, locals_of}
use Rattle.sg_kinds.specs.declared.spec.Local.{Local}
use Rattle.sg_kinds.specs.declared.spec.Occurrence.{Occurrence}
use Rattle.sg_ast.specs.FirstFault.{or_else, first}
use Rattle.sg_ast.specs.Patterns as p
use Rattle.sg_ast.specs.Patterns.{Pattern, Patterns, NoPattern, AndPattern}
use Rattle.sg_ast.specs.Expressions.{Expr, Exprs, Cases, Amount, Chars, Truth, Variable, Attribute, Remote, MadeOf, Paren, Single, Binary, Choice, Call, Let, With, NoExpr, AndExpr, NoCase, Default, Case}
use Rattle.sg_ast.specs.declared.name.Name.{Name}
use Rattle.sg_ast.specs.declared.name.Pair.{Pair}
use Rattle.sg_ast.specs.declared.name.Reference.{Reference}
use Rattle.sg_ast.specs.declared.name.Remote as enclosing
use Rattle.sg_ast.proofs.FirstLaws.{neither, first-append}
use Rattle.sg_kinds.specs.declared.fault.SpecFault.TheVariants.{Arity}
use Rattle.sg_names.specs.Arity.{arity_at, unless_many}
use Rattle.sg_names.specs.UnknownName.{unknown_at, unless_known, reference_fault, is_there, is_known}
use Rattle.sg_names.specs.Uses.{Site, Use, InProduction, Elsewhere, Encloses, Matches, Calls, Binds, is_visible, with_variable, patterns_count, exprs_count, pattern_scope, patterns_scope, pattern_uses, patterns_uses, expr_uses, exprs_uses, cases_uses}
use Rattle.sg_names.specs.Names.{op_named}
use Rattle.sg_names.specs.Lookups.{are_alike, callable, far_slot, local, operand, params_of, reference, usable_named}
use Rattle.sg_names.specs.declared.table.Callable.{Callable}
use Rattle.sg_names.specs.declared.table.Table.{Table}
use Rattle.sg_names.proofs.HeadLaws.{some_place}
use Rattle.sg_types.specs.declared.scope.Variable as vars
use Rattle.sg_types.specs.Scopes.{found, place_of}
use Rattle.sg_types.specs.Bindings.{Owner, OfEquation, OfProduction, OfNothing, argument, behind, is_at, local_at, outside, own_slots, reference_at, remote_at, symbol_there, variable_at}
use Rattle.sg_types.specs.Expressions.{type_in}
use Rattle.sg_types.specs.Patterns.{variables_of, variables_of_all, parts_of}
use Rattle.sg_typing.specs.Arguments.{added, local_of, remote_of, args_from, args_from_all, args_from_cases, args_in}
use Rattle.sg_typing.specs.Known.{AreKnown, AreAmong, HasArguments, HasFar, SeesVariables, names_of, names_outside, site_of}
use Rattle.sg_typing.proofs.ExprsFit.{HasMeaning, HaveMeaning, CasesMean}
use Rattle.sg_typing.proofs.PatternsFit.{Means, Mean}
use Rattle.sg_typing.proofs.TableFacts.{position_there}

-- uses that are known, in parts
pub known_parts : (t : Table) (us ws : List Use) → AreKnown t (us ++ ws) → AreKnown t us × AreKnown t ws
known_parts t us ws h =
    let a = neither (first (unknown_at t) us) (first (unknown_at t) ws) (sym (first-append (unknown_at t) us ws) ∙ h.0) in
    let b = neither (first (arity_at t) us) (first (arity_at t) ws) (sym (first-append (arity_at t) us ws) ∙ h.1) in
    ((a.0, b.0), (a.1, b.1))

pub known_first : (t : Table) (u : Use) (us : List Use) → AreKnown t (u ∷ us) → (unknown_at t u ≡ None) × (arity_at t u ≡ None) × AreKnown t us
known_first t u us h =
    let a = neither (unknown_at t u) (first (unknown_at t) us) h.0 in
    let b = neither (arity_at t u) (first (arity_at t) us) h.1 in
    (a.0, b.0, (a.1, b.1))

pub known_is : (b : Bool) (n : Name) → unless_known b n ≡ None → b ≡ true
known_is true n h = refl
known_is false n h = cc

many_is : (declared parts : ℕ) (n : Name) → unless_many declared parts n ≡ None → declared ≡ parts
many_is declared parts n h = by (nat_eq declared parts) refl h
  where
    by : (b : Bool) → nat_eq declared parts ≡ b → (if b then None else Some (Arity n.place n.text)) ≡ None → declared ≡ parts
    by true e k = eq_is declared parts e
    by false e k = cc

-- an operator's pattern, and a call
matched : (t : Table) (n : Name) (parts : ℕ) → unknown_at t (Matches n parts) ≡ None → arity_at t (Matches n parts) ≡ None → (op : ℕ) × (op_named t.ops n.text ≡ Some op) × (length (args_of t.ops op) ≡ parts)
matched t n parts h g =
    let x = some_there (op_named t.ops n.text) (known_is (is_some (op_named t.ops n.text)) n h) in
    (x.0, x.1, many_is (length (args_of t.ops x.0)) parts n (subst (λ o. option_and_then (λ op. unless_many (length (args_of t.ops op)) parts n) o ≡ None) x.1 g))

called : (t : Table) (n : Name) (parts : ℕ) → unknown_at t (Calls n parts) ≡ None → arity_at t (Calls n parts) ≡ None → (c : Callable) × (callable t n.text ≡ Some c) × (length (params_of t c) ≡ parts)
called t n parts h g =
    let x = some_there (callable t n.text) (known_is (is_some (callable t n.text)) n h) in
    (x.0, x.1, many_is (length (params_of t x.0)) parts n (subst (λ o. option_and_then (λ c. unless_many (length (params_of t c)) parts n) o ≡ None) x.1 g))

-- patterns
module _ (t : Table) where
  mutual
    pub pattern_means : (scope : List Bytes) (q : Pattern) → AreKnown t (pattern_uses scope q) → Means t q
    pattern_means scope (p.Amount negative n place) h = tt
    pattern_means scope (p.Chars s) h = tt
    pattern_means scope (p.Truth b place) h = tt
    pattern_means scope (p.Anything place) h = tt
    pattern_means scope (p.Variable n) h = tt
    pattern_means scope (p.MadeAs made n place) h = known_is (is_some (usable_named t n.text)) n (neither (unless_known (is_some (usable_named t n.text)) n) None h.0).0
    pattern_means scope (p.Applied n xs) h =
        let c = known_first t (Matches n (patterns_count xs)) (patterns_uses scope xs) h in
        let x = matched t n (patterns_count xs) c.0 c.1 in
        (x.0, x.1, x.2, patterns_mean scope xs c.2)

    patterns_mean : (scope : List Bytes) (xs : Patterns) → AreKnown t (patterns_uses scope xs) → Mean t xs
    patterns_mean scope NoPattern h = tt
    patterns_mean scope (AndPattern x xs) h =
        let c = known_parts t (pattern_uses scope x) (patterns_uses (pattern_scope scope x) xs) h in
        (pattern_means scope x c.0, patterns_mean (pattern_scope scope x) xs c.1)

-- what is visible
visible_parts : (xs ys : List Bytes) (n : Bytes) → is_visible (xs ++ ys) n ≡ true → (is_visible xs n ≡ true) ⊎ (is_visible ys n ≡ true)
visible_parts xs ys n h = or_one (is_visible xs n) (is_visible ys n) (sym (list_any-append (bytes_eq n) xs ys) ∙ h)

visible_left : (xs ys : List Bytes) (n : Bytes) → is_visible xs n ≡ true → is_visible (xs ++ ys) n ≡ true
visible_left xs ys n h = list_any-append (bytes_eq n) xs ys ∙ ap (λ b. b || is_visible ys n) h

visible_right : (xs ys : List Bytes) (n : Bytes) → is_visible ys n ≡ true → is_visible (xs ++ ys) n ≡ true
visible_right xs ys n h = list_any-append (bytes_eq n) xs ys ∙ or_right (is_visible xs n) (is_visible ys n) h

pub among_one : (scope names : List Bytes) (m : Bytes) → AreAmong scope names → AreAmong (with_variable scope m) (names ++ m ∷ [])
among_one scope names m h n e = by (is_visible scope m) e
  where
    old : is_visible scope n ≡ true → is_visible (names ++ m ∷ []) n ≡ true
    old k = visible_left names (m ∷ []) n (h n k)

    new : (is_visible scope n ≡ true) ⊎ (is_visible (m ∷ []) n ≡ true) → is_visible (names ++ m ∷ []) n ≡ true
    new (inl k) = old k
    new (inr k) = visible_right names (m ∷ []) n k

    by : (b : Bool) → is_visible (if b then scope else scope ++ m ∷ []) n ≡ true → is_visible (names ++ m ∷ []) n ≡ true
    by true k = old k
    by false k = new (visible_parts scope (m ∷ []) n k)

pub among_none : (scope names : List Bytes) → AreAmong scope names → AreAmong scope (names ++ [])
among_none scope names h n e = visible_left names [] n (h n e)

module _ (t : Table) where
  mutual
    pub pattern_among : (scope names : List Bytes) (q : Pattern) (o : Option ℕ) → Means t q → AreAmong scope names → AreAmong (pattern_scope scope q) (names ++ names_of (variables_of t q o))
    pattern_among scope names (p.Amount negative n place) o m h = among_none scope names h
    pattern_among scope names (p.Chars s) o m h = among_none scope names h
    pattern_among scope names (p.Truth b place) o m h = among_none scope names h
    pattern_among scope names (p.Anything place) o m h = among_none scope names h
    pattern_among scope names (p.Variable n) o m h = among_one scope names n.text h
    pattern_among scope names (p.MadeAs made n place) o m h = among_none scope names h
    pattern_among scope names (p.Applied n xs) o m h =
        patterns_among scope names xs (parts_of t (op_named t.ops n.text)) (ap (λ o. length (parts_of t o)) m.1 ∙ m.2) m.3 h

    patterns_among : (scope names : List Bytes) (xs : Patterns) (ps : List ℕ) → length ps ≡ patterns_count xs → Mean t xs → AreAmong scope names → AreAmong (patterns_scope scope xs) (names ++ names_of (variables_of_all t xs ps))
    patterns_among scope names NoPattern [] n m h = among_none scope names h
    patterns_among scope names NoPattern (p ∷ ps) n m h = cc
    patterns_among scope names (AndPattern x xs) [] n m h = cc
    patterns_among scope names (AndPattern x xs) (p ∷ ps) n m h =
        let fewer : length ps ≡ patterns_count xs = cc in
        let us = variables_of t x (Some p) in
        let ws = variables_of_all t xs ps in
        let more : names ++ names_of (us ++ ws) ≡ (names ++ names_of us) ++ names_of ws = ap (λ l. names ++ l) (map-append (λ (v : vars.Variable). v.name) us ws) ∙ sym (append_assoc names (names_of us) (names_of ws)) in
        subst (AreAmong (patterns_scope (pattern_scope scope x) xs)) (sym more) (patterns_among (pattern_scope scope x) (names ++ names_of us) xs ps fewer m.1 (pattern_among scope names x (Some p) m.0 h))

sees_more : (t : Table) (w : Owner) (vs us : List vars.Variable) (scope : List Bytes) → AreAmong scope ((names_outside t w ++ names_of vs) ++ names_of us) → SeesVariables t w (vs ++ us) scope
sees_more t w vs us scope h =
    let more : names_outside t w ++ names_of (vs ++ us) ≡ (names_outside t w ++ names_of vs) ++ names_of us = ap (λ l. names_outside t w ++ l) (map-append (λ (v : vars.Variable). v.name) vs us) ∙ sym (append_assoc (names_outside t w) (names_of vs) (names_of us)) in
    subst (AreAmong scope) (sym more) h

-- the arguments that an expression names stand among those of its equation
abbrev Extends : List Occurrence → List Occurrence → Type 0
Extends xs ys = (zs : List Occurrence) × (ys ≡ xs ++ zs)

extends_itself : (xs : List Occurrence) → Extends xs xs
extends_itself xs = ([], sym (append-nil xs))

extends_both : (xs ys zs : List Occurrence) → Extends xs ys → Extends ys zs → Extends xs zs
extends_both xs ys zs h k = (h.0 ++ k.0, k.1 ∙ ap (λ l. l ++ k.0) h.1 ∙ append_assoc xs h.0 k.0)

added_grows : (before : List Occurrence) (o : Option Occurrence) → Extends before (added before o)
added_grows before None = extends_itself before
added_grows before (Some o) = by (is_some (position (is_at o.at o.slot) before))
  where
    by : (b : Bool) → Extends before (if b then before else before ++ o ∷ [])
    by true = extends_itself before
    by false = (o ∷ [], refl)

module _ (t : Table) (op : ℕ) where
  mutual
    grows : (before : List Occurrence) (e : Expr) → Extends before (args_from t op before e)
    grows before (Amount n place) = extends_itself before
    grows before (Chars s) = extends_itself before
    grows before (Truth b place) = extends_itself before
    grows before (Variable n) = added_grows before (local_of t op n.text)
    grows before (Attribute r) = added_grows before (reference t op r)
    grows before (Remote r) = added_grows before (remote_of t op r)
    grows before (MadeOf made n place) = extends_itself before
    grows before (Paren a place) = grows before a
    grows before (Single f a place) = grows before a
    grows before (Binary s a b) = extends_both before (args_from t op before a) (args_from t op (args_from t op before a) b) (grows before a) (grows (args_from t op before a) b)
    grows before (Choice c a b) =
        let x = args_from t op before c in
        let y = args_from t op x a in
        extends_both before x (args_from t op y b) (grows before c) (extends_both x y (args_from t op y b) (grows x a) (grows y b))
    grows before (Call n es) = grows_all before es
    grows before (Let n a b place) = extends_both before (args_from t op before a) (args_from t op (args_from t op before a) b) (grows before a) (grows (args_from t op before a) b)
    grows before (With a q b cs place) =
        let x = args_from t op before a in
        let y = args_from t op x b in
        extends_both before x (args_from_cases t op y cs) (grows before a) (extends_both x y (args_from_cases t op y cs) (grows x b) (grows_cases y cs))

    grows_all : (before : List Occurrence) (es : Exprs) → Extends before (args_from_all t op before es)
    grows_all before NoExpr = extends_itself before
    grows_all before (AndExpr e es) = extends_both before (args_from t op before e) (args_from_all t op (args_from t op before e) es) (grows before e) (grows_all (args_from t op before e) es)

    grows_cases : (before : List Occurrence) (cs : Cases) → Extends before (args_from_cases t op before cs)
    grows_cases before NoCase = extends_itself before
    grows_cases before (Default e) = grows before e
    grows_cases before (Case q e cs) = extends_both before (args_from t op before e) (args_from_cases t op (args_from t op before e) cs) (grows before e) (grows_cases (args_from t op before e) cs)

-- an occurrence that was added is there
is_itself : (o : Occurrence) → is_at o.at o.slot o ≡ true
is_itself o = rw (eq_itself o.at, eq_itself o.slot) refl

added_there : (before : List Occurrence) (o : Occurrence) → list_any (is_at o.at o.slot) (added before (Some o)) ≡ true
added_there before o = by (is_some (position (is_at o.at o.slot) before)) (some_place (is_at o.at o.slot) before)
  where
    by : (b : Bool) → b ≡ list_any (is_at o.at o.slot) before → list_any (is_at o.at o.slot) (if b then before else before ++ o ∷ []) ≡ true
    by true e = sym e
    by false e = list_any-append (is_at o.at o.slot) before (o ∷ []) ∙ or_right (list_any (is_at o.at o.slot) before) (list_any (is_at o.at o.slot) (o ∷ [])) (ap (λ b. b || false) (is_itself o))

argument_there : (t : Table) (op : ℕ) (args before : List Occurrence) (o : Occurrence) → Extends (added before (Some o)) args → is_some (argument t op args o.at o.slot) ≡ true
argument_there t op args before o h =
    let any : list_any (is_at o.at o.slot) args ≡ true = ap (list_any (is_at o.at o.slot)) h.1 ∙ list_any-append (is_at o.at o.slot) (added before (Some o)) h.0 ∙ ap (λ b. b || list_any (is_at o.at o.slot) h.0) (added_there before o) in
    let x = some_there (position (is_at o.at o.slot) args) (some_place (is_at o.at o.slot) args ∙ any) in
    rw x.1 refl

-- of an owner that is no equation nothing is asked
abbrev op_of : Owner → ℕ
op_of (OfEquation op args) = op
op_of w = 0

abbrev Holds : Owner → List Occurrence → Type 0
Holds (OfEquation op args) xs = Extends xs args
Holds w xs = ⊤

holds_front : (w : Owner) (xs ys : List Occurrence) → Extends xs ys → Holds w ys → Holds w xs
holds_front (OfEquation op args) xs ys e h = extends_both xs ys args e h
holds_front (OfProduction left parts) xs ys e h = tt
holds_front OfNothing xs ys e h = tt

pub reference_known : (b there : Bool) (r : Reference) → reference_fault there b r ≡ None → b ≡ true
reference_known b true r h = known_is b r.attr h
reference_known b false r h = cc

reference_bound : (t : Table) (w : Owner) (before : List Occurrence) (r : Reference) → is_known t (site_of w) r ≡ true → Holds w (added before (reference t (op_of w) r)) → is_some (reference_at t w r) ≡ true
reference_bound t OfNothing before r k h = cc
reference_bound t (OfProduction left parts) before r k h =
    let x = some_there (operand t left parts r) k in
    ap (λ o. is_some (option_map (symbol_there parts) o)) x.1
reference_bound t (OfEquation op args) before r k h =
    let x = some_there (reference t op r) k in
    ap (λ o. is_some (option_and_then (λ (o : Occurrence). argument t op args o.at o.slot) o)) x.1 ∙ argument_there t op args before x.0 (subst (λ o. Extends (added before o) args) x.1 h)

-- an attribute of an enclosing node means nothing outside equations
none_enclosed : (t : Table) (site : Site) (r : enclosing.Remote) → ((q : Pair) (us : List Use) → AreKnown t (Encloses site q ∷ us) → ⊥) → AreKnown t (map (Encloses site) r.pairs) → are_alike t r ≡ true → ⊥
none_enclosed t site r none k a = by r.pairs k a
  where
    by : (qs : List Pair) → AreKnown t (map (Encloses site) qs) → are_alike t (record { pairs = qs; place = r.place }) ≡ true → ⊥
    by [] k a = cc
    by (q ∷ qs) k a = none q (map (Encloses site) qs) k

remote_bound : (t : Table) (w : Owner) (before : List Occurrence) (r : enclosing.Remote) → AreKnown t (map (Encloses (site_of w)) r.pairs) → Holds w (added before (remote_of t (op_of w) r)) → HasFar t w r → are_alike t r ≡ true → is_some (remote_at t w r) ≡ true
remote_bound t OfNothing before r k h far a = absurd (none_enclosed t Elsewhere r (λ q us k. let c = known_first t (Encloses Elsewhere q) us k in let never : false ≡ true = known_is false q.phylum c.0 in cc) k a)
remote_bound t (OfProduction left parts) before r k h far a =
    absurd (none_enclosed t (InProduction left parts) r (λ q us k. let c = known_first t (Encloses (InProduction left parts) q) us k in let never : false ≡ true = known_is false q.phylum c.0 in cc) k a)
remote_bound t (OfEquation op args) before r k h far a =
    let x = some_there (far_slot t op r) far in
    let o : Occurrence = record { at = 0; slot = x.0 } in
    ap (λ s. is_some (option_and_then (argument t op args 0) s)) x.1 ∙ argument_there t op args before o (subst (λ s. Extends (added before (option_map (λ s. record { at = 0; slot = s }) s)) args) x.1 h)

-- a variable's name has a place
place_there : (vs : List vars.Variable) (n : Bytes) → is_visible (names_of vs) n ≡ true → is_some (found vs n) ≡ true
place_there vs n h =
    let x = some_there (place_of vs n) (some_place (λ (v : vars.Variable). bytes_eq n v.name) vs ∙ any vs ∙ h) in
    let y = position_there (λ (v : vars.Variable). bytes_eq n v.name) vs x.0 x.1 in
    ap (λ o. is_some (option_and_then there o)) x.1 ∙ ap (λ o. is_some (option_map (at x.0) o)) y.1
  where
    at : ℕ → vars.Variable → ℕ × Option ℕ
    at k v = (k, v.of)

    there : ℕ → Option (ℕ × Option ℕ)
    there k = option_map (at k) (slice_get vs k)

    any : (vs : List vars.Variable) → list_any (λ (v : vars.Variable). bytes_eq n v.name) vs ≡ is_visible (names_of vs) n
    any [] = refl
    any (v ∷ vs) = ap (λ b. bytes_eq n v.name || b) (any vs)

-- a local's name, and its place
pub local_named : (t : Table) (op : ℕ) (n : Bytes) → is_visible (map (λ (l : Local). l.name) (locals_of t.ops op)) n ≡ true → (k : ℕ) × (local t op n ≡ Some k)
local_named t op n v = some_there (local t op n) (some_place (λ (l : Local). bytes_eq n l.name) (locals_of t.ops op) ∙ any (locals_of t.ops op) ∙ v)
  where
    any : (ls : List Local) → list_any (λ (l : Local). bytes_eq n l.name) ls ≡ is_visible (map (λ (l : Local). l.name) ls) n
    any [] = refl
    any (l ∷ ls) = ap (λ b. bytes_eq n l.name || b) (any ls)

local_bound : (t : Table) (op : ℕ) (args before : List Occurrence) (n : Bytes) → is_visible (names_outside t (OfEquation op args)) n ≡ true → Extends (added before (local_of t op n)) args → is_some (local_at t (OfEquation op args) n) ≡ true
local_bound t op args before n v h =
    let x = local_named t op n v in
    let o : Occurrence = record { at = 0; slot = own_slots t op + x.0 } in
    ap (λ k. is_some (option_and_then (argument t op args 0) (option_map (λ k. own_slots t op + k) k))) x.1
    ∙ argument_there t op args before o (subst (λ k. Extends (added before (option_map (λ s. record { at = 0; slot = s }) (option_map (λ k. own_slots t op + k) k))) args) x.1 h)

variable_found : (t : Table) (w : Owner) (vs : List vars.Variable) (n : Bytes) → is_visible (names_of vs) n ≡ true → is_some (variable_at t w vs n) ≡ true
variable_found t w vs n h = by (local_at t w n) (found vs n) (place_there vs n h)
  where
    by : (a b : Option (ℕ × Option ℕ)) → is_some b ≡ true → is_some (or_else a (option_map (behind (outside w)) b)) ≡ true
    by (Some x) b k = refl
    by None (Some y) k = refl
    by None None k = cc

variable_local : (t : Table) (w : Owner) (vs : List vars.Variable) (n : Bytes) → is_some (local_at t w n) ≡ true → is_some (variable_at t w vs n) ≡ true
variable_local t w vs n h = by (local_at t w n) h
  where
    by : (a : Option (ℕ × Option ℕ)) → is_some a ≡ true → is_some (or_else a (option_map (behind (outside w)) (found vs n))) ≡ true
    by (Some x) k = refl
    by None k = cc

variable_bound : (t : Table) (w : Owner) (vs : List vars.Variable) (before : List Occurrence) (n : Bytes) → is_visible (names_outside t w ++ names_of vs) n ≡ true → Holds w (added before (local_of t (op_of w) n)) → is_some (variable_at t w vs n) ≡ true
variable_bound t w vs before n v h = by w (visible_parts (names_outside t w) (names_of vs) n v) h
  where
    by : (w : Owner) → (is_visible (names_outside t w) n ≡ true) ⊎ (is_visible (names_of vs) n ≡ true) → Holds w (added before (local_of t (op_of w) n)) → is_some (variable_at t w vs n) ≡ true
    by w (inr k) h = variable_found t w vs n k
    by (OfEquation op args) (inl k) h = variable_local t (OfEquation op args) vs n (local_bound t op args before n k h)
    by (OfProduction left parts) (inl k) h = cc
    by OfNothing (inl k) h = cc

module _ (t : Table) (w : Owner) where
  mutual
    pub expr_means : (vs : List vars.Variable) (scope : List Bytes) (before : List Occurrence) (e : Expr) → SeesVariables t w vs scope → AreKnown t (expr_uses (site_of w) scope e) → Holds w (args_from t (op_of w) before e) → HasMeaning t w vs e
    expr_means vs scope before (Amount n place) s k h = tt
    expr_means vs scope before (Chars c) s k h = tt
    expr_means vs scope before (Truth b place) s k h = tt
    expr_means vs scope before (Variable n) s k h = variable_bound t w vs before n.text (s n.text (known_is (is_visible scope n.text) n (neither (unless_known (is_visible scope n.text) n) None k.0).0)) h
    expr_means vs scope before (Attribute r) s k h =
        reference_bound t w before r (reference_known (is_known t (site_of w) r) (is_there t (site_of w) r.of) r (neither (reference_fault (is_there t (site_of w) r.of) (is_known t (site_of w) r) r) None k.0).0) h
    expr_means vs scope before (Remote r) s k h = remote_bound t w before r k h
    expr_means vs scope before (MadeOf made n place) s k h = known_is (is_some (usable_named t n.text)) n (neither (unless_known (is_some (usable_named t n.text)) n) None k.0).0
    expr_means vs scope before (Paren a place) s k h = expr_means vs scope before a s k h
    expr_means vs scope before (Single f a place) s k h = expr_means vs scope before a s k h
    expr_means vs scope before (Binary f a b) s k h =
        let x = args_from t (op_of w) before a in
        let c = known_parts t (expr_uses (site_of w) scope a) (expr_uses (site_of w) scope b) k in
        (expr_means vs scope before a s c.0 (holds_front w x (args_from t (op_of w) x b) (grows t (op_of w) x b) h), expr_means vs scope x b s c.1 h)
    expr_means vs scope before (Choice f a b) s k h =
        let x = args_from t (op_of w) before f in
        let y = args_from t (op_of w) x a in
        let c = known_parts t (expr_uses (site_of w) scope f) (expr_uses (site_of w) scope a ++ expr_uses (site_of w) scope b) k in
        let d = known_parts t (expr_uses (site_of w) scope a) (expr_uses (site_of w) scope b) c.1 in
        let g = holds_front w y (args_from t (op_of w) y b) (grows t (op_of w) y b) h in
        (expr_means vs scope before f s c.0 (holds_front w x y (grows t (op_of w) x a) g), expr_means vs scope x a s d.0 g, expr_means vs scope y b s d.1 h)
    expr_means vs scope before (Call n es) s k h =
        let c = known_first t (Calls n (exprs_count es)) (exprs_uses (site_of w) scope es) k in
        let x = called t n (exprs_count es) c.0 c.1 in
        (x.0, x.1, x.2, exprs_mean vs scope before es s c.2 h)
    expr_means vs scope before (Let n a b place) s k h =
        let x = args_from t (op_of w) before a in
        let u : vars.Variable = record { name = n.text; of = type_in t w vs a } in
        let c = known_first t (Binds scope n) (expr_uses (site_of w) scope a ++ expr_uses (site_of w) (with_variable scope n.text) b) k in
        let d = known_parts t (expr_uses (site_of w) scope a) (expr_uses (site_of w) (with_variable scope n.text) b) c.2 in
        let more = sees_more t w vs (u ∷ []) (with_variable scope n.text) (among_one scope (names_outside t w ++ names_of vs) n.text s) in
        (expr_means vs scope before a s d.0 (holds_front w x (args_from t (op_of w) x b) (grows t (op_of w) x b) h), expr_means (vs ++ u ∷ []) (with_variable scope n.text) x b more d.1 h)
    expr_means vs scope before (With a q b cs place) s k h =
        let x = args_from t (op_of w) before a in
        let y = args_from t (op_of w) x b in
        let o = type_in t w vs a in
        let inner = pattern_scope scope q in
        let bodies = expr_uses (site_of w) inner b ++ cases_uses (site_of w) scope cs in
        let c = known_parts t (expr_uses (site_of w) scope a) (pattern_uses scope q ++ bodies) k in
        let d = known_parts t (pattern_uses scope q) bodies c.1 in
        let f = known_parts t (expr_uses (site_of w) inner b) (cases_uses (site_of w) scope cs) d.1 in
        let m = pattern_means t scope q d.0 in
        let more = sees_more t w vs (variables_of t q o) inner (pattern_among t scope (names_outside t w ++ names_of vs) q o m s) in
        let g = holds_front w y (args_from_cases t (op_of w) y cs) (grows_cases t (op_of w) y cs) h in
        (expr_means vs scope before a s c.0 (holds_front w x y (grows t (op_of w) x b) g), m, expr_means (vs ++ variables_of t q o) inner x b more f.0 g, cases_mean vs scope y o cs s f.1 h)

    exprs_mean : (vs : List vars.Variable) (scope : List Bytes) (before : List Occurrence) (es : Exprs) → SeesVariables t w vs scope → AreKnown t (exprs_uses (site_of w) scope es) → Holds w (args_from_all t (op_of w) before es) → HaveMeaning t w vs es
    exprs_mean vs scope before NoExpr s k h = tt
    exprs_mean vs scope before (AndExpr e es) s k h =
        let x = args_from t (op_of w) before e in
        let c = known_parts t (expr_uses (site_of w) scope e) (exprs_uses (site_of w) scope es) k in
        (expr_means vs scope before e s c.0 (holds_front w x (args_from_all t (op_of w) x es) (grows_all t (op_of w) x es) h), exprs_mean vs scope x es s c.1 h)

    cases_mean : (vs : List vars.Variable) (scope : List Bytes) (before : List Occurrence) (o : Option ℕ) (cs : Cases) → SeesVariables t w vs scope → AreKnown t (cases_uses (site_of w) scope cs) → Holds w (args_from_cases t (op_of w) before cs) → CasesMean t w vs o cs
    cases_mean vs scope before o NoCase s k h = tt
    cases_mean vs scope before o (Default e) s k h = expr_means vs scope before e s k h
    cases_mean vs scope before o (Case q e cs) s k h =
        let x = args_from t (op_of w) before e in
        let inner = pattern_scope scope q in
        let c = known_parts t (pattern_uses scope q) (expr_uses (site_of w) inner e ++ cases_uses (site_of w) scope cs) k in
        let d = known_parts t (expr_uses (site_of w) inner e) (cases_uses (site_of w) scope cs) c.1 in
        let m = pattern_means t scope q c.0 in
        let more = sees_more t w vs (variables_of t q o) inner (pattern_among t scope (names_outside t w ++ names_of vs) q o m s) in
        (m, expr_means (vs ++ variables_of t q o) inner before e more d.0 (holds_front w x (args_from_cases t (op_of w) x cs) (grows_cases t (op_of w) x cs) h), cases_mean vs scope x o cs s d.1 h)

  -- a whole expression
  pub body_means : (vs : List vars.Variable) (scope : List Bytes) (e : Expr) → HasArguments t w e → SeesVariables t w vs scope → AreKnown t (expr_uses (site_of w) scope e) → HasMeaning t w vs e
  body_means vs scope e h s k = expr_means vs scope [] e s k (held w h)
    where
      held : (w : Owner) → HasArguments t w e → Holds w (args_from t (op_of w) [] e)
      held (OfEquation op args) h = ([], h ∙ sym (append-nil (args_in t op e)))
      held (OfProduction left parts) h = tt
      held OfNothing h = tt
