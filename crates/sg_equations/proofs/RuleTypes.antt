-- The rule of an equation without a mismatch is well typed.
use Rattle.std.proofs.Common.{◌≡◌, refl, sym, ap, subst, ◌∙◌, arith, ℕ, suc, ◌+◌, true, false, List, [], ◌∷◌, ◌++◌, map, length, Option, Some, None, slice_get}
use Rattle.std.specs.Prelude.{option_map, option_and_then, unwrap_or}
use Rattle.std.specs.List.{AllByRecursion}
use Rattle.std.proofs.lemmas.List.{append-nil, length-map}
use Rattle.std.proofs.lemmas.List.Elements.{recursion_from_All}
use Rattle.std.proofs.lemmas.Option.{slice_get-map}
use Rattle.sg_kinds.specs.Sound.{is_rule_typed}
use Rattle.sg_kinds.specs.Typing.{is_found, is_typed, slot_type, type_of, types_at}
use Rattle.sg_kinds.specs.Expressions as kept
use Rattle.sg_kinds.specs.declared.spec.Occurrence.{Occurrence}
use Rattle.sg_kinds.specs.declared.spec.Rule.{Rule}
use Rattle.sg_kinds.specs.declared.spec.Spec.{Spec}
use Rattle.sg_kinds.proofs.Elementary.{slice_get-before, slice_get-behind}
use Rattle.sg_ast.specs.Declarations.{Decl, Equation, Equations, Productions}
use Rattle.sg_ast.specs.FirstFault.{first}
use Rattle.sg_ast.specs.declared.decl.Target.{Target}
use Rattle.sg_ast.specs.declared.decl.Target.TheVariants as written
use Rattle.sg_ast.specs.Written.{AreWritten}
use Rattle.sg_ast.proofs.FirstLaws.{neither}
use Rattle.sg_names.specs.Drafted.{HasTable, drafted}
use Rattle.sg_names.specs.Lookups.{operator_at}
use Rattle.sg_names.specs.declared.table.Table.{Table}
use Rattle.sg_names.proofs.DraftedLaws.{slot_kept, types_kept}
use Rattle.sg_types.specs.Bindings.{OfEquation, local_slot}
use Rattle.sg_types.specs.Expressions.{recorded}
use Rattle.sg_typing.specs.Arguments.{args_in}
use Rattle.sg_typing.specs.Bodies.{equation_typed, equation_mismatch, exprs_at, exprs_in, expr_count, mismatch_at_decl, target_type}
use Rattle.sg_typing.specs.Bodies as bodies
use Rattle.sg_typing.specs.Written.{HasLists}
use Rattle.sg_typing.specs.declared.bodies.TypedExpr.{TypedExpr}
use Rattle.sg_typing.proofs.ArgsTyped.{args_typed}
use Rattle.sg_typing.proofs.BodyTyped.{body_kept}
use Rattle.sg_typing.proofs.TableFacts.{equation_outside}
use Rattle.sg_equations.specs.RulesOf.{args_of, ruled, rules_from, rules_under, rules_at, rules_in}
use Rattle.sg_equations.specs.Targets.{target_there, own}
use Rattle.sg_equations.specs.Literals.{HasLiterals}

-- what an equation defines has the type that its target has
target_is : (t : Table) (op : ℕ) (target : Target) (o : Occurrence) → target_there t op target ≡ Some o → target_type t op target ≡ slot_type (drafted t) op o.at o.slot
target_is t op (written.Attribute r) o h = ap (bodies.reference_type t op) h
target_is t op (written.Local n) o h = by (local_slot t op n.text) h
  where
    by : (s : Option ℕ) → option_map own s ≡ Some o → option_and_then (slot_type (drafted t) op 0) s ≡ slot_type (drafted t) op o.at o.slot
    by None f = cc
    by (Some s) f = let same : own s ≡ o = cc in ap (λ (x : Occurrence). slot_type (drafted t) op x.at x.slot) same

-- how many expressions a declaration has
count_is : (t : Table) (d : Decl) → length (exprs_at t d) ≡ expr_count d
count_is t (Equations p op locals es) = length-map es (equation_typed t (bodies.operator t p op))
count_is t (Productions n rights) = length-map rights (bodies.right_typed t n)
count_is t d = refl

module _ (t : Table) (spec : Spec) (table : HasTable t spec) (lists : HasLists t) (exprs : List TypedExpr) (more : List kept.Expr) (have : spec.exprs ≡ map (λ (x : TypedExpr). x.expr) exprs ++ more) where
  -- the rule of an equation whose expression stands at k
  one_typed : (op k : ℕ) (e : Equation) (o : Occurrence) → AreWritten e.expr → equation_mismatch t op e ≡ None → slice_get exprs k ≡ Some (equation_typed t op e) → target_there t op e.target ≡ Some o
      → is_rule_typed spec (record { op = op; target = o; args = args_of exprs k; expr = k }) ≡ true
  one_typed op k e o ok fits at means =
      let args : List Occurrence = args_in t op e.expr in
      let G = args_typed t op e.expr in
      let b = body_kept t spec table lists (OfEquation op args) G.0 (equation_outside t op args G.0 G.1) [] [] refl (target_type t op e.target) e.expr ok fits in
      let tree : kept.Expr = recorded t (OfEquation op args) [] e.expr in
      let named : args_of exprs k ≡ args = ap (λ (x : Option TypedExpr). unwrap_or (option_map (λ (y : TypedExpr). y.args) x) []) at in
      let slot : slot_type spec op o.at o.slot ≡ Some b.0 = slot_kept t spec table op o.at o.slot ∙ sym (target_is t op e.target o means) ∙ b.1 in
      let types : types_at spec op (args_of exprs k) ≡ Some G.0 = ap (types_at spec op) named ∙ types_kept t spec table op args ∙ G.1 in
      let stands : slice_get spec.exprs k ≡ Some tree =
      ap (λ (l : List kept.Expr). slice_get l k) have
      ∙ slice_get-before (map (λ (x : TypedExpr). x.expr) exprs) more k tree (slice_get-map (λ (x : TypedExpr). x.expr) exprs k ∙ ap (option_map (λ (x : TypedExpr). x.expr)) at) in
      let right : is_found spec b.0 (type_of spec G.0 tree) ≡ true = ap (λ (l : List ℕ). is_found spec b.0 (type_of spec l tree)) (sym (append-nil G.0)) ∙ b.2 in
      let typed : is_typed spec G.0 k b.0 ≡ true = ap (λ (x : Option kept.Expr). is_found spec b.0 (option_and_then (type_of spec G.0) x)) stands ∙ right in
      ap (λ (x : Option ℕ). unwrap_or (option_and_then (λ p. option_map (λ (l : List ℕ). is_typed spec l k p) (types_at spec op (args_of exprs k))) x) false) slot
      ∙ ap (λ (x : Option (List ℕ)). unwrap_or (option_map (λ (l : List ℕ). is_typed spec l k b.0) x) false) types
      ∙ typed

  abbrev pub AreTyped : List Rule → Type 0
  AreTyped rs = AllByRecursion (λ (r : Rule). is_rule_typed spec r ≡ true) rs

  -- the expressions from k on are these
  abbrev pub Stand : ℕ → List TypedExpr → Type 0
  Stand k es = (i : ℕ) → slice_get exprs (k + i) ≡ slice_get es i

  stand_head : (k : ℕ) (x : TypedExpr) (xs : List TypedExpr) → Stand k (x ∷ xs) → slice_get exprs k ≡ Some x
  stand_head k x xs h = ap (slice_get exprs) (let e : k ≡ k + 0 = omega arith in e) ∙ h 0

  stand_tail : (k : ℕ) (x : TypedExpr) (xs : List TypedExpr) → Stand k (x ∷ xs) → Stand (suc k) xs
  stand_tail k x xs h i = ap (slice_get exprs) (let e : suc k + i ≡ k + suc i = omega arith in e) ∙ h (suc i)

  stand_behind : (k n : ℕ) (xs ys : List TypedExpr) → length xs ≡ n → Stand k (xs ++ ys) → Stand (k + n) ys
  stand_behind k n xs ys same h i = ap (slice_get exprs) (let e : (k + n) + i ≡ k + (length xs + i) = omega (arith, same) in e) ∙ h (length xs + i) ∙ slice_get-behind xs ys i

  from_typed : (op k : ℕ) (es : List Equation) (rest : List TypedExpr) → AllByRecursion (λ (e : Equation). AreWritten e.expr) es → first (equation_mismatch t op) es ≡ None → Stand k (map (equation_typed t op) es ++ rest)
      → AreTyped (rules_from t exprs op k es)
  from_typed op k [] rest ok fits h = tt
  from_typed op k (e ∷ es) rest ok fits h =
      by (from_typed op (suc k) es rest ok.1 parts.1 (stand_tail k (equation_typed t op e) (map (equation_typed t op) es ++ rest) h)) (target_there t op e.target) refl
    where
      parts : (equation_mismatch t op e ≡ None) × (first (equation_mismatch t op) es ≡ None)
      parts = neither (equation_mismatch t op e) (first (equation_mismatch t op) es) fits

      by : AreTyped (rules_from t exprs op (suc k) es) → (o : Option Occurrence) → target_there t op e.target ≡ o → AreTyped (ruled exprs op k o ++ rules_from t exprs op (suc k) es)
      by others None means = others
      by others (Some o) means = (one_typed op k e o ok.0 parts.0 (stand_head k (equation_typed t op e) (map (equation_typed t op) es ++ rest) h) means, others)

  at_typed : (k : ℕ) (d : Decl) (rest : List TypedExpr) → HasLiterals d → mismatch_at_decl t d ≡ None → Stand k (exprs_at t d ++ rest) → AreTyped (rules_at t exprs k d)
  at_typed k (Equations p op locals es) rest ok fits h = by (operator_at t p op) refl
    where
      by : (o : Option ℕ) → operator_at t p op ≡ o → AreTyped (rules_under t exprs k es o)
      by None e = tt
      by (Some n) e =
          let same : bodies.operator t p op ≡ n = ap (λ (o : Option ℕ). unwrap_or o 0) e in
          from_typed n k es rest (recursion_from_All (λ (q : Equation). AreWritten q.expr) es ok)
          (subst (λ m. first (equation_mismatch t m) es ≡ None) same fits) (subst (λ m. Stand k (map (equation_typed t m) es ++ rest)) same h)
  at_typed k d rest ok fits h = tt

  all_append : (rs ss : List Rule) → AreTyped rs → AreTyped ss → AreTyped (rs ++ ss)
  all_append [] ss h k = k
  all_append (r ∷ rs) ss h k = (h.0, all_append rs ss h.1 k)

  pub in_typed : (k : ℕ) (ds : List Decl) → AllByRecursion HasLiterals ds → first (mismatch_at_decl t) ds ≡ None → Stand k (exprs_in t ds) → AreTyped (rules_in t exprs k ds)
  in_typed k [] ok fits h = tt
  in_typed k (d ∷ ds) ok fits h =
      let parts = neither (mismatch_at_decl t d) (first (mismatch_at_decl t) ds) fits in
      all_append (rules_at t exprs k d) (rules_in t exprs (k + expr_count d) ds)
      (at_typed k d (exprs_in t ds) ok.0 parts.0 h)
      (in_typed (k + expr_count d) ds ok.1 parts.1 (stand_behind k (expr_count d) (exprs_at t d) (exprs_in t ds) (count_is t d) h))
