-- No equation of a record has the expression of a function, a transformation or an input production.
use Rattle.std.proofs.Common.{◌≡◌, ℕ, suc, ◌+◌, ◌<◌, ◌≤◌, ◌≢◌, List, [], ◌∷◌, ◌++◌, length, Option, Some, None, Result, Ok, Err, refl, sym, ap, subst, ◌∙◌, arith, length-append}
use Rattle.std.specs.List.{AllByRecursion as Each, All}
use Rattle.std.proofs.lemmas.List.Elements.{All-append, All-from_recursion}
use Rattle.sg_kinds.specs.Dependencies.{occurrence}
use Rattle.sg_kinds.specs.Instances.{below}
use Rattle.sg_kinds.specs.Specification.{args_of, attrs_of}
use Rattle.sg_kinds.specs.Values.{Bytes}
use Rattle.sg_kinds.specs.declared.spec.Attr.{Attr}
use Rattle.sg_kinds.specs.Lexemes.{Lexeme}
use Rattle.sg_kinds.specs.declared.fault.SpecFault.{SpecFault}
use Rattle.sg_kinds.specs.declared.spec.Function.{Function}
use Rattle.sg_kinds.specs.declared.spec.Occurrence.{Occurrence}
use Rattle.sg_kinds.specs.declared.spec.Production.{Production}
use Rattle.sg_kinds.specs.declared.spec.Rule.{Rule}
use Rattle.sg_kinds.specs.declared.spec.Spec.{Spec}
use Rattle.sg_kinds.specs.declared.spec.Transform.{Transform}
use Rattle.sg_ast.specs.declared.name.Name.{Name}
use Rattle.sg_ast.specs.declared.name.Typed.{Typed}
use Rattle.sg_ast.specs.Declarations as decl
use Rattle.sg_ast.specs.Declarations.{Decl, Equation, Right}
use Rattle.sg_names.specs.declared.heads.Head.{Head}
use Rattle.sg_names.specs.declared.table.Table.{Table}
use Rattle.sg_names.specs.Lookups.{operator_at}
use Rattle.sg_names.specs.Names.{map_from, phyla_in}
use Rattle.sg_names.specs.Names as written
use Rattle.sg_typing.specs.Bodies.{expr_count, exprs_at, exprs_in}
use Rattle.sg_typing.specs.declared.bodies.TypedExpr.{TypedExpr}
use Rattle.sg_equations.specs.Targets.{target_there}
use Rattle.sg_equations.specs.RulesOf.{ruled, rules_from, rules_under, rules_at, rules_in}
use Rattle.sg_record.specs.Record.{each_from, transforms_at, production, productions_at, bodies_in, with_bodies, record_of}
use Rattle.sg_remote.specs.Handing.{argument_rules, handed_by, handing, operator_rules, slot_rules, source}
use Rattle.sg_remote.specs.Longer.{names_of}
use Rattle.sg_record.proofs.Aligned.{exprs_counted}
use Rattle.sg_record.proofs.FunctionsTyped.{made_at, functions_made}
use Rattle.sg_record.proofs.Lists.{each_append, each_both, each_weaker}
use Rattle.sg_resolve.proofs.ShapeLists.{each_always, each_flat}
use Rattle.sg_load.specs.OwnExprs.{HasOwnExprs}
use Rattle.sg_load.proofs.FarAttrs.{long_is}
use Rattle.sg_load.specs.SpecOf.{equations_of, spec_with}
use Rattle.sg_load.specs.Trees.{trees_in}
use Rattle.sg_load.specs.Verdict.{IsOfTrees, IsVerdict}
use Rattle.sg_load.specs.Verdict.Verdict.{Accepted}

-- an expression is one of the declaration before which there are k
abbrev IsWithin : ℕ → Decl → ℕ → Type 0
IsWithin k d e = (k ≤ e) × (e < k + expr_count d)

-- what declarations give has their expressions, so none from before them
module _ {A : Type 0} (f : ℕ → Decl → List A) (p : A → ℕ) (own : (k : ℕ) (d : Decl) → Each (λ x. IsWithin k d (p x)) (f k d)) where
  from_on : (k : ℕ) (ds : List Decl) → Each (λ x. k ≤ p x) (each_from f k ds)
  from_on k [] = tt
  from_on k (d ∷ ds) =
      each_append (λ x. k ≤ p x) (f k d) (each_from f (k + expr_count d) ds)
      (each_weaker (λ x. IsWithin k d (p x)) (λ x. k ≤ p x) (f k d) (λ x h. h.0) (own k d))
      (each_weaker (λ x. k + expr_count d ≤ p x) (λ x. k ≤ p x) (each_from f (k + expr_count d) ds) (λ x h. omega (arith, h)) (from_on (k + expr_count d) ds))

-- where no declaration gives both, they have no expression in common
module _ {A B : Type 0} (f : ℕ → Decl → List A) (g : ℕ → Decl → List B) (p : A → ℕ) (q : B → ℕ) (own : (k : ℕ) (d : Decl) → Each (λ x. IsWithin k d (p x)) (f k d))
    (others : (k : ℕ) (d : Decl) → Each (λ y. IsWithin k d (q y)) (g k d)) (alone : (k : ℕ) (d : Decl) → Each (λ x. g k d ≡ []) (f k d)) where
  here : (k : ℕ) (d : Decl) (ds : List Decl) (x : A) → IsWithin k d (p x) → g k d ≡ [] → Each (λ y. p x ≡ q y → ⊥) (g k d ++ each_from g (k + expr_count d) ds)
  here k d ds x is none =
      subst (λ (l : List B). Each (λ y. p x ≡ q y → ⊥) (l ++ each_from g (k + expr_count d) ds)) (sym none)
      (each_weaker (λ y. k + expr_count d ≤ q y) (λ y. p x ≡ q y → ⊥) (each_from g (k + expr_count d) ds) (λ y low e. omega (arith, is, low, e)) (from_on g q others (k + expr_count d) ds))

  behind : (k : ℕ) (d : Decl) (ds : List Decl) (x : A) → k + expr_count d ≤ p x → Each (λ y. p x ≡ q y → ⊥) (each_from g (k + expr_count d) ds) → Each (λ y. p x ≡ q y → ⊥) (g k d ++ each_from g (k + expr_count d) ds)
  behind k d ds x low rest =
      each_append (λ y. p x ≡ q y → ⊥) (g k d) (each_from g (k + expr_count d) ds)
      (each_weaker (λ y. IsWithin k d (q y)) (λ y. p x ≡ q y → ⊥) (g k d) (λ y is e. omega (arith, is, low, e)) (others k d)) rest

  all_apart : (k : ℕ) (ds : List Decl) → Each (λ x. Each (λ y. p x ≡ q y → ⊥) (each_from g k ds)) (each_from f k ds)
  all_apart k [] = tt
  all_apart k (d ∷ ds) =
      each_append (λ x. Each (λ y. p x ≡ q y → ⊥) (g k d ++ each_from g (k + expr_count d) ds)) (f k d) (each_from f (k + expr_count d) ds)
      (each_weaker (λ x. IsWithin k d (p x) × (g k d ≡ [])) (λ x. Each (λ y. p x ≡ q y → ⊥) (g k d ++ each_from g (k + expr_count d) ds)) (f k d) (λ x h. here k d ds x h.0 h.1)
      (each_both (λ x. IsWithin k d (p x)) (λ x. g k d ≡ []) (f k d) (own k d) (alone k d)))
      (each_weaker (λ x. (k + expr_count d ≤ p x) × Each (λ y. p x ≡ q y → ⊥) (each_from g (k + expr_count d) ds)) (λ x. Each (λ y. p x ≡ q y → ⊥) (g k d ++ each_from g (k + expr_count d) ds))
      (each_from f (k + expr_count d) ds) (λ x h. behind k d ds x h.0 h.1)
      (each_both (λ x. k + expr_count d ≤ p x) (λ x. Each (λ y. p x ≡ q y → ⊥) (each_from g (k + expr_count d) ds)) (each_from f (k + expr_count d) ds)
      (from_on f p own (k + expr_count d) ds) (all_apart (k + expr_count d) ds)))

-- the equations that hand far attributes down have an expression of their own, behind all others
module _ (t : Table) (e op : ℕ) where
  slots_handed : (at slot : ℕ) (attrs : List Attr) → Each (λ (r : Rule). r.expr ≡ e) (slot_rules t e op at slot attrs)
  slots_handed at slot [] = tt
  slots_handed at slot (a ∷ attrs) =
      each_append (λ (r : Rule). r.expr ≡ e) (handed_by e op (occurrence at slot) (source t op a)) (slot_rules t e op at (suc slot) attrs) (by (source t op a)) (slots_handed at (suc slot) attrs)
    where
      by : (o : Option ℕ) → Each (λ (r : Rule). r.expr ≡ e) (handed_by e op (occurrence at slot) o)
      by None = tt
      by (Some s) = (refl, tt)

  arguments_handed : (k : ℕ) (qs : List ℕ) → Each (λ (r : Rule). r.expr ≡ e) (argument_rules t e op k qs)
  arguments_handed k [] = tt
  arguments_handed k (q ∷ qs) =
      each_append (λ (r : Rule). r.expr ≡ e) (slot_rules t e op (suc k) 0 (attrs_of t.phyla q)) (argument_rules t e op (suc k) qs) (slots_handed (suc k) 0 (attrs_of t.phyla q)) (arguments_handed (suc k) qs)

all_handed : (t : Table) (e : ℕ) → Each (λ (r : Rule). r.expr ≡ e) (handing t e)
all_handed t e = each_flat (λ (r : Rule). r.expr ≡ e) (operator_rules t e) (below (length t.ops)) (each_always (λ op. Each (λ (r : Rule). r.expr ≡ e) (operator_rules t e op)) (λ op. arguments_handed t e op 0 (args_of t.ops op)) (below (length t.ops)))

module _ {A : Type 0} (t : Table) (f : ℕ → Decl → List A) (p : A → ℕ) (own : (k : ℕ) (d : Decl) → Each (λ x. IsWithin k d (p x)) (f k d)) where
  from_under : (k : ℕ) (ds : List Decl) → Each (λ x. p x < k + length (exprs_in t ds)) (each_from f k ds)
  from_under k [] = tt
  from_under k (d ∷ ds) =
      let count : length (exprs_in t (d ∷ ds)) ≡ expr_count d + length (exprs_in t ds) = length-append (exprs_at t d) (exprs_in t ds) ∙ ap (λ n. n + length (exprs_in t ds)) (exprs_counted t d) in
      each_append (λ x. p x < k + length (exprs_in t (d ∷ ds))) (f k d) (each_from f (k + expr_count d) ds)
      (each_weaker (λ x. IsWithin k d (p x)) (λ x. p x < k + length (exprs_in t (d ∷ ds))) (f k d) (λ x h. omega (arith, h, count)) (own k d))
      (each_weaker (λ x. p x < k + expr_count d + length (exprs_in t ds)) (λ x. p x < k + length (exprs_in t (d ∷ ds))) (each_from f (k + expr_count d) ds) (λ x h. omega (arith, h, count)) (from_under (k + expr_count d) ds))

  handed_apart : (ds : List Decl) → All (λ (r : Rule). All (λ x. r.expr ≢ p x) (each_from f 0 ds)) (handing t (length (exprs_in t ds)))
  handed_apart ds =
      All-from_recursion (λ (r : Rule). All (λ x. r.expr ≢ p x) (each_from f 0 ds)) (handing t (length (exprs_in t ds)))
      (each_weaker (λ (r : Rule). r.expr ≡ length (exprs_in t ds)) (λ (r : Rule). All (λ x. r.expr ≢ p x) (each_from f 0 ds)) (handing t (length (exprs_in t ds)))
      (λ r same. All-from_recursion (λ x. r.expr ≢ p x) (each_from f 0 ds) (each_weaker (λ x. p x < 0 + length (exprs_in t ds)) (λ x. r.expr ≢ p x) (each_from f 0 ds) (λ x low e. omega (arith, low, same, e)) (from_under 0 ds)))
      (all_handed t (length (exprs_in t ds))))

-- equations
ruled_own : (exprs : List TypedExpr) (op k n : ℕ) (o : Option Occurrence) → 1 ≤ n → Each (λ (r : Rule). (k ≤ r.expr) × (r.expr < k + n)) (ruled exprs op k o)
ruled_own exprs op k n None some = tt
ruled_own exprs op k n (Some o) some = ((omega arith, omega arith), tt)

equations_own : (t : Table) (exprs : List TypedExpr) (op k : ℕ) (es : List Equation) → Each (λ (r : Rule). (k ≤ r.expr) × (r.expr < k + length es)) (rules_from t exprs op k es)
equations_own t exprs op k [] = tt
equations_own t exprs op k (e ∷ es) =
    each_append (λ (r : Rule). (k ≤ r.expr) × (r.expr < k + length (e ∷ es))) (ruled exprs op k (target_there t op e.target)) (rules_from t exprs op (suc k) es)
    (ruled_own exprs op k (length (e ∷ es)) (target_there t op e.target) (omega arith))
    (each_weaker (λ (r : Rule). (suc k ≤ r.expr) × (r.expr < suc k + length es)) (λ (r : Rule). (k ≤ r.expr) × (r.expr < k + length (e ∷ es))) (rules_from t exprs op (suc k) es)
    (λ r h. (omega (arith, h), omega (arith, h))) (equations_own t exprs op (suc k) es))

rules_own : (t : Table) (exprs : List TypedExpr) (k : ℕ) (d : Decl) → Each (λ (r : Rule). IsWithin k d r.expr) (rules_at t exprs k d)
rules_own t exprs k (decl.Equations n op locals es) = by (operator_at t n op)
  where
    by : (o : Option ℕ) → Each (λ (r : Rule). (k ≤ r.expr) × (r.expr < k + length es)) (rules_under t exprs k es o)
    by None = tt
    by (Some j) = equations_own t exprs j k es
rules_own t exprs k d = tt

rules_each : (t : Table) (exprs : List TypedExpr) (k : ℕ) (ds : List Decl) → rules_in t exprs k ds ≡ each_from (rules_at t exprs) k ds
rules_each t exprs k [] = refl
rules_each t exprs k (d ∷ ds) = ap (λ (l : List Rule). rules_at t exprs k d ++ l) (rules_each t exprs (k + expr_count d) ds)

-- functions, transformations, input productions
functions_own : (phyla : List Head) (k : ℕ) (d : Decl) → Each (λ (f : Function). IsWithin k d f.body) (made_at phyla k d)
functions_own phyla k (decl.Function of n params e) = ((omega arith, omega arith), tt)
functions_own phyla k d = tt

written_each : (ds : List Decl) → with_bodies (bodies_in 0 ds) (written.names_of ds).functions ≡ each_from (made_at (phyla_in ds)) 0 ds
unfolding written.names_of
written_each ds = functions_made (phyla_in ds) 0 ds

functions_each : (ds : List Decl) → with_bodies (bodies_in 0 ds) (names_of ds).functions ≡ each_from (made_at (phyla_in ds)) 0 ds
functions_each ds = ap (λ (t : Table). with_bodies (bodies_in 0 ds) t.functions) (long_is ds) ∙ written_each ds

transforms_own : (t : Table) (k : ℕ) (d : Decl) → Each (λ (x : Transform). IsWithin k d x.expr) (transforms_at t k d)
transforms_own t k (decl.Transform n title q e) = ((omega arith, omega arith), tt)
transforms_own t k d = tt

rights_own : (t : Table) (n : Name) (k : ℕ) (rights : List Right) → Each (λ (s : Production). (k ≤ s.expr) × (s.expr < k + length rights)) (map_from (production t n) k rights)
rights_own t n k [] = tt
rights_own t n k (r ∷ rights) = (
  (omega arith, omega arith),
  each_weaker (λ (s : Production). (suc k ≤ s.expr) × (s.expr < suc k + length rights)) (λ (s : Production). (k ≤ s.expr) × (s.expr < k + length (r ∷ rights))) (map_from (production t n) (suc k) rights)
      (λ s h. (omega (arith, h), omega (arith, h))) (rights_own t n (suc k) rights),
)

productions_own : (t : Table) (k : ℕ) (d : Decl) → Each (λ (s : Production). IsWithin k d s.expr) (productions_at t k d)
productions_own t k (decl.Productions n rights) = rights_own t n k rights
productions_own t k d = tt

-- no declaration of equations gives any of them
module _ {A : Type 0} (t : Table) (exprs : List TypedExpr) (g : ℕ → Decl → List A) (none : (k : ℕ) (n op : Name) (locals : List Typed) (es : List Equation) → g k (decl.Equations n op locals es) ≡ []) where
  equations_alone : (k : ℕ) (d : Decl) → Each (λ (r : Rule). g k d ≡ []) (rules_at t exprs k d)
  equations_alone k (decl.Equations n op locals es) =
      each_always (λ (r : Rule). g k (decl.Equations n op locals es) ≡ []) (λ r. none k n op locals es) (rules_at t exprs k (decl.Equations n op locals es))
  equations_alone k d = tt

  rules_apart : (q : A → ℕ) → ((k : ℕ) (d : Decl) → Each (λ x. IsWithin k d (q x)) (g k d)) → (ds : List Decl) → All (λ (r : Rule). All (λ x. r.expr ≢ q x) (each_from g 0 ds)) (rules_in t exprs 0 ds)
  rules_apart q own ds =
      All-from_recursion (λ (r : Rule). All (λ x. r.expr ≢ q x) (each_from g 0 ds)) (rules_in t exprs 0 ds)
      (each_weaker (λ (r : Rule). Each (λ x. r.expr ≢ q x) (each_from g 0 ds)) (λ (r : Rule). All (λ x. r.expr ≢ q x) (each_from g 0 ds)) (rules_in t exprs 0 ds)
      (λ r h. All-from_recursion (λ x. r.expr ≢ q x) (each_from g 0 ds) h)
      (subst (Each (λ (r : Rule). Each (λ x. r.expr ≢ q x) (each_from g 0 ds))) (sym (rules_each t exprs 0 ds))
      (all_apart (rules_at t exprs) g (λ (r : Rule). r.expr) q (rules_own t exprs) own equations_alone 0 ds)))

both_apart : {A : Type 0} (q : A → ℕ) (xs : List A) (rs hs : List Rule) → All (λ (r : Rule). All (λ x. r.expr ≢ q x) xs) rs → All (λ (r : Rule). All (λ x. r.expr ≢ q x) xs) hs → All (λ (r : Rule). All (λ x. r.expr ≢ q x) xs) (rs ++ hs)
both_apart q xs rs hs a b = All-append (λ (r : Rule). All (λ x. r.expr ≢ q x) xs) rs hs a b

spec_own : (ds : List Decl) (lexemes : List Lexeme) → HasOwnExprs (spec_with ds lexemes)
unfolding record_of
spec_own ds lexemes =
    let t = names_of ds in
    let rs = rules_in t (exprs_in t ds) 0 ds in
    let hs = handing t (length (exprs_in t ds)) in
    record {
      functions = subst (λ (fs : List Function). All (λ (r : Rule). All (λ (f : Function). r.expr ≢ f.body) fs) (equations_of ds)) (sym (functions_each ds))
          (both_apart (λ (f : Function). f.body) (each_from (made_at (phyla_in ds)) 0 ds) rs hs
          (rules_apart t (exprs_in t ds) (made_at (phyla_in ds)) (λ k n op locals es. refl) (λ (f : Function). f.body) (functions_own (phyla_in ds)) ds)
          (handed_apart t (made_at (phyla_in ds)) (λ (f : Function). f.body) (functions_own (phyla_in ds)) ds));
      transforms = both_apart (λ (x : Transform). x.expr) (each_from (transforms_at t) 0 ds) rs hs
          (rules_apart t (exprs_in t ds) (transforms_at t) (λ k n op locals es. refl) (λ (x : Transform). x.expr) (transforms_own t) ds) (handed_apart t (transforms_at t) (λ (x : Transform). x.expr) (transforms_own t) ds);
      productions = both_apart (λ (x : Production). x.expr) (each_from (productions_at t) 0 ds) rs hs
          (rules_apart t (exprs_in t ds) (productions_at t) (λ k n op locals es. refl) (λ (x : Production). x.expr) (productions_own t) ds) (handed_apart t (productions_at t) (λ (x : Production). x.expr) (productions_own t) ds);
    }

judged_own : (r : Result (List Decl) SpecFault) (spec : Spec) → IsOfTrees r (Accepted spec) → HasOwnExprs spec
judged_own (Ok ds) spec v = subst HasOwnExprs (sym v.1.made) (spec_own ds v.1.lexemes)
judged_own (Err f) spec v = absurd (cc)

pub accepted_own : (bytes : Bytes) (spec : Spec) → IsVerdict bytes (Accepted spec) → HasOwnExprs spec
accepted_own bytes spec v = judged_own (trees_in bytes) spec v
