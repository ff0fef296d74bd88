-- The rules of the record are complete and well typed where no row of equations or types has a fault.
use Rattle.std.proofs.Common.{◌≡◌, refl, sym, ap, subst, ◌∙◌, arith, ℕ, zero, suc, ◌+◌, ◌<◌, Bool, true, false, cond, not, List, [], ◌∷◌, ◌++◌, map, length, Some, None, slice_get, zero-add}
use Rattle.std.specs.Prelude.{IsTrue}
use Rattle.std.specs.List.{All, AllByRecursion, count_by}
use Rattle.std.proofs.lemmas.Bool.{and_parts}
use Rattle.std.proofs.lemmas.List.{length-map}
use Rattle.std.proofs.lemmas.List.Elements.{All-from_recursion, All-same, recursion_from_All}
use Rattle.std.proofs.lemmas.List.Sums.{sum_by-append}
use Rattle.sg_kinds.specs.Dependencies.{occurrence}
use Rattle.sg_kinds.specs.Expressions.{Named}
use Rattle.sg_kinds.specs.Far.{is_far}
use Rattle.sg_kinds.specs.Instances.{defines, rule_for}
use Rattle.sg_kinds.specs.Sound.{HasRules, is_owed, is_rule_typed}
use Rattle.sg_kinds.specs.Specification.{attrs_of, args_of}
use Rattle.sg_kinds.specs.declared.spec.Attr.{Attr}
use Rattle.sg_kinds.specs.declared.spec.Rule.{Rule}
use Rattle.sg_kinds.specs.declared.spec.Spec.{Spec}
use Rattle.sg_kinds.proofs.Elementary.{and_true, slice_get-seam}
use Rattle.sg_ast.specs.Declarations.{Decl, Equation, Equations}
use Rattle.sg_ast.specs.Written.{AreWritten, IsWritten, HaveWritten}
use Rattle.sg_names.specs.Drafted.{HasTable, drafted}
use Rattle.sg_names.specs.declared.table.Table.{Table}
use Rattle.sg_names.proofs.DraftedLaws.{ops_count, owed_kept}
use Rattle.sg_remote.specs.Handing.{source, rule, handing}
use Rattle.sg_typing.specs.Bodies.{exprs_in, first_mismatch}
use Rattle.sg_typing.specs.Written.{HasLists}
use Rattle.sg_typing.specs.declared.bodies.TypedExpr.{TypedExpr}
use Rattle.sg_equations.specs.Complete.{incomplete}
use Rattle.sg_equations.specs.Handed.{HasSource, AreHandedDown}
use Rattle.sg_equations.specs.Literals.{HasLiterals}
use Rattle.sg_equations.specs.Owed.{is_far_there, owes}
use Rattle.sg_equations.specs.RulesOf.{rules_in}
use Rattle.sg_equations.specs.Targets.{defined_in}
use Rattle.sg_equations.proofs.Completed.{defined_owed, defined_once}
use Rattle.sg_equations.proofs.HandedOnce.{IsOnly, each_append, each_weaker, only_behind, only_handing, count_none, count_only, find_only, source_far}
use Rattle.sg_equations.proofs.HandedRules.{arg_far, far_there, none_owed, none_handed, left_not_owed, handed_owed, handed_typed}
use Rattle.sg_equations.proofs.RuleKeys.{in_keys, same_all, same_count}
use Rattle.sg_equations.proofs.RuleTypes.{in_typed}

-- written declarations have values as literals
literals_at : (d : Decl) → IsWritten d → HasLiterals d
literals_at (Equations n op locals es) h = All-from_recursion (λ (q : Equation). AreWritten q.expr) es h
literals_at d h = tt

each_literals : (ds : List Decl) → HaveWritten ds → AllByRecursion HasLiterals ds
each_literals [] h = tt
each_literals (d ∷ ds) h = (literals_at d h.0, each_literals ds h.1)

pub written_literals : (ds : List Decl) → HaveWritten ds → All HasLiterals ds
written_literals ds h = All-from_recursion HasLiterals ds (each_literals ds h)

module _ (t : Table) (ds : List Decl) (complete : incomplete t ds ≡ None) where
  -- the written rules define what equations owe
  ruled_owed : AllByRecursion (λ (r : Rule). owes t r.op r.target ≡ true) (rules_in t (exprs_in t ds) 0 ds)
  ruled_owed = same_all (λ x. owes t x.0 x.1 ≡ true) (rules_in t (exprs_in t ds) 0 ds) (defined_in t ds) (in_keys t (exprs_in t ds) 0 ds) (defined_owed t ds complete)

  -- and of a far attribute of an argument there is the handing rule alone
  only_handed : (e op k q s z : ℕ) (a : Attr) → slice_get (args_of t.ops op) k ≡ Some q → slice_get (attrs_of t.phyla q) s ≡ Some a → source t op a ≡ Some z
      → IsOnly (defines op (occurrence (suc k) s)) (rule e op (occurrence (suc k) s) z) (rules_in t (exprs_in t ds) 0 ds ++ handing t e)
  only_handed e op k q s z a arg at is =
      only_behind (defines op (occurrence (suc k) s)) (rule e op (occurrence (suc k) s) z) (rules_in t (exprs_in t ds) 0 ds) (handing t e)
      (none_owed t op (occurrence (suc k) s) (rules_in t (exprs_in t ds) 0 ds) (arg_far t op k q s a arg at (source_far t op a z is)) ruled_owed)
      (only_handing t e op k q s z a arg at is)

pub handed_there : (t : Table) (ds : List Decl) (e op k q s : ℕ) (a : Attr) → incomplete t ds ≡ None → slice_get (args_of t.ops op) k ≡ Some q → slice_get (attrs_of t.phyla q) s ≡ Some a → is_far a ≡ true
    → (x : HasSource t op a) → rule_for (rules_in t (exprs_in t ds) 0 ds ++ handing t e) op (occurrence (suc k) s) ≡ Some (rule e op (occurrence (suc k) s) x.slot)
handed_there t ds e op k q s a complete arg at far x =
    find_only (defines op (occurrence (suc k) s)) (rule e op (occurrence (suc k) s) x.slot) (rules_in t (exprs_in t ds) 0 ds ++ handing t e)
    (only_handed t ds complete e op k q s x.slot a arg at x.is)

module _ (t : Table) (ds : List Decl) (spec : Spec) (table : HasTable t spec) (lists : HasLists t) (places : length t.op_places ≡ length t.ops) (written : All HasLiterals ds) (handed : AreHandedDown t)
    (rules : spec.rules ≡ rules_in t (exprs_in t ds) 0 ds ++ handing t (length (exprs_in t ds))) (exprs : spec.exprs ≡ map (λ (x : TypedExpr). x.expr) (exprs_in t ds) ++ Named 0 ∷ [])
    (fits : first_mismatch t ds ≡ None) (complete : incomplete t ds ≡ None) where
  -- the written rules, the number of the expression of the others, and these
  abbrev ruled : List Rule
  ruled = rules_in t (exprs_in t ds) 0 ds

  abbrev last : ℕ
  last = length (exprs_in t ds)

  both : (P : Rule → Type 0) → AllByRecursion P ruled → AllByRecursion P (handing t last) → All P spec.rules
  both P h k = All-same P spec.rules (ruled ++ handing t last) rules (All-from_recursion P (ruled ++ handing t last) (each_append P ruled (handing t last) h k))

  counted : (op k slot : ℕ) → count_by (defines op (occurrence k slot)) (ruled ++ handing t last) ≡ 1 → count_by (defines op (occurrence k slot)) spec.rules ≡ 1
  counted op k slot h = ap (count_by (defines op (occurrence k slot))) rules ∙ h

  once_near : (op k slot : ℕ) → op < length t.ops → is_owed (drafted t) op k slot ≡ true → is_far_there t op (occurrence k slot) ≡ false → count_by (defines op (occurrence k slot)) (ruled ++ handing t last) ≡ 1
  once_near op k slot low owed near =
      let p = defines op (occurrence k slot) in
      let owes_it : owes t op (occurrence k slot) ≡ true = and_true (is_owed (drafted t) op k slot) (not (is_far_there t op (occurrence k slot))) owed (ap not near) in
      let one : count_by p ruled ≡ 1 = same_count op (occurrence k slot) ruled (defined_in t ds) (in_keys t (exprs_in t ds) 0 ds) ∙ defined_once t ds complete places op k slot low owes_it in
      let none : count_by p (handing t last) ≡ 0 = count_none p (handing t last) (none_handed t last op (occurrence k slot) near) in
      let sum : count_by p (ruled ++ handing t last) ≡ count_by p ruled + count_by p (handing t last) = sum_by-append (λ r. cond (p r) 1 0) ruled (handing t last) in
      omega (arith, one, none, sum)

  once_far : (op k slot : ℕ) → is_owed (drafted t) op k slot ≡ true → is_far_there t op (occurrence k slot) ≡ true → count_by (defines op (occurrence k slot)) (ruled ++ handing t last) ≡ 1
  once_far op zero slot owed far = absurd (cc (owed, left_not_owed t handed op slot far))
  once_far op (suc k) slot owed far =
      let x = far_there t op (suc k) slot far in
      let from = handed.sources op k x.phylum slot x.attr x.there x.found x.far in
      count_only (defines op (occurrence (suc k) slot)) (rule last op (occurrence (suc k) slot) from.slot) (ruled ++ handing t last)
      (only_handed t ds complete last op k x.phylum slot from.slot x.attr x.there x.found from.is)

  once : (op k slot : ℕ) → op < length spec.ops → is_owed spec op k slot ≡ true → count_by (defines op (occurrence k slot)) spec.rules ≡ 1
  once op k slot low owed = counted op k slot (by (is_far_there t op (occurrence k slot)) refl)
    where
      drawn : is_owed (drafted t) op k slot ≡ true
      drawn = sym (owed_kept t spec table op k slot) ∙ owed

      by : (b : Bool) → is_far_there t op (occurrence k slot) ≡ b → count_by (defines op (occurrence k slot)) (ruled ++ handing t last) ≡ 1
      by true far = once_far op k slot drawn far
      by false near = once_near op k slot (subst (λ n. op < n) (ops_count t spec table) low) drawn near

  owed_all : All (λ (r : Rule). IsTrue (is_owed spec r.op r.target.at r.target.slot)) spec.rules
  owed_all =
      both (λ (r : Rule). IsTrue (is_owed spec r.op r.target.at r.target.slot))
      (each_weaker (λ (r : Rule). owes t r.op r.target ≡ true) (λ (r : Rule). IsTrue (is_owed spec r.op r.target.at r.target.slot))
      ruled (λ r h. owed_kept t spec table r.op r.target.at r.target.slot ∙ (and_parts (is_owed (drafted t) r.op r.target.at r.target.slot) (not (is_far_there t r.op r.target)) h).0) (ruled_owed t ds complete))
      (each_weaker (λ (r : Rule). is_owed (drafted t) r.op r.target.at r.target.slot ≡ true) (λ (r : Rule). IsTrue (is_owed spec r.op r.target.at r.target.slot))
      (handing t last) (λ r h. owed_kept t spec table r.op r.target.at r.target.slot ∙ h) (handed_owed t handed last))

  last_there : slice_get spec.exprs last ≡ Some (Named 0)
  last_there =
      let count : last ≡ length (map (λ (x : TypedExpr). x.expr) (exprs_in t ds)) = sym (length-map (exprs_in t ds) (λ (x : TypedExpr). x.expr)) in
      ap (λ l. slice_get l last) exprs ∙ ap (slice_get (map (λ (x : TypedExpr). x.expr) (exprs_in t ds) ++ Named 0 ∷ [])) count
      ∙ slice_get-seam (map (λ (x : TypedExpr). x.expr) (exprs_in t ds)) (Named 0) []

  typed_all : All (λ (r : Rule). IsTrue (is_rule_typed spec r)) spec.rules
  typed_all =
      both (λ (r : Rule). IsTrue (is_rule_typed spec r))
      (in_typed t spec table lists (exprs_in t ds) (Named 0 ∷ []) exprs 0 ds (recursion_from_All HasLiterals ds written) fits (λ i. ap (λ n. slice_get (exprs_in t ds) n) (zero-add i)))
      (handed_typed t handed spec table last last_there)

  pub rules_sound : HasRules spec
  rules_sound = record { one_each = once; no_other = owed_all; typed = typed_all }
