-- The first fault of a row of equations stands before all others of the row.
use Rattle.std.proofs.Common.{◌≡◌, ℕ, zero, suc, ◌+◌, ◌<◌, ◌≤◌, inl, inr, Bool, true, false, cond, not, List, [], ◌∷◌, ◌++◌, length, Option, Some, None, slice_get, refl, sym, ap, ◌∙◌, subst, arith}
use Rattle.std.specs.Prelude.{flat_map, option_and_then, option_map}
use Rattle.std.specs.List.{filter, list_any}
use Rattle.std.proofs.lemmas.Bool.{cases_lt}
use Rattle.sg_kinds.specs.Instances.{below}
use Rattle.sg_kinds.specs.Values.{Bytes}
use Rattle.sg_kinds.specs.declared.fault.Position.{Position}
use Rattle.sg_kinds.specs.declared.fault.SpecFault.TheVariants as fault
use Rattle.sg_kinds.specs.declared.spec.Operator.{Operator}
use Rattle.sg_ast.specs.Declarations.{Decl}
use Rattle.sg_ast.specs.FirstFault.{or_else, first, repeats_behind, repeats, repeat_from, first_repeat}
use Rattle.sg_ast.specs.Rising.{places_of, RiseFrom, SomeOf, nothing, passed, taken}
use Rattle.sg_ast.proofs.FirstLaws.{first-append}
use Rattle.sg_ast.proofs.RisingLaws.{some_rise, some_some}
use Rattle.sg_remote.specs.Longer.{names_of}
use Rattle.sg_names.specs.declared.table.Table.{Table}
use Rattle.sg_equations.specs.declared.targets.Defined.{Defined}
use Rattle.sg_equations.specs.Complete.{not_defined_here, is_same_target, twice_at, twice, lacks, lacking, first_lacking, missing_at, missing}
use Rattle.sg_equations.specs.Owed.{owes}
use Rattle.sg_equations.specs.Targets.{defined_in}
use Rattle.sg_equations.specs.DefinedPlaces.{defined_places, is_not_owed, IsFirst, IsFirstLacking}
use Rattle.sg_equations.proofs.Counts.{none_at}
use Rattle.sg_equations.proofs.Completed.{lacks_none}
use Rattle.sg_equations.proofs.TextOrder.{targets_ordered, operators_ordered}

-- some of a list
some_passing : {X : Type 0} (p : X → Bool) (xs : List X) → SomeOf (filter p xs) xs
some_passing p [] = nothing
some_passing p (x ∷ xs) = by (p x) (some_passing p xs)
  where
    by : (b : Bool) → SomeOf (filter p xs) xs → SomeOf (cond b (x ∷ filter p xs) (filter p xs)) (x ∷ xs)
    by true s = taken s
    by false s = passed s

some_repeats : {X : Type 0} (same : X → X → Bool) (before xs : List X) → SomeOf (repeats_behind same before xs) xs
some_repeats same before [] = nothing
some_repeats same before (x ∷ xs) = by (list_any (λ y. same y x) before) (some_repeats same (before ++ x ∷ []) xs)
  where
    by : (b : Bool) → SomeOf (repeats_behind same (before ++ x ∷ []) xs) xs → SomeOf (cond b (x ∷ repeats_behind same (before ++ x ∷ []) xs) (repeats_behind same (before ++ x ∷ []) xs)) (x ∷ xs)
    by true s = taken s
    by false s = passed s

some_places : {xs ys : List Defined} → SomeOf xs ys → SomeOf (defined_places xs) (defined_places ys)
some_places nothing = nothing
some_places (passed s) = passed (some_places s)
some_places (taken s) = taken (some_places s)

-- where places rise, none stands before the first
from_start : (k : ℕ) (p : Position) (defs : List Defined) → p.token ≤ k → RiseFrom k (defined_places defs) → IsFirst defs p
from_start k p [] less h = tt
from_start k p (d ∷ defs) less h = (omega (arith, less, h.0), from_start (d.place.token + 1) p defs (omega (arith, less, h.0)) h.1)

-- the equation at this place heads the list
record Heads (p : Position) (defs : List Defined) : Type 0 where
  first : Defined
  rest : List Defined
  is : defs ≡ first ∷ rest
  here : first.place ≡ p

head_first : (k : ℕ) (p : Position) (defs : List Defined) → Heads p defs → RiseFrom k (defined_places defs) → IsFirst defs p
head_first k p defs h rise =
    let rises : RiseFrom k (defined_places (h.first ∷ h.rest)) = subst (λ (l : List Defined). RiseFrom k (defined_places l)) h.is rise in
    let all : IsFirst (h.first ∷ h.rest) h.first.place = (omega arith, from_start (h.first.place.token + 1) h.first.place h.rest (omega arith) rises.1) in
    subst (λ (l : List Defined). IsFirst l p) (sym h.is) (subst (λ (q : Position). IsFirst (h.first ∷ h.rest) q) h.here all)

module _ (ds : List Decl) (rise : RiseFrom 0 (flat_map places_of ds)) (t : Table) where
  some_first : (p : Position) (some : List Defined) → SomeOf some (defined_in t ds) → Heads p some → IsFirst some p
  some_first p some s h = head_first 0 p some h (some_rise 0 (some_some (some_places s) (targets_ordered t ds)) rise)

-- equations of what is not owed
owed_heads : (t : Table) (defs : List Defined) (p : Position) → not_defined_here t defs ≡ Some (fault.NotDefinedHere p) → Heads p (filter (is_not_owed t) defs)
owed_heads t [] p e = cc
owed_heads t (d ∷ defs) p e = by (owes t d.op d.target) e (owed_heads t defs p)
  where
    by : (b : Bool) → or_else (cond b None (Some (fault.NotDefinedHere d.place))) (not_defined_here t defs) ≡ Some (fault.NotDefinedHere p)
        → (not_defined_here t defs ≡ Some (fault.NotDefinedHere p) → Heads p (filter (is_not_owed t) defs))
        → Heads p (cond (not b) (d ∷ filter (is_not_owed t) defs) (filter (is_not_owed t) defs))
    by true e rest = rest e
    by false e rest = record { first = d; rest = filter (is_not_owed t) defs; is = refl; here = cc }

pub not_owed_first : (ds : List Decl) → RiseFrom 0 (flat_map places_of ds) → (t : Table) (p : Position) → not_defined_here t (defined_in t ds) ≡ Some (fault.NotDefinedHere p) → IsFirst (filter (is_not_owed t) (defined_in t ds)) p
not_owed_first ds rise t p e = some_first ds rise t p (filter (is_not_owed t) (defined_in t ds)) (some_passing (is_not_owed t) (defined_in t ds)) (owed_heads t (defined_in t ds) p e)

-- second equations
record Repeats {X : Type 0} (same : X → X → Bool) (before : List X) (place : ℕ) (xs : List X) (k : ℕ) : Type 0 where
  first : X
  rest : List X
  at : ℕ
  is : repeats_behind same before xs ≡ first ∷ rest
  there : slice_get xs at ≡ Some first
  behind : k ≡ place + at

first_repeats : {X : Type 0} (same : X → X → Bool) (before : List X) (place : ℕ) (xs : List X) (k : ℕ) → repeat_from same before place xs ≡ Some k → Repeats same before place xs k
first_repeats same before place [] k e = cc
first_repeats {X} same before place (x ∷ xs) k e = by (list_any (λ y. same y x) before) refl e (first_repeats same (before ++ x ∷ []) (suc place) xs k)
  where
    more : List X
    more = repeats_behind same (before ++ x ∷ []) xs

    by : (b : Bool) → list_any (λ y. same y x) before ≡ b → cond b (Some place) (repeat_from same (before ++ x ∷ []) (suc place) xs) ≡ Some k
        → (repeat_from same (before ++ x ∷ []) (suc place) xs ≡ Some k → Repeats same (before ++ x ∷ []) (suc place) xs k) → Repeats same before place (x ∷ xs) k
    by true is e rest = record { first = x; rest = more; at = 0; is = ap (λ b. cond b (x ∷ more) more) is; there = refl; behind = let same : place ≡ k = cc in omega (arith, same) }
    by false is e rest = let r = rest e in record { first = r.first; rest = r.rest; at = suc r.at; is = ap (λ b. cond b (x ∷ more) more) is ∙ r.is; there = r.there; behind = omega (arith, r.behind) }

twice_heads : (defs : List Defined) (p : Position) → twice defs ≡ Some (fault.Twice p) → Heads p (repeats is_same_target defs)
twice_heads defs p e = by (first_repeat is_same_target defs) refl e
  where
    by : (o : Option ℕ) → first_repeat is_same_target defs ≡ o → twice_at defs o ≡ Some (fault.Twice p) → Heads p (repeats is_same_target defs)
    by None is e = cc
    by (Some k) is e =
        let r = first_repeats is_same_target [] 0 defs k is in
        let at : k ≡ r.at = omega (arith, r.behind) in
        let told : Some (fault.Twice r.first.place) ≡ Some (fault.Twice p) = ap (option_map (λ (d : Defined). fault.Twice d.place)) (sym r.there) ∙ ap (λ n. twice_at defs (Some n)) (sym at) ∙ e in
        record { first = r.first; rest = r.rest; is = r.is; here = cc }

pub twice_first : (ds : List Decl) → RiseFrom 0 (flat_map places_of ds) → (t : Table) (p : Position) → twice (defined_in t ds) ≡ Some (fault.Twice p) → IsFirst (repeats is_same_target (defined_in t ds)) p
twice_first ds rise t p e = some_first ds rise t p (repeats is_same_target (defined_in t ds)) (some_repeats is_same_target [] (defined_in t ds)) (twice_heads (defined_in t ds) p e)

-- operators that lack an equation
least_place : (k j : ℕ) (ps : List Position) (q : Position) → RiseFrom k ps → slice_get ps j ≡ Some q → k ≤ q.token
least_place k j [] q h there = absurd (cc)
least_place k zero (p ∷ ps) q h there = let e : p ≡ q = let same : Some p ≡ Some q = there in cc in omega (arith, h.0, ap (λ (x : Position). x.token) e)
least_place k (suc j) (p ∷ ps) q h there = let more = least_place (p.token + 1) j ps q h.1 there in omega (arith, h.0, more)

not_before : (k i j : ℕ) (ps : List Position) (p q : Position) → RiseFrom k ps → i ≤ j → slice_get ps i ≡ Some p → slice_get ps j ≡ Some q → p.token ≤ q.token
not_before k i j [] p q h less here there = absurd (cc)
not_before k zero j (r ∷ ps) p q h less here there =
    let e : r ≡ p = let same : Some r ≡ Some p = here in cc in
    let from : RiseFrom r.token (r ∷ ps) = (omega arith, h.1) in
    let low = least_place r.token j (r ∷ ps) q from there in
    omega (arith, ap (λ (x : Position). x.token) e, low)
not_before k (suc i) zero (r ∷ ps) p q h less here there = absurd (omega (arith, less))
not_before k (suc i) (suc j) (r ∷ ps) p q h less here there = not_before (r.token + 1) i j ps p q h.1 (omega (arith, less)) here there

none_below : (t : Table) (defs : List Defined) (j op n : ℕ) → first (lacking t defs) (below n) ≡ Some op → j < op → lacks t defs j ≡ false
none_below t defs j op zero e low = cc
none_below t defs j op (suc n) e low = by (first (lacking t defs) (below n)) refl (sym (first-append (lacking t defs) (below n) (n ∷ [])) ∙ e) (λ e. none_below t defs j op n e low)
  where
    here : (b : Bool) → or_else (cond b (Some n) None) None ≡ Some op → n ≡ op
    here true e = cc
    here false e = cc

    by : (o : Option ℕ) → first (lacking t defs) (below n) ≡ o → or_else o (or_else (lacking t defs n) None) ≡ Some op → (first (lacking t defs) (below n) ≡ Some op → lacks t defs j ≡ false) → lacks t defs j ≡ false
    by (Some m) is e before = before (is ∙ e)
    by None is e before =
        let last : n ≡ op = here (lacks t defs n) e in
        lacks_none (lacks t defs j) j (none_at (lacking t defs) j n is (omega (arith, low, last)))

missing_there : (t : Table) (op : ℕ) (p : Position) (n : Bytes) → missing_at t op ≡ Some (fault.Missing p n) → slice_get t.op_places op ≡ Some p
missing_there t op p n e = by (slice_get t.op_places op) (slice_get t.ops op) e
  where
    by : (place : Option Position) (o : Option Operator) → option_and_then (λ place. option_map (λ (o : Operator). fault.Missing place o.name) o) place ≡ Some (fault.Missing p n) → place ≡ Some p
    by None o e = cc
    by (Some place) None e = cc
    by (Some place) (Some o) e = cc

pub missing_first : (ds : List Decl) → RiseFrom 0 (flat_map places_of ds) → (p : Position) (n : Bytes) → missing (names_of ds) (defined_in (names_of ds) ds) ≡ Some (fault.Missing p n) → IsFirstLacking (names_of ds) (defined_in (names_of ds) ds) p
missing_first ds rise p n e = by (first_lacking t defs) refl e
  where
    t : Table
    t = names_of ds

    defs : List Defined
    defs = defined_in (names_of ds) ds

    by : (o : Option ℕ) → first_lacking t defs ≡ o → option_and_then (missing_at t) o ≡ Some (fault.Missing p n) → IsFirstLacking t defs p
    by None is e = cc
    by (Some op) is e = λ j q lacks_it there. elim (cases_lt j op) [
      | inl less ↦ let has = none_below t defs j op (length t.ops) is less in absurd (cc)
      | inr ge ↦ not_before 0 op j t.op_places p q (some_rise 0 (operators_ordered ds) rise) ge (missing_there t op p n e) there
    ]
