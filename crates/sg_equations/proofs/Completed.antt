-- Where no row of equations has a fault, each occurrence that equations owe is defined once, and nothing else is.
use Rattle.std.proofs.Common.{◌≡◌, refl, sym, subst, ◌∙◌, arith, ℕ, zero, suc, ◌<◌, ◌≤◌, Bool, true, false, cond, nat_eq, List, [], ◌∷◌, map, length, Option, Some, None, slice_get}
use Rattle.std.specs.Prelude.{◌&&◌, not, is_some, option_map, option_and_then, unwrap_or}
use Rattle.std.specs.List.{AllByRecursion, count_by}
use Rattle.std.proofs.lemmas.Bool.{and_parts}
use Rattle.std.proofs.lemmas.List.{length-map}
use Rattle.std.proofs.lemmas.Option.{slice_get_within}
use Rattle.sg_kinds.specs.Dependencies.{occurrence}
use Rattle.sg_kinds.specs.Sound.{is_owed}
use Rattle.sg_kinds.specs.Specification.{args_of, attrs_of, is_inherited, is_way_inherited}
use Rattle.sg_kinds.specs.Typing.{slots_there}
use Rattle.sg_kinds.specs.declared.fault.Position.{Position}
use Rattle.sg_kinds.specs.declared.fault.SpecFault.{SpecFault}
use Rattle.sg_kinds.specs.declared.fault.SpecFault.TheVariants as fault
use Rattle.sg_kinds.specs.declared.spec.Attr.{Attr}
use Rattle.sg_kinds.specs.declared.spec.Occurrence.{Occurrence}
use Rattle.sg_kinds.proofs.Elementary.{eq_is, eq_true, slice_get-there, some_there}
use Rattle.sg_ast.specs.Declarations.{Decl}
use Rattle.sg_ast.specs.FirstFault.{first_of, first_repeat}
use Rattle.sg_ast.proofs.FirstLaws.{first-none, neither}
use Rattle.sg_names.specs.Drafted.{drafted}
use Rattle.sg_names.specs.declared.table.Table.{Table}
use Rattle.sg_equations.specs.declared.targets.Defined.{Defined}
use Rattle.sg_equations.specs.Complete.{not_owed, not_defined_here, is_same_target, twice_at, twice, is_defined, lacks_slot, lacks_at, lacks, lacking, first_lacking, missing_at, missing, incomplete}
use Rattle.sg_equations.specs.Owed.{is_far_there, owes}
use Rattle.sg_equations.specs.Targets.{defined_in}
use Rattle.sg_equations.proofs.Counts.{count_any, count_once, repeat_within, none_at, some_at, false_at}
use Rattle.sg_equations.proofs.RuleKeys.{defined_key, is_for}

-- the parts of the row
parts : (a b c : Option SpecFault) → first_of (a ∷ b ∷ c ∷ []) ≡ None → (a ≡ None) × (b ≡ None) × (c ≡ None)
parts a b c h =
    let p = neither a (first_of (b ∷ c ∷ [])) h in
    let q = neither b (first_of (c ∷ [])) p.1 in
    (p.0, q.0, (neither c None q.1).0)

-- what equations define is owed
owed_is : (b : Bool) (place : Position) → cond b None (Some (fault.NotDefinedHere place)) ≡ None → b ≡ true
owed_is true place h = refl
owed_is false place h = cc

all_owed : (t : Table) (defs : List Defined) → AllByRecursion (λ d. not_owed t d ≡ None) defs → AllByRecursion (λ d. owes t d.op d.target ≡ true) defs
all_owed t [] h = tt
all_owed t (d ∷ defs) h = (owed_is (owes t d.op d.target) d.place h.0, all_owed t defs h.1)

-- nothing is defined twice
none_twice : (defs : List Defined) → twice defs ≡ None → first_repeat is_same_target defs ≡ None
none_twice defs h = by (first_repeat is_same_target defs) refl h
  where
    by : (o : Option ℕ) → first_repeat is_same_target defs ≡ o → twice_at defs o ≡ None → o ≡ None
    by None e k = refl
    by (Some n) e k = there (slice_get defs n) refl k
      where
        low : n < length defs
        low = let r = repeat_within is_same_target [] 0 n defs e in omega (arith, r.1)

        there : (x : Option Defined) → slice_get defs n ≡ x → option_map (λ (d : Defined). fault.Twice d.place) x ≡ None → Some n ≡ None
        there None f g = absurd (no_end defs n low f)
          where
            no_end : (ds : List Defined) (n : ℕ) → n < length ds → slice_get ds n ≡ None → ⊥
            no_end [] n l f = absurd (omega (arith, l))
            no_end (d ∷ ds) zero l f = cc
            no_end (d ∷ ds) (suc n) l f = no_end ds n (omega (arith, l)) f
        there (Some d) f g = cc

same_target : (op : ℕ) (o : Occurrence) (d e : Defined) → is_for op o (defined_key d) ≡ true → is_for op o (defined_key e) ≡ true → is_same_target d e ≡ true
same_target op o d e h k =
    let p = and_parts (nat_eq d.op op) (nat_eq d.target.at o.at && nat_eq d.target.slot o.slot) h in
    let q = and_parts (nat_eq d.target.at o.at) (nat_eq d.target.slot o.slot) p.1 in
    let r = and_parts (nat_eq e.op op) (nat_eq e.target.at o.at && nat_eq e.target.slot o.slot) k in
    let s = and_parts (nat_eq e.target.at o.at) (nat_eq e.target.slot o.slot) r.1 in
    let x : nat_eq d.op e.op ≡ true = eq_true d.op e.op (eq_is d.op op p.0 ∙ sym (eq_is e.op op r.0)) in
    let y : nat_eq d.target.at e.target.at ≡ true = eq_true d.target.at e.target.at (eq_is d.target.at o.at q.0 ∙ sym (eq_is e.target.at o.at s.0)) in
    let z : nat_eq d.target.slot e.target.slot ≡ true = eq_true d.target.slot e.target.slot (eq_is d.target.slot o.slot q.1 ∙ sym (eq_is e.target.slot o.slot s.1)) in
    rw (x, y, z) refl

-- no operator lacks what it owes
lacking_is : (b : Bool) (n op : ℕ) → cond b (Some n) None ≡ Some op → n ≡ op
lacking_is true n op h = cc
lacking_is false n op h = cc

none_missing : (t : Table) (defs : List Defined) → length t.op_places ≡ length t.ops → missing t defs ≡ None → first_lacking t defs ≡ None
none_missing t defs same h = by (first_lacking t defs) refl h
  where
    by : (o : Option ℕ) → first_lacking t defs ≡ o → option_and_then (missing_at t) o ≡ None → o ≡ None
    by None e k = refl
    by (Some op) e k =
        let r = some_at (lacking t defs) (length t.ops) op e in
        let low : op < length t.ops = subst (λ n. n < length t.ops) (lacking_is (lacks t defs r.0) r.0 op r.2) r.1 in
        let x = slice_get-there t.ops op low in
        let y = slice_get-there t.op_places op (omega (arith, low, same)) in
        let there : missing_at t op ≡ Some (fault.Missing y.0 x.0.name) = rw (y.1, x.1) refl in
        cc

pub lacks_none : (b : Bool) (n : ℕ) → cond b (Some n) None ≡ None → b ≡ false
lacks_none true n h = cc
lacks_none false n h = refl

not_lacking : (a b : Bool) → (a && not b) ≡ false → a ≡ true → b ≡ true
not_lacking true true h e = refl
not_lacking true false h e = cc
not_lacking false b h e = cc

-- an occurrence that is owed is one of the operator
inherited_there : (t : Table) (op k slot : ℕ) → is_owed (drafted t) op (suc k) slot ≡ true → (suc k < suc (length (args_of t.ops op))) × (slot < length (slots_there (drafted t) op (suc k)))
inherited_there t op k slot h = by (slice_get (args_of t.ops op) k) refl h
  where
    slotted : (X : ℕ) (a : Option Attr) → slice_get (attrs_of t.phyla X) slot ≡ a → unwrap_or (option_map (λ (a : Attr). is_way_inherited a.way) a) false ≡ true → slot < length (map (λ (a : Attr). a.of) (attrs_of t.phyla X))
    slotted X None e f = cc
    slotted X (Some a) e f =
        let low : slot < length (attrs_of t.phyla X) = slice_get_within (attrs_of t.phyla X) slot a e in
        let same : length (map (λ (a : Attr). a.of) (attrs_of t.phyla X)) ≡ length (attrs_of t.phyla X) = length-map (attrs_of t.phyla X) (λ (a : Attr). a.of) in
        omega (arith, low, same)

    by : (o : Option ℕ) → slice_get (args_of t.ops op) k ≡ o → unwrap_or (option_map (λ X. is_inherited t.phyla X slot) o) false ≡ true
        → (suc k < suc (length (args_of t.ops op))) × (slot < length (slots_there (drafted t) op (suc k)))
    by None e f = cc
    by (Some X) e f =
        let low : k < length (args_of t.ops op) = slice_get_within (args_of t.ops op) k X e in
        (omega (arith, low), rw e (slotted X (slice_get (attrs_of t.phyla X) slot) refl f))

owed_there : (t : Table) (op k slot : ℕ) → is_owed (drafted t) op k slot ≡ true → (k < suc (length (args_of t.ops op))) × (slot < length (slots_there (drafted t) op k))
owed_there t op zero slot h =
    let b = and_parts (is_some (slice_get (slots_there (drafted t) op 0) slot)) (not _) h in
    let x = some_there (slice_get (slots_there (drafted t) op 0) slot) b.0 in
    (omega arith, slice_get_within (slots_there (drafted t) op 0) slot x.0 x.1)
owed_there t op (suc k) slot h = inherited_there t op k slot h

owed_defined : (t : Table) (defs : List Defined) → first_lacking t defs ≡ None → (op k slot : ℕ) → op < length t.ops → owes t op (occurrence k slot) ≡ true → is_defined defs op (occurrence k slot) ≡ true
owed_defined t defs none op k slot low owed =
    let there = owed_there t op k slot (and_parts (is_owed (drafted t) op k slot) (not (is_far_there t op (occurrence k slot))) owed).0 in
    let a : lacks t defs op ≡ false = lacks_none (lacks t defs op) op (none_at (lacking t defs) op (length t.ops) none low) in
    let b : lacks_at t defs op k ≡ false = false_at (lacks_at t defs op) k (suc (length (args_of t.ops op))) a there.0 in
    let c : lacks_slot t defs op k slot ≡ false = false_at (lacks_slot t defs op k) slot (length (slots_there (drafted t) op k)) b there.1 in
    not_lacking (owes t op (occurrence k slot)) (is_defined defs op (occurrence k slot)) c owed

module _ (t : Table) (ds : List Decl) (complete : incomplete t ds ≡ None) where
  rows : (not_defined_here t (defined_in t ds) ≡ None) × (twice (defined_in t ds) ≡ None) × (missing t (defined_in t ds) ≡ None)
  rows = parts (not_defined_here t (defined_in t ds)) (twice (defined_in t ds)) (missing t (defined_in t ds)) complete

  pub defined_owed : AllByRecursion (λ d. owes t d.op d.target ≡ true) (defined_in t ds)
  defined_owed = all_owed t (defined_in t ds) (first-none (not_owed t) (defined_in t ds) rows.0)

  pub defined_once : length t.op_places ≡ length t.ops → (op k slot : ℕ) → op < length t.ops → owes t op (occurrence k slot) ≡ true → count_by (λ d. is_for op (occurrence k slot) (defined_key d)) (defined_in t ds) ≡ 1
  defined_once places op k slot low owed =
      let o : Occurrence = occurrence k slot in
      let most : count_by (λ d. is_for op o (defined_key d)) (defined_in t ds) ≤ 1 = count_once is_same_target (λ d. is_for op o (defined_key d)) (λ d e h g. same_target op o d e h g) (defined_in t ds) (none_twice (defined_in t ds) rows.1) in
      let least : 1 ≤ count_by (λ d. is_for op o (defined_key d)) (defined_in t ds) = count_any (λ d. is_for op o (defined_key d)) (defined_in t ds) (owed_defined t (defined_in t ds) (none_missing t (defined_in t ds) places rows.2) op k slot low owed) in
      omega arith
