-- A pattern that binds its variables in the record has no mismatch, where its names mean something.
use Rattle.std.proofs.Common.{◌≡◌, refl, ap, subst, ◌∙◌, ℕ, Bool, true, false, cond, List, [], ◌∷◌, ◌++◌, length, Option, Some, None}
use Rattle.std.specs.Prelude.{is_some, nat_eq, option_map, option_and_then, unwrap_or, ⊤, ◌&&◌}
use Rattle.std.proofs.lemmas.Bool.{and_parts}
use Rattle.std.proofs.lemmas.Option.{option_and_then_some}
use Rattle.sg_kinds.proofs.Elementary.{some_there}
use Rattle.sg_kinds.specs.Values.{is_number, is_text}
use Rattle.sg_kinds.specs.Specification.{truths, numbers, args_of}
use Rattle.sg_kinds.specs.Typing.{bound_types, bound_types_all, only_if, is_textual, is_usable, is_accepted}
use Rattle.sg_kinds.specs.Expressions as kept
use Rattle.sg_kinds.specs.declared.fault.Position.{Position}
use Rattle.sg_ast.specs.FirstFault.{or_else}
use Rattle.sg_ast.specs.Patterns.{Pattern, Patterns, Amount, Chars, Truth, Anything, Variable, MadeAs, Applied, NoPattern, AndPattern}
use Rattle.sg_names.specs.declared.table.Table.{Table}
use Rattle.sg_names.specs.Lookups.{usable_named}
use Rattle.sg_names.specs.Names.{op_named}
use Rattle.sg_names.specs.Drafted.{drafted}
use Rattle.sg_names.specs.Uses.{patterns_count}
use Rattle.sg_types.specs.Types.{unless, fits_where}
use Rattle.sg_types.specs.Patterns.{is_operator_of, parts_of, mismatch_in, mismatch_in_all, variables_of, variables_of_all, recorded, recorded_all, signed}
use Rattle.sg_typing.specs.Written.{known}
use Rattle.sg_typing.proofs.RecordTyped.{known-append}

-- each name of a pattern means something, and each operator has as many parts as declared
abbrev mutual
  pub Means : Table → Pattern → Type 0
  Means t (MadeAs made n place) = is_some (usable_named t n.text) ≡ true
  Means t (Applied n xs) = (op : ℕ) × (op_named t.ops n.text ≡ Some op) × (length (args_of t.ops op) ≡ patterns_count xs) × Mean t xs
  Means t (Amount negative n place) = ⊤
  Means t (Chars s) = ⊤
  Means t (Truth b place) = ⊤
  Means t (Anything place) = ⊤
  Means t (Variable n) = ⊤

  pub Mean : Table → Patterns → Type 0
  Mean t NoPattern = ⊤
  Mean t (AndPattern x xs) = Means t x × Mean t xs

-- parts of what is there
pub is_unless : (b : Bool) (place : Position) → b ≡ true → unless b place ≡ None
is_unless b place h = rw h refl

pub then_parts : {A B : Type 0} (f : A → Option B) (o : Option A) (y : B) → option_and_then f o ≡ Some y → (x : A) × (o ≡ Some x) × (f x ≡ Some y)
then_parts f o y e = option_and_then_some f o y e (λ x is at. (x, is, at))

pub if_parts : (b : Bool) (p q : ℕ) → only_if b p ≡ Some q → (b ≡ true) × (p ≡ q)
if_parts true p q e = (refl, cc)
if_parts false p q e = cc

cond_parts : {A : Type 0} (b : Bool) (o : Option A) (y : A) → cond b o None ≡ Some y → (b ≡ true) × (o ≡ Some y)
cond_parts true o y e = (refl, e)
cond_parts false o y e = cc

pub both_none : {A : Type 0} (a b : Option A) → a ≡ None → b ≡ None → or_else a b ≡ None
both_none a b e f = rw e f

-- what a pattern binds and what its variables are
abbrev Binds : Table → Pattern → ℕ → List ℕ → Type 0
Binds t q p bs = (mismatch_in t q (Some p) ≡ None) × (known (variables_of t q (Some p)) ≡ Some bs)

number_fits : (b : Bool) (p : ℕ) → unwrap_or (option_map (nat_eq p) (only_if b numbers)) false ≡ true → nat_eq p numbers ≡ true
number_fits true p h = h
number_fits false p h = cc

made_bound : (t : Table) (p q : ℕ) (bs : List ℕ) (place : Position) → cond (is_usable (drafted t) q && is_accepted (drafted t) q p) (Some []) None ≡ Some bs → (unless (fits_where t (Some p) (Some q)) place ≡ None) × (Some [] ≡ Some bs)
made_bound t p q bs place h =
    let c = cond_parts (is_usable (drafted t) q && is_accepted (drafted t) q p) (Some []) bs h in
    (is_unless (is_accepted (drafted t) q p) place (and_parts (is_usable (drafted t) q) (is_accepted (drafted t) q p) c.0).1, c.1)

append_parts : (a b : Option (List ℕ)) (bs : List ℕ) → option_and_then (λ xs. option_map (λ ys. xs ++ ys) b) a ≡ Some bs → (xs ys : List ℕ) × (a ≡ Some xs) × (b ≡ Some ys) × (xs ++ ys ≡ bs)
append_parts None b bs h = cc
append_parts (Some xs) None bs h = cc
append_parts (Some xs) (Some ys) bs h = (xs, ys, refl, refl, cc)

module _ (t : Table) where
  -- an operator's pattern, whose parts have no mismatch where they bind
  applied_fits : (place : Position) (xs : Patterns) (p : ℕ) (bs : List ℕ) (o : Option ℕ) (op : ℕ) → o ≡ Some op → length (args_of t.ops op) ≡ patterns_count xs
      → ((ps : List ℕ) → length ps ≡ patterns_count xs → bound_types_all (drafted t) (recorded_all t xs ps) ps ≡ Some bs → (mismatch_in_all t place xs ps ≡ None) × (known (variables_of_all t xs ps) ≡ Some bs))
      → bound_types (drafted t) (kept.Applied (unwrap_or o 0) (recorded_all t xs (parts_of t o))) p ≡ Some bs
      → (or_else (unless (is_operator_of t o (Some p)) place) (mismatch_in_all t place xs (parts_of t o)) ≡ None) × (known (variables_of_all t xs (parts_of t o)) ≡ Some bs)
  applied_fits place xs p bs None op is n inside h = cc
  applied_fits place xs p bs (Some o) op is n inside h =
      let c = cond_parts (is_operator_of t (Some o) (Some p)) (bound_types_all (drafted t) (recorded_all t xs (args_of t.ops o)) (args_of t.ops o)) bs h in
      let same : op ≡ o = cc in
      let d = inside (args_of t.ops o) (subst (λ k. length (args_of t.ops k) ≡ patterns_count xs) same n) c.1 in
      (both_none (unless (is_operator_of t (Some o) (Some p)) place) (mismatch_in_all t place xs (args_of t.ops o)) (is_unless (is_operator_of t (Some o) (Some p)) place c.0) d.0, d.1)

  mutual
    pub pattern_fits : (q : Pattern) (p : ℕ) (bs : List ℕ) → Means t q → bound_types (drafted t) (recorded t q) p ≡ Some bs → Binds t q p bs
    pattern_fits (Amount negative n place) p bs m h =
        let c = cond_parts (unwrap_or (option_map (nat_eq p) (only_if (is_number (signed negative n)) numbers)) false) (Some []) bs h in
        (is_unless (nat_eq p numbers) place (number_fits (is_number (signed negative n)) p c.0), c.1)
    pattern_fits (Chars s) p bs m h =
        let c = cond_parts (is_text s.text && is_textual (drafted t) p) (Some []) bs h in
        (is_unless (is_textual (drafted t) p) s.place (and_parts (is_text s.text) (is_textual (drafted t) p) c.0).1, c.1)
    pattern_fits (Truth b place) p bs m h =
        let c = cond_parts (nat_eq p truths) (Some []) bs h in
        (is_unless (nat_eq p truths) place c.0, c.1)
    pattern_fits (Anything place) p bs m h = (refl, h)
    pattern_fits (Variable n) p bs m h = (refl, h)
    pattern_fits (MadeAs made n place) p bs m h =
        let x = some_there (usable_named t n.text) m in
        rw x.1 (made_bound t p x.0 bs place (rw x.1 at h))
    pattern_fits (Applied n xs) p bs m h = applied_fits n.place xs p bs (op_named t.ops n.text) m.0 m.1 m.2 (λ ps many bound. patterns_fit n.place xs ps bs many m.3 bound) h

    pub patterns_fit : (place : Position) (xs : Patterns) (ps bs : List ℕ) → length ps ≡ patterns_count xs → Mean t xs → bound_types_all (drafted t) (recorded_all t xs ps) ps ≡ Some bs
        → (mismatch_in_all t place xs ps ≡ None) × (known (variables_of_all t xs ps) ≡ Some bs)
    patterns_fit place NoPattern [] bs n m h = (refl, h)
    patterns_fit place NoPattern (p ∷ ps) bs n m h = cc
    patterns_fit place (AndPattern x xs) [] bs n m h = cc
    patterns_fit place (AndPattern x xs) (p ∷ ps) bs n m h =
        let c = append_parts (bound_types (drafted t) (recorded t x) p) (bound_types_all (drafted t) (recorded_all t xs ps) ps) bs h in
        let d = pattern_fits x p c.0 m.0 c.2 in
        let fewer : length ps ≡ patterns_count xs = cc in
        let e = patterns_fit place xs ps c.1 fewer m.1 c.3 in
        (both_none (mismatch_in t x (Some p)) (mismatch_in_all t place xs ps) d.0 e.0, known-append (variables_of t x (Some p)) (variables_of_all t xs ps) ∙ rw (d.1, e.1) (ap Some c.4))
