-- Patterns that match values.
use Rattle.std.specs.Prelude.{◌≡◌, ◌≢◌, refl, ℕ, suc, ◌+◌, ◌<◌, Bool, true, false, cond, ◌&&◌, nat_eq, List, [], ◌∷◌, ◌++◌, length, Option, Some, None, slice_get, is_some, IsTrue, MatchOption, option_map, option_and_then}
use Rattle.std.proofs.Common.{Result, Ok, Err, OnOk, sym, ap, subst}
use Rattle.std.proofs.lemmas.Option.{slice_get_within, get_or_from_slice_get}
use Rattle.sg_kinds.specs.Values.{Value, Values, Truth, Number, Chars, Tree, Fault}
use Rattle.sg_kinds.specs.Expressions.{Pattern, Patterns, Exactly, Anything, Variable, MadeAs, Applied, NoPattern, AndPattern}
use Rattle.sg_kinds.specs.SameValue.{both, nat_is, nat_same}
use Rattle.sg_kinds.specs.Evaluation.{bound_by, bound_by_all, nothing_if}
use Rattle.sg_kinds.specs.declared.spec.Spec.{Spec}
use Rattle.sg_kinds.specs.declared.spec.Phylum.{Phylum}
use Rattle.sg_kinds.specs.declared.spec.Transform.{Transform}
use Rattle.sg_kinds.specs.Specification.{args_of}
use Rattle.sg_kinds.specs.Typing.{bound_types, bound_types_all, is_usable, is_accepted, is_typed}
use Rattle.sg_kinds.specs.Sound.{IsSound}
use Rattle.sg_eval.proofs.TypeFacts.{there, cond_is}
use Rattle.sg_matching.specs.InRange.{IsInRange, AreInRange}

-- how large patterns are
abbrev mutual
  pub weight_of : Pattern → ℕ
  weight_of (Applied op ps) = suc (weights_of ps)
  weight_of p = 0

  pub weights_of : Patterns → ℕ
  weights_of NoPattern = 0
  weights_of (AndPattern p ps) = suc (weight_of p + weights_of ps)

pub nothing_told : (b : Bool) → is_some (nothing_if b) ≡ b
nothing_told true = refl
nothing_told false = refl

-- an operator and its parts
pub applied_same : (spec : Spec) (op : ℕ) (ps : Patterns) (v : Value) (vs : Values) → v ≡ Tree op vs → bound_by spec (Applied op ps) v ≡ bound_by_all spec ps vs
applied_same spec op ps v vs e = rw (e, nat_same op) refl

pub applied_other : (spec : Spec) (op : ℕ) (ps : Patterns) (v : Value) → ((vs : Values) → v ≢ Tree op vs) → bound_by spec (Applied op ps) v ≡ None
applied_other spec op ps (Truth b) not = refl
applied_other spec op ps (Number z) not = refl
applied_other spec op ps (Chars s) not = refl
applied_other spec op ps (Fault kind) not = refl
applied_other spec op ps (Tree q vs) not = by (nat_eq op q) refl
  where
    by : (b : Bool) → nat_eq op q ≡ b → cond (nat_eq op q) (bound_by_all spec ps vs) None ≡ None
    by true e = absurd (not vs (ap (λ p. Tree p vs) (sym (nat_is op q e))))
    by false e = rw e refl

-- what an operator pattern binds
pub applied_bound : (spec : Spec) (op : ℕ) (ps : Patterns) (v : Value) (values : List Value) → bound_by spec (Applied op ps) v ≡ Some values → (vs : Values) × (v ≡ Tree op vs) × (bound_by_all spec ps vs ≡ Some values)
applied_bound spec op ps (Truth b) values e = cc
applied_bound spec op ps (Number z) values e = cc
applied_bound spec op ps (Chars s) values e = cc
applied_bound spec op ps (Fault kind) values e = cc
applied_bound spec op ps (Tree q vs) values e = let b = cond_is (nat_eq op q) (bound_by_all spec ps vs) values e in (vs, ap (λ p. Tree p vs) (sym (nat_is op q b.0)), b.1)

-- a pattern and those behind it
pub both_match : (o os : Option (List Value)) → is_some (option_and_then (λ bs. option_map (λ cs. bs ++ cs) os) o) ≡ (is_some o && is_some os)
both_match None os = refl
both_match (Some bs) None = refl
both_match (Some bs) (Some cs) = refl

-- what both bind
pub record BothBind (o os : Option (List Value)) (values : List Value) : Type 0 where
  pub first : List Value
  pub rest : List Value
  pub first_is : o ≡ Some first
  pub rest_is : os ≡ Some rest
  pub whole : values ≡ first ++ rest

pub both_bind : (o os : Option (List Value)) (values : List Value) → option_and_then (λ bs. option_map (λ cs. bs ++ cs) os) o ≡ Some values → BothBind o os values
both_bind None os values e = cc
both_bind (Some bs) None values e = cc
both_bind (Some bs) (Some cs) values e = record { first = bs; rest = cs; first_is = refl; rest_is = refl; whole = cc }

-- over types the phyla of made terms are there
both_typed : (o os : Option (List ℕ)) (G : List ℕ) → option_and_then (λ bs. option_map (λ cs. bs ++ cs) os) o ≡ Some G → (bs : List ℕ) × (o ≡ Some bs) × (cs : List ℕ) × (os ≡ Some cs)
both_typed None os G e = cc
both_typed (Some bs) None G e = cc
both_typed (Some bs) (Some cs) G e = (bs, refl, cs, refl)

-- the types of what the pattern of a transformation of a sound specification binds
pub transform_types : (spec : Spec) → IsSound spec → (n : ℕ) (x : Transform) → slice_get spec.transforms n ≡ Some x → (G : List ℕ) × (bound_types spec x.pattern x.phylum ≡ Some G)
transform_types spec sound n x at =
    let low = slice_get_within spec.transforms n x at in
    let typed = subst (λ (y : Transform). MatchOption (bound_types spec y.pattern y.phylum) ⊥ (λ G. IsTrue (is_typed spec G y.expr y.phylum))) (get_or_from_slice_get spec.transforms n x x at) (sound.typed.transforms n x low) in
    let t = there (bound_types spec x.pattern x.phylum) _ typed in
    (t.0, t.1)

usable_there : (spec : Spec) (q : ℕ) → is_usable spec q ≡ true → q < length spec.phyla
usable_there spec q e = by (slice_get spec.phyla q) refl
  where
    by : (o : Option Phylum) → slice_get spec.phyla q ≡ o → q < length spec.phyla
    by None at = let none : false ≡ true = rw at at e in cc
    by (Some x) at = slice_get_within spec.phyla q x at

mutual
  pub in_range : (spec : Spec) (x : Pattern) (p : ℕ) (G : List ℕ) → bound_types spec x p ≡ Some G → IsInRange spec x
  in_range spec (Exactly w) p G e = tt
  in_range spec Anything p G e = tt
  in_range spec Variable p G e = tt
  in_range spec (MadeAs made q) p G e = usable_there spec q (both (is_usable spec q) (is_accepted spec q p) (cond_is (is_usable spec q && is_accepted spec q p) (Some []) G e).0).0
  in_range spec (Applied op ps) p G e = all_in_range spec ps (args_of spec.ops op) G (cond_is _ (bound_types_all spec ps (args_of spec.ops op)) G e).1

  all_in_range : (spec : Spec) (xs : Patterns) (ps G : List ℕ) → bound_types_all spec xs ps ≡ Some G → AreInRange spec xs
  all_in_range spec NoPattern ps G e = tt
  all_in_range spec (AndPattern x xs) [] G e = cc
  all_in_range spec (AndPattern x xs) (p ∷ ps) G e =
      let b = both_typed (bound_types spec x p) (bound_types_all spec xs ps) G e in
      (in_range spec x p b.0 b.1, all_in_range spec xs ps b.2 b.3)

-- the pattern of a transformation of a sound specification
pub transform_in_range : (spec : Spec) → IsSound spec → (n : ℕ) (x : Transform) → slice_get spec.transforms n ≡ Some x → IsInRange spec x.pattern
transform_in_range spec sound n x at =
    let t = transform_types spec sound n x at in
    in_range spec x.pattern x.phylum t.0 t.1

pub on_ok : {A E : Type 0} (r : Result A E) (P Q : Type 0) → (P → Q) → OnOk r P → OnOk r Q
on_ok (Ok x) P Q f h = f h
on_ok (Err e) P Q f h = tt
