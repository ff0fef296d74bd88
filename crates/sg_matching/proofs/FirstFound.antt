-- The first transformation that applies, and what its name gives.
use Rattle.std.specs.Prelude.{◌≡◌, refl, ℕ, zero, suc, ◌+◌, ◌<◌, Bool, true, false, cond, ◌&&◌, nat_eq, bytes_eq, List, [], ◌∷◌, length, filter, Option, Some, None, slice_get, is_some, MatchBool}
use Rattle.std.specs.List.{list_any, position_from}
use Rattle.std.specs.Option.{option_map_or}
use Rattle.std.proofs.Common.{sym, ap, ◌∙◌, subst, arith, get_or}
use Rattle.sg_kinds.specs.Values.{Bytes, Value}
use Rattle.sg_kinds.specs.SameValue.{both, nat_is}
use Rattle.sg_kinds.specs.Evaluation.{bound_by}
use Rattle.sg_kinds.specs.Outcome.{outcome_of}
use Rattle.sg_kinds.specs.declared.spec.Spec.{Spec}
use Rattle.sg_kinds.specs.declared.spec.Transform.{Transform}
use Rattle.sg_matching.specs.declared.named.TransformFault.{TransformFault}
use Rattle.sg_matching.specs.declared.named.TransformFault.TheVariants as fault
use Rattle.sg_matching.specs.Refusal.{IsRefused}
use Rattle.sg_matching.specs.Transformation.{Unknown, NoMatch, Gives, is_of_name, first_outcome, given_by, transformation, applies}

module _ (spec : Spec) (p : ℕ) (name : Bytes) (v : Value) where
  -- the first of these that applies, where they are numbered from i on
  pub record IsFirst (i k : ℕ) (xs : List Transform) : Type 0 where
    pub transform : Transform
    pub place : ℕ
    pub at : slice_get xs place ≡ Some transform
    pub number : k ≡ i + place
    pub phylum : transform.phylum ≡ p
    pub bound : List Value
    pub binds : bound_by spec transform.pattern v ≡ Some bound
    pub gives : first_outcome spec v (filter (is_of_name p name) xs) ≡ Gives (outcome_of spec transform.expr bound)

  behind : (i k : ℕ) (x : Transform) (xs : List Transform) → IsFirst (i + 1) k xs → first_outcome spec v (filter (is_of_name p name) (x ∷ xs)) ≡ first_outcome spec v (filter (is_of_name p name) xs) → IsFirst i k (x ∷ xs)
  behind i k x xs f same = record {
    transform = f.transform;
    place = suc f.place;
    at = f.at;
    number = let n = f.number in omega (arith, n);
    phylum = f.phylum;
    bound = f.bound;
    binds = f.binds;
    gives = same ∙ f.gives;
  }

  pub first_found : (xs : List Transform) (i k : ℕ) → position_from (applies spec p name v) i xs ≡ Some k → IsFirst i k xs
  first_found [] i k e = cc
  first_found (x ∷ xs) i k e = by (is_of_name p name x) refl (bound_by spec x.pattern v) refl (first_found xs (i + 1) k)
    where
      passes : (b : Bool) (o : Option (List Value)) → is_of_name p name x ≡ b → bound_by spec x.pattern v ≡ o → cond (b && is_some o) (Some i) (position_from (applies spec p name v) (i + 1) xs) ≡ Some k
      passes b o n is = subst (λ c. cond (c && is_some o) (Some i) (position_from (applies spec p name v) (i + 1) xs) ≡ Some k) n (subst (λ c. cond (is_of_name p name x && is_some c) (Some i) (position_from (applies spec p name v) (i + 1) xs) ≡ Some k) is e)

      outcome : (b : Bool) (o : Option (List Value)) → is_of_name p name x ≡ b → bound_by spec x.pattern v ≡ o
          → first_outcome spec v (filter (is_of_name p name) (x ∷ xs)) ≡ cond b (option_map_or (λ bs. Gives (outcome_of spec x.expr bs)) o (first_outcome spec v (filter (is_of_name p name) xs))) (first_outcome spec v (filter (is_of_name p name) xs))
      outcome true o n is = rw (n, is) refl
      outcome false o n is = rw n refl

      by : (b : Bool) → is_of_name p name x ≡ b → (o : Option (List Value)) → bound_by spec x.pattern v ≡ o → (position_from (applies spec p name v) (i + 1) xs ≡ Some k → IsFirst (i + 1) k xs) → IsFirst i k (x ∷ xs)
      by true n (Some bs) is later =
          let here : Some i ≡ Some k = passes true (Some bs) n is in
          let same : i ≡ k = cc in
          record { transform = x; place = 0; at = refl; number = omega (arith, same); phylum = nat_is x.phylum p (both (nat_eq x.phylum p) (bytes_eq x.name name) n).0; bound = bs; binds = is; gives = outcome true (Some bs) n is }
      by true n None is later = behind i k x xs (later (passes true None n is)) (outcome true None n is)
      by false n o is later = behind i k x xs (later (passes false o n is)) (outcome false o n is)

  none_found : (xs : List Transform) (i : ℕ) → position_from (applies spec p name v) i xs ≡ None → first_outcome spec v (filter (is_of_name p name) xs) ≡ NoMatch
  none_found [] i e = refl
  none_found (x ∷ xs) i e = by (is_of_name p name x) refl (bound_by spec x.pattern v) refl (none_found xs (i + 1))
    where
      passes : (b : Bool) (o : Option (List Value)) → is_of_name p name x ≡ b → bound_by spec x.pattern v ≡ o → cond (b && is_some o) (Some i) (position_from (applies spec p name v) (i + 1) xs) ≡ None
      passes b o n is = subst (λ c. cond (c && is_some o) (Some i) (position_from (applies spec p name v) (i + 1) xs) ≡ None) n (subst (λ c. cond (is_of_name p name x && is_some c) (Some i) (position_from (applies spec p name v) (i + 1) xs) ≡ None) is e)

      by : (b : Bool) → is_of_name p name x ≡ b → (o : Option (List Value)) → bound_by spec x.pattern v ≡ o
          → (position_from (applies spec p name v) (i + 1) xs ≡ None → first_outcome spec v (filter (is_of_name p name) xs) ≡ NoMatch) → first_outcome spec v (filter (is_of_name p name) (x ∷ xs)) ≡ NoMatch
      by true n (Some bs) is later = let some : Some i ≡ None = passes true (Some bs) n is in cc
      by true n None is later = rw (n, is) (later (passes true None n is))
      by false n o is later = rw n (later (passes false o n is))

  gives_of : (xs : List Transform) (w : Value) → first_outcome spec v xs ≡ Gives w → given_by spec v xs ≡ Gives w
  gives_of [] w e = cc
  gives_of (x ∷ xs) w e = e

  -- what the name gives, by what was found
  pub transformation_found : (k : ℕ) (f : IsFirst 0 k spec.transforms) → transformation spec p name v ≡ Gives (outcome_of spec f.transform.expr f.bound)
  transformation_found k f = gives_of (filter (is_of_name p name) spec.transforms) _ f.gives

  some_named : (ys : List Transform) → list_any (is_of_name p name) ys ≡ true → filter (is_of_name p name) ys ≡ [] → ⊥
  some_named [] n = cc
  some_named (y ∷ ys) n = at (is_of_name p name y) refl (some_named ys)
    where
      at : (b : Bool) → is_of_name p name y ≡ b → (list_any (is_of_name p name) ys ≡ true → filter (is_of_name p name) ys ≡ [] → ⊥) → filter (is_of_name p name) (y ∷ ys) ≡ [] → ⊥
      at true t later f = let some : y ∷ filter (is_of_name p name) ys ≡ [] = rw t at f in cc
      at false t later f = later (rw t at n) (rw t at f)

  none_named : (ys : List Transform) → list_any (is_of_name p name) ys ≡ false → filter (is_of_name p name) ys ≡ []
  none_named [] n = refl
  none_named (y ∷ ys) n = at (is_of_name p name y) refl (none_named ys)
    where
      at : (b : Bool) → is_of_name p name y ≡ b → (list_any (is_of_name p name) ys ≡ false → filter (is_of_name p name) ys ≡ []) → filter (is_of_name p name) (y ∷ ys) ≡ []
      at true t later = let no : true ≡ false = rw t at n in cc
      at false t later = rw t (later (rw t at n))

  pub named_given : (xs : List Transform) → position_from (applies spec p name v) 0 xs ≡ None → list_any (is_of_name p name) xs ≡ true → given_by spec v (filter (is_of_name p name) xs) ≡ NoMatch
  named_given xs e named = by (filter (is_of_name p name) xs) (some_named xs named) (none_found xs 0 e)
    where
      by : (ys : List Transform) → (ys ≡ [] → ⊥) → first_outcome spec v ys ≡ NoMatch → given_by spec v ys ≡ NoMatch
      by [] not f = absurd (not refl)
      by (y ∷ ys) not f = f

  pub unnamed_given : (xs : List Transform) → list_any (is_of_name p name) xs ≡ false → given_by spec v (filter (is_of_name p name) xs) ≡ Unknown
  unnamed_given xs n = ap (given_by spec v) (none_named xs n)

-- an element of a list
pub item_there : {A : Type 0} (xs : List A) (k : ℕ) (x : A) → k < length xs → x ≡ get_or xs k x → slice_get xs k ≡ Some x
item_there [] k x low is = absurd (omega (arith, low))
item_there (y ∷ ys) zero x low is = ap Some (sym is)
item_there (y ∷ ys) (suc k) x low is = item_there ys k x (omega (arith, low)) is

-- why nothing was found
pub missing_refused : (spec : Spec) (p : ℕ) (name : Bytes) (v : Value) (r : TransformFault) → position_from (applies spec p name v) 0 spec.transforms ≡ None
    → MatchBool (list_any (is_of_name p name) spec.transforms) (r ≡ fault.NoMatch) (r ≡ fault.Unknown) → IsRefused r (transformation spec p name v)
missing_refused spec p name v r none why = by (list_any (is_of_name p name) spec.transforms) refl why
  where
    by : (b : Bool) → list_any (is_of_name p name) spec.transforms ≡ b → MatchBool b (r ≡ fault.NoMatch) (r ≡ fault.Unknown) → IsRefused r (transformation spec p name v)
    by true named e = subst (λ q. IsRefused q (transformation spec p name v)) (sym e) (named_given spec p name v spec.transforms none named)
    by false named e = subst (λ q. IsRefused q (transformation spec p name v)) (sym e) (unnamed_given spec p name v spec.transforms named)
