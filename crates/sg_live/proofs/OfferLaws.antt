-- The names that apply are those of the transformations that give something
use Rattle.std.proofs.Common.{◌≡◌, ℕ, List, [], ◌∷◌, ◌++◌, Bool, true, false, cond, ◌&&◌, ◌||◌, map, refl, sym, ap, subst, ◌∙◌}
use Rattle.std.specs.Prelude.{bytes_eq, nat_eq, filter, fold, is_some, Option, Some, None, if◌then◌else◌}
use Rattle.std.specs.Option.{option_map_or}
use Rattle.std.specs.List.{list_any}
use Rattle.std.proofs.lemmas.List.Folds.{list_any-append}
use Rattle.sg_kinds.proofs.Elementary.{bytes_is}
use Rattle.sg_kinds.specs.Evaluation.{bound_by}
use Rattle.sg_kinds.specs.Outcome.{outcome_of}
use Rattle.sg_kinds.specs.Values.{Bytes, Value}
use Rattle.sg_kinds.specs.declared.spec.Spec.{Spec}
use Rattle.sg_kinds.specs.declared.spec.Transform.{Transform}
use Rattle.sg_matching.specs.Transformation.{Gives, is_of_name, first_outcome, given_by, transformation}
use Rattle.sg_live.specs.Offers.{with_name, names_for, applies_to, is_given}

or_false : (a : Bool) → (a || false) ≡ a
or_false true = refl
or_false false = refl

or_assoc : (a b c : Bool) → ((a || b) || c) ≡ (a || (b || c))
or_assoc true b c = refl
or_assoc false b c = refl

bytes_sym : (xs ys : List ℕ) → bytes_eq xs ys ≡ bytes_eq ys xs
bytes_sym xs ys = by (bytes_eq xs ys) (bytes_eq ys xs) refl refl
  where
    turned : (a b : List ℕ) → bytes_eq a b ≡ true → bytes_eq b a ≡ true
    turned a b e =
        let s : a ≡ b = bytes_is a b e in
        subst (λ (z : List ℕ). bytes_eq b z ≡ true) (sym s) (subst (λ (z : List ℕ). bytes_eq z b ≡ true) s e)

    by : (a b : Bool) → bytes_eq xs ys ≡ a → bytes_eq ys xs ≡ b → a ≡ b
    by true true e f = refl
    by false false e f = refl
    by true false e f = let g = turned xs ys e in cc
    by false true e f = let g = turned ys xs f in cc

-- whether a name is among names
any_there : (n y : Bytes) (acc : List Bytes) → list_any (bytes_eq y) acc ≡ true → (b : Bool) → bytes_eq n y ≡ b → list_any (bytes_eq n) acc ≡ (list_any (bytes_eq n) acc || b)
any_there n y acc e false f = sym (or_false (list_any (bytes_eq n) acc))
any_there n y acc e true f =
    let one : list_any (bytes_eq n) acc ≡ true = subst (λ (z : Bytes). list_any (bytes_eq z) acc ≡ true) (sym (bytes_is n y f)) e in
    one ∙ ap (λ (b : Bool). b || true) (sym one)

any_with : (n y : Bytes) (acc : List Bytes) → list_any (bytes_eq n) (with_name acc y) ≡ (list_any (bytes_eq n) acc || bytes_eq n y)
any_with n y acc = by (list_any (bytes_eq y) acc) refl
  where
    by : (b : Bool) → list_any (bytes_eq y) acc ≡ b → list_any (bytes_eq n) (if b then acc else acc ++ y ∷ []) ≡ (list_any (bytes_eq n) acc || bytes_eq n y)
    by true e = any_there n y acc e (bytes_eq n y) refl
    by false e = list_any-append (bytes_eq n) acc (y ∷ []) ∙ ap (λ (b : Bool). list_any (bytes_eq n) acc || b) (or_false (bytes_eq n y))

any_once : (n : Bytes) (ys acc : List Bytes) → list_any (bytes_eq n) (fold with_name acc ys) ≡ (list_any (bytes_eq n) acc || list_any (bytes_eq n) ys)
any_once n [] acc = sym (or_false (list_any (bytes_eq n) acc))
any_once n (y ∷ ys) acc =
    any_once n ys (with_name acc y) ∙ ap (λ (b : Bool). b || list_any (bytes_eq n) ys) (any_with n y acc) ∙ or_assoc (list_any (bytes_eq n) acc) (bytes_eq n y) (list_any (bytes_eq n) ys)

any_named : (n : Bytes) (xs : List Transform) → list_any (bytes_eq n) (map (λ (x : Transform). x.name) xs) ≡ list_any (λ (x : Transform). bytes_eq n x.name) xs
any_named n [] = refl
any_named n (x ∷ xs) = ap (λ (b : Bool). bytes_eq n x.name || b) (any_named n xs)

-- among those that pass a test
any_step : {X : Type 0} (t : X → Bool) (x : X) (zs : List X) (rest b : Bool) → list_any t zs ≡ rest → list_any t (cond b (x ∷ zs) zs) ≡ ((b && t x) || rest)
any_step t x zs rest true e = ap (λ (b : Bool). t x || b) e
any_step t x zs rest false e = e

any_filter : {X : Type 0} (f t : X → Bool) (xs : List X) → list_any t (filter f xs) ≡ list_any (λ x. f x && t x) xs
any_filter f t [] = refl
any_filter f t (x ∷ xs) = any_step t x (filter f xs) (list_any (λ y. f y && t y) xs) (f x) (any_filter f t xs)

any_same : {X : Type 0} (p q : X → Bool) → ((x : X) → p x ≡ q x) → (xs : List X) → list_any p xs ≡ list_any q xs
any_same p q same [] = refl
any_same p q same (x ∷ xs) = ap (λ (b : Bool). b || list_any p xs) (same x) ∙ ap (λ (b : Bool). q x || b) (any_same p q same xs)

tests : (a b c d : Bool) → c ≡ d → ((a && b) && c) ≡ ((a && d) && b)
tests true true c d e = e ∙ by d
  where
    by : (x : Bool) → x ≡ (x && true)
    by true = refl
    by false = refl
tests true false c d e = by d
  where
    by : (x : Bool) → false ≡ (x && false)
    by true = refl
    by false = refl
tests false b c d e = refl

module _ (spec : Spec) (v : Value) where
  given_step : (x : Transform) (rest : List Transform) → is_given (first_outcome spec v rest) ≡ list_any (λ (y : Transform). is_some (bound_by spec y.pattern v)) rest
      → (b : Option (List Value)) → is_given (option_map_or (λ bound. Gives (outcome_of spec x.expr bound)) b (first_outcome spec v rest)) ≡ (is_some b || list_any (λ (y : Transform). is_some (bound_by spec y.pattern v)) rest)
  given_step x rest e None = e
  given_step x rest e (Some bound) = refl

  given_first : (xs : List Transform) → is_given (first_outcome spec v xs) ≡ list_any (λ (y : Transform). is_some (bound_by spec y.pattern v)) xs
  given_first [] = refl
  given_first (x ∷ xs) = given_step x xs (given_first xs) (bound_by spec x.pattern v)

  given_any : (xs : List Transform) → is_given (given_by spec v xs) ≡ list_any (λ (y : Transform). is_some (bound_by spec y.pattern v)) xs
  given_any [] = refl
  given_any (x ∷ xs) = given_first (x ∷ xs)

pub offered_given : (spec : Spec) (p : ℕ) (v : Value) (name : Bytes) → list_any (bytes_eq name) (names_for spec p v) ≡ is_given (transformation spec p name v)
offered_given spec p v name =
    let f : Transform → Bool = applies_to spec p v in
    let m : Transform → Bool = λ y. is_some (bound_by spec y.pattern v) in
    any_once name (map (λ (x : Transform). x.name) (filter f spec.transforms)) []
    ∙ any_named name (filter f spec.transforms)
    ∙ any_filter f (λ (x : Transform). bytes_eq name x.name) spec.transforms
    ∙ any_same (λ (x : Transform). f x && bytes_eq name x.name) (λ (x : Transform). is_of_name p name x && m x)
    (λ x. tests (nat_eq x.phylum p) (m x) (bytes_eq name x.name) (bytes_eq x.name name) (bytes_sym name x.name)) spec.transforms
    ∙ sym (any_filter (is_of_name p name) m spec.transforms)
    ∙ sym (given_any spec v (filter (is_of_name p name) spec.transforms))
