-- The equations that hand far attributes down: what each is like, and that an attribute of an argument has only one.
use Rattle.std.proofs.Common.{◌≡◌, ◌≢◌, ℕ, zero, suc, ◌+◌, ◌<◌, Bool, true, false, cond, ◌&&◌, if◌then◌else◌, nat_eq, nat_lt, List, [], ◌∷◌, ◌++◌, flat_map, length, Option, Some, None, slice_get, refl, sym, ap, subst, ◌∙◌, arith}
use Rattle.std.specs.Prelude.{find, option_map, option_and_then, unwrap_or}
use Rattle.std.specs.List.{AllByRecursion as Each, count_by}
use Rattle.std.proofs.lemmas.Bool.Decides.{nat_tests}
use Rattle.std.proofs.lemmas.Grind.{flat_map-append}
use Rattle.std.proofs.lemmas.List.{append_assoc}
use Rattle.std.proofs.lemmas.List.Sums.{sum_by-cons}
use Rattle.std.proofs.lemmas.Option.{slice_get_within}
use Rattle.sg_kinds.specs.Dependencies.{occurrence}
use Rattle.sg_kinds.specs.Far.{is_far, source_slot}
use Rattle.sg_kinds.specs.Instances.{below, defines}
use Rattle.sg_kinds.specs.Specification.{attrs_of, args_of, phylum_of}
use Rattle.sg_kinds.specs.declared.spec.Attr.{Attr}
use Rattle.sg_kinds.specs.declared.spec.Occurrence.{Occurrence}
use Rattle.sg_kinds.specs.declared.spec.Operator.{Operator}
use Rattle.sg_kinds.specs.declared.spec.Rule.{Rule}
use Rattle.sg_kinds.proofs.Elementary.{and_true, eq_itself, eq_false}
use Rattle.sg_names.specs.declared.table.Table.{Table}
use Rattle.sg_remote.specs.Handing.{source, rule, handed_by, slot_rules, argument_rules, operator_rules, handing}

pub each_append : {A : Type 0} (P : A → Type 0) (xs ys : List A) → Each P xs → Each P ys → Each P (xs ++ ys)
each_append P [] ys h k = k
each_append P (x ∷ xs) ys h k = (h.0, each_append P xs ys h.1 k)

pub each_weaker : {A : Type 0} (P Q : A → Type 0) (xs : List A) → ((x : A) → P x → Q x) → Each P xs → Each Q xs
each_weaker P Q [] step h = tt
each_weaker P Q (x ∷ xs) step h = (step x h.0, each_weaker P Q xs step h.1)

-- no element passes a test
abbrev pub NoneOf : {A : Type 0} → (A → Bool) → List A → Type 0
NoneOf p xs = Each (λ x. p x ≡ false) xs

-- this element passes it, and no other
pub record IsOnly {A : Type 0} (p : A → Bool) (x : A) (xs : List A) : Type 0 where
  pub front : List A
  pub back : List A
  pub is : xs ≡ front ++ x ∷ back
  pub before : NoneOf p front
  pub here : p x ≡ true
  pub behind : NoneOf p back

pub only_behind : {A : Type 0} (p : A → Bool) (x : A) (xs ys : List A) → NoneOf p xs → IsOnly p x ys → IsOnly p x (xs ++ ys)
only_behind p x xs ys none h = record {
  front = xs ++ h.front;
  back = h.back;
  is = ap (λ l. xs ++ l) h.is ∙ sym (append_assoc xs h.front (x ∷ h.back));
  before = each_append (λ y. p y ≡ false) xs h.front none h.before;
  here = h.here;
  behind = h.behind;
}

pub only_before : {A : Type 0} (p : A → Bool) (x : A) (xs ys : List A) → IsOnly p x xs → NoneOf p ys → IsOnly p x (xs ++ ys)
only_before p x xs ys h none = record {
  front = h.front;
  back = h.back ++ ys;
  is = ap (λ l. l ++ ys) h.is ∙ append_assoc h.front (x ∷ h.back) ys;
  before = h.before;
  here = h.here;
  behind = each_append (λ y. p y ≡ false) h.back ys h.behind none;
}

-- how much a test adds to a count
abbrev weight : Bool → ℕ
weight b = cond b 1 0

pub count_none : {A : Type 0} (p : A → Bool) (xs : List A) → NoneOf p xs → count_by p xs ≡ 0
count_none p [] h = refl
count_none p (x ∷ xs) h =
    let c : count_by p (x ∷ xs) ≡ weight (p x) + count_by p xs = sum_by-cons (λ y. cond (p y) 1 0) x xs in
    let o : weight (p x) ≡ 0 = ap weight h.0 in
    let r : count_by p xs ≡ 0 = count_none p xs h.1 in
    omega arith

pub count_only : {A : Type 0} (p : A → Bool) (x : A) (xs : List A) → IsOnly p x xs → count_by p xs ≡ 1
count_only {A} p x xs h = ap (count_by p) h.is ∙ at h.front h.before
  where
    at : (front : List A) → NoneOf p front → count_by p (front ++ x ∷ h.back) ≡ 1
    at [] none =
        let c : count_by p (x ∷ h.back) ≡ weight (p x) + count_by p h.back = sum_by-cons (λ y. cond (p y) 1 0) x h.back in
        let o : weight (p x) ≡ 1 = ap weight h.here in
        let r : count_by p h.back ≡ 0 = count_none p h.back h.behind in
        omega arith
    at (y ∷ front) none =
        let c : count_by p (y ∷ front ++ x ∷ h.back) ≡ weight (p y) + count_by p (front ++ x ∷ h.back) = sum_by-cons (λ z. cond (p z) 1 0) y (front ++ x ∷ h.back) in
        let o : weight (p y) ≡ 0 = ap weight none.0 in
        let r : count_by p (front ++ x ∷ h.back) ≡ 1 = at front none.1 in
        omega arith

pub find_only : {A : Type 0} (p : A → Bool) (x : A) (xs : List A) → IsOnly p x xs → find p xs ≡ Some x
find_only {A} p x xs h = ap (find p) h.is ∙ at h.front h.before
  where
    at : (front : List A) → NoneOf p front → find p (front ++ x ∷ h.back) ≡ Some x
    at [] none = ap (λ b. cond b (Some x) (find p h.back)) h.here
    at (y ∷ front) none = ap (λ b. cond b (Some y) (find p (front ++ x ∷ h.back))) none.0 ∙ at front none.1

-- lists of the numbers below one
each_below : {A : Type 0} (P : A → Type 0) (f : ℕ → List A) (n : ℕ) → ((m : ℕ) → m < n → Each P (f m)) → Each P (flat_map f (below n))
each_below P f zero step = tt
each_below P f (suc n) step =
    subst (Each P) (sym (flat_map-append f (below n) (n ∷ [])))
    (each_append P (flat_map f (below n)) (f n ++ []) (each_below P f n (λ m low. step m (omega (arith, low)))) (each_append P (f n) [] (step n (omega arith)) tt))

only_below : {A : Type 0} (p : A → Bool) (x : A) (f : ℕ → List A) (k n : ℕ) → ((m : ℕ) → m ≢ k → NoneOf p (f m)) → IsOnly p x (f k) → k < n → IsOnly p x (flat_map f (below n))
only_below p x f k zero none only low = absurd (omega (arith, low))
only_below p x f k (suc n) none only low = subst (IsOnly p x) (sym (flat_map-append f (below n) (n ∷ []))) (by (only_below p x f k n none only) (nat_lt k n) refl)
  where
    by : (k < n → IsOnly p x (flat_map f (below n))) → (b : Bool) → nat_lt k n ≡ b → IsOnly p x (flat_map f (below n) ++ (f n ++ []))
    by rest true less =
        let before : k < n = grind (arith, nat_tests) in
        only_before p x (flat_map f (below n)) (f n ++ []) (rest before)
        (each_append (λ y. p y ≡ false) (f n) [] (none n (omega (arith, before))) tt)
    by rest false less =
        let same : k ≡ n = grind (arith, nat_tests) in
        only_behind p x (flat_map f (below n)) (f n ++ []) (each_below (λ y. p y ≡ false) f n (λ m less. none m (omega (arith, less, same))))
        (only_before p x (f n) [] (subst (λ m. IsOnly p x (f m)) same only) tt)

-- a source is asked for far attributes alone
pub source_far : (t : Table) (op : ℕ) (a : Attr) (z : ℕ) → source t op a ≡ Some z → is_far a ≡ true
source_far t op a z h = by (is_far a) h
  where
    by : (b : Bool) → (if b then option_and_then (λ p. source_slot t.phyla p a.far) (phylum_of t.ops op) else None) ≡ Some z → b ≡ true
    by true e = refl
    by false e = cc

-- an operator that has an argument is there
op_there : (ops : List Operator) (op k q : ℕ) → slice_get (args_of ops op) k ≡ Some q → op < length ops
op_there ops op k q h = by (slice_get ops op) refl h
  where
    by : (o : Option Operator) → slice_get ops op ≡ o → slice_get (unwrap_or (option_map (λ (x : Operator). x.args) o) []) k ≡ Some q → op < length ops
    by None e f = cc
    by (Some x) e f = slice_get_within ops op x e

module _ (t : Table) (e : ℕ) where
  module _ (op : ℕ) where
    -- the slots from s on
    each_slots : (P : Rule → Type 0) (at s : ℕ) (attrs : List Attr)
        → ((j n z : ℕ) (a : Attr) → n ≡ s + j → slice_get attrs j ≡ Some a → source t op a ≡ Some z → P (rule e op (occurrence at n) z)) → Each P (slot_rules t e op at s attrs)
    each_slots P at s [] step = tt
    each_slots P at s (a ∷ attrs) step =
        each_append P (handed_by e op (occurrence at s) (source t op a)) (slot_rules t e op at (suc s) attrs) (one (source t op a) refl)
        (each_slots P at (suc s) attrs (λ j n z b same there is. step (suc j) n z b (omega (arith, same)) there is))
      where
        one : (o : Option ℕ) → source t op a ≡ o → Each P (handed_by e op (occurrence at s) o)
        one None is = tt
        one (Some z) is = (step 0 s z a (omega arith) refl is, tt)

    -- the arguments from k on
    each_arguments : (P : Rule → Type 0) (k : ℕ) (qs : List ℕ)
        → ((i m q j z : ℕ) (a : Attr) → m ≡ suc (k + i) → slice_get qs i ≡ Some q → slice_get (attrs_of t.phyla q) j ≡ Some a → source t op a ≡ Some z → P (rule e op (occurrence m j) z))
        → Each P (argument_rules t e op k qs)
    each_arguments P k [] step = tt
    each_arguments P k (q ∷ qs) step =
        each_append P (slot_rules t e op (suc k) 0 (attrs_of t.phyla q)) (argument_rules t e op (suc k) qs)
        (each_slots P (suc k) 0 (attrs_of t.phyla q) (λ j n z a same there is.
        let n_is : n ≡ j = omega (arith, same) in step 0 (suc k) q n z a (omega arith) refl (ap (slice_get (attrs_of t.phyla q)) n_is ∙ there) is))
        (each_arguments P (suc k) qs (λ i m r j z a same arg there is. step (suc i) m r j z a (omega (arith, same)) arg there is))

    -- another rule of the operator
    other_slot : (at m n y : ℕ) → m ≢ n → defines op (occurrence at n) (rule e op (occurrence at m) y) ≡ false
    other_slot at m n y apart = ap (λ b. nat_eq op op && (nat_eq at at && b)) (eq_false m n apart) ∙ none (nat_eq op op) (nat_eq at at)
      where
        none : (a b : Bool) → (a && (b && false)) ≡ false
        none true true = refl
        none true false = refl
        none false b = refl

    other_at : (m at j s y : ℕ) → m ≢ at → defines op (occurrence at s) (rule e op (occurrence m j) y) ≡ false
    other_at m at j s y apart = ap (λ b. nat_eq op op && (b && nat_eq j s)) (eq_false m at apart) ∙ none (nat_eq op op)
      where
        none : (a : Bool) → (a && false) ≡ false
        none true = refl
        none false = refl

    this_rule : (o : Occurrence) (z : ℕ) → defines op o (rule e op o z) ≡ true
    this_rule o z = and_true (nat_eq op op) (nat_eq o.at o.at && nat_eq o.slot o.slot) (eq_itself op) (and_true (nat_eq o.at o.at) (nat_eq o.slot o.slot) (eq_itself o.at) (eq_itself o.slot))

    only_slots : (at s : ℕ) (attrs : List Attr) (j n z : ℕ) (a : Attr) → n ≡ s + j → slice_get attrs j ≡ Some a → source t op a ≡ Some z
        → IsOnly (defines op (occurrence at n)) (rule e op (occurrence at n) z) (slot_rules t e op at s attrs)
    only_slots at s [] j n z a same there is = cc
    only_slots at s (x ∷ attrs) zero n z a same there is =
        let first : n ≡ s = omega (arith, same) in
        let x_is : x ≡ a = cc in
        let from : Some z ≡ source t op x = sym is ∙ ap (source t op) (sym x_is) in
        only_before (defines op (occurrence at n)) (rule e op (occurrence at n) z) (handed_by e op (occurrence at s) (source t op x)) (slot_rules t e op at (suc s) attrs)
        (subst (λ o. IsOnly (defines op (occurrence at n)) (rule e op (occurrence at n) z) (handed_by e op (occurrence at s) o)) from
        (record { front = []; back = []; is = ap (λ m. rule e op (occurrence at m) z ∷ []) (sym first); before = tt; here = this_rule (occurrence at n) z; behind = tt }))
        (each_slots (λ r. defines op (occurrence at n) r ≡ false) at (suc s) attrs (λ i m y b behind there is. other_slot at m n y (omega (arith, first, behind))))
    only_slots at s (x ∷ attrs) (suc j) n z a same there is =
        only_behind (defines op (occurrence at n)) (rule e op (occurrence at n) z) (handed_by e op (occurrence at s) (source t op x)) (slot_rules t e op at (suc s) attrs)
        (one (source t op x)) (only_slots at (suc s) attrs j n z a (omega (arith, same)) there is)
      where
        one : (o : Option ℕ) → NoneOf (defines op (occurrence at n)) (handed_by e op (occurrence at s) o)
        one None = tt
        one (Some y) = (other_slot at s n y (omega (arith, same)), tt)

    only_arguments : (k : ℕ) (qs : List ℕ) (i m q j z : ℕ) (a : Attr) → m ≡ suc (k + i) → slice_get qs i ≡ Some q → slice_get (attrs_of t.phyla q) j ≡ Some a → source t op a ≡ Some z
        → IsOnly (defines op (occurrence m j)) (rule e op (occurrence m j) z) (argument_rules t e op k qs)
    only_arguments k [] i m q j z a same arg there is = cc
    only_arguments k (x ∷ qs) zero m q j z a same arg there is =
        let first : suc k ≡ m = omega (arith, same) in
        let x_is : q ≡ x = cc in
        only_before (defines op (occurrence m j)) (rule e op (occurrence m j) z) (slot_rules t e op (suc k) 0 (attrs_of t.phyla x)) (argument_rules t e op (suc k) qs)
        (subst (λ at. IsOnly (defines op (occurrence m j)) (rule e op (occurrence m j) z) (slot_rules t e op at 0 (attrs_of t.phyla x))) (sym first)
        (only_slots m 0 (attrs_of t.phyla x) j j z a (omega arith) (ap (λ p. slice_get (attrs_of t.phyla p) j) (sym x_is) ∙ there) is))
        (each_arguments (λ r. defines op (occurrence m j) r ≡ false) (suc k) qs (λ i n r s y b behind arg there is. other_at n m s j y (omega (arith, first, behind))))
    only_arguments k (x ∷ qs) (suc i) m q j z a same arg there is =
        only_behind (defines op (occurrence m j)) (rule e op (occurrence m j) z) (slot_rules t e op (suc k) 0 (attrs_of t.phyla x)) (argument_rules t e op (suc k) qs)
        (each_slots (λ r. defines op (occurrence m j) r ≡ false) (suc k) 0 (attrs_of t.phyla x) (λ i n y b here there is. other_at (suc k) m n j y (omega (arith, same))))
        (only_arguments (suc k) qs i m q j z a (omega (arith, same)) arg there is)

  -- all of them
  pub each_handing : (P : Rule → Type 0)
      → ((op k q s z : ℕ) (a : Attr) → slice_get (args_of t.ops op) k ≡ Some q → slice_get (attrs_of t.phyla q) s ≡ Some a → source t op a ≡ Some z → P (rule e op (occurrence (suc k) s) z)) → Each P (handing t e)
  each_handing P step =
      each_below P (operator_rules t e) (length t.ops) (λ op low. each_arguments op P 0 (args_of t.ops op) (λ i m q j z a same arg there is.
      let m_is : suc i ≡ m = omega (arith, same) in subst (λ n. P (rule e op (occurrence n j) z)) m_is (step op i q j z a arg there is)))

  pub only_handing : (op k q s z : ℕ) (a : Attr) → slice_get (args_of t.ops op) k ≡ Some q → slice_get (attrs_of t.phyla q) s ≡ Some a → source t op a ≡ Some z
      → IsOnly (defines op (occurrence (suc k) s)) (rule e op (occurrence (suc k) s) z) (handing t e)
  only_handing op k q s z a arg there is =
      only_below (defines op (occurrence (suc k) s)) (rule e op (occurrence (suc k) s) z) (operator_rules t e) op (length t.ops)
      (λ m apart. each_arguments m (λ r. defines op (occurrence (suc k) s) r ≡ false) 0 (args_of t.ops m)
      (λ i n r j y b same arg there is. ap (λ b. b && (nat_eq n (suc k) && nat_eq j s)) (eq_false m op apart)))
      (only_arguments op 0 (args_of t.ops op) k (suc k) q s z a (omega arith) arg there is) (op_there t.ops op k q arg)
