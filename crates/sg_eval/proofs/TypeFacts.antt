-- Types over a sound specification.
use Rattle.std.specs.Prelude.{◌≡◌, refl, ℕ, zero, suc, ◌<◌, ℤ, Bool, true, false, cond, ◌||◌, nat_eq, List, [], ◌∷◌, ◌++◌, map, filter, length, Option, Some, None, slice_get, option_map, unwrap_or, MatchOption, IsTrue, ◌⊎◌, take}
use Rattle.std.proofs.Common.{inl, inr, sym, ◌∙◌, ap, subst, arith}
use Rattle.std.proofs.lemmas.List.Elements.{filter-append}
use Rattle.std.proofs.lemmas.Option.{slice_get_within}
use Rattle.sg_kinds.specs.Values.{Bytes, Value, Truth, Number, Chars, Tree, Fault, is_text, is_number}
use Rattle.sg_kinds.specs.Terms.{Term, Leaf, Node}
use Rattle.sg_kinds.specs.ValueOf.{value_of}
use Rattle.sg_kinds.specs.Fits.{Fits, MayHold}
use Rattle.sg_kinds.specs.OfType.{IsOfType}
use Rattle.sg_kinds.specs.Specification.{truths, numbers, texts, has_shape, is_lexical_shape}
use Rattle.sg_kinds.specs.declared.spec.Spec.{Spec}
use Rattle.sg_kinds.specs.declared.spec.Phylum.{Phylum}
use Rattle.sg_kinds.specs.declared.spec.Operator.{Operator}
use Rattle.sg_kinds.specs.declared.marks.Shape.{Shape}
use Rattle.sg_kinds.specs.declared.marks.Shape.TheVariants.{Truths, Numbers, Texts, Lexemes}
use Rattle.sg_kinds.specs.declared.marks.FaultKind.{FaultKind}
use Rattle.sg_kinds.specs.Typing.{is_accepted, is_found, only_if, where_fits}
use Rattle.sg_kinds.specs.Sound.{IsSound, IsShaped, is_base_at, is_operator_of, base_names}
use Rattle.sg_kinds.specs.Instances.{below}
use Rattle.sg_kinds.specs.SameValue.{both, nat_is, nat_same}

-- tests and options
pub either : (a b : Bool) → a || b ≡ true → (a ≡ true) ⊎ (b ≡ true)
either true b h = inl refl
either false b h = inr h

pub only_if_is : (b : Bool) (p q : ℕ) → only_if b p ≡ Some q → (b ≡ true) × (p ≡ q)
only_if_is true p q h = (refl, cc)
only_if_is false p q h = cc

pub cond_is : {A : Type 0} (b : Bool) (o : Option A) (x : A) → cond b o None ≡ Some x → (b ≡ true) × (o ≡ Some x)
cond_is true o x h = (refl, h)
cond_is false o x h = cc

pub found_is : (spec : Spec) (wanted : ℕ) (o : Option ℕ) → is_found spec wanted o ≡ true → (q : ℕ) × (o ≡ Some q) × (is_accepted spec q wanted ≡ true)
found_is spec wanted None h = cc
found_is spec wanted (Some q) h = (q, refl, h)

pub fits_is : (spec : Spec) (wanted p r : ℕ) (o : Option ℕ) → where_fits spec wanted p o ≡ Some r → (q : ℕ) × (o ≡ Some q) × (is_accepted spec q wanted ≡ true) × (p ≡ r)
fits_is spec wanted p r None h = cc
fits_is spec wanted p r (Some q) h = let b = only_if_is (is_accepted spec q wanted) p r h in (q, refl, b.0, b.1)

pub there : {A : Type 0} (o : Option A) (P : A → Type 0) → MatchOption o ⊥ P → (x : A) × (o ≡ Some x) × P x
there None P h = absurd h
there (Some x) P h = (x, refl, h)

at : {A : Type 0} (o : Option A) (x : A) (P : A → Type 0) → o ≡ Some x → P x → MatchOption o ⊥ P
at o x P e h = subst (λ y. MatchOption y ⊥ P) (sym e) h

shape_is : (phyla : List Phylum) (test : Shape → Bool) (p : ℕ) → has_shape phyla test p ≡ true → (x : Phylum) × (slice_get phyla p ≡ Some x) × (test x.shape ≡ true)
shape_is phyla test p h = by (slice_get phyla p) refl
  where
    by : (o : Option Phylum) → slice_get phyla p ≡ o → (x : Phylum) × (slice_get phyla p ≡ Some x) × (test x.shape ≡ true)
    by None e = let n : false ≡ true = rw e at h in cc
    by (Some x) e = (x, e, rw e at h)

-- the numbers below a bound pass a test, if one of them does
append_none : {A : Type 0} (xs ys : List A) → xs ++ ys ≡ [] → (xs ≡ []) × (ys ≡ [])
append_none [] ys h = (refl, h)
append_none (x ∷ xs) ys h = cc

below_or : (n k : ℕ) → k < suc n → (k ≡ n) ⊎ (k < n)
below_or n k l = by (nat_eq k n) refl
  where
    by : (b : Bool) → nat_eq k n ≡ b → (k ≡ n) ⊎ (k < n)
    by true s = inl (nat_is k n s)
    by false s = inr (grind arith)

passes_last : (f : ℕ → Bool) (n k : ℕ) → k ≡ n → f k ≡ true → filter f (n ∷ []) ≡ [] → ⊥
passes_last f n k same h e = let t : f n ≡ true = subst (λ m. f m ≡ true) same h in let none : n ∷ [] ≡ [] = rw t at e in cc

pub none_passes : (f : ℕ → Bool) (n k : ℕ) → k < n → f k ≡ true → filter f (below n) ≡ [] → ⊥
none_passes f zero k l h e = absurd (omega arith)
none_passes f (suc n) k l h e =
    let parts = append_none (filter f (below n)) (filter f (n ∷ [])) (sym (filter-append f (below n) (n ∷ [])) ∙ e) in
    elim (below_or n k l) [ inl same ↦ passes_last f n k same h parts.1 | inr m ↦ none_passes f n k m h parts.0 ]

-- the operators of a base or lexeme phylum are none
module _ (spec : Spec) (sound : IsSound spec) where
  at_place : (op : ℕ) (o : Operator) (p : ℕ) → slice_get spec.ops op ≡ Some o → o.phylum ≡ p → is_operator_of spec p op ≡ true
  at_place op o p h e = ap (λ x. unwrap_or (option_map (nat_eq p) (option_map (λ (y : Operator). y.phylum) x)) false) h ∙ ap (nat_eq p) e ∙ nat_same p

  pub no_operator : (op : ℕ) (o : Operator) (p : ℕ) (x : Phylum) → slice_get spec.ops op ≡ Some o → o.phylum ≡ p → slice_get spec.phyla p ≡ Some x → x.ops ≡ [] → ⊥
  no_operator op o p x h e f none =
      none_passes (is_operator_of spec p) (length spec.ops) op (slice_get_within spec.ops op o h) (at_place op o p h e) (sym (sound.shapes.phyla p x f).ops ∙ none)

  lexical_ops : (p : ℕ) (x : Phylum) → slice_get spec.phyla p ≡ Some x → is_lexical_shape x.shape ≡ true → x.ops ≡ []
  lexical_ops p x h l = by x.shape refl (sound.shapes.phyla p x h).shape
    where
      by : (s : Shape) → x.shape ≡ s → IsShaped spec p x x.shape → x.ops ≡ []
      by (Lexemes n) e k = (subst (IsShaped spec p x) e k).0
      by s e k = let n : is_lexical_shape s ≡ true = rw e at l in cc

  -- a value of a lexeme phylum is a text
  lexical_text : (p : ℕ) (x : Phylum) (v : Value) → slice_get spec.phyla p ≡ Some x → is_lexical_shape x.shape ≡ true → (t : Term) → Fits spec t p → value_of t ≡ v → (s : Bytes) × IsTrue (is_text s) × (v ≡ Chars s)
  lexical_text p x v h l (Node op scheme elided ts) f e =
      let o = there (slice_get spec.ops op) _ f in
      absurd (no_operator op o.0 p x o.1 o.2.0 h (lexical_ops p x h l))
  lexical_text p x v h l (Leaf q w) f e =
      let m = there (slice_get spec.phyla p) _ f.1 in
      let same : m.0 ≡ x = (let z : Some m.0 ≡ Some x = sym m.1 ∙ h in cc) in
      held x.shape w l (subst (λ (y : Phylum). MayHold spec y.shape w) same m.2) e
    where
      held : (s : Shape) (w : Value) → is_lexical_shape s ≡ true → MayHold spec s w → w ≡ v → (s : Bytes) × IsTrue (is_text s) × (v ≡ Chars s)
      held (Lexemes n) (Chars b) l k e = (b, k.0, sym e)
      held (Lexemes n) (Truth b) l k e = absurd k
      held (Lexemes n) (Number z) l k e = absurd k
      held (Lexemes n) (Tree op vs) l k e = absurd k
      held (Lexemes n) (Fault kind) l k e = absurd k
      held s w l k e = cc

  pub typed_accepted : (p wanted : ℕ) (v : Value) → is_accepted spec p wanted ≡ true → IsOfType spec p v → IsOfType spec wanted v
  typed_accepted p wanted v a h = elim (either (nat_eq p wanted) _ a) [ inl e ↦ subst (λ q. IsOfType spec q v) (nat_is p wanted e) h | inr l ↦ lexical (both _ _ l) h ]
    where
      lexical : (has_shape spec.phyla is_lexical_shape p ≡ true) × (nat_eq wanted texts ≡ true) → IsOfType spec p v → IsOfType spec wanted v
      lexical l (inl f) = inl f
      lexical l (inr (inl t)) =
          let x = shape_is spec.phyla is_lexical_shape p l.0 in
          let s = lexical_text p x.0 v x.1 x.2 t.0 t.1 t.2 in
          inr (inr (s.0, nat_is wanted texts l.1, s.1, s.2))
      lexical l (inr (inr s)) = inr (inr (s.0, nat_is wanted texts l.1, s.2, s.3))

  -- the base phyla
  base_there : (k : ℕ) → k < 3 → (x : Phylum) × (slice_get spec.phyla k ≡ Some x)
  base_there k l = by spec.phyla sound.names.base k l
    where
      by : (ps : List Phylum) → map (λ (x : Phylum). x.name) (take 3 ps) ≡ base_names → (k : ℕ) → k < 3 → (x : Phylum) × (slice_get ps k ≡ Some x)
      by [] h k l = cc
      by (a ∷ []) h k l = cc
      by (a ∷ b ∷ []) h k l = cc
      by (a ∷ b ∷ c ∷ ps) h zero l = (a, refl)
      by (a ∷ b ∷ c ∷ ps) h (suc zero) l = (b, refl)
      by (a ∷ b ∷ c ∷ ps) h (suc (suc zero)) l = (c, refl)
      by (a ∷ b ∷ c ∷ ps) h (suc (suc (suc k))) l = absurd (omega (arith, l))

  base_0 : (s : Shape) → is_base_at 0 s ≡ true → s ≡ Truths
  base_0 Truths h = refl
  base_0 s h = cc

  base_1 : (s : Shape) → is_base_at 1 s ≡ true → s ≡ Numbers
  base_1 Numbers h = refl
  base_1 s h = cc

  base_2 : (s : Shape) → is_base_at 2 s ≡ true → s ≡ Texts
  base_2 Texts h = refl
  base_2 s h = cc

  pub truth_typed : (b : Bool) → IsOfType spec truths (Truth b)
  truth_typed b =
      let x = base_there 0 (omega arith) in
      inr (inl (Leaf 0 (Truth b), (refl, at (slice_get spec.phyla 0) x.0 _ x.1 (subst (λ s. MayHold spec s (Truth b)) (sym (base_0 _ (sound.shapes.phyla 0 x.0 x.1).base)) tt)), refl))

  pub number_typed : (z : ℤ) → is_number z ≡ true → IsOfType spec numbers (Number z)
  number_typed z h =
      let x = base_there 1 (omega arith) in
      inr (inl (Leaf 1 (Number z), (refl, at (slice_get spec.phyla 1) x.0 _ x.1 (subst (λ s. MayHold spec s (Number z)) (sym (base_1 _ (sound.shapes.phyla 1 x.0 x.1).base)) h)), refl))

  pub text_typed : (s : Bytes) → is_text s ≡ true → IsOfType spec texts (Chars s)
  text_typed s h = inr (inr (s, refl, h, refl))

  text_leaf : (s : Bytes) → is_text s ≡ true → Fits spec (Leaf texts (Chars s)) texts
  text_leaf s h =
      let x = base_there 2 (omega arith) in
      (refl, at (slice_get spec.phyla 2) x.0 _ x.1 (subst (λ s2. MayHold spec s2 (Chars s)) (sym (base_2 _ (sound.shapes.phyla 2 x.0 x.1).base)) h))

  -- what a value of a type is
  pub number_in_range : (p : ℕ) (z : ℤ) → IsOfType spec p (Number z) → is_number z ≡ true
  number_in_range p z (inl f) = let n = f.1 in cc
  number_in_range p z (inr (inr s)) = let n = s.3 in cc
  number_in_range p z (inr (inl t)) = by t.0 t.1 t.2
    where
      held : (s : Shape) (w : Value) → MayHold spec s w → w ≡ Number z → is_number z ≡ true
      held Numbers (Number y) k e = let same : y ≡ z = cc in subst (λ x. is_number x ≡ true) same k
      held s (Truth b) k e = cc
      held s (Chars b) k e = cc
      held s (Tree op vs) k e = cc
      held s (Fault kind) k e = cc
      held s (Number y) k e = absurd k

      by : (t : Term) → Fits spec t p → value_of t ≡ Number z → is_number z ≡ true
      by (Node op scheme elided ts) f e = cc
      by (Leaf q w) f e = let m = there (slice_get spec.phyla p) _ f.1 in held _ w m.2 e

  pub text_in_range : (p : ℕ) (b : Bytes) → IsOfType spec p (Chars b) → is_text b ≡ true
  text_in_range p b (inl f) = let n = f.1 in cc
  text_in_range p b (inr (inr s)) = let same : s.0 ≡ b = (let n = s.3 in cc) in subst (λ x. is_text x ≡ true) same s.2
  text_in_range p b (inr (inl t)) = by t.0 t.1 t.2
    where
      held : (s : Shape) (w : Value) → MayHold spec s w → w ≡ Chars b → is_text b ≡ true
      held Texts (Chars y) k e = let same : y ≡ b = cc in subst (λ x. is_text x ≡ true) same k
      held (Lexemes n) (Chars y) k e = let same : y ≡ b = cc in subst (λ x. is_text x ≡ true) same k.0
      held s (Truth c) k e = cc
      held s (Number z) k e = cc
      held s (Tree op vs) k e = cc
      held s (Fault kind) k e = cc
      held s (Chars y) k e = absurd k

      by : (t : Term) → Fits spec t p → value_of t ≡ Chars b → is_text b ≡ true
      by (Node op scheme elided ts) f e = cc
      by (Leaf q w) f e = let m = there (slice_get spec.phyla p) _ f.1 in held _ w m.2 e

  -- a value of a type that is no fault is the value of a term
  pub term_there : (p : ℕ) (v : Value) → ((kind : FaultKind) → v ≡ Fault kind → ⊥) → IsOfType spec p v → (t : Term) × Fits spec t p × (value_of t ≡ v)
  term_there p v n (inl f) = absurd (n f.0 f.1)
  term_there p v n (inr (inl t)) = t
  term_there p v n (inr (inr s)) = (Leaf texts (Chars s.0), subst (Fits spec (Leaf texts (Chars s.0))) (sym s.1) (text_leaf s.0 s.2), sym s.3)
