-- Completing terms and placeholders fit their phylum.
use Rattle.std.specs.Prelude.{slice_index_or, filter, cond, true, Bool, nat_eq, ◌≡◌, refl, ℕ, zero, suc, ◌<◌, pos, false, List, [], ◌∷◌, length, Option, Some, None, slice_get, option_map, option_and_then, unwrap_or, Contains, MatchOption}
use Rattle.std.proofs.Common.{arith, inl}
use Rattle.std.proofs.lemmas.Option.{get_or_from_slice_get, slice_get_within}
use Rattle.sg_kinds.specs.Values.{Truth, Number, Chars}
use Rattle.sg_kinds.specs.Terms.{Term, Terms, Leaf, Node, NoTerm, AndTerm}
use Rattle.sg_kinds.specs.Specification.{Spec, Shape, Phylum, Operator, args_of, phylum_of}
use Rattle.sg_kinds.specs.Fits.{Fits, AllFit, MayHold}
use Rattle.sg_kinds.specs.Instances.{below}
use Rattle.sg_kinds.specs.Completing.{all_made, over, one_element, completed, completing_within, completing}
use Rattle.sg_kinds.specs.Placeholder.{placeheld, placeholder_within, placeholder}
use Rattle.sg_kinds.specs.Sound.{is_operator_of, HasShapes, IsPhylum, IsShaped, IsList, IsPair}
use Rattle.sg_kinds.specs.declared.marks.Shape.TheVariants.{Truths, Numbers, Texts, Lexemes, Ordinary, Optional, Listed, OptionalListed}

-- what an answer came from
pub some_of_map : {A B : Type 0} (f : A → B) (o : Option A) (y : B) → option_map f o ≡ Some y → (x : A) × (o ≡ Some x) × (f x ≡ y)
some_of_map f None y h = cc
some_of_map f (Some x) y h = (x, refl, cc h)

pub some_of_then : {A B : Type 0} (f : A → Option B) (o : Option A) (y : B) → option_and_then f o ≡ Some y → (x : A) × (o ≡ Some x) × (f x ≡ Some y)
some_of_then f None y h = cc
some_of_then f (Some x) y h = (x, refl, h)

-- an operator of a phylum over children that fit
pub node_fits : (spec : Spec) (op p : ℕ) (ts : Terms) → phylum_of spec.ops op ≡ Some p → AllFit spec ts (args_of spec.ops op) → Fits spec (Node op 0 false ts) p
node_fits spec op p ts is fit = by (slice_get spec.ops op) is fit
  where
    by : (o : Option Operator) → option_map (λ (x : Operator). x.phylum) o ≡ Some p → AllFit spec ts (unwrap_or (option_map (λ (x : Operator). x.args) o) []) → MatchOption o ⊥ (λ x. (x.phylum ≡ p) × (0 < 16) × AllFit spec ts x.args)
    by None e f = cc
    by (Some x) e f = (cc e, omega arith, f)

module _ (spec : Spec) (made : ℕ → Option Term) (fits : (p : ℕ) (t : Term) → made p ≡ Some t → Fits spec t p) where
  pub all_made_fit : (ps : List ℕ) (ts : Terms) → all_made made ps ≡ Some ts → AllFit spec ts ps
  all_made_fit [] ts h = let e : NoTerm ≡ ts = cc h in rw (← e) tt
  all_made_fit (p ∷ ps) ts h =
      let a = some_of_then (λ t. option_map (AndTerm t) (all_made made ps)) (made p) ts h in
      let b = some_of_map (AndTerm a.0) (all_made made ps) ts a.2 in
      rw (← b.2) (fits p a.0 a.1, all_made_fit ps b.0 b.1)

  pub over_fits : (o : Option ℕ) (p : ℕ) (t : Term) → ((op : ℕ) → o ≡ Some op → phylum_of spec.ops op ≡ Some p) → over spec made o ≡ Some t → Fits spec t p
  over_fits None p t is h = cc
  over_fits (Some op) p t is h =
      let a = some_of_map (Node op 0 false) (all_made made (args_of spec.ops op)) t h in
      rw (← a.2) (node_fits spec op p a.0 (is op refl) (all_made_fit (args_of spec.ops op) a.0 a.1))

  pub pair_fits : (p nil pair : ℕ) (t : Term) → phylum_of spec.ops nil ≡ Some p → phylum_of spec.ops pair ≡ Some p → args_of spec.ops nil ≡ [] → IsPair p (args_of spec.ops pair) → one_element spec made (nil ∷ pair ∷ []) ≡ Some t → Fits spec t p
  pair_fits p nil pair t n_is p_is none is h = by (args_of spec.ops pair) refl is h
    where
      ended : Terms
      ended = AndTerm (Node nil 0 false NoTerm) NoTerm

      by : (args : List ℕ) → args_of spec.ops pair ≡ args → IsPair p args → option_map (λ x. Node pair 0 false (AndTerm x (AndTerm (Node nil 0 false NoTerm) NoTerm))) (option_and_then made (slice_get args 0)) ≡ Some t → Fits spec t p
      by [] e i g = elim i [ ]
      by (x ∷ []) e i g = elim i [ ]
      by (x ∷ y ∷ []) e i g =
          let a = some_of_map (λ x. Node pair 0 false (AndTerm x (AndTerm (Node nil 0 false NoTerm) NoTerm))) (made x) t g in
          let last : Fits spec (Node nil 0 false NoTerm) y = rw i.1 (node_fits spec nil p NoTerm n_is (rw none tt)) in
          rw (← a.2) (node_fits spec pair p (AndTerm a.0 (AndTerm (Node nil 0 false NoTerm) NoTerm)) p_is (rw e (fits x a.0 a.1, (last, tt))))
      by (x ∷ y ∷ z ∷ rest) e i g = elim i [ ]

  pub list_fits : (p : ℕ) (ops : List ℕ) (t : Term) → ((op : ℕ) → Contains ops op → phylum_of spec.ops op ≡ Some p) → IsList spec p ops → one_element spec made ops ≡ Some t → Fits spec t p
  list_fits p [] t of is h = elim is [ ]
  list_fits p (nil ∷ []) t of is h = elim is [ ]
  list_fits p (nil ∷ pair ∷ []) t of is h = pair_fits p nil pair t (of nil (0, omega arith, refl)) (of pair (1, omega arith, refl)) is.0 is.1 h
  list_fits p (nil ∷ pair ∷ more ∷ rest) t of is h = elim is [ ]

-- an element that stands in a list
contains_at : (xs : List ℕ) (k x : ℕ) → slice_get xs k ≡ Some x → Contains xs x
contains_at xs k x h = (k, slice_get_within xs k x h, get_or_from_slice_get xs k x x h)

leaf_fits : (spec : Spec) (p : ℕ) (x : Phylum) (t : Term) (v : _) → slice_get spec.phyla p ≡ Some x → MayHold spec x.shape v → Some (Leaf p v) ≡ Some t → Fits spec t p
leaf_fits spec p x t v e h is = let same : Leaf p v ≡ t = cc is in rw (← same) (refl, rw e h)

-- what passes the test of a filter
filter_passes : (f : ℕ → Bool) (xs : List ℕ) (k x : ℕ) → k < length (filter f xs) → slice_index_or (filter f xs) k x ≡ x → f x ≡ true
filter_passes f [] k x low is = absurd (omega (arith, low))
filter_passes f (y ∷ ys) k x low is = by (λ k. filter_passes f ys k x) (f y) refl k low is
  where
    by : ((k : ℕ) → k < length (filter f ys) → slice_index_or (filter f ys) k x ≡ x → f x ≡ true) → (b : Bool) → f y ≡ b → (k : ℕ) → k < length (cond b (y ∷ filter f ys) (filter f ys)) → slice_index_or (cond b (y ∷ filter f ys) (filter f ys)) k x ≡ x → f x ≡ true
    by again true e zero low is = rw (← is) e
    by again true e (suc k) low is = again k (omega (arith, low)) is
    by again false e k low is = again k low is

operator_is : (spec : Spec) (p op : ℕ) → is_operator_of spec p op ≡ true → phylum_of spec.ops op ≡ Some p
operator_is spec p op h = by (phylum_of spec.ops op) h
  where
    by : (o : Option ℕ) → unwrap_or (option_map (nat_eq p) o) false ≡ true → o ≡ Some p
    by None e = cc
    by (Some q) e = let f : p ≡ q = grind (arith, e) in rw f refl

module _ (spec : Spec) (made : ℕ → Option Term) (fits : (p : ℕ) (t : Term) → made p ≡ Some t → Fits spec t p) (p : ℕ) (x : Phylum) (t : Term)
    (here : slice_get spec.phyla p ≡ Some x) (is : IsPhylum spec p x) where
  of_ops : (op : ℕ) → Contains x.ops op → phylum_of spec.ops op ≡ Some p
  of_ops op c = let d = (rw is.ops at c) in operator_is spec p op (filter_passes (is_operator_of spec p) (below (length spec.ops)) d.0 op d.1 d.2)

  over_at : (k : ℕ) → over spec made (slice_get x.ops k) ≡ Some t → Fits spec t p
  over_at k h = over_fits spec made fits (slice_get x.ops k) p t (λ op e. of_ops op (contains_at x.ops k op e)) h

  completed_by : (shape : Shape) → x.shape ≡ shape → IsShaped spec p x shape → completed spec made p x.ops shape ≡ Some t → Fits spec t p
  completed_by Truths e s h = leaf_fits spec p x t (Truth false) here (rw e tt) h
  completed_by Numbers e s h = leaf_fits spec p x t (Number (pos 0)) here (rw e refl) h
  completed_by Texts e s h = leaf_fits spec p x t (Chars []) here (rw e refl) h
  completed_by (Lexemes l) e s h = leaf_fits spec p x t (Chars []) here (rw e (refl, inl refl)) h
  completed_by Ordinary e s h = over_at 0 h
  completed_by Optional e s h = over_at 0 h
  completed_by Listed e s h = list_fits spec made fits p x.ops t of_ops s h
  completed_by OptionalListed e s h = over_at 0 h

  placeheld_by : (shape : Shape) → x.shape ≡ shape → IsShaped spec p x shape → placeheld spec made p x.ops shape ≡ Some t → Fits spec t p
  placeheld_by Truths e s h = completed_by Truths e s h
  placeheld_by Numbers e s h = completed_by Numbers e s h
  placeheld_by Texts e s h = completed_by Texts e s h
  placeheld_by (Lexemes l) e s h = completed_by (Lexemes l) e s h
  placeheld_by Ordinary e s h = completed_by Ordinary e s h
  placeheld_by Optional e s h = over_at 1 h
  placeheld_by Listed e s h = completed_by Listed e s h
  placeheld_by OptionalListed e s h = list_fits spec made fits p x.ops t of_ops s h

pub completing_within_fits : (spec : Spec) → HasShapes spec → (room p : ℕ) (t : Term) → completing_within spec room p ≡ Some t → Fits spec t p
completing_within_fits spec sound zero p t h = cc
completing_within_fits spec sound (suc room) p t h =
    let a = some_of_then (λ (x : Phylum). completed spec (completing_within spec room) p x.ops x.shape) (slice_get spec.phyla p) t h in
    let is = sound.phyla p a.0 a.1 in
    completed_by spec (completing_within spec room) (completing_within_fits spec sound room) p a.0 t a.1 is a.0.shape refl is.shape a.2

pub placeholder_within_fits : (spec : Spec) → HasShapes spec → (room p : ℕ) (t : Term) → placeholder_within spec room p ≡ Some t → Fits spec t p
placeholder_within_fits spec sound room p t h =
    let a = some_of_then (λ (x : Phylum). placeheld spec (completing_within spec room) p x.ops x.shape) (slice_get spec.phyla p) t h in
    let is = sound.phyla p a.0 a.1 in
    placeheld_by spec (completing_within spec room) (completing_within_fits spec sound room) p a.0 t a.1 is a.0.shape refl is.shape a.2

-- what there is instead of a default
there : (o : Option Term) (d : Term) (P : Term → Type 0) → MatchOption o ⊥ P → o ≡ Some (unwrap_or o d)
there None d P h = elim h [ ]
there (Some t) d P h = refl

-- over a sound specification the completing term and the placeholder of each phylum fit it
pub completing_fits : (spec : Spec) → HasShapes spec → (p : ℕ) → p < length spec.phyla → Fits spec (completing spec p) p
unfolding completing
completing_fits spec sound p low = completing_within_fits spec sound 1024 p _ (there (completing_within spec 1024 p) _ _ (sound.finite p low).0)

pub placeholder_fits : (spec : Spec) → HasShapes spec → (p : ℕ) → p < length spec.phyla → Fits spec (placeholder spec p) p
unfolding placeholder
placeholder_fits spec sound p low = placeholder_within_fits spec sound 1023 p _ (there (placeholder_within spec 1023 p) _ _ (sound.finite p low).1)
