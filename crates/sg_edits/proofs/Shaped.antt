-- What the operators of lists say of their terms, where shapes are sound.
use Rattle.std.specs.Prelude.{◌≡◌, refl, ℕ, ◌<◌, Bool, true, false, ◌&&◌, nat_eq, IsTrue, not, bytes_eq, All, Contains, List, [], ◌∷◌, length, Option, Some, None, slice_get, option_map, option_and_then, unwrap_or, MatchOption, cond}
use Rattle.std.proofs.Common.{sym, ap, ◌∙◌, subst, arith, inl, inr}
use Rattle.std.proofs.lemmas.Bool.{false≢true}
use Rattle.std.proofs.lemmas.Option.{slice_get_within}
use Rattle.sg_kinds.proofs.Elementary.{eq_is, eq_itself, option_map_some, slice_get-All}
use Rattle.sg_kinds.proofs.MadeFits.{placeholder_fits, node_fits}
use Rattle.sg_kinds.specs.Fits.{Fits, AllFit, MayHold}
use Rattle.sg_kinds.specs.Instances.{below}
use Rattle.sg_kinds.specs.Placeholder.{placeholder}
use Rattle.sg_kinds.specs.Sound.{HasShapes, IsList, IsPair, IsShaped, is_operator_of, is_pair, operators_of}
use Rattle.sg_kinds.specs.Specification.{args_of, phylum_of, has_shape, is_list_shape, is_lexical_shape}
use Rattle.sg_kinds.specs.Terms.{Term, Terms, Leaf, Node, NoTerm, AndTerm}
use Rattle.sg_kinds.specs.Typing.{is_usable, whitespace}
use Rattle.sg_kinds.specs.declared.marks.Shape.{Shape}
use Rattle.sg_kinds.specs.declared.marks.Shape.TheVariants.{Truths, Numbers, Texts, Lexemes, Ordinary, Optional, Listed, OptionalListed}
use Rattle.sg_kinds.specs.declared.spec.Operator.{Operator}
use Rattle.sg_kinds.specs.declared.spec.Phylum.{Phylum}
use Rattle.sg_kinds.specs.declared.spec.Spec.{Spec}
use Rattle.sg_groves.proofs.Lists.{below_has, contains_either, contains_first, contains_none, filter_from, filter_to}
use Rattle.sg_build.proofs.Roots.{is_operator}
use Rattle.sg_select.specs.Paths.{is_list_node}
use Rattle.sg_edits.specs.Edits.{element_in, elements_in, empty_of, joined, longer, paired, rest_of}

-- a term fits a phylum that is there
pub phylum_low : (spec : Spec) → HasShapes spec → (t : Term) (p : ℕ) → Fits spec t p → p < length spec.phyla
phylum_low spec shapes (Leaf q v) p f = by (slice_get spec.phyla p) refl f.1
  where
    by : (o : Option Phylum) → slice_get spec.phyla p ≡ o → MatchOption o ⊥ (λ (x : Phylum). MayHold spec x.shape v) → p < length spec.phyla
    by None at h = absurd h
    by (Some x) at h = slice_get_within spec.phyla p x at
phylum_low spec shapes (Node op n elided ts) p f = by (slice_get spec.ops op) refl f
  where
    by : (o : Option Operator) → slice_get spec.ops op ≡ o → MatchOption o ⊥ (λ (x : Operator). (x.phylum ≡ p) × (n < 16) × AllFit spec ts x.args) → p < length spec.phyla
    by None at h = absurd h
    by (Some x) at h = let low = slice_get-All (λ (o : Operator). o.phylum < length spec.phyla) spec.ops op x shapes.ops at in omega (arith, low, h.0)

usable_low : (spec : Spec) (p : ℕ) → IsTrue (is_usable spec p) → p < length spec.phyla
usable_low spec p is = by (slice_get spec.phyla p) refl is
  where
    by : (o : Option Phylum) → slice_get spec.phyla p ≡ o → unwrap_or (option_map (λ (x : Phylum). not (is_lexical_shape x.shape && bytes_eq x.name whitespace)) o) false ≡ true → p < length spec.phyla
    by None at h = absurd (false≢true h)
    by (Some x) at h = slice_get_within spec.phyla p x at

listed : (spec : Spec) (p : ℕ) (x : Phylum) (s : Shape) → is_list_shape s ≡ true → IsShaped spec p x s → IsList spec p x.ops
listed spec p x Listed h k = k
listed spec p x OptionalListed h k = k
listed spec p x Truths h k = absurd (false≢true h)
listed spec p x Numbers h k = absurd (false≢true h)
listed spec p x Texts h k = absurd (false≢true h)
listed spec p x (Lexemes n) h k = absurd (false≢true h)
listed spec p x Ordinary h k = absurd (false≢true h)
listed spec p x Optional h k = absurd (false≢true h)

-- the arguments of a list's binary operator: an element and the list
pub record IsPairOf (spec : Spec) (op p : ℕ) : Type 0 where
  pub element : ℕ
  pub args : args_of spec.ops op ≡ element ∷ p ∷ []
  pub low : element < length spec.phyla

both : (a b : Bool) → (a && b) ≡ true → (a ≡ true) × (b ≡ true)
both true b h = (refl, h)
both false b h = absurd (false≢true h)

module _ (spec : Spec) (shapes : HasShapes spec) (op p : ℕ) (of : phylum_of spec.ops op ≡ Some p) where
  -- the operator is there
  operator_there : (o : Operator) × (slice_get spec.ops op ≡ Some o) × (o.phylum ≡ p)
  operator_there = option_map_some (λ (o : Operator). o.phylum) (slice_get spec.ops op) p of

  args_low : (e : ℕ) → slice_get (args_of spec.ops op) 0 ≡ Some e → e < length spec.phyla
  args_low e at =
      let o = operator_there in
      let args = slice_get-All (λ (x : Operator). All (λ q. IsTrue (is_usable spec q)) x.args) spec.ops op o.0 shapes.args o.1 in
      let same : args_of spec.ops op ≡ o.0.args = ap (λ z. unwrap_or (option_map (λ (x : Operator). x.args) z) []) o.1 in
      usable_low spec e (slice_get-All (λ q. IsTrue (is_usable spec q)) o.0.args 0 e args (ap (λ l. slice_get l 0) (sym same) ∙ at))

  by_args : (args : List ℕ) → args_of spec.ops op ≡ args → IsPair p args → IsPairOf spec op p
  by_args [] at is = absurd is
  by_args (e ∷ []) at is = absurd is
  by_args (e ∷ q ∷ []) at is = record { element = e; args = at ∙ ap (λ r. e ∷ r ∷ []) is.1; low = args_low e (ap (λ l. slice_get l 0) at) }
  by_args (e ∷ q ∷ r ∷ rs) at is = absurd is

  in_ops : Contains (operators_of spec p) op
  in_ops =
      let o = operator_there in
      filter_to (is_operator_of spec p) (below (length spec.ops)) op (below_has (length spec.ops) op (slice_get_within spec.ops op o.0 o.1))
      (ap (λ z. unwrap_or (option_map (nat_eq p) z) false) of ∙ eq_itself p)

  by_ops : (ops : List ℕ) → IsList spec p ops → Contains ops op → length (args_of spec.ops op) ≡ 2 → IsPairOf spec op p
  by_ops [] is has long = absurd is
  by_ops (nil ∷ []) is has long = absurd is
  by_ops (nil ∷ pair ∷ []) is has long = elim (contains_either nil (pair ∷ []) op has) [
    | inl same ↦ (let none : 0 ≡ length (args_of spec.ops op) = sym (ap length (sym (ap (args_of spec.ops) same) ∙ is.0)) in absurd (omega (arith, none, long)))
    | inr more ↦ elim (contains_either pair [] op more) [
      | inl same ↦ by_args (args_of spec.ops op) refl (subst (λ k. IsPair p (args_of spec.ops k)) same is.1)
      | inr none ↦ absurd (contains_none op none)
    ]
  ]
  by_ops (nil ∷ pair ∷ o ∷ os) is has long = absurd is

  pub pair_is : is_pair spec op ≡ true → IsPairOf spec op p
  pair_is is =
      let h : (has_shape spec.phyla is_list_shape p && nat_eq (length (args_of spec.ops op)) 2) ≡ true = ap (λ o. unwrap_or (option_map (λ q. has_shape spec.phyla is_list_shape q && nat_eq (length (args_of spec.ops op)) 2) o) false) (sym of) ∙ is in
      let two = both (has_shape spec.phyla is_list_shape p) (nat_eq (length (args_of spec.ops op)) 2) h in
      by (slice_get spec.phyla p) refl two.0 (eq_is (length (args_of spec.ops op)) 2 two.1)
    where
      by : (o : Option Phylum) → slice_get spec.phyla p ≡ o → unwrap_or (option_map (λ (x : Phylum). is_list_shape x.shape) o) false ≡ true → length (args_of spec.ops op) ≡ 2 → IsPairOf spec op p
      by None at h long = absurd (false≢true h)
      by (Some x) at h long =
          let phylum = shapes.phyla p x at in
          by_ops x.ops (listed spec p x x.shape h phylum.shape) (subst (λ l. Contains l op) (sym phylum.ops) in_ops) long

-- a list's node, by its parts
pub record IsListTerm (spec : Spec) (x : Term) (p : ℕ) : Type 0 where
  pub op : ℕ
  pub scheme : ℕ
  pub elided : Bool
  pub first : Term
  pub rest : Term
  pub element : ℕ
  pub is : x ≡ Node op scheme elided (AndTerm first (AndTerm rest NoTerm))
  pub pair : is_pair spec op ≡ true
  pub of : phylum_of spec.ops op ≡ Some p
  pub args : args_of spec.ops op ≡ element ∷ p ∷ []
  pub low : element < length spec.phyla
  pub first_fits : Fits spec first element
  pub rest_fits : Fits spec rest p

operator_phylum : (spec : Spec) (op n p : ℕ) (elided : Bool) (ts : Terms) → Fits spec (Node op n elided ts) p → phylum_of spec.ops op ≡ Some p
operator_phylum spec op n p elided ts f = by (slice_get spec.ops op) f
  where
    by : (o : Option Operator) → MatchOption o ⊥ (λ (x : Operator). (x.phylum ≡ p) × (n < 16) × AllFit spec ts x.args) → option_map (λ (x : Operator). x.phylum) o ≡ Some p
    by None h = absurd h
    by (Some x) h = ap Some h.0

pub list_term : (spec : Spec) → HasShapes spec → (x : Term) (p : ℕ) → Fits spec x p → is_list_node spec x ≡ true → IsListTerm spec x p
list_term spec shapes (Leaf q v) p f is = absurd (false≢true is)
list_term spec shapes (Node op n elided ts) p f is =
    let of = operator_phylum spec op n p elided ts f in
    let pair = pair_is spec shapes op p of is in
    by pair of ts (subst (AllFit spec ts) pair.args (is_operator spec op n p ts elided f).fit)
  where
    by : (pair : IsPairOf spec op p) → phylum_of spec.ops op ≡ Some p → (ts : Terms) → AllFit spec ts (pair.element ∷ p ∷ []) → IsListTerm spec (Node op n elided ts) p
    by pair of NoTerm fit = absurd fit
    by pair of (AndTerm a NoTerm) fit = absurd fit.1
    by pair of (AndTerm a (AndTerm b NoTerm)) fit = record {
      op = op;
      scheme = n;
      elided = elided;
      first = a;
      rest = b;
      element = pair.element;
      is = refl;
      pair = is;
      of = of;
      args = pair.args;
      low = pair.low;
      first_fits = fit.0;
      rest_fits = fit.1.0;
    }
    by pair of (AndTerm a (AndTerm b (AndTerm d ds))) fit = absurd fit.1.1

pub rest_fits : (spec : Spec) → HasShapes spec → (x : Term) (p : ℕ) → Fits spec x p → is_list_node spec x ≡ true → Fits spec (rest_of x) p
rest_fits spec shapes x p f is = let l = list_term spec shapes x p f is in subst (λ s. Fits spec (rest_of s) p) (sym l.is) l.rest_fits

-- its element, and the phylum of that
pub element_fits : (spec : Spec) → HasShapes spec → (x : Term) (p : ℕ) → Fits spec x p → is_list_node spec x ≡ true → Fits spec (element_in x) (elements_in spec x)
element_fits spec shapes x p f is =
    let l = list_term spec shapes x p f is in
    let e : unwrap_or (slice_get (args_of spec.ops l.op) 0) 0 ≡ l.element = ap (λ a. unwrap_or (slice_get a 0) 0) l.args in
    subst (λ s. Fits spec (element_in s) (elements_in spec s)) (sym l.is) (subst (Fits spec l.first) (sym e) l.first_fits)

pub element_low : (spec : Spec) → HasShapes spec → (x : Term) (p : ℕ) → Fits spec x p → is_list_node spec x ≡ true → elements_in spec x < length spec.phyla
element_low spec shapes x p f is = phylum_low spec shapes (element_in x) (elements_in spec x) (element_fits spec shapes x p f is)

-- an element of that phylum before a list
pub paired_fits : (spec : Spec) → HasShapes spec → (x a r : Term) (p : ℕ) → Fits spec x p → is_list_node spec x ≡ true → Fits spec a (elements_in spec x) → Fits spec r p → Fits spec (paired x a r) p
paired_fits spec shapes x a r p f is first rest =
    let l = list_term spec shapes x p f is in
    let e : unwrap_or (slice_get (args_of spec.ops l.op) 0) 0 ≡ l.element = ap (λ o. unwrap_or (slice_get o 0) 0) l.args in
    let of : elements_in spec x ≡ l.element = ap (elements_in spec) l.is ∙ e in
    let ts : Terms = AndTerm a (AndTerm r NoTerm) in
    let all : AllFit spec ts (args_of spec.ops l.op) = subst (AllFit spec ts) (sym l.args) (subst (Fits spec a) of first, (rest, tt)) in
    subst (λ s. Fits spec (paired s a r) p) (sym l.is) (node_fits spec l.op p ts l.of all)

pub longer_fits : (spec : Spec) → HasShapes spec → (x r : Term) (p : ℕ) → Fits spec x p → is_list_node spec x ≡ true → Fits spec r p → Fits spec (longer spec x r) p
longer_fits spec shapes x r p f is fits =
    paired_fits spec shapes x (placeholder spec (elements_in spec x)) r p f is (placeholder_fits spec shapes (elements_in spec x) (element_low spec shapes x p f is)) fits

-- a list without elements
pub empty_fits : (spec : Spec) → HasShapes spec → (x : Term) (p : ℕ) → Fits spec x p → is_list_node spec x ≡ true → Fits spec (empty_of spec p) p
empty_fits spec shapes x p f is =
    let l = list_term spec shapes x p f is in
    by (slice_get spec.phyla p) refl (both (has_shape spec.phyla is_list_shape p) (nat_eq (length (args_of spec.ops l.op)) 2) (ap (λ o. unwrap_or (option_map (λ q. has_shape spec.phyla is_list_shape q && nat_eq (length (args_of spec.ops l.op)) 2) o) false) (sym l.of) ∙ l.pair)).0
  where
    by_ops : (y : Phylum) → slice_get spec.phyla p ≡ Some y → (ops : List ℕ) → y.ops ≡ ops → IsList spec p ops → Fits spec (Node (unwrap_or (slice_get ops 0) 0) 0 false NoTerm) p
    by_ops y at [] same is = absurd is
    by_ops y at (nil ∷ []) same is = absurd is
    by_ops y at (nil ∷ pair ∷ []) same is =
        let has : Contains (operators_of spec p) nil = subst (λ l. Contains l nil) (sym same ∙ (shapes.phyla p y at).ops) (contains_first nil (pair ∷ [])) in
        let test = (filter_from (is_operator_of spec p) (below (length spec.ops)) nil has).1 in
        node_fits spec nil p NoTerm (of_phylum nil test) (subst (AllFit spec NoTerm) (sym is.0) tt)
      where
        of_phylum : (op : ℕ) → is_operator_of spec p op ≡ true → phylum_of spec.ops op ≡ Some p
        of_phylum op test = by_phylum (phylum_of spec.ops op) test
          where
            by_phylum : (o : Option ℕ) → unwrap_or (option_map (nat_eq p) o) false ≡ true → o ≡ Some p
            by_phylum None h = absurd (false≢true h)
            by_phylum (Some q) h = ap Some (sym (eq_is p q h))
    by_ops y at (nil ∷ pair ∷ o ∷ os) same is = absurd is

    by : (o : Option Phylum) → slice_get spec.phyla p ≡ o → unwrap_or (option_map (λ (y : Phylum). is_list_shape y.shape) o) false ≡ true → Fits spec (empty_of spec p) p
    by None at h = absurd (false≢true h)
    by (Some y) at h =
        subst (λ z. Fits spec (Node (unwrap_or (option_and_then (λ (w : Phylum). slice_get w.ops 0) z) 0) 0 false NoTerm) p) (sym at)
        (by_ops y at y.ops refl (listed spec p y y.shape h (shapes.phyla p y at).shape))

-- a list before another
pub joined_fits : (spec : Spec) → HasShapes spec → (x r : Term) (p : ℕ) → Fits spec x p → Fits spec r p → Fits spec (joined spec x r) p
joined_fits spec shapes (Leaf q v) r p f fits = fits
joined_fits spec shapes (Node op n elided NoTerm) r p f fits = fits
joined_fits spec shapes (Node op n elided (AndTerm a NoTerm)) r p f fits = fits
joined_fits spec shapes (Node op n elided (AndTerm a (AndTerm b ts))) r p f fits = by (is_pair spec op) refl (λ below. joined_fits spec shapes b r p below fits)
  where
    by : (is : Bool) → is_pair spec op ≡ is → (Fits spec b p → Fits spec (joined spec b r) p) → Fits spec (cond is (Node op 0 false (AndTerm a (AndTerm (joined spec b r) NoTerm))) r) p
    by true is again =
        let x : Term = Node op n elided (AndTerm a (AndTerm b ts)) in
        paired_fits spec shapes x a (joined spec b r) p f is (element_fits spec shapes x p f is) (again (rest_fits spec shapes x p f is))
    by false is again = fits
