-- Made terms against values.
use Rattle.std.specs.Prelude.{◌≡◌, ◌≢◌, refl, ℕ, ◌+◌, ◌-◌, ◌<◌, Bool, true, false, ◌&&◌, nat_eq, List, [], ◌∷◌, length, drop, Option, Some, None, slice_get, option_map, option_and_then, MatchOption}
use Rattle.std.proofs.Common.{sym, ap, ◌∙◌, subst, arith, get_or}
use Rattle.sg_kinds.specs.Values.{Value, Values, Truth, Number, Chars, Tree, Fault, NoValue, AndValue, same_value, same_values}
use Rattle.sg_kinds.specs.Terms.{Term, Terms, Node, NoTerm, AndTerm}
use Rattle.sg_kinds.specs.ValueOf.{value_of, values_of}
use Rattle.sg_kinds.specs.SameValue.{nat_is, nat_same}
use Rattle.sg_kinds.specs.Specification.{args_of}
use Rattle.sg_kinds.specs.declared.spec.Spec.{Spec}
use Rattle.sg_kinds.specs.declared.marks.Made.TheVariants.{Completing, Placeholder}
use Rattle.sg_kinds.specs.declared.marks.Shape.{Shape}
use Rattle.sg_kinds.specs.declared.marks.Shape.TheVariants.{Truths, Numbers, Texts, Lexemes, Ordinary, Optional, Listed, OptionalListed}
use Rattle.sg_kinds.specs.declared.spec.Phylum.{Phylum}
use Rattle.sg_kinds.specs.Completing.{all_made, over, one_element, completed, completing, completing_within}
use Rattle.sg_kinds.specs.Placeholder.{placeheld, placeholder, placeholder_within}
use Rattle.sg_kinds.specs.Evaluation.{made_value}
use Rattle.sg_kinds.specs.Sound.{IsSound, IsSmall}
use Rattle.sg_kinds.proofs.Completed.{completed_at}
use Rattle.sg_kinds.proofs.Kids.{drop_more}
use Rattle.sg_matching.specs.MadeUnder.{has_value, have_values}

-- a tree is the same as another of its operator only
pub not_same : (op : ℕ) (us : Values) (v : Value) → ((vs : Values) → v ≢ Tree op vs) → same_value (Tree op us) v ≡ false
not_same op us (Truth b) not = refl
not_same op us (Number z) not = refl
not_same op us (Chars s) not = refl
not_same op us (Fault kind) not = refl
not_same op us (Tree q vs) not = by (nat_eq op q) refl
  where
    by : (b : Bool) → nat_eq op q ≡ b → (nat_eq op q && same_values us vs) ≡ false
    by true e = absurd (not vs (ap (λ p. Tree p vs) (sym (nat_is op q e))))
    by false e = rw e refl

and_false : (b : Bool) → (b && false) ≡ false
and_false true = refl
and_false false = refl

-- one after another
pub have_more : (made : ℕ → Option Term) (p : ℕ) (ps : List ℕ) (v : Value) (vs : Values) → have_values (all_made made (p ∷ ps)) (AndValue v vs) ≡ (has_value (made p) v && have_values (all_made made ps) vs)
have_more made p ps v vs = by (made p) (all_made made ps)
  where
    by : (o : Option Term) (os : Option Terms) → have_values (option_and_then (λ t. option_map (AndTerm t) os) o) (AndValue v vs) ≡ (has_value o v && have_values os vs)
    by None os = refl
    by (Some t) None = sym (and_false (same_value (value_of t) v))
    by (Some t) (Some ts) = refl

pub have_fewer : (made : ℕ → Option Term) (p : ℕ) (ps : List ℕ) → have_values (all_made made (p ∷ ps)) NoValue ≡ false
have_fewer made p ps = by (made p) (all_made made ps)
  where
    by : (o : Option Term) (os : Option Terms) → have_values (option_and_then (λ t. option_map (AndTerm t) os) o) NoValue ≡ false
    by None os = refl
    by (Some t) None = refl
    by (Some t) (Some ts) = refl

-- an operator over made terms
pub over_same : (spec : Spec) (made : ℕ → Option Term) (op : ℕ) (v : Value) (vs : Values) → v ≡ Tree op vs → has_value (over spec made (Some op)) v ≡ have_values (all_made made (args_of spec.ops op)) vs
over_same spec made op v vs e = rw e (by (all_made made (args_of spec.ops op)))
  where
    by : (os : Option Terms) → has_value (option_map (Node op 0 false) os) (Tree op vs) ≡ have_values os vs
    by None = refl
    by (Some ts) = rw (nat_same op) refl

pub over_other : (spec : Spec) (made : ℕ → Option Term) (op : ℕ) (v : Value) → ((vs : Values) → v ≢ Tree op vs) → has_value (over spec made (Some op)) v ≡ false
over_other spec made op v not = by (all_made made (args_of spec.ops op))
  where
    by : (os : Option Terms) → has_value (option_map (Node op 0 false) os) v ≡ false
    by None = refl
    by (Some ts) = not_same op (values_of ts) v not

-- a list with one element
abbrev element_of : Spec → (ℕ → Option Term) → ℕ → Option Term
element_of spec made pair = option_and_then made (slice_get (args_of spec.ops pair) 0)

pub one_other : (spec : Spec) (made : ℕ → Option Term) (nil pair : ℕ) (ops : List ℕ) (v : Value) → ((a b : Value) → v ≢ Tree pair (AndValue a (AndValue b NoValue))) → has_value (one_element spec made (nil ∷ pair ∷ ops)) v ≡ false
one_other spec made nil pair ops v not = by (element_of spec made pair)
  where
    other : (t : Term) (w : Value) → ((a b : Value) → w ≢ Tree pair (AndValue a (AndValue b NoValue))) → same_value (Tree pair (AndValue (value_of t) (AndValue (Tree nil NoValue) NoValue))) w ≡ false
    other t (Truth b) k = refl
    other t (Number z) k = refl
    other t (Chars s) k = refl
    other t (Fault kind) k = refl
    other t (Tree q NoValue) k = and_false (nat_eq pair q)
    other t (Tree q (AndValue a NoValue)) k = rw (and_false (same_value (value_of t) a)) (and_false (nat_eq pair q))
    other t (Tree q (AndValue a (AndValue b (AndValue c vs)))) k = rw (and_false (same_value (Tree nil NoValue) b), and_false (same_value (value_of t) a)) (and_false (nat_eq pair q))
    other t (Tree q (AndValue a (AndValue b NoValue))) k = at (nat_eq pair q) refl
      where
        at : (x : Bool) → nat_eq pair q ≡ x → (nat_eq pair q && same_values (AndValue (value_of t) (AndValue (Tree nil NoValue) NoValue)) (AndValue a (AndValue b NoValue))) ≡ false
        at true e = absurd (k a b (ap (λ p. Tree p (AndValue a (AndValue b NoValue))) (sym (nat_is pair q e))))
        at false e = rw e refl

    by : (o : Option Term) → has_value (option_map (λ t. Node pair 0 false (AndTerm t (AndTerm (Node nil 0 false NoTerm) NoTerm))) o) v ≡ false
    by None = refl
    by (Some t) = other t v not

pub one_same : (spec : Spec) (made : ℕ → Option Term) (nil pair : ℕ) (ops : List ℕ) (v a b : Value) → v ≡ Tree pair (AndValue a (AndValue b NoValue))
    → has_value (one_element spec made (nil ∷ pair ∷ ops)) v ≡ (has_value (option_and_then made (slice_get (args_of spec.ops pair) 0)) a && same_value (Tree nil NoValue) b)
one_same spec made nil pair ops v a b e = rw e (by (element_of spec made pair))
  where
    and_true : (x : Bool) → (x && true) ≡ x
    and_true true = refl
    and_true false = refl

    by : (o : Option Term) → has_value (option_map (λ t. Node pair 0 false (AndTerm t (AndTerm (Node nil 0 false NoTerm) NoTerm))) o) (Tree pair (AndValue a (AndValue b NoValue))) ≡ (has_value o a && same_value (Tree nil NoValue) b)
    by None = refl
    by (Some t) = rw (nat_same pair, and_true (same_value (Tree nil NoValue) b)) refl

-- the made term of a phylum that is there
pub completing_told : (spec : Spec) → IsSound spec → (p : ℕ) → p < length spec.phyla → (v : Value) → same_value (made_value spec Completing p) v ≡ has_value (completing_within spec 1024 p) v
unfolding completing
completing_told spec sound p low v = by (completing_within spec 1024 p) refl
  where
    by : (o : Option Term) → completing_within spec 1024 p ≡ o → same_value (value_of (completing spec p)) v ≡ has_value (completing_within spec 1024 p) v
    by None e = absurd (subst (λ o. MatchOption o ⊥ IsSmall) e (sound.shapes.finite p low).0)
    by (Some t) e = rw e refl

pub placeholder_told : (spec : Spec) → IsSound spec → (p : ℕ) → p < length spec.phyla → (v : Value) → same_value (made_value spec Placeholder p) v ≡ has_value (placeholder_within spec 1023 p) v
unfolding placeholder
placeholder_told spec sound p low v = by (placeholder_within spec 1023 p) refl
  where
    by : (o : Option Term) → placeholder_within spec 1023 p ≡ o → same_value (value_of (placeholder spec p)) v ≡ has_value (placeholder_within spec 1023 p) v
    by None e = absurd (subst (λ o. MatchOption o ⊥ IsSmall) e (sound.shapes.finite p low).1)
    by (Some t) e = rw e refl

-- the phyla that are left, against the values that are left
pub record AreLeft (made : ℕ → Option Term) (ps : List ℕ) (all : Values) (k : ℕ) (vs : Values) : Type 0 where
  pub goes : have_values (all_made made ps) all ≡ have_values (all_made made (drop k ps)) vs

pub left_next : (made : ℕ → Option Term) (ps : List ℕ) (all : Values) (k : ℕ) (vs : Values) (p : ℕ) (v : Value) (rest : Values) → AreLeft made ps all k vs → k < length ps → p ≡ get_or ps k p → vs ≡ AndValue v rest → has_value (made p) v ≡ true → AreLeft made ps all (k + 1) rest
left_next made ps all k vs p v rest left low at is has = record { goes = left.goes ∙ step }
  where
    step : have_values (all_made made (drop k ps)) vs ≡ have_values (all_made made (drop (k + 1) ps)) rest
    step = ap (λ l. have_values (all_made made l) vs) (drop_more ps k p low at) ∙ ap (have_values (all_made made (p ∷ drop (k + 1) ps))) is ∙ have_more made p (drop (k + 1) ps) v rest ∙ ap (λ b. b && have_values (all_made made (drop (k + 1) ps)) rest) has

pub left_other : (made : ℕ → Option Term) (ps : List ℕ) (all : Values) (k : ℕ) (vs : Values) (p : ℕ) (v : Value) (rest : Values) → AreLeft made ps all k vs → k < length ps → p ≡ get_or ps k p → vs ≡ AndValue v rest → has_value (made p) v ≡ false → have_values (all_made made ps) all ≡ false
left_other made ps all k vs p v rest left low at is has = left.goes ∙ ap (λ l. have_values (all_made made l) vs) (drop_more ps k p low at) ∙ ap (have_values (all_made made (p ∷ drop (k + 1) ps))) is ∙ have_more made p (drop (k + 1) ps) v rest ∙ ap (λ b. b && have_values (all_made made (drop (k + 1) ps)) rest) has

pub left_none : (made : ℕ → Option Term) (ps : List ℕ) (all : Values) (k : ℕ) (vs : Values) (p : ℕ) → AreLeft made ps all k vs → k < length ps → p ≡ get_or ps k p → vs ≡ NoValue → have_values (all_made made ps) all ≡ false
left_none made ps all k vs p left low at is = left.goes ∙ ap (λ l. have_values (all_made made l) vs) (drop_more ps k p low at) ∙ ap (have_values (all_made made (p ∷ drop (k + 1) ps))) is ∙ have_fewer made p (drop (k + 1) ps)

pub two_ops : (ops : List ℕ) (nil pair : ℕ) → slice_get ops 0 ≡ Some nil → slice_get ops 1 ≡ Some pair → (rest : List ℕ) × (ops ≡ nil ∷ pair ∷ rest)
two_ops [] nil pair e f = cc
two_ops (x ∷ []) nil pair e f = cc
two_ops (x ∷ y ∷ rest) nil pair e f = (rest, cc)

pub too_few : (spec : Spec) (made : ℕ → Option Term) (ops : List ℕ) (v : Value) → slice_get ops 1 ≡ None → has_value (one_element spec made ops) v ≡ false
too_few spec made [] v e = refl
too_few spec made (x ∷ []) v e = refl
too_few spec made (x ∷ y ∷ rest) v e = cc

module _ (spec : Spec) (made : ℕ → Option Term) (ops : List ℕ) (nil pair : ℕ) (v : Value) (is_nil : slice_get ops 0 ≡ Some nil) (is_pair : slice_get ops 1 ≡ Some pair) where
  other_told : ((a b : Value) → v ≢ Tree pair (AndValue a (AndValue b NoValue))) → has_value (one_element spec made ops) v ≡ false
  other_told not = let two = two_ops ops nil pair is_nil is_pair in subst (λ l. has_value (one_element spec made l) v ≡ false) (sym two.1) (one_other spec made nil pair two.0 v not)

  pub no_pair : ((vs : Values) → v ≢ Tree pair vs) → has_value (one_element spec made ops) v ≡ false
  no_pair not = other_told (λ a b e. not (AndValue a (AndValue b NoValue)) e)

  pub no_element : (vs : Values) → v ≡ Tree pair vs → vs ≡ NoValue → has_value (one_element spec made ops) v ≡ false
  no_element vs e none = other_told (λ a b f. cc)

  pub no_rest : (vs ws : Values) (x : Value) → v ≡ Tree pair vs → vs ≡ AndValue x ws → ws ≡ NoValue → has_value (one_element spec made ops) v ≡ false
  no_rest vs ws x e one none = other_told (λ a b f. cc)

  pub too_many : (vs ws us rest : Values) (x y z : Value) → v ≡ Tree pair vs → vs ≡ AndValue x ws → ws ≡ AndValue y us → us ≡ AndValue z rest → has_value (one_element spec made ops) v ≡ false
  too_many vs ws us rest x y z e one two three = other_told (λ a b f. cc)

  pub element_told : (vs ws us : Values) (x y : Value) → v ≡ Tree pair vs → vs ≡ AndValue x ws → ws ≡ AndValue y us → us ≡ NoValue
      → has_value (one_element spec made ops) v ≡ (has_value (option_and_then made (slice_get (args_of spec.ops pair) 0)) x && same_value (Tree nil NoValue) y)
  element_told vs ws us x y e one two none =
      let two_are = two_ops ops nil pair is_nil is_pair in
      let whole : v ≡ Tree pair (AndValue x (AndValue y NoValue)) = e ∙ ap (Tree pair) (one ∙ ap (AndValue x) (two ∙ ap (AndValue y) none)) in
      ap (λ l. has_value (one_element spec made l) v) two_are.1 ∙ one_same spec made nil pair two_are.0 v x y whole

-- the made term of a phylum by its shape
pub completed_over : (spec : Spec) (made : ℕ → Option Term) (p : ℕ) (ops : List ℕ) (shape : Shape) → shape ≢ Truths → shape ≢ Numbers → shape ≢ Texts → ((l : ℕ) → shape ≢ Lexemes l) → shape ≢ Listed
    → completed spec made p ops shape ≡ over spec made (slice_get ops 0)
completed_over spec made p ops Truths a b c d e = absurd (a refl)
completed_over spec made p ops Numbers a b c d e = absurd (b refl)
completed_over spec made p ops Texts a b c d e = absurd (c refl)
completed_over spec made p ops (Lexemes l) a b c d e = absurd (d l refl)
completed_over spec made p ops Ordinary a b c d e = refl
completed_over spec made p ops Optional a b c d e = refl
completed_over spec made p ops Listed a b c d e = absurd (e refl)
completed_over spec made p ops OptionalListed a b c d e = refl

pub completed_listed : (spec : Spec) (made : ℕ → Option Term) (p : ℕ) (ops : List ℕ) (shape : Shape) → shape ≡ Listed → completed spec made p ops shape ≡ one_element spec made ops
completed_listed spec made p ops shape e = rw e refl

placeheld_other : (spec : Spec) (made : ℕ → Option Term) (p : ℕ) (ops : List ℕ) (shape : Shape) → shape ≢ Optional → shape ≢ OptionalListed → placeheld spec made p ops shape ≡ completed spec made p ops shape
placeheld_other spec made p ops Truths a b = refl
placeheld_other spec made p ops Numbers a b = refl
placeheld_other spec made p ops Texts a b = refl
placeheld_other spec made p ops (Lexemes l) a b = refl
placeheld_other spec made p ops Ordinary a b = refl
placeheld_other spec made p ops Optional a b = absurd (a refl)
placeheld_other spec made p ops Listed a b = refl
placeheld_other spec made p ops OptionalListed a b = absurd (b refl)

pub placeholder_completing : (spec : Spec) (room p : ℕ) (x : Phylum) → slice_get spec.phyla p ≡ Some x → x.shape ≢ Optional → x.shape ≢ OptionalListed → placeholder_within spec room p ≡ completing_within spec (room + 1) p
placeholder_completing spec room p x at a b =
    let some : room + 1 ≢ 0 = λ e. absurd (omega (arith, e)) in
    let less : room + 1 - 1 ≡ room = omega arith in
    ap (option_and_then (λ (y : Phylum). placeheld spec (completing_within spec room) p y.ops y.shape)) at
    ∙ placeheld_other spec (completing_within spec room) p x.ops x.shape a b
    ∙ sym (completed_at spec (room + 1) p x some at ∙ ap (λ r. completed spec (completing_within spec r) p x.ops x.shape) less)
