-- The nodes of a fitting term, their children and what is above them.
use Rattle.std.specs.Prelude.{◌≡◌, ℕ, zero, suc, ◌<◌, ◌⊎◌, Bool, true, false, List, [], ◌∷◌, ◌++◌, length, Option, None, Some, slice_get, unwrap_or, option_map, option_and_then, MatchOption}
use Rattle.std.proofs.Common.{refl, sym, ap, ◌∙◌, subst, inl, inr}
use Rattle.std.proofs.lemmas.Option.{none-some, same_Some, slice_get_within}
use Rattle.sg_kinds.specs.declared.marks.Shape.TheVariants.{Truths, Numbers, Texts, Lexemes, Ordinary, Optional, Listed, OptionalListed}
use Rattle.sg_kinds.specs.declared.spec.Spec.{Spec}
use Rattle.sg_kinds.specs.declared.spec.Operator.{Operator}
use Rattle.sg_kinds.specs.declared.spec.Phylum.{Phylum}
use Rattle.sg_kinds.specs.Values.{Value}
use Rattle.sg_kinds.specs.Terms.{Term, Terms, Leaf, Node, NoTerm, AndTerm, terms_of}
use Rattle.sg_kinds.specs.Fits.{MayHold, Fits, AllFit}
use Rattle.sg_kinds.specs.declared.marks.Shape.{Shape}
use Rattle.sg_kinds.specs.Specification.{args_of, phylum_of, has_shape, is_leaf_shape}
use Rattle.sg_kinds.specs.Places.{Place, child, sub}
use Rattle.sg_kinds.specs.Nets.{Operation, Holding, Missing, phylum_at, label_of}
use Rattle.sg_orders.specs.Keys.{operation, operator_in}
pub use Rattle.sg_plans.specs.Segments.{IsNodeAt}

pub node_label : (t : Term) (u : Place) (op : ℕ) → label_of (sub t u) ≡ Operation op → IsNodeAt t u
node_label t u op label = label ∙ ap (λ n. Operation n) (sym (ap operation label))

pub not_held : (op p : ℕ) (v : Value) → Holding p v ≡ Operation op → ⊥
not_held op p v e = cc

not_missing : (op : ℕ) → Missing ≡ Operation op → ⊥
not_missing op e = cc

-- children of a node that fits
kid_fits : (spec : Spec) (ts : Terms) (ps : List ℕ) (k : ℕ) (s : Term) → AllFit spec ts ps → slice_get (terms_of ts) k ≡ Some s → (X : ℕ) × (slice_get ps k ≡ Some X) × Fits spec s X
kid_fits spec NoTerm ps k s fit at = absurd (none-some s at)
kid_fits spec (AndTerm t ts) [] k s fit at = absurd fit
kid_fits spec (AndTerm t ts) (p ∷ ps) zero s fit at = (p, refl, subst (λ x. Fits spec x p) (same_Some t s at) fit.0)
kid_fits spec (AndTerm t ts) (p ∷ ps) (suc k) s fit at = kid_fits spec ts ps k s fit.1 at

kid_there : (spec : Spec) (ts : Terms) (ps : List ℕ) (k X : ℕ) → AllFit spec ts ps → slice_get ps k ≡ Some X → (s : Term) × (slice_get (terms_of ts) k ≡ Some s) × Fits spec s X
kid_there spec ts [] k X fit at = absurd (none-some X at)
kid_there spec NoTerm (p ∷ ps) k X fit at = absurd fit
kid_there spec (AndTerm t ts) (p ∷ ps) zero X fit at = (t, refl, subst (Fits spec t) (same_Some p X at) fit.0)
kid_there spec (AndTerm t ts) (p ∷ ps) (suc k) X fit at = kid_there spec ts ps k X fit.1 at

record IsFitting (spec : Spec) (op : ℕ) (ts : Terms) (X : ℕ) : Type 0 where
  left : phylum_of spec.ops op ≡ Some X
  low : op < length spec.ops
  kids : AllFit spec ts (args_of spec.ops op)

node_fits : (spec : Spec) (op scheme : ℕ) (elided : Bool) (ts : Terms) (X : ℕ) → Fits spec (Node op scheme elided ts) X → IsFitting spec op ts X
node_fits spec op scheme elided ts X fit = by (slice_get spec.ops op) refl fit
  where
    by : (o : Option Operator) → slice_get spec.ops op ≡ o → MatchOption o ⊥ (λ x. (x.phylum ≡ X) × (scheme < 16) × AllFit spec ts x.args) → IsFitting spec op ts X
    by None at none = absurd none
    by (Some x) at parts = record {
      left = ap (option_map (λ (y : Operator). y.phylum)) at ∙ ap (λ n. Some n) parts.0;
      low = slice_get_within spec.ops op x at;
      kids = subst (AllFit spec ts) (sym (ap (λ o. unwrap_or (option_map (λ (y : Operator). y.args) o) []) at)) parts.2;
    }

-- the phylum of what fits, which is a leaf's where a leaf does
pub fitting_phylum : (spec : Spec) (s : Term) (X : ℕ) → Fits spec s X → phylum_at spec.ops (label_of (Some s)) ≡ Some X
fitting_phylum spec (Leaf q v) X fit = ap (λ n. Some n) fit.0
fitting_phylum spec (Node op scheme elided ts) X fit = (node_fits spec op scheme elided ts X fit).left

held_shape : (spec : Spec) (s : Shape) (v : Value) → MayHold spec s v → is_leaf_shape s ≡ true
held_shape spec Truths v may = refl
held_shape spec Numbers v may = refl
held_shape spec Texts v may = refl
held_shape spec (Lexemes l) v may = refl
held_shape spec Ordinary v may = absurd may
held_shape spec Optional v may = absurd may
held_shape spec Listed v may = absurd may
held_shape spec OptionalListed v may = absurd may

pub leaf_fits : (spec : Spec) (q : ℕ) (v : Value) (X : ℕ) → Fits spec (Leaf q v) X → has_shape spec.phyla is_leaf_shape X ≡ true
leaf_fits spec q v X fit = by (slice_get spec.phyla X) refl fit.1
  where
    by : (o : Option Phylum) → slice_get spec.phyla X ≡ o → MatchOption o ⊥ (λ x. MayHold spec x.shape v) → has_shape spec.phyla is_leaf_shape X ≡ true
    by None at may = absurd may
    by (Some x) at may = ap (λ o. unwrap_or (option_map (λ (y : Phylum). is_leaf_shape y.shape) o) false) at ∙ held_shape spec x.shape v may

-- a leaf or a node
pub leaf_or_node : (t : Term) (u : Place) (s : Term) → sub t u ≡ Some s → ((p : ℕ) × (v : Value) × (s ≡ Leaf p v) × (label_of (sub t u) ≡ Holding p v)) ⊎ IsNodeAt t u
leaf_or_node t u (Leaf p v) at = inl (p, v, refl, ap label_of at)
leaf_or_node t u (Node op scheme elided ts) at = inr (node_label t u op (ap label_of at))

pub some_term : (t : Term) (u : Place) → IsNodeAt t u → (s : Term) × (sub t u ≡ Some s)
some_term t u is = by (sub t u) refl is
  where
    by : (o : Option Term) → sub t u ≡ o → label_of o ≡ Operation (operator_in t u) → (s : Term) × (sub t u ≡ Some s)
    by None at label = absurd (not_missing (operator_in t u) label)
    by (Some s) at label = (s, at)

-- what is above a node is a node
pub node_above : (t : Term) (k : ℕ) (u : Place) (s : Term) → sub t (k ∷ u) ≡ Some s → IsNodeAt t u
node_above t k u s at = by (sub t u) refl at
  where
    by : (o : Option Term) → sub t u ≡ o → option_and_then (child k) o ≡ Some s → IsNodeAt t u
    by None is got = absurd (none-some s got)
    by (Some (Leaf p v)) is got = absurd (none-some s got)
    by (Some (Node op scheme elided ts)) is got = node_label t u op (ap label_of is)

pub node_on_way : (t : Term) (w : List ℕ) (u : Place) → IsNodeAt t (w ++ u) → IsNodeAt t u
node_on_way t [] u is = is
node_on_way t (k ∷ w) u is = let s = some_term t (k ∷ w ++ u) is in node_on_way t w u (node_above t k (w ++ u) s.0 s.1)

-- a node of a fitting term
pub record IsNode (spec : Spec) (t : Term) (u : Place) : Type 0 where
  pub phylum : ℕ
  pub left : phylum_of spec.ops (operator_in t u) ≡ Some phylum
  pub low : operator_in t u < length spec.ops
  pub arg : (k : ℕ) (s : Term) → sub t (k ∷ u) ≡ Some s → (X : ℕ) × (slice_get (args_of spec.ops (operator_in t u)) k ≡ Some X) × Fits spec s X
  pub kid : (k X : ℕ) → slice_get (args_of spec.ops (operator_in t u)) k ≡ Some X → (s : Term) × (sub t (k ∷ u) ≡ Some s) × Fits spec s X

-- a node below another one
pub record IsBelow (spec : Spec) (t : Term) (k : ℕ) (u : Place) : Type 0 where
  pub above : IsNodeAt t u
  pub phylum : ℕ
  pub arg : slice_get (args_of spec.ops (operator_in t u)) k ≡ Some phylum
  pub left : phylum_of spec.ops (operator_in t (k ∷ u)) ≡ Some phylum

module _ (spec : Spec) (t : Term) (root : ℕ) (fits : Fits spec t root) where
  node_from : (u : Place) (n : Term) (X : ℕ) → sub t u ≡ Some n → Fits spec n X → IsNodeAt t u → IsNode spec t u
  node_from u (Leaf p v) X at fit is = absurd (not_held (operator_in t u) p v (sym (ap label_of at) ∙ is))
  node_from u (Node o scheme elided ts) X at fit is =
      let known = node_fits spec o scheme elided ts X fit in
      let same : operator_in t u ≡ o = ap (λ n. operation (label_of n)) at in
      record {
        phylum = X;
        left = ap (phylum_of spec.ops) same ∙ known.left;
        low = subst (λ n. n < length spec.ops) (sym same) known.low;
        arg = λ k s got.
            let found = kid_fits spec ts (args_of spec.ops o) k s known.kids (sym (ap (option_and_then (child k)) at) ∙ got) in
            (found.0, ap (λ m. slice_get (args_of spec.ops m) k) same ∙ found.1, found.2);
        kid = λ k Y arg.
            let found = kid_there spec ts (args_of spec.ops o) k Y known.kids (sym (ap (λ m. slice_get (args_of spec.ops m) k) same) ∙ arg) in
            (found.0, ap (option_and_then (child k)) at ∙ found.1, found.2);
      }

  -- what stands at a place fits
  pub fits_at : (u : Place) (s : Term) → sub t u ≡ Some s → (X : ℕ) × Fits spec s X
  fits_at [] s at = (root, subst (λ x. Fits spec x root) (same_Some t s at) fits)
  fits_at (k ∷ u) s at = by (sub t u) refl at (fits_at u)
    where
      by : (o : Option Term) → sub t u ≡ o → option_and_then (child k) o ≡ Some s → ((x : Term) → sub t u ≡ Some x → (X : ℕ) × Fits spec x X) → (X : ℕ) × Fits spec s X
      by None is got above = absurd (none-some s got)
      by (Some (Leaf p v)) is got above = absurd (none-some s got)
      by (Some (Node op scheme elided ts)) is got above =
          let a = above (Node op scheme elided ts) is in
          let found = kid_fits spec ts (args_of spec.ops op) k s (node_fits spec op scheme elided ts a.0 a.1).kids got in
          (found.0, found.2)

  pub node_at : (u : Place) → IsNodeAt t u → IsNode spec t u
  node_at u is =
      let s = some_term t u is in
      let f = fits_at u s.0 s.1 in
      node_from u s.0 f.0 s.1 f.1 is

  pub below_at : (k : ℕ) (u : Place) → IsNodeAt t (k ∷ u) → IsBelow spec t k u
  below_at k u is =
      let s = some_term t (k ∷ u) is in
      let above = node_above t k u s.0 s.1 in
      let found = (node_at u above).arg k s.0 s.1 in
      record {
        above = above;
        phylum = found.0;
        arg = found.1;
        left = sym (ap (phylum_at spec.ops) is) ∙ ap (λ o. phylum_at spec.ops (label_of o)) s.1 ∙ fitting_phylum spec s.0 found.0 found.2;
      }
