-- Plain terms fit where a term with that value does; counts of terms and of their values.
use Rattle.std.specs.Prelude.{◌≡◌, refl, ℕ, suc, ◌<◌, ◌≤◌, max, List, [], ◌∷◌, Option, Some, None, slice_get, option_map, unwrap_or, MatchOption}
use Rattle.std.proofs.Common.{arith, ap}
use Rattle.sg_kinds.specs.Values.{Value, Values, Truth, Number, Chars, Tree, Fault, size_of, sizes_of, depth_of, depths_of}
use Rattle.sg_kinds.specs.Terms.{Term, Terms, Leaf, Node, NoTerm, AndTerm, nodes_of, nodes_of_all, height_of, height_of_all}
use Rattle.sg_kinds.specs.Specification.{Spec, Shape, Phylum, Operator}
use Rattle.sg_kinds.specs.Fits.{Fits, AllFit, MayHold}
use Rattle.sg_kinds.specs.ValueOf.{value_of, values_of}
use Rattle.sg_kinds.specs.Plain.{plain, plain_all}
use Rattle.sg_kinds.specs.declared.marks.Shape.TheVariants.{Truths, Numbers, Texts, Lexemes, Ordinary, Optional, Listed, OptionalListed}

-- no leaf holds a tree
no_tree : (spec : Spec) (shape : Shape) (op : ℕ) (vs : Values) → MayHold spec shape (Tree op vs) → ⊥
no_tree spec Truths op vs h = h
no_tree spec Numbers op vs h = h
no_tree spec Texts op vs h = h
no_tree spec (Lexemes l) op vs h = h
no_tree spec Ordinary op vs h = h
no_tree spec Optional op vs h = h
no_tree spec Listed op vs h = h
no_tree spec OptionalListed op vs h = h

no_tree_at : (spec : Spec) (o : Option Phylum) (op : ℕ) (vs : Values) → MatchOption o ⊥ (λ x. MayHold spec x.shape (Tree op vs)) → ⊥
no_tree_at spec None op vs h = h
no_tree_at spec (Some x) op vs h = no_tree spec x.shape op vs h

mutual
  pub plain_fits : (spec : Spec) (t : Term) (p : ℕ) → Fits spec t p → Fits spec (plain spec (value_of t) p) p
  plain_fits spec (Leaf q (Truth b)) p h = (refl, h.1)
  plain_fits spec (Leaf q (Number z)) p h = (refl, h.1)
  plain_fits spec (Leaf q (Chars s)) p h = (refl, h.1)
  plain_fits spec (Leaf q (Tree op vs)) p h = absurd (no_tree_at spec (slice_get spec.phyla p) op vs h.1)
  plain_fits spec (Leaf q (Fault kind)) p h = (refl, h.1)
  plain_fits spec (Node op scheme elided ts) p h = by (slice_get spec.ops op) h (λ ps f. plain_all_fit spec ts ps f)
    where
      by : (o : Option Operator) → MatchOption o ⊥ (λ x. (x.phylum ≡ p) × (scheme < 16) × AllFit spec ts x.args) → ((ps : List ℕ) → AllFit spec ts ps → AllFit spec (plain_all spec (values_of ts) ps) ps)
          → MatchOption o ⊥ (λ x. (x.phylum ≡ p) × (0 < 16) × AllFit spec (plain_all spec (values_of ts) (unwrap_or (option_map (λ (x : Operator). x.args) o) [])) x.args)
      by None g all = g
      by (Some x) g all = (g.0, omega arith, all x.args g.2)

  pub plain_all_fit : (spec : Spec) (ts : Terms) (ps : List ℕ) → AllFit spec ts ps → AllFit spec (plain_all spec (values_of ts) ps) ps
  plain_all_fit spec NoTerm [] h = tt
  plain_all_fit spec NoTerm (p ∷ ps) h = absurd h
  plain_all_fit spec (AndTerm t ts) [] h = absurd h
  plain_all_fit spec (AndTerm t ts) (p ∷ ps) h = (plain_fits spec t p h.0, plain_all_fit spec ts ps h.1)

-- a term that fits is as deep as its value
leaf_depth : (spec : Spec) (o : Option Phylum) (v : Value) → MatchOption o ⊥ (λ x. MayHold spec x.shape v) → depth_of v ≡ 1
leaf_depth spec o (Truth b) h = refl
leaf_depth spec o (Number z) h = refl
leaf_depth spec o (Chars s) h = refl
leaf_depth spec o (Tree op vs) h = absurd (no_tree_at spec o op vs h)
leaf_depth spec o (Fault kind) h = refl

mutual
  pub depth_of_value : (spec : Spec) (t : Term) (p : ℕ) → Fits spec t p → depth_of (value_of t) ≡ height_of t
  depth_of_value spec (Leaf q v) p h = leaf_depth spec (slice_get spec.phyla p) v h.1
  depth_of_value spec (Node op scheme elided ts) p h = ap suc (by (slice_get spec.ops op) h (λ ps f. depths_of_values spec ts ps f))
    where
      by : (o : Option Operator) → MatchOption o ⊥ (λ x. (x.phylum ≡ p) × (scheme < 16) × AllFit spec ts x.args) → ((ps : List ℕ) → AllFit spec ts ps → depths_of (values_of ts) ≡ height_of_all ts) → depths_of (values_of ts) ≡ height_of_all ts
      by None g all = absurd g
      by (Some x) g all = all x.args g.2

  pub depths_of_values : (spec : Spec) (ts : Terms) (ps : List ℕ) → AllFit spec ts ps → depths_of (values_of ts) ≡ height_of_all ts
  depths_of_values spec NoTerm ps h = refl
  depths_of_values spec (AndTerm t ts) [] h = absurd h
  depths_of_values spec (AndTerm t ts) (p ∷ ps) h = λ i. max (depth_of_value spec t p h.0 i) (depths_of_values spec ts ps h.1 i)

-- a term has no more nodes than its value has size
pub size_positive : (v : Value) → 1 ≤ size_of v
size_positive (Truth b) = omega arith
size_positive (Number z) = omega arith
size_positive (Chars s) = omega arith
size_positive (Tree op vs) = omega arith
size_positive (Fault kind) = omega arith

mutual
  pub nodes_within_size : (t : Term) → nodes_of t ≤ size_of (value_of t)
  nodes_within_size (Leaf p v) = size_positive v
  nodes_within_size (Node op scheme elided ts) = omega (arith, nodes_within_sizes ts)

  pub nodes_within_sizes : (ts : Terms) → nodes_of_all ts ≤ sizes_of (values_of ts)
  nodes_within_sizes NoTerm = omega arith
  nodes_within_sizes (AndTerm t ts) = omega (arith, nodes_within_size t, nodes_within_sizes ts)

-- and is no deeper than it has nodes
mutual
  pub height_within_nodes : (t : Term) → height_of t ≤ nodes_of t
  height_within_nodes (Leaf p v) = omega arith
  height_within_nodes (Node op scheme elided ts) = omega (arith, heights_within_nodes ts)

  pub heights_within_nodes : (ts : Terms) → height_of_all ts ≤ nodes_of_all ts
  heights_within_nodes NoTerm = omega arith
  heights_within_nodes (AndTerm t ts) = omega (arith, height_within_nodes t, heights_within_nodes ts)
