-- The values of the terms under nodes, by what the nodes are.
use Rattle.std.specs.Prelude.{◌≡◌, ◌≢◌, refl, ℕ, zero, suc, ◌+◌, ◌<◌, ◌≤◌, ◌↔◌, Bool, true, false, nat_eq, IsTrue, MatchBool, is_some, List, [], ◌∷◌, length, map, drop, Option, Some, None, slice_get, option_map, option_and_then, unwrap_or, MatchOption}
use Rattle.std.proofs.Common.{sym, ap, ◌∙◌, subst, arith}
use Rattle.std.proofs.lemmas.Bool.{false≢true}
use Rattle.std.proofs.lemmas.Option.{none-some, same_Some, slice_get_within, get_or_from_slice_get}
use Rattle.sg_kinds.specs.PatternView.{literal_of}
use Rattle.sg_kinds.specs.declared.pattern.Literal.{Literal}
use Rattle.sg_kinds.specs.declared.pattern.Literal.TheVariants as literal
use Rattle.sg_kinds.specs.Values.{Value, Values, Chars, Tree, NoValue, AndValue, row_of, same_value}
use Rattle.sg_kinds.specs.Terms.{Term, Leaf, Node}
use Rattle.sg_kinds.specs.ValueOf.{value_of, values_of}
use Rattle.sg_kinds.specs.Evaluation.{untyped}
use Rattle.sg_kinds.specs.Fits.{MayHold, Fits, AllFit}
use Rattle.sg_kinds.specs.Specification.{args_of}
use Rattle.sg_kinds.specs.declared.spec.Spec.{Spec}
use Rattle.sg_kinds.specs.declared.spec.Phylum.{Phylum}
use Rattle.sg_kinds.specs.declared.spec.Operator.{Operator}
use Rattle.sg_kinds.specs.declared.marks.Shape.{Shape}
use Rattle.sg_kinds.specs.declared.marks.Shape.TheVariants.{Truths, Numbers, Texts, Lexemes, Ordinary, Optional, Listed, OptionalListed}
use Rattle.sg_kinds.proofs.Elementary.{option_map_some, eq_false}
use Rattle.sg_pool.specs.Pools.{value_at}
use Rattle.sg_pool.proofs.Grown.{grown_itself}
use Rattle.sg_forest.specs.declared.node_id.NodeId.{NodeId}
use Rattle.sg_forest.specs.Node.{Node as ForestNode}
use Rattle.sg_forest.specs.Trees.{IsLive, IsChild}
use Rattle.sg_forest.specs.Tree.{Tree as NodeTree, Row, node, end, beside, Stands, StandAll}
use Rattle.sg_groves.specs.declared.kind.Kind.{Kind}
use Rattle.sg_groves.specs.declared.part.Part.{Part}
use Rattle.sg_groves.specs.Grove.{Grove, nodes, IsLeaf, IsOperation, IsGrove}
use Rattle.sg_groves.specs.Stored.{kept, number_at}
use Rattle.sg_groves.specs.Holds.{term_of, terms_under, Holds}
use Rattle.sg_groves.proofs.Held.{held_at, live_holds}
use Rattle.sg_terms.specs.Found.{op_at}
use Rattle.sg_terms.proofs.Held.{operation_at}
use Rattle.sg_terms.proofs.Holding.{Holds-over, over_leaf, over_op}
use Rattle.sg_terms.proofs.Written.{op_node}
use Rattle.sg_matching.specs.Under.{kids_at, value_under, values_under}

drop_at : {A B : Type 0} (f : A → B) (xs : List A) (k : ℕ) (x : A) → slice_get xs k ≡ Some x → drop k (map f xs) ≡ f x ∷ drop (k + 1) (map f xs)
drop_at f [] k x e = absurd (none-some x e)
drop_at f (y ∷ ys) zero x e = ap (λ z. f z ∷ map f ys) (same_Some y x e)
drop_at f (y ∷ ys) (suc k) x e = let s : suc k + 1 ≡ suc (k + 1) = omega arith in rw s (drop_at f ys k x e)

drop_past : {A B : Type 0} (f : A → B) (xs : List A) (k : ℕ) → length xs ≤ k → drop k (map f xs) ≡ []
drop_past f [] zero h = refl
drop_past f [] (suc k) h = refl
drop_past f (x ∷ xs) zero h = absurd (omega (arith, h))
drop_past f (x ∷ xs) (suc k) h = drop_past f xs k (omega (arith, h))

no_tree : (spec : Spec) (shape : Shape) (op : ℕ) (vs : Values) → MayHold spec shape (Tree op vs) → ⊥
no_tree spec Truths op vs h = h
no_tree spec Numbers op vs h = h
no_tree spec Texts op vs h = h
no_tree spec (Lexemes l) op vs h = h
no_tree spec Ordinary op vs h = h
no_tree spec Optional op vs h = h
no_tree spec Listed op vs h = h
no_tree spec OptionalListed op vs h = h

-- a leaf holds a value that is no tree, by the number in its slot
pub record IsLeafAt (g : Grove) (n : NodeId) : Type 0 where
  pub phylum : ℕ
  pub value : Value
  pub holds : Holds g n (Leaf phylum value)
  pub id : ℕ
  pub number : number_at g n 0 ≡ Some id
  pub no_tree_is : (op : ℕ) (vs : Values) → value ≢ Tree op vs

-- a node of an operator has as many children as that has arguments
pub record IsNodeOf (g : Grove) (n : NodeId) (op : ℕ) : Type 0 where
  pub node : ForestNode Kind Part
  pub found : nodes g n ≡ Some node
  pub within : op < length g.spec.ops
  pub arity : node.label.arity ≡ length (args_of g.spec.ops op)
  pub kids : length node.kids ≡ length (args_of g.spec.ops op)
  pub few : length (args_of g.spec.ops op) ≤ 16

module _ (g : Grove) (is : IsGrove g) where
  pub value_told : (n : NodeId) (t : Term) → Holds g n t → value_under g n ≡ value_of t
  unfolding value_under
  value_told n t holds = ap value_of (held_at g is n t holds)

  row_told : (ts : Row Kind Part) (ids : List NodeId) → StandAll (nodes g) ids ts → values_of (terms_under g.pool ts) ≡ row_of (map (value_under g) ids)
  row_told end ids all = ap (λ l. row_of (map (value_under g) l)) (sym all)
  row_told (beside t ts) ids all =
      let first = value_told all.0 (term_of g.pool t) (record { tree = t; stands = all.3; term = refl }) in
      let rest = row_told ts all.1 all.4 in
      (λ i. AndValue (sym first i) (rest i)) ∙ ap (λ l. row_of (map (value_under g) l)) (sym all.2)

  kids_are : (n : NodeId) (x : ForestNode Kind Part) → nodes g n ≡ Some x → kids_at g n ≡ x.kids
  kids_are n x found = ap (λ (o : Option (ForestNode Kind Part)). unwrap_or (option_map (λ y. y.kids) o) []) found

  -- a node of an operator
  pub op_value : (n : NodeId) (op : ℕ) → op_at g n ≡ Some op → value_under g n ≡ Tree op (values_under g n 0)
  unfolding values_under
  op_value n op has =
      let x = op_node g n op has in
      by x.0 x.1 x.2 (live_holds g is n (record { node = x.0; found = x.1 })).1.tree (live_holds g is n (record { node = x.0; found = x.1 })).1.stands
    where
      by : (x : ForestNode Kind Part) → nodes g n ≡ Some x → x.label.op ≡ Some op → (tree : NodeTree Kind Part) → Stands (nodes g) n tree → value_under g n ≡ Tree op (row_of (map (value_under g) (kids_at g n)))
      by x found is_op (node kind part ts) stands =
          let shows = stands.1 in
          let same : shows.node ≡ x = cc (shows.found, found) in
          let op_is : kind.op ≡ Some op = sym (ap (λ (l : Kind). l.op) shows.has_label) ∙ ap (λ (y : ForestNode Kind Part). y.label.op) same ∙ is_op in
          let kids : kids_at g n ≡ stands.0 = kids_are n shows.node shows.found ∙ shows.has_kids in
          value_told n (term_of g.pool (node kind part ts)) (record { tree = node kind part ts; stands = stands; term = refl })
          ∙ ap value_of (over_op g.pool kind part (terms_under g.pool ts) op op_is)
          ∙ ap (Tree op) (row_told ts stands.0 stands.2 ∙ ap (λ l. row_of (map (value_under g) l)) (sym kids))

  pub node_of : (n : NodeId) (op : ℕ) → op_at g n ≡ Some op → IsNodeOf g n op
  node_of n op has =
      let x = op_node g n op has in
      let o = operation_at g.spec g.view g.trees g.trees g.pool g.pool (grown_itself g.pool) is n x.0 op x.1 x.2 in
      let count = is.forest.arities n x.0 x.1 in
      let there = option_map_some (λ (y : Operator). y.phylum) (slice_get g.spec.ops op) x.0.label.phylum o.phylum in
      let low = slice_get_within g.spec.ops op there.0 there.1 in
      record {
        node = x.0;
        found = x.1;
        within = low;
        arity = o.arity;
        kids = count ∙ o.arity;
        few = subst (λ (y : Option Operator). length (unwrap_or (option_map (λ (z : Operator). z.args) y) []) ≤ 16) (sym there.1)
            (subst (λ (z : Operator). length z.args ≤ 16) (get_or_from_slice_get g.spec.ops op there.0 there.0 there.1) (is.sound.counted.args op there.0 low));
      }

  -- a leaf
  pub leaf_at : (n : NodeId) → IsLive (nodes g) n → op_at g n ≡ None → IsLeafAt g n
  leaf_at n live has =
      let x = live.node in
      let none : x.label.op ≡ None = sym (ap (option_and_then (λ (y : ForestNode Kind Part). y.label.op)) live.found) ∙ has in
      let leaf : IsLeaf g x = subst (λ (w : Option ℕ). MatchOption w (IsLeaf g x) (IsOperation g x)) none (is.each n x live.found) in
      let held = live_holds g is n live in
      let over = Holds-over g n held.0 x held.1 live.found in
      let kept_is : kept g.pool x.part 0 ≡ leaf.value = ap (λ ids. unwrap_or (option_map (value_at g.pool) (slice_get ids 0)) untyped) leaf.values ∙ ap (λ v. unwrap_or v untyped) leaf.stands in
      record {
        phylum = x.label.phylum;
        value = leaf.value;
        holds = record { tree = held.1.tree; stands = held.1.stands; term = held.1.term ∙ over.1 ∙ over_leaf g.pool x.label x.part over.0 none ∙ ap (Leaf x.label.phylum) kept_is };
        id = leaf.id;
        number = ap (option_and_then (λ (y : ForestNode Kind Part). slice_get y.part.values 0)) live.found ∙ ap (λ ids. slice_get ids 0) leaf.values;
        no_tree_is = λ op vs e. no_tree_in (slice_get g.spec.phyla x.label.phylum) op vs (subst (λ v. MatchOption (slice_get g.spec.phyla x.label.phylum) ⊥ (λ (p : Phylum). MayHold g.spec p.shape v)) e leaf.held);
      }
    where
      no_tree_in : (o : Option Phylum) (op : ℕ) (vs : Values) → MatchOption o ⊥ (λ (p : Phylum). MayHold g.spec p.shape (Tree op vs)) → ⊥
      no_tree_in None op vs h = h
      no_tree_in (Some p) op vs h = no_tree g.spec p.shape op vs h

  -- the children of a node
  pub kid_values : (n kid : NodeId) (k : ℕ) → IsChild (nodes g) kid n k → values_under g n k ≡ AndValue (value_under g kid) (values_under g n (k + 1))
  unfolding values_under
  kid_values n kid k hangs =
      let lists = is.forest.linked.upward n k kid hangs in
      let at : slice_get (kids_at g n) k ≡ Some kid = ap (λ l. slice_get l k) (kids_are n lists.node lists.found) ∙ lists.lists in
      ap row_of (drop_at (value_under g) (kids_at g n) k kid at)

  pub no_kid : (n : NodeId) (x : ForestNode Kind Part) (k : ℕ) → nodes g n ≡ Some x → length x.kids ≤ k → values_under g n k ≡ NoValue
  unfolding values_under
  no_kid n x k found few =
      let past : length (kids_at g n) ≤ k = subst (λ l. length l ≤ k) (sym (kids_are n x found)) few in
      ap row_of (drop_past (value_under g) (kids_at g n) k past)

  pub kid_there : (n : NodeId) (op k : ℕ) (x : ForestNode Kind Part) → op_at g n ≡ Some op → k < length (args_of g.spec.ops op) → nodes g n ≡ Some x → k < x.label.arity
  kid_there n op k x has low found =
      let o = node_of n op has in
      let same : o.node ≡ x = cc (o.found, found) in
      subst (λ (y : ForestNode Kind Part). k < y.label.arity) same (subst (λ m. k < m) (sym o.arity) low)

  pub past_kids : (n : NodeId) (op k : ℕ) → op_at g n ≡ Some op → length (args_of g.spec.ops op) ≤ k → values_under g n k ≡ NoValue
  past_kids n op k has few = let o = node_of n op has in no_kid n o.node k o.found (subst (λ m. m ≤ k) (sym o.kids) few)

  pub leaf_kids : (n : NodeId) (k : ℕ) → IsLive (nodes g) n → op_at g n ≡ None → values_under g n k ≡ NoValue
  leaf_kids n k live has =
      let x = live.node in
      let none : x.label.op ≡ None = sym (ap (option_and_then (λ (y : ForestNode Kind Part). y.label.op)) live.found) ∙ has in
      let leaf : IsLeaf g x = subst (λ (w : Option ℕ). MatchOption w (IsLeaf g x) (IsOperation g x)) none (is.each n x live.found) in
      let count : length x.kids ≡ 0 = is.forest.arities n x live.found ∙ leaf.arity in
      no_kid n x k live.found (omega (arith, count))

  -- no tree of an operator stands under a node that is not of that operator
  pub other_op : (n : NodeId) (op : ℕ) (vs : Values) → IsLive (nodes g) n → (op_at g n ≡ Some op → ⊥) → value_under g n ≢ Tree op vs
  other_op n op vs live not e = by (op_at g n) refl
    where
      by : (o : Option ℕ) → op_at g n ≡ o → ⊥
      by None has = let leaf = leaf_at n live has in leaf.no_tree_is op vs (sym (value_told n (Leaf leaf.phylum leaf.value) leaf.holds) ∙ e)
      by (Some q) has = let tree : Tree q (values_under g n 0) ≡ Tree op vs = sym (op_value n q has) ∙ e in let same : q ≡ op = cc in not (has ∙ ap Some same)

  pub of_told : (n : NodeId) (op : ℕ) → IsLive (nodes g) n → (b : Bool) → (IsTrue b ↔ (op_at g n ≡ Some op)) → MatchBool b (value_under g n ≡ Tree op (values_under g n 0)) ((vs : Values) → value_under g n ≢ Tree op vs)
  of_told n op live true h = op_value n op (h.0 refl)
  of_told n op live false h = λ vs. other_op n op vs live (λ e. false≢true (h.1 e))

  -- the children of a tree that stands under a node
  pub tree_told : (n : NodeId) (op : ℕ) (vs : Values) → IsLive (nodes g) n → value_under g n ≡ Tree op vs → vs ≡ values_under g n 0
  tree_told n op vs live e = by (op_at g n) refl
    where
      by : (o : Option ℕ) → op_at g n ≡ o → vs ≡ values_under g n 0
      by None has = let leaf = leaf_at n live has in absurd (leaf.no_tree_is op vs (sym (value_told n (Leaf leaf.phylum leaf.value) leaf.holds) ∙ e))
      by (Some q) has = let tree : Tree q (values_under g n 0) ≡ Tree op vs = sym (op_value n q has) ∙ e in cc

-- a term fits one phylum
pub one_phylum : (spec : Spec) (t : Term) (p q : ℕ) → Fits spec t p → Fits spec t q → p ≡ q
one_phylum spec (Leaf r v) p q f h = sym f.0 ∙ h.0
one_phylum spec (Node op scheme elided ts) p q f h = by (slice_get spec.ops op) f h
  where
    by : (o : Option Operator) → MatchOption o ⊥ (λ x. (x.phylum ≡ p) × (scheme < 16) × AllFit spec ts x.args) → MatchOption o ⊥ (λ x. (x.phylum ≡ q) × (scheme < 16) × AllFit spec ts x.args) → p ≡ q
    by None f h = absurd f
    by (Some x) f h = sym f.0 ∙ h.0

pub none_there : {A : Type 0} (o : Option A) → is_some o ≡ false → o ≡ None
none_there None e = refl
none_there (Some x) e = cc

-- no literal is a tree
pub literal_no_tree : (l : Literal) (op : ℕ) (vs : Values) → same_value (literal_of l) (Tree op vs) ≡ false
literal_no_tree (literal.Truth b) op vs = refl
literal_no_tree (literal.Number z) op vs = refl
literal_no_tree (literal.Text s) op vs = refl

pub empty_same : (s : List ℕ) → same_value (Chars []) (Chars s) ≡ nat_eq (length s) 0
empty_same [] = refl
empty_same (b ∷ bs) = sym (eq_false (length (b ∷ bs)) 0 (λ e. absurd (omega (arith, e))))
