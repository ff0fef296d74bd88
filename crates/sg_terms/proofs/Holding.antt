-- What a node of a grove tells of the term that it holds.
use Rattle.std.proofs.Common.{◌≡◌, ℕ, zero, suc, List, [], ◌∷◌, Option, Some, None, refl, sym, ◌∙◌, ap, subst}
use Rattle.std.specs.List.{slice_get}
use Rattle.std.specs.Prelude.{option_map, option_and_then, unwrap_or, MatchOption}
use Rattle.sg_kinds.specs.Evaluation.{untyped}
use Rattle.sg_kinds.specs.Values.{Value}
use Rattle.sg_kinds.specs.Terms.{Term, Terms, Leaf, Node, NoTerm, AndTerm, terms_of}
use Rattle.sg_kinds.specs.Places.{child}
use Rattle.sg_pool.specs.Pools.{value_at, StandsFor}
use Rattle.sg_forest.specs.declared.node_id.NodeId.{NodeId}
use Rattle.sg_forest.specs.Node.{Node as ForestNode}
use Rattle.sg_forest.specs.Trees.{IsChild}
use Rattle.sg_forest.specs.Tree.{Tree, Row, node, end, beside, tree_at, Stands, StandAll}
use Rattle.sg_forest.proofs.Standing.{StandAll-at}
use Rattle.sg_groves.specs.declared.kind.Kind.{Kind}
use Rattle.sg_groves.specs.declared.part.Part.{Part}
use Rattle.sg_groves.specs.Grove.{Grove, nodes, IsLeaf, IsOperation, IsGrove}
use Rattle.sg_groves.specs.Stored.{kept, number_at}
use Rattle.sg_groves.specs.Holds.{term_over, term_of, terms_under, Holds}
use Rattle.sg_terms.specs.Labels.{op_of, scheme_of, elided_of}
use Rattle.sg_terms.specs.Kept.{AllHold}

-- the term that a node holds is one over what it is and keeps
pub Holds-over : (g : Grove) (n : NodeId) (t : Term) (x : ForestNode Kind Part) → Holds g n t → nodes g n ≡ Some x → (ts : Terms) × (t ≡ term_over g.pool x.label x.part ts)
Holds-over g n t x h found = by h.tree h.stands h.term
  where
    by : (tree : Tree Kind Part) → Stands (nodes g) n tree → term_of g.pool tree ≡ t → (ts : Terms) × (t ≡ term_over g.pool x.label x.part ts)
    by (node label part us) s e =
        let same : s.1.node ≡ x = cc (s.1.found, found) in
        let label_is : label ≡ x.label = sym s.1.has_label ∙ ap (λ (y : ForestNode Kind Part). y.label) same in
        let part_is : part ≡ x.part = sym s.1.has_part ∙ ap (λ (y : ForestNode Kind Part). y.part) same in
        (terms_under g.pool us, sym e ∙ ap (λ l. term_over g.pool l part (terms_under g.pool us)) label_is ∙ ap (λ p. term_over g.pool x.label p (terms_under g.pool us)) part_is)

pub over_leaf : (pool : List Value) (kind : Kind) (part : Part) (ts : Terms) → kind.op ≡ None → term_over pool kind part ts ≡ Leaf kind.phylum (kept pool part 0)
over_leaf pool kind part ts is = rw is refl

pub over_op : (pool : List Value) (kind : Kind) (part : Part) (ts : Terms) (op : ℕ) → kind.op ≡ Some op → term_over pool kind part ts ≡ Node op part.scheme part.elided ts
over_op pool kind part ts op is = rw is refl

module _ (g : Grove) (held : IsGrove g) (n : NodeId) (x : ForestNode Kind Part) (found : nodes g n ≡ Some x) where
  leaf_at : x.label.op ≡ None → IsLeaf g x
  leaf_at is = subst (λ (w : Option ℕ). MatchOption w (IsLeaf g x) (IsOperation g x)) is (held.each n x found)

  pub op_told : (t : Term) → Holds g n t → x.label.op ≡ op_of t
  op_told t h = let o = Holds-over g n t x h found in by x.label.op refl o.0 ∙ ap op_of (sym o.1)
    where
      by : (w : Option ℕ) → x.label.op ≡ w → (ts : Terms) → x.label.op ≡ op_of (term_over g.pool x.label x.part ts)
      by None is ts = is ∙ ap op_of (sym (over_leaf g.pool x.label x.part ts is))
      by (Some op) is ts = is ∙ ap op_of (sym (over_op g.pool x.label x.part ts op is))

  pub scheme_told : (t : Term) → Holds g n t → x.part.scheme ≡ scheme_of t
  scheme_told t h = let o = Holds-over g n t x h found in by x.label.op refl o.0 ∙ ap scheme_of (sym o.1)
    where
      by : (w : Option ℕ) → x.label.op ≡ w → (ts : Terms) → x.part.scheme ≡ scheme_of (term_over g.pool x.label x.part ts)
      by None is ts = (leaf_at is).scheme ∙ ap scheme_of (sym (over_leaf g.pool x.label x.part ts is))
      by (Some op) is ts = ap scheme_of (sym (over_op g.pool x.label x.part ts op is))

  pub elided_told : (t : Term) → Holds g n t → x.part.elided ≡ elided_of t
  elided_told t h = let o = Holds-over g n t x h found in by x.label.op refl o.0 ∙ ap elided_of (sym o.1)
    where
      by : (w : Option ℕ) → x.label.op ≡ w → (ts : Terms) → x.part.elided ≡ elided_of (term_over g.pool x.label x.part ts)
      by None is ts = (leaf_at is).elided ∙ ap elided_of (sym (over_leaf g.pool x.label x.part ts is))
      by (Some op) is ts = ap elided_of (sym (over_op g.pool x.label x.part ts op is))

  -- a leaf's number stands for its value
  pub leaf_told : (p : ℕ) (v : Value) (slot id : ℕ) → Holds g n (Leaf p v) → number_at g n slot ≡ Some id → StandsFor g.pool id v
  leaf_told p v slot id h number = by x.label.op refl
    where
      values : slice_get x.part.values slot ≡ Some id
      values = ap (option_and_then (λ (y : ForestNode Kind Part). slice_get y.part.values slot)) (sym found) ∙ number

      only : (slot only : ℕ) → slice_get (only ∷ []) slot ≡ Some id → only ≡ id
      only zero one e = cc
      only (suc slot) one e = cc

      by : (w : Option ℕ) → x.label.op ≡ w → StandsFor g.pool id v
      by None is =
          let l = leaf_at is in
          let o = Holds-over g n (Leaf p v) x h found in
          let whole : Leaf p v ≡ Leaf x.label.phylum (kept g.pool x.part 0) = o.1 ∙ over_leaf g.pool x.label x.part o.0 is in
          let same : v ≡ kept g.pool x.part 0 = cc whole in
          let it : l.id ≡ id = only slot l.id (ap (λ vs. slice_get vs slot) (sym l.values) ∙ values) in
          let value : kept g.pool x.part 0 ≡ l.value = ap (λ vs. unwrap_or (option_map (value_at g.pool) (slice_get vs 0)) untyped) l.values ∙ ap (λ w. unwrap_or w untyped) l.stands in
          subst (λ i. StandsFor g.pool i v) it (subst (StandsFor g.pool l.id) (sym (same ∙ value)) l.stands)
      by (Some op) is =
          let told : x.label.op ≡ None = op_told (Leaf p v) h in
          cc (told, is)

-- children
under_at : (pool : List Value) (us : Row Kind Part) (k : ℕ) (s : Term) → slice_get (terms_of (terms_under pool us)) k ≡ Some s → (u : Tree Kind Part) × (tree_at us k ≡ Some u) × (term_of pool u ≡ s)
under_at pool end k s e = cc
under_at pool (beside u us) zero s e = (u, refl, cc)
under_at pool (beside u us) (suc k) s e = under_at pool us k s e

pub Holds-kid : (g : Grove) → IsGrove g → (n c : NodeId) (k : ℕ) (t s : Term) → Holds g n t → child k t ≡ Some s → IsChild (nodes g) c n k → Holds g c s
Holds-kid g held n c k t s h at hangs = by h.tree h.stands h.term
  where
    by : (tree : Tree Kind Part) → Stands (nodes g) n tree → term_of g.pool tree ≡ t → Holds g c s
    by (node label part us) st e = by_op label.op refl
      where
        by_op : (w : Option ℕ) → label.op ≡ w → Holds g c s
        by_op None is = let none : child k t ≡ None = ap (child k) (sym e ∙ over_leaf g.pool label part (terms_under g.pool us) is) in cc (none, at)
        by_op (Some op) is =
            let whole : t ≡ Node op part.scheme part.elided (terms_under g.pool us) = sym e ∙ over_op g.pool label part (terms_under g.pool us) op is in
            let u = under_at g.pool us k s (ap (child k) (sym whole) ∙ at) in
            let above = held.forest.linked.upward n k c hangs in
            let same : above.node ≡ st.1.node = cc (above.found, st.1.found) in
            let lists : slice_get st.0 k ≡ Some c = ap (λ ids. slice_get ids k) (sym st.1.has_kids) ∙ ap (λ (y : ForestNode Kind Part). slice_get y.kids k) (sym same) ∙ above.lists in
            record { tree = u.0; stands = StandAll-at (nodes g) us st.0 k c u.0 st.2 lists u.1; term = u.2 }

-- nodes that hold terms, as a row of trees
pub AllHold-row : (g : Grove) (ids : List NodeId) (ts : Terms) → AllHold g ids ts → (us : Row Kind Part) × StandAll (nodes g) ids us × (terms_under g.pool us ≡ ts)
AllHold-row g [] NoTerm h = (end, refl, refl)
AllHold-row g [] (AndTerm t ts) h = absurd h
AllHold-row g (id ∷ ids) NoTerm h = absurd h
AllHold-row g (id ∷ ids) (AndTerm t ts) h =
    let rest = AllHold-row g ids ts h.1 in
    (beside h.0.tree rest.0, (id, ids, refl, h.0.stands, rest.1), ap (λ u. AndTerm u (terms_under g.pool rest.0)) h.0.term ∙ ap (AndTerm t) rest.2)
