-- The values of leaves.
use Rattle.std.proofs.Common.{◌≡◌, ℕ, List, ◌++◌, Option, Some, None, slice_get, sym, ap, ◌∙◌, MatchOption, subst, Result, Ok, Err, OnOk}
use Rattle.std.proofs.lemmas.Option.{same_Some}
use Rattle.sg_kinds.specs.Fits.{Fits, MayHold}
use Rattle.sg_kinds.specs.Terms.{Leaf}
use Rattle.sg_kinds.specs.Values.{Bytes, Value, Values, Tree}
use Rattle.sg_kinds.specs.declared.marks.Shape.{Shape}
use Rattle.sg_kinds.specs.declared.marks.Shape.TheVariants.{Truths, Numbers, Texts, Lexemes, Ordinary, Optional, Listed, OptionalListed}
use Rattle.sg_kinds.specs.declared.spec.Spec.{Spec}
use Rattle.sg_kinds.specs.declared.spec.Phylum.{Phylum}
use Rattle.sg_forest.specs.declared.node_id.NodeId.{NodeId}
use Rattle.sg_forest.specs.Trees.{IsLive}
use Rattle.sg_groves.specs.Grove.{Grove, nodes, IsGrove}
use Rattle.sg_groves.specs.Holds.{Holds}
use Rattle.sg_groves.proofs.Held.{held_fits}
use Rattle.sg_pool.specs.Pools.{StandsFor}
use Rattle.sg_saved.specs.Spelling.{spelled}

-- no leaf holds a tree
no-tree : (spec : Spec) (s : Shape) (op : ℕ) (vs : Values) → MayHold spec s (Tree op vs) → ⊥
no-tree spec Truths op vs may = may
no-tree spec Numbers op vs may = may
no-tree spec Texts op vs may = may
no-tree spec (Lexemes l) op vs may = may
no-tree spec Ordinary op vs may = may
no-tree spec Optional op vs may = may
no-tree spec Listed op vs may = may
no-tree spec OptionalListed op vs may = may

no-tree-at : (spec : Spec) (o : Option Phylum) (op : ℕ) (vs : Values) → MatchOption o ⊥ (λ x. MayHold spec x.shape (Tree op vs)) → ⊥
no-tree-at spec None op vs may = may
no-tree-at spec (Some x) op vs may = no-tree spec x.shape op vs may

pub no-tree-held : (g : Grove) → IsGrove g → (n : NodeId) → IsLive (nodes g) n → (p op : ℕ) (vs : Values) → Holds g n (Leaf p (Tree op vs)) → ⊥
no-tree-held g is n live p op vs h =
    let fits : Fits g.spec (Leaf p (Tree op vs)) live.node.label.phylum = held_fits g is n live.node (Leaf p (Tree op vs)) live.found h in
    no-tree-at g.spec (slice_get g.spec.phyla live.node.label.phylum) op vs fits.1

-- two values of one number
pub one-value : (pool : List Value) (id : ℕ) (v w : Value) → StandsFor pool id v → StandsFor pool id w → v ≡ w
one-value pool id v w a b = same_Some v w (sym a ∙ b)

-- a leaf whose value is written, or would be a tree
pub leaf-put : {E : Type 0} (g : Grove) (n : NodeId) (id : ℕ) (w : Value) (out all : Bytes) (r : Result (Unit {0}) E) → StandsFor g.pool id w → ((p : ℕ) (v : Value) → Holds g n (Leaf p v) → StandsFor g.pool id v)
    → OnOk r (all ≡ out ++ spelled g.spec w) → OnOk r ((p : ℕ) (v : Value) → Holds g n (Leaf p v) → all ≡ out ++ spelled g.spec v)
leaf-put g n id w out all (Err e) stands leaf wrote = tt
leaf-put g n id w out all (Ok u) stands leaf wrote = λ p v h. wrote ∙ ap (λ x. out ++ spelled g.spec x) (one-value g.pool id w v stands (leaf p v h))

pub tree-put : {E : Type 0} (g : Grove) → IsGrove g → (n : NodeId) → IsLive (nodes g) n → (id op : ℕ) (vs : Values) (out all : Bytes) (r : Result (Unit {0}) E) → StandsFor g.pool id (Tree op vs)
    → ((p : ℕ) (v : Value) → Holds g n (Leaf p v) → StandsFor g.pool id v) → OnOk r ((p : ℕ) (v : Value) → Holds g n (Leaf p v) → all ≡ out ++ spelled g.spec v)
tree-put g is n live id op vs out all (Err e) stands leaf = tt
tree-put g is n live id op vs out all (Ok u) stands leaf = λ p v h. absurd (no-tree-held g is n live p op vs (subst (λ w. Holds g n (Leaf p w)) (one-value g.pool id v (Tree op vs) (leaf p v h) stands) h))
