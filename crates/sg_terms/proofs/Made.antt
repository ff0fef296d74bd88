-- What a new root does to a grove.
use Rattle.std.proofs.Common.{◌≡◌, ◌<◌, ℕ, List, [], ◌∷◌, length, Option, Some, None, Result, Ok, Err, refl, sym, ◌∙◌, ap, subst, inl, arith}
use Rattle.std.specs.List.{slice_get}
use Rattle.std.specs.Prelude.{All, MatchOption, IsTrue, true, IfOk, OnErr, false, option_and_then, unwrap_or}
use Rattle.sg_kinds.proofs.Elementary.{slice_get-there, slice_get-All}
use Rattle.sg_kinds.specs.Values.{Value, Truth, Number, Chars, Tree, Fault}
use Rattle.sg_kinds.specs.Terms.{Terms, Leaf, Node}
use Rattle.sg_kinds.specs.Evaluation.{untyped}
use Rattle.sg_kinds.specs.Fits.{Fits, MayHold}
use Rattle.sg_kinds.specs.Specification.{args_of, phylum_of}
use Rattle.sg_kinds.specs.Typing.{slots_there, slot_type}
use Rattle.sg_kinds.specs.declared.spec.Spec.{Spec}
use Rattle.sg_kinds.specs.declared.spec.Phylum.{Phylum}
use Rattle.sg_kinds.specs.declared.marks.Shape.{Shape}
use Rattle.sg_kinds.specs.declared.marks.Shape.TheVariants.{Truths, Numbers, Texts, Lexemes, Ordinary, Optional, Listed, OptionalListed}
use Rattle.sg_kinds.specs.declared.marks.FaultKind.TheVariants.{Fuel}
use Rattle.std.proofs.lemmas.Option.{slice_get_within}
use Rattle.sg_pool.specs.Pools.{IsGrown, StandsFor, is_kept}
use Rattle.sg_forest.specs.declared.node_id.NodeId.{NodeId}
use Rattle.sg_forest.specs.Node.{Node as ForestNode}
use Rattle.sg_forest.specs.Trees.{Trees, node_at, IsLive}
use Rattle.sg_forest.specs.Tree.{node, end, GrowsTree}
use Rattle.sg_forest.specs.Steps.{KeepsKids, IsRootMade}
use Rattle.sg_groves.specs.declared.kind.Kind.{Kind}
use Rattle.sg_groves.specs.declared.part.Part.{Part}
use Rattle.sg_groves.specs.Grove.{Grove, IsLeaf, IsOperation, IsTyped, IsGrove}
use Rattle.sg_groves.specs.Stored.{number_at}
use Rattle.sg_groves.specs.Holds.{terms_under, Holds}
use Rattle.sg_terms.specs.Occurrences.{AreTrees}
use Rattle.sg_terms.specs.Kept.{AllHold, AreRootsOf}
use Rattle.sg_terms.proofs.Same.{Stands-grown}
use Rattle.sg_terms.proofs.Holding.{AllHold-row, over_op}
use Rattle.sg_terms.proofs.Steps.{grove, IsGrove-same, IsGrove-made, made_kinds}

-- what a leaf holds may be kept in a pool
may_kept : (spec : Spec) (shape : Shape) (v : Value) → MayHold spec shape v → is_kept v ≡ true
may_kept spec shape (Truth b) may = refl
may_kept spec shape (Number z) may = refl
may_kept spec shape (Chars s) may = refl
may_kept spec Truths (Tree op vs) may = absurd may
may_kept spec Numbers (Tree op vs) may = absurd may
may_kept spec Texts (Tree op vs) may = absurd may
may_kept spec (Lexemes l) (Tree op vs) may = absurd may
may_kept spec Ordinary (Tree op vs) may = absurd may
may_kept spec Optional (Tree op vs) may = absurd may
may_kept spec Listed (Tree op vs) may = absurd may
may_kept spec OptionalListed (Tree op vs) may = absurd may
may_kept spec Truths (Fault kind) may = absurd may
may_kept spec Numbers (Fault kind) may = absurd may
may_kept spec Texts (Fault kind) may = absurd may
may_kept spec (Lexemes l) (Fault kind) may = absurd may
may_kept spec Ordinary (Fault kind) may = absurd may
may_kept spec Optional (Fault kind) may = absurd may
may_kept spec Listed (Fault kind) may = absurd may
may_kept spec OptionalListed (Fault kind) may = absurd may

pub leaf_kept : (spec : Spec) (p : ℕ) (v : Value) → Fits spec (Leaf p v) p → IsTrue (is_kept v)
leaf_kept spec p v fits = by (slice_get spec.phyla p) fits.1
  where
    by : (o : Option Phylum) → MatchOption o ⊥ (λ (x : Phylum). MayHold spec x.shape v) → IsTrue (is_kept v)
    by None may = absurd may
    by (Some x) may = may_kept spec x.shape v may

abbrev pub leaf_kind : ℕ → Kind
leaf_kind p = record { phylum = p; op = None; arity = 0 }

abbrev pub leaf_part : ℕ → Part
leaf_part id = record { scheme = 0; elided = false; values = id ∷ [] }

module _ (spec : Spec) (view : ℕ) (old new : Trees Kind Part) (was now : List Value) (grown : IsGrown was now) (held : IsGrove (grove spec view old was)) (keeps : KeepsKids (node_at old) (node_at new)) (trees : AreTrees new) where
  -- a leaf
  pub IsGrove-leaf : {E : Type 0} (p id : ℕ) (v : Value) (r : Result NodeId E) → Fits spec (Leaf p v) p → StandsFor now id v → IfOk r (IsRootMade (node_at old) (node_at new) (leaf_kind p) (leaf_part id) []) → OnErr r (new.nodes ≡ old.nodes) → IsGrove (grove spec view new now)
  IsGrove-leaf p id v (Err e) fits stands made same = IsGrove-same spec view old new was now grown held same
  IsGrove-leaf p id v (Ok n) fits stands made same =
      IsGrove-made spec view old new was now grown held n (leaf_kind p) (leaf_part id) [] made (λ k c lists. let none : None ≡ Some c = lists in cc none) keeps trees
      (record { arity = refl; scheme = refl; elided = refl; id = id; value = v; values = refl; stands = stands; held = fits.1 })

  -- a node of an operator, with number 0 in each slot
  pub IsGrove-node : {E : Type 0} (op : ℕ) (kind : Kind) (part : Part) (kids : List NodeId) (r : Result NodeId E) → kind.op ≡ Some op → phylum_of spec.ops op ≡ Some kind.phylum → kind.arity ≡ length (args_of spec.ops op)
      → part.scheme < 16 → length part.values ≡ length (slots_there spec op 0) → All (λ k. k ≡ 0) part.values → AreRootsOf (grove spec view old was) (args_of spec.ops op) kids
      → IfOk r (IsRootMade (node_at old) (node_at new) kind part kids) → OnErr r (new.nodes ≡ old.nodes) → IsGrove (grove spec view new now)
  IsGrove-node op kind part kids (Err e) is phylum arity scheme count zero roots made same = IsGrove-same spec view old new was now grown held same
  IsGrove-node op kind part kids (Ok n) is phylum arity scheme count zero roots made same =
      IsGrove-made spec view old new was now grown held n kind part kids made live keeps trees
      (subst (λ (w : Option ℕ). MatchOption w (IsLeaf after it) (IsOperation after it)) (sym is)
      (record { phylum = phylum; arity = arity; kids = below; scheme = scheme; values = record { count = count; each = known } }))
    where
      after : Grove
      after = grove spec view new now

      it : ForestNode Kind Part
      it = record { label = kind; part = part; up = None; kids = kids }

      live : (k : ℕ) (c : NodeId) → slice_get kids k ≡ Some c → IsLive (node_at old) c
      live k c lists = let root = (roots k c lists).0 in record { node = root.node; found = root.found }

      below : (k : ℕ) (c : NodeId) (y : ForestNode Kind Part) → slice_get kids k ≡ Some c → node_at new c ≡ Some y → slice_get (args_of spec.ops op) k ≡ Some y.label.phylum
      below k c y lists then =
          let root = roots k c lists in
          root.1 ∙ ap (λ (l : Kind). Some l.phylum) (sym (made_kinds spec view old new was now grown held n kind part kids made live keeps c root.0.node y root.0.found then))

      known : (slot type id : ℕ) → slice_get (slots_there spec op 0) slot ≡ Some type → slice_get part.values slot ≡ Some id → IsTyped spec now type id
      known slot type id has there =
          let none : id ≡ 0 = slice_get-All (λ k. k ≡ 0) part.values slot id zero there in
          record { value = Fault Fuel; stands = subst (λ k. StandsFor now k (Fault Fuel)) (sym none) (Stands-grown was now 0 (Fault Fuel) grown held.unknown); typed = inl (Fuel, refl) }

  pub Holds-leaf : (p id : ℕ) (v : Value) (n : NodeId) → StandsFor now id v → GrowsTree (node_at old) (node_at new) (leaf_kind p) (leaf_part id) [] n → Holds (grove spec view new now) n (Leaf p v)
  Holds-leaf p id v n stands grows = record {
    tree = node (leaf_kind p) (leaf_part id) end;
    stands = grows end refl;
    term = ap (λ w. Leaf p (unwrap_or w untyped)) stands;
  }

  pub Holds-node : (op : ℕ) (kind : Kind) (part : Part) (kids : List NodeId) (n : NodeId) → kind.op ≡ Some op → was ≡ now → GrowsTree (node_at old) (node_at new) kind part kids n → (ts : Terms) → AllHold (grove spec view old was) kids ts → Holds (grove spec view new now) n (Node op part.scheme part.elided ts)
  Holds-node op kind part kids n is pool grows ts all =
      let row = AllHold-row (grove spec view old was) kids ts all in
      record {
        tree = node kind part row.0;
        stands = grows row.0 row.1;
        term = over_op now kind part (terms_under now row.0) op is ∙ ap (λ p. Node op part.scheme part.elided (terms_under p row.0)) (sym pool) ∙ ap (Node op part.scheme part.elided) row.2;
      }

  unknown_there : (op : ℕ) (kind : Kind) (part : Part) (kids : List NodeId) (n : NodeId) → length part.values ≡ length (slots_there spec op 0) → All (λ k. k ≡ 0) part.values → IsRootMade (node_at old) (node_at new) kind part kids n
      → (slot type : ℕ) → slot_type spec op 0 slot ≡ Some type → number_at (grove spec view new now) n slot ≡ Some 0
  unknown_there op kind part kids n count zero made slot type has =
      let l = slice_get_within (slots_there spec op 0) slot type has in
      let at = slice_get-there part.values slot (omega (arith, l, count)) in
      let none : at.0 ≡ 0 = slice_get-All (λ k. k ≡ 0) part.values slot at.0 zero at.1 in
      ap (option_and_then (λ (y : ForestNode Kind Part). slice_get y.part.values slot)) made.root ∙ at.1 ∙ ap Some none

  -- where a call may have been refused
  pub held_leaf : {E : Type 0} (p id : ℕ) (v : Value) (r : Result NodeId E) → StandsFor now id v → IfOk r (GrowsTree (node_at old) (node_at new) (leaf_kind p) (leaf_part id) []) → IfOk r (λ n. Holds (grove spec view new now) n (Leaf p v))
  held_leaf p id v (Ok n) stands grows = Holds-leaf p id v n stands grows
  held_leaf p id v (Err e) stands grows = tt

  pub held_node : {E : Type 0} (op : ℕ) (kind : Kind) (part : Part) (kids : List NodeId) (r : Result NodeId E) → kind.op ≡ Some op → was ≡ now → IfOk r (GrowsTree (node_at old) (node_at new) kind part kids) → IfOk r (λ n. (ts : Terms) → AllHold (grove spec view old was) kids ts → Holds (grove spec view new now) n (Node op part.scheme part.elided ts))
  held_node op kind part kids (Ok n) is pool grows = λ ts all. Holds-node op kind part kids n is pool grows ts all
  held_node op kind part kids (Err e) is pool grows = tt

  pub was_free : {E : Type 0} (kind : Kind) (part : Part) (kids : List NodeId) (r : Result NodeId E) → IfOk r (IsRootMade (node_at old) (node_at new) kind part kids) → IfOk r (λ n. node_at old n ≡ None)
  was_free kind part kids (Ok n) made = made.was_free
  was_free kind part kids (Err e) made = tt

  pub unknown_node : {E : Type 0} (op : ℕ) (kind : Kind) (part : Part) (kids : List NodeId) (r : Result NodeId E) → length part.values ≡ length (slots_there spec op 0) → All (λ k. k ≡ 0) part.values → IfOk r (IsRootMade (node_at old) (node_at new) kind part kids)
      → IfOk r (λ n. (slot type : ℕ) → slot_type spec op 0 slot ≡ Some type → number_at (grove spec view new now) n slot ≡ Some 0)
  unknown_node op kind part kids (Ok n) count zero made = λ slot type has. unknown_there op kind part kids n count zero made slot type has
  unknown_node op kind part kids (Err e) count zero made = tt
