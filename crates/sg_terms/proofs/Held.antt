-- What keeps a grove: steps that keep what nodes are, and whose nodes keep or gain parts that fit.
use Rattle.std.proofs.Common.{◌≡◌, ◌<◌, ℕ, List, Option, Some, None, refl, sym, ◌∙◌, ap, subst}
use Rattle.std.specs.List.{slice_get}
use Rattle.std.specs.Prelude.{MatchOption}
use Rattle.sg_kinds.specs.Values.{Value}
use Rattle.sg_kinds.specs.Specification.{args_of}
use Rattle.sg_kinds.specs.declared.spec.Spec.{Spec}
use Rattle.sg_kinds.specs.declared.spec.Phylum.{Phylum}
use Rattle.sg_kinds.specs.Fits.{MayHold}
use Rattle.sg_kinds.specs.Typing.{slots_there}
use Rattle.sg_pool.specs.Pools.{IsGrown}
use Rattle.sg_forest.specs.declared.node_id.NodeId.{NodeId}
use Rattle.sg_forest.specs.Node.{Node}
use Rattle.sg_forest.specs.Trees.{Trees, node_at, IsChild}
use Rattle.sg_groves.specs.declared.kind.Kind.{Kind}
use Rattle.sg_groves.specs.declared.part.Part.{Part}
use Rattle.sg_groves.specs.Grove.{Grove, AreTyped, IsOperation, IsLeaf, IsNode, IsGrove}
use Rattle.sg_terms.proofs.Same.{Stands-grown, AreTyped-grown}
use Rattle.sg_terms.specs.Occurrences.{AreTrees}

module _ (spec : Spec) (view : ℕ) (old new : Trees Kind Part) (was now : List Value) where
  abbrev before : Grove
  before = record { spec = spec; trees = old; pool = was; view = view }

  abbrev after : Grove
  after = record { spec = spec; trees = new; pool = now; view = view }

  -- nodes keep what they are
  abbrev pub KeepsKinds : Type 0
  KeepsKinds = (n : NodeId) (x y : Node Kind Part) → node_at old n ≡ Some x → node_at new n ≡ Some y → y.label ≡ x.label

  -- the children are of the argument phyla of the operator, if it is one
  abbrev pub KidsFit : Kind → List NodeId → Type 0
  KidsFit label kids = (op : ℕ) → label.op ≡ Some op → (k : ℕ) (n : NodeId) (y : Node Kind Part) → slice_get kids k ≡ Some n → node_at new n ≡ Some y → slice_get (args_of spec.ops op) k ≡ Some y.label.phylum

  -- a part that a node of an operator may have
  pub record PartFits (op : ℕ) (part : Part) : Type 0 where
    pub scheme : part.scheme < 16
    pub values : AreTyped spec now (slots_there spec op 0) part.values

  module _ (grown : IsGrown was now) (held : IsGrove before) where
    operation_of : (x : Node Kind Part) (op : ℕ) → x.label.op ≡ Some op → IsNode before x → IsOperation before x op
    operation_of x op is node = subst (λ (w : Option ℕ). MatchOption w (IsLeaf before x) (IsOperation before x)) is node

    leaf_of : (x : Node Kind Part) → x.label.op ≡ None → IsNode before x → IsLeaf before x
    leaf_of x is node = subst (λ (w : Option ℕ). MatchOption w (IsLeaf before x) (IsOperation before x)) is node

    pub operation_at : (n : NodeId) (x : Node Kind Part) (op : ℕ) → node_at old n ≡ Some x → x.label.op ≡ Some op → IsOperation before x op
    operation_at n x op there is = operation_of x op is (held.each n x there)

    -- where the children are those before
    pub kids_fit : KeepsKinds → (n : NodeId) (x : Node Kind Part) → node_at old n ≡ Some x → KidsFit x.label x.kids
    kids_fit kinds n x there op is k c z lists then =
        let child : IsChild (node_at old) c n k = held.forest.linked.down n k c (record { node = x; found = there; lists = lists }) in
        let fits = (operation_at n x op there is).kids k c child.node lists child.found in
        fits ∙ ap (λ (l : Kind). Some l.phylum) (sym (kinds c child.node z child.found then))

    -- a node of an operator with another part, or other children
    pub operation_after : (n : NodeId) (x y : Node Kind Part) (op : ℕ) → node_at old n ≡ Some x → x.label.op ≡ Some op → y.label ≡ x.label → PartFits op y.part → KidsFit x.label y.kids → IsNode after y
    operation_after n x y op there is label part kids =
        let o = operation_at n x op there is in
        let here : y.label.op ≡ Some op = ap (λ (l : Kind). l.op) label ∙ is in
        subst (λ (w : Option ℕ). MatchOption w (IsLeaf after y) (IsOperation after y)) (sym here) (record {
          phylum = o.phylum ∙ ap (λ (l : Kind). Some l.phylum) (sym label);
          arity = ap (λ (l : Kind). l.arity) label ∙ o.arity;
          kids = λ k c z lists then. kids op is k c z lists then;
          scheme = part.scheme;
          values = part.values;
        })

    -- a leaf, which keeps its part
    pub leaf_after : (n : NodeId) (x y : Node Kind Part) → node_at old n ≡ Some x → x.label.op ≡ None → y.label ≡ x.label → y.part ≡ x.part → IsNode after y
    leaf_after n x y there is label part =
        let l = leaf_of x is (held.each n x there) in
        let here : y.label.op ≡ None = ap (λ (k : Kind). k.op) label ∙ is in
        subst (λ (w : Option ℕ). MatchOption w (IsLeaf after y) (IsOperation after y)) (sym here) (record {
          arity = ap (λ (k : Kind). k.arity) label ∙ l.arity;
          scheme = ap (λ (p : Part). p.scheme) part ∙ l.scheme;
          elided = ap (λ (p : Part). p.elided) part ∙ l.elided;
          id = l.id;
          value = l.value;
          values = ap (λ (p : Part). p.values) part ∙ l.values;
          stands = Stands-grown was now l.id l.value grown l.stands;
          held = subst (λ (k : Kind). MatchOption (slice_get spec.phyla k.phylum) ⊥ (λ (p : Phylum). MayHold spec p.shape l.value)) (sym label) l.held;
        })

    -- the part that a node has fits still
    pub part_after : (n : NodeId) (x : Node Kind Part) (op : ℕ) → node_at old n ≡ Some x → x.label.op ≡ Some op → PartFits op x.part
    part_after n x op there is =
        let o = operation_at n x op there is in
        record { scheme = o.scheme; values = AreTyped-grown spec was now grown (slots_there spec op 0) x.part.values o.values }

    -- a node that keeps its part
    pub node_after : (n : NodeId) (x y : Node Kind Part) → node_at old n ≡ Some x → y.label ≡ x.label → y.part ≡ x.part → KidsFit x.label y.kids → IsNode after y
    node_after n x y there label part kids = by x.label.op refl
      where
        by : (w : Option ℕ) → x.label.op ≡ w → IsNode after y
        by None is = leaf_after n x y there is label part
        by (Some op) is = operation_after n x y op there is label (subst (PartFits op) (sym part) (part_after n x op there is)) kids

    pub IsGrove-after : AreTrees new → ((n : NodeId) (y : Node Kind Part) → node_at new n ≡ Some y → IsNode after y) → IsGrove after
    IsGrove-after trees each = record { sound = held.sound; unknown = Stands-grown was now 0 _ grown held.unknown; forest = trees; each = each }
