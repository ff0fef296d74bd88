-- What the steps of building do to the roots that were added.
use Rattle.std.specs.Prelude.{◌≡◌, ◌≢◌, ◌↔◌, refl, ℕ, suc, Bool, false, List, [], ◌∷◌, length, Option, Some, None, Result, Ok, Err, OnOk, slice_get, option_and_then, MatchOption}
use Rattle.std.specs.Result.{is_err}
use Rattle.std.proofs.Common.{sym, ap, ◌∙◌, subst, arith}
use Rattle.std.proofs.lemmas.List.{append-nil}
use Rattle.std.proofs.lemmas.Bool.{false≢true}
use Rattle.std.proofs.lemmas.Option.{none-some, same_Some, slice_get_within}
use Rattle.sg_kinds.proofs.Elementary.{slice_get-there}
use Rattle.sg_kinds.specs.Fits.{Fits}
use Rattle.sg_kinds.specs.Specification.{args_of}
use Rattle.sg_kinds.specs.Terms.{Terms, Leaf, Node}
use Rattle.sg_kinds.specs.Typing.{slots_there, slot_type}
use Rattle.sg_kinds.specs.Values.{Value}
use Rattle.sg_kinds.specs.declared.spec.Spec.{Spec}
use Rattle.sg_forest.specs.declared.node_id.NodeId.{NodeId}
use Rattle.sg_forest.specs.Node as forest
use Rattle.sg_forest.specs.Trees.{IsRoot, IsChild}
use Rattle.sg_forest.specs.Steps.{AreDistinct}
use Rattle.sg_groves.specs.declared.kind.Kind.{Kind}
use Rattle.sg_groves.specs.declared.part.Part.{Part}
use Rattle.sg_groves.specs.Grove.{Grove, nodes, IsLeaf, IsOperation, IsGrove}
use Rattle.sg_groves.specs.Holds.{Holds}
use Rattle.sg_groves.specs.Stored.{number_at}
use Rattle.sg_terms.specs.Found.{op_at}
use Rattle.sg_terms.specs.Kept.{AllHold, AreRootsOf, IsAdded}
use Rattle.sg_terms.proofs.Holding.{op_told}
use Rattle.sg_terms.proofs.Same.{node_at-same}
use Rattle.sg_build.specs.Grown.{GrewBy}
use Rattle.sg_build.proofs.Framed.{grew_same, grew_none, grew_then}
use Rattle.sg_build.proofs.Topped.{grew_over}
use Rattle.sg_build.proofs.Dropped.{IsGone, grew_without}
use Rattle.sg_build.proofs.Roots.{IsOperator, is_operator, as_many, are_roots}

-- nothing more was added
pub grew_still : (old mid new : Grove) (roots : List NodeId) → GrewBy old mid roots → GrewBy mid new [] → GrewBy old new roots
grew_still old mid new roots one two = subst (GrewBy old new) (append-nil roots) (grew_then old mid new roots [] one two)

pub grew_refused : (old mid new : Grove) (roots : List NodeId) → GrewBy old mid roots → IsAdded mid new → new.trees.nodes ≡ mid.trees.nodes → GrewBy old new roots
grew_refused old mid new roots grew added same = grew_still old mid new roots grew (grew_same mid new added.spec added.view added.pool (node_at-same mid.trees new.trees same))

-- roots of which some are left to drop
pub record IsUndone (was now : Grove) (roots left : List NodeId) : Type 0 where
  pub tops : (k : ℕ) (n : NodeId) → slice_get left k ≡ Some n → IsRoot (nodes now) n
  pub distinct : AreDistinct left
  pub grew : (g : Grove) → IsGrove g → GrewBy g was roots → GrewBy g now left

pub undone_one : (was mid new : Grove) (roots : List NodeId) (x : NodeId) (rest : List NodeId) → IsGrove mid → IsUndone was mid roots (x ∷ rest) → IsGone mid new x → IsUndone was new roots rest
undone_one was mid new roots x rest is undone gone = record {
  tops = λ k n at. (gone.roots n).1 (undone.tops (suc k) n at, λ e. let twice = undone.distinct 0 (suc k) x refl (at ∙ ap Some e) in absurd (omega (arith, twice)));
  distinct = λ j k n one two. let e = undone.distinct (suc j) (suc k) n one two in omega (arith, e);
  grew = λ g held grew. grew_without g mid new x rest held is (undone.grew g held grew) gone;
}

-- roots that hold the children of a node
pub record IsReady (g : Grove) (op scheme : ℕ) (roots : List NodeId) (ts : Terms) : Type 0 where
  pub operator : IsOperator g.spec op scheme ts
  pub all : AllHold g roots ts
  pub tops : (k : ℕ) (n : NodeId) → slice_get roots k ≡ Some n → IsRoot (nodes g) n

was_ok : {A E : Type 0} (r : Result A E) (P : Type 0) → false ≡ is_err r → OnOk r P → P
was_ok (Ok a) P test held = held
was_ok (Err e) P test held = absurd (false≢true test)

pub ready : {A E : Type 0} (old mid : Grove) (roots : List NodeId) (op scheme p : ℕ) (elided : Bool) (ts : Terms) (r : Result A E) → GrewBy old mid roots → Fits old.spec (Node op scheme elided ts) p → false ≡ is_err r → OnOk r (AllHold mid roots ts) → IsReady mid op scheme roots ts
ready old mid roots op scheme p elided ts r grew fits test held = record {
  operator = subst (λ (spec : Spec). IsOperator spec op scheme ts) (sym grew.spec) (is_operator old.spec op scheme p ts elided fits);
  all = was_ok r (AllHold mid roots ts) test held;
  tops = grew.tops;
}

module _ (mid : Grove) (op scheme : ℕ) (roots : List NodeId) (ts : Terms) (is : IsReady mid op scheme roots ts) where
  pub ready_count : length roots ≡ length (args_of mid.spec.ops op)
  ready_count = as_many mid mid.spec roots ts (args_of mid.spec.ops op) is.all is.operator.fit

  pub ready_roots : IsGrove mid → AreRootsOf mid (args_of mid.spec.ops op) roots
  ready_roots held = are_roots mid held roots ts (args_of mid.spec.ops op) is.all is.operator.fit is.tops

pub refused_tops : (mid new : Grove) (roots back : List NodeId) → ((k : ℕ) (n : NodeId) → slice_get roots k ≡ Some n → IsRoot (nodes mid) n) → new.trees.nodes ≡ mid.trees.nodes → back ≡ roots → (k : ℕ) (n : NodeId) → slice_get back k ≡ Some n → IsRoot (nodes new) n
refused_tops mid new roots back tops same is k n at =
    let root = tops k n (ap (λ ids. slice_get ids k) (sym is) ∙ at) in
    record { node = root.node; found = node_at-same mid.trees new.trees same n ∙ root.found; top = root.top }

-- a node of an operator over roots
module _ (mid new : Grove) (after : IsGrove new) (roots : List NodeId) (id : NodeId) (op scheme : ℕ) (elided : Bool) (ts : Terms)
    (count : length roots ≡ length (args_of mid.spec.ops op)) (held : Holds new id (Node op scheme elided ts)) (spec : new.spec ≡ mid.spec) where
  op_is : (x : forest.Node Kind Part) → nodes new id ≡ Some x → x.label.op ≡ Some op
  op_is x found = op_told new after id x found (Node op scheme elided ts) held

  operation : (x : forest.Node Kind Part) → nodes new id ≡ Some x → IsOperation new x op
  operation x found = subst (λ (o : Option ℕ). MatchOption o (IsLeaf new x) (IsOperation new x)) (op_is x found) (after.each id x found)

  pub node_kids : (x : forest.Node Kind Part) → nodes new id ≡ Some x → length x.kids ≡ length roots
  node_kids x found =
      after.forest.arities id x found ∙ (operation x found).arity ∙ ap (λ (s : Spec). length (args_of s.ops op)) spec ∙ sym count

  pub node_unknown : ((slot type : ℕ) → slot_type mid.spec op 0 slot ≡ Some type → number_at new id slot ≡ Some 0) → (other slot k : ℕ) → op_at new id ≡ Some other → number_at new id slot ≡ Some k → k ≡ 0
  node_unknown zeros other slot k at number = by (nodes new id) refl at number
    where
      by : (o : Option (forest.Node Kind Part)) → nodes new id ≡ o → option_and_then (λ x. x.label.op) o ≡ Some other → option_and_then (λ x. slice_get x.part.values slot) o ≡ Some k → k ≡ 0
      by None found e got = absurd (none-some other e)
      by (Some x) found e got =
          let o = operation x found in
          let low = slice_get_within x.part.values slot k got in
          let same = o.values.count in
          let type = slice_get-there (slots_there new.spec op 0) slot (omega (arith, low, same)) in
          let stored = zeros slot type.0 (ap (λ (s : Spec). slice_get (slots_there s op 0) slot) (sym spec) ∙ type.1) in
          same_Some k 0 (sym number ∙ stored)

pub grew_node : (old mid new : Grove) (roots : List NodeId) (id : NodeId) (op scheme : ℕ) (elided : Bool) (ts : Terms) → IsGrove mid → IsGrove new → GrewBy old mid roots → IsReady mid op scheme roots ts → IsAdded mid new
    → Holds new id (Node op scheme elided ts) → ((slot type : ℕ) → slot_type mid.spec op 0 slot ≡ Some type → number_at new id slot ≡ Some 0) → nodes mid id ≡ None → IsRoot (nodes new) id
    → ((k : ℕ) (kid : NodeId) → slice_get roots k ≡ Some kid → IsChild (nodes new) kid id k)
    → ((n : NodeId) → n ≢ id → IsRoot (nodes new) n ↔ IsRoot (nodes mid) n × ((k : ℕ) → slice_get roots k ≢ Some n))
    → GrewBy old new (id ∷ [])
grew_node old mid new roots id op scheme elided ts is after grew ready added held zeros fresh root hung others =
    let count = ready_count mid op scheme roots ts ready in
    grew_over mid new roots id is after
    (record {
      added = added;
      fresh = fresh;
      root = root;
      under = ready.tops;
      hung = hung;
      roots = others;
      count = node_kids mid new after roots id op scheme elided ts count held added.spec;
      unknown = node_unknown mid new after roots id op scheme elided ts count held added.spec zeros;
    })
    old grew

-- a leaf
pub grew_leaf : (old new : Grove) (id : NodeId) (p : ℕ) (v : Value) → IsGrove old → IsGrove new → IsAdded old new → Holds new id (Leaf p v) → nodes old id ≡ None → IsRoot (nodes new) id
    → ((n : NodeId) → n ≢ id → IsRoot (nodes new) n ↔ IsRoot (nodes old) n) → GrewBy old new (id ∷ [])
grew_leaf old new id p v is after added held fresh root others =
    grew_over old new [] id is after
    (record {
      added = added;
      fresh = fresh;
      root = root;
      under = λ k kid at. absurd (none-some kid at);
      hung = λ k kid at. absurd (none-some kid at);
      roots = λ n out. (λ now. ((others n out).0 now, λ k at. none-some n at), λ was. (others n out).1 was.0);
      count = λ x found. after.forest.arities id x found ∙ (leaf x found).arity;
      unknown = λ op slot k at number. absurd (none-some op (sym (none op at)));
    })
    old (grew_none old)
  where
    op_none : (x : forest.Node Kind Part) → nodes new id ≡ Some x → x.label.op ≡ None
    op_none x found = op_told new after id x found (Leaf p v) held

    leaf : (x : forest.Node Kind Part) → nodes new id ≡ Some x → IsLeaf new x
    leaf x found = subst (λ (o : Option ℕ). MatchOption o (IsLeaf new x) (IsOperation new x)) (op_none x found) (after.each id x found)

    none : (op : ℕ) → op_at new id ≡ Some op → Some op ≡ None
    none op at = sym at ∙ ap (option_and_then (λ (x : forest.Node Kind Part). x.label.op)) root.found ∙ op_none root.node root.found
