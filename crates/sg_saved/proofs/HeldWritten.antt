-- What is written of held terms.
use Rattle.std.proofs.Common.{◌≡◌, ℕ, ◌+◌, ◌<◌, ◌⊎◌, List, [], ◌∷◌, ◌++◌, length, take, map, slice_get, sym, ap, ◌∙◌, arith, subst, append_assoc, Some, None, Result, Ok, Err, OnOk, length-take-le}
use Rattle.std.proofs.lemmas.List.{length-map}
use Rattle.std.proofs.lemmas.Option.{slice_get_within}
use Rattle.sg_kinds.specs.Terms.{Term, Leaf}
use Rattle.sg_kinds.specs.ValueOf.{value_of}
use Rattle.sg_kinds.specs.Values.{Bytes, Value}
use Rattle.sg_kinds.specs.declared.spec.Spec.{Spec}
use Rattle.sg_forest.specs.declared.node_id.NodeId.{NodeId}
use Rattle.sg_forest.specs.Trees.{IsLive}
use Rattle.sg_groves.specs.Grove.{Grove, nodes, IsGrove}
use Rattle.sg_groves.specs.Holds.{Holds}
use Rattle.sg_terms.specs.Found.{op_at}
use Rattle.sg_build.proofs.Told.{the_term, kids_in, values_more, node_value, leaf_term}
use Rattle.sg_saved_form.specs.Files.{comma, left_parenthesis, right_parenthesis}
use Rattle.sg_saved.specs.Spelling.{spelled, operator_name}
use Rattle.sg_saved.proofs.Written.{spelled_values, put-next}

-- one more child behind those that are written
pub put-kid : (spec : Spec) (out before : Bytes) (ts : List Term) (k : ℕ) (s : Term) → slice_get ts k ≡ Some s → before ≡ out ++ spelled_values spec (map value_of (take k ts)) → (sep : Bytes) → ((k ≡ 0) × (sep ≡ [])) ⊎ ((0 < k) × (sep ≡ comma ∷ []))
    → (before ++ sep) ++ spelled spec (value_of s) ≡ out ++ spelled_values spec (map value_of (take (k + 1) ts))
put-kid spec out before ts k s at written sep how =
    let within : k < length ts = slice_get_within ts k s at in
    let len : length (map value_of (take k ts)) ≡ k = length-map (take k ts) value_of ∙ length-take-le k ts (omega arith) in
    put-next spec out before sep (map value_of (take k ts)) k (value_of s) written len how ∙ ap (λ x. out ++ spelled_values spec x) (sym (values_more ts k s at))

module _ (g : Grove) (is : IsGrove g) (n : NodeId) where
  -- a node of an operator
  pub node-written : (op : ℕ) → op_at g n ≡ Some op → (t : Term) → Holds g n t → (out named begun done all : Bytes) → named ≡ out ++ operator_name g.spec.ops op → begun ≡ named ++ left_parenthesis ∷ []
      → done ≡ begun ++ spelled_values g.spec (map value_of (kids_in (the_term g n))) → all ≡ done ++ right_parenthesis ∷ [] → all ≡ out ++ spelled g.spec (value_of t)
  node-written op at t h out named begun done all name left kids right =
      let vs = map value_of (kids_in (the_term g n)) in
      right ∙ ap (λ x. x ++ right_parenthesis ∷ []) (kids ∙ ap (λ x. x ++ spelled_values g.spec vs) (left ∙ ap (λ x. x ++ left_parenthesis ∷ []) name))
      ∙ regrouped out (operator_name g.spec.ops op) (spelled_values g.spec vs) ∙ ap (λ v. out ++ spelled g.spec v) (sym (node_value g is n op at t h))
    where
      regrouped : (a b c : Bytes) → (((a ++ b) ++ left_parenthesis ∷ []) ++ c) ++ right_parenthesis ∷ [] ≡ a ++ (b ++ left_parenthesis ∷ (c ++ right_parenthesis ∷ []))
      regrouped a b c = simp append_assoc

  -- a leaf
  pub leaf-written : {E : Type 0} → IsLive (nodes g) n → op_at g n ≡ None → (out all : Bytes) (r : Result (Unit {0}) E) → OnOk r ((p : ℕ) (v : Value) → Holds g n (Leaf p v) → all ≡ out ++ spelled g.spec v)
      → OnOk r ((t : Term) → Holds g n t → all ≡ out ++ spelled g.spec (value_of t))
  leaf-written live at out all (Err e) wrote = tt
  leaf-written live at out all (Ok u) wrote = λ t h.
      let leaf = leaf_term g is n live at t h in
      wrote leaf.0 leaf.1 (subst (Holds g n) leaf.2 h) ∙ ap (λ s. out ++ spelled g.spec (value_of s)) (sym leaf.2)
