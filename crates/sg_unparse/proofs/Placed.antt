-- The nodes of a held term at its places, and the numbers of the values that they show.
use Rattle.std.specs.Prelude.{◌≡◌, refl, ℕ, zero, suc, ◌-◌, ◌<◌, ◌≤◌, Bool, true, false, List, [], ◌∷◌, length, Option, Some, None, IsSome, MatchOption, slice_get, option_map, option_and_then, unwrap_or, nat_lt, ◌%◌, All}
use Rattle.std.specs.Option.{is_some}
use Rattle.std.proofs.Common.{sym, ap, ◌∙◌, subst, arith, inl, inr}
use Rattle.std.proofs.lemmas.Bool.{cases_lt, lt-ltb, le-ltb, false≢true}
use Rattle.sg_kinds.specs.Values.{Value}
use Rattle.sg_kinds.specs.Evaluation.{untyped}
use Rattle.sg_kinds.specs.Terms.{Term, Terms, Leaf, Node, NoTerm, AndTerm, terms_of}
use Rattle.sg_kinds.specs.Places.{Place}
use Rattle.sg_kinds.specs.Fits.{Fits, AllFit}
use Rattle.sg_kinds.specs.Sound.{IsItem, IsScheme}
use Rattle.sg_kinds.specs.Specification.{args_of}
use Rattle.sg_kinds.specs.Typing.{slot_type}
use Rattle.sg_kinds.specs.declared.spec.Occurrence.{Occurrence}
use Rattle.sg_kinds.specs.declared.spec.Operator.{Operator}
use Rattle.sg_kinds.specs.declared.spec.Scheme.{Scheme}
use Rattle.sg_kinds.proofs.Elementary.{slice_get-All}
use Rattle.sg_pool.specs.Pools.{value_at}
use Rattle.sg_kinds.proofs.InView.{item_of_view, schemes_in_views}
use Rattle.sg_forest.specs.declared.node_id.NodeId.{NodeId}
use Rattle.sg_forest.specs.Node.{Node as ForestNode}
use Rattle.sg_forest.specs.Trees.{IsLive, IsChild, Climbs}
use Rattle.sg_groves.specs.declared.kind.Kind.{Kind}
use Rattle.sg_groves.specs.declared.part.Part.{Part}
use Rattle.sg_groves.specs.Grove.{Grove, nodes, IsGrove, IsLeaf, IsOperation, spec_shown}
use Rattle.sg_groves.specs.Holds.{Holds}
use Rattle.sg_groves.specs.Stored.{number_at, value_there}
use Rattle.sg_groves.proofs.Held.{held_fits}
use Rattle.sg_terms.specs.Found.{op_at}
use Rattle.sg_terms.specs.Labels.{op_of}
use Rattle.sg_terms.specs.Occurrences.{node_there}
use Rattle.sg_terms.proofs.Holding.{op_told}
use Rattle.sg_terms.proofs.Typed.{IsStored, stored_for}
use Rattle.sg_terms.proofs.Written.{op_node}
use Rattle.std.proofs.lemmas.Option.{slice_get_within}
use Rattle.sg_unparse.specs.Along.{node_along, kid_of, stored}
use Rattle.sg_unparse.specs.Cells.{goes_on, has_kids, reference}
use Rattle.sg_unparse.specs.Printing.{scheme_of}

module _ (g : Grove) where
  -- what a node is of
  op_of_node : (n : NodeId) (x : ForestNode Kind Part) → nodes g n ≡ Some x → op_at g n ≡ x.label.op
  op_of_node n x found = ap (λ (s : Option (ForestNode Kind Part)). option_and_then (λ y. y.label.op) s) found

  pub term_op : IsGrove g → (n : NodeId) → IsLive (nodes g) n → (t : Term) → Holds g n t → op_at g n ≡ op_of t
  term_op held n live t h = op_of_node n live.node live.found ∙ op_told g held n live.node live.found t h

  pub fits_at : IsGrove g → (n : NodeId) → (live : IsLive (nodes g) n) → (t : Term) → Holds g n t → Fits g.spec t live.node.label.phylum
  fits_at held n live t h = held_fits g held n live.node t live.found h

  -- children
  count_fits : (ts : Terms) (ps : List ℕ) → AllFit g.spec ts ps → length (terms_of ts) ≡ length ps
  count_fits NoTerm [] h = refl
  count_fits NoTerm (p ∷ ps) h = absurd h
  count_fits (AndTerm t ts) [] h = absurd h
  count_fits (AndTerm t ts) (p ∷ ps) h = ap suc (count_fits ts ps h.1)

  args_there : (op p k : ℕ) (elided : Bool) (ts : Terms) → Fits g.spec (Node op k elided ts) p → length (terms_of ts) ≡ length (args_of g.spec.ops op)
  args_there op p k elided ts h = by (slice_get g.spec.ops op) h
    where
      by : (w : Option Operator) → MatchOption w ⊥ (λ o. (o.phylum ≡ p) × (k < 16) × AllFit g.spec ts o.args) → length (terms_of ts) ≡ length (unwrap_or (option_map (λ (x : Operator). x.args) w) [])
      by None h = absurd h
      by (Some o) h = count_fits ts o.args h.2

  pub kids_counted : IsGrove g → (n : NodeId) → IsLive (nodes g) n → (op k : ℕ) (elided : Bool) (ts : Terms) → Holds g n (Node op k elided ts) → length (terms_of ts) ≡ length (args_of g.spec.ops op)
  kids_counted held n live op k elided ts h = args_there op live.node.label.phylum k elided ts (fits_at held n live (Node op k elided ts) h)

  pub arity_is : IsGrove g → (n : NodeId) (op : ℕ) → op_at g n ≡ Some op → (x : ForestNode Kind Part) → nodes g n ≡ Some x → x.label.arity ≡ length (args_of g.spec.ops op)
  arity_is held n op is x found = (subst (λ (w : Option ℕ). MatchOption w (IsLeaf g x) (IsOperation g x)) (sym (op_of_node n x found) ∙ is) (held.each n x found)).arity

  -- the second child goes on where it has children
  no_second : (ts : Terms) → length (terms_of ts) < 2 → false ≡ goes_on ts
  no_second NoTerm h = refl
  no_second (AndTerm t NoTerm) h = refl
  no_second (AndTerm t (AndTerm s ts)) h = absurd (omega (arith, h))

  pub few_stop : IsGrove g → (n : NodeId) → IsLive (nodes g) n → (op k : ℕ) (elided : Bool) (ts : Terms) → Holds g n (Node op k elided ts) → length (args_of g.spec.ops op) < 2 → false ≡ goes_on ts
  few_stop held n live op k elided ts h few = (let e = kids_counted held n live op k elided ts h in no_second ts (omega (arith, e, few)))

  -- the second child
  pub second : (ts : Terms) → 2 ≤ length (terms_of ts) → (s : Term) × (slice_get (terms_of ts) 1 ≡ Some s) × (goes_on ts ≡ has_kids s)
  second NoTerm h = absurd (omega (arith, h))
  second (AndTerm t NoTerm) h = absurd (omega (arith, h))
  second (AndTerm t (AndTerm s ts)) h = (s, refl, refl)

  has_some : (s : Term) (n : NodeId) → IsGrove g → IsLive (nodes g) n → Holds g n s → (op : ℕ) → op_of s ≡ Some op → (0 < length (args_of g.spec.ops op)) → true ≡ has_kids s
  has_some (Leaf p v) n held live h op e l = absurd (no_op op e)
    where
      no_op : (op : ℕ) → None ≡ Some op → ⊥
      no_op op e = (let IsNone : Option ℕ → Type 0 = λ o. elim o [ None ↦ Unit {0} | Some y ↦ ⊥ ] in subst IsNone e tt)
  has_some (Node q k elided NoTerm) n held live h op e l =
      let same : q ≡ op = ap (λ o. unwrap_or o op) e in
      let count = kids_counted held n live q k elided NoTerm h in
      let args = ap (λ i. length (args_of g.spec.ops i)) same in
      absurd (omega (arith, count, args, l))
  has_some (Node q k elided (AndTerm t ts)) n held live h op e l = refl

  has_none : (s : Term) (n : NodeId) → IsGrove g → IsLive (nodes g) n → Holds g n s → (op : ℕ) → op_of s ≡ Some op → (length (args_of g.spec.ops op) ≤ 0) → false ≡ has_kids s
  has_none (Leaf p v) n held live h op e l = refl
  has_none (Node q k elided NoTerm) n held live h op e l = refl
  has_none (Node q k elided (AndTerm t ts)) n held live h op e l =
      let same : q ≡ op = ap (λ o. unwrap_or o op) e in
      let count = kids_counted held n live q k elided (AndTerm t ts) h in
      let args = ap (λ i. length (args_of g.spec.ops i)) same in
      absurd (omega (arith, count, args, l))

  pub kids_tell : (s : Term) (n : NodeId) → IsGrove g → IsLive (nodes g) n → Holds g n s → (op : ℕ) → op_of s ≡ Some op → (b : Bool) → b ≡ nat_lt 0 (length (args_of g.spec.ops op)) → b ≡ has_kids s
  kids_tell s n held live h op e b is = elim (cases_lt 0 (length (args_of g.spec.ops op))) [
    | inl l ↦ is ∙ lt-ltb 0 (length (args_of g.spec.ops op)) l ∙ has_some s n held live h op e l
    | inr l ↦ is ∙ le-ltb 0 (length (args_of g.spec.ops op)) l ∙ has_none s n held live h op e l
  ]

  pub leaf_tells : (s : Term) → op_of s ≡ None → false ≡ has_kids s
  leaf_tells (Leaf p v) e = refl
  leaf_tells (Node op k elided ts) e = absurd (let IsNone : Option ℕ → Type 0 = λ o. elim o [ None ↦ Unit {0} | Some y ↦ ⊥ ] in subst IsNone (sym e) tt)

  -- the node along the place of a child
  pub along_kid : IsGrove g → (root : NodeId) (u : Place) (n kid : NodeId) (k : ℕ) → node_along g root u ≡ n → IsChild (nodes g) kid n k → node_along g root (k ∷ u) ≡ kid
  along_kid held root u n kid k along is =
      let l = held.forest.linked.upward n k kid is in
      ap (λ m. unwrap_or (kid_of g m k) root) along
      ∙ ap (λ (s : Option (ForestNode Kind Part)). unwrap_or (option_and_then (λ x. slice_get x.kids k) s) root) l.found
      ∙ ap (λ o. unwrap_or o root) l.lists

  along_there : (root : NodeId) (u : Place) (n m : NodeId) (at : ℕ) → node_along g root u ≡ n → node_there g.trees n at ≡ Some m → node_along g root (elim at [ zero ↦ u | suc k ↦ k ∷ u ]) ≡ m
  along_there root u n m zero along is = along ∙ ap (λ o. unwrap_or o m) is
  along_there root u n m (suc k) along is = ap (λ m. unwrap_or (kid_of g m k) root) along ∙ ap (λ o. unwrap_or o root) is

  pub value_is : (root : NodeId) (u : Place) (n m : NodeId) (o : Occurrence) (id : ℕ) → node_along g root u ≡ n → node_there g.trees n o.at ≡ Some m → number_at g m o.slot ≡ Some id → stored g root (reference u o) ≡ value_at g.pool id
  value_is root u n m o id along is number =
      ap (λ m. value_there g m o.slot) (along_there root u n m o.at along is) ∙ ap (λ w. unwrap_or (option_map (value_at g.pool) w) untyped) number

  -- what is stored for an occurrence that has a type
  typed_there : (o : Option ℕ) → IsSome o → (p : ℕ) × (o ≡ Some p)
  typed_there None h = absurd (no_some h)
    where
      no_some : false ≡ true → ⊥
      no_some e = false≢true e
  typed_there (Some p) h = (p, refl)

  pub occurrence_stored : (held : IsGrove g) → (n : NodeId) (op : ℕ) → op_at g n ≡ Some op → (o : Occurrence) → IsSome (slot_type g.spec op o.at o.slot) → (p : ℕ) × IsStored g held n o p
  occurrence_stored held n op is o typed =
      let x = op_node g n op is in
      let p = typed_there (slot_type g.spec op o.at o.slot) typed in
      (p.0, stored_for g held n x.0 op o p.0 x.1 x.2 p.1)

  pub number_there : (held : IsGrove g) (n m : NodeId) (o : Occurrence) (p : ℕ) → IsStored g held n o p → node_there g.trees n o.at ≡ Some m → IsSome (number_at g m o.slot)
  number_there held n m o p it is =
      let same : it.node ≡ m = ap (λ w. unwrap_or w m) (sym it.there ∙ is) in
      ap (λ k. is_some (number_at g k o.slot)) (sym same) ∙ ap is_some it.number

  -- a leaf has its value
  pub leaf_number : IsGrove g → (n : NodeId) → IsLive (nodes g) n → op_at g n ≡ None → IsSome (number_at g n 0)
  leaf_number held n live is =
      let l : IsLeaf g live.node = subst (λ (w : Option ℕ). MatchOption w (IsLeaf g live.node) (IsOperation g live.node)) (sym (op_of_node n live.node live.found) ∙ is) (held.each n live.node live.found) in
      ap is_some (ap (λ (s : Option (ForestNode Kind Part)). option_and_then (λ y. slice_get y.part.values 0) s) live.found ∙ ap (λ vs. slice_get vs 0) l.values)

  -- the items of a scheme of an operator are sound
  pub items_sound : IsGrove g → (op n : ℕ) (s : Scheme) → scheme_of (spec_shown g) op n ≡ Some s → All (IsItem g.spec op) s.items
  items_sound held op n s is = λ k d low. item_of_view g.spec g.view op _ (by (slice_get (spec_shown g).ops op) refl is k d low)
    where
      by : (w : Option Operator) → slice_get (spec_shown g).ops op ≡ w → option_and_then (λ (o : Operator). slice_get o.schemes (n % length o.schemes)) w ≡ Some s → All (IsItem (spec_shown g) op) s.items
      by None e is = absurd (let IsNone : Option Scheme → Type 0 = λ o. elim o [ None ↦ Unit {0} | Some y ↦ ⊥ ] in subst IsNone is tt)
      by (Some o) e is = (slice_get-All (IsScheme (spec_shown g) op) o.schemes (n % length o.schemes) s ((schemes_in_views g.spec g.view held.sound.schemes).schemes op o e) is).shown

  -- the operator of a node is there
  pub op_within : IsGrove g → (n : NodeId) (op : ℕ) → op_at g n ≡ Some op → op < length g.spec.ops
  op_within held n op is =
      let x = op_node g n op is in
      let o : IsOperation g x.0 op = subst (λ (w : Option ℕ). MatchOption w (IsLeaf g x.0) (IsOperation g x.0)) x.2 (held.each n x.0 x.1) in
      by (slice_get g.spec.ops op) refl o.phylum
    where
      by : {p : ℕ} (w : Option Operator) → slice_get g.spec.ops op ≡ w → option_map (λ (o : Operator). o.phylum) w ≡ Some p → op < length g.spec.ops
      by {p} None e h = absurd (let IsNone : Option ℕ → Type 0 = λ o. elim o [ None ↦ Unit {0} | Some y ↦ ⊥ ] in subst IsNone h tt)
      by (Some o) e h = slice_get_within g.spec.ops op o e

-- no operator is none
no_op : (op : ℕ) → None ≡ Some op → ⊥
no_op op e = (let IsNone : Option ℕ → Type 0 = λ o. elim o [ None ↦ Unit {0} | Some y ↦ ⊥ ] in subst IsNone e tt)

-- a term of an operator
pub node_of : (t : Term) (op : ℕ) → op_of t ≡ Some op → (k : ℕ) × (elided : Bool) × (ts : Terms) × (t ≡ Node op k elided ts)
node_of (Leaf p v) op e = absurd (no_op op e)
node_of (Node q k elided ts) op e = (let same : q ≡ op = ap (λ o. unwrap_or o op) e in (k, elided, ts, ap (λ x. Node x k elided ts) same))

pub leaf_of : (t : Term) → op_of t ≡ None → (p : ℕ) × (v : Value) × (t ≡ Leaf p v)
leaf_of (Leaf p v) e = (p, v, refl)
leaf_of (Node q k elided ts) e = absurd (no_op q (sym e))

module _ (g : Grove) (held : IsGrove g) where
  is_there : {A : Type 0} (o : Option A) → IsSome o → (x : A) × (o ≡ Some x)
  is_there None h = absurd (false≢true h)
  is_there (Some x) h = (x, refl)

  -- an argument of a node's operator has its child
  pub place_within : (n : NodeId) (at : ℕ) → (at ≡ 0 → ⊥) → IsSome (node_there g.trees n at) → (x : ForestNode Kind Part) → nodes g n ≡ Some x → at - 1 < x.label.arity
  place_within n zero below h x found = absurd (below refl)
  place_within n (suc k) below h x found =
      let some = is_there (node_there g.trees n (suc k)) h in
      let lists : slice_get x.kids k ≡ Some some.0 = ap (λ (s : Option (ForestNode Kind Part)). option_and_then (λ y. slice_get y.kids k) s) (sym found) ∙ some.1 in
      let within = slice_get_within x.kids k some.0 lists in
      let count = held.forest.arities n x found in
      omega (arith, within, count)

  pub there_kid : (n kid : NodeId) (at : ℕ) → (at ≡ 0 → ⊥) → IsChild (nodes g) kid n (at - 1) → node_there g.trees n at ≡ Some kid
  there_kid n kid zero below is = absurd (below refl)
  there_kid n kid (suc k) below is =
      let same : suc k - 1 ≡ k = omega arith in
      let l = held.forest.linked.upward n k kid (subst (IsChild (nodes g) kid n) same is) in
      ap (λ (s : Option (ForestNode Kind Part)). option_and_then (λ y. slice_get y.kids k) s) l.found ∙ l.lists

  -- the node along a place is the one that stands there
  pub climbs_along : (root : NodeId) (u : Place) (n : NodeId) → Climbs (nodes g) u n root → node_along g root u ≡ n
  climbs_along root [] n e = sym e
  climbs_along root (k ∷ u) n w = along_kid g held root u w.0 n k (climbs_along root u w.0 w.2) w.1
