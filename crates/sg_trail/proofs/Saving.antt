-- The entries of a tree, one node after another.
use Rattle.std.specs.Prelude.{◌≡◌, ◌⊎◌, ℕ, ◌+◌, ◌<◌, List, [], ◌∷◌, ◌++◌, length, Option, Some, None, Contains, slice_get, option_and_then, MatchOption}
use Rattle.std.proofs.Common.{refl, sym, ap, ◌∙◌, subst, inl, inr, arith}
use Rattle.std.proofs.lemmas.Bool.{cases_lt}
use Rattle.std.proofs.lemmas.List.Elements.{Contains-append_left, Contains-append_right, Contains-append_cases}
use Rattle.std.proofs.lemmas.Option.{none-some, same_Some, slice_get_within}
use Rattle.sg_kinds.proofs.Elementary.{option_map_some, slice_get-there}
use Rattle.sg_kinds.specs.Specification.{args_of}
use Rattle.sg_kinds.specs.Typing.{slots_there}
use Rattle.sg_kinds.specs.declared.spec.Operator.{Operator}
use Rattle.sg_forest.specs.declared.node_id.NodeId.{NodeId}
use Rattle.sg_forest.specs.Node as forest
use Rattle.sg_forest.specs.Trees.{IsChild, IsInside, Climbs}
use Rattle.sg_groves.specs.declared.kind.Kind.{Kind}
use Rattle.sg_groves.specs.declared.part.Part.{Part}
use Rattle.sg_groves.specs.Grove.{Grove, nodes, IsLeaf, IsOperation, IsGrove}
use Rattle.sg_groves.specs.Stored.{number_at}
use Rattle.sg_groves.proofs.Lists.{contains_first, contains_either, contains_none}
use Rattle.sg_terms.specs.Found.{op_at}
use Rattle.sg_terms.proofs.Written.{op_node, number_node, storable_again}
use Rattle.sg_trail.specs.declared.entry.WasStored.{WasStored}
use Rattle.sg_trail.specs.Trails.{AreCovered, IsCovered, IsSaved, AreSaved}

-- what an operator's node is
pub operation_is : (g : Grove) → IsGrove g → (n : NodeId) (x : forest.Node Kind Part) (op : ℕ) → nodes g n ≡ Some x → op_at g n ≡ Some op → IsOperation g x op
operation_is g is n x op found at = by x.label.op (sym (ap (option_and_then (λ (y : forest.Node Kind Part). y.label.op)) found) ∙ at) (is.each n x found)
  where
    by : (o : Option ℕ) → o ≡ Some op → MatchOption o (IsLeaf g x) (IsOperation g x) → IsOperation g x op
    by None e node = absurd (none-some op e)
    by (Some p) e node = subst (IsOperation g x) (same_Some p op e) node

pub op_there : (g : Grove) → IsGrove g → (n : NodeId) (op : ℕ) → op_at g n ≡ Some op → op < length g.spec.ops
op_there g is n op at =
    let x = op_node g n op at in
    let operation = operation_is g is n x.0 op x.1 at in
    let found = option_map_some (λ (o : Operator). o.phylum) (slice_get g.spec.ops op) x.0.label.phylum operation.phylum in
    slice_get_within g.spec.ops op found.0 found.1

-- its slots have numbers, and no others do
pub slot_there : (g : Grove) → IsGrove g → (n : NodeId) (op slot : ℕ) → op_at g n ≡ Some op → slot < length (slots_there g.spec op 0) → (id : ℕ) × (number_at g n slot ≡ Some id)
slot_there g is n op slot at low =
    let x = op_node g n op at in
    let operation = operation_is g is n x.0 op x.1 at in
    let count = operation.values.count in
    let there = slice_get-there x.0.part.values slot (omega (arith, low, count)) in
    (there.0, ap (option_and_then (λ (y : forest.Node Kind Part). slice_get y.part.values slot)) x.1 ∙ there.1)

pub slot_low : (g : Grove) → IsGrove g → (n : NodeId) (op slot id : ℕ) → op_at g n ≡ Some op → number_at g n slot ≡ Some id → slot < length (slots_there g.spec op 0)
slot_low g is n op slot id at number =
    let x = number_node g n slot id number in
    let operation = operation_is g is n x.0 op x.1 at in
    let count = operation.values.count in
    let low = slice_get_within x.0.part.values slot id x.2 in
    omega (arith, low, count)

pub kid_low : (g : Grove) → IsGrove g → (n : NodeId) (op k : ℕ) → op_at g n ≡ Some op → k < length (args_of g.spec.ops op) → (x : forest.Node Kind Part) → nodes g n ≡ Some x → k < x.label.arity
kid_low g is n op k at low x found = let operation = operation_is g is n x op found at in let arity = operation.arity in omega (arith, low, arity)

-- one entry more
pub saved_push : (g : Grove) → IsGrove g → (es : List WasStored) (n : NodeId) (op slot id : ℕ) → op_at g n ≡ Some op → number_at g n slot ≡ Some id → AreSaved g es → AreSaved g (es ++ record { node = n; slot = slot; number = id } ∷ [])
saved_push g is es n op slot id at number saved e has = elim (Contains-append_cases es (record { node = n; slot = slot; number = id } ∷ []) e has) [
  | inl old ↦ saved e old
  | inr new ↦ elim (contains_either (record { node = n; slot = slot; number = id }) [] e new) [
    | inl same ↦ subst (IsSaved g) same (record { number = number; storable = storable_again g is n slot id op number at })
    | inr none ↦ absurd (contains_none e none)
  ]
]

-- the first slots of a node
pub record IsSavingNode (g : Grove) (old now : List WasStored) (n : NodeId) (i : ℕ) : Type 0 where
  pub saved : AreSaved g old → AreSaved g now
  pub stay : (e : WasStored) → Contains old e → Contains now e
  pub covered : (slot : ℕ) → slot < i → IsCovered now n slot

pub covered_more : (old now : List WasStored) (n : NodeId) (slot : ℕ) → ((e : WasStored) → Contains old e → Contains now e) → IsCovered old n slot → IsCovered now n slot
covered_more old now n slot stay c = record { entry = c.entry; listed = stay c.entry c.listed; node_is = c.node_is; slot_is = c.slot_is }

pub node_first : (g : Grove) (es : List WasStored) (n : NodeId) → IsSavingNode g es es n 0
node_first g es n = record { saved = λ s. s; stay = λ e has. has; covered = λ slot low. absurd (omega (arith, low)) }

pub node_next : (g : Grove) → IsGrove g → (old now new : List WasStored) (n : NodeId) (op id i : ℕ) → op_at g n ≡ Some op → number_at g n i ≡ Some id → new ≡ now ++ record { node = n; slot = i; number = id } ∷ [] → IsSavingNode g old now n i → IsSavingNode g old new n (i + 1)
node_next g is old now new n op id i at number pushed s =
    let here : WasStored = record { node = n; slot = i; number = id } in
    let more : (e : WasStored) → Contains now e → Contains new e = λ e has. subst (λ es. Contains es e) (sym pushed) (Contains-append_left now (here ∷ []) e has) in
    record {
      saved = λ was. subst (AreSaved g) (sym pushed) (saved_push g is now n op i id at number (s.saved was));
      stay = λ e has. more e (s.stay e has);
      covered = λ slot low. elim (cases_lt slot i) [
        | inl less ↦ covered_more now new n slot more (s.covered slot less)
        | inr past ↦ record { entry = here; listed = subst (λ es. Contains es here) (sym pushed) (Contains-append_right now (here ∷ []) here (contains_first here [])); node_is = refl; slot_is = omega (arith, low, past) }
      ];
    }

-- the first children of a node
pub record IsSavingKids (g : Grove) (old now : List WasStored) (n : NodeId) (i : ℕ) : Type 0 where
  pub saved : AreSaved g old → AreSaved g now
  pub stay : (e : WasStored) → Contains old e → Contains now e
  pub own : (slot id : ℕ) → number_at g n slot ≡ Some id → IsCovered now n slot
  pub kids : (k : ℕ) (c : NodeId) → k < i → IsChild (nodes g) c n k → AreCovered g c now

pub covered_still : (g : Grove) (old now : List WasStored) (c : NodeId) → ((e : WasStored) → Contains old e → Contains now e) → AreCovered g c old → AreCovered g c now
covered_still g old now c stay covered n op slot id inside at number = covered_more old now n slot stay (covered n op slot id inside at number)

-- a place in a tree is its top or in the tree of a child
top_way : (g : Grove) (path : List ℕ) (m n : NodeId) → Climbs (nodes g) path m n → (m ≡ n) ⊎ ((k : ℕ) × (c : NodeId) × IsChild (nodes g) c n k × IsInside (nodes g) m c)
top_way g [] m n same = inl same
top_way g (j ∷ path) m n climbs = inr (elim (top_way g path climbs.0 n climbs.2) [
  | inl same ↦ (j, m, subst (λ p. IsChild (nodes g) m p j) same climbs.1, record { path = []; climbs = refl })
  | inr low ↦ (low.0, low.1, low.2, record { path = j ∷ low.3.path; climbs = (climbs.0, climbs.1, low.3.climbs) })
])

child_low : (g : Grove) → IsGrove g → (n c : NodeId) (k op : ℕ) → op_at g n ≡ Some op → IsChild (nodes g) c n k → k < length (args_of g.spec.ops op)
child_low g is n c k op at hangs =
    let lists = is.forest.linked.upward n k c hangs in
    let operation = operation_is g is n lists.node op lists.found at in
    let arity = operation.arity in
    let count = is.forest.arities n lists.node lists.found in
    let low = slice_get_within lists.node.kids k c lists.lists in
    omega (arith, arity, count, low)

pub all_kids : (g : Grove) → IsGrove g → (old now : List WasStored) (n : NodeId) (op i : ℕ) → op_at g n ≡ Some op → length (args_of g.spec.ops op) ≡ i → IsSavingKids g old now n i → AreCovered g n now
all_kids g is old now n op i at all s m q slot id inside is_op number = elim (top_way g inside.path m n inside.climbs) [
  | inl same ↦ subst (λ z. IsCovered now z slot) (sym same) (s.own slot id (ap (λ z. number_at g z slot) (sym same) ∙ number))
  | inr low ↦ s.kids low.0 low.1 (let l = child_low g is n low.1 low.0 op at low.2 in omega (arith, l, all)) low.2 m q slot id low.3 is_op number
]

pub leaf_covered : (g : Grove) → IsGrove g → (es : List WasStored) (n : NodeId) → op_at g n ≡ None → AreCovered g n es
leaf_covered g is es n leaf m q slot id inside is_op number = elim (top_way g inside.path m n inside.climbs) [
  | inl same ↦ absurd (none-some q (sym leaf ∙ ap (op_at g) (sym same) ∙ is_op))
  | inr low ↦ absurd (
      let lists = is.forest.linked.upward n low.0 low.1 low.2 in
      by lists.node lists.found lists.node.label.op (sym (ap (option_and_then (λ (y : forest.Node Kind Part). y.label.op)) lists.found) ∙ leaf) (is.each n lists.node lists.found)
      (is.forest.arities n lists.node lists.found) (slice_get_within lists.node.kids low.0 low.1 lists.lists))
]
  where
    by : (x : forest.Node Kind Part) → nodes g n ≡ Some x → (o : Option ℕ) → o ≡ None → MatchOption o (IsLeaf g x) (IsOperation g x) → length x.kids ≡ x.label.arity → {k : ℕ} → k < length x.kids → ⊥
    by x found None e node count low = let none = node.arity in omega (arith, none, count, low)
    by x found (Some p) e node count low = none-some p (sym e)

pub kids_first : (g : Grove) (old now : List WasStored) (n : NodeId) → (AreSaved g old → AreSaved g now) → ((e : WasStored) → Contains old e → Contains now e) → ((slot id : ℕ) → number_at g n slot ≡ Some id → IsCovered now n slot) → IsSavingKids g old now n 0
kids_first g old now n saved stay own = record { saved = saved; stay = stay; own = own; kids = λ k c low hangs. absurd (omega (arith, low)) }

pub kids_next : (g : Grove) → IsGrove g → (old now new : List WasStored) (n c : NodeId) (i : ℕ) → IsChild (nodes g) c n i → (AreSaved g now → AreSaved g new) → ((e : WasStored) → Contains now e → Contains new e) → AreCovered g c new → IsSavingKids g old now n i → IsSavingKids g old new n (i + 1)
kids_next g is old now new n c i hangs saved stay covered s = record {
  saved = λ was. saved (s.saved was);
  stay = λ e has. stay e (s.stay e has);
  own = λ slot id number. covered_more now new n slot stay (s.own slot id number);
  kids = λ k d low below. elim (cases_lt k i) [
    | inl less ↦ covered_still g now new d stay (s.kids k d less below)
    | inr past ↦
        let same : k ≡ i = omega (arith, low, past) in
        let one : c ≡ d = same_kid d (subst (λ j. IsChild (nodes g) d n j) same below) in
        subst (λ z. AreCovered g z new) one covered
  ];
}
  where
    same_kid : (d : NodeId) → IsChild (nodes g) d n i → c ≡ d
    same_kid d below =
        let one = is.forest.linked.upward n i c hangs in
        let two = is.forest.linked.upward n i d below in
        let same : one.node ≡ two.node = cc (one.found, two.found) in
        same_Some c d (sym one.lists ∙ ap (λ (y : forest.Node Kind Part). slice_get y.kids i) same ∙ two.lists)
