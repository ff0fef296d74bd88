-- What a written part does to a grove: another number in a slot, another scheme number, another mark.
use Rattle.std.proofs.Common.{◌≡◌, ◌≢◌, ◌<◌, ◌⊎◌, ℕ, List, length, set, Option, Some, None, refl, sym, ◌∙◌, ap, subst, inl, inr, arith}
use Rattle.std.specs.List.{slice_get}
use Rattle.std.specs.Prelude.{option_and_then}
use Rattle.std.proofs.lemmas.Option.{slice_get_within}
use Rattle.std.proofs.Math.ListN.{length-set}
use Rattle.sg_kinds.proofs.Elementary.{slice_get-there}
use Rattle.sg_kinds.specs.Values.{Value}
use Rattle.sg_kinds.specs.Terms.{Term, Terms, Leaf, Node}
use Rattle.sg_kinds.specs.Places.{Place, sub, put}
use Rattle.sg_kinds.specs.Typing.{slots_there}
use Rattle.sg_kinds.specs.declared.spec.Spec.{Spec}
use Rattle.sg_pool.proofs.Grown.{grown_itself}
use Rattle.sg_forest.specs.declared.node_id.NodeId.{NodeId}
use Rattle.sg_forest.specs.Node.{Node as ForestNode}
use Rattle.sg_forest.specs.Trees.{Trees, node_at, IsLive, Climbs, room_below}
use Rattle.sg_forest.specs.Tree.{Tree, node, changed, with_part}
use Rattle.sg_forest.specs.Steps.{IsPartSet}
use Rattle.sg_forest.proofs.Paths.{cases_id}
use Rattle.sg_forest.proofs.Moves.{slice_get-set_same, slice_get-set_other}
use Rattle.sg_forest.proofs.Shape.{KeepsShape-part_set}
use Rattle.sg_forest.proofs.Laws.{ChangesTrees-part_set}
use Rattle.sg_groves.specs.declared.kind.Kind.{Kind}
use Rattle.sg_groves.specs.declared.part.Part.{Part}
use Rattle.sg_groves.specs.Grove.{Grove, nodes, IsTyped, AreTyped, IsGrove}
use Rattle.sg_groves.specs.Stored.{number_at}
use Rattle.sg_groves.specs.Holds.{term_over, term_of, terms_under, Holds}
use Rattle.sg_groves.specs.Unchanged.{KeepsPart, OnlyStored}
use Rattle.sg_groves.proofs.Held.{place_held}
use Rattle.sg_groves.proofs.Replacing.{tree_changed}
use Rattle.sg_terms.specs.Found.{op_at}
use Rattle.sg_terms.specs.Storable.{IsStorable, IsSlot}
use Rattle.sg_terms.proofs.Held.{PartFits, operation_at, part_after}
use Rattle.sg_terms.proofs.Holding.{Holds-over, over_leaf, over_op}
use Rattle.sg_terms.proofs.Steps.{grove, cases_place, IsGrove-part}

-- a node that may store is one of an operator
pub op_node : (g : Grove) (n : NodeId) (op : ℕ) → op_at g n ≡ Some op → (x : ForestNode Kind Part) × (nodes g n ≡ Some x) × (x.label.op ≡ Some op)
op_node g n op is = by (nodes g n) refl
  where
    by : (s : Option (ForestNode Kind Part)) → nodes g n ≡ s → (x : ForestNode Kind Part) × (nodes g n ≡ Some x) × (x.label.op ≡ Some op)
    by None e = let none : None ≡ Some op = sym (ap (option_and_then (λ (y : ForestNode Kind Part). y.label.op)) e) ∙ is in cc none
    by (Some x) e = (x, e, sym (ap (option_and_then (λ (y : ForestNode Kind Part). y.label.op)) e) ∙ is)

pub slot_within : (g : Grove) (held : IsGrove g) (n : NodeId) (slot id : ℕ) (s : IsStorable g n slot id) (x : ForestNode Kind Part) → nodes g n ≡ Some x → slot < length x.part.values
slot_within g held n slot id s x found =
    let y = op_node g n s.op s.is in
    let same : y.0 ≡ x = cc (y.1, found) in
    let o = operation_at g.spec g.view g.trees g.trees g.pool g.pool (grown_itself g.pool) held n x s.op found (ap (λ (z : ForestNode Kind Part). z.label.op) (sym same) ∙ y.2) in
    let l = slice_get_within (slots_there g.spec s.op 0) slot s.type s.has_type in
    let c = o.values.count in
    omega arith

-- a node that has a number is there, and one of an operator may store what it stores
pub number_node : (g : Grove) (n : NodeId) (slot id : ℕ) → number_at g n slot ≡ Some id → (x : ForestNode Kind Part) × (nodes g n ≡ Some x) × (slice_get x.part.values slot ≡ Some id)
number_node g n slot id is = by (nodes g n) refl
  where
    by : (s : Option (ForestNode Kind Part)) → nodes g n ≡ s → (x : ForestNode Kind Part) × (nodes g n ≡ Some x) × (slice_get x.part.values slot ≡ Some id)
    by None e = let none : None ≡ Some id = sym (ap (option_and_then (λ (y : ForestNode Kind Part). slice_get y.part.values slot)) e) ∙ is in cc none
    by (Some x) e = (x, e, sym (ap (option_and_then (λ (y : ForestNode Kind Part). slice_get y.part.values slot)) e) ∙ is)

pub storable_again : (g : Grove) → IsGrove g → (n : NodeId) (slot id op : ℕ) → number_at g n slot ≡ Some id → op_at g n ≡ Some op → IsStorable g n slot id
storable_again g held n slot id op number is =
    let x = number_node g n slot id number in
    let y = op_node g n op is in
    let same : y.0 ≡ x.0 = cc (y.1, x.1) in
    let o = operation_at g.spec g.view g.trees g.trees g.pool g.pool (grown_itself g.pool) held n x.0 op x.1 (ap (λ (z : ForestNode Kind Part). z.label.op) (sym same) ∙ y.2) in
    let l = slice_get_within x.0.part.values slot id x.2 in
    let c = o.values.count in
    let at = slice_get-there (slots_there g.spec op 0) slot (omega arith) in
    record { op = op; is = is; type = at.0; has_type = at.1; typed = o.values.each slot at.0 id at.1 x.2 }

-- a node that is no leaf has an operator
pub op_there : (g : Grove) (n : NodeId) (live : IsLive (nodes g) n) → ((x : ForestNode Kind Part) → nodes g n ≡ Some x → x.label.op ≢ None) → (x : ForestNode Kind Part) × (nodes g n ≡ Some x) × (op : ℕ) × (x.label.op ≡ Some op)
op_there g n live inner = by live.node.label.op refl
  where
    by : (w : Option ℕ) → live.node.label.op ≡ w → (x : ForestNode Kind Part) × (nodes g n ≡ Some x) × (op : ℕ) × (x.label.op ≡ Some op)
    by None e = absurd (inner live.node live.found e)
    by (Some op) e = (live.node, live.found, op, e)

module _ (spec : Spec) (view : ℕ) (old new : Trees Kind Part) (pool : List Value) (held : IsGrove (grove spec view old pool)) (n : NodeId) (x : ForestNode Kind Part) (found : node_at old n ≡ Some x) where
  -- another number in a slot
  module _ (slot id : ℕ) (s : IsStorable (grove spec view old pool) n slot id) (set_to : IsPartSet (node_at old) (node_at new) n (record x.part { values = set x.part.values slot id })) where
    is_op : x.label.op ≡ Some s.op
    is_op = let y = op_node (grove spec view old pool) n s.op s.is in let same : y.0 ≡ x = cc (y.1, found) in ap (λ (z : ForestNode Kind Part). z.label.op) (sym same) ∙ y.2

    within : slot < length x.part.values
    within = slot_within (grove spec view old pool) held n slot id s x found

    fits : PartFits spec view old new pool pool s.op (record x.part { values = set x.part.values slot id })
    fits =
        let had = part_after spec view old new pool pool (grown_itself pool) held n x s.op found is_op in
        record {
          scheme = had.scheme;
          values = record {
            count = length-set x.part.values slot id ∙ had.values.count;
            each = λ other type number has there. by had.values other type number has there (cases_place other slot);
          };
        }
      where
        by : AreTyped spec pool (slots_there spec s.op 0) x.part.values → (other type number : ℕ) → slice_get (slots_there spec s.op 0) other ≡ Some type → slice_get (set x.part.values slot id) other ≡ Some number → (other ≡ slot) ⊎ (other ≢ slot) → IsTyped spec pool type number
        by had other type number has there (inl e) =
            let wants : slice_get (slots_there spec s.op 0) slot ≡ Some type = ap (slice_get (slots_there spec s.op 0)) (sym e) ∙ has in
            let same_type : s.type ≡ type = cc (s.has_type, wants) in
            let here : slice_get (set x.part.values slot id) slot ≡ Some number = ap (slice_get (set x.part.values slot id)) (sym e) ∙ there in
            let put_there = slice_get-set_same x.part.values slot id within in
            let same_id : id ≡ number = cc (put_there, here) in
            subst (λ p. IsTyped spec pool p number) same_type (subst (IsTyped spec pool s.type) same_id s.typed)
        by had other type number has there (inr differs) = had.each other type number has (sym (slice_get-set_other x.part.values slot other id differs) ∙ there)

    pub IsGrove-stored : IsGrove (grove spec view new pool)
    IsGrove-stored = IsGrove-part spec view old new pool pool (grown_itself pool) held n x s.op (record x.part { values = set x.part.values slot id }) found is_op fits set_to

    pub stored_there : number_at (grove spec view new pool) n slot ≡ Some id
    stored_there = ap (option_and_then (λ (y : ForestNode Kind Part). slice_get y.part.values slot)) (set_to.changed x found) ∙ slice_get-set_same x.part.values slot id within

    pub OnlyStored-slot : ((m : NodeId) → room_below new m ≡ room_below old m) → OnlyStored (grove spec view old pool) (grove spec view new pool) (IsSlot n slot)
    OnlyStored-slot room = record {
      spec = refl;
      view = refl;
      pool = grown_itself pool;
      shape = KeepsShape-part_set (node_at old) (node_at new) n (record x.part { values = set x.part.values slot id }) (record { node = x; found = found }) set_to;
      room = room;
      parts = λ m y z there then. by m y z there then (cases_id m n);
    }
      where
        others : (m : NodeId) → m ≡ n → (other : ℕ) → (IsSlot n slot m other → ⊥) → slice_get (set x.part.values slot id) other ≡ slice_get x.part.values other
        others m e other out = slice_get-set_other x.part.values slot other id (λ same. out (record { node = e; same = same }))

        by : (m : NodeId) (y z : ForestNode Kind Part) → node_at old m ≡ Some y → node_at new m ≡ Some z → (m ≡ n) ⊎ (m ≢ n) → KeepsPart y.label y.part z.part (IsSlot n slot m)
        by m y z there then (inl e) =
            let same_y : x ≡ y = let h : node_at old m ≡ Some x = ap (node_at old) e ∙ found in cc (h, there) in
            let same_z : record x { part = record x.part { values = set x.part.values slot id } } ≡ z = let h : node_at new m ≡ Some (record x { part = record x.part { values = set x.part.values slot id } }) = ap (node_at new) e ∙ set_to.changed x found in cc (h, then) in
            subst (λ (w : ForestNode Kind Part). KeepsPart y.label y.part w.part (IsSlot n slot m)) same_z
            (subst (λ (w : ForestNode Kind Part). KeepsPart w.label w.part (record x.part { values = set x.part.values slot id }) (IsSlot n slot m)) same_y
            (record {
              scheme = refl;
              elided = refl;
              count = length-set x.part.values slot id;
              others = others m e;
              leaf = λ none. let op = is_op in cc (none, op);
            }))
        by m y z there then (inr other) =
            let same : y ≡ z = let h = set_to.others m other in cc (h, there, then) in
            subst (λ (w : ForestNode Kind Part). KeepsPart y.label y.part w.part (IsSlot n slot m)) same
            (record { scheme = refl; elided = refl; count = refl; others = λ slot out. refl; leaf = λ none. refl })

  -- other marks
  module _ (op : ℕ) (is : x.label.op ≡ Some op) (part : Part) (values : part.values ≡ x.part.values) (set_to : IsPartSet (node_at old) (node_at new) n part) where
    pub IsGrove-marked : part.scheme < 16 → IsGrove (grove spec view new pool)
    IsGrove-marked small =
        let had = part_after spec view old new pool pool (grown_itself pool) held n x op found is in
        IsGrove-part spec view old new pool pool (grown_itself pool) held n x op part found is
        (record { scheme = small; values = subst (AreTyped spec pool (slots_there spec op 0)) (sym values) had.values }) set_to

    pub numbers_marked : (m : NodeId) (slot : ℕ) → number_at (grove spec view new pool) m slot ≡ number_at (grove spec view old pool) m slot
    numbers_marked m slot =
        elim (cases_id m n) [
          | inl e ↦
              ap (λ k. number_at (grove spec view new pool) k slot) e ∙ ap (option_and_then (λ (y : ForestNode Kind Part). slice_get y.part.values slot)) (set_to.changed x found) ∙ ap (λ vs. slice_get vs slot) values
              ∙ ap (option_and_then (λ (y : ForestNode Kind Part). slice_get y.part.values slot)) (sym found) ∙ ap (λ k. number_at (grove spec view old pool) k slot) (sym e)
          | inr other ↦ ap (option_and_then (λ (y : ForestNode Kind Part). slice_get y.part.values slot)) (set_to.others m other)
        ]

    -- each term over the node has the node with these marks in its place
    pub Holds-marked : (u : Place) (m : NodeId) (t s : Term) → Climbs (node_at old) u n m → Holds (grove spec view old pool) m t → sub t u ≡ Some s → (ts : Terms) × (s ≡ Node op x.part.scheme x.part.elided ts) × Holds (grove spec view new pool) m (put t u (Node op part.scheme part.elided ts))
    Holds-marked u m t s climbs h at =
        let below = place_held (grove spec view old pool) held u n m h.tree climbs h.stands in
        let here : sub (term_of pool h.tree) u ≡ Some s = ap (λ z. sub z u) h.term ∙ at in
        let same : term_of pool below.0 ≡ s = let two = below.2 in cc (two, here) in
        let over = Holds-over (grove spec view old pool) n s x (record { tree = below.0; stands = below.1; term = same }) found in
        let whole : s ≡ Node op x.part.scheme x.part.elided over.0 = over.1 ∙ over_op pool x.label x.part over.0 op is in (
          over.0,
          whole,
          record {
            tree = changed u (with_part part) h.tree;
            stands = ChangesTrees-part_set (node_at old) (node_at new) held.forest.linked n part set_to u m h.tree climbs h.stands;
            term = tree_changed pool u (with_part part) h.tree s (Node op part.scheme part.elided over.0) here (becomes over.0 s whole)
                ∙ ap (λ z. put z u (Node op part.scheme part.elided over.0)) h.term;
          },
        )
      where
        by_op : (kind : Kind) (own : Part) (us ts : Terms) → term_over pool kind own us ≡ Node op x.part.scheme x.part.elided ts → (w : Option ℕ) → kind.op ≡ w → term_over pool kind part us ≡ Node op part.scheme part.elided ts
        by_op kind own us ts e None none = let l : term_over pool kind own us ≡ Leaf kind.phylum _ = over_leaf pool kind own us none in cc (l, e)
        by_op kind own us ts e (Some other) some =
            let l : Node other own.scheme own.elided us ≡ Node op x.part.scheme x.part.elided ts = sym (over_op pool kind own us other some) ∙ e in
            let same_op : other ≡ op = cc l in
            let same_ts : us ≡ ts = cc l in
            over_op pool kind part us other some ∙ ap (λ o. Node o part.scheme part.elided us) same_op ∙ ap (Node op part.scheme part.elided) same_ts

        becomes : (ts : Terms) (s : Term) → s ≡ Node op x.part.scheme x.part.elided ts → (tree : Tree Kind Part) → term_of pool tree ≡ s → term_of pool (with_part part tree) ≡ Node op part.scheme part.elided ts
        becomes ts s whole (node kind own us) e = by_op kind own (terms_under pool us) ts (e ∙ whole) kind.op refl
