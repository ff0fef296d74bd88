-- Another subterm in a place, seen from the way up.
use Rattle.std.specs.Prelude.{◌≡◌, refl, ℕ, zero, suc, ◌+◌, ◌-◌, ◌≤◌, ◌^◌, min, [], ◌∷◌, length, Some, None, slice_get}
use Rattle.std.proofs.Common.{sym, ap, subst, arith}
use Rattle.std.proofs.lemmas.Option.{none-some}
use Rattle.sg_kinds.proofs.TermLaws.{put_sub}
use Rattle.sg_kinds.specs.Evaluation.{untyped}
use Rattle.sg_kinds.specs.Places.{Place, sub, put, with_child, with_kid}
use Rattle.sg_kinds.specs.Sound.{IsSmall}
use Rattle.sg_kinds.specs.Terms.{Term, Terms, Leaf, Node, NoTerm, AndTerm, terms_of, kids_of, nodes_of, height_of, height_of_all}
use Rattle.sg_forest.specs.declared.node_id.NodeId.{NodeId}
use Rattle.sg_forest.specs.Trees.{IsLive, IsRoot, IsChild, Climbs}
use Rattle.sg_forest.proofs.Paths.{root_is_no_child, one_parent, one_path}
use Rattle.sg_groves.specs.Grove.{Grove, nodes, IsGrove}
use Rattle.sg_groves.specs.Holds.{IsPlaced}
use Rattle.sg_groves.proofs.Held.{live_holds}
use Rattle.sg_terms.specs.Labels.{op_of}
use Rattle.sg_build.specs.Counted.{AreCounts}
use Rattle.sg_build.specs.Rest.{rest_height}
use Rattle.sg_build.specs.declared.limits.Counts.{Counts}
use Rattle.sg_build.proofs.Counted.{nodes_put, height_put}
use Rattle.sg_build.proofs.Told.{kids_in, kids_back}

-- the way up from a node leads over its parent, and from a root nowhere
pub way_over : (g : Grove) (v : Place) (top above root : NodeId) (k : ℕ) → IsRoot (nodes g) root → IsChild (nodes g) top above k → Climbs (nodes g) v top root → (w : Place) × Climbs (nodes g) w above root × (v ≡ k ∷ w)
way_over g [] top above root k at_top hangs same = absurd (root_is_no_child (nodes g) top above k (subst (IsRoot (nodes g)) (sym same) at_top) hangs)
way_over g (j ∷ v) top above root k at_top hangs climbs =
    let one = one_parent (nodes g) top climbs.0 above j k climbs.1 hangs in
    (v, subst (λ p. Climbs (nodes g) v p root) one.0 climbs.2, ap (λ i. i ∷ v) one.1)

pub way_ends : (g : Grove) (v : Place) (top root : NodeId) → IsRoot (nodes g) root → IsRoot (nodes g) top → Climbs (nodes g) v top root → v ≡ []
way_ends g v top root at_top here climbs = sym (one_path (nodes g) [] v top top root here at_top refl climbs).0

-- each node stands at a place of a term
pub placed : (g : Grove) → IsGrove g → (n : NodeId) → IsLive (nodes g) n → (root : NodeId) × (whole : Term) × (u : Place) × IsPlaced g root whole u n
placed g is n live =
    let up = is.forest.linked.rooted n live in
    let top = up.is_root in
    let term = live_holds g is up.root (record { node = top.node; found = top.found }) in
    (up.root, term.0, up.path, record { top = top; holds = term.1; way = up.climbs })

-- one step up: what stands under a node is a child of its parent's term
pub put_over : (t : Term) (k : ℕ) (w : Place) (m r : Term) → sub t w ≡ Some m → put t (k ∷ w) r ≡ put t w (with_child m k r)
put_over t k w m r at = ap (λ o. elim o as (λ _. Term) [ None ↦ t | Some n ↦ put t w (with_child n k r) ]) at

-- children with another in a place
kid_put : (ts : Terms) (k j : ℕ) (x s : Term) → slice_get (terms_of ts) j ≡ Some x → j ≡ k → slice_get (terms_of (with_kid ts k s)) j ≡ Some s
kid_put NoTerm k j x s at same = absurd (none-some x at)
kid_put (AndTerm t ts) zero zero x s at same = refl
kid_put (AndTerm t ts) zero (suc j) x s at same = absurd (omega (arith, same))
kid_put (AndTerm t ts) (suc k) zero x s at same = absurd (omega (arith, same))
kid_put (AndTerm t ts) (suc k) (suc j) x s at same = kid_put ts k j x s at (omega (arith, same))

kid_stays : (ts : Terms) (k j : ℕ) (x s : Term) → slice_get (terms_of ts) j ≡ Some x → (j ≡ k → ⊥) → slice_get (terms_of (with_kid ts k s)) j ≡ Some x
kid_stays NoTerm k j x s at out = absurd (none-some x at)
kid_stays (AndTerm t ts) zero zero x s at out = absurd (out refl)
kid_stays (AndTerm t ts) zero (suc j) x s at out = at
kid_stays (AndTerm t ts) (suc k) zero x s at out = at
kid_stays (AndTerm t ts) (suc k) (suc j) x s at out = kid_stays ts k j x s at (λ e. out (ap suc e))

kids_long : (ts : Terms) (k : ℕ) (s : Term) → length (terms_of (with_kid ts k s)) ≡ length (terms_of ts)
kids_long NoTerm k s = refl
kids_long (AndTerm t ts) zero s = refl
kids_long (AndTerm t ts) (suc k) s = ap suc (kids_long ts k s)

pub child_put : (t : Term) (k j : ℕ) (x s : Term) → slice_get (kids_in t) j ≡ Some x → j ≡ k → slice_get (kids_in (with_child t k s)) j ≡ Some s
child_put (Leaf p v) k j x s at same = absurd (none-some x at)
child_put (Node op scheme elided ts) k j x s at same = kid_put ts k j x s at same

pub child_stays : (t : Term) (k j : ℕ) (x s : Term) → slice_get (kids_in t) j ≡ Some x → (j ≡ k → ⊥) → slice_get (kids_in (with_child t k s)) j ≡ Some x
child_stays (Leaf p v) k j x s at out = absurd (none-some x at)
child_stays (Node op scheme elided ts) k j x s at out = kid_stays ts k j x s at out

pub children_long : (t : Term) (k : ℕ) (s : Term) → length (kids_in (with_child t k s)) ≡ length (kids_in t)
children_long (Leaf p v) k s = refl
children_long (Node op scheme elided ts) k s = kids_long ts k s

pub height_with : (t : Term) (k : ℕ) (s : Term) (op : ℕ) → op_of t ≡ Some op → height_of (with_child t k s) ≡ 1 + height_of_all (kids_of (kids_in (with_child t k s)))
height_with (Leaf p v) k s op is = absurd (none-some op is)
height_with (Node other scheme elided ts) k s op is = let e = ap height_of_all (kids_back (with_kid ts k s)) in omega (arith, e)

-- what is known of the counts
some_nodes : (t : Term) → 1 ≤ nodes_of t
some_nodes (Leaf p v) = omega arith
some_nodes (Node op scheme elided ts) = omega arith

pub part_nodes : (whole : Term) (u : Place) (x : Term) → sub whole u ≡ Some x → nodes_of x ≤ nodes_of whole
part_nodes whole u x at =
    let e = nodes_put whole u x (Leaf 0 untyped) at in
    let some = some_nodes (put whole u (Leaf 0 untyped)) in
    omega (arith, e, some)

-- the rest of a term is no deeper than the whole
rest_low : (whole : Term) (u : Place) (x : Term) → sub whole u ≡ Some x → rest_height whole u ≤ height_of whole
rest_low whole u x at =
    let e = height_put whole u x x at in
    let same = ap height_of (put_sub whole u x at) in
    omega (arith, e, same)

-- the counts of the whole term, from those of the new subterm
pub record IsWhole (whole : Term) (u : Place) (s : Term) (nodes depth : ℕ) : Type 0 where
  pub count : nodes ≡ min (nodes_of (put whole u s)) (2 ^ 64 - 1)
  pub small : nodes ≤ 65536 → depth ≤ 1024 → IsSmall (put whole u s)
  pub few : IsSmall (put whole u s) → nodes ≤ 65536
  pub flat : IsSmall (put whole u s) → depth ≤ 1024

pub is_whole : (whole : Term) (u : Place) (x s : Term) (known steps nodes depth : ℕ) (below t : Counts) → sub whole u ≡ Some x → known ≡ nodes_of whole → IsSmall whole → AreCounts x below → AreCounts s t
    → steps ≡ min (length u) (2 ^ 64 - 1) → nodes ≡ min (known - below.nodes + t.nodes) (2 ^ 64 - 1) → depth ≡ min (steps + t.depth) (2 ^ 64 - 1) → IsWhole whole u s nodes depth
is_whole whole u x s known steps nodes depth below t at all limits below_is t_is steps_is nodes_is depth_is =
    let more = nodes_put whole u x s at in
    let low = part_nodes whole u x at in
    let height = height_put whole u x s at in
    let rest = rest_low whole u x at in
    let bn = below_is.nodes in
    let tn = t_is.nodes in
    let td = t_is.depth in
    let most = limits.0 in
    let deep = limits.1 in
    let count : nodes ≡ min (nodes_of (put whole u s)) (2 ^ 64 - 1) = omega (arith, more, low, bn, tn, most, all, nodes_is) in
    record {
      count = count;
      small = λ few flat. (omega (arith, count, few), omega (arith, height, rest, deep, td, steps_is, depth_is, flat));
      few = λ is. let fewer = is.0 in omega (arith, count, fewer);
      flat = λ is. let flatter = is.1 in omega (arith, height, flatter, td, steps_is, depth_is);
    }
