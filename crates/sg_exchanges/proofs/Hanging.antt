-- Nodes that hang beside the edited term.
use Rattle.std.specs.Prelude.{◌≡◌, ◌≢◌, ℕ, suc, ◌+◌, ◌≤◌, List, [], ◌∷◌, ◌++◌, Contains}
use Rattle.std.proofs.Common.{sym, ◌∙◌, subst, arith, inl, inr}
use Rattle.sg_kinds.specs.Terms.{Term}
use Rattle.sg_forest.specs.declared.node_id.NodeId.{NodeId}
use Rattle.sg_forest.specs.Trees.{IsRoot}
use Rattle.sg_forest.proofs.Paths.{root_is_live}
use Rattle.sg_groves.specs.Grove.{Grove, nodes, IsGrove}
use Rattle.sg_groves.specs.Holds.{Holds}
use Rattle.sg_groves.specs.TermAt.{term_at}
use Rattle.sg_groves.proofs.Held.{held_at}
use Rattle.sg_groves.proofs.Lists.{contains_either, contains_none}
use Rattle.sg_changes.specs.StepChanges.{Agree, hanging, tops, tops_of}
use Rattle.sg_changes.specs.declared.step.Step.{Step}
use Rattle.sg_exchanges.specs.Roots.{times, AreTheRoots, Drops, KeepsTree}
use Rattle.sg_exchanges.specs.Turns.{goes_in, IsOther, KeepsHanging}
use Rattle.sg_exchanges.specs.declared.turns.What.{What}
use Rattle.sg_exchanges.specs.declared.turns.What.TheVariants.{Tree, Shown}
use Rattle.sg_exchanges.proofs.Times.{times_append, times_cons, times_same}
use Rattle.sg_exchanges.proofs.Trees.{holds_at, term_on}

-- lists in which each node stands as often
pub roots_alike : (g : Grove) (xs ys : List NodeId) → ((n : NodeId) → times n ys ≡ times n xs) → AreTheRoots g xs → AreTheRoots g ys
roots_alike g xs ys same roots = record {
  once = λ n. (let e = same n in let o = roots.once n in omega (arith, e, o));
  are = λ n. ((λ r. same n ∙ (roots.are n).0 r), (λ one. (roots.are n).1 (sym (same n) ∙ one)));
}

pub times_swap : (n a b : NodeId) (ns : List NodeId) → times n (a ∷ (b ∷ ns)) ≡ times n (b ∷ (a ∷ ns))
times_swap n a b ns =
    let p = times_cons n a (b ∷ ns) in
    let q = times_cons n b ns in
    let r = times_cons n b (a ∷ ns) in
    let s = times_cons n a ns in
    omega (arith, p, q, r, s)

pub times_more : (n m : NodeId) (ns : List NodeId) → times n ns ≤ times n (m ∷ ns)
times_more n m ns = (let e = times_cons n m ns in omega (arith, e))

pub times_listed : (n : NodeId) (ns : List NodeId) → Contains ns n → 1 ≤ times n ns
times_listed n [] has = absurd (contains_none n has)
times_listed n (m ∷ ns) has = elim (contains_either m ns n has) [
  | inl same ↦ (let e = subst (λ z. times n (z ∷ ns) ≡ suc (times n ns)) (sym same) (times_same n ns) in omega (arith, e))
  | inr later ↦ (let h = times_listed n ns later in let e = times_more n m ns in omega (arith, h, e))
]

-- a step's top, wherever the step stands first
pub times_past : (n : NodeId) (s : Step) (past future : List Step) → times n (tops (s ∷ past) future) ≡ times n (hanging s) + times n (tops past future)
times_past n s past future =
    let a : times n (tops (s ∷ past) future) ≡ times n (tops_of (s ∷ past)) + times n (tops_of future) = times_append n (tops_of (s ∷ past)) (tops_of future) in
    let b : times n (tops_of (s ∷ past)) ≡ times n (hanging s) + times n (tops_of past) = times_append n (hanging s) (tops_of past) in
    let c : times n (tops past future) ≡ times n (tops_of past) + times n (tops_of future) = times_append n (tops_of past) (tops_of future) in
    omega (arith, a, b, c)

pub times_future : (n : NodeId) (s : Step) (past future : List Step) → times n (tops past (s ∷ future)) ≡ times n (hanging s) + times n (tops past future)
times_future n s past future =
    let a : times n (tops past (s ∷ future)) ≡ times n (tops_of past) + times n (tops_of (s ∷ future)) = times_append n (tops_of past) (tops_of (s ∷ future)) in
    let b : times n (tops_of (s ∷ future)) ≡ times n (hanging s) + times n (tops_of future) = times_append n (hanging s) (tops_of future) in
    let c : times n (tops past future) ≡ times n (tops_of past) + times n (tops_of future) = times_append n (tops_of past) (tops_of future) in
    omega (arith, a, b, c)

module _ (g : Grove) (root : NodeId) (ns : List NodeId) (roots : AreTheRoots g (root ∷ ns)) where
  pub listed_once : (n : NodeId) → times n ns ≤ 1
  listed_once n = (let m = times_more n root ns in let o = roots.once n in omega (arith, m, o))

  pub listed_root : (n : NodeId) → times n ns ≢ 0 → IsRoot (nodes g) n
  listed_root n some = (roots.are n).1 (one (times n (root ∷ ns)) (times n ns) (roots.once n) (times_more n root ns) some)
    where
      one : (a b : ℕ) → a ≤ 1 → b ≤ a → b ≢ 0 → a ≡ 1
      one a b low more some = omega (arith, low, more, some)

  pub root_unlisted : times root ns ≡ 0
  root_unlisted = (let e = times_same root ns in let o = roots.once root in omega (arith, e, o))

  pub the_root : IsRoot (nodes g) root
  the_root = (roots.are root).1 (let e = times_same root ns in let z = root_unlisted in omega (arith, e, z))

  pub listed_apart : (n : NodeId) → times n ns ≢ 0 → n ≢ root
  listed_apart n some same = some (subst (λ z. times z ns ≡ 0) (sym same) root_unlisted)

some_times : (k : ℕ) → 1 ≤ k → k ≢ 0
some_times k h z = omega (arith, h, z)

-- after a turn what hangs holds the same
other_than : (what : What) (n : NodeId) → times n (goes_in what) ≡ 0 → IsOther what n
other_than (Tree d) n none = λ same. (let e = times_same d [] in let z = subst (λ m. times m (d ∷ []) ≡ 0) same none in absurd (omega (arith, e, z)))
other_than (Shown m) n none = tt

module _ (old new : Grove) (is : IsGrove old) (on : IsGrove new) (root : NodeId) (went ns : List NodeId) (roots : AreTheRoots old (root ∷ (went ++ ns)))
    (hanging : (n : NodeId) (x : Term) → IsRoot (nodes old) n → n ≢ root → times n went ≡ 0 → Holds old n x → Holds new n x) where
  pub agree_then : Agree (term_at old) (term_at new) ns
  agree_then n has =
      let here = times_listed n ns has in
      let both = times_append n went ns in
      let o = listed_once old root (went ++ ns) roots n in
      let some = some_times (times n (went ++ ns)) (omega (arith, here, both)) in
      let top = listed_root old root (went ++ ns) roots n some in
      held_at new on n (term_at old n)
      (hanging n (term_at old n) top (listed_apart old root (went ++ ns) roots n some) (omega (arith, here, both, o)) (holds_at old is n (root_is_live (nodes old) n top)))

pub keeps_by : (old new : Grove) (root : NodeId) (what : What) → KeepsHanging old new root what
    → (n : NodeId) (x : Term) → IsRoot (nodes old) n → n ≢ root → times n (goes_in what) ≡ 0 → Holds old n x → Holds new n x
keeps_by old new root what keeps n x top apart none holds = keeps n x top apart (other_than what n none) holds

-- some trees that hang are dropped
module _ (mid now : Grove) (is : IsGrove mid) (on : IsGrove now) (root : NodeId) (all left gone : List NodeId) (were : AreTheRoots mid (root ∷ all)) (drops : Drops mid now gone)
    (counts : (n : NodeId) → times n left + times n gone ≡ times n all) where
  pub root_kept : KeepsTree mid now root
  root_kept = drops.keeps root (the_root mid root all were) (let z = root_unlisted mid root all were in let c = counts root in omega (arith, z, c))

  pub agree_left : Agree (term_at mid) (term_at now) left
  agree_left n has =
      let here = times_listed n left has in
      let c = counts n in
      let o = listed_once mid root all were n in
      let top = listed_root mid root all were n (some_times (times n all) (omega (arith, here, c))) in
      term_on mid now n (drops.keeps n top (omega (arith, here, c, o))) is on (root_is_live (nodes mid) n top)

  count : (n : NodeId) → times n (root ∷ left) + times n gone ≡ times n (root ∷ all)
  count n = (let a = times_cons n root left in let b = times_cons n root all in let c = counts n in omega (arith, a, b, c))

  pub roots_left : AreTheRoots now (root ∷ left)
  roots_left = record {
    once = λ n. (let c = count n in let o = were.once n in omega (arith, c, o));
    are = λ n. (
      (λ r. (let was = (drops.roots n).0 r in let one = (were.are n).0 was.0 in let z = was.1 in let c = count n in omega (arith, one, z, c))),
      (λ one. (let c = count n in let o = were.once n in (drops.roots n).1 ((were.are n).1 (omega (arith, c, o, one)), omega (arith, c, o, one)))),
    );
  }
