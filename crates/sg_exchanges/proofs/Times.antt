-- How often nodes stand in lists, and the roots of a forest that grew.
use Rattle.std.specs.Prelude.{◌≡◌, ◌≢◌, ◌⊎◌, refl, ℕ, zero, suc, ◌+◌, ◌≤◌, ◌↔◌, ◌==◌, Bool, true, false, cond, List, [], ◌∷◌, ◌++◌, None, Some, slice_get}
use Rattle.std.proofs.Common.{sym, ap, ◌∙◌, subst, arith, inl, inr}
use Rattle.std.proofs.lemmas.Option.{none-some, same_Some}
use Rattle.std.proofs.lemmas.List.Sums.{sum_by-append, sum_by-cons}
use Rattle.sg_kinds.proofs.Elementary.{eq_is, eq_itself}
use Rattle.sg_forest.specs.declared.node_id.NodeId.{NodeId}
use Rattle.sg_forest.specs.Trees.{IsLive, IsRoot, IsInside}
use Rattle.sg_forest.proofs.Paths.{cases_id, root_inside, root_is_live, same_id}
use Rattle.sg_groves.specs.Grove.{Grove, nodes}
use Rattle.sg_build.specs.Grown.{GrewBy}
use Rattle.sg_build.proofs.Framed.{grew_root, not_there, there_or_not}
use Rattle.sg_exchanges.specs.Roots.{times, AreTheRoots}

-- a node first
abbrev pub one_if : NodeId → NodeId → ℕ
one_if n m = cond (m.key == n.key) 1 0

pub times_cons : (n m : NodeId) (ns : List NodeId) → times n (m ∷ ns) ≡ one_if n m + times n ns
times_cons n m ns = sum_by-cons (one_if n) m ns

pub times_same : (n : NodeId) (ns : List NodeId) → times n (n ∷ ns) ≡ suc (times n ns)
times_same n ns =
    let c = times_cons n n ns in
    let e : one_if n n ≡ 1 = ap (λ b. cond b 1 0) (eq_itself n.key) in
    omega (arith, c, e)

pub times_other : (n m : NodeId) (ns : List NodeId) → n ≢ m → times n (m ∷ ns) ≡ times n ns
times_other n m ns apart = by (m.key == n.key) refl
  where
    by : (b : Bool) → (m.key == n.key) ≡ b → times n (m ∷ ns) ≡ times n ns
    by true e = absurd (apart (sym (same_id m n (eq_is m.key n.key e))))
    by false e =
        let c = times_cons n m ns in
        let z : one_if n m ≡ 0 = ap (λ b. cond b 1 0) e in
        omega (arith, c, z)

pub times_append : (n : NodeId) (xs ys : List NodeId) → times n (xs ++ ys) ≡ times n xs + times n ys
times_append n xs ys = sum_by-append (one_if n) xs ys

pub times_one : (n m : NodeId) → times n (m ∷ []) ≡ 1 → n ≡ m
times_one n m h = elim (cases_id n m) [
  | inl same ↦ same
  | inr apart ↦ (let e = times_other n m [] apart in absurd (omega (arith, h, e)))
]

-- one new root
module _ (old new : Grove) (n : NodeId) (grew : GrewBy old new (n ∷ [])) where
  same_root : (m : NodeId) → IsLive (nodes old) m → IsRoot (nodes new) m → IsRoot (nodes old) m
  same_root m live root = record { node = root.node; found = sym (grew.before m live) ∙ root.found; top = root.top }

  new_root : (m : NodeId) → nodes old m ≡ None → IsRoot (nodes new) m → m ≡ n
  new_root m none root =
      let one = grew.added m none (root_is_live (nodes new) m root) in
      let is : one.root ≡ n = only one.place one.root one.at in
      root_inside (nodes new) m n root (subst (λ r. IsInside (nodes new) m r) is one.inside)
    where
      only : (k : ℕ) (r : NodeId) → slice_get (n ∷ []) k ≡ Some r → r ≡ n
      only zero r e = sym (same_Some n r e)
      only (suc k) r e = absurd (none-some r e)

  not_old : IsRoot (nodes old) n → ⊥
  not_old root = not_there old n (grew.fresh 0 n refl) (root_is_live (nodes old) n root)

  pub grown_roots : (ns : List NodeId) → AreTheRoots old ns → AreTheRoots new (n ∷ ns)
  grown_roots ns roots = record { once = once; are = are }
    where
      none_of : (m : NodeId) → (IsRoot (nodes old) m → ⊥) → times m ns ≡ 0
      none_of m never = (let low = roots.once m in elim (zero_or (times m ns) low) [ inl z ↦ z | inr one ↦ absurd (never ((roots.are m).1 one)) ])
        where
          zero_or : (k : ℕ) → k ≤ 1 → (k ≡ 0) ⊎ (k ≡ 1)
          zero_or zero h = inl refl
          zero_or (suc k) h = inr (omega (arith, h))

      once : (m : NodeId) → times m (n ∷ ns) ≤ 1
      once m = elim (cases_id m n) [
        | inl same ↦ (let e = subst (λ z. times z (n ∷ ns) ≡ suc (times n ns)) (sym same) (times_same n ns) in let z = none_of n not_old in omega (arith, e, z))
        | inr apart ↦ (let e = times_other m n ns apart in let low = roots.once m in omega (arith, e, low))
      ]

      to : (m : NodeId) → IsRoot (nodes new) m → times m (n ∷ ns) ≡ 1
      to m root = elim (there_or_not old m) [
        | inl none ↦ (let same = new_root m none root in let e = subst (λ z. times z (n ∷ ns) ≡ suc (times n ns)) (sym same) (times_same n ns) in let z = none_of n not_old in omega (arith, e, z))
        | inr live ↦
            let was = same_root m live root in
            let one = (roots.are m).0 was in
            let e = times_other m n ns (λ same. not_old (subst (IsRoot (nodes old)) same was)) in
            omega (arith, e, one)
      ]

      from : (m : NodeId) → times m (n ∷ ns) ≡ 1 → IsRoot (nodes new) m
      from m one = elim (cases_id m n) [
        | inl same ↦ subst (IsRoot (nodes new)) (sym same) (grew.tops 0 n refl)
        | inr apart ↦ (let e = times_other m n ns apart in grew_root old new (n ∷ []) grew m ((roots.are m).1 (omega (arith, e, one))))
      ]

      are : (m : NodeId) → IsRoot (nodes new) m ↔ (times m (n ∷ ns) ≡ 1)
      are m = (to m, from m)

-- no root where there is no node
pub no_roots : (g : Grove) → ((n : NodeId) → nodes g n ≡ None) → AreTheRoots g []
no_roots g empty = record {
  once = λ n. omega arith;
  are = λ n. ((λ root. absurd (not_there g n (empty n) (root_is_live (nodes g) n root))), (λ one. absurd (omega (arith, one))));
}
