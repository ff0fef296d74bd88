-- What the entries of a trail tell.
use Rattle.std.specs.Prelude.{◌≡◌, ◌≢◌, ℕ, Bool, true, false, cond, nat_eq, List, [], ◌∷◌, ◌++◌, Option, Some, Contains}
use Rattle.std.proofs.Common.{refl, sym, ap, ◌∙◌, inl, inr}
use Rattle.std.proofs.lemmas.Bool.{false≢true, and_parts, and_from}
use Rattle.sg_kinds.proofs.Elementary.{eq_is, eq_itself}
use Rattle.sg_forest.specs.declared.node_id.NodeId.{NodeId}
use Rattle.sg_forest.proofs.Paths.{same_id}
use Rattle.sg_groves.proofs.Lists.{contains_first, contains_later, contains_either, contains_none}
use Rattle.sg_trail.specs.declared.entry.WasStored.{WasStored}
use Rattle.sg_trail.specs.Trails.{is_of, was_in, IsCovered}

-- the test of an entry
pub record IsOf (e : WasStored) (n : NodeId) (slot : ℕ) : Type 0 where
  pub node_is : e.node ≡ n
  pub slot_is : e.slot ≡ slot

pub of_from : (e : WasStored) (n : NodeId) (slot : ℕ) → is_of e n slot ≡ true → IsOf e n slot
of_from e n slot is = let p = and_parts (nat_eq e.node.key n.key) (nat_eq e.slot slot) is in record { node_is = same_id e.node n (eq_is e.node.key n.key p.0); slot_is = eq_is e.slot slot p.1 }

pub of_to : (e : WasStored) (n : NodeId) (slot : ℕ) → IsOf e n slot → is_of e n slot ≡ true
of_to e n slot is = and_from (nat_eq e.node.key n.key) (nat_eq e.slot slot) (ap (λ (m : NodeId). nat_eq e.node.key m.key) (sym is.node_is) ∙ eq_itself e.node.key) (ap (nat_eq e.slot) (sym is.slot_is) ∙ eq_itself e.slot)

module _ (n : NodeId) (slot : ℕ) where
  -- where a slot is covered the number that it has now does not matter
  pub covered_tells : (es : List WasStored) → IsCovered es n slot → (x y : Option ℕ) → was_in es n slot x ≡ was_in es n slot y
  covered_tells [] c x y = absurd (contains_none c.entry c.listed)
  covered_tells (e ∷ es) c x y = by (is_of e n slot) refl (λ later. covered_tells es later x y)
    where
      by : (b : Bool) → is_of e n slot ≡ b → (IsCovered es n slot → was_in es n slot x ≡ was_in es n slot y) → cond b (Some e.number) (was_in es n slot x) ≡ cond b (Some e.number) (was_in es n slot y)
      by true test again = refl
      by false test again = elim (contains_either e es c.entry c.listed) [
        | inl same ↦ absurd (false≢true (sym test ∙ of_to e n slot (record { node_is = ap (λ (z : WasStored). z.node) same ∙ c.node_is; slot_is = ap (λ (z : WasStored). z.slot) same ∙ c.slot_is })))
        | inr rest ↦ again (record { entry = c.entry; listed = rest; node_is = c.node_is; slot_is = c.slot_is })
      ]

  -- an entry at the end tells its own number of its slot, and nothing of another
  pub last_tells : (es : List WasStored) (e : WasStored) → IsOf e n slot → (x : Option ℕ) → was_in (es ++ e ∷ []) n slot x ≡ was_in es n slot (Some e.number)
  last_tells [] e is x = ap (λ b. cond b (Some e.number) x) (of_to e n slot is)
  last_tells (d ∷ es) e is x = ap (cond (is_of d n slot) (Some d.number)) (last_tells es e is x)

  pub last_tells_not : (es : List WasStored) (e : WasStored) → is_of e n slot ≡ false → (x : Option ℕ) → was_in (es ++ e ∷ []) n slot x ≡ was_in es n slot x
  last_tells_not [] e differs x = ap (λ b. cond b (Some e.number) x) differs
  last_tells_not (d ∷ es) e differs x = ap (cond (is_of d n slot) (Some d.number)) (last_tells_not es e differs x)

  -- an entry with the number that the slot has now changes nothing
  pub same_tells : (es : List WasStored) (e : WasStored) (x : Option ℕ) → (IsOf e n slot → x ≡ Some e.number) → was_in (es ++ e ∷ []) n slot x ≡ was_in es n slot x
  same_tells es e x now = by (is_of e n slot) refl
    where
      by : (b : Bool) → is_of e n slot ≡ b → was_in (es ++ e ∷ []) n slot x ≡ was_in es n slot x
      by true test = let is = of_from e n slot test in last_tells es e is x ∙ ap (was_in es n slot) (sym (now is))
      by false test = last_tells_not es e test x

  -- where each entry has the number that its slot has now all tell it
  pub now_tells : (es : List WasStored) (x : Option ℕ) → ((e : WasStored) → Contains es e → IsOf e n slot → x ≡ Some e.number) → was_in es n slot x ≡ x
  now_tells [] x each = refl
  now_tells (e ∷ es) x each = by (is_of e n slot) refl (now_tells es x (λ d has. each d (contains_later e es d has)))
    where
      by : (b : Bool) → is_of e n slot ≡ b → was_in es n slot x ≡ x → cond b (Some e.number) (was_in es n slot x) ≡ x
      by true test rest = sym (each e (contains_first e es) (of_from e n slot test))
      by false test rest = rest
