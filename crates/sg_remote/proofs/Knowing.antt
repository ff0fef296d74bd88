-- What is known of lists.
use Rattle.std.proofs.Common.{◌≡◌, ℕ, zero, suc, Bool, true, false, cond, ◌&&◌, nat_eq, List, [], ◌∷◌, Vec, Some, refl, sym, ap, ◌∙◌, arith, Decides}
use Rattle.std.specs.Map.{lookup}
use Rattle.std.specs.Cmp.Lexicographic.{pointwise}
use Rattle.std.proofs.lemmas.Bool.{eqb-true, and_parts}
use Rattle.std.proofs.lemmas.Option.{none-some, same_Some}
use Rattle.std.proofs.lemmas.Slice.Eq.{slice_eq-Decides}
use Rattle.indexmap.specs.IndexMap.{insert_entry}
use Rattle.sg_kinds.specs.Far.{same_far}
use Rattle.sg_kinds.specs.declared.spec.Far.{Far}
use Rattle.sg_names.specs.declared.table.Table.{Table}
use Rattle.sg_remote.specs.Bearing.{opened}
use Rattle.sg_remote.specs.Keys.{key_of, list_of}
use Rattle.sg_remote.specs.NoEnclosing.{AreOpened}

pub same_list : (fs gs : List Far) → same_far fs gs ≡ true → fs ≡ gs
same_list [] [] is = refl
same_list [] (g ∷ gs) is = absurd (cc is)
same_list (f ∷ fs) [] is = absurd (cc is)
same_list (f ∷ fs) (g ∷ gs) is =
    let parts = and_parts (nat_eq f.phylum g.phylum && nat_eq f.slot g.slot) (same_far fs gs) is in
    let both = and_parts (nat_eq f.phylum g.phylum) (nat_eq f.slot g.slot) parts.0 in
    let same : f ≡ g = ap (λ p. record { phylum = p; slot = f.slot }) (eqb-true f.phylum g.phylum both.0) ∙ ap (λ n. record { phylum = g.phylum; slot = n }) (eqb-true f.slot g.slot both.1) in
    ap (λ h. h ∷ fs) same ∙ ap (λ l. g ∷ l) (same_list fs gs parts.1)

-- a list comes back from its key
pub list_of_key : (fs : List Far) → list_of (key_of fs) ≡ fs
list_of_key [] = refl
list_of_key (f ∷ fs) = ap (λ l. f ∷ l) (list_of_key fs)

module _ (E : ℕ × ℕ → ℕ × ℕ → Bool) (decides : (p q : ℕ × ℕ) → Decides (E p q) (p ≡ q)) where
  met : (ps qs : List (ℕ × ℕ)) → pointwise E ps qs ≡ true → ps ≡ qs
  met ps qs e = (slice_eq-Decides decides ps qs (pointwise E ps qs) refl).0 e

  module _ {A : Type 0} (t : Table) where
    rest_known : (e : Vec (ℕ × ℕ) A × Vec Bool A) (es : List (Vec (ℕ × ℕ) A × Vec Bool A)) → AreOpened t (e ∷ es) → AreOpened t es
    rest_known e es all = λ i d low. all (suc i) d (omega (arith, low))

    one_more : (e : Vec (ℕ × ℕ) A × Vec Bool A) (es : List (Vec (ℕ × ℕ) A × Vec Bool A)) → e.1.items ≡ opened t (list_of e.0.items) → AreOpened t es → AreOpened t (e ∷ es)
    one_more e es is all zero d low = is
    one_more e es is all (suc i) d low = all i d (omega (arith, low))

    pub known_is : (known : List (Vec (ℕ × ℕ) A × Vec Bool A)) (fs : List Far) (v : Vec Bool A) → AreOpened t known
        → lookup (λ k. pointwise E (key_of fs) k.items) known ≡ Some v → v.items ≡ opened t fs
    known_is [] fs v all is = absurd (none-some _ is)
    known_is (e ∷ es) fs v all is = by (pointwise E (key_of fs) e.0.items) refl is (known_is es fs v (rest_known e es all))
      where
        by : (b : Bool) → pointwise E (key_of fs) e.0.items ≡ b → cond b (Some e.1) (lookup (λ (k : Vec (ℕ × ℕ) A). pointwise E (key_of fs) k.items) es) ≡ Some v
            → (lookup (λ (k : Vec (ℕ × ℕ) A). pointwise E (key_of fs) k.items) es ≡ Some v → v.items ≡ opened t fs) → v.items ≡ opened t fs
        by true same got rest =
            let here : e.1 ≡ v = same_Some _ _ got in
            ap (λ (w : Vec Bool A). w.items) (sym here) ∙ all 0 e (omega arith)
            ∙ ap (opened t) (ap list_of (sym (met (key_of fs) e.0.items same)) ∙ list_of_key fs)
        by false same got rest = rest got

    pub known_more : (known : List (Vec (ℕ × ℕ) A × Vec Bool A)) (key : Vec (ℕ × ℕ) A) (v : Vec Bool A) → AreOpened t known
        → v.items ≡ opened t (list_of key.items) → AreOpened t (insert_entry (λ a b. pointwise E a.items b.items) known key v)
    known_more [] key v all is = one_more (key, v) [] is all
    known_more (e ∷ es) key v all is = by (pointwise E key.items e.0.items) refl (known_more es key v (rest_known e es all) is)
      where
        by : (b : Bool) → pointwise E key.items e.0.items ≡ b → AreOpened t (insert_entry (λ a b. pointwise E a.items b.items) es key v)
            → AreOpened t (cond b ((e.0, v) ∷ es) (e ∷ insert_entry (λ a b. pointwise E a.items b.items) es key v))
        by true same more = one_more (e.0, v) es (is ∙ ap (λ ps. opened t (list_of ps)) (met key.items e.0.items same)) (rest_known e es all)
        by false same more = one_more e (insert_entry (λ a b. pointwise E a.items b.items) es key v) (all 0 e (omega arith)) more
