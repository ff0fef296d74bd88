-- Lists and their keys.
use Rattle.std.proofs.Common.{◌≡◌, ℕ, suc, ◌+◌, ◌<◌, ◌&&◌, ◌||◌, inl, inr, Bool, true, false, cond, not, nat_eq, List, [], ◌∷◌, ◌++◌, Vec, length, get_or, map, Some, None, refl, sym, ap, ◌∙◌, arith, Decides}
use Rattle.std.specs.Prelude.{nat_lt, position}
use Rattle.std.specs.List.{position_or_len, list_any}
use Rattle.std.specs.Cmp.Lexicographic.{pointwise}
use Rattle.std.proofs.lemmas.Bool.{false≢true, cases_lt, eqb-true, eq-eqb, and_parts, and_from, false_from_ne_true}
use Rattle.std.proofs.lemmas.List.{length-map, get_or_append_left}
use Rattle.std.proofs.lemmas.List.Folds.{list_any_at}
use Rattle.std.proofs.lemmas.Slice.Eq.{slice_eq-Decides}
use Rattle.sg_kinds.specs.Far.{same_far}
use Rattle.sg_kinds.specs.declared.spec.Far.{Far}
use Rattle.sg_remote.specs.Keys.{key_of, list_of, AreDistinct}
use Rattle.sg_remote.specs.Lists.{is_among, with_list, lists_from, lists_of}
use Rattle.sg_remote.specs.declared.atoms.Atom.{Atom}
use Rattle.sg_remote.proofs.Knowing.{same_list, list_of_key}

pub pair-decides : (p q : ℕ × ℕ) → Decides (nat_eq p.0 q.0 && nat_eq p.1 q.1) (p ≡ q)
pair-decides p q = (
  λ e. let both = and_parts (nat_eq p.0 q.0) (nat_eq p.1 q.1) e in (λ k. (eqb-true p.0 q.0 both.0 k, eqb-true p.1 q.1 both.1 k)),
  λ e. and_from (nat_eq p.0 q.0) (nat_eq p.1 q.1) (eq-eqb p.0 q.0 (ap (λ r. r.0) e)) (eq-eqb p.1 q.1 (ap (λ r. r.1) e)),
)

key_of_list : (ps : List (ℕ × ℕ)) → key_of (list_of ps) ≡ ps
key_of_list [] = refl
key_of_list (p ∷ ps) = ap (λ l. p ∷ l) (key_of_list ps)

pub same_itself : (fs : List Far) → same_far fs fs ≡ true
same_itself [] = refl
same_itself (f ∷ fs) =
    and_from (nat_eq f.phylum f.phylum && nat_eq f.slot f.slot) (same_far fs fs) (and_from (nat_eq f.phylum f.phylum) (nat_eq f.slot f.slot) (eq-eqb f.phylum f.phylum refl) (eq-eqb f.slot f.slot refl)) (same_itself fs)

pub same_or_not : (fs gs : List Far) → ¬ (fs ≡ gs) → same_far fs gs ≡ false
same_or_not fs gs apart = false_from_ne_true (same_far fs gs) (λ e. apart (same_list fs gs e))

-- a key's list is the one that is sought just where the keys are equal
module _ (E : ℕ × ℕ → ℕ × ℕ → Bool) (decides : (p q : ℕ × ℕ) → Decides (E p q) (p ≡ q)) where
  pub key_meets : (fs : List Far) (ps : List (ℕ × ℕ)) → pointwise E (key_of fs) ps ≡ same_far (list_of ps) fs
  key_meets fs ps = by (pointwise E (key_of fs) ps) refl
    where
      both : Decides (pointwise E (key_of fs) ps) (key_of fs ≡ ps)
      both = slice_eq-Decides decides (key_of fs) ps (pointwise E (key_of fs) ps) refl

      by : (b : Bool) → pointwise E (key_of fs) ps ≡ b → b ≡ same_far (list_of ps) fs
      by true e =
          let is : list_of ps ≡ fs = ap list_of (sym (both.0 e)) ∙ list_of_key fs in
          sym (ap (λ gs. same_far gs fs) is ∙ same_itself fs)
      by false e = sym (same_or_not (list_of ps) fs (λ is. false≢true (sym e ∙ both.1 (ap key_of (sym is) ∙ key_of_list ps))))

  module _ {A : Type 0} (fs : List Far) where
    any_met : (keys : List (Vec (ℕ × ℕ) A)) → list_any (λ k. pointwise E (key_of fs) k.items) keys ≡ is_among (map (λ k. list_of k.items) keys) fs
    any_met [] = refl
    any_met (k ∷ ks) =
        ap (λ b. b || list_any (λ (j : Vec (ℕ × ℕ) A). pointwise E (key_of fs) j.items) ks) (key_meets fs k.items)
        ∙ ap (λ b. same_far (list_of k.items) fs || b) (any_met ks)

    place_met : (keys : List (Vec (ℕ × ℕ) A)) → position_or_len (λ k. pointwise E (key_of fs) k.items) keys ≡ position_or_len (λ gs. same_far gs fs) (map (λ k. list_of k.items) keys)
    place_met [] = refl
    place_met (k ∷ ks) =
        ap (λ b. cond (not b) (1 + position_or_len (λ (j : Vec (ℕ × ℕ) A). pointwise E (key_of fs) j.items) ks) 0) (key_meets fs k.items)
        ∙ ap (λ n. cond (not (same_far (list_of k.items) fs)) (1 + n) 0) (place_met ks)

    pub position_met : (keys : List (Vec (ℕ × ℕ) A)) → position (λ k. pointwise E (key_of fs) k.items) keys ≡ position (λ gs. same_far gs fs) (map (λ k. list_of k.items) keys)
    position_met keys = λ i. cond (nat_lt (place_met keys i) (sym (length-map keys (λ (k : Vec (ℕ × ℕ) A). list_of k.items)) i)) (Some (place_met keys i)) None

    map_last : (keys : List (Vec (ℕ × ℕ) A)) (key : Vec (ℕ × ℕ) A) → map (λ k. list_of k.items) (keys ++ key ∷ []) ≡ map (λ k. list_of k.items) keys ++ list_of key.items ∷ []
    map_last [] key = refl
    map_last (k ∷ ks) key = ap (λ l. list_of k.items ∷ l) (map_last ks key)

    pub list_added : (keys : List (Vec (ℕ × ℕ) A)) (key : Vec (ℕ × ℕ) A) → key.items ≡ key_of fs
        → map (λ k. list_of k.items) (cond (list_any (λ k. pointwise E key.items k.items) keys) keys (keys ++ key ∷ [])) ≡ with_list (map (λ k. list_of k.items) keys) fs
    list_added keys key is =
        let met : list_any (λ (k : Vec (ℕ × ℕ) A). pointwise E key.items k.items) keys ≡ is_among (map (λ k. list_of k.items) keys) fs = rw is (any_met keys) in
        let list : list_of key.items ≡ fs = ap list_of is ∙ list_of_key fs in
        rw met (by (is_among (map (λ (k : Vec (ℕ × ℕ) A). list_of k.items) keys) fs) list)
      where
        by : (b : Bool) → list_of key.items ≡ fs → map (λ (k : Vec (ℕ × ℕ) A). list_of k.items) (cond b keys (keys ++ key ∷ [])) ≡ cond b (map (λ (k : Vec (ℕ × ℕ) A). list_of k.items) keys) (map (λ (k : Vec (ℕ × ℕ) A). list_of k.items) keys ++ fs ∷ [])
        by true list = refl
        by false list = map_last keys key ∙ ap (λ l. map (λ (k : Vec (ℕ × ℕ) A). list_of k.items) keys ++ l ∷ []) list

last_row : (fss : List (List Far)) (gs : List Far) → get_or (fss ++ gs ∷ []) (length fss) [] ≡ gs
last_row [] gs = refl
last_row (fs ∷ fss) gs = last_row fss gs

length_last : (fss : List (List Far)) (gs : List Far) → length (fss ++ gs ∷ []) ≡ suc (length fss)
length_last [] gs = refl
length_last (fs ∷ fss) gs = ap suc (length_last fss gs)

distinct_more : (fss : List (List Far)) (gs : List Far) → AreDistinct fss → AreDistinct (with_list fss gs)
distinct_more fss gs apart = by (is_among fss gs) refl
  where
    by : (b : Bool) → is_among fss gs ≡ b → AreDistinct (cond b fss (fss ++ gs ∷ []))
    by true e = apart
    by false e = λ i j low within. elim (cases_lt j (length fss)) [
      | inl inside ↦
          let under : i < length fss = omega (arith, low, inside) in
          rw (get_or_append_left fss (gs ∷ []) [] i under, get_or_append_left fss (gs ∷ []) [] j inside) (apart i j low inside)
      | inr past ↦
          let is : j ≡ length fss = omega (arith, past, within, length_last fss gs) in
          let under : i < length fss = omega (arith, low, is) in
          rw (get_or_append_left fss (gs ∷ []) [] i under, is, last_row fss gs)
          (false_from_ne_true (same_far (get_or fss i []) gs) (λ met. false≢true (sym e ∙ list_any_at (λ hs. same_far hs gs) fss i [] under met)))
    ]

distinct_from : (fss : List (List Far)) (rs : List Atom) → AreDistinct fss → AreDistinct (lists_from fss rs)
distinct_from fss [] apart = apart
distinct_from fss (a ∷ rs) apart = distinct_from (with_list fss a.list) rs (distinct_more fss a.list apart)

pub distinct_lists : (rs : List Atom) → AreDistinct (lists_of rs)
distinct_lists rs = distinct_from [] rs (λ i j low within. absurd (omega (arith, within)))
