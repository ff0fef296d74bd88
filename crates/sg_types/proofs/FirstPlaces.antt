-- An ordered map of first places, with one variable more and one less.
use Rattle.std.proofs.Common.{◌≡◌, ℕ, ◌<◌, ◌≤◌, Bool, true, false, cond, bytes_eq, nat_eq, List, [], ◌∷◌, ◌++◌, length, take, Vec, Option, Some, None, refl, sym, ap, subst, ◌∙◌, arith}
use Rattle.std.specs.Prelude.{is_some}
use Rattle.std.specs.Option.{option_eq}
use Rattle.std.specs.BTreeMap.{BTreeMap, UpdatesBy}
use Rattle.std.specs.Map.{KeepsOthers, IsKeyTest, AreApart, lookup}
use Rattle.std.specs.Cmp.Lexicographic.{slice_cmp, texts_ties}
use Rattle.std.specs.Ordering.{nat_cmp}
use Rattle.std.proofs.lemmas.Bool.Decides.{nat_tests}
use Rattle.std.proofs.lemmas.Cmp.{nat_list_eq_equiv, nat_list_cmp_total, eq_by_cmp_equiv}
use Rattle.std.proofs.lemmas.List.{take-append-le}
use Rattle.std.proofs.lemmas.List.Quantifiers.{position-Some}
use Rattle.sg_ast.specs.FirstFault.{or_else}
use Rattle.sg_kinds.specs.Values.{Bytes}
use Rattle.sg_names.proofs.HeadLaws.{position_push}
use Rattle.sg_ast.proofs.FirstLaws.{or_none}
use Rattle.sg_kinds.proofs.Elementary.{bytes_is}
use Rattle.sg_names.proofs.SeenLaws.{apart, by_case}
use Rattle.sg_types.specs.declared.scope.Variable.{Variable}
use Rattle.sg_types.specs.Scopes.{place_of, place_in, AreFirst}

place_push : (vs : List Variable) (v : Variable) (n : Bytes) → place_of (vs ++ v ∷ []) n ≡ or_else (place_of vs n) (cond (bytes_eq n v.name) (Some (length vs)) None)
place_push vs v n = position_push (λ (w : Variable). bytes_eq n w.name) vs v

place_within : (vs : List Variable) (n : Bytes) (k : ℕ) → place_of vs n ≡ Some k → k < length vs
place_within [] n k h = cc
place_within (v ∷ vs) n k h = (position-Some (λ (v : Variable). bytes_eq n v.name) (v ∷ vs) k v h).0

other_keys : {K X : Type 0} (eq : K → K → Bool) (test : K → Bool) (old new : List (K × X)) → KeepsOthers eq test old new → (other : K → Bool) → IsKeyTest eq other → AreApart test other → lookup other new ≡ lookup other old
unfolding KeepsOthers
other_keys eq test old new h = h

-- what a change at some bytes leaves
changed : {A : Type 0} (bs : Bytes) (m n : BTreeMap (Vec ℕ A) ℕ) (w : Option ℕ) → UpdatesBy (λ x y. slice_cmp nat_cmp x.items y.items) (λ k. slice_cmp nat_cmp bs k.items) m n w
    → (cs : Bytes) → place_in n cs ≡ cond (bytes_eq bs cs) w (place_in m cs)
changed {A} bs m n w h cs = by_case (bytes_eq bs cs) (place_in n cs) w (place_in m cs)
    (λ e. subst (λ l. place_in n l ≡ w) (bytes_is bs cs e) h.1)
    (λ e. other_keys _ _ _ _ h.3 _ (λ x y. (eq_by_cmp_equiv nat_list_cmp_total).congr cs x.items y.items) (λ k y. sym (texts_ties cs k.items) ∙ apart bs cs k.items e (texts_ties bs k.items ∙ y)))

or_some : (o p : Option ℕ) → is_some o ≡ true → or_else o p ≡ o
or_some None p h = cc
or_some (Some k) p h = refl

-- a variable more of a name that is bound
pub bound_again : {A : Type 0} (vs after : List Variable) (v : Variable) (places : BTreeMap (Vec ℕ A) ℕ) → AreFirst vs places → after ≡ vs ++ v ∷ [] → is_some (place_in places v.name) ≡ true → AreFirst after places
bound_again vs after v places first pushed there n =
    first n ∙ sym (by (bytes_eq n v.name) refl) ∙ sym (place_push vs v n) ∙ ap (λ l. place_of l n) (sym pushed)
  where
    by : (b : Bool) → bytes_eq n v.name ≡ b → or_else (place_of vs n) (cond b (Some (length vs)) None) ≡ place_of vs n
    by true e = or_some (place_of vs n) (Some (length vs)) (ap is_some (sym (first n) ∙ ap (place_in places) (bytes_is n v.name e)) ∙ there)
    by false e = or_none (place_of vs n)

or_last : (o : Option ℕ) (k : ℕ) → is_some o ≡ false → or_else o (Some k) ≡ Some k
or_last None k h = refl
or_last (Some j) k h = cc

-- a variable more of another name
pub bound_first : {A : Type 0} (vs after : List Variable) (v : Variable) (key : Vec ℕ A) (place : ℕ) (old new : BTreeMap (Vec ℕ A) ℕ) → AreFirst vs old → after ≡ vs ++ v ∷ [] → key.items ≡ v.name → place ≡ length vs → is_some (place_in old v.name) ≡ false
    → UpdatesBy (λ x y. slice_cmp nat_cmp x.items y.items) (λ k. slice_cmp nat_cmp key.items k.items) old new (Some place) → AreFirst after new
bound_first vs after v key place old new first pushed is there fresh put n =
    changed key.items old new (Some place) put n ∙ ap (λ k. cond (bytes_eq key.items n) (Some k) (place_in old n)) there ∙ ap (λ (l : Bytes). cond (bytes_eq l n) (Some (length vs)) (place_in old n)) is ∙ ap (λ b. cond b (Some (length vs)) (place_in old n)) (nat_list_eq_equiv.symm v.name n)
    ∙ by (bytes_eq n v.name) refl ∙ sym (place_push vs v n) ∙ ap (λ l. place_of l n) (sym pushed)
  where
    by : (b : Bool) → bytes_eq n v.name ≡ b → cond b (Some (length vs)) (place_in old n) ≡ or_else (place_of vs n) (cond b (Some (length vs)) None)
    by true e = sym (or_last (place_of vs n) (length vs) (ap is_some (sym (first n) ∙ ap (place_in old) (bytes_is n v.name e)) ∙ fresh))
    by false e = first n ∙ sym (or_none (place_of vs n))

-- the last variable is the first of its name, or it is not
last_alone : (vs : List Variable) (n : Bytes) → or_else (place_of vs n) (Some (length vs)) ≡ Some (length vs) → place_of vs n ≡ None
last_alone vs n h = by (place_of vs n) refl h
  where
    by : (o : Option ℕ) → place_of vs n ≡ o → or_else o (Some (length vs)) ≡ Some (length vs) → o ≡ None
    by None e s = refl
    by (Some k) e s =
        let same : k ≡ length vs = cc in
        let low : k < length vs = place_within vs n k e in
        absurd (omega arith)

not_last : (o : Option ℕ) (k : ℕ) → (or_else o (Some k) ≡ Some k → ⊥) → or_else o (Some k) ≡ o
not_last None k h = absurd (h refl)
not_last (Some j) k h = refl

-- one variable less, which was the first of its name
pub left_first : {A : Type 0} (before after : List Variable) (v : Variable) (name : Bytes) (old new : BTreeMap (Vec ℕ A) ℕ) → AreFirst before old → before ≡ after ++ v ∷ [] → name ≡ v.name → place_in old v.name ≡ Some (length after)
    → UpdatesBy (λ x y. slice_cmp nat_cmp x.items y.items) (λ k. slice_cmp nat_cmp name k.items) old new None → AreFirst after new
left_first before after v name old new first popped is there taken n =
    changed name old new None taken n ∙ ap (λ (l : Bytes). cond (bytes_eq l n) None (place_in old n)) is ∙ ap (λ b. cond b None (place_in old n)) (nat_list_eq_equiv.symm v.name n) ∙ by (bytes_eq n v.name) refl
  where
    whole : (m : Bytes) → place_in old m ≡ or_else (place_of after m) (cond (bytes_eq m v.name) (Some (length after)) None)
    whole m = first m ∙ ap (λ l. place_of l m) popped ∙ place_push after v m

    by : (b : Bool) → bytes_eq n v.name ≡ b → cond b None (place_in old n) ≡ place_of after n
    by true e =
        let last : place_in old n ≡ Some (length after) = ap (place_in old) (bytes_is n v.name e) ∙ there in
        sym (last_alone after n (ap (λ b. or_else (place_of after n) (cond b (Some (length after)) None)) (sym e) ∙ sym (whole n) ∙ last))
    by false e = whole n ∙ ap (λ b. or_else (place_of after n) (cond b (Some (length after)) None)) e ∙ or_none (place_of after n)

-- one variable less, of a name that was bound before
pub left_again : {A : Type 0} (before after : List Variable) (v : Variable) (places : BTreeMap (Vec ℕ A) ℕ) → AreFirst before places → before ≡ after ++ v ∷ [] → (place_in places v.name ≡ Some (length after) → ⊥) → AreFirst after places
left_again before after v places first popped other n = whole ∙ by (bytes_eq n v.name) refl
  where
    whole : place_in places n ≡ or_else (place_of after n) (cond (bytes_eq n v.name) (Some (length after)) None)
    whole = first n ∙ ap (λ l. place_of l n) popped ∙ place_push after v n

    by : (b : Bool) → bytes_eq n v.name ≡ b → or_else (place_of after n) (cond b (Some (length after)) None) ≡ place_of after n
    by true e = not_last (place_of after n) (length after) (λ same. other (ap (place_in places) (sym (bytes_is n v.name e)) ∙ whole ∙ ap (λ b. or_else (place_of after n) (cond b (Some (length after)) None)) e ∙ same))
    by false e = or_none (place_of after n)

-- the first variables stay
pub front_kept : (before after : List Variable) (v : Variable) (count : ℕ) → before ≡ after ++ v ∷ [] → count ≤ length after → take count after ≡ take count before
front_kept before after v count popped few = sym (take-append-le count after (v ∷ []) few) ∙ ap (take count) (sym popped)

-- what a test of a place says
pub is_place : (o : Option ℕ) (k : ℕ) → option_eq nat_eq o (Some k) ≡ true → o ≡ Some k
is_place None k h = cc
is_place (Some j) k h = let same : j ≡ k = grind (arith, nat_tests) in ap Some same

pub is_no_place : (o : Option ℕ) (k : ℕ) → option_eq nat_eq o (Some k) ≡ false → o ≡ Some k → ⊥
is_no_place None k h e = cc
is_no_place (Some j) k h e = let same : j ≡ k = cc in grind (arith, nat_tests)
