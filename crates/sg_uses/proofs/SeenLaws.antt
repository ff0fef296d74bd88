-- An ordered set of names, with one name more and one less.
use Rattle.std.proofs.Common.{◌≡◌, ℕ, ◌≤◌, Bool, true, false, cond, ◌||◌, bytes_eq, List, [], ◌∷◌, ◌++◌, length, map, take, Vec, refl, sym, ap, subst, ◌∙◌, arith}
use Rattle.std.specs.List.{list_any}
use Rattle.std.specs.BTreeSet.{BTreeSet, UpdatesBy}
use Rattle.std.specs.Set.{KeepsOthers}
use Rattle.std.specs.Map.{IsKeyTest, AreApart}
use Rattle.std.specs.Cmp.Lexicographic.{slice_cmp, texts_ties}
use Rattle.std.specs.Ordering.{nat_cmp}
use Rattle.std.proofs.lemmas.Cmp.{nat_list_eq_equiv, nat_list_cmp_total, eq_by_cmp_equiv}
use Rattle.std.proofs.Math.Bool.{or-false, or_assoc}
use Rattle.std.proofs.lemmas.Bool.{or_parts, or_from}
use Rattle.std.proofs.lemmas.List.{length-map, map_push, take-append-le}
use Rattle.sg_names.specs.Uses.{is_visible}
use Rattle.sg_uses.specs.Seen.{StandOnce, holds, IsSeen}
use Rattle.sg_kinds.proofs.Elementary.{bytes_is}
use Rattle.sg_names.proofs.SeenLaws.{apart, by_case}

other_keys : {K : Type 0} (eq : K → K → Bool) (test : K → Bool) (old new : List K) → KeepsOthers eq test old new → (other : K → Bool) → IsKeyTest eq other → AreApart test other → list_any other new ≡ list_any other old
unfolding KeepsOthers
other_keys eq test old new h = h

pub changed : {A : Type 0} (bs : List ℕ) (s n : BTreeSet (Vec ℕ A)) (b : Bool) → UpdatesBy (λ x y. slice_cmp nat_cmp x.items y.items) (λ k. slice_cmp nat_cmp bs k.items) s n b
    → (cs : List ℕ) → holds n cs ≡ cond (bytes_eq bs cs) b (holds s cs)
changed {A} bs s n b h cs = by_case (bytes_eq bs cs) (holds n cs) b (holds s cs)
    (λ e. subst (λ l. holds n l ≡ b) (bytes_is bs cs e) h.1)
    (λ e. other_keys _ _ _ _ h.3 _ (λ x y. (eq_by_cmp_equiv nat_list_cmp_total).congr cs x.items y.items) (λ k y. sym (texts_ties cs k.items) ∙ apart bs cs k.items e (texts_ties bs k.items ∙ y)))

visible_push : (ns : List (List ℕ)) (n m : List ℕ) → is_visible (ns ++ n ∷ []) m ≡ (is_visible ns m || bytes_eq m n)
visible_push [] n m = or-false (bytes_eq m n)
visible_push (k ∷ ns) n m = ap (λ b. bytes_eq m k || b) (visible_push ns n m) ∙ sym (or_assoc (bytes_eq m k) (is_visible ns m) (bytes_eq m n))

once_push : (ns : List (List ℕ)) (n : List ℕ) → StandOnce ns → is_visible ns n ≡ false → StandOnce (ns ++ n ∷ [])
once_push [] n h fresh = (refl, tt)
once_push (m ∷ ms) n h fresh =
    let f = or_parts (bytes_eq n m) (is_visible ms n) fresh in
    (visible_push ms n m ∙ or_from (is_visible ms m) (bytes_eq m n) h.0 (nat_list_eq_equiv.symm m n ∙ f.0), once_push ms n h.1 f.1)

once_pop : (ns : List (List ℕ)) (n : List ℕ) → StandOnce (ns ++ n ∷ []) → StandOnce ns × (is_visible ns n ≡ false)
once_pop [] n h = (tt, refl)
once_pop (m ∷ ms) n h =
    let f = or_parts (is_visible ms m) (bytes_eq m n) (sym (visible_push ms n m) ∙ h.0) in
    let r = once_pop ms n h.1 in
    ((f.0, r.0), or_from (bytes_eq n m) (is_visible ms n) (nat_list_eq_equiv.symm n m ∙ f.1) r.1)

put_in : (a b : Bool) → cond a true b ≡ (b || a)
put_in true true = refl
put_in true false = refl
put_in false true = refl
put_in false false = refl

-- one name more
pub seen_push : {A : Type 0} (vs after : List (Vec ℕ A)) (v key : Vec ℕ A) (old new : BTreeSet (Vec ℕ A)) (n : List ℕ) → IsSeen (map (λ (x : Vec ℕ A). x.items) vs) old
    → v.items ≡ n → key.items ≡ n → after ≡ vs ++ v ∷ [] → false ≡ holds old n
    → UpdatesBy (λ x y. slice_cmp nat_cmp x.items y.items) (λ k. slice_cmp nat_cmp key.items k.items) old new true → IsSeen (map (λ (x : Vec ℕ A). x.items) after) new
seen_push {A} vs after v key old new n is ev ek ea fresh put =
    let all : map (λ (x : Vec ℕ A). x.items) after ≡ map (λ (x : Vec ℕ A). x.items) vs ++ n ∷ [] = ap (map (λ (x : Vec ℕ A). x.items)) ea ∙ map_push (λ (x : Vec ℕ A). x.items) vs v ∙ ap (λ (l : List ℕ). map (λ (x : Vec ℕ A). x.items) vs ++ l ∷ []) ev in
    let absent : is_visible (map (λ (x : Vec ℕ A). x.items) vs) n ≡ false = sym (is.told n) ∙ sym fresh in
    subst (λ (l : List (List ℕ)). IsSeen l new) (sym all) (record {
      told = λ m. changed key.items old new true put m ∙ ap (λ (l : List ℕ). cond (bytes_eq l m) true (holds old m)) ek ∙ put_in (bytes_eq n m) (holds old m)
          ∙ (λ i. is.told m i || nat_list_eq_equiv.symm n m i) ∙ sym (visible_push (map (λ (x : Vec ℕ A). x.items) vs) n m);
      once = once_push (map (λ (x : Vec ℕ A). x.items) vs) n is.once absent;
    })

take_out : (a v : Bool) → (a ≡ true → v ≡ false) → cond a false (v || a) ≡ v
take_out true v h = sym (h refl)
take_out false true h = refl
take_out false false h = refl

-- one name less
pub seen_pop : {A : Type 0} (before after : List (Vec ℕ A)) (v : Vec ℕ A) (old new : BTreeSet (Vec ℕ A)) (n : List ℕ) → IsSeen (map (λ (x : Vec ℕ A). x.items) before) old
    → before ≡ after ++ v ∷ [] → n ≡ v.items → UpdatesBy (λ x y. slice_cmp nat_cmp x.items y.items) (λ k. slice_cmp nat_cmp n k.items) old new false → IsSeen (map (λ (x : Vec ℕ A). x.items) after) new
seen_pop {A} before after v old new n is eb en taken =
    let all : map (λ (x : Vec ℕ A). x.items) before ≡ map (λ (x : Vec ℕ A). x.items) after ++ n ∷ [] = ap (map (λ (x : Vec ℕ A). x.items)) eb ∙ map_push (λ (x : Vec ℕ A). x.items) after v ∙ ap (λ (l : List ℕ). map (λ (x : Vec ℕ A). x.items) after ++ l ∷ []) (sym en) in
    let was : IsSeen (map (λ (x : Vec ℕ A). x.items) after ++ n ∷ []) old = subst (λ (l : List (List ℕ)). IsSeen l old) all is in
    let o = once_pop (map (λ (x : Vec ℕ A). x.items) after) n was.once in
    record {
      told = λ m. changed n old new false taken m ∙ ap (λ b. cond (bytes_eq n m) false b) (was.told m ∙ visible_push (map (λ (x : Vec ℕ A). x.items) after) n m)
          ∙ ap (λ b. cond (bytes_eq n m) false (is_visible (map (λ (x : Vec ℕ A). x.items) after) m || b)) (nat_list_eq_equiv.symm m n)
          ∙ take_out (bytes_eq n m) (is_visible (map (λ (x : Vec ℕ A). x.items) after) m) (λ e. subst (λ (l : List ℕ). is_visible (map (λ (x : Vec ℕ A). x.items) after) l ≡ false) (bytes_is n m e) o.1);
      once = o.0;
    }

-- the first names stay
pub front_kept : {A : Type 0} (before after : List (Vec ℕ A)) (v : Vec ℕ A) (count : ℕ) → before ≡ after ++ v ∷ [] → count ≤ length after
    → take count (map (λ (x : Vec ℕ A). x.items) after) ≡ take count (map (λ (x : Vec ℕ A). x.items) before)
front_kept {A} before after v count eb few =
    let l : length (map (λ (x : Vec ℕ A). x.items) after) ≡ length after = length-map after (λ (x : Vec ℕ A). x.items) in
    let h : count ≤ length (map (λ (x : Vec ℕ A). x.items) after) = omega (arith, l, few) in
    sym (take-append-le count (map (λ (x : Vec ℕ A). x.items) after) (v.items ∷ []) h) ∙ ap (take count) (sym (map_push (λ (x : Vec ℕ A). x.items) after v)) ∙ ap (λ (l : List (Vec ℕ A)). take count (map (λ (x : Vec ℕ A). x.items) l)) (sym eb)
