-- The users of lists, by the places of these.
use Rattle.std.proofs.Common.{◌≡◌, ◌⊎◌, ℕ, suc, ◌+◌, ◌<◌, ◌≤◌, inl, inr, Bool, true, false, cond, nat_eq, List, [], ◌∷◌, ◌++◌, length, get_or, drop, drop-cons, Some, None, refl, sym, ap, ◌∙◌, arith}
use Rattle.std.specs.Prelude.{if◌then◌else◌, nat_lt, position, slice_get}
use Rattle.std.specs.List.{position_or_len}
use Rattle.std.proofs.lemmas.Bool.{false≢true, cases_lt, cases_eq, eq-eqb, ne_eqb, ltb-false}
use Rattle.std.proofs.lemmas.List.{append-nil, append_assoc, drop_all}
use Rattle.std.proofs.lemmas.List.Quantifiers.{position-Some}
use Rattle.std.proofs.lemmas.List.Sums.{fails_before_first}
use Rattle.std.proofs.lemmas.Option.{get_or_from_slice_get, slice_get_within}
use Rattle.sg_kinds.specs.Far.{same_far}
use Rattle.sg_kinds.specs.Specification.{phylum_of}
use Rattle.sg_kinds.specs.declared.spec.Far.{Far}
use Rattle.sg_names.specs.declared.table.Table.{Table}
use Rattle.sg_remote.specs.Bearing.{user, users, number_of}
use Rattle.sg_remote.specs.Keys.{AreDistinct}
use Rattle.sg_remote.specs.declared.atoms.Atom.{Atom}
use Rattle.sg_remote.proofs.Keyed.{same_itself, same_or_not}
use Rattle.sg_remote.proofs.Knowing.{same_list}

module _ (fss : List (List Far)) (gs : List Far) where
  -- the list at the place where one was found is that one, and no other is
  same_place : (n : ℕ) → AreDistinct fss → position (λ fs. same_far fs gs) fss ≡ Some n
      → (k : ℕ) (fs : List Far) → slice_get fss k ≡ Some fs → same_far gs fs ≡ nat_eq n k
  same_place n apart found k fs there =
      let at = position-Some (λ hs. same_far hs gs) fss n [] found in
      let here : get_or fss n [] ≡ gs = same_list (get_or fss n []) gs at.1 in
      let is : get_or fss k [] ≡ fs = get_or_from_slice_get fss k fs [] there in
      let within = slice_get_within fss k fs there in
      elim (cases_eq n k) [
        | inl same ↦
            let one : gs ≡ fs = sym here ∙ ap (λ j. get_or fss j []) same ∙ is in
            ap (same_far gs) (sym one) ∙ same_itself gs ∙ sym (eq-eqb n k same)
        | inr other ↦
            let two : ¬ (gs ≡ fs) = λ one. elim (cases_lt n k) [
              | inl low ↦ false≢true (sym (apart n k low within) ∙ ap (λ hs. same_far hs (get_or fss k [])) (here ∙ one ∙ sym is) ∙ same_itself (get_or fss k []))
              | inr high ↦
                  let low : k < n = omega (arith, high, other) in
                  false≢true (sym (apart k n low at.0) ∙ ap (λ hs. same_far hs (get_or fss n [])) (is ∙ sym one ∙ sym here) ∙ same_itself (get_or fss n []))
            ] in
            same_or_not gs fs two ∙ sym (ne_eqb n k other)
      ]

  late : (b : Bool) (n : ℕ) → cond b (Some n) None ≡ None → b ≡ false
  late true n e = cc
  late false n e = refl

  -- a list that was not found is none of them
  no_place : position (λ fs. same_far fs gs) fss ≡ None → (k : ℕ) (fs : List Far) → slice_get fss k ≡ Some fs → same_far gs fs ≡ false
  no_place none k fs there =
      let p : List Far → Bool = λ hs. same_far hs gs in
      let past = ltb-false (position_or_len p fss) (length fss) (late (nat_lt (position_or_len p fss) (length fss)) (position_or_len p fss) none) in
      let within = slice_get_within fss k fs there in
      let fails : same_far fs gs ≡ false = ap (λ hs. same_far hs gs) (sym (get_or_from_slice_get fss k fs fs there)) ∙ fails_before_first p fss k fs (omega (arith, past, within)) in
      same_or_not gs fs (λ one. false≢true (sym fails ∙ ap (λ hs. same_far fs hs) one ∙ same_itself fs))

-- what a reference adds to the users of each list
module _ (t : Table) (a : Atom) (fss : List (List Far)) (old new : ℕ → List ℕ) where
  abbrev pub IsAdded : Type 0
  IsAdded = (k : ℕ) (fs : List Far) → slice_get fss k ≡ Some fs → new k ≡ old k ++ user t fs a

  pub used : (n p : ℕ) → AreDistinct fss → position (λ fs. same_far fs a.list) fss ≡ Some n → phylum_of t.ops a.op ≡ Some p
      → ((k : ℕ) → new k ≡ old k ++ (if nat_eq n k then p ∷ [] else [])) → IsAdded
  used n p apart found left put k fs there =
      put k ∙ ap (λ xs. old k ++ xs) (ap (λ b. cond b (p ∷ []) []) (sym (same_place fss a.list n apart found k fs there)) ∙ ap (λ o. cond (same_far a.list fs) (number_of o) []) (sym left))

  pub unused : ((k : ℕ) → new k ≡ old k) → (phylum_of t.ops a.op ≡ None) ⊎ (position (λ fs. same_far fs a.list) fss ≡ None) → IsAdded
  unused same (inl none) k fs there = same k ∙ sym (ap (λ xs. old k ++ xs) (by (same_far a.list fs)) ∙ append-nil (old k))
    where
      by : (b : Bool) → cond b (number_of (phylum_of t.ops a.op)) [] ≡ []
      by true = ap number_of none
      by false = refl
  unused same (inr none) k fs there = same k ∙ sym (ap (λ xs. old k ++ xs) (ap (λ b. cond b (number_of (phylum_of t.ops a.op)) []) (no_place fss a.list none k fs there)) ∙ append-nil (old k))

-- one more reference of a walk
pub users_step : (t : Table) (fs : List Far) (rs : List Atom) (i : ℕ) (a : Atom) (old new : List ℕ) → i < length rs → a ≡ get_or rs i a
    → old ++ users t fs (drop i rs) ≡ users t fs rs → new ≡ old ++ user t fs a → new ++ users t fs (drop (i + 1) rs) ≡ users t fs rs
users_step t fs rs i a old new low is so_far added =
    let next : a ∷ drop (i + 1) rs ≡ drop i rs = sym (drop-cons rs i a low ∙ ap (λ b. b ∷ drop (suc i) rs) (sym is) ∙ ap (λ n. a ∷ drop n rs) one) in
    ap (λ xs. xs ++ users t fs (drop (i + 1) rs)) added
    ∙ append_assoc old (user t fs a) (users t fs (drop (i + 1) rs))
    ∙ ap (λ l. old ++ users t fs l) next
    ∙ so_far
  where
    one : suc i ≡ i + 1
    one = omega arith

pub users_end : (t : Table) (fs : List Far) (rs : List Atom) (i : ℕ) (row : List ℕ) → length rs ≤ i
    → row ++ users t fs (drop i rs) ≡ users t fs rs → row ≡ users t fs rs
users_end t fs rs i row past so_far = sym (append-nil row) ∙ ap (λ l. row ++ users t fs l) (sym (drop_all i rs past)) ∙ so_far
