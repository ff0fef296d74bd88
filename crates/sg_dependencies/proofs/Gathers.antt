-- How the pairs of an operator's vertices are added to its phyla.
use Rattle.std.specs.Prelude.{◌≡◌, ◌↔◌, ◌⊎◌, ◌||◌, ℕ, ◌+◌, ◌<◌, ◌≤◌, Bool, true, false, cond, List, [], length, sum_by}
use Rattle.std.specs.Bool.{OnTrue, OnFalse}
use Rattle.std.proofs.Common.{refl, sym, ◌∙◌, ap, subst, get_or, set, arith, inl, inr}
use Rattle.std.proofs.lemmas.Bool.{cases_lt}
use Rattle.std.proofs.lemmas.List.{get_or_default, set-get_or}
use Rattle.std.proofs.lemmas.List.Sums.{sum_by-set}
use Rattle.sg_sets.specs.Members.{Has, IsMoved}
use Rattle.sg_sets.specs.Rows.{Holds, all_missing, row_of}
use Rattle.sg_dependencies.specs.Frames.{Spot}
use Rattle.sg_dependencies.specs.Induced.{relation_at}
use Rattle.sg_dependencies.specs.Rounds.{IsMet, IsJoined, AreAlike}
use Rattle.sg_dependencies.proofs.Families.{at_same, at_each, alike_itself, alike_set}

-- the pairs from attributes before a are added
pub record MetTo (s : Spot) (closed old new : List (List Bool)) (gained : Bool) (a : ℕ) : Type 0 where
  pub size : length new ≡ length old
  pub sound : (x y : ℕ) → Holds new x y → Holds old x y ⊎ IsMet s (Holds closed) x y
  pub keeps : (x y : ℕ) → Holds old x y → Holds new x y
  pub before : (x y : ℕ) → x < a → y < s.attrs → Holds closed (s.first + x) (s.first + y) → Holds new x y
  pub fewer : all_missing new + cond gained 1 0 ≤ all_missing old
  pub stays : OnFalse gained (new ≡ old)

pub met_none : (s : Spot) (closed old : List (List Bool)) → MetTo s closed old old false 0
met_none s closed old = record {
  size = refl;
  sound = λ x y h. inl h;
  keeps = λ x y h. h;
  before = λ x y low high h. absurd (omega (arith, low));
  fewer = omega arith;
  stays = refl;
}

fewer_now : (more gained : Bool) (new was old : ℕ) → OnTrue more (new < was) → OnFalse more (new ≡ was) → was + cond gained 1 0 ≤ old → new + cond (more || gained) 1 0 ≤ old
fewer_now true true new was old g s f = omega (arith, g, f)
fewer_now true false new was old g s f = omega (arith, g, f)
fewer_now false gained new was old g s f = rw s f

stays_now : {A : Type 0} (more gained : Bool) (new was old : A) → OnFalse more (new ≡ was) → OnFalse gained (was ≡ old) → OnFalse (more || gained) (new ≡ old)
stays_now true gained new was old s t = tt
stays_now false true new was old s t = tt
stays_now false false new was old s t = s ∙ t

same_missing : (more : Bool) (new was : List (List Bool)) → OnFalse more (new ≡ was) → OnFalse more (all_missing new ≡ all_missing was)
same_missing true new was s = tt
same_missing false new was s = ap all_missing s

-- those from a too
pub met_row : (s : Spot) (closed old now new : List (List Bool)) (row : List Bool) (gained more : Bool) (a : ℕ) → MetTo s closed old now gained a → a < s.attrs → row ≡ row_of closed (s.first + a) → length new ≡ length now
    → ((x y : ℕ) → Holds new x y ↔ (Holds now x y ⊎ ((x ≡ a) × IsMoved row s.first 0 s.attrs y))) → OnTrue more (all_missing new < all_missing now) → OnFalse more (new ≡ now)
    → MetTo s closed old new (more || gained) (a + 1)
met_row s closed old now new row gained more a to there is long gains grows stays = record {
  size = long ∙ to.size;
  sound = λ x y h. elim ((gains x y).0 h) [
    | inl was ↦ to.sound x y was
    | inr found ↦
        let moved = found.1 in
        let at = moved.at in
        let place : y ≡ moved.place = omega (arith, at) in
        inr (rw (found.0, place) (record { a_there = there; b_there = moved.low; related = subst (λ r. Has r (s.first + moved.place)) is moved.member }))
  ];
  keeps = λ x y h. (gains x y).1 (inl (to.keeps x y h));
  before = λ x y low high h. elim (cases_lt x a) [
    | inl under ↦ (gains x y).1 (inl (to.before x y under high h))
    | inr past ↦
        let same : x ≡ a = omega (arith, low, past) in
        let member : Has row (s.first + y) = subst (λ r. Has r (s.first + y)) (sym is) (subst (λ k. Holds closed (s.first + k) (s.first + y)) same h) in
        (gains x y).1 (inr (same, record { place = y; low = high; member = member; at = omega arith }))
  ];
  fewer = fewer_now more gained (all_missing new) (all_missing now) (all_missing old) grows (same_missing more new now stays) to.fewer;
  stays = stays_now more gained new now old stays to.stays;
}

pub met_all : (s : Spot) (closed old new : List (List Bool)) (gained : Bool) (a : ℕ) → MetTo s closed old new gained a → s.attrs ≤ a → (x y : ℕ) → Holds new x y ↔ (Holds old x y ⊎ IsMet s (Holds closed) x y)
met_all s closed old new gained a to end x y = (
  λ h. to.sound x y h,
  λ h. elim h [ inl was ↦ to.keeps x y was | inr met ↦ let low = met.a_there in to.before x y (omega (arith, low, end)) met.b_there met.related ],
)

-- the first i occurrences are done
pub record GatheredUpto (spots : List Spot) (closed : List (List Bool)) (old new : List (List (List Bool))) (gained : Bool) (i : ℕ) : Type 0 where
  pub alike : AreAlike old new
  pub sound : (X a b : ℕ) → Holds (relation_at new X) a b → Holds (relation_at old X) a b ⊎ IsJoined spots (Holds closed) X a b
  pub keeps : (X a b : ℕ) → Holds (relation_at old X) a b → Holds (relation_at new X) a b
  pub done : (k : ℕ) (s : Spot) → k < i → get_or spots k s ≡ s → (a b : ℕ) → IsMet s (Holds closed) a b → Holds (relation_at new s.phylum) a b
  pub fewer : sum_by all_missing new + cond gained 1 0 ≤ sum_by all_missing old
  pub stays : OnFalse gained (new ≡ old)

pub gathered_none : (spots : List Spot) (closed : List (List Bool)) (old : List (List (List Bool))) → GatheredUpto spots closed old old false 0
gathered_none spots closed old = record { alike = alike_itself old; sound = λ X a b h. inl h; keeps = λ X a b h. h; done = λ k s low is a b m. absurd (omega (arith, low)); fewer = omega arith; stays = refl }

-- one occurrence's pairs are added to its phylum
pub record GainsAt (spots : List Spot) (closed : List (List Bool)) (now new : List (List (List Bool))) (i : ℕ) (s : Spot) (rows : List (List Bool)) : Type 0 where
  pub low : i < length spots
  pub at : s ≡ get_or spots i s
  pub there : s.phylum < length now
  pub put : new ≡ set now s.phylum rows
  pub long : length rows ≡ length (relation_at now s.phylum)
  pub gathers : (a b : ℕ) → Holds rows a b ↔ (Holds (relation_at now s.phylum) a b ⊎ IsMet s (Holds closed) a b)

gained_sound : (spots : List Spot) (closed : List (List Bool)) (now new : List (List (List Bool))) (i : ℕ) (s : Spot) (rows : List (List Bool)) → GainsAt spots closed now new i s rows
    → (X a b : ℕ) → Holds (relation_at new X) a b → Holds (relation_at now X) a b ⊎ IsJoined spots (Holds closed) X a b
gained_sound spots closed now new i s rows g X a b =
    rw g.put (at_each now s.phylum rows g.there (λ Y r. Holds r a b → Holds (relation_at now Y) a b ⊎ IsJoined spots (Holds closed) Y a b)
    (λ h. elim ((g.gathers a b).0 h) [ inl was ↦ inl was | inr met ↦ inr (record { spot = s; stands = (i, g.low, sym g.at); phylum = refl; met = met }) ]) X (λ h. inl h))

gained_keeps : (spots : List Spot) (closed : List (List Bool)) (now new : List (List (List Bool))) (i : ℕ) (s : Spot) (rows : List (List Bool)) → GainsAt spots closed now new i s rows
    → (X a b : ℕ) → Holds (relation_at now X) a b → Holds (relation_at new X) a b
gained_keeps spots closed now new i s rows g X a b =
    rw g.put (at_each now s.phylum rows g.there (λ Y r. Holds (relation_at now Y) a b → Holds r a b) (λ h. (g.gathers a b).1 (inl h)) X (λ h. h))

gained_here : (spots : List Spot) (closed : List (List Bool)) (now new : List (List (List Bool))) (i : ℕ) (s : Spot) (rows : List (List Bool)) → GainsAt spots closed now new i s rows
    → (a b : ℕ) → IsMet s (Holds closed) a b → Holds (relation_at new s.phylum) a b
gained_here spots closed now new i s rows g a b met = rw g.put (subst (λ r. Holds r a b) (sym (at_same now s.phylum rows g.there)) ((g.gathers a b).1 (inr met)))

gained_done : (spots : List Spot) (closed : List (List Bool)) (old now new : List (List (List Bool))) (gained : Bool) (i : ℕ) (s : Spot) (rows : List (List Bool)) → GatheredUpto spots closed old now gained i → GainsAt spots closed now new i s rows
    → (k : ℕ) (t : Spot) → k < i + 1 → get_or spots k t ≡ t → (a b : ℕ) → IsMet t (Holds closed) a b → Holds (relation_at new t.phylum) a b
gained_done spots closed old now new gained i s rows upto g k t under eq a b met = elim (cases_lt k i) [
  | inl before ↦ gained_keeps spots closed now new i s rows g t.phylum a b (upto.done k t before eq a b met)
  | inr past ↦
      let here : k ≡ i = omega (arith, under, past) in
      let same : s ≡ t = g.at ∙ get_or_default spots i s t g.low ∙ ap (λ j. get_or spots j t) (sym here) ∙ eq in
      subst (λ (u : Spot). Holds (relation_at new u.phylum) a b) same (gained_here spots closed now new i s rows g a b (subst (λ u. IsMet u (Holds closed) a b) (sym same) met))
]

pub gathered_more : (spots : List Spot) (closed : List (List Bool)) (old now new : List (List (List Bool))) (gained : Bool) (i : ℕ) (s : Spot) (rows : List (List Bool)) → GatheredUpto spots closed old now gained i → GainsAt spots closed now new i s rows
    → all_missing rows + 1 ≤ all_missing (relation_at now s.phylum) → GatheredUpto spots closed old new true (i + 1)
gathered_more spots closed old now new gained i s rows upto g less = record {
  alike = rw g.put (alike_set old now s.phylum rows upto.alike g.there g.long);
  sound = λ X a b h. elim (gained_sound spots closed now new i s rows g X a b h) [ inl was ↦ upto.sound X a b was | inr joined ↦ inr joined ];
  keeps = λ X a b h. gained_keeps spots closed now new i s rows g X a b (upto.keeps X a b h);
  done = gained_done spots closed old now new gained i s rows upto g;
  fewer =
      let total = sum_by-set all_missing now s.phylum rows [] g.there in
      let f = upto.fewer in
      let e : sum_by all_missing new ≡ sum_by all_missing (set now s.phylum rows) = ap (sum_by all_missing) g.put in
      omega (arith, total, f, e, less);
  stays = tt;
}

pub gathered_same : (spots : List Spot) (closed : List (List Bool)) (old now new : List (List (List Bool))) (gained : Bool) (i : ℕ) (s : Spot) (rows : List (List Bool)) → GatheredUpto spots closed old now gained i → GainsAt spots closed now new i s rows
    → rows ≡ relation_at now s.phylum → GatheredUpto spots closed old new gained (i + 1)
gathered_same spots closed old now new gained i s rows upto g same =
    let is : new ≡ now = g.put ∙ ap (λ r. set now s.phylum r) same ∙ set-get_or now s.phylum [] in
    record {
      alike = rw is upto.alike;
      sound = λ X a b h. elim (gained_sound spots closed now new i s rows g X a b h) [ inl was ↦ upto.sound X a b was | inr joined ↦ inr joined ];
      keeps = λ X a b h. gained_keeps spots closed now new i s rows g X a b (upto.keeps X a b h);
      done = gained_done spots closed old now new gained i s rows upto g;
      fewer = rw is upto.fewer;
      stays = rw is upto.stays;
    }

pub gathered_all : (spots : List Spot) (closed : List (List Bool)) (old new : List (List (List Bool))) (gained : Bool) (i : ℕ) → GatheredUpto spots closed old new gained i → length spots ≤ i → (X a b : ℕ) → Holds (relation_at new X) a b ↔ (Holds (relation_at old X) a b ⊎ IsJoined spots (Holds closed) X a b)
gathered_all spots closed old new gained i upto end X a b = (
  λ h. upto.sound X a b h,
  λ h. elim h [
    | inl was ↦ upto.keeps X a b was
    | inr is ↦ let stands = is.stands in subst (λ Y. Holds (relation_at new Y) a b) is.phylum (upto.done stands.0 is.spot (let l = stands.1 in omega (arith, l, end)) stands.2 a b is.met)
  ],
)
