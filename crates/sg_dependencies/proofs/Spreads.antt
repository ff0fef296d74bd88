-- How a phylum's pairs are added at the occurrences of an operator.
use Rattle.std.specs.Prelude.{◌≡◌, ◌↔◌, ◌⊎◌, ℕ, ◌+◌, ◌<◌, ◌≤◌, Bool, List, length}
use Rattle.std.proofs.Common.{refl, sym, ◌∙◌, ap, subst, get_or, arith, inl, inr}
use Rattle.std.proofs.lemmas.Bool.{cases_lt}
use Rattle.std.proofs.lemmas.List.{get_or_default}
use Rattle.sg_sets.specs.Members.{Has, IsMoved}
use Rattle.sg_sets.specs.Rows.{Holds, row_of}
use Rattle.sg_dependencies.specs.Frames.{Spot}
use Rattle.sg_dependencies.specs.Induced.{relation_at}
use Rattle.sg_dependencies.specs.Rounds.{IsPlaced, IsSpread}

-- the pairs from attributes before a are added
pub record SpreadTo (s : Spot) (rows old new : List (List Bool)) (a : ℕ) : Type 0 where
  pub size : length new ≡ length old
  pub sound : (m n : ℕ) → Holds new m n → Holds old m n ⊎ IsPlaced s rows m n
  pub keeps : (m n : ℕ) → Holds old m n → Holds new m n
  pub before : (x y : ℕ) → x < a → y < s.attrs → Holds rows x y → Holds new (s.first + x) (s.first + y)

pub spread_none : (s : Spot) (rows old : List (List Bool)) → SpreadTo s rows old old 0
spread_none s rows old = record { size = refl; sound = λ m n h. inl h; keeps = λ m n h. h; before = λ x y low high h. absurd (omega (arith, low)) }

-- those from a too
pub spread_row : (s : Spot) (rows old now new : List (List Bool)) (row : List Bool) (a : ℕ) → SpreadTo s rows old now a → a < s.attrs → row ≡ row_of rows a → length new ≡ length now
    → ((x y : ℕ) → Holds new x y ↔ (Holds now x y ⊎ ((x ≡ s.first + a) × IsMoved row 0 s.first s.attrs y))) → SpreadTo s rows old new (a + 1)
spread_row s rows old now new row a to there is long gains = record {
  size = long ∙ to.size;
  sound = λ m n h. elim ((gains m n).0 h) [
    | inl was ↦ to.sound m n was
    | inr more ↦
        let moved = more.1 in
        let place : 0 + moved.place ≡ moved.place = omega arith in
        inr (record {
          a = a;
          b = moved.place;
          a_there = there;
          b_there = moved.low;
          related = subst (Has (row_of rows a)) place (subst (λ r. Has r (0 + moved.place)) is moved.member);
          from = more.0;
          to = moved.at;
        })
  ];
  keeps = λ m n h. (gains m n).1 (inl (to.keeps m n h));
  before = λ x y low high h. elim (cases_lt x a) [
    | inl under ↦ (gains (s.first + x) (s.first + y)).1 (inl (to.before x y under high h))
    | inr past ↦
        let same : x ≡ a = omega (arith, low, past) in
        let place : y ≡ 0 + y = omega arith in
        let member : Has row (0 + y) = subst (Has row) place (subst (λ r. Has r y) (sym is) (subst (λ k. Holds rows k y) same h)) in
        (gains (s.first + x) (s.first + y)).1 (inr (ap (λ k. s.first + k) same, record { place = y; low = high; member = member; at = refl }))
  ];
}

pub spread_all_rows : (s : Spot) (rows old new : List (List Bool)) (a : ℕ) → SpreadTo s rows old new a → s.attrs ≤ a → (m n : ℕ) → Holds new m n ↔ (Holds old m n ⊎ IsPlaced s rows m n)
spread_all_rows s rows old new a to end m n = (
  λ h. to.sound m n h,
  λ h. elim h [
    | inl was ↦ to.keeps m n was
    | inr is ↦
        let low = is.a_there in
        rw (is.from, is.to) (to.before is.a is.b (omega (arith, low, end)) is.b_there is.related)
  ],
)

-- the first i occurrences are done
pub record SpreadUpto (spots : List Spot) (phyla : List (List (List Bool))) (old new : List (List Bool)) (i : ℕ) : Type 0 where
  pub size : length new ≡ length old
  pub sound : (m n : ℕ) → Holds new m n → Holds old m n ⊎ IsSpread spots phyla m n
  pub keeps : (m n : ℕ) → Holds old m n → Holds new m n
  pub done : (k : ℕ) (s : Spot) → k < i → get_or spots k s ≡ s → (m n : ℕ) → IsPlaced s (relation_at phyla s.phylum) m n → Holds new m n

pub upto_none : (spots : List Spot) (phyla : List (List (List Bool))) (old : List (List Bool)) → SpreadUpto spots phyla old old 0
upto_none spots phyla old = record { size = refl; sound = λ m n h. inl h; keeps = λ m n h. h; done = λ k s low is m n p. absurd (omega (arith, low)) }

pub upto_more : (spots : List Spot) (phyla : List (List (List Bool))) (old now new rows : List (List Bool)) (i : ℕ) (s : Spot) → SpreadUpto spots phyla old now i → i < length spots → s ≡ get_or spots i s → rows ≡ relation_at phyla s.phylum
    → length new ≡ length now → ((m n : ℕ) → Holds new m n ↔ (Holds now m n ⊎ IsPlaced s rows m n)) → SpreadUpto spots phyla old new (i + 1)
upto_more spots phyla old now new rows i s upto low at is long spreads = record {
  size = long ∙ upto.size;
  sound = λ m n h. elim ((spreads m n).0 h) [ inl was ↦ upto.sound m n was | inr placed ↦ inr (record { spot = s; stands = (i, low, sym at); placed = subst (λ r. IsPlaced s r m n) is placed }) ];
  keeps = λ m n h. (spreads m n).1 (inl (upto.keeps m n h));
  done = λ k t under eq m n p. elim (cases_lt k i) [
    | inl before ↦ (spreads m n).1 (inl (upto.done k t before eq m n p))
    | inr past ↦
        let here : k ≡ i = omega (arith, under, past) in
        let same : t ≡ s = sym eq ∙ ap (λ j. get_or spots j t) here ∙ get_or_default spots i t s low ∙ sym at in
        (spreads m n).1 (inr (subst (λ r. IsPlaced s r m n) (sym is) (subst (λ u. IsPlaced u (relation_at phyla u.phylum) m n) same p)))
  ];
}

pub upto_all : (spots : List Spot) (phyla : List (List (List Bool))) (old new : List (List Bool)) (i : ℕ) → SpreadUpto spots phyla old new i → length spots ≤ i → (m n : ℕ) → Holds new m n ↔ (Holds old m n ⊎ IsSpread spots phyla m n)
upto_all spots phyla old new i upto end m n = (
  λ h. upto.sound m n h,
  λ h. elim h [
    | inl was ↦ upto.keeps m n was
    | inr is ↦ let stands = is.stands in upto.done stands.0 is.spot (let l = stands.1 in omega (arith, l, end)) stands.2 m n is.placed
  ],
)
