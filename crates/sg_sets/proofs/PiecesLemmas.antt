-- Lemmas on pieces of words that are set elsewhere.
use Rattle.std.proofs.Common.{◌≡◌, ◌≢◌, ℕ, ◌+◌, ◌-◌, ◌*◌, ◌/◌, ◌%◌, ◌^◌, ◌<◌, ◌≤◌, ◌⊎◌, inl, inr, Bool, true, false, List, length, get_or, set, nat_eq, bit_or, bit_and, min, refl, sym, ap, ◌∙◌, arith}
use Rattle.std.specs.Prelude.{◌↔◌, ◌||◌}
use Rattle.std.specs.Bool.{OnTrue, OnFalse}
use Rattle.std.specs.Int.{bit_at}
use Rattle.std.proofs.lemmas.Bool.{cases_lt, cases_eq, eqb-true, false≢true}
use Rattle.std.proofs.lemmas.List.{get_or-set_same, get_or-set_other}
use Rattle.std.proofs.lemmas.Nat.{shr-shr, pow_pos}
use Rattle.std.proofs.lemmas.Nat.Bits.{bit_at_and, bit_at-lt, bit_at-zero, bit_at_ones, bit_at_ones_above, bit_at_above, bit_at_cat_low, bit_at_cat_high}
use Rattle.sg_sets.specs.Words.{bit, bits_of, IsPacked, IsMovedBit, IsSetSince}
use Rattle.sg_sets.specs.Members.{Has, missing_of, IsMoved}
use Rattle.sg_sets.proofs.JoinedLemmas.{flag-or, new-bit, bit-in_word}
use Rattle.sg_sets.proofs.MembersLemmas.{missing_of-lt}
use Rattle.sg_sets.proofs.OptionLemmas.{OnFalse-weaker}
use Rattle.sg_sets.proofs.WordsLemmas.{or-cases, or-left, or-right, has-packed, length-bits_of}

min-one : (x : ℕ) → x < 2 → min x 1 ≡ x
min-one x h = omega (arith, h)

min-zero : (x : ℕ) → min x 0 ≡ 0
min-zero x = omega arith

flag-one : (n : ℕ) → nat_eq n 1 ≡ true → n ≡ 1
flag-one n h = eqb-true n 1 h

one-flag : (n : ℕ) → n ≡ 1 → nat_eq n 1 ≡ true
one-flag n h = rw h refl

-- a bit of a number shifted down
shifted : (n s i : ℕ) → bit_at (n / 2 ^ s) i ≡ bit_at n (s + i)
shifted n s i = ap (λ x. x % 2) (shr-shr n s i)

-- a bit of a number cut to a word
bit-mod : (n j : ℕ) → j < 64 → bit_at (n % 18446744073709551616) j ≡ bit_at n j
bit-mod n j h =
    let is : n / 18446744073709551616 * 2 ^ 64 + n % 18446744073709551616 ≡ n = omega arith in
    sym (bit_at_cat_low (n / 18446744073709551616) 64 (n % 18446744073709551616) j h) ∙ ap (λ x. bit_at x j) is

-- bits of a number shifted up
bit-up_low : (n to j : ℕ) → j < to → bit_at (n * 2 ^ to) j ≡ 0
bit-up_low n to j h =
    let is : n * 2 ^ to ≡ n * 2 ^ to + 0 = omega arith in
    ap (λ x. bit_at x j) is ∙ bit_at_cat_low n to 0 j h ∙ bit_at-zero j

bit-up_high : (n to j : ℕ) → to ≤ j → bit_at (n * 2 ^ to) j ≡ bit_at n (j - to)
bit-up_high n to j h =
    let is : n * 2 ^ to ≡ n * 2 ^ to + 0 = omega arith in
    ap (λ x. bit_at x j) is ∙ bit_at_cat_high n to 0 j (pow_pos to) h

module _ (word from to count : ℕ) (to_room : to + count ≤ 64) (from_room : from + count ≤ 64) where
  -- the flags from `from` on, as many as count
  abbrev cut : ℕ
  cut = bit_and (word / 2 ^ from) (18446744073709551615 / 2 ^ (64 - count))

  cut-low : (i : ℕ) → i < count → bit_at cut i ≡ bit_at word (from + i)
  cut-low i low =
      let within : 64 - count + i < 64 = omega (arith, low, to_room) in
      let one : bit_at (18446744073709551615 / 2 ^ (64 - count)) i ≡ 1 = shifted 18446744073709551615 (64 - count) i ∙ bit_at_ones 64 (64 - count + i) within in
      bit_at_and (word / 2 ^ from) (18446744073709551615 / 2 ^ (64 - count)) i
      ∙ ap (λ x. min (bit_at (word / 2 ^ from) i) x) one
      ∙ min-one (bit_at (word / 2 ^ from) i) (bit_at-lt (word / 2 ^ from) i)
      ∙ shifted word from i

  cut-high : (i : ℕ) → count ≤ i → bit_at cut i ≡ 0
  cut-high i high =
      let past : 64 ≤ 64 - count + i = omega (arith, high, to_room) in
      let none : bit_at (18446744073709551615 / 2 ^ (64 - count)) i ≡ 0 = shifted 18446744073709551615 (64 - count) i ∙ bit_at_ones_above 64 (64 - count + i) past in
      bit_at_and (word / 2 ^ from) (18446744073709551615 / 2 ^ (64 - count)) i
      ∙ ap (λ x. min (bit_at (word / 2 ^ from) i) x) none
      ∙ min-zero (bit_at (word / 2 ^ from) i)

  -- the same, moved to `to`
  pub piece-moves : (i : ℕ) → i < count → bit_at word (from + i) ≡ 1 → bit_at (cut * 2 ^ to % 18446744073709551616) (to + i) ≡ 1
  piece-moves i low h =
      let within : to + i < 64 = omega (arith, low, to_room) in
      let back : to + i - to ≡ i = omega arith in
      bit-mod (cut * 2 ^ to) (to + i) within ∙ bit-up_high cut to (to + i) (omega arith) ∙ ap (bit_at cut) back ∙ cut-low i low ∙ h

  pub piece-sound : (j : ℕ) → bit_at (cut * 2 ^ to % 18446744073709551616) j ≡ 1 → (i : ℕ) × (i < count) × (bit_at word (from + i) ≡ 1) × (j ≡ to + i)
  piece-sound j h = elim (cases_lt j 64) [
    | inr past ↦
        let fits : cut * 2 ^ to % 18446744073709551616 < 2 ^ 64 = omega arith in
        absurd (omega (arith, h, bit_at_above (cut * 2 ^ to % 18446744073709551616) 64 j fits past))
    | inl within ↦
        let is : bit_at (cut * 2 ^ to) j ≡ 1 = sym (bit-mod (cut * 2 ^ to) j within) ∙ h in
        elim (cases_lt j to) [
          | inl below ↦ absurd (omega (arith, is, bit-up_low cut to j below))
          | inr behind ↦
              let here : bit_at cut (j - to) ≡ 1 = sym (bit-up_high cut to j behind) ∙ is in
              elim (cases_lt (j - to) count) [
                | inl low ↦ (j - to, low, sym (cut-low (j - to) low) ∙ here, omega (arith, behind))
                | inr high ↦ absurd (omega (arith, here, cut-high (j - to) high))
              ]
        ]
  ]

-- a bit of a word is one of the words
bit-of_word : (words : List ℕ) (at i : ℕ) → at % 64 + i < 64 → bit words (at + i) ≡ nat_eq (bit_at (get_or words (at / 64) 0) (at % 64 + i)) 1
bit-of_word words at i h =
    let k : (at + i) / 64 ≡ at / 64 = omega (arith, h) in
    let j : (at + i) % 64 ≡ at % 64 + i = omega (arith, h) in
    ap (λ n. nat_eq (bit_at (get_or words n 0) ((at + i) % 64)) 1) k ∙ ap (λ n. nat_eq (bit_at (get_or words (at / 64) 0) n) 1) j

module _ (words other : List ℕ) (to from count piece : ℕ) (low : to / 64 < length words) (to_room : to % 64 + count ≤ 64) (from_room : from % 64 + count ≤ 64)
    (sound : (j : ℕ) → bit_at piece j ≡ 1 → (i : ℕ) × (i < count) × (bit_at (get_or other (from / 64) 0) (from % 64 + i) ≡ 1) × (j ≡ to % 64 + i))
    (moves : (i : ℕ) → i < count → bit_at (get_or other (from / 64) 0) (from % 64 + i) ≡ 1 → bit_at piece (to % 64 + i) ≡ 1) where
  abbrev now : List ℕ
  now = set words (to / 64) (bit_or (get_or words (to / 64) 0) piece)

  now-here : (a : ℕ) → a / 64 ≡ to / 64 → bit now a ≡ (bit words a || nat_eq (bit_at piece (a % 64)) 1)
  now-here a same =
      let word : get_or now (a / 64) 0 ≡ bit_or (get_or words (a / 64) 0) piece = rw same (get_or-set_same words (to / 64) _ 0 low) in
      ap (λ w. nat_eq (bit_at w (a % 64)) 1) word ∙ flag-or (get_or words (a / 64) 0) piece (a % 64)

  pub piece-joins : (a : ℕ) → (bit now a ≡ true) ↔ ((bit words a ≡ true) ⊎ IsMovedBit other from to count a)
  piece-joins a = elim (cases_eq (a / 64) (to / 64)) [
    | inr apart ↦
        let same : bit now a ≡ bit words a = ap (λ w. nat_eq (bit_at w (a % 64)) 1) (get_or-set_other words (to / 64) (a / 64) _ 0 apart) in (
          λ h. inl (sym same ∙ h),
          λ h. elim h [ inl was ↦ same ∙ was | inr m ↦ absurd (let l = m.low in let at = m.at in apart (omega (arith, l, at, to_room))) ],
        )
    | inl here ↦ (
      λ h. elim (or-cases (bit words a) (nat_eq (bit_at piece (a % 64)) 1) (sym (now-here a here) ∙ h)) [
        | inl was ↦ inl was
        | inr new ↦
            let found = sound (a % 64) (flag-one (bit_at piece (a % 64)) new) in
            let within : from % 64 + found.0 < 64 = omega (arith, found.1, from_room) in
            inr (record {
              place = found.0;
              low = found.1;
              set = bit-of_word other from found.0 within ∙ one-flag _ found.2;
              at = omega (arith, found.3, here);
            })
      ],
      λ h. now-here a here ∙ elim h [
        | inl was ↦ or-left (bit words a) (nat_eq (bit_at piece (a % 64)) 1) was
        | inr m ↦
            let l = m.low in
            let at = m.at in
            let within : from % 64 + m.place < 64 = omega (arith, l, from_room) in
            let there : a % 64 ≡ to % 64 + m.place = omega (arith, l, at, to_room) in
            or-right (bit words a) (nat_eq (bit_at piece (a % 64)) 1)
            (one-flag _ (ap (bit_at piece) there ∙ moves m.place l (flag-one _ (sym (bit-of_word other from m.place within) ∙ m.set))))
      ],
    )
  ]

  pub piece-gained : piece < 2 ^ 64 → bit_or (get_or words (to / 64) 0) piece ≢ get_or words (to / 64) 0 → IsSetSince words now
  piece-gained fits ne =
      let found = new-bit (get_or words (to / 64) 0) piece fits ne in
      let here : (64 * (to / 64) + found.0) / 64 ≡ to / 64 = omega (arith, found.1) in
      let at : (64 * (to / 64) + found.0) % 64 ≡ found.0 = omega (arith, found.1) in (
        64 * (to / 64) + found.0,
        bit-in_word words (to / 64) found.0 found.1 ∙ found.2,
        now-here (64 * (to / 64) + found.0) here ∙ or-right (bit words (64 * (to / 64) + found.0)) _ (ap (λ k. nat_eq (bit_at piece k) 1) at ∙ found.3),
      )

flag-cases : (b : Bool) → (b ≡ true) ⊎ (b ≡ false)
flag-cases true = inl refl
flag-cases false = inr refl

-- the words that stand for sets
module _ (width : ℕ) (x y z : List ℕ) (to from count : ℕ) (joins : (a : ℕ) → (bit z a ≡ true) ↔ ((bit x a ≡ true) ⊎ IsMovedBit y from to count a)) where
  pub packed-moved : IsPacked width x → length z ≡ length x → to + count ≤ width → IsPacked width z
  packed-moved p l room = record {
    small = p.small;
    room = let r = p.room in omega (arith, l, r);
    tight = let t = p.tight in omega (arith, l, t);
    clear = λ a past. elim (flag-cases (bit z a)) [
      | inr off ↦ off
      | inl on ↦ elim ((joins a).0 on) [
        | inl was ↦ absurd (false≢true (sym (p.clear a past) ∙ was))
        | inr m ↦ absurd (let l' = m.low in let at = m.at in omega (arith, l', at, room, past))
      ]
    ];
  }

  pub has-moved : (other : ℕ) → IsPacked width x → IsPacked other y → IsPacked width z → (a : ℕ) → Has (bits_of width z) a ↔ (Has (bits_of width x) a ⊎ IsMoved (bits_of other y) from to count a)
  has-moved other p q r a = (
    λ h. elim ((joins a).0 (sym (has-packed width z a r) ∙ h)) [
      | inl was ↦ inl (has-packed width x a p ∙ was)
      | inr m ↦ inr (record { place = m.place; low = m.low; member = has-packed other y (from + m.place) q ∙ m.set; at = m.at })
    ],
    λ h. has-packed width z a r ∙ (joins a).1 (elim h [
      | inl was ↦ inl (sym (has-packed width x a p) ∙ was)
      | inr m ↦ inr (record { place = m.place; low = m.low; set = sym (has-packed other y (from + m.place) q) ∙ m.member; at = m.at })
    ]),
  )

  pub missing_of-moved : IsPacked width x → IsPacked width z → IsSetSince x z → missing_of (bits_of width z) < missing_of (bits_of width x)
  missing_of-moved p r g =
      missing_of-lt (bits_of width x) (bits_of width z) (length-bits_of width x ∙ sym (length-bits_of width z))
      (λ a h. has-packed width z a r ∙ (joins a).1 (inl (sym (has-packed width x a p) ∙ h))) g.0
      (has-packed width x g.0 p ∙ g.1) (has-packed width z g.0 r ∙ g.2)

-- the numbers before `at` are in
pub record MovedTo (set old new : List Bool) (from to at end : ℕ) (grown : Bool) : Type 0 where
  pub behind : from ≤ at
  pub until : at ≤ end
  pub width : length new ≡ length old
  pub joins : (a : ℕ) → Has new a ↔ (Has old a ⊎ IsMoved set from to (at - from) a)
  pub grows : OnTrue grown (missing_of new < missing_of old)
  pub stays : OnFalse grown (new ≡ old)

pub moved_none : (set old : List Bool) (from to end : ℕ) → from ≤ end → MovedTo set old old from to from end false
moved_none set old from to end h = record {
  behind = omega arith;
  until = h;
  width = refl;
  joins = λ a. (λ k. inl k, λ k. elim k [ inl was ↦ was | inr m ↦ absurd (let l = m.low in omega (arith, l)) ]);
  grows = tt;
  stays = refl;
}

more-grows : (more grown : Bool) (new now old : ℕ) → OnTrue more (new < now) → OnTrue grown (now < old) → OnFalse more (new ≡ now) → OnFalse grown (now ≡ old) → OnTrue (more || grown) (new < old)
more-grows true true new now old g h s t = omega (arith, g, h)
more-grows true false new now old g h s t = omega (arith, g, t)
more-grows false true new now old g h s t = omega (arith, h, s)
more-grows false false new now old g h s t = tt

more-stays : {A : Type 0} (more grown : Bool) (new was old : A) → OnFalse more (new ≡ was) → OnFalse grown (was ≡ old) → OnFalse (more || grown) (new ≡ old)
more-stays true grown new was old s t = tt
more-stays false true new was old s t = tt
more-stays false false new was old s t = s ∙ t

-- from `at` on the next number is n, and so many places from there are taken
pub moved_more : (set old now new : List Bool) (from to at end n long : ℕ) (grown more : Bool) → MovedTo set old now from to at end grown → at ≤ n → n + long ≤ end
    → ((k : ℕ) → at ≤ k → k < n → ¬ (Has set k)) → length new ≡ length now
    → ((a : ℕ) → Has new a ↔ (Has now a ⊎ IsMoved set n (to + (n - from)) long a)) → OnTrue more (missing_of new < missing_of now) → OnFalse more (new ≡ now)
    → MovedTo set old new from to (n + long) end (more || grown)
moved_more set old now new from to at end n long grown more i later until none width joins grows stays = record {
  behind = let b = i.behind in omega (arith, b, later);
  until = until;
  width = width ∙ i.width;
  joins = λ a. (
    λ h. elim ((joins a).0 h) [
      | inl was ↦ elim ((i.joins a).0 was) [
        | inl first ↦ inl first
        | inr m ↦ inr (record { place = m.place; low = let l = m.low in let b = i.behind in omega (arith, l, later, b); member = m.member; at = m.at })
      ]
      | inr m ↦ inr (record {
        place = n - from + m.place;
        low = let l = m.low in let b = i.behind in omega (arith, l, later, b);
        member = (let b = i.behind in let is : from + (n - from + m.place) ≡ n + m.place = omega (arith, later, b) in rw is m.member);
        at = let e = m.at in omega (arith, e);
      })
    ],
    λ h. elim h [
      | inl first ↦ (joins a).1 (inl ((i.joins a).1 (inl first)))
      | inr m ↦ let b = i.behind in let l = m.low in let e = m.at in elim (cases_lt m.place (at - from)) [
        | inl low ↦ (joins a).1 (inl ((i.joins a).1 (inr (record { place = m.place; low = low; member = m.member; at = e }))))
        | inr high ↦ elim (cases_lt (from + m.place) n) [
          | inl below ↦ absurd (none (from + m.place) (omega (arith, high)) below m.member)
          | inr past ↦
              let is : from + m.place ≡ n + (from + m.place - n) = omega (arith, past) in
              (joins a).1 (inr (record { place = from + m.place - n; low = omega (arith, l, past); member = rw is at m.member; at = omega (arith, e, past, b, later) }))
        ]
      ]
    ],
  );
  grows = more-grows more grown (missing_of new) (missing_of now) (missing_of old) grows i.grows (OnFalse-weaker more _ _ (λ e. ap missing_of e) stays) (OnFalse-weaker grown _ _ (λ e. ap missing_of e) i.stays);
  stays = more-stays more grown new now old stays i.stays;
}

pub moved_all : (set old new : List Bool) (from to count at : ℕ) (grown : Bool) → MovedTo set old new from to at (from + count) grown → ((k : ℕ) → at ≤ k → k < from + count → ¬ (Has set k))
    → (a : ℕ) → Has new a ↔ (Has old a ⊎ IsMoved set from to count a)
moved_all set old new from to count at grown i none a = (
  λ h. elim ((i.joins a).0 h) [
    | inl was ↦ inl was
    | inr m ↦ inr (record { place = m.place; low = let l = m.low in let u = i.until in omega (arith, l, u); member = m.member; at = m.at })
  ],
  λ h. (i.joins a).1 (elim h [
    | inl was ↦ inl was
    | inr m ↦ let l = m.low in elim (cases_lt m.place (at - from)) [
      | inl low ↦ inr (record { place = m.place; low = low; member = m.member; at = m.at })
      | inr high ↦ absurd (none (from + m.place) (omega (arith, high)) (omega (arith, l)) m.member)
    ]
  ]),
)
