-- Flags, beside the loops that put them up.
use Rattle.std.proofs.Common.{◌≡◌, ℕ, suc, ◌+◌, Bool, true, false, ◌&&◌, ◌||◌, List, length, nat_eq, nat_lt, refl, sym, ap, ◌∙◌, arith}
use Rattle.std.specs.List.{list_any}
use Rattle.sg_useless.specs.Reach.{Step, flag, leads, is_reached}

pub followed : (old w e t : Bool) → t ≡ true → (old || (w && e)) ≡ (old || (w && (e && t)))
followed old w e true is = ap (λ b. old || (w && b)) (same e)
  where
    same : (e : Bool) → e ≡ (e && true)
    same true = refl
    same false = refl
followed old w e false is = absurd (cc is)

pub unfollowed : (old w e t : Bool) → t ≡ false → old ≡ (old || (w && (e && t)))
unfollowed true w e t is = refl
unfollowed false w e true is = absurd (cc is)
unfollowed false false e false is = refl
unfollowed false true true false is = refl
unfollowed false true false false is = refl

-- what no step reaches is a start
pub reached_first : (width : ℕ) (starts : List ℕ) (steps : List Step) (flags : List Bool) → ((n : ℕ) → flag flags n ≡ (nat_lt n width && list_any (nat_eq n) starts))
    → (n : ℕ) → flag flags n ≡ is_reached width starts steps 0 n
unfolding is_reached
reached_first width starts steps flags started n = started n

-- a step more
pub reached_more : (width : ℕ) (starts : List ℕ) (steps : List Step) (k : ℕ) (flags same next : List Bool) → ((n : ℕ) → flag flags n ≡ is_reached width starts steps k n) → length flags ≡ width
    → same ≡ flags → ((n : ℕ) → flag next n ≡ (flag same n || (nat_lt n (length same) && list_any (leads (flag same) n) steps))) → (n : ℕ) → flag next n ≡ is_reached width starts steps (k + 1) n
unfolding is_reached
reached_more width starts steps k flags same next so_far wide is farther n =
    let more : k + 1 ≡ suc k = omega arith in
    let told : (m : ℕ) → flag same m ≡ is_reached width starts steps k m = λ m. ap (λ (l : List Bool). flag l m) is ∙ so_far m in
    let width_of : length same ≡ width = ap (λ (l : List Bool). length l) is ∙ wide in
    farther n ∙ (λ i. told n i || (nat_lt n (width_of i) && list_any (leads (λ m. told m i) n) steps)) ∙ ap (λ j. is_reached width starts steps j n) (sym more)
