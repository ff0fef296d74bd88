-- Numbers that texts write.
use Rattle.std.specs.Prelude.{◌≡◌, refl, ℕ, suc, ◌+◌, ◌*◌, ◌-◌, ◌<◌, ◌≤◌, Bool, true, false, cond, ◌&&◌, nat_le, List, [], ◌∷◌, length, Option, Some, None}
use Rattle.std.proofs.Common.{drop, get_or, sym, ◌∙◌, ap, arith, drop-cons}
use Rattle.sg_kinds.specs.Evaluation.{digits_from, natural}

digit_there : (d : ℕ) (o : Option ℕ) (m : ℕ) → cond (nat_le 48 d && nat_le d 57) o None ≡ Some m → (48 ≤ d) × (d ≤ 57) × (o ≡ Some m)
digit_there d o m h = by (nat_le 48 d) refl (nat_le d 57) refl
  where
    le_true : (a b : ℕ) → nat_le a b ≡ true → a ≤ b
    le_true a b h = grind arith

    by : (a : Bool) → nat_le 48 d ≡ a → (b : Bool) → nat_le d 57 ≡ b → (48 ≤ d) × (d ≤ 57) × (o ≡ Some m)
    by true e true f = (le_true 48 d e, le_true d 57 f, rw (e, f) at h)
    by true e false f = let none : None ≡ Some m = rw (e, f) at h in cc
    by false e b f = let none : None ≡ Some m = rw e at h in cc

-- a number that goes on grows
digits_grow : (n : ℕ) (ds : List ℕ) (m : ℕ) → digits_from n ds ≡ Some m → n ≤ m
digits_grow n [] m h = let e : n ≡ m = cc in omega (arith, e)
digits_grow n (d ∷ ds) m h =
    let t : (48 ≤ d) × (d ≤ 57) × (digits_from (n * 10 + (d - 48)) ds ≡ Some m) = digit_there d _ m h in
    let r : n * 10 + (d - 48) ≤ m = digits_grow (n * 10 + (d - 48)) ds m t.2 in
    omega (arith, r)

natural_digits : (ds : List ℕ) (m : ℕ) → natural ds ≡ Some m → digits_from 0 ds ≡ Some m
natural_digits [] m h = cc
natural_digits (d ∷ ds) m h = h

-- where a number is written, each byte is a digit, and what stands before it is a part of the number
pub goes_on : (n i m : ℕ) (ds : List ℕ) → i < length ds → digits_from n (drop i ds) ≡ digits_from 0 ds → natural ds ≡ Some m → (48 ≤ get_or ds i 0) × (get_or ds i 0 ≤ 57) × (n * 10 ≤ m)
goes_on n i m ds l e h =
    let d = get_or ds i 0 in
    let at : drop i ds ≡ d ∷ drop (suc i) ds = drop-cons ds i 0 l in
    let t : (48 ≤ d) × (d ≤ 57) × (digits_from (n * 10 + (d - 48)) (drop (suc i) ds) ≡ Some m) = digit_there d _ m (sym (ap (digits_from n) at) ∙ e ∙ natural_digits ds m h) in
    (t.0, t.1, (let r : n * 10 + (d - 48) ≤ m = digits_grow (n * 10 + (d - 48)) (drop (suc i) ds) m t.2 in omega (arith, r)))
