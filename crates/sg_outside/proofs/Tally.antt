-- Counts that stay at their greatest value, after several calls
use Rattle.std.proofs.Common.{◌≡◌, ℕ, ◌+◌, zero, suc, refl, ap, sym, ◌∙◌, Option, Some, None, arith}
use Rattle.sg_outside.specs.Count.{Calls, raised, raised_by, tallied, answered_by}

pub raised_by-raised_by : (m n count : ℕ) → raised_by n (raised_by m count) ≡ raised_by (m + n) count
raised_by-raised_by zero n count =
    let same : n ≡ 0 + n = omega arith in
    ap (λ k. raised_by k count) same
raised_by-raised_by (suc m) n count =
    let next : suc m + n ≡ suc (m + n) = omega arith in
    raised_by-raised_by m n (raised count) ∙ ap (λ k. raised_by k count) (sym next)

pub tallied-zero : (count : Option ℕ) → tallied 0 count ≡ count
tallied-zero None = refl
tallied-zero (Some n) = refl

pub tallied-tallied : (m n : ℕ) (count : Option ℕ) → tallied n (tallied m count) ≡ tallied (m + n) count
tallied-tallied m n None = refl
tallied-tallied m n (Some count) = ap (λ c. Some c) (raised_by-raised_by m n count)

pub answered_by-zero : (calls : Option Calls) → answered_by 0 calls ≡ calls
answered_by-zero None = refl
answered_by-zero (Some c) = refl

pub answered_by-answered_by : (m n : ℕ) (calls : Option Calls) → answered_by n (answered_by m calls) ≡ answered_by (m + n) calls
answered_by-answered_by m n None = refl
answered_by-answered_by m n (Some calls) = ap (λ k. Some (record calls { answered = k })) (raised_by-raised_by m n calls.answered)
