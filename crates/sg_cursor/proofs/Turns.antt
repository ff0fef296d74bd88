-- A recursion on a count of turns, beside a loop that counts up.
use Rattle.std.proofs.Common.{◌≡◌, ℕ, suc, ◌+◌, ◌-◌, ◌<◌, ◌≤◌, Bool, true, false, List, [], ◌∷◌, ◌++◌, Some, None, refl, ap, ◌∙◌, arith}
use Rattle.sg_ast.specs.Spelling.{Mark}
use Rattle.sg_ast.specs.Readers.{Reader, Outcome, more}

-- one more was read
pub goes_on : {A : Type 0} {total : Outcome (List A)} (test : List Mark → Bool) (item : Reader A) (n at : ℕ) (found : List A) (ls rest : List Mark) (x : A)
    → at < n → test ls ≡ true → item ls ≡ Some (x, rest)
    → total ≡ more test item (n - at) found ls → total ≡ more test item (n - (at + 1)) (found ++ x ∷ []) rest
unfolding more
goes_on test item n at found ls rest x below seen read so_far =
    let turn : n - at ≡ suc (n - (at + 1)) = omega arith in
    so_far ∙ rw (turn, seen, read) refl

-- the next one could not be read
pub fails : {A : Type 0} {total : Outcome (List A)} (test : List Mark → Bool) (item : Reader A) (n at : ℕ) (found : List A) (ls : List Mark)
    → at < n → test ls ≡ true → item ls ≡ None
    → total ≡ more test item (n - at) found ls → total ≡ None
unfolding more
fails test item n at found ls below seen read so_far =
    let turn : n - at ≡ suc (n - (at + 1)) = omega arith in
    so_far ∙ rw (turn, seen, read) refl

-- no next one is seen
pub stops : {A : Type 0} {total : Outcome (List A)} (test : List Mark → Bool) (item : Reader A) (n at : ℕ) (found : List A) (ls : List Mark)
    → at < n → test ls ≡ false
    → total ≡ more test item (n - at) found ls → total ≡ Some (found, ls)
unfolding more
stops test item n at found ls below seen so_far =
    let turn : n - at ≡ suc (n - (at + 1)) = omega arith in
    so_far ∙ rw (turn, seen) refl

-- no turn is left
pub ends : {A : Type 0} {total : Outcome (List A)} (test : List Mark → Bool) (item : Reader A) (n at : ℕ) (found : List A) (ls : List Mark)
    → n ≤ at → total ≡ more test item (n - at) found ls → total ≡ Some (found, ls)
unfolding more
ends test item n at found ls all so_far =
    let none : n - at ≡ 0 = omega arith in
    so_far ∙ rw none refl

pub deeper : {X : Type 0} (f : ℕ → X) (n : ℕ) → 0 < n → f n ≡ f (suc (n - 1))
deeper f n some = let e : n ≡ suc (n - 1) = omega arith in ap f e
