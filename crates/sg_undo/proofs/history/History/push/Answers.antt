use Rattle.std.proofs.Common.{◌≡◌, ◌≤◌, ◌<◌, ◌↔◌, ◌++◌, ◌∷◌, [], ℕ, zero, suc, List, length, take, slice_get, option_to_list, IsSome, refl, ap, arith, rules}
use Rattle.sg_undo.proofs.history.History.push.Goals as goal

-- a list of at most one more element than n is its first n and the one behind them
take-with_next : {A : Type 0} → (n : ℕ) (xs : List A) → length xs ≤ suc n → take n xs ++ option_to_list (slice_get xs n) ≡ xs
take-with_next zero [] h = refl
take-with_next zero (x ∷ []) h = refl
take-with_next zero (x ∷ y ∷ xs) h = absurd (omega arith)
take-with_next (suc n) [] h = refl
take-with_next (suc n) (x ∷ xs) h = ap (λ l. x ∷ l) (take-with_next n xs (omega arith))

-- there is an element behind the first n exactly where the list is longer
slice_get-within : {A : Type 0} → (n : ℕ) (xs : List A) → IsSome (slice_get xs n) ↔ (n < length xs)
slice_get-within n [] = search rules
slice_get-within zero (x ∷ xs) = search rules
slice_get-within (suc n) (x ∷ xs) = let i = slice_get-within n xs in (λ s. let j = i.0 s in omega (arith, j), λ h. i.1 (omega arith))

pub returns-clause-kept : goal.returns-clause-kept
returns-clause-kept g c =
    rw (← c.self.view_is, c.push_front.ensures.items, c.push_front.ensures.value) (take-with_next c.self.inside.past.capacity (c.args.step ∷ c.self.inside.past.items) (omega (arith, c.self.invariant)))

pub returns-clause-full : goal.returns-clause-full
returns-clause-full g c =
    let s = slice_get-within c.self.inside.past.capacity (c.args.step ∷ c.self.inside.past.items) in
    rw (← c.self.view_is, c.push_front.ensures.value) (λ h. let i = s.0 h in omega (arith, i, c.self.invariant), λ h. s.1 (omega arith))
