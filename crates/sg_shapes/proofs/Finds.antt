-- The first number below another that passes a test.
use Rattle.std.proofs.Common.{◌≡◌, ℕ, zero, suc, ◌+◌, ◌<◌, ◌≤◌, Bool, true, false, cond, List, [], ◌∷◌, ◌++◌, find, Option, Some, None, refl, sym, ap, ◌∙◌, arith, add-one, inl, inr, ◌⊎◌}
use Rattle.std.proofs.lemmas.Bool.{cases_lt}
use Rattle.sg_kinds.specs.Instances.{below}

-- one more number at the end
push_some : (test : ℕ → Bool) (xs : List ℕ) (x k : ℕ) → find test xs ≡ Some k → find test (xs ++ x ∷ []) ≡ Some k
push_some test [] x k e = absurd (cc e)
push_some test (y ∷ xs) x k e = by (test y) e (push_some test xs x k)
  where
    by : (b : Bool) → cond b (Some y) (find test xs) ≡ Some k → (find test xs ≡ Some k → find test (xs ++ x ∷ []) ≡ Some k) → cond b (Some y) (find test (xs ++ x ∷ [])) ≡ Some k
    by true h rest = h
    by false h rest = rest h

push_none : (test : ℕ → Bool) (xs : List ℕ) (x : ℕ) → find test xs ≡ None → find test (xs ++ x ∷ []) ≡ cond (test x) (Some x) None
push_none test [] x e = refl
push_none test (y ∷ xs) x e = by (test y) e (push_none test xs x)
  where
    by : (b : Bool) → cond b (Some y) (find test xs) ≡ None → (find test xs ≡ None → find test (xs ++ x ∷ []) ≡ cond (test x) (Some x) None) → cond b (Some y) (find test (xs ++ x ∷ [])) ≡ cond (test x) (Some x) None
    by true h rest = absurd (cc h)
    by false h rest = rest h

split_none : (test : ℕ → Bool) (xs : List ℕ) (x : ℕ) → find test (xs ++ x ∷ []) ≡ None → (find test xs ≡ None) × (test x ≡ false)
split_none test [] x e = (refl, by (test x) e)
  where
    by : (b : Bool) → cond b (Some x) None ≡ None → b ≡ false
    by true h = absurd (cc h)
    by false h = refl
split_none test (y ∷ xs) x e = by (test y) e (split_none test xs x)
  where
    by : (b : Bool) → cond b (Some y) (find test (xs ++ x ∷ [])) ≡ None → (find test (xs ++ x ∷ []) ≡ None → (find test xs ≡ None) × (test x ≡ false)) → (cond b (Some y) (find test xs) ≡ None) × (test x ≡ false)
    by true h rest = absurd (cc h)
    by false h rest = rest h

split_some : (test : ℕ → Bool) (xs : List ℕ) (x k : ℕ) (o : Option ℕ) → find test xs ≡ o → find test (xs ++ x ∷ []) ≡ Some k → (find test xs ≡ Some k) ⊎ ((test x ≡ true) × (x ≡ k))
split_some test xs x k None e f = by (test x) (sym (push_none test xs x e) ∙ f)
  where
    by : (b : Bool) → cond b (Some x) None ≡ Some k → (find test xs ≡ Some k) ⊎ ((b ≡ true) × (x ≡ k))
    by true h = inr (refl, cc h)
    by false h = absurd (cc h)
split_some test xs x k (Some j) e f = inl (e ∙ sym (push_some test xs x j e) ∙ f)

grows : (test : ℕ → Bool) (m n k : ℕ) → find test (below m) ≡ Some k → m ≤ n → find test (below n) ≡ Some k
grows test zero zero k e h = absurd (cc e)
grows test (suc m) zero k e h = absurd (omega arith)
grows test m (suc n) k e h = by (cases_lt n m) (λ low. grows test m n k e low)
  where
    by : (n < m) ⊎ (m ≤ n) → (m ≤ n → find test (below n) ≡ Some k) → find test (below n ++ n ∷ []) ≡ Some k
    by (inr low) rest = push_some test (below n) n k (rest low)
    by (inl high) rest = let same : m ≡ suc n = omega arith in rw same at e

pub find_here : (test : ℕ → Bool) (n i : ℕ) → i < n → find test (below i) ≡ None → test i ≡ true → Some i ≡ find test (below n)
find_here test n i low e is = sym (grows test (suc i) n i (push_none test (below i) i e ∙ ap (λ b. cond b (Some i) None) is) (omega arith))

pub find_not : (test : ℕ → Bool) (i : ℕ) → find test (below i) ≡ None → test i ≡ false → find test (below (i + 1)) ≡ None
find_not test i e is = ap (λ n. find test (below n)) (add-one i) ∙ push_none test (below i) i e ∙ ap (λ b. cond b (Some i) None) is

pub none_found : (test : ℕ → Bool) (n : ℕ) → find test (below n) ≡ None → (p : ℕ) → p < n → test p ≡ false
none_found test zero e p h = absurd (omega (arith, h))
none_found test (suc n) e p h = by (cases_lt p n) (none_found test n (split_none test (below n) n e).0 p)
  where
    by : (p < n) ⊎ (n ≤ p) → (p < n → test p ≡ false) → test p ≡ false
    by (inl low) rest = rest low
    by (inr high) rest = let same : n ≡ p = omega arith in rw (← same) (split_none test (below n) n e).1

pub all_not : (test : ℕ → Bool) (n : ℕ) → ((p : ℕ) → p < n → test p ≡ false) → find test (below n) ≡ None
all_not test zero h = refl
all_not test (suc n) h = push_none test (below n) n (all_not test n (λ p low. h p (omega arith))) ∙ ap (λ b. cond b (Some n) None) (h n (omega arith))

pub found_is : (test : ℕ → Bool) (n k : ℕ) → find test (below n) ≡ Some k → (test k ≡ true) × (k < n)
found_is test zero k e = absurd (cc e)
found_is test (suc n) k e = by (split_some test (below n) n k (find test (below n)) refl e) (found_is test n k)
  where
    by : (find test (below n) ≡ Some k) ⊎ ((test n ≡ true) × (n ≡ k)) → (find test (below n) ≡ Some k → (test k ≡ true) × (k < n)) → (test k ≡ true) × (k < suc n)
    by (inl f) rest = ((rest f).0, let low : k < n = (rest f).1 in omega arith)
    by (inr (is, same)) rest = (rw (← same) is, omega arith)

pub found_before : (test : ℕ → Bool) (n k : ℕ) → find test (below n) ≡ Some k → (q : ℕ) → q < k → test q ≡ false
found_before test n k e q low = by (find test (below (suc q))) refl
  where
    -- what is found up to q is found first
    by : (o : Option ℕ) → find test (below (suc q)) ≡ o → test q ≡ false
    by None f = (split_none test (below q) q f).1
    by (Some j) f =
        let is = found_is test (suc q) j f in
        let same : Some j ≡ Some k = sym (grows test (suc q) n j f (omega (arith, (found_is test n k e).1))) ∙ e in
        let wrong : j ≡ k = cc same in
        absurd (omega (arith, wrong, is.1))
