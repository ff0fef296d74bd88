-- The flags that the passes put up are those of the numbers that are reached.
use Rattle.std.proofs.Common.{◌≡◌, ℕ, zero, suc, ◌+◌, ◌-◌, ◌<◌, ◌≤◌, ◌⊎◌, inl, inr, Bool, true, false, cond, List, [], ◌∷◌, ◌++◌, length, set, get_or, replicate, reverse, refl, sym, ap, ◌∙◌, subst, arith}
use Rattle.std.specs.Prelude.{max}
use Rattle.std.specs.List.{Contains}
use Rattle.std.proofs.Math.Nat.{le-max_left, le-max_right}
use Rattle.std.proofs.lemmas.Bool.{cases_lt}
use Rattle.std.proofs.lemmas.List.{get_or-reverse, length-reverse}
use Rattle.std.proofs.lemmas.List.Elements.{Contains-append_left, Contains-append_cases}
use Rattle.sg_remote.specs.Reach.{Reached, start, along, flag, put_all, follow, pass, passes, past, past_edges, width, reached}
use Rattle.sg_remote.specs.declared.reach.Edge.{Edge}
use Rattle.sg_remote.proofs.Flags.{settled}

-- how many flags are up
trues : List Bool → ℕ
trues [] = 0
trues (true ∷ F) = suc (trues F)
trues (false ∷ F) = trues F

within : (F : List Bool) → trues F ≤ length F
unfolding trues
within [] = omega arith
within (true ∷ F) = let h : trues F ≤ length F = within F in omega (arith, h)
within (false ∷ F) = let h : trues F ≤ length F = within F in omega (arith, h)

trues_set : (F : List Bool) (k : ℕ) → trues F ≤ trues (set F k true)
unfolding trues
trues_set [] k = omega arith
trues_set (true ∷ F) zero = omega arith
trues_set (false ∷ F) zero = omega arith
trues_set (true ∷ F) (suc k) = let h : trues F ≤ trues (set F k true) = trues_set F k in omega (arith, h)
trues_set (false ∷ F) (suc k) = trues_set F k

same_set : (F : List Bool) (k : ℕ) → trues (set F k true) ≤ trues F → set F k true ≡ F
unfolding trues
same_set [] k h = refl
same_set (true ∷ F) zero h = refl
same_set (false ∷ F) zero h = absurd (omega (arith, h))
same_set (true ∷ F) (suc k) h = ap (λ (l : List Bool). true ∷ l) (same_set F k (omega (arith, h)))
same_set (false ∷ F) (suc k) h = ap (λ (l : List Bool). false ∷ l) (same_set F k h)

length_set : (F : List Bool) (k : ℕ) → length (set F k true) ≡ length F
length_set [] k = refl
length_set (b ∷ F) zero = refl
length_set (b ∷ F) (suc k) = ap suc (length_set F k)

length_false : (n : ℕ) → length (replicate n false) ≡ n
length_false zero = refl
length_false (suc n) = ap suc (length_false n)

-- what puts up no flag changes nothing, and then all is put up that is to be
IsClosed : List Bool → List Edge → Type 0
IsClosed F [] = Unit {0}
IsClosed F (e ∷ es) = (flag F e.from ≡ true → set F e.to true ≡ F) × IsClosed F es

trues_follow : (F : List Bool) (e : Edge) → trues F ≤ trues (follow F e)
trues_follow F e = by (flag F e.from)
  where
    by : (b : Bool) → trues F ≤ trues (cond b (set F e.to true) F)
    by true = trues_set F e.to
    by false = omega arith

same_follow : (F : List Bool) (e : Edge) → trues (follow F e) ≤ trues F → (follow F e ≡ F) × (flag F e.from ≡ true → set F e.to true ≡ F)
same_follow F e = by (flag F e.from)
  where
    by : (b : Bool) → trues (cond b (set F e.to true) F) ≤ trues F → (cond b (set F e.to true) F ≡ F) × (b ≡ true → set F e.to true ≡ F)
    by true h = let s = same_set F e.to h in (s, λ is. s)
    by false h = (refl, λ is. absurd (cc is))

trues_pass : (F : List Bool) (es : List Edge) → trues F ≤ trues (pass F es)
trues_pass F [] = omega arith
trues_pass F (e ∷ es) = let a : trues F ≤ trues (follow F e) = trues_follow F e in let b : trues (follow F e) ≤ trues (pass (follow F e) es) = trues_pass (follow F e) es in omega (arith, a, b)

same_pass : (F : List Bool) (es : List Edge) → trues (pass F es) ≤ trues F → (pass F es ≡ F) × IsClosed F es
unfolding IsClosed
same_pass F [] h = (refl, tt)
same_pass F (e ∷ es) h =
    let a : trues F ≤ trues (follow F e) = trues_follow F e in
    let b : trues (follow F e) ≤ trues (pass (follow F e) es) = trues_pass (follow F e) es in
    let first = same_follow F e (omega (arith, b, h)) in
    let rest = same_pass (follow F e) es (omega (arith, a, h)) in
    (rest.0 ∙ first.0, (first.1, subst (λ (l : List Bool). IsClosed l es) first.0 rest.1))

-- each pass puts up a flag, or the passes have come to an end
settles : (n : ℕ) (es : List Edge) (F : List Bool) → (pass (passes n es F) es ≡ passes n es F) ⊎ (trues F + n ≤ trues (passes n es F))
unfolding passes
settles zero es F = inr (omega arith)
settles (suc n) es F = by (settles n es (pass F es)) (cases_lt (trues F) (trues (pass F es)))
  where
    by : (pass (passes n es (pass F es)) es ≡ passes n es (pass F es)) ⊎ (trues (pass F es) + n ≤ trues (passes n es (pass F es))) → (trues F < trues (pass F es)) ⊎ (trues (pass F es) ≤ trues F)
        → (pass (passes n es (pass F es)) es ≡ passes n es (pass F es)) ⊎ (trues F + suc n ≤ trues (passes n es (pass F es)))
    by (inl s) grew = inl s
    by (inr h) (inl more) = inr (omega (arith, h, more))
    by (inr h) (inr none) =
        let e : pass F es ≡ F = (same_pass F es none).0 in
        let all : passes n es (pass F es) ≡ F = ap (passes n es) e ∙ settled n es F e in
        inl (ap (λ (l : List Bool). pass l es) all ∙ e ∙ sym all)

length_put : (F : List Bool) (ks : List ℕ) → length (put_all F ks) ≡ length F
length_put F [] = refl
length_put F (k ∷ ks) = length_put (set F k true) ks ∙ length_set F k

length_follow : (F : List Bool) (e : Edge) → length (follow F e) ≡ length F
length_follow F e = by (flag F e.from)
  where
    by : (b : Bool) → length (cond b (set F e.to true) F) ≡ length F
    by true = length_set F e.to
    by false = refl

length_pass : (F : List Bool) (es : List Edge) → length (pass F es) ≡ length F
length_pass F [] = refl
length_pass F (e ∷ es) = length_pass (follow F e) es ∙ length_follow F e

length_passes : (n : ℕ) (es : List Edge) (F : List Bool) → length (passes n es F) ≡ length F
unfolding passes
length_passes zero es F = refl
length_passes (suc n) es F = length_passes n es (pass F es) ∙ length_pass F es

-- a flag that is up stays up
up_set : (F : List Bool) (k p : ℕ) → flag F p ≡ true → flag (set F k true) p ≡ true
up_set [] k p h = h
up_set (b ∷ F) zero zero h = refl
up_set (b ∷ F) zero (suc p) h = h
up_set (b ∷ F) (suc k) zero h = h
up_set (b ∷ F) (suc k) (suc p) h = up_set F k p h

up_put : (F : List Bool) (ks : List ℕ) (p : ℕ) → flag F p ≡ true → flag (put_all F ks) p ≡ true
up_put F [] p h = h
up_put F (k ∷ ks) p h = up_put (set F k true) ks p (up_set F k p h)

up_follow : (F : List Bool) (e : Edge) (p : ℕ) → flag F p ≡ true → flag (follow F e) p ≡ true
up_follow F e p h = by (flag F e.from)
  where
    by : (b : Bool) → flag (cond b (set F e.to true) F) p ≡ true
    by true = up_set F e.to p h
    by false = h

up_pass : (F : List Bool) (es : List Edge) (p : ℕ) → flag F p ≡ true → flag (pass F es) p ≡ true
up_pass F [] p h = h
up_pass F (e ∷ es) p h = up_pass (follow F e) es p (up_follow F e p h)

up_passes : (n : ℕ) (es : List Edge) (F : List Bool) (p : ℕ) → flag F p ≡ true → flag (passes n es F) p ≡ true
unfolding passes
up_passes zero es F p h = h
up_passes (suc n) es F p h = up_passes n es (pass F es) p (up_pass F es p h)

up_at : (F : List Bool) (k : ℕ) → k < length F → flag (set F k true) k ≡ true
up_at [] k h = absurd (omega (arith, h))
up_at (b ∷ F) zero h = refl
up_at (b ∷ F) (suc k) h = up_at F k (omega (arith, h))

put_up : (F : List Bool) (ks : List ℕ) (i p : ℕ) → i < length ks → get_or ks i p ≡ p → p < length F → flag (put_all F ks) p ≡ true
put_up F [] i p low is short = absurd (omega (arith, low))
put_up F (k ∷ ks) zero p low is short = up_put (set F k true) ks p (subst (λ n. flag (set F n true) p ≡ true) (sym is) (up_at F p short))
put_up F (k ∷ ks) (suc i) p low is short = put_up (set F k true) ks i p (omega (arith, low)) is (let l = length_set F k in omega (arith, l, short))

-- a flag that is up and was not is the one that was put up
set_was : (F : List Bool) (k p : ℕ) → flag (set F k true) p ≡ true → (flag F p ≡ true) ⊎ (k ≡ p)
set_was [] k p h = inl h
set_was (b ∷ F) zero zero h = inr refl
set_was (b ∷ F) zero (suc p) h = inl h
set_was (b ∷ F) (suc k) zero h = inl h
set_was (b ∷ F) (suc k) (suc p) h = by (set_was F k p h)
  where
    by : (flag F p ≡ true) ⊎ (k ≡ p) → (flag F p ≡ true) ⊎ (suc k ≡ suc p)
    by (inl f) = inl f
    by (inr e) = inr (ap suc e)

none_up : (n p : ℕ) → flag (replicate n false) p ≡ true → ⊥
none_up zero p h = cc h
none_up (suc n) zero h = cc h
none_up (suc n) (suc p) h = none_up n p h

closed_at : (F : List Bool) (es : List Edge) (i : ℕ) (e : Edge) → IsClosed F es → i < length es → get_or es i e ≡ e → flag F e.from ≡ true → set F e.to true ≡ F
unfolding IsClosed
closed_at F [] i e all low is = absurd (omega (arith, low))
closed_at F (x ∷ es) zero e all low is = subst (λ (y : Edge). flag F y.from ≡ true → set F y.to true ≡ F) is all.0
closed_at F (x ∷ es) (suc i) e all low is = closed_at F es i e all.1 (omega (arith, low)) is

-- starts and ends have flags
past_in : (ks : List ℕ) (i p : ℕ) → i < length ks → get_or ks i p ≡ p → p < past ks
past_in [] i p low is = absurd (omega (arith, low))
past_in (k ∷ ks) zero p low is = let a : suc k ≤ max (suc k) (past ks) = le-max_left (suc k) (past ks) in omega (arith, is, a)
past_in (k ∷ ks) (suc i) p low is = let a : past ks ≤ max (suc k) (past ks) = le-max_right (suc k) (past ks) in let b : p < past ks = past_in ks i p (omega (arith, low)) is in omega (arith, a, b)

past_end : (es : List Edge) (i : ℕ) (e : Edge) → i < length es → get_or es i e ≡ e → e.to < past_edges es
past_end [] i e low is = absurd (omega (arith, low))
past_end (x ∷ es) zero e low is = let a : suc x.to ≤ max (suc x.to) (past_edges es) = le-max_left (suc x.to) (past_edges es) in let same : x.to ≡ e.to = ap (λ (y : Edge). y.to) is in omega (arith, same, a)
past_end (x ∷ es) (suc i) e low is = let a : past_edges es ≤ max (suc x.to) (past_edges es) = le-max_right (suc x.to) (past_edges es) in let b : e.to < past_edges es = past_end es i e (omega (arith, low)) is in omega (arith, a, b)

back : {X : Type 0} (xs : List X) (x : X) → Contains (reverse xs) x → Contains xs x
back xs x (i, low, is) =
    let l : length (reverse xs) ≡ length xs = length-reverse xs in
    (length xs - 1 - i, omega (arith, l, low), sym (get_or-reverse xs i x (omega (arith, l, low))) ∙ is)

there_or_back : {X : Type 0} (xs : List X) (x : X) → Contains (xs ++ reverse xs) x → Contains xs x
there_or_back xs x c = elim (Contains-append_cases xs (reverse xs) x c) [ inl here ↦ here | inr there ↦ back xs x there ]

module _ (starts : List ℕ) (edges : List Edge) where
  abbrev first : List Bool
  first = put_all (replicate (width starts edges) false) starts

  abbrev both : List Edge
  both = edges ++ reverse edges

  -- each flag is that of a number that is reached
  AreReached : List Bool → Type 0
  AreReached F = (p : ℕ) → flag F p ≡ true → Reached starts edges p

  reached_set : (F : List Bool) (k : ℕ) → AreReached F → Reached starts edges k → AreReached (set F k true)
  unfolding AreReached
  reached_set F k are is p h = by (set_was F k p h)
    where
      by : (flag F p ≡ true) ⊎ (k ≡ p) → Reached starts edges p
      by (inl f) = are p f
      by (inr e) = subst (Reached starts edges) e is

  reached_put : (F : List Bool) (ks : List ℕ) → AreReached F → ((k : ℕ) → Contains ks k → Contains starts k) → AreReached (put_all F ks)
  reached_put F [] are some = are
  reached_put F (k ∷ ks) are some =
      reached_put (set F k true) ks (reached_set F k are (start k (some k (0, omega arith, refl)))) (λ q c. some q (suc c.0, (let low = c.1 in omega (arith, low)), c.2))

  reached_follow : (F : List Bool) (e : Edge) → AreReached F → Contains edges e → AreReached (follow F e)
  unfolding AreReached
  reached_follow F e are there = by (flag F e.from) (are e.from)
    where
      by : (b : Bool) → (b ≡ true → Reached starts edges e.from) → AreReached (cond b (set F e.to true) F)
      by true from = reached_set F e.to are (along e e.to there refl (from refl))
      by false from = are

  reached_pass : (F : List Bool) (es : List Edge) → AreReached F → ((e : Edge) → Contains es e → Contains edges e) → AreReached (pass F es)
  reached_pass F [] are some = are
  reached_pass F (e ∷ es) are some =
      reached_pass (follow F e) es (reached_follow F e are (some e (0, omega arith, refl))) (λ x c. some x (suc c.0, (let low = c.1 in omega (arith, low)), c.2))

  reached_passes : (n : ℕ) (F : List Bool) → AreReached F → AreReached (passes n both F)
  unfolding passes
  reached_passes zero F are = are
  reached_passes (suc n) F are = reached_passes n (pass F both) (reached_pass F both are (λ e c. there_or_back edges e c))

  pub only_reached : (p : ℕ) → flag (reached starts edges) p ≡ true → Reached starts edges p
  unfolding AreReached
  only_reached p h =
      reached_passes (suc (width starts edges)) first
      (reached_put (replicate (width starts edges) false) starts (λ q f. absurd (none_up (width starts edges) q f)) (λ k c. c)) p h

  long : length (reached starts edges) ≡ width starts edges
  long = length_passes (suc (width starts edges)) both first ∙ length_put (replicate (width starts edges) false) starts ∙ length_false (width starts edges)

  closed : IsClosed (reached starts edges) both
  closed = by (settles (suc (width starts edges)) both first)
    where
      by : (pass (reached starts edges) both ≡ reached starts edges) ⊎ (trues first + suc (width starts edges) ≤ trues (reached starts edges)) → IsClosed (reached starts edges) both
      by (inl s) = let e : trues (pass (reached starts edges) both) ≡ trues (reached starts edges) = ap trues s in (same_pass (reached starts edges) both (omega (arith, e))).1
      by (inr many) = absurd (let all = within (reached starts edges) in let n = long in omega (arith, all, n, many))

  -- each number that is reached has its flag
  pub all_reached : {p : ℕ} → Reached starts edges p → flag (reached starts edges) p ≡ true
  all_reached (start p c) =
      let a : past starts ≤ max (past starts) (past_edges edges) = le-max_left (past starts) (past_edges edges) in
      let b : p < past starts = past_in starts c.0 p c.1 c.2 in
      let l = length_false (width starts edges) in
      up_passes (suc (width starts edges)) both first p (put_up (replicate (width starts edges) false) starts c.0 p c.1 c.2 (omega (arith, l, a, b)))
  all_reached (along e p c is from) =
      let whole = Contains-append_left edges (reverse edges) e c in
      let same : set (reached starts edges) e.to true ≡ reached starts edges = closed_at (reached starts edges) both whole.0 e closed whole.1 whole.2 (all_reached from) in
      let a : past_edges edges ≤ max (past starts) (past_edges edges) = le-max_right (past starts) (past_edges edges) in
      let b : e.to < past_edges edges = past_end edges c.0 e c.1 c.2 in
      let l = long in
      subst (λ q. flag (reached starts edges) q ≡ true) is (ap (λ (F : List Bool). flag F e.to) (sym same) ∙ up_at (reached starts edges) e.to (omega (arith, l, a, b)))
