-- The flags that the passes put up are those of the shown phyla.
use Rattle.std.proofs.Common.{◌≡◌, ℕ, zero, suc, ◌+◌, ◌<◌, ◌≤◌, ◌⊎◌, inl, inr, Bool, true, false, cond, List, [], ◌∷◌, length, set, get_or, replicate, Option, Some, None, slice_get, option_map, unwrap_or, refl, sym, ap, ◌∙◌, subst, arith}
use Rattle.std.specs.List.{Contains}
use Rattle.std.proofs.lemmas.Bool.{cases_lt}
use Rattle.sg_kinds.specs.Specification.{args_of}
use Rattle.sg_kinds.specs.declared.spec.Operator.{Operator}
use Rattle.sg_kinds.specs.declared.spec.Spec.{Spec}
use Rattle.sg_kinds.specs.Sound.{IsShown, root, argument}
use Rattle.sg_schemes.specs.ShownFlags.{flag, show_all, show_below, pass, passes, shown_among}
use Rattle.sg_schemes.proofs.Flags.{settled}

-- how many flags are up
trues : List Bool → ℕ
trues [] = 0
trues (true ∷ F) = suc (trues F)
trues (false ∷ F) = trues F

within : (F : List Bool) → trues F ≤ length F
unfolding trues
within [] = omega arith
within (true ∷ F) = let h : trues F ≤ length F = within F in omega (arith, h)
within (false ∷ F) = let h : trues F ≤ length F = within F in omega (arith, h)

trues_set : (F : List Bool) (k : ℕ) → trues F ≤ trues (set F k true)
unfolding trues
trues_set [] k = omega arith
trues_set (true ∷ F) zero = omega arith
trues_set (false ∷ F) zero = omega arith
trues_set (true ∷ F) (suc k) = let h : trues F ≤ trues (set F k true) = trues_set F k in omega (arith, h)
trues_set (false ∷ F) (suc k) = trues_set F k

same_set : (F : List Bool) (k : ℕ) → trues (set F k true) ≤ trues F → set F k true ≡ F
unfolding trues
same_set [] k h = refl
same_set (true ∷ F) zero h = refl
same_set (false ∷ F) zero h = absurd (omega (arith, h))
same_set (true ∷ F) (suc k) h = ap (λ (l : List Bool). true ∷ l) (same_set F k (omega (arith, h)))
same_set (false ∷ F) (suc k) h = ap (λ (l : List Bool). false ∷ l) (same_set F k h)

some_true : (F : List Bool) (k : ℕ) → k < length F → 1 ≤ trues (set F k true)
unfolding trues
some_true [] k h = absurd (omega (arith, h))
some_true (b ∷ F) zero h = omega arith
some_true (true ∷ F) (suc k) h = omega arith
some_true (false ∷ F) (suc k) h = some_true F k (omega (arith, h))

pub length_set : (F : List Bool) (k : ℕ) → length (set F k true) ≡ length F
length_set [] k = refl
length_set (b ∷ F) zero = refl
length_set (b ∷ F) (suc k) = ap suc (length_set F k)

pub length_false : (n : ℕ) → length (replicate n false) ≡ n
length_false zero = refl
length_false (suc n) = ap suc (length_false n)

-- what puts up no flag changes nothing, and then all is shown that is to be shown
AreSet : List Bool → List ℕ → Type 0
AreSet F [] = Unit {0}
AreSet F (p ∷ ps) = (set F p true ≡ F) × AreSet F ps

IsClosed : List Bool → List Operator → Type 0
IsClosed F [] = Unit {0}
IsClosed F (o ∷ ops) = (flag F o.phylum ≡ true → AreSet F o.args) × IsClosed F ops

trues_all : (F : List Bool) (ps : List ℕ) → trues F ≤ trues (show_all F ps)
trues_all F [] = omega arith
trues_all F (p ∷ ps) = let a : trues F ≤ trues (set F p true) = trues_set F p in let b : trues (set F p true) ≤ trues (show_all (set F p true) ps) = trues_all (set F p true) ps in omega (arith, a, b)

same_all : (F : List Bool) (ps : List ℕ) → trues (show_all F ps) ≤ trues F → (show_all F ps ≡ F) × AreSet F ps
unfolding AreSet
same_all F [] h = (refl, tt)
same_all F (p ∷ ps) h =
    let a : trues F ≤ trues (set F p true) = trues_set F p in
    let b : trues (set F p true) ≤ trues (show_all (set F p true) ps) = trues_all (set F p true) ps in
    let e : set F p true ≡ F = same_set F p (omega (arith, b, h)) in
    let rest = same_all (set F p true) ps (omega (arith, a, h)) in
    (rest.0 ∙ e, (e, subst (λ (l : List Bool). AreSet l ps) e rest.1))

trues_below : (F : List Bool) (o : Operator) → trues F ≤ trues (show_below F o)
trues_below F o = by (flag F o.phylum)
  where
    by : (b : Bool) → trues F ≤ trues (cond b (show_all F o.args) F)
    by true = trues_all F o.args
    by false = omega arith

same_below : (F : List Bool) (o : Operator) → trues (show_below F o) ≤ trues F → (show_below F o ≡ F) × (flag F o.phylum ≡ true → AreSet F o.args)
same_below F o = by (flag F o.phylum)
  where
    by : (b : Bool) → trues (cond b (show_all F o.args) F) ≤ trues F → (cond b (show_all F o.args) F ≡ F) × (b ≡ true → AreSet F o.args)
    by true h = let s = same_all F o.args h in (s.0, λ e. s.1)
    by false h = (refl, λ e. absurd (cc e))

trues_pass : (F : List Bool) (ops : List Operator) → trues F ≤ trues (pass F ops)
trues_pass F [] = omega arith
trues_pass F (o ∷ ops) = let a : trues F ≤ trues (show_below F o) = trues_below F o in let b : trues (show_below F o) ≤ trues (pass (show_below F o) ops) = trues_pass (show_below F o) ops in omega (arith, a, b)

same_pass : (F : List Bool) (ops : List Operator) → trues (pass F ops) ≤ trues F → (pass F ops ≡ F) × IsClosed F ops
unfolding IsClosed
same_pass F [] h = (refl, tt)
same_pass F (o ∷ ops) h =
    let a : trues F ≤ trues (show_below F o) = trues_below F o in
    let b : trues (show_below F o) ≤ trues (pass (show_below F o) ops) = trues_pass (show_below F o) ops in
    let first = same_below F o (omega (arith, b, h)) in
    let rest = same_pass (show_below F o) ops (omega (arith, a, h)) in
    (rest.0 ∙ first.0, (first.1, subst (λ (l : List Bool). IsClosed l ops) first.0 rest.1))

-- each pass puts up a flag, or the passes have come to an end
settles : (n : ℕ) (ops : List Operator) (F : List Bool) → (pass (passes n ops F) ops ≡ passes n ops F) ⊎ (trues F + n ≤ trues (passes n ops F))
unfolding passes
settles zero ops F = inr (omega arith)
settles (suc n) ops F = by (settles n ops (pass F ops)) (cases_lt (trues F) (trues (pass F ops)))
  where
    by : (pass (passes n ops (pass F ops)) ops ≡ passes n ops (pass F ops)) ⊎ (trues (pass F ops) + n ≤ trues (passes n ops (pass F ops))) → (trues F < trues (pass F ops)) ⊎ (trues (pass F ops) ≤ trues F)
        → (pass (passes n ops (pass F ops)) ops ≡ passes n ops (pass F ops)) ⊎ (trues F + suc n ≤ trues (passes n ops (pass F ops)))
    by (inl s) grew = inl s
    by (inr h) (inl more) = inr (omega (arith, h, more))
    by (inr h) (inr none) =
        let e : pass F ops ≡ F = (same_pass F ops none).0 in
        let all : passes n ops (pass F ops) ≡ F = ap (passes n ops) e ∙ settled n ops F e in
        inl (ap (λ (l : List Bool). pass l ops) all ∙ e ∙ sym all)

length_all : (F : List Bool) (ps : List ℕ) → length (show_all F ps) ≡ length F
length_all F [] = refl
length_all F (p ∷ ps) = length_all (set F p true) ps ∙ length_set F p

length_below : (F : List Bool) (o : Operator) → length (show_below F o) ≡ length F
length_below F o = by (flag F o.phylum)
  where
    by : (b : Bool) → length (cond b (show_all F o.args) F) ≡ length F
    by true = length_all F o.args
    by false = refl

length_pass : (F : List Bool) (ops : List Operator) → length (pass F ops) ≡ length F
length_pass F [] = refl
length_pass F (o ∷ ops) = length_pass (show_below F o) ops ∙ length_below F o

length_passes : (n : ℕ) (ops : List Operator) (F : List Bool) → length (passes n ops F) ≡ length F
unfolding passes
length_passes zero ops F = refl
length_passes (suc n) ops F = length_passes n ops (pass F ops) ∙ length_pass F ops

-- a flag that is up stays up
up_set : (F : List Bool) (k p : ℕ) → flag F p ≡ true → flag (set F k true) p ≡ true
up_set [] k p h = h
up_set (b ∷ F) zero zero h = refl
up_set (b ∷ F) zero (suc p) h = h
up_set (b ∷ F) (suc k) zero h = h
up_set (b ∷ F) (suc k) (suc p) h = up_set F k p h

up_all : (F : List Bool) (ps : List ℕ) (p : ℕ) → flag F p ≡ true → flag (show_all F ps) p ≡ true
up_all F [] p h = h
up_all F (q ∷ ps) p h = up_all (set F q true) ps p (up_set F q p h)

up_below : (F : List Bool) (o : Operator) (p : ℕ) → flag F p ≡ true → flag (show_below F o) p ≡ true
up_below F o p h = by (flag F o.phylum)
  where
    by : (b : Bool) → flag (cond b (show_all F o.args) F) p ≡ true
    by true = up_all F o.args p h
    by false = h

up_pass : (F : List Bool) (ops : List Operator) (p : ℕ) → flag F p ≡ true → flag (pass F ops) p ≡ true
up_pass F [] p h = h
up_pass F (o ∷ ops) p h = up_pass (show_below F o) ops p (up_below F o p h)

up_passes : (n : ℕ) (ops : List Operator) (F : List Bool) (p : ℕ) → flag F p ≡ true → flag (passes n ops F) p ≡ true
unfolding passes
up_passes zero ops F p h = h
up_passes (suc n) ops F p h = up_passes n ops (pass F ops) p (up_pass F ops p h)

up_at : (F : List Bool) (k : ℕ) → k < length F → flag (set F k true) k ≡ true
up_at [] k h = absurd (omega (arith, h))
up_at (b ∷ F) zero h = refl
up_at (b ∷ F) (suc k) h = up_at F k (omega (arith, h))

-- the flags after all passes are closed
closed : (count : ℕ) (ops : List Operator) (top : ℕ) → top < count → IsClosed (shown_among count ops top) ops
closed count ops top h = by (settles count ops (set (replicate count false) top true))
  where
    by : (pass (shown_among count ops top) ops ≡ shown_among count ops top) ⊎ (trues (set (replicate count false) top true) + count ≤ trues (shown_among count ops top)) → IsClosed (shown_among count ops top) ops
    by (inl s) = let e : trues (pass (shown_among count ops top) ops) ≡ trues (shown_among count ops top) = ap trues s in (same_pass (shown_among count ops top) ops (omega (arith, e))).1
    by (inr many) =
        let l : length (replicate count false) ≡ count = length_false count in
        let one : 1 ≤ trues (set (replicate count false) top true) = some_true (replicate count false) top (omega (arith, l, h)) in
        let all : trues (shown_among count ops top) ≤ length (shown_among count ops top) = within (shown_among count ops top) in
        let n : length (shown_among count ops top) ≡ count = length_passes count ops (set (replicate count false) top true) ∙ length_set (replicate count false) top ∙ l in
        absurd (omega (arith, one, all, n, many))

-- a flag that is up and was not is the one that was put up
set_was : (F : List Bool) (k p : ℕ) → flag (set F k true) p ≡ true → (flag F p ≡ true) ⊎ (k ≡ p)
set_was [] k p h = inl h
set_was (b ∷ F) zero zero h = inr refl
set_was (b ∷ F) zero (suc p) h = inl h
set_was (b ∷ F) (suc k) zero h = inl h
set_was (b ∷ F) (suc k) (suc p) h = by (set_was F k p h)
  where
    by : (flag F p ≡ true) ⊎ (k ≡ p) → (flag F p ≡ true) ⊎ (suc k ≡ suc p)
    by (inl f) = inl f
    by (inr e) = inr (ap suc e)

-- each flag is that of a shown phylum
module _ (spec : Spec) where
  AreShown : List Bool → Type 0
  AreShown F = (p : ℕ) → flag F p ≡ true → IsShown spec p

  Each : List ℕ → Type 0
  Each [] = Unit {0}
  Each (q ∷ qs) = IsShown spec q × Each qs

  Show : List Operator → Type 0
  Show [] = Unit {0}
  Show (o ∷ ops) = (IsShown spec o.phylum → Each o.args) × Show ops

  shown_set : (F : List Bool) (k : ℕ) → AreShown F → IsShown spec k → AreShown (set F k true)
  unfolding AreShown
  shown_set F k are is p h = by (set_was F k p h)
    where
      by : (flag F p ≡ true) ⊎ (k ≡ p) → IsShown spec p
      by (inl f) = are p f
      by (inr e) = subst (IsShown spec) e is

  shown_all : (F : List Bool) (ps : List ℕ) → AreShown F → Each ps → AreShown (show_all F ps)
  unfolding Each
  shown_all F [] are each = are
  shown_all F (p ∷ ps) are each = shown_all (set F p true) ps (shown_set F p are each.0) each.1

  shown_below : (F : List Bool) (o : Operator) → AreShown F → (IsShown spec o.phylum → Each o.args) → AreShown (show_below F o)
  unfolding AreShown
  shown_below F o are shows = by (flag F o.phylum) (are o.phylum)
    where
      by : (b : Bool) → (b ≡ true → IsShown spec o.phylum) → AreShown (cond b (show_all F o.args) F)
      by true is = shown_all F o.args are (shows (is refl))
      by false is = are

  shown_pass : (F : List Bool) (ops : List Operator) → AreShown F → Show ops → AreShown (pass F ops)
  unfolding Show
  shown_pass F [] are show = are
  shown_pass F (o ∷ ops) are show = shown_pass (show_below F o) ops (shown_below F o are show.0) show.1

  shown_passes : (n : ℕ) (ops : List Operator) (F : List Bool) → AreShown F → Show ops → AreShown (passes n ops F)
  unfolding passes
  shown_passes zero ops F are show = are
  shown_passes (suc n) ops F are show = shown_passes n ops (pass F ops) (shown_pass F ops are show) show

  each_of : (qs : List ℕ) → ((q : ℕ) → Contains qs q → IsShown spec q) → Each qs
  unfolding Each
  each_of [] f = tt
  each_of (q ∷ qs) f = (f q (0, omega arith, refl), each_of qs (λ r c. f r (suc c.0, (let low : c.0 < length qs = c.1 in omega (arith, low)), c.2)))

  show_from : (k : ℕ) (ops : List Operator) → ((j : ℕ) (o : Operator) → slice_get ops j ≡ Some o → slice_get spec.ops (k + j) ≡ Some o) → Show ops
  unfolding Show
  show_from k [] at = tt
  show_from k (o ∷ ops) at = ((λ is. each_of o.args (λ q c. shows is q c)), show_from (suc k) ops (λ j x e. let n : suc k + j ≡ k + suc j = omega arith in ap (slice_get spec.ops) n ∙ at (suc j) x e))
    where
      here : slice_get spec.ops (k + 0) ≡ Some o
      here = at 0 o refl

      shows : IsShown spec o.phylum → (q : ℕ) → Contains o.args q → IsShown spec q
      shows is q c =
          argument (k + 0) o.phylum q (ap (option_map (λ (x : Operator). x.phylum)) (at 0 o refl)) is
          (subst (λ (l : List ℕ). Contains l q) (sym (ap (λ (x : Option Operator). unwrap_or (option_map (λ (x : Operator). x.args) x) []) (at 0 o refl))) c)

  none_up : (n p : ℕ) → flag (replicate n false) p ≡ true → ⊥
  none_up zero p h = cc h
  none_up (suc n) zero h = cc h
  none_up (suc n) (suc p) h = none_up n p h

  pub only_shown : (count p : ℕ) → flag (shown_among count spec.ops spec.root) p ≡ true → IsShown spec p
  unfolding AreShown
  only_shown count p h =
      shown_passes count spec.ops (set (replicate count false) spec.root true)
      (shown_set (replicate count false) spec.root (λ q f. absurd (none_up count q f)) root)
      (show_from 0 spec.ops (λ j o e. let n : 0 + j ≡ j = omega arith in ap (slice_get spec.ops) n ∙ e)) p h

-- each shown phylum has its flag
set_at : (F : List Bool) (ps : List ℕ) (k q : ℕ) → AreSet F ps → k < length ps → get_or ps k q ≡ q → set F q true ≡ F
unfolding AreSet
set_at F [] k q are low is = absurd (omega (arith, low))
set_at F (p ∷ ps) zero q are low is = ap (λ n. set F n true) (sym is) ∙ are.0
set_at F (p ∷ ps) (suc k) q are low is = set_at F ps k q are.1 (omega (arith, low)) is

closed_at : (F : List Bool) (ops : List Operator) (k : ℕ) (o : Operator) → IsClosed F ops → slice_get ops k ≡ Some o → flag F o.phylum ≡ true → AreSet F o.args
unfolding IsClosed
closed_at F [] k o all is up = absurd (cc is)
closed_at F (x ∷ ops) zero o all is up = let e : x ≡ o = cc is in subst (λ (y : Operator). AreSet F y.args) e (all.0 (subst (λ (y : Operator). flag F y.phylum ≡ true) (sym e) up))
closed_at F (x ∷ ops) (suc k) o all is up = closed_at F ops k o all.1 is up

pub all_shown : (spec : Spec) (count : ℕ) → spec.root < count → ((op q : ℕ) → Contains (args_of spec.ops op) q → q < count) → {p : ℕ} → IsShown spec p → flag (shown_among count spec.ops spec.root) p ≡ true
all_shown spec count low inside root =
    let l : length (replicate count false) ≡ count = length_false count in
    up_passes count spec.ops (set (replicate count false) spec.root true) spec.root (up_at (replicate count false) spec.root (omega (arith, l, low)))
all_shown spec count low inside (argument op p q is shown contains) = by (slice_get spec.ops op) refl is contains (all_shown spec count low inside shown) (inside op q contains)
  where
    by : (o : Option Operator) → slice_get spec.ops op ≡ o → option_map (λ (x : Operator). x.phylum) o ≡ Some p → Contains (unwrap_or (option_map (λ (x : Operator). x.args) o) []) q
        → flag (shown_among count spec.ops spec.root) p ≡ true → q < count → flag (shown_among count spec.ops spec.root) q ≡ true
    by None at e c up there = absurd (cc e)
    by (Some o) at e c up there =
        let phylum : o.phylum ≡ p = cc e in
        let all = closed_at (shown_among count spec.ops spec.root) spec.ops op o (closed count spec.ops spec.root low) at (subst (λ n. flag (shown_among count spec.ops spec.root) n ≡ true) (sym phylum) up) in
        let same : set (shown_among count spec.ops spec.root) q true ≡ shown_among count spec.ops spec.root = set_at (shown_among count spec.ops spec.root) o.args c.0 q all c.1 c.2 in
        let long : length (shown_among count spec.ops spec.root) ≡ count = length_passes count spec.ops (set (replicate count false) spec.root true) ∙ length_set (replicate count false) spec.root ∙ length_false count in
        ap (λ (l : List Bool). flag l q) (sym same) ∙ up_at (shown_among count spec.ops spec.root) q (omega (arith, long, there))
