-- Lemmas on what is known of symbols.
use Rattle.std.proofs.Common.{◌≡◌, ℕ, zero, suc, ◌+◌, ◌-◌, ◌<◌, ◌≤◌, min, inl, inr, List, [], ◌∷◌, ◌++◌, length, length-append, get_or, set, length-set, refl, sym, ap, subst, ◌∙◌, arith, Some}
use Rattle.std.specs.Prelude.{All, slice_get}
use Rattle.std.proofs.lemmas.Bool.{cases_eq, cases_lt}
use Rattle.std.proofs.Math.Nat.{sub_self}
use Rattle.std.proofs.lemmas.List.{get_or-set_same, get_or-set_other, get_or_past, get_or_append_left, get_or-append_right}
use Rattle.std.proofs.lemmas.List.Elements.{All-nil, All-cons, All-head, All-tail}
use Rattle.std.proofs.lemmas.List.Sums.{sum_by-cons}
use Rattle.std.proofs.lemmas.Option.{get_or_from_slice_get, slice_get_within, slice_get-get_or}
use Rattle.sg_grammar.specs.Grammar.{Grammar}
use Rattle.sg_grammar.specs.declared.grammar.Production.{Production}
use Rattle.sg_grammar.specs.WellFormed.{IsWellFormed, IsRule}
use Rattle.sg_grammar.specs.Derives.{Token, Derives, plain}
use Rattle.sg_grammar.specs.Derives as derives
use Rattle.sg_samples.specs.Expands.Expands.{nothing, stays}
use Rattle.sg_samples.specs.Table.{Sample, sample_at, Has, size, size_at, total, IsKnown, AreKnown, IsSettled, IsTable}
use Rattle.sg_samples.specs.declared.table.Sample.TheVariants.{Unknown, Long, Short}
use Rattle.sg_samples.proofs.Derived.{DerivesSome, derive_both, derive_under, expand_under, terminals_derived}

-- what is known of a string that it derives
known_derives : (g : Grammar) (Xs : List ℕ) (s : Sample) → IsKnown g Xs s → (s ≡ Unknown → ⊥) → DerivesSome g Xs
known_derives g Xs Unknown k some = absurd (some refl)
known_derives g Xs Long k some = k
known_derives g Xs (Short v) k some = let d = terminals_derived g Xs v k.0 k.1 in (d.0, d.2)

pub has_derives : (g : Grammar) (T : List Sample) → AreKnown g T → (X : ℕ) → Has T X → DerivesSome g (X ∷ [])
has_derives g T known X has = known_derives g (X ∷ []) (sample_at T X) (known.each X) has

pub all_derive : (g : Grammar) (T : List Sample) → AreKnown g T → (Xs : List ℕ) → All (Has T) Xs → DerivesSome g Xs
all_derive g T known [] has = ([], ([], 0, derives.nothing))
all_derive g T known (X ∷ Xs) has =
    derive_both g X Xs (has_derives g T known X (All-head (Has T) X Xs has)) (all_derive g T known Xs (All-tail (Has T) X Xs has))

-- a left side is known as its right side is
known_under : (g : Grammar) (p : ℕ) (r : Production) → slice_get g.rules p ≡ Some r → (s : Sample) → IsKnown g r.right s → IsKnown g (r.left ∷ []) s
known_under g p r is Unknown k = tt
known_under g p r is Long k = derive_under g p r is k
known_under g p r is (Short v) k = (expand_under g p r v is k.0, k.1, k.2)

pub known_set : (g : Grammar) (T : List Sample) (p : ℕ) (r : Production) (s : Sample) → slice_get g.rules p ≡ Some r → g.terminals ≤ r.left → r.left < g.symbols → AreKnown g T → IsKnown g r.right s → AreKnown g (set T r.left s)
known_set g T p r s is low high known k = record {
  count = length-set T r.left s ∙ known.count;
  each = each;
  terminals = λ X l. get_or-set_other T r.left X s Unknown (apart X l) ∙ known.terminals X l;
}
  where
    apart : (X : ℕ) → X < g.terminals → X ≡ r.left → ⊥
    apart X l e = omega arith

    each : (X : ℕ) → IsKnown g (X ∷ []) (sample_at (set T r.left s) X)
    each X = elim (cases_eq X r.left) [
      | inl same ↦ subst (λ Y. IsKnown g (Y ∷ []) (sample_at (set T r.left s) Y)) (sym same)
          (subst (IsKnown g (r.left ∷ [])) (sym (get_or-set_same T r.left s Unknown (subst (λ n. r.left < n) (sym known.count) high))) (known_under g p r is s k))
      | inr other ↦ subst (IsKnown g (X ∷ [])) (sym (get_or-set_other T r.left X s Unknown other)) (known.each X)
    ]

-- one production more of a round
pub left_within : (g : Grammar) → IsWellFormed g → (rules : List Production) (n : ℕ) (r : Production) → rules ≡ g.rules → n < length rules → r ≡ get_or rules n r
    → (slice_get g.rules n ≡ Some r) × (g.terminals ≤ r.left) × (r.left < g.symbols)
left_within g formed rules n r all low is =
    let within : n < length g.rules = subst (λ rs. n < length rs) all low in
    let here = subst (λ rs. r ≡ get_or rs n r) all is in
    let rule = subst (IsRule (suc (length g.entries)) g.terminals g.symbols) (sym here) (formed.rules n r within) in
    (slice_get-get_or g.rules n r within ∙ ap Some (sym here), rule.0, rule.1)

pub known_more : (g : Grammar) → IsWellFormed g → (T : List Sample) (rules : List Production) (n : ℕ) (r : Production) (s : Sample) → rules ≡ g.rules → n < length rules → r ≡ get_or rules n r → AreKnown g T → IsKnown g r.right s → AreKnown g (set T r.left s)
known_more g formed T rules n r s all low is known k =
    let left = left_within g formed rules n r all low is in
    known_set g T n r s left.0 left.1 left.2 known k

-- the terminals below a bound have samples, and nothing else has
pub record AreFirst (T : List Sample) (n : ℕ) : Type 0 where
  pub low : (X : ℕ) → X < n → sample_at T X ≡ Short (X ∷ [])
  pub high : (X : ℕ) → n ≤ X → sample_at T X ≡ Unknown

pub no_first : AreFirst [] 0
no_first = record { low = λ X l. absurd (omega (arith, l)); high = λ X l. refl }

pub first_more : (T : List Sample) (n : ℕ) → length T ≡ n → AreFirst T n → AreFirst (T ++ Short (n ∷ []) ∷ []) (n + 1)
first_more T n count first = record { low = low; high = high }
  where
    low : (X : ℕ) → X < n + 1 → sample_at (T ++ Short (n ∷ []) ∷ []) X ≡ Short (X ∷ [])
    low X l = elim (cases_eq X n) [
      | inl same ↦ rw same (get_or-append_right T (Short (n ∷ []) ∷ []) n n Unknown count (omega arith) ∙ rw (sub_self n) refl)
      | inr apart ↦ let below : X < length T = omega (arith, apart) in get_or_append_left T (Short (n ∷ []) ∷ []) Unknown X below ∙ first.low X (omega (arith, apart))
    ]

    high : (X : ℕ) → n + 1 ≤ X → sample_at (T ++ Short (n ∷ []) ∷ []) X ≡ Unknown
    high X l = get_or_past (T ++ Short (n ∷ []) ∷ []) X Unknown (omega (arith, length-append T (Short (n ∷ []) ∷ [])))

pub first_unknown : (T : List Sample) (n : ℕ) → AreFirst T n → AreFirst (T ++ Unknown ∷ []) n
first_unknown T n first = record { low = λ X l. same X ∙ first.low X l; high = λ X l. same X ∙ first.high X l }
  where
    past : (k : ℕ) → get_or (Unknown ∷ []) k Unknown ≡ Unknown
    past zero = refl
    past (suc k) = refl

    same : (X : ℕ) → sample_at (T ++ Unknown ∷ []) X ≡ sample_at T X
    same X = elim (cases_lt X (length T)) [
      | inl l ↦ get_or_append_left T (Unknown ∷ []) Unknown X l
      | inr l ↦ get_or-append_right T (Unknown ∷ []) (length T) X Unknown refl l ∙ past (X - length T) ∙ sym (get_or_past T X Unknown l)
    ]

-- the next symbol, with a sample where it is a terminal
pub first_step : (T : List Sample) (n bound : ℕ) (s : Sample) → length T ≡ n → AreFirst T (min n bound) → (n < bound → s ≡ Short (n ∷ [])) → (bound ≤ n → s ≡ Unknown) → AreFirst (T ++ s ∷ []) (min (n + 1) bound)
first_step T n bound s count first below above = elim (cases_lt n bound) [
  | inl l ↦ let a : min n bound ≡ n = omega arith in let b : min (n + 1) bound ≡ n + 1 = omega arith in
      rw (b, below l) (first_more T n count (subst (AreFirst T) a first))
  | inr l ↦ let a : min n bound ≡ bound = omega arith in let b : min (n + 1) bound ≡ bound = omega arith in
      rw (b, above l) (first_unknown T bound (subst (AreFirst T) a first))
]

pub first_known : (g : Grammar) (T : List Sample) → length T ≡ g.symbols → AreFirst T g.terminals → AreKnown g T
first_known g T count first = record { count = count; each = each; terminals = first.low }
  where
    each : (X : ℕ) → IsKnown g (X ∷ []) (sample_at T X)
    each X = elim (cases_lt X g.terminals) [
      | inl l ↦ subst (IsKnown g (X ∷ [])) (sym (first.low X l)) (stays X [] [] nothing, All-cons (λ Y. Y < g.terminals) X [] l (All-nil (λ Y. Y < g.terminals)), omega arith)
      | inr l ↦ subst (IsKnown g (X ∷ [])) (sym (first.high X l)) tt
    ]

-- what a string derives is no shorter than its samples together
pub record IsLower (T : List Sample) (Xs : List ℕ) (n : ℕ) : Type 0 where
  pub has : All (Has T) Xs
  pub least : total T Xs ≤ n

one_lower : (T : List Sample) (X : ℕ) (Xs : List ℕ) (m n k : ℕ) → Has T X → size_at T X ≤ m → IsLower T Xs n → k ≡ m + n → IsLower T (X ∷ Xs) k
one_lower T X Xs m n k has le rest e = record {
  has = All-cons (Has T) X Xs has rest.has;
  least = let l = rest.least in omega (arith, sum_by-cons (size_at T) X Xs);
}

pub lower : (g : Grammar) (T : List Sample) → IsTable g T → (Xs : List ℕ) (ts : List Token) (vs : List (Unit {0})) (n : ℕ) → Derives g plain Xs ts vs n → IsLower T Xs (length ts)
lower g T table _ _ _ _ derives.nothing = record { has = All-nil (Has T); least = omega arith }
lower g T table _ _ _ _ (derives.token x X Xs ts vs n l e d) =
    let is = table.known.terminals X l in
    one_lower T X Xs 1 (length ts) (suc (length ts)) (λ u. cc) (let s = ap size is in omega arith) (lower g T table Xs ts vs n d) (omega arith)
lower g T table _ _ _ _ (derives.under p r X Xs us ts all ws vs m n k is same sides rest joined f) =
    let inner = lower g T table r.right us ws m sides in
    let settled : IsSettled T r = subst (IsSettled T) (get_or_from_slice_get g.rules p r r is) (table.settled p r (slice_get_within g.rules p r is)) in
    let left = settled inner.has in
    let size-le : size_at T r.left ≤ length us = let a = left.1 in let b = inner.least in omega arith in
    one_lower T X Xs (length us) (length ts) (length all) (subst (Has T) (sym same) left.0) (subst (λ Y. size_at T Y ≤ length us) (sym same) size-le)
    (lower g T table Xs ts vs n rest) (ap length joined ∙ length-append us ts)
