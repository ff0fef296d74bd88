-- The numbers among the words are those that are written in decimal.
use Rattle.std.proofs.Common.{◌≡◌, ℕ, ◌+◌, ◌*◌, ◌-◌, ◌/◌, ◌%◌, ◌<◌, ◌≤◌, Bool, true, false, cond, ◌&&◌, List, [], ◌∷◌, ◌++◌, get_or, refl, sym, ap, subst, ◌∙◌, arith, Option, Some, None, append_assoc, append-nil, decimal}
use Rattle.std.specs.Prelude.{◌↔◌, nat_le, nat_lt, option_and_then}
use Rattle.std.specs.Char.{is_ascii_digit}
use Rattle.std.proofs.lemmas.Bool.{and_parts, and_from}
use Rattle.std.proofs.lemmas.Bool.Decides.{nat_tests}
use Rattle.std.proofs.lemmas.Fmt.{decimal_digit, decimal_step, decimal_by_steps, first_decimal}
use Rattle.sg_output.specs.Job.{Load, number_from, size_of, load_of, most_statements}

-- a number with one more digit
with_digit : (m b : ℕ) → 0 < m → m ≤ 1024 → 48 ≤ b → b ≤ 57 → decimal (m * 10 + (b - 48)) ≡ decimal m ++ b ∷ []
with_digit m b some small low high =
    let front : (m * 10 + (b - 48)) / 10 ≡ m = omega arith in
    let last : 48 + (m * 10 + (b - 48)) % 10 ≡ b = omega arith in
    decimal_step (m * 10 + (b - 48)) (omega arith) (omega arith) ∙ (λ i. decimal (front i) ++ (last i ∷ []))

digit-low : (b : ℕ) → is_ascii_digit b ≡ true → 48 ≤ b
digit-low b is = grind (arith, nat_tests)

digit-high : (b : ℕ) → is_ascii_digit b ≡ true → b ≤ 57
digit-high b is = grind (arith, nat_tests)

-- what is read behind a number
pub record GoesOn (m : ℕ) (bs : List ℕ) (n : ℕ) : Type 0 where
  text : decimal n ≡ decimal m ++ bs
  low : m ≤ n
  high : n ≤ 1024

goes_on : (bs : List ℕ) (m n : ℕ) → 0 < m → number_from m bs ≡ Some n → GoesOn m bs n
goes_on [] m n some is = by (nat_le m 1024) refl is
  where
    by : (t : Bool) → nat_le m 1024 ≡ t → cond t (Some m) None ≡ Some n → GoesOn m [] n
    by false small e = absurd (cc)
    by true small e =
        let same : m ≡ n = cc in
        let few : m ≤ 1024 = grind (arith, nat_tests) in
        record { text = ap decimal (sym same) ∙ sym (append-nil (decimal m)); low = omega (arith, same); high = omega (arith, same, few) }
goes_on (b ∷ bs) m n some is = by (is_ascii_digit b && nat_le m 1024) refl is (goes_on bs (m * 10 + (b - 48)) n)
  where
    by : (t : Bool) → (is_ascii_digit b && nat_le m 1024) ≡ t → cond t (number_from (m * 10 + (b - 48)) bs) None ≡ Some n
        → (0 < m * 10 + (b - 48) → number_from (m * 10 + (b - 48)) bs ≡ Some n → GoesOn (m * 10 + (b - 48)) bs n) → GoesOn m (b ∷ bs) n
    by false fits e behind = absurd (cc)
    by true fits e behind =
        let both = and_parts (is_ascii_digit b) (nat_le m 1024) fits in
        let few : m ≤ 1024 = let small : nat_le m 1024 ≡ true = both.1 in grind (arith, nat_tests) in
        let rest = behind (omega arith) e in
        record {
          text = rest.text ∙ ap (λ x. x ++ bs) (with_digit m b some few (digit-low b both.0) (digit-high b both.0)) ∙ append_assoc (decimal m) (b ∷ []) bs;
          low = omega (arith, rest.low);
          high = rest.high;
        }

-- a size is a number
size_written : (w : List ℕ) (n : ℕ) → size_of w ≡ Some n → (w ≡ decimal n) × (1 ≤ n) × (n ≤ 1024)
size_written [] n is = absurd (cc)
size_written (b ∷ bs) n is = by (nat_lt 48 b) refl is
  where
    begins : 48 < b → (t : Bool) → (is_ascii_digit b && true) ≡ t → cond t (number_from (0 * 10 + (b - 48)) bs) None ≡ Some n → (b ∷ bs ≡ decimal n) × (1 ≤ n) × (n ≤ 1024)
    begins some false fits e = absurd (cc)
    begins some true fits e =
        let digit : is_ascii_digit b ≡ true = (and_parts (is_ascii_digit b) true fits).0 in
        let high = digit-high b digit in
        let rest = goes_on bs (0 * 10 + (b - 48)) n (omega arith) e in
        let same : 48 + (0 * 10 + (b - 48)) ≡ b = omega arith in
        let first : decimal (0 * 10 + (b - 48)) ≡ b ∷ [] = decimal_digit (0 * 10 + (b - 48)) (omega (arith, high)) ∙ ap (λ x. x ∷ []) same in
        (sym (rest.text ∙ ap (λ x. x ++ bs) first), omega (arith, rest.low), rest.high)

    by : (t : Bool) → nat_lt 48 b ≡ t → cond t (number_from 0 (b ∷ bs)) None ≡ Some n → (b ∷ bs ≡ decimal n) × (1 ≤ n) × (n ≤ 1024)
    by false first e = absurd (cc)
    by true first e = let some : 48 < b = grind (arith, nat_tests) in begins some (is_ascii_digit b && true) refl e

-- the digits of a number are read as it
abbrev IsRead : ℕ → List ℕ → Type 0
IsRead n ds = 0 < n → n ≤ 1024 → (t : List ℕ) → number_from 0 (ds ++ t) ≡ number_from n t

is_digit : (d : ℕ) → d < 10 → is_ascii_digit (48 + d) ≡ true
is_digit d less = grind (arith, nat_tests)

read_digit : (m d : ℕ) (t : List ℕ) → d < 10 → m ≤ 1024 → number_from m ((48 + d) ∷ t) ≡ number_from (m * 10 + d) t
read_digit m d t less small =
    let few : nat_le m 1024 ≡ true = grind (arith, nat_tests) in
    let same : 48 + d - 48 ≡ d = omega arith in
    ap (λ c. cond c (number_from (m * 10 + (48 + d - 48)) t) None) (and_from (is_ascii_digit (48 + d)) (nat_le m 1024) (is_digit d less) few)
    ∙ ap (λ e. number_from (m * 10 + e) t) same

one-read : (n : ℕ) → n < 10 → IsRead n ((48 + n) ∷ [])
one-read n digit some small t = let same : 0 * 10 + n ≡ n = omega arith in read_digit 0 n t digit (omega arith) ∙ ap (λ m. number_from m t) same

more-read : (n : ℕ) (ds : List ℕ) → 10 ≤ n → IsRead (n / 10) ds → IsRead n (ds ++ ((48 + n % 10) ∷ []))
more-read n ds long before some small t =
    let same : n / 10 * 10 + n % 10 ≡ n = omega arith in
    ap (number_from 0) (append_assoc ds ((48 + n % 10) ∷ []) t) ∙ before (omega arith) (omega arith) ((48 + n % 10) ∷ t)
    ∙ read_digit (n / 10) (n % 10) t (omega arith) (omega arith) ∙ ap (λ m. number_from m t) same

number_read : (n : ℕ) → 0 < n → n ≤ 1024 → number_from 0 (decimal n) ≡ Some n
number_read n some small =
    let few : nat_le n 1024 ≡ true = grind (arith, nat_tests) in
    ap (number_from 0) (sym (append-nil (decimal n))) ∙ decimal_by_steps IsRead one-read more-read n (omega arith) some small []
    ∙ ap (λ t. cond t (Some n) None) few

size_read : (w : List ℕ) (n : ℕ) → w ≡ decimal n → 1 ≤ n → n ≤ 1024 → size_of w ≡ Some n
size_read [] n is some small = let first : 48 < get_or (decimal n) 0 0 = first_decimal n (omega arith) (omega arith) in absurd (let none : 48 < get_or [] 0 0 = subst (λ x. 48 < get_or x 0 0) (sym is) first in omega (arith, none))
size_read (b ∷ bs) n is some small =
    let first : 48 < b = subst (λ x. 48 < get_or x 0 0) (sym is) (first_decimal n (omega arith) (omega arith)) in
    let begins : nat_lt 48 b ≡ true = grind (arith, nat_tests) in
    ap (λ t. cond t (number_from 0 (b ∷ bs)) None) begins ∙ ap (number_from 0) is ∙ number_read n (omega arith) small

pub sizes : (w : List ℕ) (n : ℕ) → (size_of w ≡ Some n) ↔ ((w ≡ decimal n) × (1 ≤ n) × (n ≤ 1024))
sizes w n = (size_written w n, λ is. size_read w n is.0 is.1 is.2)

-- the number of statements of a workload is written so
loads_written : (w : List ℕ) (n : ℕ) → load_of w ≡ Some (Load n) → (w ≡ decimal n) × (1 ≤ n) × (n ≤ most_statements)
loads_written w n is = by (size_of w) refl is
  where
    within : (m : ℕ) → size_of w ≡ Some m → (t : Bool) → nat_le m most_statements ≡ t → cond t (Some (Load m)) None ≡ Some (Load n) → (w ≡ decimal n) × (1 ≤ n) × (n ≤ most_statements)
    within m size false few e = absurd (cc)
    within m size true few e =
        let same : m ≡ n = cc in
        let small : m ≤ most_statements = grind (arith, nat_tests) in
        let is = size_written w m size in
        (is.0 ∙ ap decimal same, omega (arith, is.1, same), omega (arith, small, same))

    by : (o : Option ℕ) → size_of w ≡ o → option_and_then (λ m. cond (nat_le m most_statements) (Some (Load m)) None) o ≡ Some (Load n) → (w ≡ decimal n) × (1 ≤ n) × (n ≤ most_statements)
    by None size e = absurd (cc)
    by (Some m) size e = within m size (nat_le m most_statements) refl e

loads_read : (w : List ℕ) (n : ℕ) → w ≡ decimal n → 1 ≤ n → n ≤ most_statements → load_of w ≡ Some (Load n)
loads_read w n is some small =
    let few : nat_le n most_statements ≡ true = grind (arith, nat_tests) in
    ap (option_and_then (λ m. cond (nat_le m most_statements) (Some (Load m)) None)) (size_read w n is some (omega (arith, small)))
    ∙ ap (λ t. cond t (Some (Load n)) None) few

pub loads : (w : List ℕ) (n : ℕ) → (load_of w ≡ Some (Load n)) ↔ ((w ≡ decimal n) × (1 ≤ n) × (n ≤ most_statements))
loads w n = (loads_written w n, λ is. loads_read w n is.0 is.1 is.2)
