-- Forms on values that none of their operations takes.
use Rattle.std.specs.Prelude.{◌≡◌, refl, ℕ, ℤ, Bool, true, false, List, IsTrue, nat_eq}
use Rattle.std.proofs.Common.{ap, sym, ◌∙◌}
use Rattle.sg_kinds.specs.Values.{Value, Truth, Number, Chars, Tree, Fault, same_value}
use Rattle.sg_kinds.specs.SameValue.{value_is, value_same, nat_is, nat_same}
use Rattle.sg_pool.specs.Pools.{value_at}
use Rattle.sg_kinds.specs.Evaluation.{untyped, applied, arithmetic, combined}
use Rattle.sg_kinds.specs.declared.marks.Unary.{Unary}
use Rattle.sg_kinds.specs.declared.marks.Unary.TheVariants.{Negative, Not, NumberToText}
use Rattle.sg_kinds.specs.declared.marks.Sign.{Sign}
use Rattle.sg_kinds.specs.declared.marks.Sign.TheVariants.{Add, Equal, Unequal, Join}
use Rattle.sg_eval.specs.Lives.{value_in, is_settled, IsUsable}
use Rattle.sg_eval.specs.declared.live.Live.{Live}
use Rattle.sg_eval.specs.declared.live.Live.TheVariants as live

-- `-`, `!` and `INTtoSTR`
negative_settled : (v : Value) → IsTrue (is_settled v) → applied Negative v ≡ untyped
negative_settled (Truth b) h = cc
negative_settled (Number z) h = cc
negative_settled (Chars s) h = refl
negative_settled (Tree op vs) h = refl
negative_settled (Fault kind) h = cc

pub negative_untyped : (pool : List Value) (f : Unary) (l : Live) → f ≡ Negative → IsUsable pool l → ((x : ℤ) → l ≡ live.Number x → ⊥) → applied f (value_in pool l) ≡ untyped
negative_untyped pool f (live.Number x) e u n = absurd (n x refl)
negative_untyped pool f live.False e u n = ap (λ g. applied g (Truth false)) e
negative_untyped pool f live.True e u n = ap (λ g. applied g (Truth true)) e
negative_untyped pool f (live.Kept k) e u n = ap (λ g. applied g (value_at pool k)) e ∙ negative_settled (value_at pool k) u

not_settled : (v : Value) → IsTrue (is_settled v) → applied Not v ≡ untyped
not_settled (Truth b) h = cc
not_settled (Number z) h = cc
not_settled (Chars s) h = refl
not_settled (Tree op vs) h = refl
not_settled (Fault kind) h = cc

pub not_untyped : (pool : List Value) (f : Unary) (l : Live) → f ≡ Not → IsUsable pool l → (l ≡ live.False → ⊥) → (l ≡ live.True → ⊥) → applied f (value_in pool l) ≡ untyped
not_untyped pool f live.False e u n m = absurd (n refl)
not_untyped pool f live.True e u n m = absurd (m refl)
not_untyped pool f (live.Number x) e u n m = ap (λ g. applied g (Number x)) e
not_untyped pool f (live.Kept k) e u n m = ap (λ g. applied g (value_at pool k)) e ∙ not_settled (value_at pool k) u

digits_settled : (v : Value) → IsTrue (is_settled v) → applied NumberToText v ≡ untyped
digits_settled (Truth b) h = cc
digits_settled (Number z) h = cc
digits_settled (Chars s) h = refl
digits_settled (Tree op vs) h = refl
digits_settled (Fault kind) h = cc

pub digits_untyped : (pool : List Value) (f : Unary) (l : Live) → f ≡ NumberToText → IsUsable pool l → ((x : ℤ) → l ≡ live.Number x → ⊥) → applied f (value_in pool l) ≡ untyped
digits_untyped pool f (live.Number x) e u n = absurd (n x refl)
digits_untyped pool f live.False e u n = ap (λ g. applied g (Truth false)) e
digits_untyped pool f live.True e u n = ap (λ g. applied g (Truth true)) e
digits_untyped pool f (live.Kept k) e u n = ap (λ g. applied g (value_at pool k)) e ∙ digits_settled (value_at pool k) u

-- an operator of two numbers, on two values that are not both numbers
abbrev is_whole : Value → Bool
is_whole (Number z) = true
is_whole v = false

pub record IsOrdinary (sign : Sign) : Type 0 where
  pub equal : sign ≡ Equal → ⊥
  pub unequal : sign ≡ Unequal → ⊥
  pub join : sign ≡ Join → ⊥

pub left_untyped : (sign : Sign) (x y : Value) → IsOrdinary sign → is_whole x ≡ false → combined sign x y ≡ untyped
left_untyped Equal x y o h = absurd (o.equal refl)
left_untyped Unequal x y o h = absurd (o.unequal refl)
left_untyped Join x y o h = absurd (o.join refl)
left_untyped sign (Number z) y o h = cc
left_untyped sign x y o h = refl

pub right_untyped : (sign : Sign) (x y : Value) → IsOrdinary sign → is_whole y ≡ false → combined sign x y ≡ untyped
right_untyped Equal x y o h = absurd (o.equal refl)
right_untyped Unequal x y o h = absurd (o.unequal refl)
right_untyped Join x y o h = absurd (o.join refl)
right_untyped sign (Number a) (Number z) o h = cc
right_untyped sign x y o h = refl

pub both_numbers : (sign : Sign) (x y : ℤ) → IsOrdinary sign → combined sign (Number x) (Number y) ≡ arithmetic sign x y
both_numbers Equal x y o = absurd (o.equal refl)
both_numbers Unequal x y o = absurd (o.unequal refl)
both_numbers Join x y o = absurd (o.join refl)
both_numbers Add x y o = refl
both_numbers sign x y o = refl

settled_whole : (v : Value) → IsTrue (is_settled v) → is_whole v ≡ false
settled_whole (Number z) h = cc
settled_whole v h = refl

not_whole : (pool : List Value) (l : Live) → IsUsable pool l → ((z : ℤ) → l ≡ live.Number z → ⊥) → is_whole (value_in pool l) ≡ false
not_whole pool live.False u n = refl
not_whole pool live.True u n = refl
not_whole pool (live.Number z) u n = absurd (n z refl)
not_whole pool (live.Kept k) u n = settled_whole (value_at pool k) u

pub left_not_number : (pool : List Value) (sign : Sign) (x y : Live) → IsOrdinary sign → IsUsable pool x → ((z : ℤ) → x ≡ live.Number z → ⊥) → combined sign (value_in pool x) (value_in pool y) ≡ untyped
left_not_number pool sign x y o u n = left_untyped sign (value_in pool x) (value_in pool y) o (not_whole pool x u n)

pub right_not_number : (pool : List Value) (sign : Sign) (x y : Live) → IsOrdinary sign → IsUsable pool y → ((z : ℤ) → y ≡ live.Number z → ⊥) → combined sign (value_in pool x) (value_in pool y) ≡ untyped
right_not_number pool sign x y o u n = right_untyped sign (value_in pool x) (value_in pool y) o (not_whole pool y u n)

-- values of a pool are the same where their numbers are
pub same_kept : (pool : List Value) (a b : ℕ) → (value_at pool a ≡ value_at pool b → a ≡ b) → nat_eq a b ≡ same_value (value_at pool a) (value_at pool b)
same_kept pool a b one = by (nat_eq a b) refl (same_value (value_at pool a) (value_at pool b)) refl
  where
    by : (e : Bool) → nat_eq a b ≡ e → (s : Bool) → same_value (value_at pool a) (value_at pool b) ≡ s → nat_eq a b ≡ same_value (value_at pool a) (value_at pool b)
    by true e true s = e ∙ sym s
    by false e false s = e ∙ sym s
    by true e false s = let t : same_value (value_at pool a) (value_at pool b) ≡ true = ap (λ k. same_value (value_at pool a) (value_at pool k)) (sym (nat_is a b e)) ∙ value_same (value_at pool a) in cc
    by false e true s = let t : nat_eq a b ≡ true = ap (λ k. nat_eq a k) (sym (one (value_is (value_at pool a) (value_at pool b) s))) ∙ nat_same a in cc
