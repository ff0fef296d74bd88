-- The computed equality of values is their equality.
use Rattle.std.specs.Prelude.{◌≡◌, refl, ℕ, Bool, true, false, ◌&&◌, ℤ, pos, negsuc, nat_eq}
use Rattle.std.proofs.Common.{arith}
use Rattle.std.proofs.lemmas.Slice.Eq.{bytes_eq-Decides}
use mathlib.Core.Path.{ap}
use Rattle.sg_kinds.specs.Values.{Value, Values, Truth, Number, Chars, Tree, Fault, NoValue, AndValue, same_value, same_values, same_number, same_truth, fault_number}
use Rattle.sg_kinds.specs.declared.marks.FaultKind.{FaultKind}
use Rattle.sg_kinds.specs.declared.marks.FaultKind.TheVariants.{Fuel, Depth, Size, Divide, Overflow, NoMatch, Convert}

pub both : (a b : Bool) → a && b ≡ true → (a ≡ true) × (b ≡ true)
both true b h = (refl, h)
both false b h = cc

pub nat_is : (m n : ℕ) → nat_eq m n ≡ true → m ≡ n
nat_is m n h = grind arith

pub nat_same : (n : ℕ) → nat_eq n n ≡ true
nat_same n = grind arith

pub number_is : (x y : ℤ) → same_number x y ≡ true → x ≡ y
number_is (pos m) (pos n) h = ap pos (nat_is m n h)
number_is (negsuc m) (negsuc n) h = ap negsuc (nat_is m n h)
number_is (pos m) (negsuc n) h = cc
number_is (negsuc m) (pos n) h = cc

pub number_same : (x : ℤ) → same_number x x ≡ true
number_same (pos n) = nat_same n
number_same (negsuc n) = nat_same n

pub truth_is : (x y : Bool) → same_truth x y ≡ true → x ≡ y
truth_is true true h = refl
truth_is true false h = cc
truth_is false true h = cc
truth_is false false h = refl

pub truth_same : (x : Bool) → same_truth x x ≡ true
truth_same true = refl
truth_same false = refl

pub fault_is : (x y : FaultKind) → nat_eq (fault_number x) (fault_number y) ≡ true → x ≡ y
fault_is Fuel Fuel h = refl
fault_is Depth Depth h = refl
fault_is Size Size h = refl
fault_is Divide Divide h = refl
fault_is Overflow Overflow h = refl
fault_is NoMatch NoMatch h = refl
fault_is Convert Convert h = refl
fault_is x y h = cc

mutual
  pub value_is : (x y : Value) → same_value x y ≡ true → x ≡ y
  value_is (Truth x) (Truth y) h = ap Truth (truth_is x y h)
  value_is (Number x) (Number y) h = ap Number (number_is x y h)
  value_is (Chars x) (Chars y) h = ap Chars ((bytes_eq-Decides x y).0 h)
  value_is (Tree p xs) (Tree q ys) h = let b = both (nat_eq p q) (same_values xs ys) h in cc (nat_is p q b.0, values_are xs ys b.1)
  value_is (Fault x) (Fault y) h = ap Fault (fault_is x y h)
  value_is x y h = cc

  pub values_are : (xs ys : Values) → same_values xs ys ≡ true → xs ≡ ys
  values_are NoValue NoValue h = refl
  values_are (AndValue x xs) (AndValue y ys) h = let b = both (same_value x y) (same_values xs ys) h in cc (value_is x y b.0, values_are xs ys b.1)
  values_are xs ys h = cc

mutual
  pub value_same : (x : Value) → same_value x x ≡ true
  value_same (Truth x) = truth_same x
  value_same (Number x) = number_same x
  value_same (Chars x) = (bytes_eq-Decides x x).1 refl
  value_same (Tree p xs) = rw (nat_same p) (values_same xs)
  value_same (Fault x) = nat_same (fault_number x)

  pub values_same : (xs : Values) → same_values xs xs ≡ true
  values_same NoValue = refl
  values_same (AndValue x xs) = rw (value_same x) (values_same xs)
