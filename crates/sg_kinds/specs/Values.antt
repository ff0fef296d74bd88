-- Values of attributes and of terms.
use Rattle.std.specs.Prelude.{ℕ, suc, ◌+◌, ◌^◌, ℤ, pos, negsuc, Bool, true, false, ◌&&◌, ◌||◌, max, List, [], ◌∷◌, length, nat_eq, nat_lt, nat_le, bytes_eq}
use Rattle.sg_kinds.specs.declared.marks.FaultKind.{FaultKind}
use Rattle.sg_kinds.specs.declared.marks.FaultKind.TheVariants.{Fuel, Depth, Size, Divide, Overflow, NoMatch, Convert}

-- a text: its bytes
abbrev pub Bytes : Type 0
Bytes = List ℕ

-- a truth value, a number, a text, a tree of an operator over values, or a fault
mutual
  pub data Value : Type 0 where
    Truth : Bool → Value
    Number : ℤ → Value
    Chars : Bytes → Value
    Tree : ℕ → Values → Value
    Fault : FaultKind → Value

  pub data Values : Type 0 where
    NoValue : Values
    AndValue : Value → Values → Values

-- a row of values as a list, and back
abbrev pub list_of : Values → List Value
list_of NoValue = []
list_of (AndValue v vs) = v ∷ list_of vs

abbrev pub row_of : List Value → Values
row_of [] = NoValue
row_of (v ∷ vs) = AndValue v (row_of vs)

-- 1 plus the length of a text, 1 plus the sizes of a tree's children, else 1
abbrev mutual
  pub size_of : Value → ℕ
  size_of (Chars s) = suc (length s)
  size_of (Tree op vs) = suc (sizes_of vs)
  size_of v = 1

  pub sizes_of : Values → ℕ
  sizes_of NoValue = 0
  sizes_of (AndValue v vs) = size_of v + sizes_of vs

-- 1 plus the greatest depth of a tree's children, else 1
abbrev mutual
  pub depth_of : Value → ℕ
  depth_of (Tree op vs) = suc (depths_of vs)
  depth_of v = 1

  pub depths_of : Values → ℕ
  depths_of NoValue = 0
  depths_of (AndValue v vs) = max (depth_of v) (depths_of vs)

-- the greatest size and depth of a value
abbrev pub size_limit : ℕ
size_limit = 65536

abbrev pub depth_limit : ℕ
depth_limit = 1024

-- whether a value is in the limits
abbrev pub is_within : Value → Bool
is_within v = nat_le (size_of v) size_limit && nat_le (depth_of v) depth_limit

-- the bytes of texts, and the numbers of 64 bits
abbrev pub is_text_byte : ℕ → Bool
is_text_byte b = nat_eq b 10 || (nat_le 32 b && nat_le b 126)

abbrev pub is_text : Bytes → Bool
is_text [] = true
is_text (b ∷ bs) = is_text_byte b && is_text bs

abbrev pub is_number : ℤ → Bool
is_number (pos n) = nat_lt n (2 ^ 63)
is_number (negsuc n) = nat_lt n (2 ^ 63)

-- whether two numbers, two fault kinds, two values are the same
abbrev pub same_number : ℤ → ℤ → Bool
same_number (pos m) (pos n) = nat_eq m n
same_number (negsuc m) (negsuc n) = nat_eq m n
same_number x y = false

abbrev pub same_truth : Bool → Bool → Bool
same_truth true y = y
same_truth false true = false
same_truth false false = true

abbrev pub fault_number : FaultKind → ℕ
fault_number Fuel = 0
fault_number Depth = 1
fault_number Size = 2
fault_number Divide = 3
fault_number Overflow = 4
fault_number NoMatch = 5
fault_number Convert = 6

abbrev mutual
  pub same_value : Value → Value → Bool
  same_value (Truth x) (Truth y) = same_truth x y
  same_value (Number x) (Number y) = same_number x y
  same_value (Chars x) (Chars y) = bytes_eq x y
  same_value (Tree p xs) (Tree q ys) = nat_eq p q && same_values xs ys
  same_value (Fault x) (Fault y) = nat_eq (fault_number x) (fault_number y)
  same_value x y = false

  pub same_values : Values → Values → Bool
  same_values NoValue NoValue = true
  same_values (AndValue x xs) (AndValue y ys) = same_value x y && same_values xs ys
  same_values xs ys = false
