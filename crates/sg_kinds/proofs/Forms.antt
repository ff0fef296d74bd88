-- Each form of expression on a small example.
use Rattle.std.specs.Prelude.{◌≡◌, refl, ℕ, zero, suc, ◌^◌, ◌-◌, ℤ, pos, negsuc, true, false, List, [], ◌∷◌}
use Rattle.sg_kinds.specs.Values.{Value, Truth, Number, Chars, Tree, Fault, NoValue, row_of}
use Rattle.sg_kinds.specs.Expressions.{Expr, Constant, Named, MadeOf, Single, Binary, Logical, Cons, Choice, Apply, Let, With, NoExpr, NoCase, Default, Case, Exactly, Anything, Variable, MadeAs, Applied, NoPattern, AndPattern}
use Rattle.sg_kinds.specs.declared.marks.Made.TheVariants.{Completing, Placeholder}
use Rattle.sg_kinds.specs.declared.marks.Connective.TheVariants.{Both, Either}
use Rattle.sg_kinds.specs.declared.marks.Unary.TheVariants.{Paren, Negative, TextToNumber, NumberToText, TextLength}
use Rattle.sg_kinds.specs.Evaluation.{Reached, Gives, value_within}
use Rattle.sg_kinds.specs.Completing.{completing}
use Rattle.sg_kinds.specs.Placeholder.{placeholder}
use Rattle.sg_kinds.specs.declared.marks.FaultKind.TheVariants.{Size, Divide, Overflow, NoMatch, Convert}
use Rattle.sg_kinds.specs.declared.marks.Sign.TheVariants.{Add, Sub, Div, Rem, Equal, Join}
use Rattle.sg_kinds.proofs.Languages.{lets, num}

-- with ten units of fuel and nesting, and one binding
abbrev gives : Expr → Reached
gives e = value_within lets 10 e (Number (pos 7) ∷ []) 10

abbrev int : ℤ → Expr
int z = Constant (Number z)

abbrev text : List ℕ → Expr
text s = Constant (Chars s)

least : ℤ
least = negsuc (2 ^ 63 - 1)

quotient : gives (Binary Div (int (negsuc 6)) (num 2)) ≡ Gives (Number (negsuc 2)) 7
quotient = refl

remainder : gives (Binary Rem (int (negsuc 6)) (num 2)) ≡ Gives (Number (negsuc 0)) 7
remainder = refl

by_zero : gives (Binary Div (num 1) (num 0)) ≡ Gives (Fault Divide) 7
by_zero = refl

by_zero_too : gives (Binary Rem (num 1) (num 0)) ≡ Gives (Fault Divide) 7
by_zero_too = refl

least_quotient : gives (Binary Div (int least) (int (negsuc 0))) ≡ Gives (Fault Overflow) 7
unfolding least
least_quotient = refl

least_remainder : gives (Binary Rem (int least) (int (negsuc 0))) ≡ Gives (Fault Overflow) 7
unfolding least
least_remainder = refl

least_negative : gives (Single Negative (int least)) ≡ Gives (Fault Overflow) 8
unfolding least
least_negative = refl

-- only what is needed is evaluated
and_stops : gives (Logical Both (Constant (Truth false)) (Binary Equal (Binary Div (num 1) (num 0)) (num 1))) ≡ Gives (Truth false) 8
and_stops = refl

or_stops : gives (Logical Either (Constant (Truth true)) (Binary Equal (Binary Div (num 1) (num 0)) (num 1))) ≡ Gives (Truth true) 8
or_stops = refl

choice_stops : gives (Choice (Constant (Truth false)) (Binary Div (num 1) (num 0)) (Named 0)) ≡ Gives (Number (pos 7)) 7
choice_stops = refl

-- the first fault met, from left to right
first_fault : gives (Binary Add (Binary Div (num 1) (num 0)) (Single TextToNumber (text []))) ≡ Gives (Fault Divide) 6
first_fault = refl

-- STRtoINT of "-05", "-", "9223372036854775808" and "-9223372036854775808"; INTtoSTR and STRlen
minus_five : gives (Single TextToNumber (text (45 ∷ 48 ∷ 53 ∷ []))) ≡ Gives (Number (negsuc 4)) 8
minus_five = refl

minus : gives (Single TextToNumber (text (45 ∷ []))) ≡ Gives (Fault Convert) 8
minus = refl

digits : List ℕ
digits = 57 ∷ 50 ∷ 50 ∷ 51 ∷ 51 ∷ 55 ∷ 50 ∷ 48 ∷ 51 ∷ 54 ∷ 56 ∷ 53 ∷ 52 ∷ 55 ∷ 55 ∷ 53 ∷ 56 ∷ 48 ∷ 56 ∷ []

too_large : gives (Single TextToNumber (text digits)) ≡ Gives (Fault Convert) 8
unfolding digits
too_large = refl

the_least : gives (Single TextToNumber (text (45 ∷ digits))) ≡ Gives (Number least) 8
unfolding digits least
the_least = refl

to_text : gives (Single NumberToText (int (negsuc 119))) ≡ Gives (Chars (45 ∷ 49 ∷ 50 ∷ 48 ∷ [])) 8
unfolding Rattle.std.specs.Fmt.digits
to_text = refl

text_length : gives (Single TextLength (Binary Join (text (97 ∷ [])) (text (98 ∷ 99 ∷ [])))) ≡ Gives (Number (pos 3)) 6
text_length = refl

-- bindings stand behind those that were there
let_binds : gives (Let (Binary Add (Named 0) (num 1)) (Binary Sub (Named 1) (Named 0))) ≡ Gives (Number (pos 1)) 3
let_binds = refl

-- e :: l with an empty statement, made terms, and patterns of them
cons_is : gives (Cons 2 (MadeOf Completing 5) (Apply 1 NoExpr)) ≡ Gives (Tree 2 (row_of (Tree 3 NoValue ∷ Tree 1 NoValue ∷ []))) 7
unfolding completing
cons_is = refl

with_completing : gives (With (MadeOf Completing 4) (Case (Exactly (Number (pos 1))) (num 1) (Case (MadeAs Completing 4) (num 2) NoCase))) ≡ Gives (Number (pos 2)) 7
unfolding completing
with_completing = refl

with_parts : gives (With (MadeOf Placeholder 4) (Case (Applied 2 (AndPattern Variable (AndPattern Anything NoPattern))) (Binary Equal (Named 1) (MadeOf Placeholder 5)) NoCase)) ≡ Gives (Truth true) 5
unfolding placeholder
with_parts = refl

with_default : gives (With (num 3) (Case (Exactly (Number (pos 4))) (num 1) (Default (Single Paren (num 5))))) ≡ Gives (Number (pos 5)) 6
with_default = refl

no_match : gives (With (num 3) (Case (Exactly (Number (pos 4))) (num 1) NoCase)) ≡ Gives (Fault NoMatch) 8
no_match = refl

-- a name whose value is too deep
nest : ℕ → Value
nest zero = Number (pos 0)
nest (suc n) = Tree 0 (row_of (nest n ∷ []))

deep_enough : value_within lets 10 (Binary Equal (Named 0) (Named 0)) (nest 1023 ∷ []) 10 ≡ Gives (Truth true) 7
unfolding nest
deep_enough = refl

too_deep : value_within lets 10 (Named 0) (nest 1024 ∷ []) 10 ≡ Gives (Fault Size) 9
unfolding nest
too_deep = refl
