-- The types of expressions and patterns. A type is a phylum; a context has the types of the bindings.
use Rattle.std.specs.Prelude.{ℕ, zero, suc, Bool, true, false, cond, not, ◌&&◌, ◌||◌, bytes_eq, map, List, [], ◌∷◌, ◌++◌, nat_eq, Option, Some, None, slice_get, option_map, option_and_then, unwrap_or}
use Rattle.sg_kinds.specs.Values.{Bytes, Value, Truth, Number, Chars, is_text, is_number}
use Rattle.sg_kinds.specs.Expressions.{Expr, Exprs, Cases, Pattern, Patterns, Constant, Named, MadeOf, Single, Binary, Logical, Cons, Choice, Apply, Call, Let, With, NoExpr, AndExpr, NoCase, Default, Case, Exactly, Anything, Variable, MadeAs, Applied, NoPattern, AndPattern}
use Rattle.sg_kinds.specs.Specification.{Spec, Phylum, Attr, Local, Function, Occurrence, truths, numbers, texts, attrs_of, args_of, locals_of, phylum_of, has_shape, is_lexical_shape, is_list_shape}
use Rattle.sg_kinds.specs.declared.marks.Unary.{Unary}
use Rattle.sg_kinds.specs.declared.marks.Unary.TheVariants.{Paren, Negative, Not, TextToNumber, NumberToText, TextLength}
use Rattle.sg_kinds.specs.declared.marks.Sign.{Sign}
use Rattle.sg_kinds.specs.declared.marks.Sign.TheVariants.{Equal, Unequal, Below, AtMost, Above, AtLeast, Join}

-- a lexeme phylum is accepted where STR is wanted; texts are STR and the lexeme phyla
abbrev pub is_accepted : Spec → ℕ → ℕ → Bool
is_accepted spec p wanted = nat_eq p wanted || (has_shape spec.phyla is_lexical_shape p && nat_eq wanted texts)

abbrev pub is_textual : Spec → ℕ → Bool
is_textual spec p = nat_eq p texts || has_shape spec.phyla is_lexical_shape p

abbrev pub agree : Spec → ℕ → ℕ → Bool
agree spec p q = nat_eq p q || (is_textual spec p && is_textual spec q)

-- a phylum that is there and is not the lexeme phylum WHITESPACE, which nothing uses
abbrev pub whitespace : Bytes
whitespace = 87 ∷ 72 ∷ 73 ∷ 84 ∷ 69 ∷ 83 ∷ 80 ∷ 65 ∷ 67 ∷ 69 ∷ []

abbrev pub is_usable : Spec → ℕ → Bool
is_usable spec p = unwrap_or (option_map (λ (x : Phylum). not (is_lexical_shape x.shape
    && bytes_eq x.name whitespace)) (slice_get spec.phyla p)) false

abbrev pub only_if : Bool → ℕ → Option ℕ
only_if b p = cond b (Some p) None

-- the type `p`, if the type found is accepted where another is wanted
abbrev pub where_fits : Spec → ℕ → ℕ → Option ℕ → Option ℕ
where_fits spec wanted p found = option_and_then (λ q. only_if (is_accepted spec q wanted) p) found

-- whether a type was found that is accepted where another is wanted
abbrev pub is_found : Spec → ℕ → Option ℕ → Bool
is_found spec wanted found = unwrap_or (option_map (λ q. is_accepted spec q wanted) found) false

abbrev pub constant_type : Value → Option ℕ
constant_type (Truth b) = Some truths
constant_type (Number z) = only_if (is_number z) numbers
constant_type (Chars s) = only_if (is_text s) texts
constant_type v = None

-- what a form with one operand takes, and what it gives; a parenthesis keeps the type
abbrev pub unary_type : Spec → Unary → Option ℕ → Option ℕ
unary_type spec Paren found = found
unary_type spec Negative found = where_fits spec numbers numbers found
unary_type spec Not found = where_fits spec truths truths found
unary_type spec TextToNumber found = where_fits spec texts numbers found
unary_type spec NumberToText found = where_fits spec numbers texts found
unary_type spec TextLength found = where_fits spec texts numbers found

-- what a strict operator takes at both sides, and what it gives
abbrev pub sign_types : Sign → ℕ × ℕ
sign_types Join = (texts, texts)
sign_types Below = (numbers, truths)
sign_types AtMost = (numbers, truths)
sign_types Above = (numbers, truths)
sign_types AtLeast = (numbers, truths)
sign_types sign = (numbers, numbers)

abbrev pub binary_type : Spec → Sign → ℕ → ℕ → Option ℕ
binary_type spec Equal p q = only_if (agree spec p q) truths
binary_type spec Unequal p q = only_if (agree spec p q) truths
binary_type spec sign p q = only_if (is_accepted spec p (sign_types sign).0
    && is_accepted spec q (sign_types sign).0) (sign_types sign).1

-- the list phylum of a binary operator with an element
abbrev pub cons_type : Spec → ℕ → ℕ → Option ℕ → List ℕ → Option ℕ
cons_type spec p q (Some l) (e ∷ m ∷ []) = only_if (has_shape spec.phyla is_list_shape l
    && (nat_eq l m && (is_accepted spec p e && is_accepted spec q l))) l
cons_type spec p q o args = None

-- a constant pattern fits the phylum of its value, a text besides the lexeme phyla
abbrev pub constant_fits : Spec → Value → ℕ → Bool
constant_fits spec (Chars s) p = is_text s && is_textual spec p
constant_fits spec v p = unwrap_or (option_map (nat_eq p) (constant_type v)) false

-- the types of a pattern's variables, from left to right, where a value of type p is matched
abbrev mutual
  pub bound_types : Spec → Pattern → ℕ → Option (List ℕ)
  bound_types spec (Exactly v) p = cond (constant_fits spec v p) (Some []) None
  bound_types spec Anything p = Some []
  bound_types spec Variable p = Some (p ∷ [])
  bound_types spec (MadeAs made q) p = cond (is_usable spec q && is_accepted spec q p) (Some []) None
  bound_types spec (Applied op ps) p = cond (unwrap_or (option_map (nat_eq p) (phylum_of spec.ops op)) false)
      (bound_types_all spec ps (args_of spec.ops op)) None

  pub bound_types_all : Spec → Patterns → List ℕ → Option (List ℕ)
  bound_types_all spec NoPattern [] = Some []
  bound_types_all spec (AndPattern x xs) (p ∷ ps) = option_and_then
      (λ bs. option_map (λ cs. bs ++ cs) (bound_types_all spec xs ps)) (bound_types spec x p)
  bound_types_all spec xs ps = None

-- the type of an expression, where it has one
abbrev mutual
  pub type_of : Spec → List ℕ → Expr → Option ℕ
  type_of spec G (Constant v) = constant_type v
  type_of spec G (Named k) = slice_get G k
  type_of spec G (MadeOf made p) = only_if (is_usable spec p) p
  type_of spec G (Single f a) = unary_type spec f (type_of spec G a)
  type_of spec G (Binary sign a b) = option_and_then (λ p. option_and_then (binary_type spec sign p)
      (type_of spec G b)) (type_of spec G a)
  type_of spec G (Logical c a b) = only_if (is_found spec truths (type_of spec G a)
      && is_found spec truths (type_of spec G b)) truths
  type_of spec G (Cons op a b) = option_and_then (λ p. option_and_then
      (λ q. cons_type spec p q (phylum_of spec.ops op) (args_of spec.ops op)) (type_of spec G b)) (type_of spec G a)
  type_of spec G (Choice c a b) = cond (is_found spec truths (type_of spec G c))
      (option_and_then (λ p. where_fits spec p p (type_of spec G b)) (type_of spec G a)) None
  type_of spec G (Apply op es) = cond (all_fit spec G es (args_of spec.ops op)) (phylum_of spec.ops op) None
  type_of spec G (Call f es) = option_and_then (λ (g : Function). only_if (all_fit spec G es g.params) g.result)
      (slice_get spec.functions f)
  type_of spec G (Let a b) = option_and_then (λ p. type_of spec (G ++ p ∷ []) b) (type_of spec G a)
  type_of spec G (With a cases) = option_and_then (λ p. case_type spec G p cases) (type_of spec G a)

  -- each is accepted where its parameter's type is wanted
  pub all_fit : Spec → List ℕ → Exprs → List ℕ → Bool
  all_fit spec G NoExpr [] = true
  all_fit spec G (AndExpr e es) (p ∷ ps) = is_found spec p (type_of spec G e) && all_fit spec G es ps
  all_fit spec G es ps = false

  -- the type of the first case, where the others are accepted in its place
  pub case_type : Spec → List ℕ → ℕ → Cases → Option ℕ
  case_type spec G p NoCase = None
  case_type spec G p (Default e) = None
  case_type spec G p (Case x e rest) = option_and_then (λ t. only_if (rest_fits spec G p t rest) t)
      (option_and_then (λ bs. type_of spec (G ++ bs) e) (bound_types spec x p))

  pub rest_fits : Spec → List ℕ → ℕ → ℕ → Cases → Bool
  rest_fits spec G p t NoCase = true
  rest_fits spec G p t (Default e) = is_found spec t (type_of spec G e)
  rest_fits spec G p t (Case x e rest) = is_found spec t
      (option_and_then (λ bs. type_of spec (G ++ bs) e) (bound_types spec x p)) && rest_fits spec G p t rest

-- the types of the slots at an occurrence of an operator: its attributes, and at the left side the locals behind them
abbrev pub attr_types : Spec → Option ℕ → List ℕ
attr_types spec None = []
attr_types spec (Some X) = map (λ (a : Attr). a.of) (attrs_of spec.phyla X)

abbrev pub slots_there : Spec → ℕ → ℕ → List ℕ
slots_there spec op zero = attr_types spec (phylum_of spec.ops op) ++ map (λ (l : Local). l.of) (locals_of spec.ops op)
slots_there spec op (suc k) = attr_types spec (slice_get (args_of spec.ops op) k)

abbrev pub slot_type : Spec → ℕ → ℕ → ℕ → Option ℕ
slot_type spec op k slot = slice_get (slots_there spec op k) slot

-- the types of an equation's bindings
abbrev pub types_at : Spec → ℕ → List Occurrence → Option (List ℕ)
types_at spec op [] = Some []
types_at spec op (o ∷ os) = option_and_then (λ p. option_map (λ ps. p ∷ ps) (types_at spec op os))
    (slot_type spec op o.at o.slot)

-- whether an expression of the specification has, with these bindings, a type that is accepted where the phylum is
-- wanted
abbrev pub is_typed : Spec → List ℕ → ℕ → ℕ → Bool
is_typed spec G e p = is_found spec p (option_and_then (type_of spec G) (slice_get spec.exprs e))
