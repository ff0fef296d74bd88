-- The outcome of an expression is of its type, over a sound specification.
use Rattle.std.specs.Prelude.{◌≡◌, refl, ℕ, zero, suc, ◌<◌, ◌≤◌, ◌^◌, ℤ, pos, negsuc, neg_ℤ, ◌+ℤ◌, ◌-ℤ◌, ◌*ℤ◌, int_lt, int_le, int_div, int_rem, unsigned_abs, Bool, true, false, cond, not, ◌&&◌, nat_eq, nat_le, List, [], ◌∷◌, ◌++◌, length, Option, Some, None, slice_get, option_map, option_and_then, unwrap_or, IsTrue, MatchOption, ⊤}
use Rattle.std.specs.Fmt.{decimal, signed_decimal}
use Rattle.std.specs.Str.Parse.{AllDigits}
use Rattle.std.proofs.Common.{inl, inr, sym, ◌∙◌, ap, subst, arith, append_assoc}
use Rattle.std.proofs.lemmas.Fmt.{decimal_is_IsNumeral}
use Rattle.std.proofs.lemmas.Option.{slice_get_within, get_or_from_slice_get}
use Rattle.std.proofs.lemmas.Int.{rem_below}
use Rattle.std.proofs.lemmas.Str.Parse.{digit_at}
use Rattle.sg_kinds.specs.Outcome.{outcome, outcome_of}
use Rattle.sg_kinds.specs.Values.{Bytes, Value, Values, Truth, Number, Chars, Tree, Fault, AndValue, row_of, is_text, is_text_byte, is_number, is_within, size_of, depth_of, same_value}
use Rattle.sg_kinds.specs.Expressions.{Expr, Exprs, Cases, Pattern, Patterns, Constant, Named, MadeOf, Single, Binary, Logical, Cons, Choice, Apply, Call, Let, With, NoExpr, AndExpr, NoCase, Default, Case, Exactly, Anything, Variable, MadeAs, Applied, NoPattern, AndPattern}
use Rattle.sg_kinds.specs.Terms.{Term, Terms, Leaf, Node, NoTerm, AndTerm}
use Rattle.sg_kinds.specs.ValueOf.{value_of, values_of}
use Rattle.sg_kinds.specs.Fits.{Fits, AllFit, MayHold}
use Rattle.sg_kinds.specs.OfType.{IsOfType}
use Rattle.sg_kinds.specs.Specification.{truths, numbers, texts, args_of, phylum_of, has_shape, is_list_shape}
use Rattle.sg_kinds.specs.declared.spec.Spec.{Spec}
use Rattle.sg_kinds.specs.declared.spec.Phylum.{Phylum}
use Rattle.sg_kinds.specs.declared.spec.Operator.{Operator}
use Rattle.sg_kinds.specs.declared.spec.Function.{Function}
use Rattle.sg_kinds.specs.declared.marks.Shape.{Shape}
use Rattle.sg_kinds.specs.declared.marks.Shape.TheVariants.{Truths, Numbers, Texts, Lexemes}
use Rattle.sg_kinds.specs.declared.marks.FaultKind.{FaultKind}
use Rattle.sg_kinds.specs.declared.marks.FaultKind.TheVariants.{Fuel, Depth, Size, Divide, Overflow, NoMatch, Convert}
use Rattle.sg_kinds.specs.declared.marks.Made.{Made}
use Rattle.sg_kinds.specs.declared.marks.Made.TheVariants.{Completing, Placeholder}
use Rattle.sg_kinds.specs.declared.marks.Unary.{Unary}
use Rattle.sg_kinds.specs.declared.marks.Unary.TheVariants.{Paren, Negative, Not, TextToNumber, NumberToText, TextLength}
use Rattle.sg_kinds.specs.declared.marks.Sign.{Sign}
use Rattle.sg_kinds.specs.declared.marks.Sign.TheVariants.{Add, Sub, Mul, Div, Rem, Equal, Unequal, Below, AtMost, Above, AtLeast, Join}
use Rattle.sg_kinds.specs.declared.marks.Connective.{Connective}
use Rattle.sg_kinds.specs.declared.marks.Connective.TheVariants.{Both, Either}
use Rattle.sg_kinds.specs.Typing.{types_at, slot_type, is_accepted, is_found, is_usable, only_if, where_fits, constant_type, unary_type, binary_type, cons_type, bound_types, bound_types_all, type_of, all_fit, case_type, rest_fits, is_typed, agree}
use Rattle.sg_kinds.specs.Evaluation.{Inside, Reached, Operands, Gives, outcome_in, untyped, made_value, in_range, arithmetic, combined, converted, integer, applied, nothing_if, bound_by, bound_by_all, then_with, row_with, row_reached, with_row, if_bound, first_case, choose, connected, body_of, body_reached, step, limited, value_within}
use Rattle.sg_kinds.specs.Sound.{IsSound, is_rule_typed, symbol_types}
use Rattle.sg_kinds.specs.declared.spec.Rule.{Rule}
use Rattle.sg_kinds.specs.declared.spec.Transform.{Transform}
use Rattle.sg_kinds.specs.declared.spec.Production.{Production}
use Rattle.sg_kinds.specs.SameValue.{both, nat_is}
use Rattle.sg_kinds.proofs.MadeFits.{some_of_map, some_of_then, node_fits, completing_fits, placeholder_fits}
use Rattle.sg_kinds.proofs.Outcomes.{outcome_within}
use Rattle.sg_eval.specs.Typed.{AreOfTypes}
use Rattle.sg_eval.proofs.Forms.{IsOrdinary, left_untyped, right_untyped, both_numbers}
use Rattle.sg_eval.proofs.TypeFacts.{only_if_is, cond_is, found_is, fits_is, there, typed_accepted, truth_typed, number_typed, text_typed, number_in_range, text_in_range, term_there}

abbrev NotFault : Value → Type 0
NotFault v = (kind : FaultKind) → v ≡ Fault kind → ⊥

-- texts of texts and of numbers
append_text : (xs ys : Bytes) → is_text xs ≡ true → is_text ys ≡ true → is_text (xs ++ ys) ≡ true
append_text [] ys h k = k
append_text (x ∷ xs) ys h k = let b = both (is_text_byte x) (is_text xs) h in rw b.0 (append_text xs ys b.1 k)

digit_byte : (c : ℕ) → 48 ≤ c → c ≤ 57 → is_text_byte c ≡ true
digit_byte c l h = by (nat_eq c 10) refl
  where
    le : (a b : ℕ) → a ≤ b → nat_le a b ≡ true
    le a b h = grind arith

    by : (b : Bool) → nat_eq c 10 ≡ b → is_text_byte c ≡ true
    by true e = rw e refl
    by false e = let low : nat_le 32 c ≡ true = le 32 c (omega arith) in let high : nat_le c 126 ≡ true = le c 126 (omega arith) in rw (e, low, high) refl

-- a remainder by a number is a number
number_abs : (z : ℤ) → is_number z ≡ true → unsigned_abs z ≤ 9223372036854775808
number_abs (pos n) h = grind arith
number_abs (negsuc n) h = grind arith

abs_number : (z : ℤ) → unsigned_abs z < 9223372036854775808 → is_number z ≡ true
abs_number (pos n) h = grind arith
abs_number (negsuc n) h = grind arith

remainder_number : (x y : ℤ) → is_number y ≡ true → 0 < unsigned_abs y → is_number (int_rem x y) ≡ true
remainder_number x y h l = let b = rem_below x y l in let a = number_abs y h in abs_number (int_rem x y) (omega (arith, a, b))

module _ (spec : Spec) (sound : IsSound spec) where
  faulted : (p : ℕ) (kind : FaultKind) → IsOfType spec p (Fault kind)
  faulted p kind = inl (kind, refl)

  typed_limited : (p : ℕ) (r : Reached) → IsOfType spec p (outcome_in r) → IsOfType spec p (outcome_in (limited r))
  typed_limited p (Gives v left) h = by (is_within v) refl
    where
      by : (b : Bool) → is_within v ≡ b → IsOfType spec p (cond (is_within v) v (Fault Size))
      by true e = rw e h
      by false e = rw e (faulted p Size)

  typed_then : (p : ℕ) (r : Reached) (go : Value → ℕ → Reached) → ((v : Value) (l : ℕ) → outcome_in r ≡ v → NotFault v → IsOfType spec p (outcome_in (go v l))) → IsOfType spec p (outcome_in (then_with r go))
  typed_then p (Gives (Fault kind) l) go h = faulted p kind
  typed_then p (Gives (Truth b) l) go h = h (Truth b) l refl (λ k e. cc)
  typed_then p (Gives (Number z) l) go h = h (Number z) l refl (λ k e. cc)
  typed_then p (Gives (Chars s) l) go h = h (Chars s) l refl (λ k e. cc)
  typed_then p (Gives (Tree op vs) l) go h = h (Tree op vs) l refl (λ k e. cc)

  typed_row_with : (p : ℕ) (r : Reached) (next : Value → ℕ → Operands) (go : List Value → ℕ → Reached) → ((v : Value) (l : ℕ) → outcome_in r ≡ v → NotFault v → IsOfType spec p (outcome_in (with_row (next v l) go))) → IsOfType spec p (outcome_in (with_row (row_with r next) go))
  typed_row_with p (Gives (Fault kind) l) next go h = faulted p kind
  typed_row_with p (Gives (Truth b) l) next go h = h (Truth b) l refl (λ k e. cc)
  typed_row_with p (Gives (Number z) l) next go h = h (Number z) l refl (λ k e. cc)
  typed_row_with p (Gives (Chars s) l) next go h = h (Chars s) l refl (λ k e. cc)
  typed_row_with p (Gives (Tree op vs) l) next go h = h (Tree op vs) l refl (λ k e. cc)

  typed_choose : (p : ℕ) (v : Value) (chosen other : ℕ → Reached) (left : ℕ) → ((l : ℕ) → IsOfType spec p (outcome_in (chosen l))) → ((l : ℕ) → IsOfType spec p (outcome_in (other l))) → IsOfType spec p (outcome_in (choose v chosen other left))
  typed_choose p (Truth true) chosen other left h k = h left
  typed_choose p (Truth false) chosen other left h k = k left
  typed_choose p (Number z) chosen other left h k = faulted p NoMatch
  typed_choose p (Chars s) chosen other left h k = faulted p NoMatch
  typed_choose p (Tree op vs) chosen other left h k = faulted p NoMatch
  typed_choose p (Fault kind) chosen other left h k = faulted p NoMatch

  typed_if_bound : (p : ℕ) (o : Option (List Value)) (here : List Value → ℕ → Reached) (later : ℕ → Reached) (left : ℕ) → ((bs : List Value) → o ≡ Some bs → IsOfType spec p (outcome_in (here bs left))) → IsOfType spec p (outcome_in (later left)) → IsOfType spec p (outcome_in (if_bound o here later left))
  typed_if_bound p (Some bs) here later left h k = h bs refl
  typed_if_bound p None here later left h k = k

  -- operations
  typed_in_range : (z : ℤ) → IsOfType spec numbers (in_range z)
  typed_in_range z = by (is_number z) refl
    where
      by : (b : Bool) → is_number z ≡ b → IsOfType spec numbers (cond (is_number z) (Number z) (Fault Overflow))
      by true e = rw e (number_typed spec sound z e)
      by false e = rw e (faulted numbers Overflow)

  typed_converted : (o : Option ℤ) → IsOfType spec numbers (converted o)
  typed_converted None = faulted numbers Convert
  typed_converted (Some z) = by (is_number z) refl
    where
      by : (b : Bool) → is_number z ≡ b → IsOfType spec numbers (cond (is_number z) (Number z) (Fault Convert))
      by true e = rw e (number_typed spec sound z e)
      by false e = rw e (faulted numbers Convert)

  constant_typed : (v : Value) (p : ℕ) → constant_type v ≡ Some p → IsOfType spec p v
  constant_typed (Truth b) p h = let e : truths ≡ p = cc in subst (λ q. IsOfType spec q (Truth b)) e (truth_typed spec sound b)
  constant_typed (Number z) p h = let o = only_if_is (is_number z) numbers p h in subst (λ q. IsOfType spec q (Number z)) o.1 (number_typed spec sound z o.0)
  constant_typed (Chars s) p h = let o = only_if_is (is_text s) texts p h in subst (λ q. IsOfType spec q (Chars s)) o.1 (text_typed spec sound s o.0)
  constant_typed (Tree op vs) p h = cc
  constant_typed (Fault kind) p h = cc

  digits_text : (ds : Bytes) → AllDigits 10 ds → is_text ds ≡ true
  digits_text [] h = refl
  digits_text (c ∷ cs) h = let d = digit_at (c ∷ cs) 0 h (omega arith) in rw (digit_byte c d.0 d.1) (digits_text cs h.1)

  number_text : (z : ℤ) → is_number z ≡ true → is_text (signed_decimal z) ≡ true
  number_text (pos n) h = digits_text (decimal n) (decimal_is_IsNumeral n (let l : n < 2 ^ 63 = grind arith in omega (arith, l))).0.1
  number_text (negsuc n) h = digits_text (decimal (suc n)) (decimal_is_IsNumeral (suc n) (let l : n < 2 ^ 63 = grind arith in omega (arith, l))).0.1

  length_number : (s : Bytes) → is_within (Chars s) ≡ true → is_number (pos (length s)) ≡ true
  length_number s h =
      let b = both (nat_le (size_of (Chars s)) 65536) (nat_le (depth_of (Chars s)) 1024) h in
      let l : size_of (Chars s) ≤ 65536 = grind arith in
      grind arith

  applied_typed : (f : Unary) (found : Option ℕ) (p : ℕ) (v : Value) → unary_type spec f found ≡ Some p → ((q : ℕ) → found ≡ Some q → IsOfType spec q v) → is_within v ≡ true → IsOfType spec p (applied f v)
  applied_typed Paren found p v h t w = t p h
  applied_typed Negative found p (Number z) h t w = let e = fits_is spec numbers numbers p found h in subst (λ q. IsOfType spec q (in_range (neg_ℤ z))) e.3 (typed_in_range (neg_ℤ z))
  applied_typed Not found p (Truth b) h t w = let e = fits_is spec truths truths p found h in subst (λ q. IsOfType spec q (Truth (not b))) e.3 (truth_typed spec sound (not b))
  applied_typed TextToNumber found p (Chars s) h t w = let e = fits_is spec texts numbers p found h in subst (λ q. IsOfType spec q (converted (integer s))) e.3 (typed_converted (integer s))
  applied_typed NumberToText found p (Number z) h t w = let e = fits_is spec numbers texts p found h in subst (λ q. IsOfType spec q (Chars (signed_decimal z))) e.3 (text_typed spec sound (signed_decimal z) (number_text z (number_in_range spec sound e.0 z (t e.0 e.1))))
  applied_typed TextLength found p (Chars s) h t w = let e = fits_is spec texts numbers p found h in subst (λ q. IsOfType spec q (Number (pos (length s)))) e.3 (number_typed spec sound (pos (length s)) (length_number s w))
  applied_typed f found p v h t w = faulted p NoMatch

  -- strict operators
  ordinary_typed : (sign : Sign) (p : ℕ) (x y : Value) → IsOrdinary sign → ((a b : ℤ) → IsOfType spec p (arithmetic sign a b)) → IsOfType spec p (combined sign x y)
  ordinary_typed sign p (Number a) (Number b) o h = subst (IsOfType spec p) (sym (both_numbers sign a b o)) (h a b)
  ordinary_typed sign p (Number a) y o h = subst (IsOfType spec p) (sym (right_untyped sign (Number a) y o refl)) (faulted p NoMatch)
  ordinary_typed sign p x y o h = subst (IsOfType spec p) (sym (left_untyped sign x y o refl)) (faulted p NoMatch)

  remainder_in : (x y : ℤ) → is_number (int_rem x y) ≡ true → IsOfType spec numbers (cond (is_number (int_div x y)) (Number (int_rem x y)) (Fault Overflow))
  remainder_in x y h = by (is_number (int_div x y)) refl
    where
      by : (b : Bool) → is_number (int_div x y) ≡ b → IsOfType spec numbers (cond (is_number (int_div x y)) (Number (int_rem x y)) (Fault Overflow))
      by true e = rw e (number_typed spec sound (int_rem x y) h)
      by false e = rw e (faulted numbers Overflow)

  remainder_typed : (x y : ℤ) → is_number y ≡ true → IsOfType spec numbers (arithmetic Rem x y)
  remainder_typed x (pos zero) h = faulted numbers Divide
  remainder_typed x (pos (suc n)) h = remainder_in x (pos (suc n)) (remainder_number x (pos (suc n)) h (omega arith))
  remainder_typed x (negsuc n) h = remainder_in x (negsuc n) (remainder_number x (negsuc n) h (omega arith))

  quotient_typed : (x y : ℤ) → IsOfType spec numbers (arithmetic Div x y)
  quotient_typed x (pos zero) = faulted numbers Divide
  quotient_typed x (pos (suc n)) = typed_in_range (int_div x (pos (suc n)))
  quotient_typed x (negsuc n) = typed_in_range (int_div x (negsuc n))

  binary_typed : (sign : Sign) (q r p : ℕ) (x y : Value) → binary_type spec sign q r ≡ Some p → IsOfType spec q x → IsOfType spec r y → IsOfType spec p (combined sign x y)
  binary_typed Equal q r p x y h t u = let e = only_if_is (agree spec q r) truths p h in subst (λ s. IsOfType spec s (combined Equal x y)) e.1 (truth_typed spec sound (same_value x y))
  binary_typed Unequal q r p x y h t u = let e = only_if_is (agree spec q r) truths p h in subst (λ s. IsOfType spec s (combined Unequal x y)) e.1 (truth_typed spec sound (not (same_value x y)))
  binary_typed Join q r p (Chars x) (Chars y) h t u = let e = only_if_is _ texts p h in subst (λ s. IsOfType spec s (Chars (x ++ y))) e.1 (text_typed spec sound (x ++ y) (append_text x y (text_in_range spec sound q x t) (text_in_range spec sound r y u)))
  binary_typed Join q r p (Number a) (Number b) h t u = faulted p NoMatch
  binary_typed Add q r p x y h t u = let e = only_if_is _ numbers p h in subst (λ s. IsOfType spec s (combined Add x y)) e.1 (ordinary_typed Add numbers x y (record { equal = λ z. cc; unequal = λ z. cc; join = λ z. cc }) (λ a b. typed_in_range (a +ℤ b)))
  binary_typed Sub q r p x y h t u = let e = only_if_is _ numbers p h in subst (λ s. IsOfType spec s (combined Sub x y)) e.1 (ordinary_typed Sub numbers x y (record { equal = λ z. cc; unequal = λ z. cc; join = λ z. cc }) (λ a b. typed_in_range (a -ℤ b)))
  binary_typed Mul q r p x y h t u = let e = only_if_is _ numbers p h in subst (λ s. IsOfType spec s (combined Mul x y)) e.1 (ordinary_typed Mul numbers x y (record { equal = λ z. cc; unequal = λ z. cc; join = λ z. cc }) (λ a b. typed_in_range (a *ℤ b)))
  binary_typed Div q r p x y h t u = let e = only_if_is _ numbers p h in subst (λ s. IsOfType spec s (combined Div x y)) e.1 (ordinary_typed Div numbers x y (record { equal = λ z. cc; unequal = λ z. cc; join = λ z. cc }) quotient_typed)
  binary_typed Rem q r p (Number a) (Number b) h t u = let e = only_if_is _ numbers p h in subst (λ s. IsOfType spec s (arithmetic Rem a b)) e.1 (remainder_typed a b (number_in_range spec sound r b u))
  binary_typed Below q r p x y h t u = let e = only_if_is _ truths p h in subst (λ s. IsOfType spec s (combined Below x y)) e.1 (ordinary_typed Below truths x y (record { equal = λ z. cc; unequal = λ z. cc; join = λ z. cc }) (λ a b. truth_typed spec sound (int_lt a b)))
  binary_typed AtMost q r p x y h t u = let e = only_if_is _ truths p h in subst (λ s. IsOfType spec s (combined AtMost x y)) e.1 (ordinary_typed AtMost truths x y (record { equal = λ z. cc; unequal = λ z. cc; join = λ z. cc }) (λ a b. truth_typed spec sound (int_le a b)))
  binary_typed Above q r p x y h t u = let e = only_if_is _ truths p h in subst (λ s. IsOfType spec s (combined Above x y)) e.1 (ordinary_typed Above truths x y (record { equal = λ z. cc; unequal = λ z. cc; join = λ z. cc }) (λ a b. truth_typed spec sound (int_lt b a)))
  binary_typed AtLeast q r p x y h t u = let e = only_if_is _ truths p h in subst (λ s. IsOfType spec s (combined AtLeast x y)) e.1 (ordinary_typed AtLeast truths x y (record { equal = λ z. cc; unequal = λ z. cc; join = λ z. cc }) (λ a b. truth_typed spec sound (int_le b a)))
  binary_typed sign q r p x y h t u = faulted p NoMatch

  append_nil : (xs : List ℕ) → xs ++ [] ≡ xs
  append_nil [] = refl
  append_nil (x ∷ xs) = ap (λ l. x ∷ l) (append_nil xs)

  -- bindings
  binding_typed : (G : List ℕ) (env : List Value) (k p : ℕ) → AreOfTypes spec G env → slice_get G k ≡ Some p → IsOfType spec p (unwrap_or (slice_get env k) untyped)
  binding_typed [] env k p t h = cc
  binding_typed (q ∷ G) [] k p t h = absurd t
  binding_typed (q ∷ G) (v ∷ env) zero p t h = let e : q ≡ p = cc in subst (λ r. IsOfType spec r v) e t.0
  binding_typed (q ∷ G) (v ∷ env) (suc k) p t h = binding_typed G env k p t.1 h

  more_typed : (G Hs : List ℕ) (env more : List Value) → AreOfTypes spec G env → AreOfTypes spec Hs more → AreOfTypes spec (G ++ Hs) (env ++ more)
  more_typed [] Hs [] more t u = u
  more_typed [] Hs (v ∷ env) more t u = absurd t
  more_typed (q ∷ G) Hs [] more t u = absurd t
  more_typed (q ∷ G) Hs (v ∷ env) more t u = (t.0, more_typed G Hs env more t.1 u)

  -- values that are those of terms
  abbrev HasTerm : ℕ → Value → Type 0
  HasTerm p v = (t : Term) × Fits spec t p × (value_of t ≡ v)

  abbrev HaveTerms : List ℕ → List Value → Type 0
  HaveTerms [] [] = ⊤
  HaveTerms (p ∷ ps) (v ∷ vs) = HasTerm p v × HaveTerms ps vs
  HaveTerms ps vs = ⊥

  have_push : (ps : List ℕ) (vs : List Value) (p : ℕ) (v : Value) → HaveTerms ps vs → HasTerm p v → HaveTerms (ps ++ p ∷ []) (vs ++ v ∷ [])
  have_push [] [] p v h t = (t, tt)
  have_push [] (w ∷ vs) p v h t = absurd h
  have_push (q ∷ ps) [] p v h t = absurd h
  have_push (q ∷ ps) (w ∷ vs) p v h t = (h.0, have_push ps vs p v h.1 t)

  all_terms : (ps : List ℕ) (vs : List Value) → HaveTerms ps vs → (ts : Terms) × AllFit spec ts ps × (values_of ts ≡ row_of vs)
  all_terms [] [] h = (NoTerm, tt, refl)
  all_terms [] (w ∷ vs) h = absurd h
  all_terms (q ∷ ps) [] h = absurd h
  all_terms (q ∷ ps) (w ∷ vs) h = let r = all_terms ps vs h.1 in (AndTerm h.0.0 r.0, (h.0.1, r.1), (λ i. AndValue (h.0.2 i) (r.2 i)))

  have_types : (ps : List ℕ) (vs : List Value) → HaveTerms ps vs → AreOfTypes spec ps vs
  have_types [] [] h = tt
  have_types [] (w ∷ vs) h = absurd h
  have_types (q ∷ ps) [] h = absurd h
  have_types (q ∷ ps) (w ∷ vs) h = (inr (inl h.0), have_types ps vs h.1)

  tree_typed : (op p : ℕ) (vs : List Value) → phylum_of spec.ops op ≡ Some p → HaveTerms (args_of spec.ops op) vs → IsOfType spec p (Tree op (row_of vs))
  tree_typed op p vs is h = let r = all_terms (args_of spec.ops op) vs h in inr (inl (Node op 0 false r.0, node_fits spec op p r.0 is r.1, ap (Tree op) r.2))

  connected_typed : (how : Connective) (v : Value) (second : ℕ → Reached) (left : ℕ) → ((l : ℕ) → IsOfType spec truths (outcome_in (second l))) → IsOfType spec truths (outcome_in (connected how v second left))
  connected_typed Both v second left h = typed_choose truths v second (Gives (Truth false)) left h (λ l. truth_typed spec sound false)
  connected_typed Either v second left h = typed_choose truths v (Gives (Truth true)) second left (λ l. truth_typed spec sound true) h

  cons_typed : (op q r p : ℕ) (v w : Value) → NotFault v → NotFault w → IsOfType spec q v → IsOfType spec r w → cons_type spec q r (phylum_of spec.ops op) (args_of spec.ops op) ≡ Some p → IsOfType spec p (Tree op (row_of (v ∷ w ∷ [])))
  cons_typed op q r p v w n m t u h = by (phylum_of spec.ops op) refl (args_of spec.ops op) refl h
    where
      by : (o : Option ℕ) → phylum_of spec.ops op ≡ o → (ks : List ℕ) → args_of spec.ops op ≡ ks → cons_type spec q r o ks ≡ Some p → IsOfType spec p (Tree op (row_of (v ∷ w ∷ [])))
      by None e ks f h = cc
      by (Some l) e [] f h = cc
      by (Some l) e (a ∷ []) f h = cc
      by (Some l) e (a ∷ b ∷ c ∷ ks) f h = cc
      by (Some l) e (a ∷ b ∷ []) f h =
          let o = only_if_is _ l p h in
          let x = both (has_shape spec.phyla is_list_shape l) (nat_eq l b && (is_accepted spec q a && is_accepted spec r l)) o.0 in
          let y = both (nat_eq l b) (is_accepted spec q a && is_accepted spec r l) x.1 in
          let z = both (is_accepted spec q a) (is_accepted spec r l) y.1 in
          let same : l ≡ b = nat_is l b y.0 in
          tree_typed op p (v ∷ w ∷ []) (e ∙ ap Some o.1)
          (subst (λ l2. HaveTerms l2 (v ∷ w ∷ [])) (sym f)
          (term_there spec sound a v n (typed_accepted spec sound q a v z.0 t), (term_there spec sound b w m (subst (λ k. IsOfType spec k w) same (typed_accepted spec sound r l w z.1 u)), tt)))

  made_typed : (made : Made) (p : ℕ) → is_usable spec p ≡ true → IsOfType spec p (made_value spec made p)
  made_typed made p u = by (slice_get spec.phyla p) refl
    where
      typed : (made : Made) → p < length spec.phyla → IsOfType spec p (made_value spec made p)
      typed Completing l = inr (inl (_, completing_fits spec sound.shapes p l, refl))
      typed Placeholder l = inr (inl (_, placeholder_fits spec sound.shapes p l, refl))

      by : (o : Option Phylum) → slice_get spec.phyla p ≡ o → IsOfType spec p (made_value spec made p)
      by None e = let n : false ≡ true = rw e at u in cc
      by (Some x) e = typed made (slice_get_within spec.phyla p x e)

  -- patterns
  no_tree : (s : Shape) (op : ℕ) (vs : Values) → MayHold spec s (Tree op vs) → ⊥
  no_tree Truths op vs h = h
  no_tree Numbers op vs h = h
  no_tree Texts op vs h = h
  no_tree (Lexemes l) op vs h = h
  no_tree s op vs h = h

  term_of_tree : (t : Term) (p op : ℕ) (vs : Values) → Fits spec t p → value_of t ≡ Tree op vs → (ts : Terms) × AllFit spec ts (args_of spec.ops op) × (values_of ts ≡ vs)
  term_of_tree (Leaf q w) p op vs f e =
      let m = there (slice_get spec.phyla p) _ f.1 in
      absurd (no_tree m.0.shape op vs (subst (MayHold spec m.0.shape) e m.2))
  term_of_tree (Node q scheme elided ts) p op vs f e =
      let o = there (slice_get spec.ops q) _ f in
      let same : q ≡ op = cc in
      let rest : values_of ts ≡ vs = cc in
      (ts, subst (λ k. AllFit spec ts (args_of spec.ops k)) same (subst (AllFit spec ts) (sym (ap (λ x. unwrap_or (option_map (λ (y : Operator). y.args) x) []) o.1)) o.2.2), rest)

  nothing_is : (b : Bool) (bs : List Value) → nothing_if b ≡ Some bs → bs ≡ []
  nothing_is true bs h = cc
  nothing_is false bs h = cc

  cond_nothing : (b : Bool) (Hs : List ℕ) → cond b (Some []) None ≡ Some Hs → [] ≡ Hs
  cond_nothing true Hs h = cc
  cond_nothing false Hs h = cc

  mutual
    pub pattern_typed : (x : Pattern) (p : ℕ) (v : Value) (Hs : List ℕ) (bs : List Value) → bound_types spec x p ≡ Some Hs → bound_by spec x v ≡ Some bs → IsOfType spec p v → AreOfTypes spec Hs bs
    pattern_typed (Exactly w) p v Hs bs h k t =
        let a : [] ≡ Hs = cond_nothing _ Hs h in
        rw (← a, nothing_is (same_value w v) bs k) tt
    pattern_typed Anything p v Hs bs h k t = let a : [] ≡ Hs = cc in let b : [] ≡ bs = cc in rw (← a, ← b) tt
    pattern_typed Variable p v Hs bs h k t = let a : p ∷ [] ≡ Hs = cc in let b : v ∷ [] ≡ bs = cc in rw (← a, ← b) (t, tt)
    pattern_typed (MadeAs made q) p v Hs bs h k t =
        let a : [] ≡ Hs = cond_nothing _ Hs h in
        rw (← a, nothing_is (same_value (made_value spec made q) v) bs k) tt
    pattern_typed (Applied op ps) p (Tree q vs) Hs bs h k t =
        let e = cond_is (nat_eq op q) (bound_by_all spec ps vs) bs k in
        let types = (cond_is _ (bound_types_all spec ps (args_of spec.ops op)) Hs h).1 in
        let m = term_there spec sound p (Tree q vs) (λ kind n. cc) t in
        let r = term_of_tree m.0 p q vs m.1 m.2 in
        let same : op ≡ q = nat_is op q e.0 in
        patterns_typed ps (args_of spec.ops op) r.0 Hs bs types (ap (bound_by_all spec ps) r.2 ∙ e.1) (subst (λ j. AllFit spec r.0 (args_of spec.ops j)) (sym same) r.1)
    pattern_typed (Applied op ps) p (Truth b) Hs bs h k t = cc
    pattern_typed (Applied op ps) p (Number z) Hs bs h k t = cc
    pattern_typed (Applied op ps) p (Chars s) Hs bs h k t = cc
    pattern_typed (Applied op ps) p (Fault kind) Hs bs h k t = cc

    patterns_typed : (xs : Patterns) (ps : List ℕ) (ts : Terms) (Hs : List ℕ) (bs : List Value) → bound_types_all spec xs ps ≡ Some Hs → bound_by_all spec xs (values_of ts) ≡ Some bs → AllFit spec ts ps → AreOfTypes spec Hs bs
    patterns_typed NoPattern [] NoTerm Hs bs h k f = let a : [] ≡ Hs = cc in let b : [] ≡ bs = cc in rw (← a, ← b) tt
    patterns_typed NoPattern [] (AndTerm t ts) Hs bs h k f = cc
    patterns_typed NoPattern (p ∷ ps) ts Hs bs h k f = cc
    patterns_typed (AndPattern x xs) [] ts Hs bs h k f = cc
    patterns_typed (AndPattern x xs) (p ∷ ps) NoTerm Hs bs h k f = cc
    patterns_typed (AndPattern x xs) (p ∷ ps) (AndTerm t ts) Hs bs h k f =
        let a = some_of_then _ (bound_types spec x p) Hs h in
        let b = some_of_map _ (bound_types_all spec xs ps) Hs a.2 in
        let c = some_of_then _ (bound_by spec x (value_of t)) bs k in
        let d = some_of_map _ (bound_by_all spec xs (values_of ts)) bs c.2 in
        rw (← b.2, ← d.2)
        (more_typed a.0 b.0 c.0 d.0 (pattern_typed x p (value_of t) a.0 c.0 a.1 c.1 (inr (inl (t, f.0, refl)))) (patterns_typed xs ps ts b.0 d.0 b.1 d.1 f.1))

  -- an expression whose parts keep their types
  module _ (inside : Inside) (within : (e : Expr) (env : List Value) (left : ℕ) → is_within (outcome_in (inside e env left)) ≡ true)
      (same : (G : List ℕ) (e : Expr) (env : List Value) (left p : ℕ) → AreOfTypes spec G env → type_of spec G e ≡ Some p → IsOfType spec p (outcome_in (inside e env left))) where
    found_typed : (G : List ℕ) (e : Expr) (env : List Value) (left p : ℕ) → AreOfTypes spec G env → is_found spec p (type_of spec G e) ≡ true → IsOfType spec p (outcome_in (inside e env left))
    found_typed G e env left p t h =
        let f = found_is spec p (type_of spec G e) h in
        typed_accepted spec sound f.0 p _ f.2 (same G e env left f.0 t f.1)

    row_typed : (p : ℕ) (go : List Value → ℕ → Reached) (G : List ℕ) (env : List Value) (whole : List ℕ) → AreOfTypes spec G env → ((vs : List Value) (l : ℕ) → HaveTerms whole vs → IsOfType spec p (outcome_in (go vs l)))
        → (es : Exprs) (ps ds : List ℕ) (done : List Value) (left : ℕ) → all_fit spec G es ps ≡ true → HaveTerms ds done → ds ++ ps ≡ whole → IsOfType spec p (outcome_in (with_row (row_reached inside done es env left) go))
    row_typed p go G env whole t h NoExpr [] ds done left fit have is = h done left (subst (λ l. HaveTerms l done) (sym (append_nil ds) ∙ is) have)
    row_typed p go G env whole t h NoExpr (q ∷ ps) ds done left fit have is = cc
    row_typed p go G env whole t h (AndExpr e es) [] ds done left fit have is = cc
    row_typed p go G env whole t h (AndExpr e es) (q ∷ ps) ds done left fit have is =
        let f = both (is_found spec q (type_of spec G e)) (all_fit spec G es ps) fit in
        typed_row_with p (inside e env left) (λ v l. row_reached inside (done ++ v ∷ []) es env l) go
        (λ v l is_v n. row_typed p go G env whole t h es ps (ds ++ q ∷ []) (done ++ v ∷ []) l f.1
        (have_push ds done q v have (term_there spec sound q v n (subst (IsOfType spec q) is_v (found_typed G e env left q t f.0))))
        (append_assoc ds (q ∷ []) ps ∙ is))

    rest_typed : (cs : Cases) (G : List ℕ) (q r : ℕ) (v : Value) (env : List Value) (left : ℕ) → AreOfTypes spec G env → IsOfType spec q v → rest_fits spec G q r cs ≡ true → IsOfType spec r (outcome_in (first_case spec inside v cs env left))
    rest_typed NoCase G q r v env left t u h = faulted r NoMatch
    rest_typed (Default e) G q r v env left t u h = found_typed G e env left r t h
    rest_typed (Case x e rest) G q r v env left t u h =
        let b = both (is_found spec r (option_and_then (λ Hs. type_of spec (G ++ Hs) e) (bound_types spec x q))) (rest_fits spec G q r rest) h in
        let f = found_is spec r (option_and_then (λ Hs. type_of spec (G ++ Hs) e) (bound_types spec x q)) b.0 in
        let o = some_of_then (λ Hs. type_of spec (G ++ Hs) e) (bound_types spec x q) f.0 f.1 in
        typed_if_bound r (bound_by spec x v) (λ bs. inside e (env ++ bs)) (first_case spec inside v rest env) left
        (λ bs is. typed_accepted spec sound f.0 r _ f.2 (same (G ++ o.0) e (env ++ bs) left f.0 (more_typed G o.0 env bs t (pattern_typed x q v o.0 bs o.1 is u)) o.2))
        (rest_typed rest G q r v env left t u b.1)

    cases_typed : (cs : Cases) (G : List ℕ) (q r : ℕ) (v : Value) (env : List Value) (left : ℕ) → AreOfTypes spec G env → IsOfType spec q v → case_type spec G q cs ≡ Some r → IsOfType spec r (outcome_in (first_case spec inside v cs env left))
    cases_typed NoCase G q r v env left t u h = cc
    cases_typed (Default e) G q r v env left t u h = cc
    cases_typed (Case x e rest) G q r v env left t u h =
        let a = some_of_then (λ s. only_if (rest_fits spec G q s rest) s) (option_and_then (λ Hs. type_of spec (G ++ Hs) e) (bound_types spec x q)) r h in
        let b = only_if_is (rest_fits spec G q a.0 rest) a.0 r a.2 in
        let o = some_of_then (λ Hs. type_of spec (G ++ Hs) e) (bound_types spec x q) a.0 a.1 in
        subst (λ s. IsOfType spec s (outcome_in (first_case spec inside v (Case x e rest) env left))) b.1
        (typed_if_bound a.0 (bound_by spec x v) (λ bs. inside e (env ++ bs)) (first_case spec inside v rest env) left
        (λ bs is. same (G ++ o.0) e (env ++ bs) left a.0 (more_typed G o.0 env bs t (pattern_typed x q v o.0 bs o.1 is u)) o.2)
        (rest_typed rest G q a.0 v env left t u b.0))

    body_typed : (f : ℕ) (g : Function) (vs : List Value) (left : ℕ) → slice_get spec.functions f ≡ Some g → AreOfTypes spec g.params vs → IsOfType spec g.result (outcome_in (body_reached inside (body_of spec f) vs left))
    body_typed f g vs left h t =
        let k = slice_get_within spec.functions f g h in
        let typed : is_typed spec g.params g.body g.result ≡ true = subst (λ (x : Function). is_typed spec x.params x.body x.result ≡ true) (get_or_from_slice_get spec.functions f g g h) (sound.typed.functions f g k) in
        let e = found_is spec g.result (option_and_then (type_of spec g.params) (slice_get spec.exprs g.body)) typed in
        let o = some_of_then (type_of spec g.params) (slice_get spec.exprs g.body) e.0 e.1 in
        subst (λ x. IsOfType spec g.result (outcome_in (body_reached inside x vs left)))
        (sym (ap (option_and_then (λ (y : Function). slice_get spec.exprs y.body)) h ∙ o.1))
        (typed_accepted spec sound e.0 g.result _ e.2 (same g.params o.0 vs left e.0 t o.2))

    step_typed : (G : List ℕ) (e : Expr) (env : List Value) (left p : ℕ) → AreOfTypes spec G env → type_of spec G e ≡ Some p → IsOfType spec p (outcome_in (step spec inside e env left))
    step_typed G (Constant v) env left p t h = constant_typed v p h
    step_typed G (Named k) env left p t h = binding_typed G env k p t h
    step_typed G (MadeOf made q) env left p t h = let o = only_if_is (is_usable spec q) q p h in subst (λ r. IsOfType spec r (made_value spec made q)) o.1 (made_typed made q o.0)
    step_typed G (Single f a) env left p t h =
        typed_then p (inside a env left) (λ v l. Gives (applied f v) l)
        (λ v l is n. applied_typed f (type_of spec G a) p v h (λ q k. subst (IsOfType spec q) is (same G a env left q t k)) (subst (λ w. is_within w ≡ true) is (within a env left)))
    step_typed G (Binary sign a b) env left p t h =
        let x = some_of_then (λ q. option_and_then (binary_type spec sign q) (type_of spec G b)) (type_of spec G a) p h in
        let y = some_of_then (binary_type spec sign x.0) (type_of spec G b) p x.2 in
        typed_then p (inside a env left) (λ v l. then_with (inside b env l) (λ w m. Gives (combined sign v w) m))
        (λ v l is n. typed_then p (inside b env l) (λ w m. Gives (combined sign v w) m)
        (λ w m js k. binary_typed sign x.0 y.0 p v w y.2 (subst (IsOfType spec x.0) is (same G a env left x.0 t x.1)) (subst (IsOfType spec y.0) js (same G b env l y.0 t y.1))))
    step_typed G (Logical how a b) env left p t h =
        let o = only_if_is (is_found spec truths (type_of spec G a) && is_found spec truths (type_of spec G b)) truths p h in
        let f = both (is_found spec truths (type_of spec G a)) (is_found spec truths (type_of spec G b)) o.0 in
        subst (λ q. IsOfType spec q (outcome_in (step spec inside (Logical how a b) env left))) o.1
        (typed_then truths (inside a env left) (λ v l. connected how v (inside b env) l) (λ v l is n. connected_typed how v (inside b env) l (λ m. found_typed G b env m truths t f.1)))
    step_typed G (Cons op a b) env left p t h =
        let x = some_of_then (λ q. option_and_then (λ r. cons_type spec q r (phylum_of spec.ops op) (args_of spec.ops op)) (type_of spec G b)) (type_of spec G a) p h in
        let y = some_of_then (λ r. cons_type spec x.0 r (phylum_of spec.ops op) (args_of spec.ops op)) (type_of spec G b) p x.2 in
        typed_then p (inside a env left) (λ v l. then_with (inside b env l) (λ w m. Gives (Tree op (row_of (v ∷ w ∷ []))) m))
        (λ v l is n. typed_then p (inside b env l) (λ w m. Gives (Tree op (row_of (v ∷ w ∷ []))) m)
        (λ w m js k. cons_typed op x.0 y.0 p v w n k (subst (IsOfType spec x.0) is (same G a env left x.0 t x.1)) (subst (IsOfType spec y.0) js (same G b env l y.0 t y.1)) y.2))
    step_typed G (Choice c a b) env left p t h =
        let o = cond_is (is_found spec truths (type_of spec G c)) _ p h in
        let x = some_of_then (λ q. where_fits spec q q (type_of spec G b)) (type_of spec G a) p o.1 in
        let y = fits_is spec x.0 x.0 p (type_of spec G b) x.2 in
        typed_then p (inside c env left) (λ v l. choose v (inside a env) (inside b env) l)
        (λ v l is n. typed_choose p v (inside a env) (inside b env) l
        (λ m. subst (λ q. IsOfType spec q (outcome_in (inside a env m))) y.3 (same G a env m x.0 t x.1))
        (λ m. subst (λ q. IsOfType spec q (outcome_in (inside b env m))) y.3 (typed_accepted spec sound y.0 x.0 _ y.2 (same G b env m y.0 t y.1))))
    step_typed G (Apply op es) env left p t h =
        let o = cond_is (all_fit spec G es (args_of spec.ops op)) (phylum_of spec.ops op) p h in
        row_typed p (λ vs l. Gives (Tree op (row_of vs)) l) G env (args_of spec.ops op) t (λ vs l have. tree_typed op p vs o.1 have) es (args_of spec.ops op) [] [] left o.0 tt refl
    step_typed G (Call f es) env left p t h =
        let g = some_of_then (λ (y : Function). only_if (all_fit spec G es y.params) y.result) (slice_get spec.functions f) p h in
        let o = only_if_is (all_fit spec G es g.0.params) g.0.result p g.2 in
        subst (λ q. IsOfType spec q (outcome_in (step spec inside (Call f es) env left))) o.1
        (row_typed g.0.result (body_reached inside (body_of spec f)) G env g.0.params t (λ vs l have. body_typed f g.0 vs l g.1 (have_types g.0.params vs have)) es g.0.params [] [] left o.0 tt refl)
    step_typed G (Let a b) env left p t h =
        let x = some_of_then (λ q. type_of spec (G ++ q ∷ []) b) (type_of spec G a) p h in
        typed_then p (inside a env left) (λ v l. inside b (env ++ v ∷ []) l)
        (λ v l is n. same (G ++ x.0 ∷ []) b (env ++ v ∷ []) l p (more_typed G (x.0 ∷ []) env (v ∷ []) t (subst (IsOfType spec x.0) is (same G a env left x.0 t x.1), tt)) x.2)
    step_typed G (With a cases) env left p t h =
        let x = some_of_then (λ q. case_type spec G q cases) (type_of spec G a) p h in
        typed_then p (inside a env left) (λ v l. first_case spec inside v cases env l)
        (λ v l is n. cases_typed cases G x.0 p v env l t (subst (IsOfType spec x.0) is (same G a env left x.0 t x.1)) x.2)

  value_typed : (room : ℕ) (G : List ℕ) (e : Expr) (env : List Value) (left p : ℕ) → AreOfTypes spec G env → type_of spec G e ≡ Some p → IsOfType spec p (outcome_in (value_within spec room e env left))
  value_typed zero G e env zero p t h = faulted p Fuel
  value_typed (suc room) G e env zero p t h = faulted p Fuel
  value_typed zero G e env (suc left) p t h = faulted p Depth
  value_typed (suc room) G e env (suc left) p t h = typed_limited p (step spec (value_within spec room) e env left) (step_typed (value_within spec room) (outcome_within spec room) (value_typed room) G e env left p t h)

  outcome_typed : (e : ℕ) (G : List ℕ) (bound : List Value) (p : ℕ) → AreOfTypes spec G bound → is_typed spec G e p ≡ true → IsOfType spec p (outcome_of spec e bound)
  unfolding outcome_of
  outcome_typed e G bound p t h =
      let f = found_is spec p (option_and_then (type_of spec G) (slice_get spec.exprs e)) h in
      let o = some_of_then (type_of spec G) (slice_get spec.exprs e) f.0 f.1 in
      subst (λ x. IsOfType spec p (outcome_in (body_reached (value_within spec 2048) x bound 100000))) (sym o.1)
      (typed_accepted spec sound f.0 p _ f.2 (value_typed 2048 G o.0 bound 100000 f.0 t o.2))

  -- equations, transforms and input productions
  pub rule_typed : (n : ℕ) (r : Rule) → slice_get spec.rules n ≡ Some r → (G : List ℕ) (args : List Value) (p : ℕ)
      → types_at spec r.op r.args ≡ Some G → AreOfTypes spec G args → slot_type spec r.op r.target.at r.target.slot ≡ Some p → IsOfType spec p (outcome spec r args)
  rule_typed n r h G args p types t slot =
      let k = slice_get_within spec.rules n r h in
      let typed : is_rule_typed spec r ≡ true = subst (λ (x : Rule). is_rule_typed spec x ≡ true) (get_or_from_slice_get spec.rules n r r h) (sound.rules.typed n r k) in
      outcome_typed r.expr G args p t (rw (slot, types) at typed)

  pub transform_typed : (n : ℕ) (x : Transform) → slice_get spec.transforms n ≡ Some x → (G : List ℕ) (bound : List Value)
      → bound_types spec x.pattern x.phylum ≡ Some G → AreOfTypes spec G bound → IsOfType spec x.phylum (outcome_of spec x.expr bound)
  transform_typed n x h G bound types t =
      let k = slice_get_within spec.transforms n x h in
      let typed = subst (λ (y : Transform). MatchOption (bound_types spec y.pattern y.phylum) ⊥ (λ Hs. IsTrue (is_typed spec Hs y.expr y.phylum))) (get_or_from_slice_get spec.transforms n x x h) (sound.typed.transforms n x k) in
      outcome_typed x.expr G bound x.phylum t (subst (λ o. MatchOption o ⊥ (λ Hs. IsTrue (is_typed spec Hs x.expr x.phylum))) types typed)

  pub production_typed : (n : ℕ) (r : Production) → slice_get spec.productions n ≡ Some r → (G : List ℕ) (bound : List Value)
      → symbol_types spec r.right ≡ Some G → AreOfTypes spec G bound → IsOfType spec r.of (outcome_of spec r.expr bound)
  production_typed n r h G bound types t =
      let k = slice_get_within spec.productions n r h in
      let typed = subst (λ (y : Production). MatchOption (symbol_types spec y.right) ⊥ (λ Hs. IsTrue (is_typed spec Hs y.expr y.of))) (get_or_from_slice_get spec.productions n r r h) (sound.typed.productions n r k) in
      outcome_typed r.expr G bound r.of t (subst (λ o. MatchOption o ⊥ (λ Hs. IsTrue (is_typed spec Hs r.expr r.of))) types typed)
