-- A specification whose names are those of a table has the types, terms and owed slots of the table's draft.
use Rattle.std.proofs.Common.{◌≡◌, refl, sym, ap, subst, ◌∙◌, ℕ, zero, suc, Bool, cond, not, false, ◌&&◌, ◌||◌, nat_eq, List, [], ◌∷◌, ◌++◌, map, length, Option, Some, None, slice_get}
use Rattle.std.specs.Prelude.{is_some, option_map, option_and_then, unwrap_or, bytes_eq, MatchOption}
use Rattle.std.proofs.lemmas.List.{length-map}
use Rattle.sg_kinds.specs.Terms.{Term, Node, NoTerm, AndTerm}
use Rattle.sg_kinds.specs.Expressions.{Expr, Exprs, Cases, Pattern, Patterns, Constant, Named, MadeOf, Single, Binary, Logical, Cons, Choice, Apply, Call, Let, With, NoExpr, AndExpr, NoCase, Default, Case, Exactly, Anything, Variable, MadeAs, Applied, NoPattern, AndPattern}
use Rattle.sg_kinds.specs.Specification.{truths, numbers, texts, attrs_of, args_of, locals_of, phylum_of, has_shape, is_lexical_shape, is_list_shape, is_inherited, rules_of}
use Rattle.sg_kinds.specs.Values.{Value, Chars, is_text}
use Rattle.sg_kinds.specs.Typing.{whitespace, is_accepted, is_textual, agree, is_usable, only_if, where_fits, is_found, unary_type, binary_type, cons_type, constant_fits, bound_types, bound_types_all, type_of, all_fit, case_type, rest_fits, attr_types, slots_there, slot_type, types_at}
use Rattle.sg_kinds.specs.Completing.{all_made, over, one_element, completed, completing_within}
use Rattle.sg_kinds.specs.Placeholder.{placeheld, placeholder_within}
use Rattle.sg_kinds.specs.Dependencies.{phylum_there, is_inherited_there}
use Rattle.sg_kinds.specs.Sound.{IsFinite, IsSmall, is_owed}
use Rattle.sg_kinds.specs.declared.marks.Shape.{Shape}
use Rattle.sg_kinds.specs.declared.marks.Shape.TheVariants.{Truths, Numbers, Texts, Lexemes, Ordinary, Optional, Listed, OptionalListed}
use Rattle.sg_kinds.specs.declared.marks.Sign.{Sign}
use Rattle.sg_kinds.specs.declared.marks.Sign.TheVariants.{Equal, Unequal, Below, AtMost, Above, AtLeast, Join}
use Rattle.sg_kinds.specs.declared.marks.Unary.{Unary}
use Rattle.sg_kinds.specs.declared.marks.Unary.TheVariants.{Paren, Negative, Not, TextToNumber, NumberToText, TextLength}
use Rattle.sg_kinds.specs.declared.spec.Attr.{Attr}
use Rattle.sg_kinds.specs.declared.spec.Function.{Function}
use Rattle.sg_kinds.specs.declared.spec.Local.{Local}
use Rattle.sg_kinds.specs.declared.spec.Occurrence.{Occurrence}
use Rattle.sg_kinds.specs.declared.spec.Operator.{Operator}
use Rattle.sg_kinds.specs.declared.spec.Phylum.{Phylum}
use Rattle.sg_kinds.specs.declared.spec.Spec.{Spec}
use Rattle.sg_names.specs.declared.table.Table.{Table}
use Rattle.sg_names.specs.Drafted.{drafted, without_body, without_schemes, signature_of, HasTable}

args_without : (ops : List Operator) (op : ℕ) → args_of ops op ≡ args_of (map without_schemes ops) op
args_without [] op = refl
args_without (o ∷ ops) zero = refl
args_without (o ∷ ops) (suc k) = args_without ops k

phylum_without : (ops : List Operator) (op : ℕ) → phylum_of ops op ≡ phylum_of (map without_schemes ops) op
phylum_without [] op = refl
phylum_without (o ∷ ops) zero = refl
phylum_without (o ∷ ops) (suc k) = phylum_without ops k

locals_without : (ops : List Operator) (op : ℕ) → locals_of ops op ≡ locals_of (map without_schemes ops) op
locals_without [] op = refl
locals_without (o ∷ ops) zero = refl
locals_without (o ∷ ops) (suc k) = locals_without ops k

-- the types of a function's parameters and result
abbrev called : (ℕ → List ℕ → Option ℕ) → List Function → ℕ → Option ℕ
called found functions f = option_and_then (λ (g : Function). found g.result g.params) (slice_get functions f)

called_without : (found : ℕ → List ℕ → Option ℕ) (functions : List Function) (f : ℕ) → called found functions f ≡ called found (map without_body (map signature_of functions)) f
called_without found [] f = refl
called_without found (g ∷ functions) zero = refl
called_without found (g ∷ functions) (suc k) = called_without found functions k

module _ (t : Table) (spec : Spec) (h : HasTable t spec) where
  pub args_kept : (op : ℕ) → args_of spec.ops op ≡ args_of t.ops op
  args_kept op = args_without spec.ops op ∙ ap (λ ops. args_of ops op) h.ops

  pub phylum_kept : (op : ℕ) → phylum_of spec.ops op ≡ phylum_of t.ops op
  phylum_kept op = phylum_without spec.ops op ∙ ap (λ ops. phylum_of ops op) h.ops

  pub locals_kept : (op : ℕ) → locals_of spec.ops op ≡ locals_of t.ops op
  locals_kept op = locals_without spec.ops op ∙ ap (λ ops. locals_of ops op) h.ops

  pub ops_count : length spec.ops ≡ length t.ops
  ops_count = sym (length-map spec.ops without_schemes) ∙ ap length h.ops

  called_kept : (found : ℕ → List ℕ → Option ℕ) (f : ℕ) → called found spec.functions f ≡ called found (drafted t).functions f
  called_kept found f = called_without found spec.functions f ∙ ap (λ fs. called found (map without_body fs) f) h.functions

  pub usable_kept : (p : ℕ) → is_usable spec p ≡ is_usable (drafted t) p
  usable_kept p = λ i. unwrap_or (option_map (λ (x : Phylum). not (is_lexical_shape x.shape && bytes_eq x.name whitespace)) (slice_get (h.phyla i) p)) false

  pub accepted_kept : (p wanted : ℕ) → is_accepted spec p wanted ≡ is_accepted (drafted t) p wanted
  accepted_kept p wanted = λ i. nat_eq p wanted || (has_shape (h.phyla i) is_lexical_shape p && nat_eq wanted texts)

  textual_kept : (p : ℕ) → is_textual spec p ≡ is_textual (drafted t) p
  textual_kept p = λ i. nat_eq p texts || has_shape (h.phyla i) is_lexical_shape p

  found_kept : (wanted : ℕ) (o : Option ℕ) → is_found spec wanted o ≡ is_found (drafted t) wanted o
  found_kept wanted None = refl
  found_kept wanted (Some p) = accepted_kept p wanted

  where_kept : (wanted p : ℕ) (o : Option ℕ) → where_fits spec wanted p o ≡ where_fits (drafted t) wanted p o
  where_kept wanted p None = refl
  where_kept wanted p (Some q) = λ i. only_if (accepted_kept q wanted i) p

  unary_kept : (f : Unary) (o : Option ℕ) → unary_type spec f o ≡ unary_type (drafted t) f o
  unary_kept Paren o = refl
  unary_kept Negative o = where_kept numbers numbers o
  unary_kept Not o = where_kept truths truths o
  unary_kept TextToNumber o = where_kept texts numbers o
  unary_kept NumberToText o = where_kept numbers texts o
  unary_kept TextLength o = where_kept texts numbers o

  agree_kept : (p q : ℕ) → agree spec p q ≡ agree (drafted t) p q
  agree_kept p q = λ i. nat_eq p q || (textual_kept p i && textual_kept q i)

  plain_kept : (x : ℕ × ℕ) (p q : ℕ) → only_if (is_accepted spec p x.0 && is_accepted spec q x.0) x.1 ≡ only_if (is_accepted (drafted t) p x.0 && is_accepted (drafted t) q x.0) x.1
  plain_kept x p q = λ i. only_if (accepted_kept p x.0 i && accepted_kept q x.0 i) x.1

  binary_kept : (s : Sign) (p q : ℕ) → binary_type spec s p q ≡ binary_type (drafted t) s p q
  binary_kept Equal p q = λ i. only_if (agree_kept p q i) truths
  binary_kept Unequal p q = λ i. only_if (agree_kept p q i) truths
  binary_kept Below p q = plain_kept (numbers, truths) p q
  binary_kept AtMost p q = plain_kept (numbers, truths) p q
  binary_kept Above p q = plain_kept (numbers, truths) p q
  binary_kept AtLeast p q = plain_kept (numbers, truths) p q
  binary_kept Join p q = plain_kept (texts, texts) p q
  binary_kept s p q = plain_kept (numbers, numbers) p q

  cons_kept : (p q : ℕ) (o : Option ℕ) (args : List ℕ) → cons_type spec p q o args ≡ cons_type (drafted t) p q o args
  cons_kept p q None args = refl
  cons_kept p q (Some l) [] = refl
  cons_kept p q (Some l) (e ∷ []) = refl
  cons_kept p q (Some l) (e ∷ m ∷ []) = λ i. only_if (has_shape (h.phyla i) is_list_shape l && (nat_eq l m && (accepted_kept p e i && accepted_kept q l i))) l
  cons_kept p q (Some l) (e ∷ m ∷ n ∷ args) = refl

  fits_kept : (v : Value) (p : ℕ) → constant_fits spec v p ≡ constant_fits (drafted t) v p
  fits_kept (Chars s) p = λ i. is_text s && textual_kept p i
  fits_kept v p = refl

  mutual
    pub bound_kept : (x : Pattern) (p : ℕ) → bound_types spec x p ≡ bound_types (drafted t) x p
    bound_kept (Exactly v) p = λ i. cond (fits_kept v p i) (Some []) None
    bound_kept Anything p = refl
    bound_kept Variable p = refl
    bound_kept (MadeAs made q) p = λ i. cond (usable_kept q i && accepted_kept q p i) (Some []) None
    bound_kept (Applied op xs) p = λ i. cond (unwrap_or (option_map (nat_eq p) (phylum_kept op i)) false) (bound_all_kept xs (args_kept op i) i) None

    pub bound_all_kept : (xs : Patterns) (ps : List ℕ) → bound_types_all spec xs ps ≡ bound_types_all (drafted t) xs ps
    bound_all_kept NoPattern [] = refl
    bound_all_kept NoPattern (p ∷ ps) = refl
    bound_all_kept (AndPattern x xs) [] = refl
    bound_all_kept (AndPattern x xs) (p ∷ ps) = λ i. option_and_then (λ bs. option_map (λ cs. bs ++ cs) (bound_all_kept xs ps i)) (bound_kept x p i)

  mutual
    pub type_kept : (G : List ℕ) (e : Expr) → type_of spec G e ≡ type_of (drafted t) G e
    type_kept G (Constant v) = refl
    type_kept G (Named k) = refl
    type_kept G (MadeOf made p) = λ i. only_if (usable_kept p i) p
    type_kept G (Single f a) = λ i. unary_kept f (type_kept G a i) i
    type_kept G (Binary s a b) = λ i. option_and_then (λ p. option_and_then (λ q. binary_kept s p q i) (type_kept G b i)) (type_kept G a i)
    type_kept G (Logical c a b) = λ i. only_if (found_kept truths (type_kept G a i) i && found_kept truths (type_kept G b i) i) truths
    type_kept G (Cons op a b) = λ i. option_and_then (λ p. option_and_then (λ q. cons_kept p q (phylum_kept op i) (args_kept op i) i) (type_kept G b i)) (type_kept G a i)
    type_kept G (Choice c a b) = λ i. cond (found_kept truths (type_kept G c i) i) (option_and_then (λ p. where_kept p p (type_kept G b i) i) (type_kept G a i)) None
    type_kept G (Apply op es) = λ i. cond (fit_kept G es (args_kept op i) i) (phylum_kept op i) None
    type_kept G (Call f es) =
        ap (λ (fit : List ℕ → Bool). called (λ p ps. only_if (fit ps) p) spec.functions f) (λ i ps. fit_kept G es ps i)
        ∙ called_kept (λ p ps. only_if (all_fit (drafted t) G es ps) p) f
    type_kept G (Let a b) = λ i. option_and_then (λ p. type_kept (G ++ p ∷ []) b i) (type_kept G a i)
    type_kept G (With a cases) = λ i. option_and_then (λ p. cases_kept G p cases i) (type_kept G a i)

    fit_kept : (G : List ℕ) (es : Exprs) (ps : List ℕ) → all_fit spec G es ps ≡ all_fit (drafted t) G es ps
    fit_kept G NoExpr [] = refl
    fit_kept G NoExpr (p ∷ ps) = refl
    fit_kept G (AndExpr e es) [] = refl
    fit_kept G (AndExpr e es) (p ∷ ps) = λ i. found_kept p (type_kept G e i) i && fit_kept G es ps i

    cases_kept : (G : List ℕ) (p : ℕ) (cases : Cases) → case_type spec G p cases ≡ case_type (drafted t) G p cases
    cases_kept G p NoCase = refl
    cases_kept G p (Default e) = refl
    cases_kept G p (Case x e rest) = λ i. option_and_then (λ o. only_if (rest_kept G p o rest i) o) (option_and_then (λ bs. type_kept (G ++ bs) e i) (bound_kept x p i))

    rest_kept : (G : List ℕ) (p o : ℕ) (cases : Cases) → rest_fits spec G p o cases ≡ rest_fits (drafted t) G p o cases
    rest_kept G p o NoCase = refl
    rest_kept G p o (Default e) = λ i. found_kept o (type_kept G e i) i
    rest_kept G p o (Case x e rest) = λ i. found_kept o (option_and_then (λ bs. type_kept (G ++ bs) e i) (bound_kept x p i)) i && rest_kept G p o rest i

  attrs_kept : (o : Option ℕ) → attr_types spec o ≡ attr_types (drafted t) o
  attrs_kept None = refl
  attrs_kept (Some X) = λ i. map (λ (a : Attr). a.of) (attrs_of (h.phyla i) X)

  pub slots_kept : (op k : ℕ) → slots_there spec op k ≡ slots_there (drafted t) op k
  slots_kept op zero = λ i. attrs_kept (phylum_kept op i) i ++ map (λ (l : Local). l.of) (locals_kept op i)
  slots_kept op (suc k) = λ i. attrs_kept (slice_get (args_kept op i) k) i

  pub slot_kept : (op k slot : ℕ) → slot_type spec op k slot ≡ slot_type (drafted t) op k slot
  slot_kept op k slot = λ i. slice_get (slots_kept op k i) slot

  pub types_kept : (op : ℕ) (os : List Occurrence) → types_at spec op os ≡ types_at (drafted t) op os
  types_kept op [] = refl
  types_kept op (o ∷ os) = λ i. option_and_then (λ p. option_map (λ ps. p ∷ ps) (types_kept op os i)) (slot_kept op o.at o.slot i)

  over_kept : (made drawn : ℕ → Option Term) → made ≡ drawn → (o : Option ℕ) → over spec made o ≡ over (drafted t) drawn o
  over_kept made drawn same None = refl
  over_kept made drawn same (Some op) = λ i. option_map (Node op 0 false) (all_made (same i) (args_kept op i))

  one_kept : (made drawn : ℕ → Option Term) → made ≡ drawn → (ops : List ℕ) → one_element spec made ops ≡ one_element (drafted t) drawn ops
  one_kept made drawn same [] = refl
  one_kept made drawn same (nil ∷ []) = refl
  one_kept made drawn same (nil ∷ pair ∷ ops) = λ i.
      option_map (λ x. Node pair 0 false (AndTerm x (AndTerm (Node nil 0 false NoTerm) NoTerm))) (option_and_then (same i) (slice_get (args_kept pair i) 0))

  completed_kept : (made drawn : ℕ → Option Term) → made ≡ drawn → (p : ℕ) (ops : List ℕ) (s : Shape) → completed spec made p ops s ≡ completed (drafted t) drawn p ops s
  completed_kept made drawn same p ops Truths = refl
  completed_kept made drawn same p ops Numbers = refl
  completed_kept made drawn same p ops Texts = refl
  completed_kept made drawn same p ops (Lexemes l) = refl
  completed_kept made drawn same p ops Ordinary = over_kept made drawn same (slice_get ops 0)
  completed_kept made drawn same p ops Optional = over_kept made drawn same (slice_get ops 0)
  completed_kept made drawn same p ops Listed = one_kept made drawn same ops
  completed_kept made drawn same p ops OptionalListed = over_kept made drawn same (slice_get ops 0)

  placeheld_kept : (made drawn : ℕ → Option Term) → made ≡ drawn → (p : ℕ) (ops : List ℕ) (s : Shape) → placeheld spec made p ops s ≡ placeheld (drafted t) drawn p ops s
  placeheld_kept made drawn same p ops Optional = over_kept made drawn same (slice_get ops 1)
  placeheld_kept made drawn same p ops OptionalListed = one_kept made drawn same ops
  placeheld_kept made drawn same p ops s = completed_kept made drawn same p ops s

  pub completing_kept : (n p : ℕ) → completing_within spec n p ≡ completing_within (drafted t) n p
  completing_kept zero p = refl
  completing_kept (suc n) p = λ i.
      option_and_then (λ (x : Phylum). completed_kept (completing_within spec n) (completing_within (drafted t) n) (λ j q. completing_kept n q j) p x.ops x.shape i) (slice_get (h.phyla i) p)

  pub placeholder_kept : (n p : ℕ) → placeholder_within spec n p ≡ placeholder_within (drafted t) n p
  placeholder_kept n p = λ i.
      option_and_then (λ (x : Phylum). placeheld_kept (completing_within spec n) (completing_within (drafted t) n) (λ j q. completing_kept n q j) p x.ops x.shape i) (slice_get (h.phyla i) p)

  pub finite_kept : (p : ℕ) → IsFinite (drafted t) p → IsFinite spec p
  finite_kept p f =
      (subst (λ (o : Option Term). MatchOption o ⊥ IsSmall) (sym (completing_kept 1024 p)) f.0, subst (λ (o : Option Term). MatchOption o ⊥ IsSmall) (sym (placeholder_kept 1023 p)) f.1)

  there_kept : (op k : ℕ) → phylum_there spec.ops op k ≡ phylum_there t.ops op k
  there_kept op zero = phylum_kept op
  there_kept op (suc k) = λ i. slice_get (args_kept op i) k

  inherited_kept : (op k slot : ℕ) → is_inherited_there (rules_of spec) op k slot ≡ is_inherited_there (rules_of (drafted t)) op k slot
  inherited_kept op k slot = λ i. unwrap_or (option_map (λ X. is_inherited (h.phyla i) X slot) (there_kept op k i)) false

  pub owed_kept : (op k slot : ℕ) → is_owed spec op k slot ≡ is_owed (drafted t) op k slot
  owed_kept op zero slot = λ i. is_some (slot_kept op 0 slot i) && not (inherited_kept op 0 slot i)
  owed_kept op (suc k) slot = inherited_kept op (suc k) slot
