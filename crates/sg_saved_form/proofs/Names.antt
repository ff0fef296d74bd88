-- The names that operators may have, and the reserved words.
use Rattle.std.proofs.Common.{◌≡◌, ℕ, ◌≤◌, Bool, true, false, cond, ◌==◌, List, [], ◌∷◌, ◌++◌, length, find, refl, sym, ap, ◌∙◌, arith, Option, Some, None, is_some, eqb-true}
use Rattle.std.specs.List.{list_all}
use Rattle.std.proofs.lemmas.Bool.{and_parts, and_from}
use Rattle.sg_kinds.specs.Values.{Bytes}
use Rattle.sg_text.specs.Bytes.{is_letter, is_name_byte}
use Rattle.sg_text.specs.Forms.{is_name}
use Rattle.sg_text.specs.Symbols.{is_same}
use Rattle.sg_text.specs.Words.{keyword_bytes, keywords, keyword_of}
use Rattle.sg_text.specs.declared.words.Keyword.{Keyword}
use Rattle.sg_text.specs.declared.words.Keyword.TheVariants.{Root, List as ListWord, Optional, Synthesized, Inherited, Local, Transform, On, Let, In, With, Default, True, False}
use Rattle.sg_saved_form.specs.Files.{Flag, spelled}
use Rattle.sg_saved_form.specs.Machine.{flag_of}

all-more : (bs : Bytes) (b : ℕ) → list_all is_name_byte bs ≡ true → is_name_byte b ≡ true → list_all is_name_byte (bs ++ b ∷ []) ≡ true
all-more [] b all byte = and_from (is_name_byte b) true byte refl
all-more (c ∷ bs) b all byte = let p = and_parts (is_name_byte c) (list_all is_name_byte bs) all in and_from (is_name_byte c) _ p.0 (all-more bs b p.1 byte)

-- a name with one more byte
pub name-more : (bs : Bytes) (b : ℕ) → is_name bs ≡ true → is_name_byte b ≡ true → is_name (bs ++ b ∷ []) ≡ true
name-more [] b name byte = absurd (cc)
name-more (c ∷ bs) b name byte = let p = and_parts (is_letter c) (list_all is_name_byte bs) name in and_from (is_letter c) _ p.0 (all-more bs b p.1 byte)

pub name-one : (b : ℕ) → is_letter b ≡ true → is_name (b ∷ []) ≡ true
name-one b letter = and_from (is_letter b) true letter refl

same-is : (xs ys : Bytes) → is_same xs ys ≡ true → xs ≡ ys
same-is [] [] e = refl
same-is [] (y ∷ ys) e = absurd (cc)
same-is (x ∷ xs) [] e = absurd (cc)
same-is (x ∷ xs) (y ∷ ys) e = let p = and_parts (is_same xs ys) (x == y) e in (λ i. eqb-true x y p.1 i ∷ same-is xs ys p.0 i)

found-has : {A : Type 0} (p : A → Bool) (xs : List A) (x : A) → find p xs ≡ Some x → p x ≡ true
found-has p [] x is = absurd (cc)
found-has p (y ∷ xs) x is = by (p y) refl (found-has p xs x) is
  where
    by : (t : Bool) → p y ≡ t → (find p xs ≡ Some x → p x ≡ true) → cond t (Some y) (find p xs) ≡ Some x → p x ≡ true
    by true e rest same = let k : y ≡ x = cc in ap p (sym k) ∙ e
    by false e rest same = rest same

-- a reserved word has its bytes
pub keyword-bytes : (w : Bytes) (k : Keyword) → keyword_of w ≡ Some k → keyword_bytes k ≡ w
keyword-bytes w k is = same-is (keyword_bytes k) w (found-has (λ k. is_same (keyword_bytes k) w) keywords k is)

-- a name that stands alone
pub flag-bytes : (w : Bytes) (b : Bool) → flag_of (keyword_of w) ≡ Some b → w ≡ spelled (Flag b)
flag-bytes w b is = by (keyword_of w) refl is
  where
    by : (o : Option Keyword) → keyword_of w ≡ o → flag_of o ≡ Some b → w ≡ spelled (Flag b)
    by (Some True) e same = let k : true ≡ b = cc in sym (keyword-bytes w True e) ∙ ap (λ x. spelled (Flag x)) k
    by (Some False) e same = let k : false ≡ b = cc in sym (keyword-bytes w False e) ∙ ap (λ x. spelled (Flag x)) k
    by (Some k) e same = absurd (cc)
    by None e same = absurd (cc)

pub free-of : (w : Bytes) → is_some (keyword_of w) ≡ false → keyword_of w ≡ None
free-of w e = by (keyword_of w) refl e
  where
    by : (o : Option Keyword) → keyword_of w ≡ o → is_some o ≡ false → keyword_of w ≡ None
    by None is no_word = is
    by (Some k) is no_word = absurd (cc)

-- a reserved word goes on to a name that is free
pub longer-free : (k : Keyword) → (keyword_of (keyword_bytes k ++ 95 ∷ []) ≡ None) × (is_name (keyword_bytes k ++ 95 ∷ []) ≡ true) × (length (keyword_bytes k ++ 95 ∷ []) ≤ 64)
longer-free Root = (refl, refl, omega arith)
longer-free ListWord = (refl, refl, omega arith)
longer-free Optional = (refl, refl, omega arith)
longer-free Synthesized = (refl, refl, omega arith)
longer-free Inherited = (refl, refl, omega arith)
longer-free Local = (refl, refl, omega arith)
longer-free Transform = (refl, refl, omega arith)
longer-free On = (refl, refl, omega arith)
longer-free Let = (refl, refl, omega arith)
longer-free In = (refl, refl, omega arith)
longer-free With = (refl, refl, omega arith)
longer-free Default = (refl, refl, omega arith)
longer-free True = (refl, refl, omega arith)
longer-free False = (refl, refl, omega arith)
