-- Texts put together from parts of a text.
use Rattle.std.specs.Prelude.{◌≡◌, refl, ℕ, true, [], ◌∷◌, ◌++◌, take, drop}
use Rattle.std.proofs.Common.{ap, ◌∙◌}
use Rattle.std.proofs.lemmas.Bool.{and_parts}
use Rattle.std.proofs.lemmas.List.{take-append-drop}
use Rattle.sg_kinds.specs.Values.{Bytes, is_text, is_text_byte}
use Rattle.sg_kinds.proofs.Elementary.{and_true}

text_append : (xs ys : Bytes) → is_text xs ≡ true → is_text ys ≡ true → is_text (xs ++ ys) ≡ true
text_append [] ys one two = two
text_append (x ∷ xs) ys one two =
    let parts = and_parts (is_text_byte x) (is_text xs) one in
    and_true (is_text_byte x) (is_text (xs ++ ys)) parts.0 (text_append xs ys parts.1 two)

text_front : (xs ys : Bytes) → is_text (xs ++ ys) ≡ true → is_text xs ≡ true
text_front [] ys all = refl
text_front (x ∷ xs) ys all =
    let parts = and_parts (is_text_byte x) (is_text (xs ++ ys)) all in
    and_true (is_text_byte x) (is_text xs) parts.0 (text_front xs ys parts.1)

text_back : (xs ys : Bytes) → is_text (xs ++ ys) ≡ true → is_text ys ≡ true
text_back [] ys all = all
text_back (x ∷ xs) ys all = text_back xs ys (and_parts (is_text_byte x) (is_text (xs ++ ys)) all).1

text_take : (n : ℕ) (s : Bytes) → is_text s ≡ true → is_text (take n s) ≡ true
text_take n s all = text_front (take n s) (drop n s) (ap is_text (take-append-drop n s) ∙ all)

text_drop : (n : ℕ) (s : Bytes) → is_text s ≡ true → is_text (drop n s) ≡ true
text_drop n s all = text_back (take n s) (drop n s) (ap is_text (take-append-drop n s) ∙ all)

-- a front and a back
pub text_joined : (s : Bytes) (n p : ℕ) (front back all : Bytes) → is_text s ≡ true
    → front ≡ take n s → back ≡ drop p s → all ≡ front ++ back → is_text all ≡ true
text_joined s n p front back all is front_is back_is all_is =
    ap is_text all_is
    ∙ text_append front back (ap is_text front_is ∙ text_take n s is) (ap is_text back_is ∙ text_drop p s is)

-- a front, another text and a back
pub text_put : (s b : Bytes) (n p : ℕ) (front middle back all : Bytes) → is_text s ≡ true → is_text b ≡ true
    → front ≡ take n s → middle ≡ front ++ b → back ≡ drop p s → all ≡ middle ++ back → is_text all ≡ true
text_put s b n p front middle back all is put front_is middle_is back_is all_is =
    ap is_text all_is
    ∙ text_append middle back
    (ap is_text middle_is ∙ text_append front b (ap is_text front_is ∙ text_take n s is) put)
    (ap is_text back_is ∙ text_drop p s is)
