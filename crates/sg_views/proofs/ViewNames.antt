-- Names that are put behind others one by one, each where it is new, are the different ones.
use Rattle.std.proofs.Common.{◌≡◌, Bool, true, false, cond, ◌||◌, List, [], ◌∷◌, ◌++◌, bytes_eq, refl, sym, ap, ◌∙◌}
use Rattle.std.specs.List.{list_any}
use Rattle.std.proofs.lemmas.List.{append-nil, append_assoc}
use Rattle.std.proofs.lemmas.List.Folds.{list_any-append}
use Rattle.sg_kinds.specs.Values.{Bytes}
use Rattle.sg_kinds.proofs.Elementary.{bytes_is, or_false}
use Rattle.sg_counts.specs.Crowds.{different, different_behind}
use Rattle.sg_views.specs.Views.{is_among, with_name, with_names}

-- the last of a list
behind_last : (before xs : List Bytes) (x : Bytes) → different_behind bytes_eq before (xs ++ x ∷ []) ≡ different_behind bytes_eq before xs ++ different_behind bytes_eq (before ++ xs) (x ∷ [])
behind_last before [] x = ap (λ l. different_behind bytes_eq l (x ∷ [])) (sym (append-nil before))
behind_last before (y ∷ xs) x =
    ap (λ l. cond (is_among before y) l (y ∷ l)) (behind_last (before ++ y ∷ []) xs x ∙ ap (λ l. different_behind bytes_eq (before ++ y ∷ []) xs ++ different_behind bytes_eq l (x ∷ [])) (append_assoc before (y ∷ []) xs))
    ∙ by (is_among before y) (different_behind bytes_eq (before ++ y ∷ []) xs) (different_behind bytes_eq (before ++ y ∷ xs) (x ∷ []))
  where
    by : (b : Bool) (front back : List Bytes) → cond b (front ++ back) (y ∷ front ++ back) ≡ cond b front (y ∷ front) ++ back
    by true front back = refl
    by false front back = refl

-- what is among a list is among its different ones
module _ (x : Bytes) where
  abbrev here : Bytes → Bool
  here y = bytes_eq y x

  one_more : (a b c d : Bool) → ((a || b) || c) ≡ ((a || b) || d) → (a || (b || c)) ≡ (a || (b || d))
  one_more true b c d e = refl
  one_more false b c d e = e

  among_front : (before : List Bytes) (y : Bytes) → list_any here (before ++ y ∷ []) ≡ (list_any here before || here y)
  among_front before y = list_any-append here before (y ∷ []) ∙ ap (λ b. list_any here before || b) (or_false (here y))

  among_behind : (before xs : List Bytes) → (list_any here before || list_any here (different_behind bytes_eq before xs)) ≡ (list_any here before || list_any here xs)
  among_behind before [] = refl
  among_behind before (y ∷ xs) = by (is_among before y) refl (ap (λ b. b || list_any here rest) (sym (among_front before y)) ∙ among_behind (before ++ y ∷ []) xs ∙ ap (λ b. b || list_any here xs) (among_front before y))
    where
      rest : List Bytes
      rest = different_behind bytes_eq (before ++ y ∷ []) xs

      skipped : (b : Bool) → here y ≡ b → is_among before y ≡ true → ((list_any here before || here y) || list_any here rest) ≡ ((list_any here before || here y) || list_any here xs)
          → (list_any here before || list_any here rest) ≡ (list_any here before || (here y || list_any here xs))
      skipped true is there e =
          let same : list_any here before ≡ true = ap (is_among before) (sym (bytes_is y x is)) ∙ there in
          ap (λ b. b || list_any here rest) same ∙ ap (λ b. b || (here y || list_any here xs)) (sym same)
      skipped false is there e =
          ap (λ b. b || list_any here rest) (sym (or_false (list_any here before)) ∙ ap (λ b. list_any here before || b) (sym is)) ∙ e
          ∙ ap (λ b. b || list_any here xs) (ap (λ b. list_any here before || b) is ∙ or_false (list_any here before))
          ∙ ap (λ b. list_any here before || (b || list_any here xs)) (sym is)

      by : (b : Bool) → is_among before y ≡ b → ((list_any here before || here y) || list_any here rest) ≡ ((list_any here before || here y) || list_any here xs)
          → (list_any here before || list_any here (cond b rest (y ∷ rest))) ≡ (list_any here before || (here y || list_any here xs))
      by true there e = skipped (here y) refl there e
      by false new e = one_more (list_any here before) (here y) (list_any here rest) (list_any here xs) e

  among_different : (xs : List Bytes) → is_among (different bytes_eq xs) x ≡ is_among xs x
  among_different xs = among_behind [] xs

-- one name more
with_one : (xs : List Bytes) (x : Bytes) → with_name (different bytes_eq xs) x ≡ different bytes_eq (xs ++ x ∷ [])
with_one xs x = ap (λ b. cond b (different bytes_eq xs) (different bytes_eq xs ++ x ∷ [])) (among_different x xs) ∙ by (is_among xs x) ∙ sym (behind_last [] xs x)
  where
    by : (b : Bool) → cond b (different bytes_eq xs) (different bytes_eq xs ++ x ∷ []) ≡ different bytes_eq xs ++ cond b [] (x ∷ [])
    by true = sym (append-nil (different bytes_eq xs))
    by false = refl

with_all : (before xs : List Bytes) → with_names (different bytes_eq before) xs ≡ different bytes_eq (before ++ xs)
with_all before [] = ap (different bytes_eq) (sym (append-nil before))
with_all before (x ∷ xs) = ap (λ l. with_names l xs) (with_one before x) ∙ with_all (before ++ x ∷ []) xs ∙ ap (different bytes_eq) (append_assoc before (x ∷ []) xs)

pub with_different : (xs : List Bytes) → with_names [] xs ≡ different bytes_eq xs
with_different xs = with_all [] xs

pub with_both : (names xs ys : List Bytes) → with_names names (xs ++ ys) ≡ with_names (with_names names xs) ys
with_both names [] ys = refl
with_both names (x ∷ xs) ys = with_both (with_name names x) xs ys
