-- The longest literal at a place, by a row of the table.
use Rattle.std.proofs.Common.{◌≡◌, ℕ, suc, ◌+◌, ◌<◌, ◌≤◌, Bool, true, false, ◌&&◌, List, [], ◌∷◌, ◌++◌, length, get_or, map, take, drop, refl, sym, ap, ◌∙◌, subst, arith, Option, Some, append_assoc, length-append}
use Rattle.std.specs.Prelude.{bytes_eq, nat_eq, nat_lt, cond, slice_get}
use Rattle.std.proofs.lemmas.Bool.Decides.{nat_tests}
use Rattle.sg_patterns.proofs.Matching.{and-both}
use Rattle.std.specs.List.{starts_with}
use Rattle.std.proofs.lemmas.Bool.{eq-eqb, ltb-true}
use Rattle.std.proofs.lemmas.List.{map-append, length-map, append-nil}
use Rattle.std.proofs.Math.Seq.{drop-cons}
use Rattle.std.specs.Cmp.Lexicographic.{same_text}
use Rattle.sg_kinds.specs.Values.{Bytes}
use Rattle.sg_patterns.specs.Lexemes.{begins_with, places_of}
use Rattle.sg_patterns.specs.LongestMatch.{Literal, TerminalFrom, IsAnswer, len_of}
use Rattle.sg_patterns.proofs.Answering.{answer-kept, answer-better}

bytes-same : (s : Bytes) → bytes_eq s s ≡ true
bytes-same [] = refl
bytes-same (b ∷ s) = ap (λ t. t && bytes_eq s s) (eq-eqb b b refl) ∙ bytes-same s

module _ (text : Bytes) (at b : ℕ) where
  -- the literals before the next of the row have no match, and it stands where the row says
  pub record NextLiteral (all : List Bytes) (x : ℕ) (row : List ℕ) (best : Option (ℕ × ℕ)) : Type 0 where
    pub before : List Bytes
    pub s : Bytes
    pub after : List Bytes
    pub all_is : all ≡ before ++ s ∷ after
    pub at_place : length before ≡ x
    pub row_is : row ≡ places_of (suc x) after b
    pub answer : IsAnswer (map Literal before) text at best

  -- the row from some place on is that of the literals behind those that are tried
  pub record Tried (all : List Bytes) (row : List ℕ) (best : Option (ℕ × ℕ)) : Type 0 where
    pub before : List Bytes
    pub after : List Bytes
    pub all_is : all ≡ before ++ after
    pub row_is : row ≡ places_of (length before) after b
    pub answer : IsAnswer (map Literal before) text at best

module _ (text : Bytes) (at b : ℕ) (within : at < length text) (here : get_or text at 0 ≡ b) where
  -- a literal that begins with another byte matches no byte
  other-matches : (s : Bytes) → begins_with s b ≡ false → (n : ℕ) → TerminalFrom (Literal s) text at (at + n) → n ≤ 0
  other-matches [] other n h = omega (arith, h.0)
  other-matches (c ∷ s) other n h =
      let split : drop at text ≡ get_or text at 0 ∷ drop (suc at) text = drop-cons text at 0 within in
      let same : get_or text at 0 ∷ take (length s) (drop (suc at) text) ≡ c ∷ s = sym (ap (take (suc (length s))) split) ∙ h.1 in
      let heads : get_or text at 0 ≡ c = cc in
      let equal : nat_eq c b ≡ true = eq-eqb c b (sym heads ∙ here) in
      let both : false ≡ true = sym other ∙ equal in
      absurd (cc)

  one-more : (before : List Bytes) (s : Bytes) → map Literal (before ++ s ∷ []) ≡ map Literal before ++ Literal s ∷ []
  one-more before s = map-append Literal before (s ∷ [])

  -- a literal that begins with another byte is passed over
  pass : (before : List Bytes) (s : Bytes) (best : Option (ℕ × ℕ)) → begins_with s b ≡ false → IsAnswer (map Literal before) text at best → IsAnswer (map Literal (before ++ s ∷ [])) text at best
  pass before s best other a =
      subst (λ ts. IsAnswer ts text at best) (sym (one-more before s)) (answer-kept text at (map Literal before) (Literal s) best a (λ n h. omega (arith, other-matches s other n h)))

  snoc-length : (before : List Bytes) (s : Bytes) → length (before ++ s ∷ []) ≡ suc (length before)
  snoc-length before s = omega (arith, length-append before (s ∷ []))

  pub next-literal : (before after : List Bytes) (x : ℕ) (row : List ℕ) (best : Option (ℕ × ℕ)) → x ∷ row ≡ places_of (length before) after b → IsAnswer (map Literal before) text at best → NextLiteral text at b (before ++ after) x row best
  next-literal before [] x row best is a = absurd (cc)
  next-literal before (s ∷ after) x row best is a = here_or_later (λ f g. next-literal (before ++ s ∷ []) after x row best f g) (begins_with s b) refl
    where
      here_or_later : (x ∷ row ≡ places_of (length (before ++ s ∷ [])) after b → IsAnswer (map Literal (before ++ s ∷ [])) text at best → NextLiteral text at b ((before ++ s ∷ []) ++ after) x row best) → (t : Bool) → begins_with s b ≡ t → NextLiteral text at b (before ++ s ∷ after) x row best
      here_or_later go true e =
          let found : x ∷ row ≡ length before ∷ places_of (suc (length before)) after b = is ∙ ap (λ t. cond t (length before ∷ places_of (suc (length before)) after b) (places_of (suc (length before)) after b)) e in
          let first : length before ≡ x = cc in
          let rest : row ≡ places_of (suc (length before)) after b = cc in
          record { before = before; s = s; after = after; all_is = refl; at_place = first; row_is = rest ∙ ap (λ k. places_of (suc k) after b) first; answer = a }
      here_or_later go false e =
          let found : x ∷ row ≡ places_of (suc (length before)) after b = is ∙ ap (λ t. cond t (length before ∷ places_of (suc (length before)) after b) (places_of (suc (length before)) after b)) e in
          let later = go (found ∙ ap (λ k. places_of k after b) (sym (snoc-length before s))) (pass before s best e a) in
          subst (λ all. NextLiteral text at b all x row best) (append_assoc before (s ∷ []) after) later

  -- at the end of the row all others are passed over
  pub last-literal : (before after : List Bytes) (best : Option (ℕ × ℕ)) → [] ≡ places_of (length before) after b → IsAnswer (map Literal before) text at best → IsAnswer (map Literal (before ++ after)) text at best
  last-literal before [] best is a = subst (λ all. IsAnswer (map Literal all) text at best) (sym (append-nil before)) a
  last-literal before (s ∷ after) best is a = here_or_later (λ f g. last-literal (before ++ s ∷ []) after best f g) (begins_with s b) refl
    where
      here_or_later : ([] ≡ places_of (length (before ++ s ∷ [])) after b → IsAnswer (map Literal (before ++ s ∷ [])) text at best → IsAnswer (map Literal ((before ++ s ∷ []) ++ after)) text at best) → (t : Bool) → begins_with s b ≡ t → IsAnswer (map Literal (before ++ s ∷ after)) text at best
      here_or_later go true e =
          let found : [] ≡ length before ∷ places_of (suc (length before)) after b = is ∙ ap (λ t. cond t (length before ∷ places_of (suc (length before)) after b) (places_of (suc (length before)) after b)) e in
          absurd (cc)
      here_or_later go false e =
          let found : [] ≡ places_of (suc (length before)) after b = is ∙ ap (λ t. cond t (length before ∷ places_of (suc (length before)) after b) (places_of (suc (length before)) after b)) e in
          subst (λ all. IsAnswer (map Literal all) text at best) (append_assoc before (s ∷ []) after)
          (go (found ∙ ap (λ k. places_of k after b) (sym (snoc-length before s))) (pass before s best e a))

  pub tried-next : (all : List Bytes) (x : ℕ) (row : List ℕ) (best : Option (ℕ × ℕ)) → Tried text at b all (x ∷ row) best → NextLiteral text at b all x row best
  tried-next all x row best t = subst (λ ss. NextLiteral text at b ss x row best) (sym t.all_is) (next-literal t.before t.after x row best t.row_is t.answer)

  pub tried-all : (all : List Bytes) (best : Option (ℕ × ℕ)) → Tried text at b all [] best → IsAnswer (map Literal all) text at best
  tried-all all best t = subst (λ ss. IsAnswer (map Literal ss) text at best) (sym t.all_is) (last-literal t.before t.after best t.row_is t.answer)

  next-tried : (all : List Bytes) (x : ℕ) (row : List ℕ) (best after : Option (ℕ × ℕ)) (n : NextLiteral text at b all x row best) → IsAnswer (map Literal (n.before ++ n.s ∷ [])) text at after → Tried text at b all row after
  next-tried all x row best after n a = record {
    before = n.before ++ n.s ∷ [];
    after = n.after;
    all_is = n.all_is ∙ sym (append_assoc n.before (n.s ∷ []) n.after);
    row_is = n.row_is ∙ ap (λ k. places_of k n.after b) (sym (snoc-length n.before n.s ∙ ap suc n.at_place));
    answer = a;
  }

  -- a literal that is no longer than the best, or does not stand here
  pub tried-kept : (all : List Bytes) (x : ℕ) (row : List ℕ) (best : Option (ℕ × ℕ)) (n : NextLiteral text at b all x row best) → (nat_lt (len_of best) (length n.s) && starts_with nat_eq (drop at text) n.s) ≡ false → Tried text at b all row best
  tried-kept all x row best n no_longer =
      next-tried all x row best best n (subst (λ ts. IsAnswer ts text at best) (sym (one-more n.before n.s)) (answer-kept text at (map Literal n.before) (Literal n.s) best n.answer (λ k h. bound k h (nat_lt (len_of best) (length n.s)) refl)))
    where
      bound : (k : ℕ) → TerminalFrom (Literal n.s) text at (at + k) → (t : Bool) → nat_lt (len_of best) (length n.s) ≡ t → k ≤ len_of best
      bound k h true e =
          let stands : starts_with nat_eq (drop at text) n.s ≡ true = ap (bytes_eq n.s) h.1 ∙ bytes-same n.s in
          let both : false ≡ true = sym no_longer ∙ (λ i. e i && stands i) in
          absurd (cc)
      bound k h false e = grind (arith, nat_tests)

  -- a longer literal that stands here
  pub tried-better : (all : List Bytes) (x : ℕ) (row : List ℕ) (best : Option (ℕ × ℕ)) (n : NextLiteral text at b all x row best) → (nat_lt (len_of best) (length n.s) && starts_with nat_eq (drop at text) n.s) ≡ true → Tried text at b all row (Some (x, length n.s))
  tried-better all x row best n longer =
      let both = and-both (nat_lt (len_of best) (length n.s)) (starts_with nat_eq (drop at text) n.s) longer in
      let same : n.s ≡ take (length n.s) (drop at text) = same_text n.s (take (length n.s) (drop at text)) (sym both.1) in
      next-tried all x row best (Some (x, length n.s)) n (subst (λ ts. IsAnswer ts text at (Some (x, length n.s))) (sym (one-more n.before n.s)) (answer-better text at (map Literal n.before) (Literal n.s) (length n.s) x best n.answer (record { found = λ some. (refl, sym same); most = λ k h. omega (arith, h.0) }) (ltb-true (len_of best) (length n.s) both.0) (sym n.at_place ∙ sym (length-map n.before Literal))))

-- the next literal is there
pub next-within : (text : Bytes) (at b : ℕ) (all : List Bytes) (x : ℕ) (row : List ℕ) (best : Option (ℕ × ℕ)) → NextLiteral text at b all x row best → x < length all
next-within text at b all x row best n = omega (arith, ap length n.all_is, length-append n.before (n.s ∷ n.after), n.at_place)

-- the literal at that place
pub next-is : (text : Bytes) (at b : ℕ) (all : List Bytes) (x : ℕ) (row : List ℕ) (best : Option (ℕ × ℕ)) (n : NextLiteral text at b all x row best) (s : Bytes) → slice_get all x ≡ Some s → s ≡ n.s
next-is text at b all x row best n s is =
    let there : slice_get all x ≡ Some n.s = (λ i. slice_get (n.all_is i) (sym n.at_place i)) ∙ at_seam n.before n.s n.after in
    let both : Some s ≡ Some n.s = sym is ∙ there in
    cc
  where
    at_seam : (xs : List Bytes) (y : Bytes) (ys : List Bytes) → slice_get (xs ++ y ∷ ys) (length xs) ≡ Some y
    at_seam [] y ys = refl
    at_seam (x ∷ xs) y ys = at_seam xs y ys
