-- The tokens of a text stand in it in order.
use Rattle.std.proofs.Common.{◌≡◌, ℕ, zero, suc, ◌+◌, ◌-◌, ◌<◌, ◌≤◌, ◌^◌, Bool, true, false, cond, List, [], ◌∷◌, ◌++◌, length, get_or, take, drop, refl, sym, arith, Option, Some, None, Result, Ok, Err, subst, append_assoc, length-append}
use Rattle.std.specs.Prelude.{◌==◌, nat_le, All, AllPairs, ⊤}
use Rattle.std.proofs.Math.Seq.{drop-append_seam, take-append_seam}
use Rattle.std.proofs.lemmas.List.{length-take}
use Rattle.std.proofs.lemmas.List.Sums.{sum_by-append}
use Rattle.std.proofs.lemmas.List.Elements.{All-cons}
use Rattle.std.proofs.lemmas.Bool.Decides.{nat_tests}
use Rattle.sg_text.specs.declared.tokens.Kind.{Kind}
use Rattle.sg_text.specs.declared.tokens.Kind.TheVariants.{Name, Number, Text, Quoted, Symbol}
use Rattle.sg_text.specs.declared.tokens.Token.{Token}
use Rattle.sg_text.specs.declared.tokens.LexFault.{LexFault}
use Rattle.sg_text.specs.declared.tokens.LexFault.TheVariants.{LongName, LongNumber}
use Rattle.sg_text.specs.declared.forms.Form.{Form}
use Rattle.sg_text.specs.declared.forms.Form.TheVariants.{Gap, Found, Fault}
use Rattle.sg_text.specs.Bytes.{newline, is_blank}
use Rattle.sg_text.specs.Forms.{kind_of, value_of, longest_form}
use Rattle.sg_text.specs.Placed.{IsWithinLimits, IsTokenOf, EndsBefore}
use Rattle.sg_text.specs.Tokens.{tokens_from, form_tokens, followed_by, form_at, form_len, line_after, comment_end, comment_form, token_at, longest_at, within_limits, opens_comment, tokens_of}
use Rattle.sg_text.proofs.TokenLemmas.{newlines, newlines-cons, line_after-count, longest_form-of, form_at-len}

-- a token form of n bytes stands at the front of bs
record IsFront (kind : Kind) (n : ℕ) (bs : List ℕ) : Type 0 where
  form : kind_of (take n bs) ≡ Some kind
  limits : IsWithinLimits kind (take n bs)

name-front : (at n : ℕ) (bs : List ℕ) (kind : Kind) (m : ℕ) (t : Bool) → nat_le n 64 ≡ t → kind_of (take n bs) ≡ Some Name → cond t (Found Name n) (Fault (LongName at)) ≡ Found kind m → IsFront kind m bs
name-front at n bs kind m false small form is = absurd (cc)
name-front at n bs kind m true small form is =
    let same : Name ≡ kind = cc in
    let len : n ≡ m = cc in
    let short : n ≤ 64 = grind (arith, nat_tests) in
    subst (λ k. IsFront k m bs) same (subst (λ j. IsFront Name j bs) len (record { form = form; limits = omega (arith, length-take n bs) }))

number-front : (at n : ℕ) (bs : List ℕ) (v : _) (kind : Kind) (m : ℕ) (t : Bool) → nat_le (value_of (take n bs)) (2 ^ 63 - 1) ≡ t → kind_of (take n bs) ≡ Some (Number v) → cond t (Found (Number v) n) (Fault (LongNumber at)) ≡ Found kind m → IsFront kind m bs
number-front at n bs v kind m false small form is = absurd (cc)
number-front at n bs v kind m true small form is =
    let same : Number v ≡ kind = cc in
    let len : n ≡ m = cc in
    let short : value_of (take n bs) < 2 ^ 63 = grind (arith, nat_tests) in
    subst (λ k. IsFront k m bs) same (subst (λ j. IsFront (Number v) j bs) len (record { form = form; limits = short }))

within_limits-front : (at n : ℕ) (bs : List ℕ) (k kind : Kind) (m : ℕ) → kind_of (take n bs) ≡ Some k → within_limits at bs k n ≡ Found kind m → IsFront kind m bs
within_limits-front at n bs Name kind m form is = name-front at n bs kind m (nat_le n 64) refl form is
within_limits-front at n bs (Number v) kind m form is = number-front at n bs v kind m (nat_le (value_of (take n bs)) (2 ^ 63 - 1)) refl form is
within_limits-front at n bs Text kind m form is =
    let same : Text ≡ kind = cc in let len : n ≡ m = cc in
    subst (λ k. IsFront k m bs) same (subst (λ j. IsFront Text j bs) len (record { form = form; limits = tt }))
within_limits-front at n bs Quoted kind m form is =
    let same : Quoted ≡ kind = cc in let len : n ≡ m = cc in
    subst (λ k. IsFront k m bs) same (subst (λ j. IsFront Quoted j bs) len (record { form = form; limits = tt }))
within_limits-front at n bs (Symbol s) kind m form is =
    let same : Symbol s ≡ kind = cc in let len : n ≡ m = cc in
    subst (λ k. IsFront k m bs) same (subst (λ j. IsFront (Symbol s) j bs) len (record { form = form; limits = tt }))

longest_at-front : (at : ℕ) (bs : List ℕ) (o : Option (Kind × ℕ)) (kind : Kind) (m : ℕ) → o ≡ longest_form bs → longest_at at bs o ≡ Found kind m → IsFront kind m bs
longest_at-front at bs None kind m longest is = absurd (cc)
longest_at-front at bs (Some p) kind m longest is = within_limits-front at p.1 bs p.0 kind m (longest_form-of bs p (sym longest)).2 is

comment-no-front : (at : ℕ) (bs : List ℕ) (o : Option ℕ) (kind : Kind) (m : ℕ) → comment_form at o ≡ Found kind m → IsFront kind m bs
comment-no-front at bs None kind m is = absurd (cc)
comment-no-front at bs (Some n) kind m is = absurd (cc)

cond-front : (t : Bool) (f g : Form) (kind : Kind) (m : ℕ) (bs : List ℕ) → (f ≡ Found kind m → IsFront kind m bs) → (g ≡ Found kind m → IsFront kind m bs) → cond t f g ≡ Found kind m → IsFront kind m bs
cond-front true f g kind m bs first second is = first is
cond-front false f g kind m bs first second is = second is

-- what is found is a token form
form_at-front : (at : ℕ) (bs : List ℕ) (kind : Kind) (m : ℕ) → form_at at bs ≡ Found kind m → IsFront kind m bs
unfolding form_at
form_at-front at bs kind m is =
    cond-front (is_blank (get_or bs 0 0)) (Gap 1) (cond (opens_comment bs) (comment_form at (comment_end (drop 2 bs))) (token_at at bs)) kind m bs (λ e. absurd (cc)) (λ e. cond-front (opens_comment bs) (comment_form at (comment_end (drop 2 bs))) (token_at at bs) kind m bs (comment-no-front at bs (comment_end (drop 2 bs)) kind m) (longest_at-front at bs (longest_form bs) kind m refl) e) is

-- tokens of the text, the first from the place `low` on, and each next one behind the one before
abbrev Follows : List ℕ → ℕ → List Token → Type 0
Follows whole low [] = ⊤
Follows whole low (t ∷ ts) = (low ≤ t.from) × IsTokenOf whole t × Follows whole t.to ts

follows-lower : (whole : List ℕ) (low high : ℕ) (ts : List Token) → low ≤ high → Follows whole high ts → Follows whole low ts
follows-lower whole low high [] h f = f
follows-lower whole low high (t ∷ ts) h f = (omega (arith, f.0), f.1, f.2)

-- a token that is found behind the bytes `pre`
found-token : (pre bs : List ℕ) (kind : Kind) (n : ℕ) → 0 < n → n ≤ length bs → IsFront kind n bs → IsTokenOf (pre ++ bs) (record { kind = kind; from = length pre; to = length pre + n; line = 1 + newlines pre })
found-token pre bs kind n some within front =
    let w : take (length pre + n - length pre) (drop (length pre) (pre ++ bs)) ≡ take n bs = let e : length pre + n - length pre ≡ n = omega arith in rw (e, drop-append_seam pre bs) refl in
    record {
      some = omega arith;
      within = omega (arith, length-append pre bs);
      line = rw (take-append_seam pre bs) refl;
      form = rw w front.form;
      limits = subst (IsWithinLimits kind) (sym w) front.limits;
    }

-- what one form and the tokens behind it give
forms-follow : (pre bs : List ℕ) (f : Form) (r : Result (List Token) LexFault) (ts : List Token) → f ≡ form_at (length pre) bs → 0 < length bs → ((us : List Token) → r ≡ Ok us → Follows (pre ++ bs) (length pre + form_len f) us) → followed_by (form_tokens (length pre) (1 + newlines pre) f) r ≡ Ok ts → Follows (pre ++ bs) (length pre) ts
forms-follow pre bs (Gap n) (Err e) ts form some rest is = absurd (cc)
forms-follow pre bs (Gap n) (Ok us) ts form some rest is =
    let same : us ≡ ts = cc in
    subst (Follows (pre ++ bs) (length pre)) same (follows-lower (pre ++ bs) (length pre) (length pre + n) us (omega arith) (rest us refl))
forms-follow pre bs (Found kind n) (Err e) ts form some rest is = absurd (cc)
forms-follow pre bs (Found kind n) (Ok us) ts form some rest is =
    let fits = form_at-len (length pre) bs some in
    let positive : 0 < n = subst (λ f. 0 < form_len f) (sym form) fits.0 in
    let within : n ≤ length bs = subst (λ f. form_len f ≤ length bs) (sym form) fits.1 in
    let token = found-token pre bs kind n positive within (form_at-front (length pre) bs kind n (sym form)) in
    let same : record { kind = kind; from = length pre; to = length pre + n; line = 1 + newlines pre } ∷ us ≡ ts = cc in
    subst (Follows (pre ++ bs) (length pre)) same (omega arith, token, rest us refl)
forms-follow pre bs (Fault e) r ts form some rest is = absurd (cc)

-- the line behind one byte more
line-behind : (pre : List ℕ) (b line : ℕ) → line ≡ 1 + newlines pre → line_after line b ≡ 1 + newlines (pre ++ b ∷ [])
line-behind pre b line counted =
    let counts : newlines (pre ++ b ∷ []) ≡ newlines pre + newlines (b ∷ []) = sum_by-append (λ x. cond (x == newline) 1 0) pre (b ∷ []) in
    let last : newlines (b ∷ []) ≡ cond (b == newline) 1 0 + 0 = newlines-cons b [] in
    let step : line_after line b + 0 ≡ line + (cond (b == newline) 1 0 + 0) = line_after-count line b 0 in
    omega (arith, counts, last, step, counted)

-- the tokens behind one byte more
follow-behind : (pre bs : List ℕ) (b low high : ℕ) (ts : List Token) → low ≡ high → Follows ((pre ++ b ∷ []) ++ bs) low ts → Follows (pre ++ b ∷ bs) high ts
follow-behind pre bs b low high ts same f =
    subst (λ i. Follows (pre ++ b ∷ bs) i ts) same (subst (λ w. Follows w low ts) (append_assoc pre (b ∷ []) bs) f)

tokens-follow : (bs pre : List ℕ) (k line : ℕ) (ts : List Token) → line ≡ 1 + newlines pre → tokens_from k (length pre) line bs ≡ Ok ts → Follows (pre ++ bs) (length pre + k) ts
tokens-follow [] pre k line ts counted is = let same : [] ≡ ts = cc in subst (Follows (pre ++ []) (length pre + k)) same tt
tokens-follow (b ∷ bs) pre (suc k) line ts counted is =
    let len : length (pre ++ b ∷ []) ≡ suc (length pre) = omega (arith, length-append pre (b ∷ [])) in
    let here : tokens_from k (length (pre ++ b ∷ [])) (line_after line b) bs ≡ Ok ts = rw len is in
    follow-behind pre bs b (length (pre ++ b ∷ []) + k) (length pre + suc k) ts (omega arith) (tokens-follow bs (pre ++ b ∷ []) k (line_after line b) ts (line-behind pre b line counted) here)
tokens-follow (b ∷ bs) pre zero line ts counted is =
    let len : length (pre ++ b ∷ []) ≡ suc (length pre) = omega (arith, length-append pre (b ∷ [])) in
    let form = form_at (length pre) (b ∷ bs) in
    let fits = form_at-len (length pre) (b ∷ bs) (omega arith) in
    let start : length pre + 0 ≡ length pre = omega arith in
    let here : followed_by (form_tokens (length pre) (1 + newlines pre) (form_at (length pre) (b ∷ bs))) (tokens_from (form_len (form_at (length pre) (b ∷ bs)) - 1) (suc (length pre)) (line_after line b) bs) ≡ Ok ts = rw (← counted) is in
    rw start (forms-follow pre (b ∷ bs) (form_at (length pre) (b ∷ bs)) (tokens_from (form_len (form_at (length pre) (b ∷ bs)) - 1) (suc (length pre)) (line_after line b) bs) ts refl (omega arith) (λ us r. let behind : tokens_from (form_len (form_at (length pre) (b ∷ bs)) - 1) (length (pre ++ b ∷ [])) (line_after line b) bs ≡ Ok us = rw len r in follow-behind pre bs b (length (pre ++ b ∷ []) + (form_len (form_at (length pre) (b ∷ bs)) - 1)) (length pre + form_len (form_at (length pre) (b ∷ bs))) us (omega arith) (tokens-follow bs (pre ++ b ∷ []) (form_len (form_at (length pre) (b ∷ bs)) - 1) (line_after line b) us (line-behind pre b line counted) behind)) here)

-- each token is one of the text
follows-all : (whole : List ℕ) (low : ℕ) (ts : List Token) → Follows whole low ts → All (IsTokenOf whole) ts
follows-all whole low [] f = λ k d h. absurd (omega arith)
follows-all whole low (t ∷ ts) f = All-cons (IsTokenOf whole) t ts f.1 (follows-all whole t.to ts f.2)

-- each token ends before each later one begins
follows-after : (whole : List ℕ) (low end : ℕ) (ts : List Token) → end ≤ low → Follows whole low ts → All (λ u. end ≤ u.from) ts
follows-after whole low end [] h f = λ k d h. absurd (omega arith)
follows-after whole low end (t ∷ ts) h f = All-cons (λ u. end ≤ u.from) t ts (omega (arith, f.0)) (follows-after whole t.to end ts (omega (arith, f.0, f.1.some)) f.2)

ordered-cons : (t : Token) (ts : List Token) → All (λ u. t.to ≤ u.from) ts → AllPairs EndsBefore ts → AllPairs EndsBefore (t ∷ ts)
ordered-cons t ts after rest i zero d less within = absurd (omega arith)
ordered-cons t ts after rest zero (suc j) d less within = after j d (omega arith)
ordered-cons t ts after rest (suc i) (suc j) d less within = rest i j d (omega arith) (omega arith)

follows-ordered : (whole : List ℕ) (low : ℕ) (ts : List Token) → Follows whole low ts → AllPairs EndsBefore ts
follows-ordered whole low [] f = λ i j d less within. absurd (omega arith)
follows-ordered whole low (t ∷ ts) f =
    ordered-cons t ts (follows-after whole t.to t.to ts (omega arith) f.2) (follows-ordered whole t.to ts f.2)

-- each token is one of the text
pub tokens_of-all : (bytes : List ℕ) (ts : List Token) → tokens_of bytes ≡ Ok ts → All (IsTokenOf bytes) ts
tokens_of-all bytes ts is = follows-all bytes 0 ts (tokens-follow bytes [] 0 1 ts refl is)

-- each token ends before each later one begins
pub tokens_of-ordered : (bytes : List ℕ) (ts : List Token) → tokens_of bytes ≡ Ok ts → AllPairs EndsBefore ts
tokens_of-ordered bytes ts is = follows-ordered bytes 0 ts (tokens-follow bytes [] 0 1 ts refl is)
