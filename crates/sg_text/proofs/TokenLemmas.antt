-- What the scanner has found is the front of the text's tokens.
use Rattle.std.proofs.Common.{◌≡◌, ℕ, zero, suc, ◌+◌, ◌-◌, ◌<◌, ◌≤◌, Bool, true, false, cond, List, [], ◌∷◌, length, get_or, take, drop, refl, ap, sym, ◌∙◌, arith, Option, Some, None, Result, Ok, Err, subst, append_assoc, append-nil, length-drop, ◌&&◌}
use Rattle.std.proofs.lemmas.List.{take_all, drop_all, drop-drop}
use Rattle.std.proofs.lemmas.List.Sums.{sum_by-cons}
use Rattle.std.specs.Prelude.{◌==◌, ◌^◌, nat_le, count_by, option_map}
use Rattle.std.specs.Option.{option_or}
use Rattle.std.proofs.lemmas.Bool.Decides.{nat_tests}
use Rattle.sg_text.specs.declared.tokens.Kind.{Kind}
use Rattle.sg_text.specs.declared.tokens.Kind.TheVariants.{Name, Number, Text, Quoted, Symbol}
use Rattle.sg_text.specs.declared.tokens.Token.{Token}
use Rattle.sg_text.specs.declared.tokens.LexFault.{LexFault}
use Rattle.sg_text.specs.declared.tokens.LexFault.TheVariants.{LongName, LongNumber}
use Rattle.sg_text.specs.declared.forms.Form.{Form}
use Rattle.sg_text.specs.declared.forms.Form.TheVariants.{Gap, Found, Fault}
use Rattle.sg_text.specs.Bytes.{newline, is_blank, star, slash}
use Rattle.sg_text.specs.Forms.{value_of, kind_of, longest_form, longest_within}
use Rattle.sg_text.proofs.FormLemmas.{within-text}
use Rattle.sg_text.specs.Tokens.{tokens_from, form_tokens, followed_by, form_at, form_len, line_after, comment_end, comment_form, token_at, longest_at, within_limits, opens_comment, tokens_of}

-- the newlines of a text
abbrev pub newlines : List ℕ → ℕ
newlines bs = count_by (λ b. b == newline) bs

pub newlines-cons : (b : ℕ) (bs : List ℕ) → newlines (b ∷ bs) ≡ cond (b == newline) 1 0 + newlines bs
newlines-cons b bs = sum_by-cons (λ x. cond (x == newline) 1 0) b bs

-- the line after a byte, as a count
pub line_after-count : (line b n : ℕ) → line_after line b + n ≡ line + (cond (b == newline) 1 0 + n)
line_after-count line b n =
    elim (b == newline) as (λ v. cond v (suc line) line + n ≡ line + (cond v 1 0 + n)) [ true ↦ omega arith | false ↦ omega arith ]

-- the bytes that belong to the form before are passed over
tokens_from-passed : (k at line : ℕ) (bs : List ℕ) → tokens_from k at line bs ≡ tokens_from 0 (at + k) (line + newlines (take k bs)) (drop k bs)
tokens_from-passed zero at line bs =
    let place : at + 0 ≡ at = omega arith in let same_line : line + 0 ≡ line = omega arith in rw (place, same_line) refl
tokens_from-passed (suc k) at line [] = refl
tokens_from-passed (suc k) at line (b ∷ bs) =
    let place : suc at + k ≡ at + suc k = omega arith in
    let count : line_after line b + newlines (take k bs) ≡ line + newlines (b ∷ take k bs) = line_after-count line b (newlines (take k bs)) ∙ ap (λ n. line + n) (sym (newlines-cons b (take k bs))) in
    tokens_from-passed k (suc at) (line_after line b) bs ∙ (λ i. tokens_from 0 (place i) (count i) (drop k bs))

-- this front or a shorter one
this_or_shorter : (n : ℕ) (bs : List ℕ) (p : Kind × ℕ) (o : Option Kind) (rest : Option (Kind × ℕ)) → (rest ≡ Some p → (0 < p.1) × (p.1 ≤ n) × (kind_of (take p.1 bs) ≡ Some p.0)) → o ≡ kind_of (take (suc n) bs) → option_or (option_map (λ kind. (kind, suc n)) o) rest ≡ Some p → (0 < p.1) × (p.1 ≤ suc n) × (kind_of (take p.1 bs) ≡ Some p.0)
this_or_shorter n bs p None rest shorter e found = let r = shorter found in (r.0, omega (arith, r), r.2)
this_or_shorter n bs p (Some kind) rest shorter e found =
    let pair : (kind, suc n) ≡ p = cc in
    subst (λ q. (0 < q.1) × (q.1 ≤ suc n) × (kind_of (take q.1 bs) ≡ Some q.0)) pair (omega arith, omega arith, sym e)

-- the longest form among the fronts of at most n bytes is the form of one of them
longest_within-of : (n : ℕ) (bs : List ℕ) (p : Kind × ℕ) → longest_within n bs ≡ Some p → (0 < p.1) × (p.1 ≤ n) × (kind_of (take p.1 bs) ≡ Some p.0)
longest_within-of zero bs p is = cc
longest_within-of (suc n) bs p is =
    this_or_shorter n bs p (kind_of (take (suc n) bs)) (longest_within n bs) (longest_within-of n bs p) refl is

pub longest_form-of : (bs : List ℕ) (p : Kind × ℕ) → longest_form bs ≡ Some p → (0 < p.1) × (p.1 ≤ length bs) × (kind_of (take p.1 bs) ≡ Some p.0)
unfolding longest_form
longest_form-of bs p is = longest_within-of (length bs) bs p is

here_or_later : (m n : ℕ) (here : Bool) (o : Option ℕ) → (here ≡ true → 0 < m) → ((k : ℕ) → o ≡ Some k → k ≤ m) → cond here (Some 2) (option_map suc o) ≡ Some n → n ≤ suc m
here_or_later m n true o some later is = let two : 2 ≡ n = cc in omega (arith, some refl)
here_or_later m n false None some later is = cc
here_or_later m n false (Some k) some later is = let next : suc k ≡ n = cc in omega (arith, later k refl)

slash-within : (b : ℕ) (bs : List ℕ) → (b == star && get_or bs 0 0 == slash) ≡ true → 0 < length bs
slash-within b bs h = let next : get_or bs 0 0 ≡ slash = grind (arith, nat_tests) in within-text bs 0 slash (omega arith) next

-- a comment ends within the text
comment_end-le : (bs : List ℕ) (n : ℕ) → comment_end bs ≡ Some n → n ≤ length bs
comment_end-le [] n is = cc
comment_end-le (b ∷ bs) n is =
    here_or_later (length bs) n (b == star && get_or bs 0 0 == slash) (comment_end bs) (slash-within b bs) (comment_end-le bs) is

-- a form takes a byte at least, and no more than there are
abbrev Fits : List ℕ → Form → Type 0
Fits bs f = (0 < form_len f) × (form_len f ≤ length bs)

Fits-cond : (bs : List ℕ) (t : Bool) (f g : Form) → (t ≡ true → Fits bs f) → (t ≡ false → Fits bs g) → Fits bs (cond t f g)
Fits-cond bs true f g passes fails = passes refl
Fits-cond bs false f g passes fails = fails refl

within_limits-fits : (at n : ℕ) (bs : List ℕ) (kind : Kind) → 0 < n → n ≤ length bs → Fits bs (within_limits at bs kind n)
within_limits-fits at n bs Name some le = Fits-cond bs (nat_le n 64) (Found Name n) (Fault (LongName at)) (λ _. (some, le)) (λ _. (omega arith, omega arith))
within_limits-fits at n bs (Number v) some le = Fits-cond bs (nat_le (value_of (take n bs)) (2 ^ 63 - 1)) (Found (Number v) n) (Fault (LongNumber at)) (λ _. (some, le)) (λ _. (omega arith, omega arith))
within_limits-fits at n bs Text some le = (some, le)
within_limits-fits at n bs Quoted some le = (some, le)
within_limits-fits at n bs (Symbol s) some le = (some, le)

longest_at-fits : (at : ℕ) (bs : List ℕ) (o : Option (Kind × ℕ)) → 0 < length bs → o ≡ longest_form bs → Fits bs (longest_at at bs o)
longest_at-fits at bs None some is = (omega arith, omega arith)
longest_at-fits at bs (Some p) some is = let of = longest_form-of bs p (sym is) in within_limits-fits at p.1 bs p.0 of.0 of.1

comment_form-fits : (at : ℕ) (bs : List ℕ) (o : Option ℕ) → 1 < length bs → o ≡ comment_end (drop 2 bs) → Fits bs (comment_form at o)
comment_form-fits at bs None some is = (omega arith, omega arith)
comment_form-fits at bs (Some n) some is = (omega arith, omega (arith, comment_end-le (drop 2 bs) n (sym is), length-drop 2 bs))

opens-within : (bs : List ℕ) → opens_comment bs ≡ true → 1 < length bs
opens-within bs h = let next : get_or bs 1 0 ≡ star = grind (arith, nat_tests) in within-text bs 1 star (omega arith) next

pub form_at-len : (at : ℕ) (bs : List ℕ) → 0 < length bs → (0 < form_len (form_at at bs)) × (form_len (form_at at bs) ≤ length bs)
unfolding form_at
form_at-len at bs some =
    Fits-cond bs (is_blank (get_or bs 0 0)) (Gap 1) (cond (opens_comment bs) (comment_form at (comment_end (drop 2 bs))) (token_at at bs)) (λ _. (omega arith, omega arith)) (λ _. Fits-cond bs (opens_comment bs) (comment_form at (comment_end (drop 2 bs))) (token_at at bs) (λ opens. comment_form-fits at bs (comment_end (drop 2 bs)) (opens-within bs opens) refl) (λ _. longest_at-fits at bs (longest_form bs) some refl))

-- the tokens from a place on are those that the form there gives, and those after it
pub tokens_from-form : (at line : ℕ) (bs : List ℕ) → 0 < length bs → tokens_from 0 at line bs ≡ followed_by (form_tokens at line (form_at at bs)) (tokens_from 0 (at + form_len (form_at at bs)) (line + newlines (take (form_len (form_at at bs)) bs)) (drop (form_len (form_at at bs)) bs))
tokens_from-form at line [] some = absurd (omega arith)
tokens_from-form at line (b ∷ bs) some = ap (followed_by (form_tokens at line (form_at at (b ∷ bs)))) (rest (form_len (form_at at (b ∷ bs))) (form_at-len at (b ∷ bs) some).0)
  where
    rest : (n : ℕ) → 0 < n → tokens_from (n - 1) (suc at) (line_after line b) bs ≡ tokens_from 0 (at + n) (line + newlines (take n (b ∷ bs))) (drop n (b ∷ bs))
    rest zero h = absurd (omega arith)
    rest (suc n) h = let less : suc n - 1 ≡ n = omega arith in ap (λ m. tokens_from m (suc at) (line_after line b) bs) less ∙ tokens_from-passed (suc n) at line (b ∷ bs)

followed_by-assoc : (r s t : Result (List Token) LexFault) → followed_by r (followed_by s t) ≡ followed_by (followed_by r s) t
followed_by-assoc (Err f) s t = refl
followed_by-assoc (Ok ts) (Err f) t = refl
followed_by-assoc (Ok ts) (Ok us) (Err f) = refl
followed_by-assoc (Ok ts) (Ok us) (Ok vs) = ap Ok (sym (append_assoc ts us vs))

-- the scanner stands at the place `at`, on this line, behind these tokens
pub record ScannedTo (bytes : List ℕ) (tokens : List Token) (at line : ℕ) : Type 0 where
  pub within : at ≤ length bytes
  pub line_is : line ≡ 1 + newlines (take at bytes)
  pub ahead : tokens_of bytes ≡ followed_by (Ok tokens) (tokens_from 0 at line (drop at bytes))

from-none : (r : Result (List Token) LexFault) → r ≡ followed_by (Ok []) r
from-none (Ok ts) = refl
from-none (Err f) = refl

pub scanned-none : (bytes : List ℕ) → ScannedTo bytes [] 0 1
scanned-none bytes = record { within = omega arith; line_is = refl; ahead = from-none (tokens_from 0 0 1 bytes) }

-- the rest of the text, as the scanner slices it
pub rest-is : (bytes : List ℕ) (at : ℕ) → take (length bytes - at) (drop at bytes) ≡ drop at bytes
rest-is bytes at = take_all (length bytes - at) (drop at bytes) (omega (arith, length-drop at bytes))

take-nil : (m : ℕ) → newlines (take m []) ≡ 0
take-nil zero = refl
take-nil (suc m) = refl

newlines-split : (bytes : List ℕ) (at n : ℕ) → newlines (take (at + n) bytes) ≡ newlines (take at bytes) + newlines (take n (drop at bytes))
newlines-split bytes zero n = let e : 0 + n ≡ n = omega arith in rw e (omega arith)
newlines-split [] (suc at) n = omega (arith, take-nil (suc at + n), take-nil n)
newlines-split (b ∷ bytes) (suc at) n =
    let e : suc at + n ≡ suc (at + n) = omega arith in
    rw (e, newlines-cons b (take (at + n) bytes), newlines-cons b (take at bytes), newlines-split bytes at n) (omega arith)

module _ (bytes : List ℕ) (tokens : List Token) (at line : ℕ) (scanned : ScannedTo bytes tokens at line) where
  -- at the end all tokens are found
  pub scanned-all : length bytes ≤ at → tokens_of bytes ≡ Ok tokens
  scanned-all done =
      let nothing : drop at bytes ≡ [] = drop_all at bytes done in
      scanned.ahead ∙ rw (nothing, append-nil) refl

  -- a form at the place, which takes n bytes with k newlines
  module _ (more : at < length bytes) (f : Form) (is : f ≡ form_at at (take (length bytes - at) (drop at bytes))) where
    is-rest : f ≡ form_at at (drop at bytes)
    is-rest = is ∙ ap (form_at at) (rest-is bytes at)

    ahead-form : tokens_of bytes ≡ followed_by (followed_by (Ok tokens) (form_tokens at line f)) (tokens_from 0 (at + form_len f) (line + newlines (take (form_len f) (drop at bytes))) (drop (form_len f) (drop at bytes)))
    ahead-form =
        rw is-rest (scanned.ahead ∙ ap (followed_by (Ok tokens)) (tokens_from-form at line (drop at bytes) (omega (arith, length-drop at bytes))) ∙ followed_by-assoc (Ok tokens) (form_tokens at line (form_at at (drop at bytes))) _)

    pub form-within : (0 < form_len f) × (at + form_len f ≤ length bytes)
    form-within =
        let fits = form_at-len at (drop at bytes) (omega (arith, length-drop at bytes)) in
        rw is-rest (fits.0, omega (arith, fits, length-drop at bytes))

    -- a fault is the first
    pub scanned-fault : (e : LexFault) → form_tokens at line f ≡ Err e → tokens_of bytes ≡ Err e
    scanned-fault e fault = ahead-form ∙ rw fault refl

    -- the form's tokens are added
    pub scanned-more : (after : List Token) (n k : ℕ) → n ≡ form_len f → followed_by (Ok tokens) (form_tokens at line f) ≡ Ok after → k ≡ newlines (take n (drop at bytes)) → ScannedTo bytes after (at + n) (line + k)
    scanned-more after n k len added count = record {
      within = omega (arith, form-within.1, len);
      line_is = rw (scanned.line_is, count, newlines-split bytes at n) (omega arith);
      ahead = ahead-form ∙ rw (added, ← len, ← count, drop-drop n at bytes) refl;
    }
