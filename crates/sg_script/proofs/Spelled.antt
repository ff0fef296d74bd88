-- The words of a spelled line are read back.
use Rattle.std.specs.Prelude.{◌≡◌, refl, ℕ, suc, ◌+◌, ◌-◌, ◌*◌, ◌<◌, ◌≤◌, Bool, true, false, not, ◌&&◌, ◌||◌, ◌==◌, nat_le, nat_lt, if◌then◌else◌, List, [], ◌∷◌, ◌++◌, length, take, drop, map, fold, Some, None, option_map}
use Rattle.std.specs.List.{list_all, AllByRecursion}
use Rattle.std.specs.Char.{is_ascii_digit}
use Rattle.std.specs.Fmt.{decimal}
use Rattle.std.specs.Int.Digits.{digits_of, number_from_digits_after}
use Rattle.std.proofs.Common.{sym, ◌∙◌, ap, arith, get_or}
use Rattle.std.proofs.Math.Seq.{take-append_seam, drop-append_seam, take-length, drop-length}
use Rattle.std.proofs.lemmas.Bool.{and_parts}
use Rattle.std.proofs.lemmas.Fmt.{decimal-digits_of}
use Rattle.std.proofs.lemmas.Int.Digits.{all_below_base_digits_of, first_digits_of, length-digits_of-le, number_digits_of}
use Rattle.sg_text.specs.Bytes as text
use Rattle.sg_text.specs.Bytes.{newline, carriage_return, space, double_quote}
use Rattle.sg_text.specs.Strings.{unescaped}
use Rattle.sg_text.specs.Forms as token
use Rattle.sg_text.specs.Forms.{value_of}
use Rattle.sg_kinds.proofs.Elementary.{and_true, eq_is, eq_false, le_is, le_true, lt_is, not_true}
use Rattle.sg_script.specs.Words.{is_space, word_len, spaces_at, word_at, behind_spaces, next_word, closing, next_string, last_of, is_end}
use Rattle.sg_script.specs.Forms.{is_name_byte, is_name, name_of, is_view_name, view_name_of, is_graphic, is_file_name, file_name_of, is_count, count_of, has_length}
use Rattle.sg_script.specs.Spelled.{escaped, string_of, is_position, is_text}

-- what holds of each byte, where something stronger does
weaker : (p q : ℕ → Bool) → ((b : ℕ) → p b ≡ true → q b ≡ true) → (bs : List ℕ) → list_all p bs ≡ true → list_all q bs ≡ true
weaker p q f [] h = refl
weaker p q f (b ∷ bs) h =
    let parts = and_parts (p b) (list_all p bs) h in
    and_true (q b) (list_all q bs) (f b parts.0) (weaker p q f bs parts.1)

-- a byte of a set is no byte outside of it
apart : (p : ℕ → Bool) (n : ℕ) → p n ≡ false → (b : ℕ) → p b ≡ true → not (b == n) ≡ true
apart p n f b t = go (b == n) refl
  where
    go : (e : Bool) → (b == n) ≡ e → not e ≡ true
    go false h = refl
    go true h = let same : b ≡ n = eq_is b n h in absurd cc

abbrev no_space : ℕ → Bool
no_space b = not (is_space b)

-- a byte that ends no line
abbrev pub is_plain : ℕ → Bool
is_plain b = not (b == newline) && not (b == carriage_return)

plain_in : (p : ℕ → Bool) → p newline ≡ false → p carriage_return ≡ false → (bs : List ℕ) → list_all p bs ≡ true → list_all is_plain bs ≡ true
plain_in p n r bs h =
    weaker p is_plain (λ b e. and_true (not (b == newline)) (not (b == carriage_return)) (apart p newline n b e) (apart p carriage_return r b e)) bs h

-- no space stands in front of a word
no_spaces : (w : List ℕ) → list_all no_space w ≡ true → spaces_at w ≡ 0
no_spaces [] h = refl
no_spaces (b ∷ w) h =
    let e : is_space b ≡ false = not_true (is_space b) (and_parts (no_space b) (list_all no_space w) h).0 in
    ap (λ t. if t then 1 + spaces_at w else 0) e

no_spaces_before : (w rest : List ℕ) → list_all no_space w ≡ true → 0 < length w → spaces_at (w ++ rest) ≡ 0
no_spaces_before [] rest h l = absurd (omega arith)
no_spaces_before (b ∷ w) rest h l =
    let e : is_space b ≡ false = not_true (is_space b) (and_parts (no_space b) (list_all no_space w) h).0 in
    ap (λ t. if t then 1 + spaces_at (w ++ rest) else 0) e

behind_one : (bytes : List ℕ) → spaces_at bytes ≡ 0 → behind_spaces (space ∷ bytes) ≡ Some bytes
behind_one bytes h = ap (λ n. if 1 + n == 0 then None else Some (drop (1 + n) (space ∷ bytes))) h

whole_len : (w : List ℕ) → list_all no_space w ≡ true → word_len w ≡ length w
whole_len [] h = refl
whole_len (b ∷ w) h =
    let parts = and_parts (no_space b) (list_all no_space w) h in
    let e : word_len (b ∷ w) ≡ 1 + word_len w = ap (λ t. if t then 1 + word_len w else 0) parts.0 in
    omega (arith, e, whole_len w parts.1)

front_len : (w rest : List ℕ) → list_all no_space w ≡ true → word_len (w ++ space ∷ rest) ≡ length w
front_len [] rest h = refl
front_len (b ∷ w) rest h =
    let parts = and_parts (no_space b) (list_all no_space w) h in
    let e : word_len (b ∷ w ++ space ∷ rest) ≡ 1 + word_len (w ++ space ∷ rest) = ap (λ t. if t then 1 + word_len (w ++ space ∷ rest) else 0) parts.0 in
    omega (arith, e, front_len w rest parts.1)

word_ends : (w : List ℕ) → list_all no_space w ≡ true → word_at w ≡ (w, [])
word_ends w h = ap (λ n. (take n w, drop n w)) (whole_len w h) ∙ rw (take-length w, drop-length w) refl

word_stops : (w rest : List ℕ) → list_all no_space w ≡ true → word_at (w ++ space ∷ rest) ≡ (w, space ∷ rest)
word_stops w rest h =
    ap (λ n. (take n (w ++ space ∷ rest), drop n (w ++ space ∷ rest))) (front_len w rest h)
    ∙ rw (take-append_seam w (space ∷ rest), drop-append_seam w (space ∷ rest)) refl

-- the last word of a line, and one before another
last_word : (w : List ℕ) → list_all no_space w ≡ true → last_of (next_word (space ∷ w)) ≡ Some w
last_word w h =
    ap (λ o. last_of (option_map word_at o)) (behind_one w (no_spaces w h)) ∙ ap (λ c. last_of (Some c)) (word_ends w h)

pub first_word : (w rest : List ℕ) → list_all no_space w ≡ true → 0 < length w → next_word (space ∷ w ++ space ∷ rest) ≡ Some (w, space ∷ rest)
first_word w rest h l =
    ap (option_map word_at) (behind_one (w ++ space ∷ rest) (no_spaces_before w (space ∷ rest) h l)) ∙ ap Some (word_stops w rest h)

-- a name as in a specification holds letters, digits and _ alone, and no space stands in front of it
name_bytes : (name : List ℕ) → token.is_name name ≡ true → list_all text.is_name_byte name ≡ true
name_bytes [] h = refl
name_bytes (b ∷ bs) h =
    let p = and_parts (text.is_letter b) (list_all text.is_name_byte bs) h in
    and_true (text.is_name_byte b) (list_all text.is_name_byte bs) (ap (λ t. t || is_ascii_digit b) p.0) p.1

name_speaks : (name : List ℕ) → token.is_name name ≡ true → is_end name ≡ false
name_speaks [] h = absurd cc
name_speaks (b ∷ bs) h =
    let p = and_parts (text.is_letter b) (list_all text.is_name_byte bs) h in
    ap (λ t. t && is_end bs) (not_true (is_space b) (apart text.is_letter space refl b p.0))

-- the name of a buffer
module _ (name : List ℕ) (h : is_name name ≡ true) where
  parts : (has_length name ≡ true) × (list_all is_name_byte name ≡ true)
  parts = and_parts (has_length name) (list_all is_name_byte name) h

  pub name_word : list_all no_space name ≡ true
  name_word = weaker is_name_byte no_space (apart is_name_byte space refl) name parts.1

  pub name_plain : list_all is_plain name ≡ true
  name_plain = plain_in is_name_byte refl refl name parts.1

  pub name_there : 0 < length name
  name_there = omega (arith, le_is 1 (length name) (and_parts (nat_le 1 (length name)) (nat_le (length name) 64) parts.0).0)

  pub name_is : name_of name ≡ Some name
  name_is = ap (λ t. if t then Some name else None) h

  pub name_last : last_of (next_word (space ∷ name)) ≡ Some name
  name_last = last_word name name_word

-- the name of a view
module _ (view : List ℕ) (h : is_view_name view ≡ true) where
  is_token : token.is_name view ≡ true
  is_token = (and_parts (has_length view) (token.is_name view) h).1

  pub view_bytes : list_all text.is_name_byte view ≡ true
  view_bytes = name_bytes view is_token

  pub view_plain : list_all is_plain view ≡ true
  view_plain = plain_in text.is_name_byte refl refl view view_bytes

  pub view_is : view_name_of view ≡ Some view
  view_is = ap (λ t. if t then Some view else None) h

  pub view_last : last_of (next_word (space ∷ view)) ≡ Some view
  view_last = last_word view (weaker text.is_name_byte no_space (apart text.is_name_byte space refl) view view_bytes)

  pub view_there : is_end (space ∷ view) ≡ false
  view_there = name_speaks view is_token

-- the name of a file
module _ (file : List ℕ) (h : is_file_name file ≡ true) where
  bytes : list_all is_graphic file ≡ true
  bytes = (and_parts (has_length file) (list_all is_graphic file) h).1

  pub file_plain : list_all is_plain file ≡ true
  file_plain = plain_in is_graphic refl refl file bytes

  pub file_is : file_name_of file ≡ Some file
  file_is = ap (λ t. if t then Some file else None) h

  pub file_last : last_of (next_word (space ∷ file)) ≡ Some file
  file_last = last_word file (weaker is_graphic no_space (apart is_graphic space refl) file bytes)

-- the digits of a number
abbrev written : List ℕ → List ℕ
written ds = map (λ d. 48 + d) ds

written_digits : (ds : List ℕ) → AllByRecursion (λ d. d < 10) ds → list_all is_ascii_digit (written ds) ≡ true
written_digits [] h = refl
written_digits (d ∷ ds) h =
    and_true (is_ascii_digit (48 + d)) (list_all is_ascii_digit (written ds))
    (and_true (nat_le 48 (48 + d)) (nat_le (48 + d) 57) (le_true 48 (48 + d) (omega arith)) (le_true (48 + d) 57 (omega (arith, h.0))))
    (written_digits ds h.1)

written_length : (ds : List ℕ) → length (written ds) ≡ length ds
written_length [] = refl
written_length (d ∷ ds) = ap suc (written_length ds)

written_value : (n : ℕ) (ds : List ℕ) → fold (λ v d. v * 10 + (d - 48)) n (written ds) ≡ number_from_digits_after 10 n ds
written_value n [] = refl
written_value n (d ∷ ds) =
    let e : n * 10 + (48 + d - 48) ≡ n * 10 + d = omega arith in
    ap (λ m. fold (λ v d. v * 10 + (d - 48)) m (written ds)) e ∙ written_value (n * 10 + d) ds

written_count : (ds : List ℕ) → AllByRecursion (λ d. d < 10) ds → 0 < get_or ds 0 0 → length ds ≤ 9 → is_count (written ds) ≡ true
written_count [] h f l = absurd (omega arith)
written_count (d ∷ ds) h f l =
    let other : (48 + d == 48) ≡ false = eq_false (48 + d) 48 (λ e. absurd (omega arith)) in
    let few : nat_le (length (written ds)) 8 ≡ true = le_true (length (written ds)) 8 (omega (arith, written_length ds)) in
    and_true (not (48 + d == 48) && nat_le (length (written ds)) 8) (list_all is_ascii_digit (written (d ∷ ds)))
    (and_true (not (48 + d == 48)) (nat_le (length (written ds)) 8) (ap not other) few)
    (written_digits (d ∷ ds) h)

module _ (n : ℕ) (h : is_position n ≡ true) where
  some : 0 < n
  some = lt_is 0 n (and_parts (nat_lt 0 n) (nat_lt n 1000000000) h).0

  small : n < 1000000000
  small = lt_is n 1000000000 (and_parts (nat_lt 0 n) (nat_lt n 1000000000) h).1

  spelled : decimal n ≡ written (digits_of 10 n)
  spelled = decimal-digits_of n some (omega (arith, small))

  nine : length (digits_of 10 n) ≤ 9
  nine = length-digits_of-le 10 9 n (omega arith) small

  below : AllByRecursion (λ d. d < 10) (digits_of 10 n)
  below = all_below_base_digits_of 10 n (omega arith)

  leads : 0 < get_or (digits_of 10 n) 0 0
  leads = first_digits_of 10 n (omega arith) some

  digits : list_all is_ascii_digit (decimal n) ≡ true
  digits = rw spelled (written_digits (digits_of 10 n) below)

  pub place_word : list_all no_space (decimal n) ≡ true
  place_word = weaker is_ascii_digit no_space (apart is_ascii_digit space refl) (decimal n) digits

  pub place_plain : list_all is_plain (decimal n) ≡ true
  place_plain = plain_in is_ascii_digit refl refl (decimal n) digits

  pub place_there : 0 < length (decimal n)
  place_there = rw spelled (go (digits_of 10 n) leads)
    where
      go : (ds : List ℕ) → 0 < get_or ds 0 0 → 0 < length (written ds)
      go [] l = absurd (omega arith)
      go (d ∷ ds) l = omega arith

  value : value_of (decimal n) ≡ n
  value = ap value_of spelled ∙ written_value 0 (digits_of 10 n) ∙ number_digits_of 10 n (omega arith)

  pub place_is : count_of (decimal n) ≡ Some n
  place_is =
      let counts : is_count (decimal n) ≡ true = rw spelled (written_count (digits_of 10 n) below leads nine) in
      ap (λ t. if t then Some (value_of (decimal n)) else None) counts ∙ ap Some value

  pub place_last : last_of (next_word (space ∷ decimal n)) ≡ Some (decimal n)
  place_last = last_word (decimal n) place_word

-- one byte of a string with its escape, where these tests of it are known
abbrev with_byte : (newlined quoted slashed : Bool) → ℕ → List ℕ → List ℕ
with_byte n q s b rest = if n then 92 ∷ 110 ∷ rest else (if q || s then 92 ∷ b ∷ rest else b ∷ rest)

unescaped_more : (b : ℕ) (text rest : List ℕ) → unescaped rest ≡ text → unescaped (with_byte (b == 10) (b == 34) (b == 92) b rest) ≡ b ∷ text
unescaped_more b text rest h = go (b == 10) (b == 34) (b == 92) refl refl refl
  where
    go : (n q s : Bool) → (b == 10) ≡ n → (b == 34) ≡ q → (b == 92) ≡ s → unescaped (with_byte n q s b rest) ≡ b ∷ text
    go true q s en eq es = let e : 10 ≡ b = sym (eq_is b 10 en) in ap (λ t. 10 ∷ t) h ∙ ap (λ x. x ∷ text) e
    go false true s en eq es = let e : b ≡ 34 = eq_is b 34 eq in rw e (ap (λ t. 34 ∷ t) h)
    go false false true en eq es = let e : b ≡ 92 = eq_is b 92 es in rw e (ap (λ t. 92 ∷ t) h)
    go false false false en eq es = rw es (ap (λ t. b ∷ t) h)

pub unescaped_escaped : (text : List ℕ) → unescaped (escaped text) ≡ text
unescaped_escaped [] = refl
unescaped_escaped (b ∷ text) = unescaped_more b text (escaped text) (unescaped_escaped text)

closing_more : (b : ℕ) (rest tail : List ℕ) → not (b == 13) ≡ true → closing false (rest ++ tail) ≡ Some (length rest) → closing false (with_byte (b == 10) (b == 34) (b == 92) b rest ++ tail) ≡ Some (length (with_byte (b == 10) (b == 34) (b == 92) b rest))
closing_more b rest tail r h = go (b == 10) (b == 34) (b == 92) refl refl refl
  where
    go : (n q s : Bool) → (b == 10) ≡ n → (b == 34) ≡ q → (b == 92) ≡ s → closing false (with_byte n q s b rest ++ tail) ≡ Some (length (with_byte n q s b rest))
    go true q s en eq es = ap (λ o. option_map suc (option_map suc o)) h
    go false true s en eq es = let e : b ≡ 34 = eq_is b 34 eq in rw e (ap (λ o. option_map suc (option_map suc o)) h)
    go false false true en eq es = let e : b ≡ 92 = eq_is b 92 es in rw e (ap (λ o. option_map suc (option_map suc o)) h)
    go false false false en eq es = let e : (b == 13) ≡ false = not_true (b == 13) r in rw (eq, en, e, es) (ap (λ o. option_map suc o) h)

closing_escaped : (text : List ℕ) → is_text text ≡ true → closing false (escaped text ++ double_quote ∷ []) ≡ Some (length (escaped text))
closing_escaped [] h = refl
closing_escaped (b ∷ text) h =
    let parts = and_parts (not (b == carriage_return)) (is_text text) h in
    closing_more b (escaped text) (double_quote ∷ []) parts.0 (closing_escaped text parts.1)

past_quote : (e : List ℕ) → drop (suc (length e)) (e ++ double_quote ∷ []) ≡ []
past_quote [] = refl
past_quote (b ∷ e) = past_quote e

-- a string
pub string_last : (text : List ℕ) → is_text text ≡ true → last_of (next_string (space ∷ string_of text)) ≡ Some (escaped text)
string_last text h =
    let x = escaped text ++ double_quote ∷ [] in
    ap (λ o. last_of (option_map (λ n. (take n x, drop (suc n) x)) o)) (closing_escaped text h)
    ∙ rw (past_quote (escaped text), take-append_seam (escaped text) (double_quote ∷ [])) refl

plain_more : (b : ℕ) (rest : List ℕ) → not (b == 13) ≡ true → list_all is_plain rest ≡ true → list_all is_plain (with_byte (b == 10) (b == 34) (b == 92) b rest) ≡ true
plain_more b rest r h = go (b == 10) (b == 34) (b == 92) refl refl refl
  where
    go : (n q s : Bool) → (b == 10) ≡ n → (b == 34) ≡ q → (b == 92) ≡ s → list_all is_plain (with_byte n q s b rest) ≡ true
    go true q s en eq es = h
    go false true s en eq es = let e : b ≡ 34 = eq_is b 34 eq in rw e h
    go false false true en eq es = let e : b ≡ 92 = eq_is b 92 es in rw e h
    go false false false en eq es = and_true (is_plain b) (list_all is_plain rest) (and_true (not (b == 10)) (not (b == 13)) (ap not en) r) h

escaped_plain : (text : List ℕ) → is_text text ≡ true → list_all is_plain (escaped text) ≡ true
escaped_plain [] h = refl
escaped_plain (b ∷ text) h =
    let parts = and_parts (not (b == carriage_return)) (is_text text) h in
    plain_more b (escaped text) parts.0 (escaped_plain text parts.1)

pub plain_append : (xs ys : List ℕ) → list_all is_plain xs ≡ true → list_all is_plain ys ≡ true → list_all is_plain (xs ++ ys) ≡ true
plain_append [] ys h k = k
plain_append (b ∷ xs) ys h k =
    let parts = and_parts (is_plain b) (list_all is_plain xs) h in
    and_true (is_plain b) (list_all is_plain (xs ++ ys)) parts.0 (plain_append xs ys parts.1 k)

pub string_plain : (text : List ℕ) → is_text text ≡ true → list_all is_plain (string_of text) ≡ true
string_plain text h = plain_append (escaped text) (double_quote ∷ []) (escaped_plain text h) refl
