-- Patterns: their spellings are read, and what is read is spelled.
use Rattle.std.proofs.Common.{◌≡◌, ℕ, zero, suc, ◌<◌, ◌≤◌, ◌^◌, Bool, true, false, List, [], ◌∷◌, ◌++◌, Some, refl, sym, ap, subst, arith}
use Rattle.std.specs.Prelude.{flat_map}
use Rattle.std.specs.List.{AllByRecursion, join_by}
use Rattle.std.proofs.lemmas.Bool.{lt-ltb}
use Rattle.sg_text.specs.Lexemes.{Word, Reserved}
use Rattle.sg_text.specs.declared.symbols.Symbol.TheVariants.{Comma, RightParenthesis, LeftParenthesis, LeftBracket, RightBracket, Less, Greater, Minus, Star}
use Rattle.sg_text.specs.declared.words.Keyword.TheVariants as keyword
use Rattle.sg_kinds.specs.declared.fault.Position.{Position}
use Rattle.sg_kinds.specs.declared.marks.Made.{Made}
use Rattle.sg_kinds.specs.declared.marks.Made.TheVariants.{Completing, Placeholder}
use Rattle.sg_ast.specs.declared.name.Name.{Name}
use Rattle.sg_ast.specs.Patterns.{Pattern, Patterns, Amount, Chars, Truth, Anything, Variable, MadeAs, Applied, NoPattern, AndPattern}
use Rattle.sg_ast.specs.Spelling.{Mark, Piece, Kept, Takes, none, free, kept, sign, sign_at, named, comma, truth_word, opening, closing, spell_pattern, spell_patterns, spell_more_patterns}
use Rattle.sg_ast.specs.Grouped.{HasNumbers, HaveNumbers, pattern_depth, patterns_depth}
use Rattle.sg_ast.specs.Readers.{is_sign, is_name, sees, expect, name, number, string}
use Rattle.sg_ast.specs.Chains.{chain_of}
use Rattle.sg_ast.specs.ReadingNames.{truth, placeholder, completing, negative, signed_pattern, named_pattern, pattern_by, pattern_within}
use Rattle.sg_ast.proofs.Steps.{◌then◌, ends, opens, closes, either, sign_read, sign_at_read, word_at_read, sees_free, name_read, number_read, string_read, after_name, dropped}
use Rattle.sg_ast.proofs.Separated.{Elements, arguments_first, arguments_read}

-- a pattern of at most so many nodes in depth, and what may not stand behind one
pub record IsWithin (d : ℕ) (x : Pattern) : Type 0 where
  pub numbers : HasNumbers x
  pub within : pattern_depth x ≤ d

abbrev pub NoCall : List Mark → Type 0
NoCall ms = sees (is_sign LeftParenthesis) ms ≡ false

-- ---- parts

pub placeholder_reads : {A : Type 0} (f : Made → Name → Position → A) (n : Name) (place : Position) {ms rest : List Mark}
    → Takes (sign_at Less place ∷ named n ∷ sign Greater ∷ []) ms rest → placeholder f ms ≡ Some (f Placeholder n place, rest)
unfolding placeholder expect name
placeholder_reads f n place (kept (kept (free none))) = refl

pub completing_reads : {A : Type 0} (f : Made → Name → Position → A) (n : Name) (place : Position) {ms rest : List Mark}
    → Takes (sign_at LeftBracket place ∷ named n ∷ sign RightBracket ∷ []) ms rest → completing f ms ≡ Some (f Completing n place, rest)
unfolding completing expect name
completing_reads f n place (kept (kept (free none))) = refl

-- what was read as `<p>` or `[p]`
pub record IsMade {A : Type 0} (f : Made → Name → Position → A) (a : A) (ms rest : List Mark) : Type 0 where
  pub made : Made
  pub n : Name
  pub place : Position
  pub is : f made n place ≡ a
  pub spelled : Takes (sign_at (opening made) place ∷ named n ∷ sign (closing made) ∷ []) ms rest

pub placeholder_read : {A : Type 0} (f : Made → Name → Position → A) {a : A} {ms rest : List Mark} → placeholder f ms ≡ Some (a, rest) → IsMade f a ms rest
unfolding placeholder
placeholder_read f {ms = ms} e =
    let s1 = opens e in
    let s2 = opens s1.3 in
    let s3 = opens s2.3 in
    closes (λ a rest. IsMade f a ms rest) (record { made = Placeholder; n = s2.0; place = s1.0; is = refl; spelled = sign_at_read Less s1.2 then name_read s2.2 then sign_read Greater s3.2 }) s3.3

pub completing_read : {A : Type 0} (f : Made → Name → Position → A) {a : A} {ms rest : List Mark} → completing f ms ≡ Some (a, rest) → IsMade f a ms rest
unfolding completing
completing_read f {ms = ms} e =
    let s1 = opens e in
    let s2 = opens s1.3 in
    let s3 = opens s2.3 in
    closes (λ a rest. IsMade f a ms rest) (record { made = Completing; n = s2.0; place = s1.0; is = refl; spelled = sign_at_read LeftBracket s1.2 then name_read s2.2 then sign_read RightBracket s3.2 }) s3.3

pub truth_reads : (b : Bool) (place : Position) {ms rest : List Mark} → Takes (Kept (Reserved (truth_word b)) place ∷ []) ms rest → truth ms ≡ Some ((b, place), rest)
unfolding truth sees expect
truth_reads true place (kept none) = refl
truth_reads false place (kept none) = refl

pub truth_read : {b : Bool × Position} {ms rest : List Mark} → truth ms ≡ Some (b, rest) → Takes (Kept (Reserved (truth_word b.0)) b.1 ∷ []) ms rest
unfolding truth
truth_read {b = b} {ms = ms} {rest = rest} e =
    let P : Bool × Position → List Mark → Type 0 = λ b rest. Takes (Kept (Reserved (truth_word b.0)) b.1 ∷ []) ms rest in
    either (sees _ ms) e
    (λ passes e. let s1 = opens e in closes P (word_at_read keyword.True s1.2) s1.3)
    (λ fails e. let s1 = opens e in closes P (word_at_read keyword.False s1.2) s1.3)

-- ---- chains as lists

pub list_of : Patterns → List Pattern
list_of NoPattern = []
list_of (AndPattern x xs) = x ∷ list_of xs

chain-list : (xs : Patterns) → chain_of (list_of xs) ≡ xs
unfolding list_of
chain-list NoPattern = refl
chain-list (AndPattern x xs) = ap (AndPattern x) (chain-list xs)

more-list : (xs : Patterns) → spell_more_patterns xs ≡ flat_map (λ x. sign Comma ∷ spell_pattern x) (list_of xs)
unfolding list_of
more-list NoPattern = refl
more-list (AndPattern x xs) = ap (λ (ps : List Piece). sign Comma ∷ spell_pattern x ++ ps) (more-list xs)

spell-list : (xs : Patterns) → spell_patterns xs ≡ join_by spell_pattern comma (list_of xs)
unfolding list_of
spell-list NoPattern = refl
spell-list (AndPattern x xs) = ap (λ (ps : List Piece). spell_pattern x ++ ps) (more-list xs)

more-chain : (xs : List Pattern) → spell_more_patterns (chain_of xs) ≡ flat_map (λ x. sign Comma ∷ spell_pattern x) xs
more-chain [] = refl
more-chain (x ∷ xs) = ap (λ (ps : List Piece). sign Comma ∷ spell_pattern x ++ ps) (more-chain xs)

spell-chain : (xs : List Pattern) → spell_patterns (chain_of xs) ≡ join_by spell_pattern comma xs
spell-chain [] = refl
spell-chain (x ∷ xs) = ap (λ (ps : List Piece). spell_pattern x ++ ps) (more-chain xs)

each_within : (d : ℕ) (xs : Patterns) → HaveNumbers xs → patterns_depth xs ≤ d → AllByRecursion (IsWithin d) (list_of xs)
unfolding list_of
each_within d NoPattern ns within = tt
each_within d (AndPattern x xs) ns within = (record { numbers = ns.0; within = omega arith }, each_within d xs ns.1 (omega arith))

all_within : (d : ℕ) (xs : List Pattern) → AllByRecursion (IsWithin d) xs → HaveNumbers (chain_of xs) × (patterns_depth (chain_of xs) ≤ d)
all_within d [] all = (tt, omega arith)
all_within d (x ∷ xs) all = let rest = all_within d xs all.1 in ((all.0.numbers, rest.0), omega (arith, rest.1, all.0.within))

-- ---- their spellings are read

pub begins : (x : Pattern) {ms rest : List Mark} → Takes (spell_pattern x) ms rest → sees (is_sign RightParenthesis) ms ≡ false
unfolding sees
begins (Amount true n place) (kept t) = refl
begins (Amount false n place) (kept t) = refl
begins (Chars s) (kept t) = refl
begins (Truth b place) (kept t) = refl
begins (Anything place) (kept t) = refl
begins (Variable n) (kept t) = refl
begins (MadeAs Completing n place) (kept t) = refl
begins (MadeAs Placeholder n place) (kept t) = refl
begins (Applied n xs) (kept t) = refl

elements_by : (d : ℕ) → ((x : Pattern) (ms rest : List Mark) → IsWithin d x → Takes (spell_pattern x) ms rest → NoCall rest → pattern_within d ms ≡ Some (x, rest))
    → Elements (pattern_within d) spell_pattern (IsWithin d) NoCall
elements_by d reads = record {
  reads = λ x {ms} {rest} is t end. reads x ms rest is t end;
  begins = λ x t. begins x t;
  at_comma = λ ps ms rest t. sees_free (is_sign LeftParenthesis) t;
  at_end = λ ps ms rest t. sees_free (is_sign LeftParenthesis) t;
}

deep : (x : Pattern) → 0 < pattern_depth x
deep (Applied n xs) = omega arith
deep x = omega arith

pub pattern_reads : (d : ℕ) (x : Pattern) (ms rest : List Mark) → IsWithin d x → Takes (spell_pattern x) ms rest → NoCall rest → pattern_within d ms ≡ Some (x, rest)
unfolding pattern_within pattern_by signed_pattern negative named_pattern truth sees expect name number string
pattern_reads zero x ms rest is t end = absurd (omega (arith, deep x, is.within))
pattern_reads (suc d) (Amount false n place) ms rest is (kept none) end = rw (lt-ltb n (2 ^ 63) is.numbers) refl
pattern_reads (suc d) (Amount true n place) ms rest is (kept (free none)) end = rw (lt-ltb n (2 ^ 63) is.numbers) refl
pattern_reads (suc d) (Chars s) ms rest is (kept none) end = refl
pattern_reads (suc d) (Truth true place) ms rest is (kept none) end = refl
pattern_reads (suc d) (Truth false place) ms rest is (kept none) end = refl
pattern_reads (suc d) (Anything place) ms rest is (kept none) end = refl
pattern_reads (suc d) (Variable n) ms rest is (kept none) end = rw end refl
pattern_reads (suc d) (MadeAs Completing n place) ms rest is (kept t) end = completing_reads MadeAs n place (kept t)
pattern_reads (suc d) (MadeAs Placeholder n place) ms rest is (kept t) end = placeholder_reads MadeAs n place (kept t)
pattern_reads (suc d) (Applied n xs) ms rest is (kept (free {ms = mid} t)) end =
    let within : patterns_depth xs ≤ d = omega (arith, is.within) in
    let spelled = spell-list xs in
    let P : List Piece → Type 0 = λ ps. Takes (ps ++ sign RightParenthesis ∷ []) mid rest in
    let found = arguments_first (elements_by d (pattern_reads d)) (list_of xs) (each_within d xs is.numbers within) (subst P spelled t) in
    rw (found.read, chain-list xs, ends found.tail) refl

-- ---- what is read is spelled

-- a pattern that was read
pub record IsRead (d : ℕ) (x : Pattern) (ms rest : List Mark) : Type 0 where
  pub is : IsWithin d x
  pub spelled : Takes (spell_pattern x) ms rest

made_within : (d : ℕ) {x : Pattern} {ms rest : List Mark} → IsMade MadeAs x ms rest → IsRead (suc d) x ms rest
made_within d {ms = ms} {rest = rest} m =
    let P : Pattern → Type 0 = λ x. IsRead (suc d) x ms rest in
    subst P m.is (record { is = record { numbers = tt; within = omega arith }; spelled = m.spelled })

named_read : (d : ℕ) → ((x : Pattern) (ms rest : List Mark) → pattern_within d ms ≡ Some (x, rest) → IsWithin d x × Takes (spell_pattern x) ms rest)
    → (n : Name) {x : Pattern} {ms rest : List Mark} → named_pattern (pattern_within d) n ms ≡ Some (x, rest) → IsRead (suc d) x ((Word n.text, n.place) ∷ ms) rest
unfolding named_pattern
named_read d read n {x = x} {ms = ms} {rest = rest} e =
    let P : Pattern → List Mark → Type 0 = λ x rest. IsRead (suc d) x ((Word n.text, n.place) ∷ ms) rest in
    either (sees (is_sign LeftParenthesis) ms) e
    (λ passes e.
    let s1 = opens e in
    let s2 = opens s1.3 in
    let found = arguments_read (pattern_within d) spell_pattern (IsWithin d) read s2.0 s1.1 s2.1 s2.2 in
    let each = all_within d s2.0 found.0 in
    let Q : List Piece → Type 0 = λ ps. Takes (ps ++ sign RightParenthesis ∷ []) s1.1 s2.1 in
    let inside = subst Q (sym (spell-chain s2.0)) found.1 in
    closes P (record { is = record { numbers = each.0; within = omega (arith, each.1) }; spelled = kept (sign_read LeftParenthesis s1.2 then inside) }) s2.3)
    (λ fails e. closes P (record { is = record { numbers = tt; within = omega arith }; spelled = kept none }) e)

negative_read : (d : ℕ) {x : Pattern} {ms rest : List Mark} → negative ms ≡ Some (x, rest) → IsRead (suc d) x ms rest
unfolding negative
negative_read d {ms = ms} e =
    let s1 = opens e in
    let s2 = opens s1.3 in
    let n = number_read s2.2 in
    closes (λ x rest. IsRead (suc d) x ms rest) (record { is = record { numbers = n.0; within = omega arith }; spelled = sign_at_read Minus s1.2 then dropped n.1 }) s2.3

signed_read : (d : ℕ) {x : Pattern} {ms rest : List Mark} → signed_pattern ms ≡ Some (x, rest) → IsRead (suc d) x ms rest
unfolding signed_pattern
signed_read d {ms = ms} e =
    either (sees (is_sign Star) ms) e
    (λ is e.
    let s1 = opens e in
    closes (λ x rest. IsRead (suc d) x ms rest) (record { is = record { numbers = tt; within = omega arith }; spelled = sign_at_read Star s1.2 }) s1.3)
    (λ not e. either (sees (is_sign Less) ms) e
    (λ is e. made_within d (placeholder_read MadeAs e))
    (λ not e. either (sees (is_sign LeftBracket) ms) e
    (λ is e. made_within d (completing_read MadeAs e))
    (λ not e. negative_read d e)))

pattern_by_read : (d : ℕ) → ((x : Pattern) (ms rest : List Mark) → pattern_within d ms ≡ Some (x, rest) → IsWithin d x × Takes (spell_pattern x) ms rest)
    → {x : Pattern} {ms rest : List Mark} → pattern_by (pattern_within d) ms ≡ Some (x, rest) → IsRead (suc d) x ms rest
unfolding pattern_by
pattern_by_read d read {x = x} {ms = ms} {rest = rest} e =
    let P : Pattern → List Mark → Type 0 = λ x rest. IsRead (suc d) x ms rest in
    either (sees is_name ms) e
    (λ is e.
    let s1 = opens e in
    let s2 = named_read d read s1.0 s1.3 in
    record { is = s2.is; spelled = after_name s1.2 s2.spelled })
    (λ not e. either (sees _ ms) e
    (λ is e.
    let s1 = opens e in
    let n = number_read s1.2 in
    closes P (record { is = record { numbers = n.0; within = omega arith }; spelled = n.1 }) s1.3)
    (λ not e. either (sees _ ms) e
    (λ is e.
    let s1 = opens e in
    closes P (record { is = record { numbers = tt; within = omega arith }; spelled = string_read s1.2 }) s1.3)
    (λ not e. either (sees _ ms) e
    (λ is e.
    let s1 = opens e in
    closes P (record { is = record { numbers = tt; within = omega arith }; spelled = truth_read s1.2 }) s1.3)
    (λ not e. signed_read d e))))

pub pattern_read : (d : ℕ) (x : Pattern) (ms rest : List Mark) → pattern_within d ms ≡ Some (x, rest) → IsWithin d x × Takes (spell_pattern x) ms rest
unfolding pattern_within
pattern_read zero x ms rest e = absurd (cc)
pattern_read (suc d) x ms rest e = let r = pattern_by_read d (pattern_read d) e in (r.is, r.spelled)
