-- A text that is no pattern, and its longest front that begins one.
use Rattle.std.proofs.Common.{◌≡◌, ℕ, zero, suc, ◌+◌, ◌<◌, ◌≤◌, Bool, true, false, List, [], ◌∷◌, ◌++◌, length, get_or, take, refl, sym, ap, ◌∙◌, subst, arith, Option, Some, None, append_assoc}
use Rattle.std.specs.Prelude.{nat_le}
use Rattle.std.proofs.lemmas.Bool.{le-leb}
use Rattle.std.proofs.lemmas.Bool.Decides.{nat_tests}
use Rattle.std.proofs.lemmas.List.{append-nil, take_all, take_more}
use Rattle.sg_kinds.specs.Values.{Bytes, is_text_byte}
use Rattle.sg_kinds.specs.Lexemes.{Lexeme, Byte, Class}
use Rattle.sg_patterns.specs.declared.kinds.Kind.{Kind}
use Rattle.sg_patterns.specs.declared.kinds.Kind.TheVariants as kind
use Rattle.sg_patterns.specs.declared.reader.Inside.TheVariants.{Open, Start, Low, Done, Dash, StartEscape, EndEscape}
use Rattle.sg_patterns.specs.declared.reader.Reader.{Reader}
use Rattle.sg_patterns.specs.Readers.{Reads, Fed}
use Rattle.sg_patterns.specs.Kinds.{kind_of, is_plain_inside, bar, right_parenthesis, right_bracket}
use Rattle.sg_patterns.specs.Spelling as spell
use Rattle.sg_patterns.specs.Spelling.{IsRangeByte, IsPattern, deepest, Begins, IsNoPattern}
use Rattle.sg_patterns.specs.Machine.{Frame, State, Ready, Held, Escape, Bracket, empty_frame, with_piece, whole, feed, ended}
use Rattle.sg_patterns.proofs.Runs.{Runs, stay, step, runs-append, runs-split, runs-same, refused-after, IsAt, ready, held, pattern-runs, special-le, cond-true}
use Rattle.sg_patterns.proofs.Spelt.{Spelt, kind-has, runs-spelt, first_state, first-spelt, ended-spelt}

-- a state from which a text leads to an end
record Closes (σ : State) : Type 0 where
  text : Bytes
  last : State
  pattern : Lexeme
  runs : Runs σ text last
  ends : ended last ≡ Some pattern

closes-by : (σ τ : State) (b : ℕ) → feed σ b ≡ Some τ → Closes τ → Closes σ
closes-by σ τ b is c = record { text = b ∷ c.text; last = c.last; pattern = c.pattern; runs = step σ τ c.last b c.text is c.runs; ends = c.ends }

held-closes : (outer : List Frame) (f : Frame) (p : Lexeme) → Closes (Held outer f p)
held-closes [] f p = record { text = []; last = Held [] f p; pattern = whole (with_piece f p); runs = stay (Held [] f p); ends = refl }
held-closes (g ∷ gs) f p = closes-by (Held (g ∷ gs) f p) (Held gs g (whole (with_piece f p))) right_parenthesis refl (held-closes gs g (whole (with_piece f p)))

ready-closes : (outer : List Frame) (f : Frame) → Closes (Ready outer f)
ready-closes [] f = record { text = []; last = Ready [] f; pattern = whole f; runs = stay (Ready [] f); ends = refl }
ready-closes (g ∷ gs) f = closes-by (Ready (g ∷ gs) f) (Held gs g (whole f)) right_parenthesis refl (held-closes gs g (whole f))

done-closes : (outer : List Frame) (f : Frame) (negated : Bool) (rs : List (ℕ × ℕ)) → Closes (Bracket outer f negated rs Done)
done-closes outer f negated rs = closes-by (Bracket outer f negated rs Done) (Held outer f (Class negated rs)) right_bracket refl (held-closes outer f (Class negated rs))

low-closes : (outer : List Frame) (f : Frame) (negated : Bool) (rs : List (ℕ × ℕ)) (b : ℕ) → Closes (Bracket outer f negated rs (Low b))
low-closes outer f negated rs b =
    closes-by (Bracket outer f negated rs (Low b)) (Held outer f (Class negated (rs ++ (b, b) ∷ []))) right_bracket refl (held-closes outer f (Class negated (rs ++ (b, b) ∷ [])))

-- the bytes of ranges are at most 126
text-le : (b : ℕ) → is_text_byte b ≡ true → b ≤ 126
text-le b e = grind (arith, nat_tests)

plain-le : (b : ℕ) (k : Kind) → kind_of b ≡ k → is_plain_inside k ≡ true → b ≤ 126
plain-le b kind.Plain e plain = text-le b (kind-has b kind.Plain e)
plain-le b k e plain = absurd (cc)

range-byte-le : (b : ℕ) (w : Bytes) → IsRangeByte b w → b ≤ 126
range-byte-le b w (spell.itself c plain) = plain-le c (kind_of c) refl plain
range-byte-le b w (spell.escaped c special) = omega (arith, special-le c special)

spelt-closes : (σ : State) (s : Bytes) → Spelt σ s → Closes σ
spelt-closes (Ready outer f) s h = ready-closes outer f
spelt-closes (Held outer f p) s h = held-closes outer f p
spelt-closes (Escape outer f) s h = closes-by (Escape outer f) (Held outer f (Byte bar)) bar refl (held-closes outer f (Byte bar))
spelt-closes (Bracket outer f negated rs Open) s h = closes-by (Bracket outer f negated rs Open) (Bracket outer f negated rs (Low 97)) 97 refl (low-closes outer f negated rs 97)
spelt-closes (Bracket outer f negated rs Start) s h = closes-by (Bracket outer f negated rs Start) (Bracket outer f negated rs (Low 97)) 97 refl (low-closes outer f negated rs 97)
spelt-closes (Bracket outer f negated rs (Low b)) s h = low-closes outer f negated rs b
spelt-closes (Bracket outer f negated rs Done) s h = done-closes outer f negated rs
spelt-closes (Bracket outer f negated rs (Dash b)) s h =
    closes-by (Bracket outer f negated rs (Dash b)) (Bracket outer f negated (rs ++ (b, 126) ∷ []) Done) 126 (cond-true (nat_le b 126) _ _ (le-leb b 126 (range-byte-le b h.4.1 h.4.3))) (done-closes outer f negated (rs ++ (b, 126) ∷ []))
spelt-closes (Bracket outer f negated rs StartEscape) s h = closes-by (Bracket outer f negated rs StartEscape) (Bracket outer f negated rs (Low bar)) bar refl (low-closes outer f negated rs bar)
spelt-closes (Bracket outer f negated rs (EndEscape b)) s h =
    closes-by (Bracket outer f negated rs (EndEscape b)) (Bracket outer f negated (rs ++ (b, bar) ∷ []) Done) bar (cond-true (nat_le b bar) _ _ (le-leb b bar (omega (arith, h.4.4)))) (done-closes outer f negated (rs ++ (b, bar) ∷ []))

-- what is read begins a pattern
pub read-begins : (σ : State) (s : Bytes) → Runs first_state s σ → Begins s
read-begins σ s r =
    let spelt = runs-spelt first_state σ [] s first-spelt r in
    let c = spelt-closes σ s spelt in
    (c.text, c.pattern, ended-spelt c.last c.pattern (s ++ c.text) (runs-spelt σ c.last s c.text spelt c.runs) c.ends)

-- where the reading may end it has read a pattern
pub read-pattern : (σ : State) (s : Bytes) (p : Lexeme) → Runs first_state s σ → ended σ ≡ Some p → IsPattern deepest p s
read-pattern σ s p r is = ended-spelt σ p s (runs-spelt first_state σ [] s first-spelt r) is

at-ends : (τ : State) (outer : List Frame) (f : Frame) → IsAt τ outer f → outer ≡ [] → ended τ ≡ Some (whole f)
at-ends τ outer f (ready o g) is = ap (λ x. ended (Ready x g)) is
at-ends τ outer f (held o g h p same) is = ap (λ x. ended (Held x g p)) is ∙ ap (λ x. Some (whole x)) (sym same)

-- a pattern is read to its end
pattern-read : (p : Lexeme) (s : Bytes) → IsPattern deepest p s → (τ : State) × Runs first_state s τ × (ended τ ≡ Some p)
pattern-read p s pattern =
    let r = pattern-runs deepest p s first_state [] refl (ready [] empty_frame) pattern in
    (r.1, r.2, at-ends r.1 [] r.0 r.3 refl ∙ ap Some r.4)

pub not-ended : (σ : State) (s : Bytes) (p : Lexeme) → Runs first_state s σ → ended σ ≡ None → IsPattern deepest p s → ⊥
not-ended σ s p r no_end pattern =
    let q = pattern-read p s pattern in
    let same : σ ≡ q.0 = runs-same first_state σ q.0 s r q.1 in
    let both : None ≡ Some p = sym no_end ∙ ap ended same ∙ q.2 in
    cc

-- nothing begins with what is refused
pub refused-begins : (σ : State) (s u : Bytes) (b : ℕ) → Runs first_state s σ → feed σ b ≡ None → Begins (s ++ b ∷ u) → ⊥
refused-begins σ s u b r no_state begins =
    let q = pattern-read begins.1 ((s ++ b ∷ u) ++ begins.0) begins.2 in
    let regrouped : (s ++ b ∷ u) ++ begins.0 ≡ s ++ (b ∷ (u ++ begins.0)) = append_assoc s (b ∷ u) begins.0 in
    let split = runs-split first_state q.0 s (b ∷ (u ++ begins.0)) (subst (λ x. Runs first_state x q.0) regrouped q.1) in
    let same : σ ≡ split.0 = runs-same first_state σ split.0 s r split.1 in
    refused-after σ q.0 b (u ++ begins.0) no_state (subst (λ x. Runs x (b ∷ (u ++ begins.0)) q.0) (sym same) split.2)

take-split : (xs : Bytes) (i n : ℕ) → i < n → i < length xs → (u : Bytes) × (take n xs ≡ take i xs ++ get_or xs i 0 ∷ u)
take-split [] i n less within = absurd (omega arith)
take-split (x ∷ xs) i zero less within = absurd (omega arith)
take-split (x ∷ xs) zero (suc n) less within = (take n xs, refl)
take-split (x ∷ xs) (suc i) (suc n) less within = let rest = take-split xs i n (omega arith) (omega arith) in (rest.0, ap (λ ys. x ∷ ys) rest.1)

-- a byte is refused
pub refused-form : (text : Bytes) (at : ℕ) (σ : State) → at < length text → Runs first_state (take at text) σ → feed σ (get_or text at 0) ≡ None → IsNoPattern text at
refused-form text at σ within r no_state =
    let none = λ (n : ℕ) (less : at < n) (begins : Begins (take n text)). (let split = take-split text at n less within in refused-begins σ (take at text) split.0 (get_or text at 0) r no_state (subst Begins split.1 begins)) in
    record {
      no_pattern = λ p pattern. none (length text) within ([], p, subst (IsPattern deepest p) (sym (take_all (length text) text (omega arith)) ∙ sym (append-nil (take (length text) text))) pattern);
      within = omega arith;
      begins = read-begins σ (take at text) r;
      longest = λ n less le begins. none n less begins;
    }

-- the end is refused
pub end-form : (text : Bytes) (at : ℕ) (σ : State) → at ≡ length text → Runs first_state (take at text) σ → ended σ ≡ None → IsNoPattern text at
end-form text at σ is r no_end = record {
  no_pattern = λ p pattern. not-ended σ (take at text) p r no_end (subst (IsPattern deepest p) (sym (take_all at text (omega arith))) pattern);
  within = omega arith;
  begins = read-begins σ (take at text) r;
  longest = λ n less le begins. absurd (omega arith);
}

-- one more byte is read
pub read-more : (text : Bytes) (at : ℕ) (σ τ : State) → at < length text → Runs first_state (take at text) σ → feed σ (get_or text at 0) ≡ Some τ → Runs first_state (take (at + 1) text) τ
read-more text at σ τ within r is =
    subst (λ x. Runs first_state x τ) (sym (take_more text at 0 within)) (runs-append first_state σ τ (take at text) (get_or text at 0 ∷ []) r (step σ τ τ (get_or text at 0) [] is (stay τ)))

-- a text is one pattern
pub one-pattern : (σ : State) (s : Bytes) (p q : Lexeme) → Runs first_state s σ → ended σ ≡ Some p → IsPattern deepest q s → q ≡ p
one-pattern σ s p q r is pattern =
    let other = pattern-read q s pattern in
    let same : σ ≡ other.0 = runs-same first_state σ other.0 s r other.1 in
    let both : Some q ≡ Some p = sym other.2 ∙ ap ended (sym same) ∙ is in
    cc

-- what a reader has read
pub record ReadTo (text : Bytes) (at : ℕ) (r : Reader) : Type 0 where
  pub state : State
  pub runs : Runs first_state (take at text) state
  pub reads : Reads r state

pub read-none : (text : Bytes) (r : Reader) → Reads r first_state → ReadTo text 0 r
read-none text r reads = record { state = first_state; runs = stay first_state; reads = reads }

fed-none : (o : Option State) (more : Bool) (r : Reader) → Fed o more r → more ≡ false → o ≡ None
fed-none None more r fed off = refl
fed-none (Some τ) more r fed off = absurd (let both : true ≡ false = sym fed.0 ∙ off in cc)

fed-some : (o : Option State) (more : Bool) (r : Reader) → Fed o more r → more ≡ true → (τ : State) × (o ≡ Some τ) × Reads r τ
fed-some None more r fed on = absurd (let both : false ≡ true = sym fed ∙ on in cc)
fed-some (Some τ) more r fed on = (τ, refl, fed.1)

pub read-on : (text : Bytes) (at : ℕ) (r s : Reader) (more : Bool) → at < length text → ReadTo text at r → ((σ : State) → Reads r σ → Fed (feed σ (get_or text at 0)) more s) → more ≡ true → ReadTo text (at + 1) s
read-on text at r s more within to fed on =
    let next = fed-some (feed to.state (get_or text at 0)) more s (fed to.state to.reads) on in
    record { state = next.0; runs = read-more text at to.state next.0 within to.runs next.1; reads = next.2 }

pub read-refused : (text : Bytes) (at : ℕ) (r s : Reader) (more : Bool) → at < length text → ReadTo text at r → ((σ : State) → Reads r σ → Fed (feed σ (get_or text at 0)) more s) → more ≡ false → IsNoPattern text at
read-refused text at r s more within to fed off =
    refused-form text at to.state within to.runs (fed-none (feed to.state (get_or text at 0)) more s (fed to.state to.reads) off)

whole-text : (text : Bytes) (at : ℕ) → length text ≤ at → take at text ≡ text
whole-text text at done = take_all at text done

-- at the end of the text
module _ (text : Bytes) (at : ℕ) (r : Reader) (done : at ≡ length text) (to : ReadTo text at r) where
  pub read-whole : (p : Lexeme) → ((σ : State) → Reads r σ → Some p ≡ ended σ) → IsPattern deepest p text
  read-whole p end = subst (IsPattern deepest p) (whole-text text at (omega arith)) (read-pattern to.state (take at text) p to.runs (sym (end to.state to.reads)))

  pub read-only : (p : Lexeme) → ((σ : State) → Reads r σ → Some p ≡ ended σ) → (q : Lexeme) → IsPattern deepest q text → q ≡ p
  read-only p end q pattern = one-pattern to.state (take at text) p q to.runs (sym (end to.state to.reads)) (subst (IsPattern deepest q) (sym (whole-text text at (omega arith))) pattern)

  pub read-ends : ((σ : State) → Reads r σ → None ≡ ended σ) → IsNoPattern text (length text)
  read-ends end = subst (IsNoPattern text) done (end-form text at to.state done to.runs (sym (end to.state to.reads)))
