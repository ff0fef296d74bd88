-- A match within a text is one of the part that it covers.
use Rattle.std.proofs.Common.{◌≡◌, ℕ, suc, ◌+◌, ◌-◌, ◌<◌, ◌≤◌, ◌&&◌, Bool, length, get_or, take, drop, sym, ap, ◌∙◌, subst, arith, inl, inr, Some, IsTrue, length-drop}
use Rattle.std.specs.Prelude.{◌↔◌, slice_get, MatchOption}
use Rattle.std.proofs.lemmas.List.{get_or-drop, get_or-take, length-take-le}
use Rattle.std.proofs.lemmas.Option.{slice_get-get_or}
use Rattle.sg_kinds.specs.Values.{Bytes, is_text_byte}
use Rattle.sg_kinds.specs.Lexemes.{Lexeme, Nothing, Byte, Dot, Class, Then, Either, Many, Several, Maybe}
use Rattle.sg_kinds.specs.Matches.{Passes, Rounds, none, more, MatchesFrom, Matches}
use Rattle.sg_patterns.proofs.Matching.{matches-go, rounds-go}

-- the texts have the same n bytes, in the first from place i on
module _ (text part : Bytes) (i n : ℕ) (same : (a : ℕ) → a < n → slice_get text (i + a) ≡ slice_get part a) where
  passes-out : (test : ℕ → Bool) (a b : ℕ) → b ≤ n → Passes test part a b → Passes test text (i + a) (i + b)
  passes-out test a b low m =
      let e = m.0 in
      (omega (arith, e), subst (λ o. MatchOption o ⊥ (λ c. IsTrue (is_text_byte c && test c))) (sym (same a (omega (arith, e, low)))) m.1)

  passes-in : (test : ℕ → Bool) (a b u v : ℕ) → u ≡ i + a → v ≡ i + b → b ≤ n → Passes test text u v → Passes test part a b
  passes-in test a b u v from to low m =
      let e = m.0 in
      let next : b ≡ suc a = omega (arith, e, from, to) in
      (next, subst (λ o. MatchOption o ⊥ (λ c. IsTrue (is_text_byte c && test c))) (ap (slice_get text) from ∙ same a (omega (arith, next, low))) m.1)

  module _ (In Out : ℕ → ℕ → Type 0) (in_goes : (a b : ℕ) → In a b → a ≤ b) (out_goes : (a b : ℕ) → Out a b → a ≤ b) where
    rounds-out : ((a b : ℕ) → b ≤ n → In a b → Out (i + a) (i + b)) → (a b : ℕ) → b ≤ n → Rounds In a b → Rounds Out (i + a) (i + b)
    rounds-out each a b low (none k) = none (i + k)
    rounds-out each a b low (more k m l s r) =
        let g = rounds-go In in_goes m l r in
        more (i + k) (i + m) (i + l) (each k m (omega (arith, g, low)) s) (rounds-out each m l low r)

    rounds-in : ((a b u v : ℕ) → u ≡ i + a → v ≡ i + b → b ≤ n → Out u v → In a b) → (a b u v : ℕ) → u ≡ i + a → v ≡ i + b → b ≤ n → Rounds Out u v → Rounds In a b
    rounds-in each a b u v from to low (none k) = subst (Rounds In a) (let e : a ≡ b = omega (arith, from, to) in e) (none a)
    rounds-in each a b u v from to low (more k m l s r) =
        let g = rounds-go Out out_goes m l r in
        let h = out_goes k m s in
        let at : m ≡ i + (m - i) = omega (arith, h, from) in
        more a (m - i) b (each a (m - i) k m from at (omega (arith, at, g, to, low)) s) (rounds-in each (m - i) b m l at to low r)

  matches-out : (p : Lexeme) (a b : ℕ) → b ≤ n → MatchesFrom p part a b → MatchesFrom p text (i + a) (i + b)
  matches-out Nothing a b low m = ap (λ z. i + z) m
  matches-out (Byte c) a b low m = passes-out _ a b low m
  matches-out Dot a b low m = passes-out _ a b low m
  matches-out (Class negated ranges) a b low m = passes-out _ a b low m
  matches-out (Then p q) a b low m =
      let g = matches-go q part m.0 b m.2 in
      (i + m.0, matches-out p a m.0 (omega (arith, g, low)) m.1, matches-out q m.0 b low m.2)
  matches-out (Either p q) a b low (inl m) = inl (matches-out p a b low m)
  matches-out (Either p q) a b low (inr m) = inr (matches-out q a b low m)
  matches-out (Many p) a b low m = rounds-out (MatchesFrom p part) (MatchesFrom p text) (matches-go p part) (matches-go p text) (matches-out p) a b low m
  matches-out (Several p) a b low m =
      let g = rounds-go (MatchesFrom p part) (matches-go p part) m.0 b m.2 in
      (i + m.0, matches-out p a m.0 (omega (arith, g, low)) m.1, rounds-out (MatchesFrom p part) (MatchesFrom p text) (matches-go p part) (matches-go p text) (matches-out p) m.0 b low m.2)
  matches-out (Maybe p) a b low (inl m) = inl (ap (λ z. i + z) m)
  matches-out (Maybe p) a b low (inr m) = inr (matches-out p a b low m)

  matches-in : (p : Lexeme) (a b u v : ℕ) → u ≡ i + a → v ≡ i + b → b ≤ n → MatchesFrom p text u v → MatchesFrom p part a b
  matches-in Nothing a b u v from to low m = omega (arith, from, to, m)
  matches-in (Byte c) a b u v from to low m = passes-in _ a b u v from to low m
  matches-in Dot a b u v from to low m = passes-in _ a b u v from to low m
  matches-in (Class negated ranges) a b u v from to low m = passes-in _ a b u v from to low m
  matches-in (Then p q) a b u v from to low m =
      let h = matches-go p text u m.0 m.1 in
      let g = matches-go q text m.0 v m.2 in
      let at : m.0 ≡ i + (m.0 - i) = omega (arith, h, from) in
      (m.0 - i, matches-in p a (m.0 - i) u m.0 from at (omega (arith, at, g, to, low)) m.1, matches-in q (m.0 - i) b m.0 v at to low m.2)
  matches-in (Either p q) a b u v from to low (inl m) = inl (matches-in p a b u v from to low m)
  matches-in (Either p q) a b u v from to low (inr m) = inr (matches-in q a b u v from to low m)
  matches-in (Many p) a b u v from to low m = rounds-in (MatchesFrom p part) (MatchesFrom p text) (matches-go p part) (matches-go p text) (matches-in p) a b u v from to low m
  matches-in (Several p) a b u v from to low m =
      let h = matches-go p text u m.0 m.1 in
      let g = rounds-go (MatchesFrom p text) (matches-go p text) m.0 v m.2 in
      let at : m.0 ≡ i + (m.0 - i) = omega (arith, h, from) in
      (m.0 - i, matches-in p a (m.0 - i) u m.0 from at (omega (arith, at, g, to, low)) m.1, rounds-in (MatchesFrom p part) (MatchesFrom p text) (matches-go p part) (matches-go p text) (matches-in p) (m.0 - i) b m.0 v at to low m.2)
  matches-in (Maybe p) a b u v from to low (inl m) = inl (omega (arith, from, to, m))
  matches-in (Maybe p) a b u v from to low (inr m) = inr (matches-in p a b u v from to low m)

bytes-same : (text : Bytes) (i j : ℕ) → i ≤ j → j ≤ length text → (a : ℕ) → a < j - i → slice_get text (i + a) ≡ slice_get (take (j - i) (drop i text)) a
bytes-same text i j rise low a less =
    let part = take (j - i) (drop i text) in
    let long : length part ≡ j - i = length-take-le (j - i) (drop i text) (let d = length-drop i text in omega (arith, d, rise, low)) in
    let byte : get_or part a 0 ≡ get_or text (i + a) 0 = get_or-take (j - i) (drop i text) a 0 less ∙ get_or-drop i text a 0 in
    slice_get-get_or text (i + a) 0 (omega (arith, rise, low, less)) ∙ sym (slice_get-get_or part a 0 (omega (arith, long, less)) ∙ ap Some byte)

pub in-place : (p : Lexeme) (text : Bytes) (i j : ℕ) → i ≤ j → j ≤ length text → MatchesFrom p text i j ↔ Matches p (take (j - i) (drop i text))
in-place p text i j rise low =
    let part = take (j - i) (drop i text) in
    let same = bytes-same text i j rise low in
    let long : length part ≡ j - i = length-take-le (j - i) (drop i text) (let d = length-drop i text in omega (arith, d, rise, low)) in
    let end : j ≡ i + length part = omega (arith, long, rise) in
    let front : i ≡ i + 0 = omega arith in (
      λ m. matches-in text part i (j - i) same p 0 (length part) i j front end (omega (arith, long)) m,
      λ m. subst (λ z. MatchesFrom p text z j) (sym front) (subst (MatchesFrom p text (i + 0)) (sym end) (matches-out text part i (j - i) same p 0 (length part) (omega (arith, long)) m)),
    )
