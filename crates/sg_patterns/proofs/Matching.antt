-- Laws of matching: a match goes forward and stays in the text, and a pattern matches the empty text where it is said to.
use Rattle.std.proofs.Common.{◌≡◌, ℕ, ◌≤◌, ◌⊎◌, Bool, true, false, List, [], ◌∷◌, length, refl, ap, ◌∙◌, subst, arith, inl, inr, Option, Some, None, IsTrue}
use Rattle.std.specs.Prelude.{slice_get, nat_le, ◌&&◌, ◌||◌, MatchOption}
use Rattle.std.specs.List.{list_any}
use Rattle.std.proofs.lemmas.Option.{slice_get_within}
use Rattle.sg_kinds.specs.Values.{Bytes, is_text_byte}
use Rattle.sg_kinds.specs.Lexemes.{Lexeme, Nothing, Byte, Dot, Class, Then, Either, Many, Several, Maybe}
use Rattle.sg_kinds.specs.Matches.{in_ranges, Passes, Rounds, none, more, MatchesFrom}
use Rattle.sg_patterns.specs.Trees.{empty_of}

passed-goes : (test : ℕ → Bool) (text : Bytes) (i j : ℕ) → Passes test text i j → i ≤ j
passed-goes test text i j m = omega (arith, m.0)

pub rounds-go : (Step : ℕ → ℕ → Type 0) → ((i j : ℕ) → Step i j → i ≤ j) → (i j : ℕ) → Rounds Step i j → i ≤ j
rounds-go Step go i j (none k) = omega arith
rounds-go Step go i j (more k m l s r) = omega (arith, go k m s, rounds-go Step go m l r)

-- a match does not go back
pub matches-go : (p : Lexeme) (text : Bytes) (i j : ℕ) → MatchesFrom p text i j → i ≤ j
matches-go Nothing text i j m = omega (arith, m)
matches-go (Byte b) text i j m = omega (arith, m.0)
matches-go Dot text i j m = omega (arith, m.0)
matches-go (Class negated ranges) text i j m = omega (arith, m.0)
matches-go (Then p q) text i j m = omega (arith, matches-go p text i m.0 m.1, matches-go q text m.0 j m.2)
matches-go (Either p q) text i j (inl m) = matches-go p text i j m
matches-go (Either p q) text i j (inr m) = matches-go q text i j m
matches-go (Many p) text i j m = rounds-go (MatchesFrom p text) (matches-go p text) i j m
matches-go (Several p) text i j m = omega (arith, matches-go p text i m.0 m.1, rounds-go (MatchesFrom p text) (matches-go p text) m.0 j m.2)
matches-go (Maybe p) text i j (inl m) = omega (arith, m)
matches-go (Maybe p) text i j (inr m) = matches-go p text i j m

pub and-true : (a b : Bool) → a ≡ true → b ≡ true → (a && b) ≡ true
and-true true b f g = g
and-true false b f g = absurd (cc)

pub and-both : (a b : Bool) → (a && b) ≡ true → (a ≡ true) × (b ≡ true)
and-both true b f = (refl, f)
and-both false b f = absurd (cc)

pub or-left : (a b : Bool) → a ≡ true → (a || b) ≡ true
or-left true b f = refl
or-left false b f = absurd (cc)

pub or-right : (a b : Bool) → b ≡ true → (a || b) ≡ true
or-right true b f = refl
or-right false b f = f

pub or-one : (a b : Bool) → (a || b) ≡ true → (a ≡ true) ⊎ (b ≡ true)
or-one true b f = inl refl
or-one false b f = inr f

-- a pattern that is said to match the empty text does
pub empty-matches : (p : Lexeme) (text : Bytes) (i : ℕ) → empty_of p ≡ true → MatchesFrom p text i i
empty-matches Nothing text i e = refl
empty-matches (Byte b) text i e = absurd (cc)
empty-matches Dot text i e = absurd (cc)
empty-matches (Class negated ranges) text i e = absurd (cc)
empty-matches (Then p q) text i e =
    let both = and-both (empty_of p) (empty_of q) e in (i, empty-matches p text i both.0, empty-matches q text i both.1)
empty-matches (Either p q) text i e =
    elim (or-one (empty_of p) (empty_of q) e) [ inl h ↦ inl (empty-matches p text i h) | inr h ↦ inr (empty-matches q text i h) ]
empty-matches (Many p) text i e = none i
empty-matches (Several p) text i e = (i, empty-matches p text i e, none i)
empty-matches (Maybe p) text i e = inl refl

-- and no other does
pub matches-empty : (p : Lexeme) (text : Bytes) (i : ℕ) → MatchesFrom p text i i → empty_of p ≡ true
matches-empty Nothing text i m = refl
matches-empty (Byte b) text i m = absurd (omega (arith, m.0))
matches-empty Dot text i m = absurd (omega (arith, m.0))
matches-empty (Class negated ranges) text i m = absurd (omega (arith, m.0))
matches-empty (Then p q) text i m =
    let same : m.0 ≡ i = omega (arith, matches-go p text i m.0 m.1, matches-go q text m.0 i m.2) in
    and-true (empty_of p) (empty_of q) (matches-empty p text i (subst (λ k. MatchesFrom p text i k) same m.1)) (matches-empty q text i (subst (λ k. MatchesFrom q text k i) same m.2))
matches-empty (Either p q) text i (inl m) = or-left (empty_of p) (empty_of q) (matches-empty p text i m)
matches-empty (Either p q) text i (inr m) = or-right (empty_of p) (empty_of q) (matches-empty q text i m)
matches-empty (Many p) text i m = refl
matches-empty (Several p) text i m =
    let same : m.0 ≡ i = omega (arith, matches-go p text i m.0 m.1, rounds-go (MatchesFrom p text) (matches-go p text) m.0 i m.2) in
    matches-empty p text i (subst (λ k. MatchesFrom p text i k) same m.1)
matches-empty (Maybe p) text i m = refl

-- a step over a byte ends in the text
passed-within : (test : ℕ → Bool) (text : Bytes) (i j : ℕ) → Passes test text i j → j ≤ length text
passed-within test text i j m = within (slice_get text i) refl m.1
  where
    within : (o : Option ℕ) → slice_get text i ≡ o → MatchOption o ⊥ (λ b. IsTrue (is_text_byte b && test b)) → j ≤ length text
    within None is h = absurd h
    within (Some b) is h = omega (arith, slice_get_within text i b is, m.0)

rounds-within : (Step : ℕ → ℕ → Type 0) (n : ℕ) → ((i j : ℕ) → Step i j → (j ≡ i) ⊎ (j ≤ n)) → ((i j : ℕ) → Step i j → i ≤ j) → (i j : ℕ) → Rounds Step i j → (j ≡ i) ⊎ (j ≤ n)
rounds-within Step n in_text go i j (none k) = inl refl
rounds-within Step n in_text go i j (more k m l s r) =
    elim (rounds-within Step n in_text go m l r) [
      | inl e ↦ elim (in_text k m s) [ inl f ↦ inl (e ∙ f) | inr f ↦ inr (omega arith) ]
      | inr e ↦ inr e
    ]

-- a match is empty or ends in the text
pub matches-within : (p : Lexeme) (text : Bytes) (i j : ℕ) → MatchesFrom p text i j → (j ≡ i) ⊎ (j ≤ length text)
matches-within Nothing text i j m = inl m
matches-within (Byte b) text i j m = inr (passed-within _ text i j m)
matches-within Dot text i j m = inr (passed-within _ text i j m)
matches-within (Class negated ranges) text i j m = inr (passed-within _ text i j m)
matches-within (Then p q) text i j m =
    elim (matches-within q text m.0 j m.2) [
      | inl e ↦ elim (matches-within p text i m.0 m.1) [ inl f ↦ inl (e ∙ f) | inr f ↦ inr (omega arith) ]
      | inr e ↦ inr e
    ]
matches-within (Either p q) text i j (inl m) = matches-within p text i j m
matches-within (Either p q) text i j (inr m) = matches-within q text i j m
matches-within (Many p) text i j m = rounds-within (MatchesFrom p text) (length text) (matches-within p text) (matches-go p text) i j m
matches-within (Several p) text i j m =
    elim (rounds-within (MatchesFrom p text) (length text) (matches-within p text) (matches-go p text) m.0 j m.2) [
      | inl e ↦ elim (matches-within p text i m.0 m.1) [ inl f ↦ inl (e ∙ f) | inr f ↦ inr (omega arith) ]
      | inr e ↦ inr e
    ]
matches-within (Maybe p) text i j (inl m) = inl m
matches-within (Maybe p) text i j (inr m) = matches-within p text i j m

-- the ranges as a test of each
pub ranges_any : (rs : List (ℕ × ℕ)) (b : ℕ) → in_ranges rs b ≡ list_any (λ r. nat_le r.0 b && nat_le b r.1) rs
ranges_any [] b = refl
ranges_any (r ∷ rs) b = ap (λ t. (nat_le r.0 b && nat_le b r.1) || t) (ranges_any rs b)
