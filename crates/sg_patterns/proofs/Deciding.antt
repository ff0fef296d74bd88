-- What patterns match and which terms fit is decided.
use Rattle.std.proofs.Common.{◌≡◌, ℕ, zero, suc, ◌+◌, ◌<◌, ◌≤◌, ◌⊎◌, Bool, true, false, ◌&&◌, List, [], ◌∷◌, length, refl, sym, subst, arith, inl, inr, Option, Some, None, IsTrue}
use Rattle.std.specs.Prelude.{slice_get, MatchOption}
use Rattle.std.proofs.lemmas.Bool.{cases_eq, cases_lt}
use Rattle.sg_kinds.specs.Values.{Bytes, Value, Truth, Number, Chars, is_text_byte, is_text, is_number}
use Rattle.sg_kinds.specs.Terms.{Term, Terms, Leaf, Node, NoTerm, AndTerm}
use Rattle.sg_kinds.specs.declared.marks.Shape.{Shape}
use Rattle.sg_kinds.specs.declared.spec.Spec.{Spec}
use Rattle.sg_kinds.specs.declared.spec.Phylum.{Phylum}
use Rattle.sg_kinds.specs.declared.spec.Operator.{Operator}
use Rattle.sg_kinds.specs.declared.marks.Shape.TheVariants.{Truths, Numbers, Texts, Lexemes}
use Rattle.sg_kinds.specs.Fits.{MayHold, Fits, AllFit}
use Rattle.sg_kinds.specs.Lexemes.{Lexeme, Nothing, Byte, Dot, Class, Then, Either, Many, Several, Maybe}
use Rattle.sg_kinds.specs.Matches.{Passes, Rounds, none, more, MatchesFrom, Matches}
use Rattle.sg_patterns.proofs.Matching.{matches-go, rounds-go}

both : {A B : Type 0} → A ⊎ (A → ⊥) → B ⊎ (B → ⊥) → (A × B) ⊎ ((A × B) → ⊥)
both (inl a) (inl b) = inl (a, b)
both (inl a) (inr n) = inr (λ h. n h.1)
both (inr n) d = inr (λ h. n h.0)

either : {A B : Type 0} → A ⊎ (A → ⊥) → B ⊎ (B → ⊥) → (A ⊎ B) ⊎ ((A ⊎ B) → ⊥)
either (inl a) d = inl (inl a)
either (inr n) (inl b) = inl (inr b)
either (inr n) (inr k) = inr (λ h. elim h [ inl a ↦ n a | inr b ↦ k b ])

decide-true : (b : Bool) → IsTrue b ⊎ (IsTrue b → ⊥)
decide-true true = inl refl
decide-true false = inr (λ e. absurd (cc))

decide-option : {X : Type 0} (P : X → Type 0) → ((x : X) → P x ⊎ (P x → ⊥)) → (o : Option X) → MatchOption o ⊥ P ⊎ (MatchOption o ⊥ P → ⊥)
decide-option P d None = inr (λ h. h)
decide-option P d (Some x) = d x

pub decide-bytes : (s t : Bytes) → (s ≡ t) ⊎ (s ≡ t → ⊥)
decide-bytes [] [] = inl refl
decide-bytes [] (c ∷ t) = inr (λ e. absurd (cc))
decide-bytes (b ∷ s) [] = inr (λ e. absurd (cc))
decide-bytes (b ∷ s) (c ∷ t) =
    elim (cases_eq b c) [
      | inl e ↦ elim (decide-bytes s t) [ inl f ↦ inl (λ i. e i ∷ f i) | inr n ↦ inr (λ (g : b ∷ s ≡ c ∷ t). let f : s ≡ t = cc in n f) ]
      | inr n ↦ inr (λ (g : b ∷ s ≡ c ∷ t). let e : b ≡ c = cc in n e)
    ]

-- the least of the numbers below a bound of which something holds that is decided
pub least-below : (P : ℕ → Type 0) → ((k : ℕ) → P k ⊎ (P k → ⊥)) → (n : ℕ) → ((k : ℕ) × (k < n) × P k × ((m : ℕ) → P m → k ≤ m)) ⊎ ((k : ℕ) → k < n → P k → ⊥)
least-below P d zero = inr (λ k l p. absurd (omega (arith, l)))
least-below P d (suc n) =
    elim (least-below P d n) [
      | inl f ↦ inl (f.0, (let l = f.1 in omega (arith, l)), f.2, f.3)
      | inr never ↦ elim (d n) [
        | inl p ↦ inl (n, omega arith, p, λ m q. elim (cases_lt m n) [ inl l ↦ absurd (never m l q) | inr l ↦ l ])
        | inr not_n ↦ inr (λ k l p. elim (cases_eq k n) [ inl e ↦ not_n (subst P e p) | inr apart ↦ elim (cases_lt k n) [ inl less ↦ never k less p | inr more_or_same ↦ apart (omega (arith, l, more_or_same)) ] ])
      ]
    ]

-- the greatest of them
pub greatest-below : (P : ℕ → Type 0) → ((k : ℕ) → P k ⊎ (P k → ⊥)) → (n : ℕ) → ((k : ℕ) × (k < n) × P k × ((m : ℕ) → m < n → P m → m ≤ k)) ⊎ ((k : ℕ) → k < n → P k → ⊥)
greatest-below P d zero = inr (λ k l p. absurd (omega (arith, l)))
greatest-below P d (suc n) =
    elim (d n) [
      | inl p ↦ inl (n, omega arith, p, λ m l q. omega (arith, l))
      | inr not_n ↦ elim (greatest-below P d n) [
        | inl f ↦ inl (f.0, (let l = f.1 in omega (arith, l)), f.2, λ m l q. elim (cases_lt m n) [ inl less ↦ f.3 m less q | inr at_least ↦ absurd (not_n (subst P (omega (arith, l, at_least)) q)) ])
        | inr never ↦ inr (λ k l p. elim (cases_lt k n) [ inl less ↦ never k less p | inr at_least ↦ not_n (subst P (omega (arith, l, at_least)) p) ])
      ]
    ]

decide-passes : (test : ℕ → Bool) (text : Bytes) (i j : ℕ) → Passes test text i j ⊎ (Passes test text i j → ⊥)
decide-passes test text i j = both (cases_eq j (suc i)) (decide-option (λ b. IsTrue (is_text_byte b && test b)) (λ b. decide-true (is_text_byte b && test b)) (slice_get text i))

module _ (Step : ℕ → ℕ → Type 0) (go : (i j : ℕ) → Step i j → i ≤ j) (decide : (i j : ℕ) → Step i j ⊎ (Step i j → ⊥)) where
  -- rounds that come on begin with a step that goes on
  first-step : (i j : ℕ) → Rounds Step i j → (j ≡ i) ⊎ ((m : ℕ) × (i < m) × Step i m × Rounds Step m j)
  first-step i j (none k) = inl refl
  first-step i j (more k m l s r) =
      elim (cases_eq m k) [
        | inl e ↦ subst (λ z. (l ≡ z) ⊎ ((n : ℕ) × (z < n) × Step z n × Rounds Step n l)) e (first-step m l r)
        | inr apart ↦ inr (m, (let f = go k m s in omega (arith, f, apart)), s, r)
      ]

  further : (i j m : ℕ) → (i < m → Rounds Step m j ⊎ (Rounds Step m j → ⊥)) → ((i < m) × Step i m × Rounds Step m j) ⊎ (((i < m) × Step i m × Rounds Step m j) → ⊥)
  further i j m on =
      elim (cases_lt i m) [
        | inl less ↦ elim (decide i m) [
          | inl s ↦ elim (on less) [ inl r ↦ inl (less, s, r) | inr k ↦ inr (λ h. k h.2) ]
          | inr k ↦ inr (λ h. k h.1)
        ]
        | inr back ↦ inr (λ h. let l = h.0 in absurd (omega (arith, l, back)))
      ]

  decide-rounds : (n i j : ℕ) → j ≤ i + n → Rounds Step i j ⊎ (Rounds Step i j → ⊥)
  decide-rounds zero i j near =
      elim (cases_eq j i) [
        | inl e ↦ inl (subst (Rounds Step i) (sym e) (none i))
        | inr apart ↦ inr (λ r. apart (let f = rounds-go Step go i j r in omega (arith, f, near)))
      ]
  decide-rounds (suc n) i j near =
      elim (cases_eq j i) [
        | inl e ↦ inl (subst (Rounds Step i) (sym e) (none i))
        | inr apart ↦ elim (least-below (λ m. (i < m) × Step i m × Rounds Step m j) (λ m. further i j m (λ less. decide-rounds n m j (omega (arith, near, less)))) (suc j)) [
          | inl f ↦ inl (more i f.0 j f.2.1 f.2.2)
          | inr never ↦ inr (λ r. elim (first-step i j r) [
            | inl e ↦ apart e
            | inr f ↦ never f.0 (let g = rounds-go Step go f.0 j f.3 in omega (arith, g)) (f.1, f.2, f.3)
          ])
        ]
      ]

-- whether a pattern matches from one place to another
pub decide-from : (p : Lexeme) (text : Bytes) (i j : ℕ) → MatchesFrom p text i j ⊎ (MatchesFrom p text i j → ⊥)
decide-from Nothing text i j = cases_eq j i
decide-from (Byte b) text i j = decide-passes _ text i j
decide-from Dot text i j = decide-passes _ text i j
decide-from (Class negated ranges) text i j = decide-passes _ text i j
decide-from (Then p q) text i j =
    elim (least-below (λ m. MatchesFrom p text i m × MatchesFrom q text m j) (λ m. both (decide-from p text i m) (decide-from q text m j)) (suc j)) [
      | inl f ↦ inl (f.0, f.2.0, f.2.1)
      | inr never ↦ inr (λ h. never h.0 (let g = matches-go q text h.0 j h.2 in omega (arith, g)) (h.1, h.2))
    ]
decide-from (Either p q) text i j = either (decide-from p text i j) (decide-from q text i j)
decide-from (Many p) text i j = decide-rounds (MatchesFrom p text) (matches-go p text) (decide-from p text) j i j (omega arith)
decide-from (Several p) text i j =
    elim (least-below (λ m. MatchesFrom p text i m × Rounds (MatchesFrom p text) m j) (λ m. both (decide-from p text i m) (decide-rounds (MatchesFrom p text) (matches-go p text) (decide-from p text) j m j (omega arith))) (suc j)) [
      | inl f ↦ inl (f.0, f.2.0, f.2.1)
      | inr never ↦ inr (λ h. never h.0 (let g = rounds-go (MatchesFrom p text) (matches-go p text) h.0 j h.2 in omega (arith, g)) (h.1, h.2))
    ]
decide-from (Maybe p) text i j = either (cases_eq j i) (decide-from p text i j)

-- whether it matches a whole text
pub decide-matches : (p : Lexeme) (text : Bytes) → Matches p text ⊎ (Matches p text → ⊥)
decide-matches p text = decide-from p text 0 (length text)

decide-hold : (spec : Spec) (shape : Shape) (v : Value) → MayHold spec shape v ⊎ (MayHold spec shape v → ⊥)
decide-hold spec Truths (Truth b) = inl tt
decide-hold spec Numbers (Number z) = decide-true (is_number z)
decide-hold spec Texts (Chars s) = decide-true (is_text s)
decide-hold spec (Lexemes l) (Chars s) =
    both (decide-true (is_text s)) (either (decide-bytes s []) (decide-option (λ p. Matches p s) (λ p. decide-matches p s) (slice_get spec.lexemes l)))
decide-hold spec shape v = inr (λ h. h)

-- whether a term fits a phylum
mutual
  pub decide-fits : (spec : Spec) (t : Term) (p : ℕ) → Fits spec t p ⊎ (Fits spec t p → ⊥)
  decide-fits spec (Leaf q v) p = both (cases_eq q p) (decide-option (λ (x : Phylum). MayHold spec x.shape v) (λ x. decide-hold spec x.shape v) (slice_get spec.phyla p))
  decide-fits spec (Node op scheme elided ts) p =
      decide-option (λ (o : Operator). (o.phylum ≡ p) × (scheme < 16) × AllFit spec ts o.args) (λ o. all_three (cases_eq o.phylum p) (decide-all spec ts o.args)) (slice_get spec.ops op)
    where
      all_three : {A B : Type 0} → A ⊎ (A → ⊥) → B ⊎ (B → ⊥) → (A × (scheme < 16) × B) ⊎ ((A × (scheme < 16) × B) → ⊥)
      all_three (inr n) d = inr (λ h. n h.0)
      all_three (inl a) (inr n) = inr (λ h. n h.2)
      all_three (inl a) (inl b) = elim (cases_lt scheme 16) [ inl l ↦ inl (a, l, b) | inr past ↦ inr (λ h. let l = h.1 in absurd (omega (arith, l, past))) ]

  decide-all : (spec : Spec) (ts : Terms) (ps : List ℕ) → AllFit spec ts ps ⊎ (AllFit spec ts ps → ⊥)
  decide-all spec NoTerm [] = inl tt
  decide-all spec NoTerm (p ∷ ps) = inr (λ h. h)
  decide-all spec (AndTerm t ts) [] = inr (λ h. h)
  decide-all spec (AndTerm t ts) (p ∷ ps) = both (decide-fits spec t p) (decide-all spec ts ps)
