-- What the reading does at a byte of none of the kinds that are named.
use Rattle.std.proofs.Common.{◌≡◌, ℕ, Bool, true, List, ◌∷◌, [], ◌++◌, refl, ap, Some, None}
use Rattle.std.specs.Prelude.{cond}
use Rattle.sg_kinds.specs.Lexemes.{Lexeme}
use Rattle.sg_patterns.specs.declared.kinds.Kind.{Kind}
use Rattle.sg_patterns.specs.declared.kinds.Kind.TheVariants as kind
use Rattle.sg_patterns.specs.declared.reader.Inside.TheVariants.{Open, Low, Dash}
use Rattle.sg_patterns.specs.Kinds.{is_plain_inside}
use Rattle.sg_patterns.specs.Machine.{Frame, State, with_piece, feed_ready, feed_held, feed_start, feed_next, feed_inside, feed_end}

module _ (outer : List Frame) (f : Frame) where
  pub open-default : (negated : Bool) (rs : List (ℕ × ℕ)) (b : ℕ) (k : Kind) → (k ≡ kind.Caret → ⊥) → feed_inside outer f negated rs Open b k ≡ feed_start outer f negated rs b k
  open-default negated rs b kind.Caret ne = absurd (ne refl)
  open-default negated rs b k ne = refl

  pub dash-default : (negated : Bool) (rs : List (ℕ × ℕ)) (low b : ℕ) (k : Kind) → (k ≡ kind.Backslash → ⊥) → feed_inside outer f negated rs (Dash low) b k ≡ feed_end outer f negated rs low b (is_plain_inside k)
  dash-default negated rs low b kind.Backslash ne = absurd (ne refl)
  dash-default negated rs low b k ne = refl

  pub next-default : (negated : Bool) (rs : List (ℕ × ℕ)) (b : ℕ) (k : Kind) → (k ≡ kind.RightBracket → ⊥) → feed_next outer f negated rs b k ≡ feed_start outer f negated rs b k
  next-default negated rs b kind.RightBracket ne = absurd (ne refl)
  next-default negated rs b k ne = refl

  pub low-default : (negated : Bool) (rs : List (ℕ × ℕ)) (low b : ℕ) (k : Kind) → (k ≡ kind.Dash → ⊥) → feed_inside outer f negated rs (Low low) b k ≡ feed_next outer f negated (rs ++ (low, low) ∷ []) b k
  low-default negated rs low b kind.Dash ne = absurd (ne refl)
  low-default negated rs low b k ne = refl

  pub held-default : (p : Lexeme) (b : ℕ) (k : Kind) → (k ≡ kind.Star → ⊥) → (k ≡ kind.Plus → ⊥) → (k ≡ kind.Query → ⊥) → feed_held outer f p b k ≡ feed_ready outer (with_piece f p) b k
  held-default p b kind.Star star plus query = absurd (star refl)
  held-default p b kind.Plus star plus query = absurd (plus refl)
  held-default p b kind.Query star plus query = absurd (query refl)
  held-default p b k star plus query = refl

pub fed-if : (c : Bool) (τ : State) → c ≡ true → cond c (Some τ) None ≡ Some τ
fed-if c τ e = ap (λ b. cond b (Some τ) None) e
