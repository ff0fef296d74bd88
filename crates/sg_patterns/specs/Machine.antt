-- The reading of a pattern byte by byte.
use Rattle.std.specs.Prelude.{ℕ, Bool, true, false, ◌&&◌, nat_lt, nat_le, if◌then◌else◌, List, [], ◌∷◌, ◌++◌, length, Option, Some, None, unwrap_or}
use Rattle.sg_kinds.specs.Lexemes.{Lexeme, Nothing, Byte, Dot, Class, Then, Either, Many, Several, Maybe}
use Rattle.sg_patterns.specs.declared.kinds.Kind.{Kind}
use Rattle.sg_patterns.specs.declared.kinds.Kind.TheVariants as kind
use Rattle.sg_patterns.specs.declared.reader.Inside.{Inside}
use Rattle.sg_patterns.specs.declared.reader.Inside.TheVariants.{Open, Start, Low, Done, Dash, StartEscape, EndEscape}
use Rattle.sg_patterns.specs.Kinds.{kind_of, is_special, is_plain_inside}
use Rattle.sg_patterns.specs.Spelling.{deepest}

-- what stands in a parenthesis, or in the whole, so far: the alternatives before the last bar, and the pieces after it
pub record Frame : Type 0 where
  pub alternatives : Option Lexeme
  pub sequence : Option Lexeme

-- where the reading stands, with the parentheses that are open, the innermost first, and what stands in the
-- innermost: before a base; behind a base, which a sign may follow; behind a backslash; in brackets, with the ranges
-- so far
pub data State : Type 0 where
  Ready : List Frame → Frame → State
  Held : List Frame → Frame → Lexeme → State
  Escape : List Frame → Frame → State
  Bracket : List Frame → Frame → Bool → List (ℕ × ℕ) → Inside → State

abbrev pub empty_frame : Frame
empty_frame = record { alternatives = None; sequence = None }

-- one more piece
abbrev pub followed : Option Lexeme → Lexeme → Lexeme
followed None p = p
followed (Some q) p = Then q p

abbrev pub with_piece : Frame → Lexeme → Frame
with_piece f p = record { alternatives = f.alternatives; sequence = Some (followed f.sequence p) }

-- what stands in a frame, as one pattern
abbrev pub joined : Option Lexeme → Lexeme → Lexeme
joined None p = p
joined (Some q) p = Either q p

abbrev pub whole : Frame → Lexeme
whole f = joined f.alternatives (unwrap_or f.sequence Nothing)

-- a bar ends an alternative
abbrev pub barred : Frame → Frame
barred f = record { alternatives = Some (whole f); sequence = None }

-- a parenthesis opens or closes
abbrev pub opened : List Frame → Frame → Option State
opened outer f = if nat_lt (length outer) deepest then Some (Ready (f ∷ outer) empty_frame) else None

abbrev pub closed : List Frame → Frame → Option State
closed [] f = None
closed (g ∷ outer) f = Some (Held outer g (whole f))

-- a byte before a base
abbrev pub feed_ready : List Frame → Frame → ℕ → Kind → Option State
feed_ready outer f b kind.Bar = Some (Ready outer (barred f))
feed_ready outer f b kind.LeftParenthesis = opened outer f
feed_ready outer f b kind.RightParenthesis = closed outer f
feed_ready outer f b kind.LeftBracket = Some (Bracket outer f false [] Open)
feed_ready outer f b kind.Backslash = Some (Escape outer f)
feed_ready outer f b kind.Stop = Some (Held outer f Dot)
feed_ready outer f b kind.Plain = Some (Held outer f (Byte b))
feed_ready outer f b kind.Caret = Some (Held outer f (Byte b))
feed_ready outer f b kind.Dash = Some (Held outer f (Byte b))
feed_ready outer f b k = None

-- a byte behind a base
abbrev pub feed_held : List Frame → Frame → Lexeme → ℕ → Kind → Option State
feed_held outer f p b kind.Star = Some (Ready outer (with_piece f (Many p)))
feed_held outer f p b kind.Plus = Some (Ready outer (with_piece f (Several p)))
feed_held outer f p b kind.Query = Some (Ready outer (with_piece f (Maybe p)))
feed_held outer f p b k = feed_ready outer (with_piece f p) b k

-- the least byte of a range may be the first
abbrev pub feed_start : List Frame → Frame → Bool → List (ℕ × ℕ) → ℕ → Kind → Option State
feed_start outer f negated rs b kind.Backslash = Some (Bracket outer f negated rs StartEscape)
feed_start outer f negated rs b kind.Plain = Some (Bracket outer f negated rs (Low b))
feed_start outer f negated rs b k = None

-- brackets that end here or go on with a range
abbrev pub feed_next : List Frame → Frame → Bool → List (ℕ × ℕ) → ℕ → Kind → Option State
feed_next outer f negated rs b kind.RightBracket = Some (Held outer f (Class negated rs))
feed_next outer f negated rs b k = feed_start outer f negated rs b k

-- the greatest byte that may stand after a backslash
abbrev pub greatest_special : ℕ
greatest_special = 124

-- a byte that may end a range from a low byte on
abbrev pub feed_end : List Frame → Frame → Bool → List (ℕ × ℕ) → ℕ → ℕ → Bool → Option State
feed_end outer f negated rs low b good = if good && nat_le low b then Some
    (Bracket outer f negated (rs ++ (low, b) ∷ []) Done) else None

abbrev pub feed_inside : List Frame → Frame → Bool → List (ℕ × ℕ) → Inside → ℕ → Kind → Option State
feed_inside outer f negated rs Open b kind.Caret = Some (Bracket outer f true rs Start)
feed_inside outer f negated rs Open b k = feed_start outer f negated rs b k
feed_inside outer f negated rs Start b k = feed_start outer f negated rs b k
feed_inside outer f negated rs (Low low) b kind.Dash = Some (Bracket outer f negated rs (Dash low))
feed_inside outer f negated rs (Low low) b k = feed_next outer f negated (rs ++ (low, low) ∷ []) b k
feed_inside outer f negated rs Done b k = feed_next outer f negated rs b k
feed_inside outer f negated rs (Dash low) b kind.Backslash =
    if nat_le low greatest_special then Some (Bracket outer f negated rs (EndEscape low)) else None
feed_inside outer f negated rs (Dash low) b k = feed_end outer f negated rs low b (is_plain_inside k)
feed_inside outer f negated rs StartEscape b k = if is_special k then Some
    (Bracket outer f negated rs (Low b)) else None
feed_inside outer f negated rs (EndEscape low) b k = feed_end outer f negated rs low b (is_special k)

abbrev pub feed_kind : State → ℕ → Kind → Option State
feed_kind (Ready outer f) b k = feed_ready outer f b k
feed_kind (Held outer f p) b k = feed_held outer f p b k
feed_kind (Escape outer f) b k = if is_special k then Some (Held outer f (Byte b)) else None
feed_kind (Bracket outer f negated rs m) b k = feed_inside outer f negated rs m b k

-- where the reading stands after one more byte, which may be refused
abbrev pub feed : State → ℕ → Option State
feed σ b = feed_kind σ b (kind_of b)

-- the pattern, where the text may end
abbrev pub ended : State → Option Lexeme
ended (Ready [] f) = Some (whole f)
ended (Held [] f p) = Some (whole (with_piece f p))
ended σ = None
