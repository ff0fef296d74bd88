-- What becomes of a text that is typed in from an entry.
use Rattle.std.specs.Prelude.{◌≡◌, ℕ, ◌<◌, List, Option, Some, not, length, option_map, unwrap_or, slice_get, nat_eq, position, IsTrue}
use Rattle.sg_kinds.specs.Values.{Bytes, Value, Fault, is_text, is_text_byte}
use Rattle.sg_prec.specs.WellGrouped.{derives}
use Rattle.sg_kinds.specs.declared.marks.FaultKind.{FaultKind}
use Rattle.sg_kinds.specs.declared.spec.Entry.{Entry}
use Rattle.sg_kinds.specs.declared.spec.Spec.{Spec}
use Rattle.sg_patterns.specs.LexemesOf.{AreLexemesOf}
use Rattle.sg_patterns.specs.Scan.{Scanned, StopsAt}
use Rattle.sg_patterns.specs.declared.lexemes.Lexemes.{Lexemes}
use Rattle.sg_patterns.specs.declared.scanning.InToken.{InToken}
use Rattle.sg_input.specs.Pieces.{pieces_of}
use Rattle.sg_input.specs.Failing.{FailsAt}

-- the place of a phylum's entry
abbrev pub entry_at : Spec → ℕ → Option ℕ
entry_at spec p = position (λ (e : Entry). nat_eq e.phylum p) spec.entries

-- the nonterminal and the phylum of an entry
abbrev pub nonterminal_of : Spec → ℕ → ℕ
nonterminal_of spec entry = unwrap_or (option_map (λ (e : Entry). e.nonterminal) (slice_get spec.entries entry)) 0

abbrev pub phylum_at : Spec → ℕ → ℕ
phylum_at spec entry = unwrap_or (option_map (λ (e : Entry). e.phylum) (slice_get spec.entries entry)) 0

-- a byte that is not allowed, a place where no token stands, a token that cannot stand or a missing one, a fault, or
-- a value
pub data Entered : Type 0 where
  BadByte : ℕ → Entered
  NoToken : ℕ → Entered
  Stopped : ℕ → Entered
  Faulted : FaultKind → Entered
  Typed : Value → Entered

-- no byte but 10 and 32 to 126 is allowed
abbrev pub bad_byte : Bytes → Option ℕ
bad_byte text = position (λ b. not (is_text_byte b)) text

-- the place of token i in the text, or its length where i is their number
abbrev pub place_of : Bytes → List InToken → ℕ → ℕ
place_of text tokens i = unwrap_or (option_map (λ (x : InToken). x.from) (slice_get tokens i)) (length text)

-- the tokens of an allowed text
abbrev pub AreTokensOf : Spec → Bytes → List InToken → Type 0
AreTokensOf spec text tokens = IsTrue (is_text text) × (l : Lexemes) × AreLexemesOf spec l
    × Scanned l text (length text) tokens

-- the entry's nonterminal derives the tokens of the text with this result
abbrev pub Gives : Spec → ℕ → Bytes → Value → Type 0
Gives spec entry text v = (tokens : List InToken) × AreTokensOf spec text tokens
    × derives spec (nonterminal_of spec entry) (pieces_of spec text tokens) v

abbrev pub IsFault : Value → Type 0
IsFault v = (kind : FaultKind) × (v ≡ Fault kind)

abbrev pub IsEntered : Spec → ℕ → Bytes → Entered → Type 0
IsEntered spec entry text (BadByte k) = bad_byte text ≡ Some k
IsEntered spec entry text (NoToken k) = IsTrue (is_text text) × (l : Lexemes) × AreLexemesOf spec l × StopsAt l text k
IsEntered spec entry text (Stopped k) = (tokens : List InToken) × AreTokensOf spec text tokens
    × (i : ℕ) × FailsAt spec (nonterminal_of spec entry) (pieces_of spec text tokens) i
    × (k ≡ place_of text tokens i)
IsEntered spec entry text (Faulted kind) = Gives spec entry text (Fault kind)
IsEntered spec entry text (Typed v) = Gives spec entry text v × (IsFault v → ⊥)

-- from each entry each text becomes something
abbrev pub ReadsEachText : Spec → Type 0
ReadsEachText spec = (entry : ℕ) → entry < length spec.entries → (text : Bytes)
    → (a : Entered) × IsEntered spec entry text a
