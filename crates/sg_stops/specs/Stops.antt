-- Where the reading of a declaration stops, and what mends it there, as it is told.
use Rattle.std.specs.Prelude.{◌≡◌, ℕ, ◌+◌, ◌-◌, List, [], ◌∷◌, ◌++◌, length, take, drop, flat_map, slice_get, Option, Some, None, unwrap_or, Ok, codes}
use Rattle.std.specs.Option.{option_map}
use Rattle.sg_kinds.specs.Values.{Bytes}
use Rattle.sg_text.specs.declared.tokens.Token.{Token}
use Rattle.sg_text.specs.Cut.{declaration_len}
use Rattle.sg_text.specs.Tokens.{tokens_of}
use Rattle.sg_mends.specs.declared.piece.Piece.{Piece}
use Rattle.sg_mends.specs.declared.piece.Piece.TheVariants.{Sign, Word, Name, Number, Text, Literal}
use Rattle.sg_mends.specs.declared.changes.Mends.{Mends}
use Rattle.sg_mends.specs.declared.changes.Mends.TheVariants.{PutIn, TakeOut, Instead, Past, Untried}
use Rattle.sg_mends.specs.Pieces.{piece_bytes}
use Rattle.sg_mends.specs.Mends.{IsMends}
use Rattle.sg_place.specs.Shown.{shown_at}

-- the first declaration of tokens
unfoldable pub first_of : List Token → List Token
first_of ts = take (declaration_len 0 ts) ts

-- the byte behind the last token
unfoldable pub end_of : List Token → ℕ
end_of ts = unwrap_or (option_map (λ (t : Token). t.to) (slice_get ts (length ts - 1))) 0

-- where the k-th token begins, and behind it; behind the last for one that is not there
unfoldable pub from_of : List Token → ℕ → ℕ
from_of ts k = unwrap_or (option_map (λ (t : Token). t.from) (slice_get ts k)) (end_of ts)

unfoldable pub to_of : List Token → ℕ → ℕ
to_of ts k = unwrap_or (option_map (λ (t : Token). t.to) (slice_get ts k)) (end_of ts)

-- a piece in words
abbrev pub piece_word : Piece → Bytes
piece_word (Sign s) = 96 ∷ piece_bytes (Sign s) ++ 96 ∷ []
piece_word (Word k) = 96 ∷ piece_bytes (Word k) ++ 96 ∷ []
piece_word Name = codes "a name"
piece_word Number = codes "a number"
piece_word Text = codes "a string"
piece_word Literal = codes "a literal"

abbrev pub or_piece : Piece → Bytes
or_piece p = codes " or " ++ piece_word p

-- the first 8 pieces, as a choice
abbrev pub choice_text : List Piece → Bytes
choice_text [] = []
choice_text (p ∷ ps) = 32 ∷ piece_word p ++ flat_map or_piece (take 7 ps)

-- what goes on there, behind what says that nothing mends it
abbrev pub past_text : List Piece → Bytes
past_text [] = []
past_text (p ∷ ps) = codes "; here may stand" ++ choice_text (p ∷ ps)

-- what mends it, up to the pieces
abbrev pub mends_words : Mends → Bytes
mends_words (PutIn ps) = codes "mend: put in"
mends_words TakeOut = codes "mend: take this out"
mends_words (Instead ps) = codes "mend: write instead"
mends_words (Past ps) = codes "no one token mends it"
mends_words Untried = codes "no mend is tried in a declaration of over 65,536 bytes"

-- the pieces behind it
abbrev pub mends_pieces : Mends → Bytes
mends_pieces (PutIn ps) = choice_text ps
mends_pieces TakeOut = []
mends_pieces (Instead ps) = choice_text ps
mends_pieces (Past ps) = past_text ps
mends_pieces Untried = []

-- the line of the byte at which reading stops with a caret below it, and what mends it
abbrev pub stop_text : Bytes → ℕ → Mends → Bytes
stop_text bytes at mends =
    codes "reading stops here:" ++ (10 ∷ shown_at bytes at ++ (mends_words mends ++ (mends_pieces mends ++ 10 ∷ [])))

-- the text tells of the declaration that begins at a byte: reading stops behind so many of its tokens, and these mend it there
pub record TellsStop (bytes : Bytes) (at : ℕ) (text : Bytes) : Type 0 where
  pub tokens : List Token
  pub are : tokens_of (drop at bytes) ≡ Ok tokens
  pub stop : ℕ
  pub mends : Mends
  pub mended : let ts = first_of tokens in IsMends (take (end_of ts) (drop at bytes)) (from_of ts stop) (to_of ts stop) mends
  pub is : text ≡ stop_text bytes (at + from_of (first_of tokens) stop) mends

-- the same of the place of a declaration
abbrev pub TellsStopAt : Bytes → Option ℕ → Bytes → Type 0
TellsStopAt bytes None text = ⊥
TellsStopAt bytes (Some at) text = TellsStop bytes at text
