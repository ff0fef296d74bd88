-- The changes of one token with which a text reads.
use Rattle.std.specs.Prelude.{◌≡◌, ◌<◌, ℕ, Bool, false, if◌then◌else◌, nat_lt, IsTrue, is_ok, List, [], ◌∷◌, ◌++◌, length, take, drop, filter, Result, Ok, Err}
use Rattle.sg_kinds.specs.Values.{Bytes}
use Rattle.sg_text.specs.declared.tokens.Token.{Token}
use Rattle.sg_text.specs.declared.tokens.LexFault.{LexFault}
use Rattle.sg_text.specs.Tokens.{tokens_of}
use Rattle.sg_ast.specs.Spells.{declarations}
use Rattle.sg_reader.specs.EachRead.{read_from}
use Rattle.sg_mends.specs.declared.piece.Piece.{Piece}
use Rattle.sg_mends.specs.declared.changes.Mends.{Mends}
use Rattle.sg_mends.specs.declared.changes.Mends.TheVariants.{PutIn, TakeOut, Instead, Past, Untried}
use Rattle.sg_mends.specs.Pieces.{piece_bytes, pieces}

abbrev pub reads_with : Bytes → Result (List Token) LexFault → Bool
reads_with text (Ok ts) = is_ok (read_from 0 (declarations text ts))
reads_with text (Err e) = false

-- the text is not too long, and each of its declarations has a reading
unfoldable pub reads : Bytes → Bool
reads text = if nat_lt 1048576 (length text) then false else reads_with text (tokens_of text)

-- the text with these bytes between two blanks, in place of those from one place to another
abbrev pub mended : Bytes → ℕ → ℕ → Bytes → Bytes
mended text from to bytes = take from text ++ (32 ∷ (bytes ++ 32 ∷ drop to text))

-- those of some pieces with which it reads there
abbrev pub fitting_of : Bytes → ℕ → ℕ → List Piece → List Piece
fitting_of text from to = filter (λ p. reads (mended text from to (piece_bytes p)))

-- those of all
abbrev pub fitting : Bytes → ℕ → ℕ → List Piece
fitting text from to = fitting_of text from to pieces

-- what mends a text whose reading stops at the token from one place to another: all pieces that may be put in before it;
-- if there are none, that it is taken out; else all that may stand instead; or nothing does. A long text is not tried
abbrev pub IsMends : Bytes → ℕ → ℕ → Mends → Type 0
IsMends text from to (PutIn ps) = (ps ≡ fitting text from from) × (0 < length ps)
IsMends text from to TakeOut = (fitting text from from ≡ []) × IsTrue (reads (mended text from to []))
IsMends text from to (Instead ps) =
    (fitting text from from ≡ []) × (reads (mended text from to []) ≡ false) × (ps ≡ fitting text from to) × (0 < length ps)
IsMends text from to (Past ps) =
    (fitting text from from ≡ []) × (reads (mended text from to []) ≡ false) × (fitting text from to ≡ [])
IsMends text from to Untried = 65536 < length text
