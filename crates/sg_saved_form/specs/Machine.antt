-- The reading of a saved file byte by byte.
use Rattle.std.specs.Prelude.{ℕ, ◌+◌, ◌*◌, ◌-◌, ℤ, pos, negsuc, Bool, true, false, ◌&&◌, ◌==◌, nat_lt, if◌then◌else◌, List, [], ◌∷◌, ◌++◌, length, take, slice_index, Option, Some, None, is_some, option_and_then}
use Rattle.std.specs.Fmt.{signed_decimal}
use Rattle.sg_kinds.specs.Values.{Bytes, is_number}
use Rattle.sg_text.specs.Bytes.{double_quote, backslash, is_escape}
use Rattle.sg_text.specs.Strings.{escape_value}
use Rattle.sg_text.specs.Words.{keyword_of}
use Rattle.sg_text.specs.declared.words.Keyword.{Keyword}
use Rattle.sg_text.specs.declared.words.Keyword.TheVariants.{True, False}
use Rattle.sg_saved_form.specs.declared.kinds.Kind.{Kind}
use Rattle.sg_saved_form.specs.declared.kinds.Kind.TheVariants as kind
use Rattle.sg_saved_form.specs.Files.{Raw, Branch, Whole, Quote, Flag, raws_of, escaped, spelled, frame, file_of, left_parenthesis, comma, dash}
use Rattle.sg_saved_form.specs.Kinds.{kind_of}

-- a node that is open: its name, and its children so far
pub record Open : Type 0 where
  pub name : Bytes
  pub kids : List Raw

-- where the reading stands, with the nodes that are open, the innermost first: behind so many bytes of the frame;
-- before a term; in a name, with its bytes so far; behind a dash; in a number other than 0, with its value so far; in a
-- text, with what it stands for so far; behind a backslash in it; behind a term; behind the last newline
pub data State : Type 0 where
  Frame : ℕ → State
  Before : List Open → State
  Name : List Open → Bytes → State
  Minus : List Open → State
  Digits : List Open → ℤ → State
  Text : List Open → Bytes → State
  Escape : List Open → Bytes → State
  After : List Open → Raw → State
  End : Raw → State

-- a node that ends, and a node with one more child
abbrev pub closed : Open → Raw
closed o = Branch o.name (raws_of o.kids)

abbrev pub with_kid : Open → Raw → Open
with_kid o r = record { name = o.name; kids = o.kids ++ r ∷ [] }

-- a byte of the frame
abbrev pub framed : ℕ → State
framed k = if k == 5 then Before [] else Frame k

abbrev pub feed_frame : ℕ → ℕ → Option State
feed_frame k b = if nat_lt k 5 && b == slice_index frame k then Some (framed (k + 1)) else None

-- a parenthesis ends the innermost node, which has no children
abbrev pub close_empty : List Open → Option State
close_empty [] = None
close_empty (o ∷ os) = if length o.kids == 0 then Some (After os (closed o)) else None

-- a byte before a term
abbrev pub feed_before : List Open → ℕ → Kind → Option State
feed_before os b kind.Letter = Some (Name os (b ∷ []))
feed_before os b kind.Zero = Some (After os (Whole (pos 0)))
feed_before os b kind.Digit = Some (Digits os (pos (b - 48)))
feed_before os b kind.Dash = Some (Minus os)
feed_before os b kind.DoubleQuote = Some (Text os [])
feed_before os b kind.RightParenthesis = close_empty os
feed_before os b k = None

-- a byte behind a term
abbrev pub feed_after : List Open → Raw → Kind → Option State
feed_after [] r kind.Newline = Some (End r)
feed_after (o ∷ os) r kind.Comma = Some (Before (with_kid o r ∷ os))
feed_after (o ∷ os) r kind.RightParenthesis = Some (After os (closed (with_kid o r)))
feed_after os r k = None

-- a name that stands alone is a truth value
abbrev pub flag_of : Option Keyword → Option Bool
flag_of (Some True) = Some true
flag_of (Some False) = Some false
flag_of o = None

abbrev pub feed_flag : List Open → Option Bool → Kind → Option State
feed_flag os f k = option_and_then (λ b. feed_after os (Flag b) k) f

-- a name goes on up to 64 bytes
abbrev pub longer_name : List Open → Bytes → ℕ → Option State
longer_name os bs b = if nat_lt (length bs) 64 then Some (Name os (bs ++ b ∷ [])) else None

-- a name that is not reserved opens a node
abbrev pub open_node : List Open → Bytes → Option State
open_node os bs = if is_some (keyword_of bs) then None else Some (Before (record { name = bs; kids = [] } ∷ os))

-- a byte behind a name
abbrev pub feed_name : List Open → Bytes → ℕ → Kind → Option State
feed_name os bs b kind.Letter = longer_name os bs b
feed_name os bs b kind.Zero = longer_name os bs b
feed_name os bs b kind.Digit = longer_name os bs b
feed_name os bs b kind.LeftParenthesis = open_node os bs
feed_name os bs b k = feed_flag os (flag_of (keyword_of bs)) k

-- a byte behind a dash
abbrev pub feed_minus : List Open → ℕ → Kind → Option State
feed_minus os b kind.Digit = Some (Digits os (negsuc (b - 49)))
feed_minus os b k = None

-- a number other than 0 with one more digit
abbrev pub with_digit : ℤ → ℕ → ℤ
with_digit (pos n) b = pos (n * 10 + (b - 48))
with_digit (negsuc n) b = negsuc (n * 10 + 9 + (b - 48))

abbrev pub longer_number : List Open → ℤ → Option State
longer_number os z = if is_number z then Some (Digits os z) else None

-- a byte behind a number
abbrev pub feed_digits : List Open → ℤ → ℕ → Kind → Option State
feed_digits os z b kind.Zero = longer_number os (with_digit z b)
feed_digits os z b kind.Digit = longer_number os (with_digit z b)
feed_digits os z b k = feed_after os (Whole z) k

-- a byte in a text
abbrev pub feed_text : List Open → Bytes → ℕ → Kind → Option State
feed_text os s b kind.DoubleQuote = Some (After os (Quote s))
feed_text os s b kind.Backslash = Some (Escape os s)
feed_text os s b kind.Newline = None
feed_text os s b kind.Other = None
feed_text os s b k = Some (Text os (s ++ b ∷ []))

-- a byte behind a backslash
abbrev pub feed_escape : List Open → Bytes → ℕ → Option State
feed_escape os s b = if is_escape b then Some (Text os (s ++ escape_value b ∷ [])) else None

abbrev pub feed_kind : State → ℕ → Kind → Option State
feed_kind (Frame n) b k = feed_frame n b
feed_kind (Before os) b k = feed_before os b k
feed_kind (Name os bs) b k = feed_name os bs b k
feed_kind (Minus os) b k = feed_minus os b k
feed_kind (Digits os z) b k = feed_digits os z b k
feed_kind (Text os s) b k = feed_text os s b k
feed_kind (Escape os s) b k = feed_escape os s b
feed_kind (After os r) b k = feed_after os r k
feed_kind (End r) b k = None

-- the term, where the reading is at its end
abbrev pub ended : State → Option Raw
ended (End r) = Some r
ended σ = None

-- where the reading stands after one more byte, which may be refused
abbrev pub feed : State → ℕ → Option State
feed σ b = feed_kind σ b (kind_of b)

-- and after some bytes
abbrev pub run : State → Bytes → Option State
run σ [] = Some σ
run σ (b ∷ bs) = option_and_then (λ τ. run τ bs) (feed σ b)

-- children with a comma behind each
abbrev pub led : List Raw → Bytes
led [] = []
led (r ∷ rs) = spelled r ++ comma ∷ led rs

-- the bytes up to the innermost place
abbrev pub outer : List Open → Bytes
outer [] = frame
outer (o ∷ os) = outer os ++ (o.name ++ left_parenthesis ∷ led o.kids)

-- the bytes that have been read
abbrev pub text_of : State → Bytes
text_of (Frame k) = take k frame
text_of (Before os) = outer os
text_of (Name os bs) = outer os ++ bs
text_of (Minus os) = outer os ++ dash ∷ []
text_of (Digits os z) = outer os ++ signed_decimal z
text_of (Text os s) = outer os ++ double_quote ∷ escaped s
text_of (Escape os s) = outer os ++ double_quote ∷ (escaped s ++ backslash ∷ [])
text_of (After os r) = outer os ++ spelled r
text_of (End r) = file_of r
