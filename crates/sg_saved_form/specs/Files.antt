-- Saved files of any specification: a line `SGT1`, and a line with a term.
use Rattle.std.specs.Prelude.{◌≡◌, ℕ, ◌<◌, ◌≤◌, ℤ, Bool, true, false, ◌==◌, if◌then◌else◌, codes, List, [], ◌∷◌, ◌++◌, length, take, None, IsTrue, ⊤}
use Rattle.std.specs.Fmt.{signed_decimal}
use Rattle.sg_kinds.specs.Values.{Bytes, is_text, is_number}
use Rattle.sg_text.specs.Bytes.{newline, double_quote, backslash, letter_n}
use Rattle.sg_text.specs.Forms.{is_name}
use Rattle.sg_text.specs.Words.{keyword_of}

-- a term as a file has it: a node of a name over its children, a number, a text, or a truth value
mutual
  pub data Raw : Type 0 where
    Branch : Bytes → Raws → Raw
    Whole : ℤ → Raw
    Quote : Bytes → Raw
    Flag : Bool → Raw

  pub data Raws : Type 0 where
    NoRaw : Raws
    AndRaw : Raw → Raws → Raws

-- a list of them as a row
abbrev pub raws_of : List Raw → Raws
raws_of [] = NoRaw
raws_of (r ∷ rs) = AndRaw r (raws_of rs)

-- the codes of ( ) , -
abbrev pub left_parenthesis : ℕ
left_parenthesis = 40

abbrev pub right_parenthesis : ℕ
right_parenthesis = 41

abbrev pub comma : ℕ
comma = 44

abbrev pub dash : ℕ
dash = 45

-- a byte of a text as it stands between quotes: a quote, a backslash and a newline behind a backslash
abbrev pub escaped_byte : ℕ → Bytes
escaped_byte b =
    if b == double_quote then backslash ∷ double_quote ∷ []
    else (if b == backslash then backslash ∷ backslash ∷ []
    else (if b == newline then backslash ∷ letter_n ∷ [] else b ∷ []))

abbrev pub escaped : Bytes → Bytes
escaped [] = []
escaped (b ∷ bs) = escaped_byte b ++ escaped bs

-- the spelling of a term, without blanks; children have a comma between them
abbrev mutual
  pub spelled : Raw → Bytes
  spelled (Branch name rs) = name ++ left_parenthesis ∷ (spelled_all rs ++ right_parenthesis ∷ [])
  spelled (Whole z) = signed_decimal z
  spelled (Quote s) = double_quote ∷ (escaped s ++ double_quote ∷ [])
  spelled (Flag true) = codes "true"
  spelled (Flag false) = codes "false"

  pub spelled_all : Raws → Bytes
  spelled_all NoRaw = []
  spelled_all (AndRaw r rs) = spelled r ++ spelled_more rs

  pub spelled_more : Raws → Bytes
  spelled_more NoRaw = []
  spelled_more (AndRaw r rs) = comma ∷ (spelled r ++ spelled_more rs)

-- the first line, with its end
abbrev pub frame : Bytes
frame = codes "SGT1" ++ newline ∷ []

-- the file of a term
abbrev pub file_of : Raw → Bytes
file_of r = frame ++ (spelled r ++ newline ∷ [])

-- a name of at most 64 bytes that is not reserved
pub record IsOperatorName (name : Bytes) : Type 0 where
  pub named : IsTrue (is_name name)
  pub short : length name ≤ 64
  pub free : keyword_of name ≡ None

-- names that an operator may have, numbers of 64 bits, and texts of the bytes 10 and 32 to 126
abbrev mutual
  pub IsRaw : Raw → Type 0
  IsRaw (Branch name rs) = IsOperatorName name × AreRaw rs
  IsRaw (Whole z) = IsTrue (is_number z)
  IsRaw (Quote s) = IsTrue (is_text s)
  IsRaw (Flag b) = ⊤

  pub AreRaw : Raws → Type 0
  AreRaw NoRaw = ⊤
  AreRaw (AndRaw r rs) = IsRaw r × AreRaw rs

-- the bytes are a file
pub record IsFile (bytes : Bytes) : Type 0 where
  pub raw : Raw
  pub is : IsRaw raw
  pub same : bytes ≡ file_of raw

-- the bytes begin some file
pub record BeginsFile (bytes : Bytes) : Type 0 where
  pub more : Bytes
  pub file : IsFile (bytes ++ more)

-- the bytes are no file, and this is the length of their longest front that begins one
pub record IsNoFile (bytes : Bytes) (at : ℕ) : Type 0 where
  pub no_file : IsFile bytes → ⊥
  pub within : at ≤ length bytes
  pub begins : BeginsFile (take at bytes)
  pub longest : (n : ℕ) → at < n → n ≤ length bytes → BeginsFile (take n bytes) → ⊥
