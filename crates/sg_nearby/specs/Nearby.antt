-- The names of a text that are near to an unknown one, and known in its place, as they are told.
use Rattle.std.specs.Prelude.{ℕ, ◌+◌, ◌/◌, min, nat_lt, Bool, true, false, not, ◌&&◌, if◌then◌else◌, bytes_eq, List, [], ◌∷◌, ◌++◌, length, take, drop, filter, flat_map, fold, Result, Ok, Err, codes}
use Rattle.std.specs.List.{list_any}
use Rattle.sg_kinds.specs.Values.{Bytes}
use Rattle.sg_text.specs.Tokens.{tokens_of}
use Rattle.sg_text.specs.declared.tokens.Kind.{Kind}
use Rattle.sg_text.specs.declared.tokens.Kind.TheVariants.{Name}
use Rattle.sg_text.specs.declared.tokens.LexFault.{LexFault}
use Rattle.sg_text.specs.declared.tokens.Token.{Token}
use Rattle.sg_nearby.specs.Edits.{is_near}
use Rattle.sg_nearby.specs.Tries.{knows_text, renamed}

-- the bytes of a token
abbrev pub word : Bytes → Token → Bytes
word bytes t = drop t.from (take t.to bytes)

abbrev pub is_name : Kind → Bool
is_name Name = true
is_name k = false

-- a name that is near to another, and not yet found
abbrev pub is_new : Bytes → List Token → Bytes → Bool
is_new bytes found name = not (list_any (λ t. bytes_eq name (word bytes t)) found)

-- the same, while there are not so many yet
abbrev pub is_candidate : Bytes → Bytes → ℕ → List Token → Token → Bool
is_candidate bytes name most found t = nat_lt (length found) most
    && (is_name t.kind && (is_near name (word bytes t) && is_new bytes found (word bytes t)))

-- how many near names of a text of this size are tried: it is read anew for each, in all at most 1,048,576 bytes
abbrev pub tries : ℕ → ℕ
tries size = min 8 (1048576 / (size + 1))

abbrev pub with_near : Bytes → Bytes → ℕ → List Token → Token → List Token
with_near bytes name most found t = if is_candidate bytes name most found t then found ++ t ∷ [] else found

-- the first tokens of the first so many near names
abbrev pub near_tokens : Bytes → Bytes → ℕ → List Token → List Token
near_tokens bytes name most ts = fold (with_near bytes name most) [] ts

-- those with which in place of so many bytes the names up to a token have a meaning
abbrev pub fitting : Bytes → ℕ → ℕ → ℕ → List Token → List Token
fitting bytes at count number ts = filter (λ t. knows_text number (renamed bytes at count (word bytes t))) ts

abbrev pub quoted_text : Bytes → Bytes
quoted_text name = 96 ∷ name ++ 96 ∷ []

abbrev pub or_text : Bytes → Token → Bytes
or_text bytes t = codes " or " ++ quoted_text (word bytes t)

-- names as a choice, if there are any
abbrev pub choice_text : Bytes → List Token → Bytes
choice_text bytes [] = []
choice_text bytes (t ∷ ts) =
    codes "mend: write instead " ++ (quoted_text (word bytes t) ++ (flat_map (or_text bytes) ts ++ 10 ∷ []))

-- those of the first near names of a text that are known in place of this one
abbrev pub near_with : Bytes → ℕ → ℕ → Bytes → Result (List Token) LexFault → Bytes
near_with bytes at number name (Ok ts) =
    choice_text bytes (fitting bytes at (length name) number (near_tokens bytes name (tries (length bytes)) ts))
near_with bytes at number name (Err e) = []

abbrev pub near_text : Bytes → ℕ → ℕ → Bytes → Bytes
near_text bytes at number name = near_with bytes at number name (tokens_of bytes)
