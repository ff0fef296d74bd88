-- The definitions on worked texts.
use Rattle.std.proofs.Common.{◌≡◌, true, [], ◌∷◌, ◌++◌, refl, map}
use Rattle.std.specs.Prelude.{codes, pos, Some, Ok, Err}
use Rattle.sg_text.specs.declared.tokens.Kind.TheVariants.{Name, Number, Text, Quoted, Symbol}
use Rattle.sg_text.specs.declared.tokens.LexFault.TheVariants.{Byte, Unclosed}
use Rattle.sg_text.specs.declared.symbols.Symbol.TheVariants.{ColonColon}
use Rattle.sg_text.specs.Forms.{is_name, longest_form, kind_of}
use Rattle.sg_text.specs.Symbols.{symbol_bytes, symbol_of, symbols}
use Rattle.sg_text.specs.Tokens.{tokens_of, form_at}

names : is_name (codes "a_1") ≡ true
names = refl

longest_is_longest : longest_form (codes ":::=") ≡ Some (Symbol ColonColon, 2)
unfolding longest_form kind_of
longest_is_longest = refl

each_symbol : map (λ s. symbol_of (symbol_bytes s)) symbols ≡ map Some symbols
each_symbol = refl

-- a comment and a name on the second line
commented : tokens_of (codes "/* x */ a1" ++ 10 ∷ codes "'b'") ≡ Ok (record { kind = Name; from = 8; to = 10; line = 1 } ∷ record { kind = Quoted; from = 11; to = 14; line = 2 } ∷ [])
unfolding form_at longest_form kind_of
commented = refl

slash_star_slash : tokens_of (codes "a /*/") ≡ Err (Unclosed 2)
unfolding form_at longest_form kind_of
slash_star_slash = refl

unknown_escape : tokens_of (codes "\"ab\\t\"") ≡ Err (Byte 3)
unfolding form_at longest_form kind_of
unknown_escape = refl

open_string : tokens_of (codes "\"ab\\\"" ++ 10 ∷ codes "\"") ≡ Err (Unclosed 0)
unfolding form_at longest_form kind_of
open_string = refl

known_escape : tokens_of (codes "\"a\\n\\\\\" 007") ≡ Ok (record { kind = Text; from = 0; to = 7; line = 1 } ∷ record { kind = Number (pos 7); from = 8; to = 11; line = 1 } ∷ [])
unfolding form_at longest_form kind_of
known_escape = refl
