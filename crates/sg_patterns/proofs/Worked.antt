-- Patterns and longest matches on worked examples.
use Rattle.std.specs.Prelude.{◌≡◌, ℕ, zero, suc, ◌≤◌, refl, false, true, [], ◌∷◌}
use Rattle.std.proofs.Common.{arith}
use Rattle.sg_kinds.specs.Values.{Bytes}
use Rattle.sg_kinds.specs.Lexemes.{Lexeme, Byte, Class, Either, Many, Several}
use Rattle.sg_patterns.specs.Spelling.{IsPattern, IsNoPattern, itself, from_to, first, only, or, some, alone, once, starred, byte, none_of}
use Rattle.sg_patterns.specs.LongestMatch.{Literal, Pattern, MatchesAt, IsLongest}
use Rattle.sg_patterns.proofs.InText.{match-within}
use Rattle.sg_patterns.proofs.Runs.{stay}
use Rattle.sg_patterns.proofs.Spelt.{first_state}
use Rattle.sg_patterns.proofs.Forms.{refused-form}

-- a|b*
either : IsPattern 64 (Either (Byte 97) (Many (Byte 98))) (97 ∷ 124 ∷ 98 ∷ 42 ∷ [])
either =
    or 64 (Byte 97) (Many (Byte 98)) (97 ∷ []) (98 ∷ 42 ∷ []) (97 ∷ 124 ∷ 98 ∷ 42 ∷ [])
    (only 64 (Byte 97) (97 ∷ []) (some 64 (Byte 97) (97 ∷ []) (alone 64 (Byte 97) (97 ∷ []) (once 64 (Byte 97) (97 ∷ []) (byte 64 97 refl)))))
    (some 64 (Many (Byte 98)) (98 ∷ 42 ∷ []) (alone 64 (Many (Byte 98)) (98 ∷ 42 ∷ []) (starred 64 (Byte 98) (98 ∷ []) (98 ∷ 42 ∷ []) (byte 64 98 refl) refl)))
    refl

-- [^a-z]
outside : IsPattern 64 (Class true ((97, 122) ∷ [])) (91 ∷ 94 ∷ 97 ∷ 45 ∷ 122 ∷ 93 ∷ [])
outside =
    let p = Class true ((97, 122) ∷ []) in
    let text : Bytes = 91 ∷ 94 ∷ 97 ∷ 45 ∷ 122 ∷ 93 ∷ [] in
    only 64 p text (some 64 p text (alone 64 p text (once 64 p text
    (none_of 64 ((97, 122) ∷ []) (97 ∷ 45 ∷ 122 ∷ []) text (first (97, 122) (97 ∷ 45 ∷ 122 ∷ []) (from_to 97 122 (97 ∷ []) (122 ∷ []) (97 ∷ 45 ∷ 122 ∷ []) (itself 97 refl) (itself 122 refl) (omega arith) refl)) refl))))

-- * begins no pattern
star_first : IsNoPattern (42 ∷ []) 0
star_first = refused-form (42 ∷ []) 0 first_state (omega arith) (stay first_state) refl

-- the literal if before a name of its bytes
names : Lexeme
names = Several (Class false ((97, 122) ∷ []))

keyword : IsLongest (Literal (105 ∷ 102 ∷ []) ∷ Pattern names ∷ []) (105 ∷ 102 ∷ []) 0 0 2
keyword = record {
  some = omega arith;
  found = (refl, refl);
  longest = λ m n h. at_most m n h n refl;
  first = λ m h. omega arith;
}
  where
    at_most : (m n : ℕ) → MatchesAt (Literal (105 ∷ 102 ∷ []) ∷ Pattern names ∷ []) (105 ∷ 102 ∷ []) 0 m n → (k : ℕ) → n ≡ k → n ≤ 2
    at_most m n h zero is = omega arith
    at_most m n h (suc k) is = omega (arith, match-within (Literal (105 ∷ 102 ∷ []) ∷ Pattern names ∷ []) (105 ∷ 102 ∷ []) 0 m n h (omega arith))
