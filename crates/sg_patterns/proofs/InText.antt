-- A match of some bytes ends in the text.
use Rattle.std.proofs.Common.{ℕ, zero, suc, ◌+◌, ◌<◌, ◌≤◌, List, [], ◌∷◌, length, map, drop, ap, arith, inl, inr, length-append, length-drop}
use Rattle.std.proofs.lemmas.List.{length-map, length-take}
use Rattle.sg_kinds.specs.Values.{Bytes}
use Rattle.sg_patterns.specs.declared.lexemes.Lexemes.{Lexemes}
use Rattle.sg_patterns.specs.LongestMatch.{Terminal, Literal, Pattern, TerminalFrom, MatchesAt, IsLongest}
use Rattle.sg_patterns.specs.Scan.{terminals_of}
use Rattle.sg_patterns.proofs.Matching.{matches-within}
use Rattle.sg_patterns.proofs.Answering.{matches-there}

terminal-within : (t : Terminal) (text : Bytes) (at n : ℕ) → TerminalFrom t text at (at + n) → 0 < n → at + n ≤ length text
terminal-within (Literal s) text at n h some =
    omega (arith, h.0, ap length h.1, length-take (length s) (drop at text), length-drop at text)
terminal-within (Pattern p) text at n h some =
    elim (matches-within p text at (at + n) h) [ inl same ↦ absurd (omega arith) | inr within ↦ within ]

pub match-within : (ts : List Terminal) (text : Bytes) (at m n : ℕ) → MatchesAt ts text at m n → 0 < n → at + n ≤ length text
match-within [] text at m n h some = absurd h
match-within (t ∷ ts) text at zero n h some = terminal-within t text at n h some
match-within (t ∷ ts) text at (suc m) n h some = match-within ts text at m n h some

-- the longest match ends in the text, and its terminal is there
pub longest-within : (l : Lexemes) (text : Bytes) (at n len : ℕ) → IsLongest (terminals_of l) text at n len → (at + len ≤ length text) × (n < length l.literals + length l.patterns)
longest-within l text at n len h = (
  match-within (terminals_of l) text at n len h.found h.some,
  omega (arith, matches-there text at (terminals_of l) n len h.found, length-append (map Literal l.literals) (map Pattern l.patterns), length-map l.literals Literal, length-map l.patterns Pattern),
)
